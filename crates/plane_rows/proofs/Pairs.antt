-- Positions of a row whose bits come in pairs.
use Rattle.std.proofs.Common.{◌≡◌, ◌≤◌, ◌<◌, ℕ, ◌+◌, ◌-◌, ◌*◌, ◌/◌, ◌%◌, ◌^◌, Bool, true, false, not, ◌&&◌, nat_eq, nat_le}
use Rattle.std.proofs.Common.{List, length, slice_index, refl, sym, ◌∙◌, ap, arith}
use Rattle.std.specs.Bool.{if◌then◌else◌}
use Rattle.std.proofs.Math.ListN.{get_or-eq_default}
use Rattle.std.proofs.lemmas.Bool.Decides.{nat_tests}
use Rattle.plane_rows.specs.declared.line.Line.{Line}
use Rattle.plane_rows.specs.Line.{row_bits, ArePaired}
use Rattle.plane_rows.specs.Row.{laid, IsPaired}
use Rattle.plane_rows.specs.code.Words.{spread_bits}
use Rattle.plane_rows.proofs.Loading.{spread_at}

-- bytes of which nothing is known
pub none_paired : (row : List ℕ) → false ≡ true → IsPaired row
none_paired row is column = cc

-- words in low resolution are spread in pairs
pub spread_paired : (bytes : List ℕ) (hires : Bool) (a b c : ℕ) → bytes ≡ spread_bits hires a b c → not hires ≡ true → IsPaired bytes
spread_paired bytes true a b c is low column = cc
spread_paired bytes false a b c is low column =
    let half : 2 * column / 2 ≡ (2 * column + 1) / 2 = omega arith in
    ap (λ (l : List ℕ). slice_index l (2 * column)) is
    ∙ spread_at false a b c (2 * column)
    ∙ ap (λ (n : ℕ). (if nat_le n 15 then a / 2 ^ (15 - n) % 2 else 0) + 4 * (if nat_le n 15 then b / 2 ^ (15 - n) % 2 else 0)
    + 16 * (if nat_le n 15 then c / 2 ^ (15 - n) % 2 else 0)) half
    ∙ sym (spread_at false a b c (2 * column + 1))
    ∙ sym (ap (λ (l : List ℕ). slice_index l (2 * column + 1)) is)

-- they stay so, laid over others from an even position on
pair_by : (row now bytes : List ℕ) (start column : ℕ) → start % 2 ≡ 0 → IsPaired row → IsPaired bytes
    → ((x : ℕ) → slice_index now x ≡ laid row start bytes x) → (b : Bool) → nat_le start (2 * column) ≡ b
    → slice_index now (2 * column) ≡ slice_index now (2 * column + 1)
pair_by row now bytes start column even old new over true is =
    let from : start ≤ 2 * column = grind (arith, nat_tests) in
    let first : 2 * column - start ≡ 2 * (column - start / 2) = omega (arith, even, from) in
    let second : 2 * column + 1 - start ≡ 2 * (column - start / 2) + 1 = omega (arith, even, from) in
    let here : laid row start bytes (2 * column) ≡ slice_index bytes (2 * column - start) = grind (arith, nat_tests) in
    let next : laid row start bytes (2 * column + 1) ≡ slice_index bytes (2 * column + 1 - start) = grind (arith, nat_tests) in
    over (2 * column) ∙ here ∙ ap (slice_index bytes) first ∙ new (column - start / 2)
    ∙ sym (ap (slice_index bytes) second) ∙ sym next ∙ sym (over (2 * column + 1))
pair_by row now bytes start column even old new over false is =
    let before : 2 * column < start = grind (arith, nat_tests) in
    let after : 2 * column + 1 < start = omega (arith, even, before) in
    let here : laid row start bytes (2 * column) ≡ slice_index row (2 * column) = grind (arith, nat_tests) in
    let next : laid row start bytes (2 * column + 1) ≡ slice_index row (2 * column + 1) = grind (arith, nat_tests) in
    over (2 * column) ∙ here ∙ old column ∙ sym next ∙ sym (over (2 * column + 1))

pub laid_paired : (row now bytes : List ℕ) (start : ℕ) (a b : Bool) → start % 2 ≡ 0 → (a ≡ true → IsPaired row) → (b ≡ true → IsPaired bytes)
    → ((x : ℕ) → slice_index now x ≡ laid row start bytes x) → (a && b) ≡ true → IsPaired now
laid_paired row now bytes start true true even old new over both column =
    pair_by row now bytes start column even (old refl) (new refl) over (nat_le start (2 * column)) refl
laid_paired row now bytes start true false even old new over both column = cc
laid_paired row now bytes start false b even old new over both column = cc

-- behind the bytes nothing is shown
pub laid_blank : (row now bytes : List ℕ) (start x : ℕ) → length bytes ≡ 32 → slice_index now x ≡ laid row start bytes x
    → start + 32 ≤ x → slice_index now x ≡ 0
laid_blank row now bytes start x long over behind =
    let from : start ≤ x = omega (arith, behind) in
    let past : slice_index bytes (x - start) ≡ 0 = get_or-eq_default bytes 0 (omega (arith, long, behind)) in
    let shown : laid row start bytes x ≡ slice_index bytes (x - start) = grind (arith, nat_tests) in
    over ∙ shown ∙ past

-- the two rows of a line
pair_of_rows : (line : Line) (x : ℕ) → IsPaired line.odd.shown → IsPaired line.even.shown → x % 2 ≡ 0 → ArePaired line x
pair_of_rows line x odd even from column =
    let k : ℕ = x / 2 + column in
    let first : x + 2 * column ≡ 2 * (x / 2 + column) = omega (arith, from) in
    let second : x + 2 * column + 1 ≡ 2 * (x / 2 + column) + 1 = omega (arith, from) in
    ap (λ (n : ℕ). row_bits line n) first
    ∙ ap (λ (n : ℕ). n + 2 * slice_index line.even.shown (2 * k)) (odd k)
    ∙ ap (λ (n : ℕ). slice_index line.odd.shown (2 * k + 1) + 2 * n) (even k)
    ∙ sym (ap (λ (n : ℕ). row_bits line n) second)

pub line_paired : (line : Line) (x : ℕ) (t a b : Bool) → nat_eq (x % 2) 0 ≡ t → (a ≡ true → IsPaired line.odd.shown)
    → (b ≡ true → IsPaired line.even.shown) → ((t && a) && b) ≡ true → ArePaired line x
line_paired line x true true true is odd even all column =
    let from : x % 2 ≡ 0 = grind (arith, nat_tests) in
    pair_of_rows line x (odd refl) (even refl) from column
line_paired line x true true false is odd even all column = cc
line_paired line x true false b is odd even all column = cc
line_paired line x false a b is odd even all column = cc
