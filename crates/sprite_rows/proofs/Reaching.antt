-- The most that a pixel may collide, by the bytes of the pairs.
use Rattle.std.proofs.Common.{◌≡◌, ℕ, ◌+◌, ◌*◌, ◌%◌, ◌^◌, ◌≤◌, ◌<◌, Bool, true, false, not, ◌&&◌, ◌||◌, bit_or}
use Rattle.std.proofs.Common.{nat_eq, nat_lt, List, [], ◌∷◌, slice_index, refl, sym, ◌∙◌, ap, arith, Option}
use Rattle.std.specs.Bool.{if◌then◌else◌}
use mir.Val.{bool_byte}
use Rattle.std.proofs.lemmas.Bool.Decides.{nat_tests}
use Rattle.std.proofs.lemmas.Nat.{or_block}
use Rattle.sprites.specs.declared.runs.Start.{Start}
use Rattle.collisions.specs.Collision.{bit, playfield_matches, is_present, number_of, collisions_among, collision_bits}
use Rattle.sprite_rows.specs.declared.rows.SpriteRows.{SpriteRows}
use Rattle.sprite_rows.specs.Laid.{byte_of}
use Rattle.sprite_rows.specs.LineValues.{values_at, IsRowsOf}
use Rattle.sprite_rows.specs.PairCollision.{most_collisions}
use Rattle.sprite_rows.proofs.Meeting.{present_by_byte}
use Rattle.sprite_rows.proofs.Standing.{values_at-le}

-- the table by the pairs that show
abbrev pub reaches : List ℕ
reaches =
    1 ∷ 35 ∷ 69 ∷ 615 ∷ 137 ∷ 1195 ∷ 4301 ∷ 5871 ∷ 273 ∷ 2355 ∷ 8533 ∷ 11127 ∷ 16793 ∷ 19899 ∷ 29149 ∷ 32767 ∷ []

pub reach_entry : (a b c d : Bool) →
    slice_index reaches (bool_byte a + 2 * bool_byte b + 4 * bool_byte c + 8 * bool_byte d) ≡ number_of (collisions_among true true a b c d)
reach_entry true true true true = refl
reach_entry true true true false = refl
reach_entry true true false true = refl
reach_entry true true false false = refl
reach_entry true false true true = refl
reach_entry true false true false = refl
reach_entry true false false true = refl
reach_entry true false false false = refl
reach_entry false true true true = refl
reach_entry false true true false = refl
reach_entry false true false true = refl
reach_entry false true false false = refl
reach_entry false false true true = refl
reach_entry false false true false = refl
reach_entry false false false true = refl
reach_entry false false false false = refl

-- numbers of bits, bit by bit
bit_of_both : (a b : Bool) → bit_or (if a then 1 else 0) (if b then 1 else 0) ≡ (if a || b then 1 else 0)
bit_of_both true true = refl
bit_of_both true false = refl
bit_of_both false true = refl
bit_of_both false false = refl

few : (a : Bool) → (if a then 1 else 0) < 2 ^ 1
few true = omega arith
few false = omega arith

turned : (r n : ℕ) → r + 2 * n ≡ n * 2 + r
turned r n = omega arith

bits_more : (a b : Bool) (n m both : ℕ) → bit_or n m ≡ both →
    bit_or ((if a then 1 else 0) + 2 * n) ((if b then 1 else 0) + 2 * m) ≡ (if a || b then 1 else 0) + 2 * both
bits_more a b n m both is =
    ap (λ (k : ℕ). bit_or k ((if b then 1 else 0) + 2 * m)) (turned (if a then 1 else 0) n)
    ∙ ap (bit_or (n * 2 + (if a then 1 else 0))) (turned (if b then 1 else 0) m)
    ∙ or_block 1 n m (if a then 1 else 0) (if b then 1 else 0) (few a) (few b)
    ∙ ap (λ (k : ℕ). k * 2 + bit_or (if a then 1 else 0) (if b then 1 else 0)) is
    ∙ ap (λ (k : ℕ). both * 2 + k) (bit_of_both a b)
    ∙ sym (turned (if a || b then 1 else 0) both)

-- a bit that is set already, or not wanted
kept_more : (a b : Bool) (n m : ℕ) → (a || b) ≡ a → bit_or n m ≡ n →
    bit_or ((if a then 1 else 0) + 2 * n) ((if b then 1 else 0) + 2 * m) ≡ (if a then 1 else 0) + 2 * n
kept_more a b n m same is = bits_more a b n m n is ∙ ap (λ (c : Bool). (if c then 1 else 0) + 2 * n) same

never : (a b : Bool) → false ≡ true → a ≡ b
never a b is = cc

and_none : (x : Bool) → (x && false) ≡ false
and_none true = refl
and_none false = refl

one_kept : (x a e : Bool) → (a ≡ true → e ≡ true) → (e || (x && a)) ≡ e
one_kept x a true within = refl
one_kept x false false within = and_none x
one_kept x true false within = never _ _ (within refl)

both_kept : (a b e f : Bool) → (a ≡ true → e ≡ true) → (b ≡ true → f ≡ true) → ((e && f) || (a && b)) ≡ (e && f)
both_kept a b true true first second = refl
both_kept a true true false first second = never _ _ (second refl)
both_kept a false true false first second = and_none a
both_kept true b false f first second = never _ _ (first refl)
both_kept false b false f first second = refl

none_kept : bit_or 0 0 ≡ 0
none_kept = refl

within_reach : (x y a b c d e f g h : Bool) → (a ≡ true → e ≡ true) → (b ≡ true → f ≡ true) → (c ≡ true → g ≡ true) → (d ≡ true → h ≡ true) →
    bit_or (number_of (collisions_among true true e f g h)) (number_of (collisions_among x y a b c d)) ≡ number_of (collisions_among true true e f g h)
within_reach x y a b c d e f g h one two three four =
    kept_more true (x && y) _ _ refl
    (kept_more e (x && a) _ _ (one_kept x a e one)
    (kept_more f (x && b) _ _ (one_kept x b f two)
    (kept_more g (x && c) _ _ (one_kept x c g three)
    (kept_more h (x && d) _ _ (one_kept x d h four)
    (kept_more e (y && a) _ _ (one_kept y a e one)
    (kept_more f (y && b) _ _ (one_kept y b f two)
    (kept_more g (y && c) _ _ (one_kept y c g three)
    (kept_more h (y && d) _ _ (one_kept y d h four)
    (kept_more (e && f) (a && b) _ _ (both_kept a b e f one two)
    (kept_more (e && g) (a && c) _ _ (both_kept a c e g one three)
    (kept_more (e && h) (a && d) _ _ (both_kept a d e h one four)
    (kept_more (f && g) (b && c) _ _ (both_kept b c f g two three)
    (kept_more (f && h) (b && d) _ _ (both_kept b d f h two four)
    (kept_more (g && h) (c && d) 0 0 (both_kept c d g h three four) none_kept))))))))))))))

-- a pair that is present shows
shows : (counts : Bool) (byte : ℕ) → not (nat_eq (if counts then byte else byte % 4) 0) ≡ true → not (nat_eq byte 0) ≡ true
shows true byte is = is
shows false byte is = grind (arith, nat_tests)

pair_shows : (con x pair : ℕ) (rows : SpriteRows) (runs : List (Option Start)) → IsRowsOf x rows runs → x < 512 → pair < 4 →
    byte_of rows.pairs pair x ≡ 4 * slice_index (values_at x runs) (2 * pair + 1) + slice_index (values_at x runs) (2 * pair) →
    is_present con (values_at x runs) pair ≡ true → not (nat_eq (byte_of rows.pairs pair x) 0) ≡ true
pair_shows con x pair rows runs are lt few is there =
    shows (nat_eq (bit (pair + 12) con) 1) (byte_of rows.pairs pair x)
    (present_by_byte con (values_at x runs) pair (byte_of rows.pairs pair x) (values_at-le x runs (2 * pair)) is ∙ there)

pub reach_at : (x : ℕ) (rows : SpriteRows) (runs : List (Option Start)) (con bits : ℕ) → IsRowsOf x rows runs → x < 512 →
    bit_or (most_collisions (byte_of rows.pairs 0 x) (byte_of rows.pairs 1 x) (byte_of rows.pairs 2 x) (byte_of rows.pairs 3 x))
    (collision_bits con bits (values_at x runs))
    ≡ most_collisions (byte_of rows.pairs 0 x) (byte_of rows.pairs 1 x) (byte_of rows.pairs 2 x) (byte_of rows.pairs 3 x)
unfolding collision_bits
reach_at x rows runs con bits are lt =
    within_reach (playfield_matches con bits 1) (playfield_matches con bits 2)
    (is_present con (values_at x runs) 0) (is_present con (values_at x runs) 1) (is_present con (values_at x runs) 2) (is_present con (values_at x runs) 3)
    _ _ _ _
    (pair_shows con x 0 rows runs are lt (omega arith) (are.bytes 0 x (omega arith) (omega arith) lt))
    (pair_shows con x 1 rows runs are lt (omega arith) (are.bytes 1 x (omega arith) (omega arith) lt))
    (pair_shows con x 2 rows runs are lt (omega arith) (are.bytes 2 x (omega arith) (omega arith) lt))
    (pair_shows con x 3 rows runs are lt (omega arith) (are.bytes 3 x (omega arith) (omega arith) lt))

-- a pair of which nothing is laid from a position on shows nothing there
pair_ahead : (con x y pair : ℕ) (rows : SpriteRows) (runs : List (Option Start)) → IsRowsOf y rows runs → x ≤ y → y < 512 → pair < 4 →
    byte_of rows.pairs pair y ≡ 4 * slice_index (values_at y runs) (2 * pair + 1) + slice_index (values_at y runs) (2 * pair) →
    is_present con (values_at y runs) pair ≡ true → (b : Bool) → nat_lt x (slice_index rows.ends pair) ≡ b → not (nat_eq (bool_byte b) 0) ≡ true
pair_ahead con x y pair rows runs are le lt few is there true ahead = refl
pair_ahead con x y pair rows runs are le lt few is there false ahead =
    let end : slice_index rows.ends pair ≤ x = grind (arith, nat_tests) in
    let none : byte_of rows.pairs pair y ≡ 0 = rows.ended pair y few (omega (arith, end, le)) in
    let shown : not (nat_eq (byte_of rows.pairs pair y) 0) ≡ true = pair_shows con y pair rows runs are lt few is there in
    sym (ap (λ (n : ℕ). not (nat_eq n 0)) none) ∙ shown

pub reach_ahead : (x y : ℕ) (rows : SpriteRows) (runs : List (Option Start)) (con bits : ℕ) → IsRowsOf y rows runs → x ≤ y → y < 512 →
    bit_or (most_collisions (bool_byte (nat_lt x (slice_index rows.ends 0))) (bool_byte (nat_lt x (slice_index rows.ends 1)))
    (bool_byte (nat_lt x (slice_index rows.ends 2))) (bool_byte (nat_lt x (slice_index rows.ends 3))))
    (collision_bits con bits (values_at y runs))
    ≡ most_collisions (bool_byte (nat_lt x (slice_index rows.ends 0))) (bool_byte (nat_lt x (slice_index rows.ends 1)))
    (bool_byte (nat_lt x (slice_index rows.ends 2))) (bool_byte (nat_lt x (slice_index rows.ends 3)))
unfolding collision_bits
reach_ahead x y rows runs con bits are le lt =
    within_reach (playfield_matches con bits 1) (playfield_matches con bits 2)
    (is_present con (values_at y runs) 0) (is_present con (values_at y runs) 1) (is_present con (values_at y runs) 2) (is_present con (values_at y runs) 3)
    _ _ _ _
    (λ there. pair_ahead con x y 0 rows runs are le lt (omega arith) (are.bytes 0 y (omega arith) (omega arith) lt) there _ refl)
    (λ there. pair_ahead con x y 1 rows runs are le lt (omega arith) (are.bytes 1 y (omega arith) (omega arith) lt) there _ refl)
    (λ there. pair_ahead con x y 2 rows runs are le lt (omega arith) (are.bytes 2 y (omega arith) (omega arith) lt) there _ refl)
    (λ there. pair_ahead con x y 3 rows runs are le lt (omega arith) (are.bytes 3 y (omega arith) (omega arith) lt) there _ refl)

-- all that any pixel may collide
pub all_within : (con bits : ℕ) (values : List ℕ) → bit_or 32767 (collision_bits con bits values) ≡ 32767
unfolding collision_bits
all_within con bits values =
    within_reach (playfield_matches con bits 1) (playfield_matches con bits 2)
    (is_present con values 0) (is_present con values 1) (is_present con values 2) (is_present con values 3) true true true true
    (λ there. refl) (λ there. refl) (λ there. refl) (λ there. refl)
