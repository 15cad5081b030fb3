-- The values of sprites by their kept starts.
use Rattle.std.proofs.Common.{◌≡◌, ◌≢◌, ℕ, ◌+◌, ◌-◌, ◌*◌, ◌/◌, ◌%◌, ◌^◌, ◌<◌, ◌≤◌, Bool, true, false, nat_lt, nat_le, List}
use Rattle.std.proofs.Common.{[], ◌∷◌, Option, None, Some, length, slice_index, replicate, refl, sym, ◌∙◌, ap, arith}
use Rattle.std.specs.Prelude.{slice_index_or}
use Rattle.std.specs.Bool.{if◌then◌else◌}
use Rattle.std.specs.Option.{option_map, unwrap_or, option_to_list}
use Rattle.std.proofs.Math.ListN.{set, get_or-eq_default}
use Rattle.std.proofs.lemmas.List.{get_or-replicate, length-replicate, get_or-set_same, get_or-set_other}
use Rattle.std.proofs.lemmas.Bool.Decides.{nat_tests}
use Rattle.sprites.specs.declared.runs.Start.{Start}
use Rattle.sprites.specs.SpriteValue.{running_at, value_of, sprite_value}
use Rattle.sprite_rows.specs.LineValues.{value_at, SpriteStartsBy}
use Rattle.sprite_rows.specs.WordValues.{word_values}
use Rattle.sprite_rows.proofs.Spreading.{word_values-at}

-- a value is one of two bits
if-le : (b : Bool) (n m : ℕ) → (if b then n % 2 + 2 * (m % 2) else 0) ≤ 3
if-le true n m = omega arith
if-le false n m = omega arith

option-le : (x : ℕ) (o : Option Start) → unwrap_or (option_map (value_of x) o) 0 ≤ 3
option-le x None = omega arith
option-le x (Some start) =
    if-le (nat_le (x - start.x) 15) (start.word_a / 2 ^ (15 - (x - start.x))) (start.word_b / 2 ^ (15 - (x - start.x)))

pub sprite_value-le : (x : ℕ) (starts : List Start) → sprite_value x starts ≤ 3
unfolding sprite_value
sprite_value-le x starts = option-le x (running_at x starts)

abbrev pub no_start : Option Start
no_start = None

-- where nothing runs the value is 0
pub sprite_value-none : (x : ℕ) → sprite_value x [] ≡ 0
unfolding sprite_value
sprite_value-none x = refl

none_by : (n k : ℕ) (b : Bool) → nat_lt k n ≡ b → slice_index_or (replicate n no_start) k None ≡ None
none_by n k true is =
    let within : k < n = grind (arith, nat_tests) in
    get_or-replicate n k no_start None within
none_by n k false is =
    let after : n ≤ k = grind (arith, nat_tests) in
    get_or-eq_default (replicate n no_start) None (omega (arith, length-replicate {A = Option Start} n None))

pub kept-none : (k : ℕ) → slice_index_or (replicate 8 no_start) k None ≡ None
kept-none k = none_by 8 k (nat_lt k 8) refl

pub value_at-none : (x k : ℕ) → value_at x (replicate 8 None) k ≡ 0
value_at-none x k =
    ap (λ (o : Option Start). sprite_value x (option_to_list o)) (kept-none k) ∙ sprite_value-none x

-- a start that is not after a position has the value
pub sprite_value-one : (x : ℕ) (start : Start) → start.x ≤ x → sprite_value x (start ∷ []) ≡ value_of x start
unfolding sprite_value
sprite_value-one x start le =
    let come : nat_le start.x x ≡ true = grind (arith, nat_tests) in
    rw come refl

-- sixteen positions on the words have run out
past_by : (x y : ℕ) (o : Option Start) → ((start : Start) → o ≡ Some start → start.x ≤ x) → x + 16 ≤ y → sprite_value y (option_to_list o) ≡ 0
past_by x y None by after = sprite_value-none y
past_by x y (Some start) by after =
    let le : start.x ≤ x = by start refl in
    let out : nat_le (y - start.x) 15 ≡ false = grind (arith, nat_tests) in
    sprite_value-one y start (omega arith)
    ∙ ap (λ (t : Bool). if t then start.word_a / 2 ^ (15 - (y - start.x)) % 2 + 2 * (start.word_b / 2 ^ (15 - (y - start.x)) % 2) else 0) out

pub value_at-past : (x y : ℕ) (runs : List (Option Start)) (k : ℕ) → SpriteStartsBy k x runs → x + 16 ≤ y → value_at y runs k ≡ 0
value_at-past x y runs k by after = past_by x y (slice_index_or runs k None) by.started after

-- another sprite's start changes no value
pub value_at-other : (y : ℕ) (runs : List (Option Start)) (s k : ℕ) (o : Option Start) → k ≢ s → value_at y (set runs s o) k ≡ value_at y runs k
value_at-other y runs s k o other =
    ap (λ (kept : Option Start). sprite_value y (option_to_list kept)) (get_or-set_other runs s k o None other)

-- a sprite's new start has its words' values
pub value_at-new : (y : ℕ) (runs : List (Option Start)) (s : ℕ) (start : Start) → s < length runs → start.x ≤ y →
    value_at y (set runs s (Some start)) s ≡ value_of y start
value_at-new y runs s start within le =
    ap (λ (kept : Option Start). sprite_value y (option_to_list kept)) (get_or-set_same runs s (Some start) None within)
    ∙ sprite_value-one y start le

pub value_of-within : (y : ℕ) (start : Start) → start.x ≤ y → y < start.x + 16 →
    value_of y start ≡ slice_index (word_values start.word_a start.word_b) (y - start.x)
value_of-within y start le lt =
    let within : nat_le (y - start.x) 15 ≡ true = grind (arith, nat_tests) in
    let place : y - start.x < 16 = omega arith in
    ap (λ (t : Bool). if t then start.word_a / 2 ^ (15 - (y - start.x)) % 2 + 2 * (start.word_b / 2 ^ (15 - (y - start.x)) % 2) else 0) within
    ∙ sym (word_values-at start.word_a start.word_b (y - start.x) place)

pub value_of-past : (y : ℕ) (start : Start) → start.x + 16 ≤ y → value_of y start ≡ 0
value_of-past y start after =
    let out : nat_le (y - start.x) 15 ≡ false = grind (arith, nat_tests) in
    ap (λ (t : Bool). if t then start.word_a / 2 ^ (15 - (y - start.x)) % 2 + 2 * (start.word_b / 2 ^ (15 - (y - start.x)) % 2) else 0) out
