-- Rows that stand for the sprites' last starts.
use Rattle.std.proofs.Common.{◌≡◌, ◌≢◌, ℕ, zero, suc, ◌+◌, ◌-◌, ◌*◌, ◌/◌, ◌%◌, ◌<◌, ◌≤◌, Bool, true, false, nat_eq, nat_lt, List}
use Rattle.std.proofs.Common.{[], ◌∷◌, Option, None, Some, length, get_or, slice_index, replicate, refl, sym, ◌∙◌, ap, subst, arith}
use Rattle.std.specs.Prelude.{slice_index_or}
use Rattle.std.specs.Bool.{if◌then◌else◌}
use Rattle.std.proofs.Math.ListN.{set, get_or-eq_default, length-set}
use Rattle.std.proofs.lemmas.List.{get_or-replicate, length-replicate, get_or-set_same, get_or-set_other}
use Rattle.std.proofs.lemmas.Bool.Decides.{nat_tests}
use Rattle.sprites.specs.declared.runs.Start.{Start}
use Rattle.sprites.specs.SpriteValue.{value_of}
use Rattle.sprites.specs.SpriteFront.{front_pixel}
use Rattle.collisions.specs.Collision.{number_of}
use Rattle.sprite_rows.specs.declared.rows.SpriteRows.{SpriteRows}
use Rattle.sprite_rows.specs.Laid.{byte_of, with_value, laid_byte}
use Rattle.sprite_rows.specs.WordValues.{word_values}
use Rattle.sprite_rows.specs.PairFront.{pixel_of_byte, front_of_bytes}
use Rattle.sprite_rows.specs.PairCollision.{is_byte_present, present_pairs}
use Rattle.sprite_rows.specs.LineValues.{value_at, values_at, pair_byte, IsRowsOf, StartsBy, SpriteStartsBy}
use Rattle.sprite_rows.proofs.LaidBytes.{is_among}
use Rattle.sprite_rows.proofs.FrontByBytes.{front_by_bytes, alone_in_front}
use Rattle.sprite_rows.proofs.Meeting.{present_by_bytes}
use Rattle.sprite_rows.proofs.Values.{kept-none, sprite_value-le, value_at-none, value_at-past, value_at-other, value_at-new, value_of-within, value_of-past}

abbrev pub new_start : ℕ → ℕ → ℕ → Start
new_start x a b = record { x = x; word_a = a; word_b = b }

-- what holds from a position on holds from a later one on
pub IsRowsOf-later : (x y : ℕ) (rows : SpriteRows) (runs : List (Option Start)) → IsRowsOf x rows runs → x ≤ y → IsRowsOf y rows runs
IsRowsOf-later x y rows runs are le = record { bytes = λ (p z : ℕ) pair from within. are.bytes p z pair (omega arith) within }

pub StartsBy-later : (x y : ℕ) (runs : List (Option Start)) → StartsBy x runs → x ≤ y → StartsBy y runs
StartsBy-later x y runs by le = record { eight = by.eight; started = λ (k : ℕ) (start : Start) is. omega (arith, by.started k start is) }

pub StartsBy-sprite : (sprite x : ℕ) (runs : List (Option Start)) → StartsBy x runs → SpriteStartsBy sprite x runs
StartsBy-sprite sprite x runs by = record { eight = by.eight; started = by.started sprite }

-- at a line's start none has started
pub StartsBy-none : (x : ℕ) → StartsBy x (replicate 8 None)
StartsBy-none x = record {
  eight = refl;
  started = λ (k : ℕ) (start : Start) is. let none : None ≡ Some start = sym (kept-none k) ∙ is in cc;
}

-- a start at a position is not after it
started_there : (x s k a b : ℕ) (runs : List (Option Start)) (start : Start) → StartsBy x runs → s < 8 → (t : Bool) → nat_eq k s ≡ t →
    slice_index_or (set runs s (Some (new_start x a b))) k None ≡ Some start → start.x ≤ x
started_there x s k a b runs start by sprite true here is =
    let at : k ≡ s = grind (arith, nat_tests) in
    let within : s < length runs = omega (arith, by.eight) in
    let new : Some (new_start x a b) ≡ Some start =
    sym (get_or-set_same runs s (Some (new_start x a b)) None within)
    ∙ ap (λ (n : ℕ). get_or (set runs s (Some (new_start x a b))) n None) (sym at) ∙ is in
    let same : new_start x a b ≡ start = cc in
    let place : x ≡ start.x = ap (λ (o : Start). o.x) same in
    omega arith
started_there x s k a b runs start by sprite false here is =
    let other : k ≡ s → ⊥ = λ (e : k ≡ s). grind (arith, nat_tests) in
    by.started k start (sym (get_or-set_other runs s k (Some (new_start x a b)) None other) ∙ is)

pub StartsBy-started : (x s a b : ℕ) (runs : List (Option Start)) → StartsBy x runs → s < 8 → StartsBy x (set runs s (Some (new_start x a b)))
StartsBy-started x s a b runs by sprite = record {
  eight = length-set runs s (Some (new_start x a b)) ∙ by.eight;
  started = λ (k : ℕ) (start : Start) is. started_there x s k a b runs start by sprite (nat_eq k s) refl is;
}

-- the eight values are of two bits
pub values_at-le : (x : ℕ) (runs : List (Option Start)) (k : ℕ) → slice_index (values_at x runs) k ≤ 3
values_at-le x runs zero = sprite_value-le x _
values_at-le x runs (suc zero) = sprite_value-le x _
values_at-le x runs (suc (suc zero)) = sprite_value-le x _
values_at-le x runs (suc (suc (suc zero))) = sprite_value-le x _
values_at-le x runs (suc (suc (suc (suc zero)))) = sprite_value-le x _
values_at-le x runs (suc (suc (suc (suc (suc zero))))) = sprite_value-le x _
values_at-le x runs (suc (suc (suc (suc (suc (suc zero)))))) = sprite_value-le x _
values_at-le x runs (suc (suc (suc (suc (suc (suc (suc zero))))))) = sprite_value-le x _
values_at-le x runs (suc (suc (suc (suc (suc (suc (suc (suc k)))))))) = omega arith

-- the pixel in front and the pairs that are present by the bytes at a position
pub front_at : (x : ℕ) (rows : SpriteRows) (runs : List (Option Start)) (attached : ℕ) → IsRowsOf x rows runs → x < 512 →
    front_of_bytes (byte_of rows.pairs 0 x) (byte_of rows.pairs 1 x) (byte_of rows.pairs 2 x) (byte_of rows.pairs 3 x) attached
    ≡ front_pixel (values_at x runs) attached
front_at x rows runs attached are lt =
    front_by_bytes (values_at x runs) attached _ _ _ _ (values_at-le x runs)
    (are.bytes 0 x (omega arith) (omega arith) lt) (are.bytes 1 x (omega arith) (omega arith) lt)
    (are.bytes 2 x (omega arith) (omega arith) lt) (are.bytes 3 x (omega arith) (omega arith) lt)

-- where no pair shows but one
pub front_alone : (x : ℕ) (runs : List (Option Start)) (pair attached : ℕ) → pair ≤ 3 → ((q : ℕ) → q < 4 → q ≢ pair → pair_byte x runs q ≡ 0) →
    front_pixel (values_at x runs) attached ≡ pixel_of_byte pair (pair_byte x runs pair) attached
front_alone x runs pair attached few none =
    sym (alone_in_front (λ (q : ℕ). pair_byte x runs q) pair attached few none
    ∙ front_by_bytes (values_at x runs) attached _ _ _ _ (values_at-le x runs) refl refl refl refl)

pub present_at : (x : ℕ) (rows : SpriteRows) (runs : List (Option Start)) (con : ℕ) → IsRowsOf x rows runs → x < 512 →
    number_of (is_byte_present con 0 (byte_of rows.pairs 0 x) ∷ is_byte_present con 1 (byte_of rows.pairs 1 x)
    ∷ is_byte_present con 2 (byte_of rows.pairs 2 x) ∷ is_byte_present con 3 (byte_of rows.pairs 3 x) ∷ [])
    ≡ present_pairs con (values_at x runs)
present_at x rows runs con are lt =
    present_by_bytes con (values_at x runs) _ _ _ _ (values_at-le x runs)
    (are.bytes 0 x (omega arith) (omega arith) lt) (are.bytes 1 x (omega arith) (omega arith) lt)
    (are.bytes 2 x (omega arith) (omega arith) lt) (are.bytes 3 x (omega arith) (omega arith) lt)

-- rows of zeros
zeros_by : (n x : ℕ) (b : Bool) → nat_lt x n ≡ b → slice_index (replicate n 0) x ≡ 0
zeros_by n x true is =
    let within : x < n = grind (arith, nat_tests) in
    get_or-replicate n x 0 0 within
zeros_by n x false is =
    let after : n ≤ x = grind (arith, nat_tests) in
    get_or-eq_default (replicate n 0) 0 (omega (arith, length-replicate {A = ℕ} n 0))

abbrev pub no_pixels : List (List ℕ)
no_pixels = replicate 512 0 ∷ replicate 512 0 ∷ replicate 512 0 ∷ replicate 512 0 ∷ []

pub no_pixels-byte : (p x : ℕ) → byte_of no_pixels p x ≡ 0
no_pixels-byte zero x = zeros_by 512 x (nat_lt x 512) refl
no_pixels-byte (suc zero) x = zeros_by 512 x (nat_lt x 512) refl
no_pixels-byte (suc (suc zero)) x = zeros_by 512 x (nat_lt x 512) refl
no_pixels-byte (suc (suc (suc zero))) x = zeros_by 512 x (nat_lt x 512) refl
no_pixels-byte (suc (suc (suc (suc p)))) x = refl

-- a byte of 0 is that of a pair where nothing runs
pub none_run : (byte p x : ℕ) → byte ≡ 0 → byte ≡ pair_byte x (replicate 8 None) p
none_run byte p x is =
    omega (arith, value_at-none x (2 * p + 1), value_at-none x (2 * p))

-- a row is set, of a pair or of another one
pub byte-same : (pairs : List (List ℕ)) (p x : ℕ) (row : List ℕ) → p < length pairs → byte_of (set pairs p row) p x ≡ slice_index row x
byte-same pairs p x row lt = ap (λ (r : List ℕ). slice_index r x) (get_or-set_same pairs p row [] lt)

pub byte-other : (pairs : List (List ℕ)) (p q x : ℕ) (row : List ℕ) → q ≢ p → byte_of (set pairs p row) q x ≡ byte_of pairs q x
byte-other pairs p q x row other = ap (λ (r : List ℕ). slice_index r x) (get_or-set_other pairs p q row [] other)

-- a byte with the value of a sprite replaced, by the values of its two sprites
even_byte : (odd even value : ℕ) → even ≤ 3 → with_value true (4 * odd + even) value ≡ 4 * odd + value
even_byte odd even value small = omega arith

odd_byte : (odd even value : ℕ) → even ≤ 3 → with_value false (4 * odd + even) value ≡ 4 * value + even
odd_byte odd even value small = omega arith

-- what is laid at a position from the start on, by the new value there; past the words the byte has no value to lose
laid_by : (is_even : Bool) (row : List ℕ) (x : ℕ) (values : List ℕ) (y v : ℕ) → x ≤ y → (y < x + 16 → v ≡ slice_index values (y - x)) →
    (x + 16 ≤ y → with_value is_even (slice_index row y) v ≡ slice_index row y) → (t : Bool) → nat_lt y (x + 16) ≡ t →
    laid_byte (with_value is_even) row x values 16 y ≡ with_value is_even (slice_index row y) v
laid_by is_even row x values y v le within past true is =
    let lt : y < x + 16 = grind (arith, nat_tests) in
    let among : is_among x 16 y ≡ true = grind (arith, nat_tests) in
    ap (λ (t : Bool). if t then with_value is_even (slice_index row y) (slice_index values (y - x)) else slice_index row y) among
    ∙ ap (with_value is_even (slice_index row y)) (sym (within lt))
laid_by is_even row x values y v le within past false is =
    let after : x + 16 ≤ y = grind (arith, nat_tests) in
    let none : is_among x 16 y ≡ false = grind (arith, nat_tests) in
    ap (λ (t : Bool). if t then with_value is_even (slice_index row y) (slice_index values (y - x)) else slice_index row y) none
    ∙ sym (past after)

-- the pair of an even sprite that starts
even_pair : (pairs : List (List ℕ)) (runs : List (Option Start)) (row : List ℕ) (s x a b y : ℕ) → s < 8 → s % 2 ≡ 0 → length pairs ≡ 4 →
    SpriteStartsBy s x runs → byte_of pairs (s / 2) y ≡ pair_byte y runs (s / 2) → x ≤ y →
    slice_index row y ≡ laid_byte (with_value true) (slice_index_or pairs (s / 2) []) x (word_values a b) 16 y →
    byte_of (set pairs (s / 2) row) (s / 2) y ≡ pair_byte y (set runs s (Some (new_start x a b))) (s / 2)
even_pair pairs runs row s x a b y sprite even four by are le is =
    let place : 2 * (s / 2) ≡ s = omega arith in
    let pair : s / 2 < length pairs = omega arith in
    let within : s < length runs = omega (arith, by.eight) in
    let start : Start = new_start x a b in
    let o : ℕ = value_at y runs (2 * (s / 2) + 1) in
    let e : ℕ = value_at y runs s in
    let v : ℕ = value_of y (new_start x a b) in
    let byte : byte_of pairs (s / 2) y ≡ 4 * o + e = are ∙ ap (λ (k : ℕ). 4 * o + value_at y runs k) place in
    let new_even : value_at y (set runs s (Some (new_start x a b))) (2 * (s / 2)) ≡ v =
    ap (value_at y (set runs s (Some (new_start x a b)))) place ∙ value_at-new y runs s (new_start x a b) within le in
    let new_odd : value_at y (set runs s (Some (new_start x a b))) (2 * (s / 2) + 1) ≡ o =
    value_at-other y runs s (2 * (s / 2) + 1) (Some (new_start x a b)) (λ (same : 2 * (s / 2) + 1 ≡ s). omega arith) in
    byte-same pairs (s / 2) y row pair ∙ is
    ∙ laid_by true (slice_index_or pairs (s / 2) []) x (word_values a b) y v le (value_of-within y (new_start x a b) le)
    (λ (after : x + 16 ≤ y). even_past (byte_of pairs (s / 2) y) o e v byte (value_at-past x y runs s by after) (value_of-past y (new_start x a b) after))
    (nat_lt y (x + 16)) refl
    ∙ ap (λ (n : ℕ). with_value true n v) byte ∙ even_byte o e v (sprite_value-le y _)
    ∙ sym (ap (λ (n : ℕ). 4 * n + value_at y (set runs s (Some (new_start x a b))) (2 * (s / 2))) new_odd ∙ ap (λ (n : ℕ). 4 * o + n) new_even)
  where
    even_past : (byte odd even value : ℕ) → byte ≡ 4 * odd + even → even ≡ 0 → value ≡ 0 → with_value true byte value ≡ byte
    even_past byte odd even value is none new = omega arith

-- the pair of an odd sprite that starts
odd_pair : (pairs : List (List ℕ)) (runs : List (Option Start)) (row : List ℕ) (s x a b y : ℕ) → s < 8 → s % 2 ≡ 1 → length pairs ≡ 4 →
    SpriteStartsBy s x runs → byte_of pairs (s / 2) y ≡ pair_byte y runs (s / 2) → x ≤ y →
    slice_index row y ≡ laid_byte (with_value false) (slice_index_or pairs (s / 2) []) x (word_values a b) 16 y →
    byte_of (set pairs (s / 2) row) (s / 2) y ≡ pair_byte y (set runs s (Some (new_start x a b))) (s / 2)
odd_pair pairs runs row s x a b y sprite odd four by are le is =
    let place : 2 * (s / 2) + 1 ≡ s = omega arith in
    let pair : s / 2 < length pairs = omega arith in
    let within : s < length runs = omega (arith, by.eight) in
    let o : ℕ = value_at y runs s in
    let e : ℕ = value_at y runs (2 * (s / 2)) in
    let v : ℕ = value_of y (new_start x a b) in
    let byte : byte_of pairs (s / 2) y ≡ 4 * o + e = are ∙ ap (λ (k : ℕ). 4 * value_at y runs k + e) place in
    let small : e ≤ 3 = sprite_value-le y _ in
    let new_odd : value_at y (set runs s (Some (new_start x a b))) (2 * (s / 2) + 1) ≡ v =
    ap (value_at y (set runs s (Some (new_start x a b)))) place ∙ value_at-new y runs s (new_start x a b) within le in
    let new_even : value_at y (set runs s (Some (new_start x a b))) (2 * (s / 2)) ≡ e =
    value_at-other y runs s (2 * (s / 2)) (Some (new_start x a b)) (λ (same : 2 * (s / 2) ≡ s). omega arith) in
    byte-same pairs (s / 2) y row pair ∙ is
    ∙ laid_by false (slice_index_or pairs (s / 2) []) x (word_values a b) y v le (value_of-within y (new_start x a b) le)
    (λ (after : x + 16 ≤ y). odd_past (byte_of pairs (s / 2) y) o e v byte small (value_at-past x y runs s by after) (value_of-past y (new_start x a b) after))
    (nat_lt y (x + 16)) refl
    ∙ ap (λ (n : ℕ). with_value false n v) byte ∙ odd_byte o e v small
    ∙ sym (ap (λ (n : ℕ). 4 * n + value_at y (set runs s (Some (new_start x a b))) (2 * (s / 2))) new_odd ∙ ap (λ (n : ℕ). 4 * v + n) new_even)
  where
    odd_past : (byte odd even value : ℕ) → byte ≡ 4 * odd + even → even ≤ 3 → odd ≡ 0 → value ≡ 0 → with_value false byte value ≡ byte
    odd_past byte odd even value is small none new = omega arith

-- the pair of a sprite that starts
own_pair : (pairs : List (List ℕ)) (runs : List (Option Start)) (row : List ℕ) (s x a b y : ℕ) → s < 8 → length pairs ≡ 4 →
    SpriteStartsBy s x runs → byte_of pairs (s / 2) y ≡ pair_byte y runs (s / 2) → x ≤ y → (t : Bool) → nat_eq (s % 2) 0 ≡ t →
    slice_index row y ≡ laid_byte (with_value t) (slice_index_or pairs (s / 2) []) x (word_values a b) 16 y →
    byte_of (set pairs (s / 2) row) (s / 2) y ≡ pair_byte y (set runs s (Some (new_start x a b))) (s / 2)
own_pair pairs runs row s x a b y sprite four by are le true parity is =
    even_pair pairs runs row s x a b y sprite (grind (arith, nat_tests)) four by are le is
own_pair pairs runs row s x a b y sprite four by are le false parity is =
    odd_pair pairs runs row s x a b y sprite (grind (arith, nat_tests)) four by are le is

-- any pair
started_by : (pairs : List (List ℕ)) (runs : List (Option Start)) (row : List ℕ) (s x a b p y : ℕ) → s < 8 → length pairs ≡ 4 →
    SpriteStartsBy s x runs → byte_of pairs p y ≡ pair_byte y runs p → x ≤ y →
    slice_index row y ≡ laid_byte (with_value (nat_eq (s % 2) 0)) (slice_index_or pairs (s / 2) []) x (word_values a b) 16 y →
    (t : Bool) → nat_eq p (s / 2) ≡ t →
    byte_of (set pairs (s / 2) row) p y ≡ pair_byte y (set runs s (Some (new_start x a b))) p
started_by pairs runs row s x a b p y sprite four by are le is true here =
    let same : s / 2 ≡ p = grind (arith, nat_tests) in
    let own : byte_of pairs (s / 2) y ≡ pair_byte y runs (s / 2) = rw same are in
    let P : ℕ → Type 0 = λ (q : ℕ). byte_of (set pairs (s / 2) row) q y ≡ pair_byte y (set runs s (Some (new_start x a b))) q in
    subst P same (own_pair pairs runs row s x a b y sprite four by own le (nat_eq (s % 2) 0) refl is)
started_by pairs runs row s x a b p y sprite four by are le is false here =
    let other : p ≡ s / 2 → ⊥ = λ (e : p ≡ s / 2). grind (arith, nat_tests) in
    let even : value_at y (set runs s (Some (new_start x a b))) (2 * p) ≡ value_at y runs (2 * p) =
    value_at-other y runs s (2 * p) (Some (new_start x a b)) (λ (e : 2 * p ≡ s). other (omega arith)) in
    let odd : value_at y (set runs s (Some (new_start x a b))) (2 * p + 1) ≡ value_at y runs (2 * p + 1) =
    value_at-other y runs s (2 * p + 1) (Some (new_start x a b)) (λ (e : 2 * p + 1 ≡ s). other (omega arith)) in
    byte-other pairs (s / 2) p y row other ∙ are
    ∙ sym (ap (λ (n : ℕ). 4 * n + value_at y (set runs s (Some (new_start x a b))) (2 * p)) odd ∙ ap (λ (n : ℕ). 4 * value_at y runs (2 * p + 1) + n) even)

pub started : (pairs : List (List ℕ)) (runs : List (Option Start)) (row values : List ℕ) (s x a b p y : ℕ) → s < 8 → length pairs ≡ 4 →
    SpriteStartsBy s x runs → byte_of pairs p y ≡ pair_byte y runs p → x ≤ y → values ≡ word_values a b →
    slice_index row y ≡ laid_byte (with_value (nat_eq (s % 2) 0)) (slice_index_or pairs (s / 2) []) x values 16 y →
    byte_of (set pairs (s / 2) row) p y ≡ pair_byte y (set runs s (Some (new_start x a b))) p
started pairs runs row values s x a b p y sprite four by are le words is =
    started_by pairs runs row s x a b p y sprite four by are le
    (is ∙ ap (λ (l : List ℕ). laid_byte (with_value (nat_eq (s % 2) 0)) (slice_index_or pairs (s / 2) []) x l 16 y) words)
    (nat_eq p (s / 2)) refl
