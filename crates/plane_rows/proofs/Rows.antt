-- Bytes along a row: blank ones, and ones that are laid over others.
use Rattle.std.proofs.Common.{◌≡◌, ℕ, ◌+◌, ◌-◌, ◌≤◌, ◌<◌, Bool, true, false, nat_eq, nat_lt, nat_le, List, ◌++◌}
use Rattle.std.proofs.Common.{length, take, drop, get_or, slice_index, replicate, refl, sym, ◌∙◌, ap, subst, arith}
use Rattle.std.proofs.Math.ListN.{set, get_or-eq_default}
use Rattle.std.proofs.lemmas.List.{get_or-replicate, length-replicate, get_or-set_same, get_or-set_other}
use Rattle.std.proofs.lemmas.List.{get_or-append_right, get_or_append_left, get_or-take, get_or-drop, length-take-le}
use Rattle.std.proofs.lemmas.Bool.Decides.{nat_tests}
use borrow.Rule.Slice.PartMut.{put_mid}
use Rattle.plane_rows.specs.Row.{laid, cut_off}

zeros_by : (n x : ℕ) (b : Bool) → nat_lt x n ≡ b → slice_index (replicate n 0) x ≡ 0
zeros_by n x true is =
    let within : x < n = grind (arith, nat_tests) in
    get_or-replicate n x 0 0 within
zeros_by n x false is =
    let after : n ≤ x = grind (arith, nat_tests) in
    get_or-eq_default (replicate n 0) 0 (omega (arith, length-replicate {A = ℕ} n 0))

pub zeros : (n x : ℕ) → slice_index (replicate n 0) x ≡ 0
zeros n x = zeros_by n x (nat_lt x n) refl

-- nothing is wiped yet
pub wiped_none : (row : List ℕ) (from x : ℕ) → slice_index row x ≡ cut_off row from from x
wiped_none row from x = grind (arith, nat_tests)

wiped_by : (old now : List ℕ) (from at k : ℕ) → at < length now → from ≤ at → slice_index now k ≡ cut_off old from at k →
    (b : Bool) → nat_eq k at ≡ b → slice_index (set now at 0) k ≡ cut_off old from (at + 1) k
wiped_by old now from at k lt le so true is =
    let here : k ≡ at = grind (arith, nat_tests) in
    let cut : cut_off old from (at + 1) k ≡ 0 = grind (arith, nat_tests) in
    ap (λ (n : ℕ). get_or (set now at 0) n 0) here ∙ get_or-set_same now at 0 0 lt ∙ sym cut
wiped_by old now from at k lt le so false is =
    let other : k ≡ at → ⊥ = λ e. grind (arith, nat_tests) in
    let cut : cut_off old from (at + 1) k ≡ cut_off old from at k = grind (arith, nat_tests) in
    get_or-set_other now at k 0 0 other ∙ so ∙ sym cut

-- one place more
pub wiped_more : (old now : List ℕ) (from at k : ℕ) → at < length now → from ≤ at → slice_index now k ≡ cut_off old from at k →
    slice_index (set now at 0) k ≡ cut_off old from (at + 1) k
wiped_more old now from at k lt le so = wiped_by old now from at k lt le so (nat_eq k at) refl

-- the places before a part that was written, in it, and after it
before_part : (row new : List ℕ) (start k x : ℕ) → start ≤ length row → x < start →
    slice_index (put_mid start k row new) x ≡ slice_index row x
before_part row new start k x le lt =
    let long : length (take start row) ≡ start = length-take-le start row le in
    let within : x < length (take start row) = omega arith in
    get_or_append_left (take start row) (new ++ drop k (drop start row)) 0 x within ∙ get_or-take start row x 0 lt

in_part : (row new : List ℕ) (start k x : ℕ) → start ≤ length row → start ≤ x → x - start < length new →
    slice_index (put_mid start k row new) x ≡ slice_index new (x - start)
in_part row new start k x le from lt =
    get_or-append_right (take start row) (new ++ drop k (drop start row)) start x 0 (length-take-le start row le) from
    ∙ get_or_append_left new (drop k (drop start row)) 0 (x - start) lt

after_part : (row new : List ℕ) (start k x : ℕ) → start ≤ length row → length new ≡ k → start + k ≤ x →
    slice_index (put_mid start k row new) x ≡ slice_index row x
after_part row new start k x le long from =
    let after : start ≤ x = omega arith in
    let behind : k ≤ x - start = omega arith in
    let place : start + (k + (x - start - k)) ≡ x = omega arith in
    get_or-append_right (take start row) (new ++ drop k (drop start row)) start x 0 (length-take-le start row le) after
    ∙ get_or-append_right new (drop k (drop start row)) k (x - start) 0 long behind
    ∙ get_or-drop k (drop start row) (x - start - k) 0
    ∙ get_or-drop start row (k + (x - start - k)) 0
    ∙ ap (slice_index row) place

-- a row that was blank from its end on, wiped behind the part, and then written there
laid_by : (old now bytes new : List ℕ) (start k end x : ℕ) → k ≡ 32 → start ≤ length now → length bytes ≡ 32 → new ≡ bytes →
    (end ≤ x → slice_index old x ≡ 0) → slice_index now x ≡ cut_off old (start + 32) end x →
    (b : Bool) → nat_le start x ≡ b → (a : Bool) → nat_le (start + 32) x ≡ a → slice_index (put_mid start k now new) x ≡ laid old start bytes x
laid_by old now bytes new start k end x width le long is blank so false before a after =
    let lt : x < start = grind (arith, nat_tests) in
    let kept : cut_off old (start + 32) end x ≡ slice_index old x = grind (arith, nat_tests) in
    let hidden : laid old start bytes x ≡ slice_index old x = grind (arith, nat_tests) in
    before_part now new start k x le lt ∙ so ∙ kept ∙ sym hidden
laid_by old now bytes new start k end x width le long is blank so true before false after =
    let from : start ≤ x = grind (arith, nat_tests) in
    let until : x < start + 32 = grind (arith, nat_tests) in
    let size : length new ≡ 32 = ap length is ∙ long in
    let within : x - start < length new = omega arith in
    let shown : laid old start bytes x ≡ slice_index bytes (x - start) = grind (arith, nat_tests) in
    in_part now new start k x le from within ∙ ap (λ (l : List ℕ). slice_index l (x - start)) is ∙ sym shown
laid_by old now bytes new start k end x width le long is blank so true before true after =
    let until : start + 32 ≤ x = grind (arith, nat_tests) in
    let size : length new ≡ k = ap length is ∙ long ∙ sym width in
    let behind : start + k ≤ x = omega arith in
    let past : slice_index bytes (x - start) ≡ 0 = get_or-eq_default bytes 0 (omega arith) in
    let none : cut_off old (start + 32) end x ≡ 0 = wiped (nat_lt x end) refl in
    let shown : laid old start bytes x ≡ slice_index bytes (x - start) = grind (arith, nat_tests) in
    after_part now new start k x le size behind ∙ so ∙ none ∙ sym past ∙ sym shown
  where
    wiped : (t : Bool) → nat_lt x end ≡ t → cut_off old (start + 32) end x ≡ 0
    wiped true is = grind (arith, nat_tests)
    wiped false is =
        let zero : slice_index old x ≡ 0 = blank (grind (arith, nat_tests)) in
        grind (arith, nat_tests)

pub laid_over : (old now bytes new : List ℕ) (start k end x : ℕ) → k ≡ 32 → start ≤ length now → length bytes ≡ 32 → new ≡ bytes →
    (end ≤ x → slice_index old x ≡ 0) → slice_index now x ≡ cut_off old (start + 32) end x →
    slice_index (put_mid start k now new) x ≡ laid old start bytes x
laid_over old now bytes new start k end x width le long is blank so =
    laid_by old now bytes new start k end x width le long is blank so (nat_le start x) refl (nat_le (start + 32) x) refl

-- of bytes that are few, laid over few
few_by : (old now bytes : List ℕ) (start x : ℕ) → slice_index old x ≤ 21 → slice_index bytes (x - start) ≤ 21 →
    slice_index now x ≡ laid old start bytes x → (b : Bool) → nat_le start x ≡ b → slice_index now x ≤ 21
few_by old now bytes start x few more over true is =
    let shown : laid old start bytes x ≡ slice_index bytes (x - start) = rw is refl in
    subst (λ (n : ℕ). n ≤ 21) (sym (over ∙ shown)) more
few_by old now bytes start x few more over false is =
    let shown : laid old start bytes x ≡ slice_index old x = rw is refl in
    subst (λ (n : ℕ). n ≤ 21) (sym (over ∙ shown)) few

pub laid_few : (old now bytes : List ℕ) (start x : ℕ) → slice_index old x ≤ 21 → slice_index bytes (x - start) ≤ 21 →
    slice_index now x ≡ laid old start bytes x → slice_index now x ≤ 21
laid_few old now bytes start x few more over = few_by old now bytes start x few more over (nat_le start x) refl

-- all places
wiped_by_order : (old now : List ℕ) (from at end k : ℕ) → end ≤ at → (from ≤ end → at ≤ end) → (end ≤ from → at ≡ from) →
    slice_index now k ≡ cut_off old from at k → (b : Bool) → nat_le from end ≡ b → slice_index now k ≡ cut_off old from end k
wiped_by_order old now from at end k le most least so true is =
    let ordered : from ≤ end = grind (arith, nat_tests) in
    let same : at ≡ end = omega arith in
    so ∙ ap (λ (n : ℕ). cut_off old from n k) same
wiped_by_order old now from at end k le most least so false is =
    let none : end ≤ from = grind (arith, nat_tests) in
    let same : at ≡ from = least none in
    let kept : cut_off old from end k ≡ cut_off old from from k = grind (arith, nat_tests) in
    so ∙ ap (λ (n : ℕ). cut_off old from n k) same ∙ sym kept

pub wiped_all : (old now : List ℕ) (from at end k : ℕ) → end ≤ at → (from ≤ end → at ≤ end) → (end ≤ from → at ≡ from) →
    slice_index now k ≡ cut_off old from at k → slice_index now k ≡ cut_off old from end k
wiped_all old now from at end k le most least so = wiped_by_order old now from at end k le most least so (nat_le from end) refl
