-- The sprites' words that run, and from where on none shows.
use Rattle.std.proofs.Common.{◌≡◌, ℕ, zero, suc, ◌+◌, ◌-◌, ◌*◌, ◌/◌, ◌%◌, ◌^◌, ◌≤◌, ◌<◌, ◌==◌, ◌&&◌, ◌||◌, Bool, true, false, not, nat_eq, nat_le, max}
use Rattle.std.proofs.Common.{List, [], ◌∷◌, length, map, slice_index, slice_index_or, slice_set, replicate, Option, Some, None, refl, sym, ◌∙◌, ap, arith}
use Rattle.std.specs.Bool.{if◌then◌else◌}
use Rattle.std.proofs.Math.ListN.{set, length-set, get_or-eq_default}
use Rattle.std.proofs.Math.Nat.{zero-div}
use Rattle.std.proofs.lemmas.List.{get_or-replicate, length-replicate, get_or-set_same, get_or-set_other, set-get_or}
use Rattle.std.proofs.lemmas.Bool.Decides.{nat_tests}
use Rattle.std.specs.List.{list_any}
use Rattle.std.specs.Option.{option_to_list}
use Rattle.sprites.specs.declared.runs.Start.{Start}
use Rattle.sprites.specs.SpriteValue.{sprite_value, kept_start}
use Rattle.serial_model.specs.Picture.{all_sprites, sprite_values}
use Rattle.painter.specs.code.SpriteState.{SpriteRegisters, IsQuiet, begins_at, run_or, run_in, runs_in, first_runs}
use Rattle.painter.specs.code.Starts.{IsIdle}
use Rattle.painter.specs.code.SpriteState.{quiet_or, first_quiet, first_begun, words_begun, has_start, has_start_at, is_known_idle}
use Rattle.painter.specs.code.SpriteState.{start_of, starts_in}

pub not_true : (b : Bool) → not b ≡ true → b ≡ false
not_true true is = cc
not_true false is = refl

or_false : (a b : Bool) → (a || b) ≡ false → (a ≡ false) × (b ≡ false)
or_false true b is = cc
or_false false b is = (refl, is)

none_by : (n : ℕ) (b : Bool) → nat_le 8 n ≡ b → slice_index_or (replicate {A = Option Start} 8 None) n None ≡ None
none_by n false is =
    let within : n < 8 = grind (arith, nat_tests) in
    get_or-replicate 8 n None None within
none_by n true is =
    let after : 8 ≤ n = grind (arith, nat_tests) in
    get_or-eq_default (replicate {A = Option Start} 8 None) None (omega (arith, length-replicate {A = Option Start} 8 None))

pub none_at : (n : ℕ) → slice_index_or (replicate {A = Option Start} 8 None) n None ≡ None
none_at n = none_by n (nat_le 8 n) refl

-- where none runs, none shows
pub none_quiet : IsQuiet 0 (replicate 8 None)
unfolding sprite_value
none_quiet = record {
  eight = length-replicate {A = Option Start} 8 None;
  quiet = λ few x sprite h. ap (λ (o : Option Start). sprite_value x (option_to_list o)) (none_by sprite (nat_le 8 sprite) refl);
}

-- the words of a start show nothing from their sixteenth place on
passed_by : (x : ℕ) (start : Start) → start.x + 16 ≤ x → sprite_value x (start ∷ []) ≡ 0
unfolding sprite_value
passed_by x start h =
    let come : nat_le start.x x ≡ true = grind (arith, nat_tests) in
    let past : nat_le (x - start.x) 15 ≡ false = grind (arith, nat_tests) in
    rw come (rw past refl)

set_by : (q column : ℕ) (runs : List (Option Start)) (sprite : ℕ) (start : Start) → IsQuiet q runs → sprite < 8 → start.x ≡ column →
    (x n : ℕ) → max q (column + 16) < 512 → max q (column + 16) ≤ x → (b : Bool) → nat_eq n sprite ≡ b
    → sprite_value x (kept_start (slice_set runs sprite (Some start)) n) ≡ 0
set_by q column runs sprite start quiet within at x n few h true is =
    let here : n ≡ sprite = grind (arith, nat_tests) in
    ap (λ (m : ℕ). sprite_value x (kept_start (slice_set runs sprite (Some start)) m)) here
    ∙ ap (λ (o : Option Start). sprite_value x (option_to_list o)) (get_or-set_same runs sprite (Some start) None (omega (arith, quiet.eight)))
    ∙ passed_by x start (omega (arith, at, h))
set_by q column runs sprite start quiet within at x n few h false is =
    let differ : n ≡ sprite → ⊥ = λ e. grind (arith, nat_tests) in
    ap (λ (o : Option Start). sprite_value x (option_to_list o)) (get_or-set_other runs sprite n (Some start) None differ)
    ∙ quiet.quiet (omega (arith, few)) x n (omega (arith, h))

-- words that begin show for sixteen places
pub begun_quiet : (q column : ℕ) (runs : List (Option Start)) (sprite : ℕ) (start : Start) → IsQuiet q runs → sprite < 8 → start.x ≡ column →
    IsQuiet (max q (column + 16)) (slice_set runs sprite (Some start))
begun_quiet q column runs sprite start quiet within at = record {
  eight = length-set runs sprite (Some start) ∙ quiet.eight;
  quiet = λ few x n h. set_by q column runs sprite start quiet within at x n few h (nat_eq n sprite) refl;
}

-- sprites that are not among the first so many
later_runs : (x : ℕ) (s : SpriteRegisters) (n k : ℕ) → n ≤ k → slice_index_or (first_runs x s n) k None ≡ slice_index_or s.runs k None
unfolding first_runs
later_runs x s zero k h = refl
later_runs x s (suc n) k h =
    get_or-set_other (first_runs x s n) n k (run_in x s n) None (λ e. omega (arith, e, h)) ∙ later_runs x s n k (omega (arith, h))

-- one sprite more
pub one_more : (x : ℕ) (s now next : SpriteRegisters) (n : ℕ) → now ≡ first_begun x s n →
    next ≡ record now { runs = slice_set now.runs n (run_in x now n); quiet_from = quiet_or x now n now.quiet_from } →
    next ≡ first_begun x s (n + 1)
unfolding first_runs first_quiet
one_more x s now next n is step =
    let count : suc n ≡ n + 1 = omega arith in
    rw (← count)
    (step
    ∙ ap (λ (t : SpriteRegisters). record t { runs = slice_set t.runs n (run_in x t n); quiet_from = quiet_or x t n t.quiet_from }) is
    ∙ ap (λ (o : Option Start). record s { runs = slice_set (first_runs x s n) n (run_or x s n o); quiet_from = first_quiet x s (suc n) })
    (later_runs x s n n (omega arith)))

pub none_more : (x : ℕ) (s : SpriteRegisters) → s ≡ first_begun x s 0
unfolding first_runs first_quiet
none_more x s = refl

eight_by : (f : ℕ → Option Start → Option Start) (l : List (Option Start)) → length l ≡ 8 →
    slice_set (slice_set (slice_set (slice_set (slice_set (slice_set (slice_set (slice_set l 0 (f 0 (slice_index_or l 0 None)))
    1 (f 1 (slice_index_or l 1 None))) 2 (f 2 (slice_index_or l 2 None))) 3 (f 3 (slice_index_or l 3 None))) 4 (f 4 (slice_index_or l 4 None)))
    5 (f 5 (slice_index_or l 5 None))) 6 (f 6 (slice_index_or l 6 None))) 7 (f 7 (slice_index_or l 7 None))
    ≡ map (λ n. f n (slice_index_or l n None)) all_sprites
eight_by f (a ∷ b ∷ c ∷ d ∷ e ∷ g ∷ h ∷ i ∷ []) is = refl
eight_by f [] is = cc
eight_by f (a ∷ []) is = absurd (omega (arith, is))
eight_by f (a ∷ b ∷ []) is = absurd (omega (arith, is))
eight_by f (a ∷ b ∷ c ∷ []) is = absurd (omega (arith, is))
eight_by f (a ∷ b ∷ c ∷ d ∷ []) is = absurd (omega (arith, is))
eight_by f (a ∷ b ∷ c ∷ d ∷ e ∷ []) is = absurd (omega (arith, is))
eight_by f (a ∷ b ∷ c ∷ d ∷ e ∷ g ∷ []) is = absurd (omega (arith, is))
eight_by f (a ∷ b ∷ c ∷ d ∷ e ∷ g ∷ h ∷ []) is = absurd (omega (arith, is))
eight_by f (a ∷ b ∷ c ∷ d ∷ e ∷ g ∷ h ∷ i ∷ more ∷ rest) is = absurd (omega (arith, is))

-- all eight
pub all_begun : (x : ℕ) (s : SpriteRegisters) → length s.runs ≡ 8 → first_runs x s 8 ≡ runs_in x s
unfolding first_runs
all_begun x s is = eight_by (run_or x s) s.runs is

-- eight of which each is what ran
pub same_eight : (f : ℕ → Option Start) (l : List (Option Start)) → length l ≡ 8 → ((n : ℕ) → n < 8 → f n ≡ slice_index_or l n None) → map f all_sprites ≡ l
same_eight f (a ∷ b ∷ c ∷ d ∷ e ∷ g ∷ h ∷ i ∷ []) is same =
    rw (
      same 0 (omega arith),
      same 1 (omega arith),
      same 2 (omega arith),
      same 3 (omega arith),
      same 4 (omega arith),
      same 5 (omega arith),
      same 6 (omega arith),
      same 7 (omega arith),
    ) refl
same_eight f [] is same = cc
same_eight f (a ∷ []) is same = absurd (omega (arith, is))
same_eight f (a ∷ b ∷ []) is same = absurd (omega (arith, is))
same_eight f (a ∷ b ∷ c ∷ []) is same = absurd (omega (arith, is))
same_eight f (a ∷ b ∷ c ∷ d ∷ []) is same = absurd (omega (arith, is))
same_eight f (a ∷ b ∷ c ∷ d ∷ e ∷ []) is same = absurd (omega (arith, is))
same_eight f (a ∷ b ∷ c ∷ d ∷ e ∷ g ∷ []) is same = absurd (omega (arith, is))
same_eight f (a ∷ b ∷ c ∷ d ∷ e ∷ g ∷ h ∷ []) is same = absurd (omega (arith, is))
same_eight f (a ∷ b ∷ c ∷ d ∷ e ∷ g ∷ h ∷ i ∷ more ∷ rest) is same = absurd (omega (arith, is))

-- nothing begins where no sprite is armed, or none has its HSTART
pub NoneBegins : ℕ → SpriteRegisters → Type 0
NoneBegins x s = (n : ℕ) → n < 8 → begins_at x s n ≡ false

pub none_begun : (x : ℕ) (s : SpriteRegisters) → length s.runs ≡ 8 → NoneBegins x s → runs_in x s ≡ s.runs
unfolding NoneBegins
none_begun x s is none = same_eight (run_in x s) s.runs is
    (λ n h. ap (λ (b : Bool). if b then Some (record { x = x; word_a = slice_index s.words_a n; word_b = slice_index s.words_b n })
    else slice_index_or s.runs n None) (none n h))

pub none_quieter : (x n : ℕ) (s : SpriteRegisters) → n ≤ 8 → NoneBegins x s → first_quiet x s n ≡ s.quiet_from
unfolding NoneBegins first_quiet
none_quieter x zero s le none = refl
none_quieter x (suc n) s le none =
    ap (λ (b : Bool). if b then max (first_quiet x s n) (x + 16) else first_quiet x s n) (none n (omega arith))
    ∙ none_quieter x n s (omega arith) none

pub none_begun_at_all : (x : ℕ) (s : SpriteRegisters) → length s.runs ≡ 8 → NoneBegins x s → s ≡ words_begun x s
none_begun_at_all x s is none =
    sym (ap (λ (l : List (Option Start)). record s { runs = l; quiet_from = first_quiet x s 8 }) (none_begun x s is none)
    ∙ ap (λ (q : ℕ). record s { quiet_from = q }) (none_quieter x 8 s (omega arith) none))

pub none_armed : (x : ℕ) (s : SpriteRegisters) → s.armed ≡ 0 → NoneBegins x s
unfolding NoneBegins
none_armed x s is n h =
    let bit : s.armed / 2 ^ n % 2 ≡ 0 = ap (λ (a : ℕ). a / 2 ^ n % 2) is ∙ ap (λ (a : ℕ). a % 2) (zero-div (2 ^ n)) in
    rw bit refl

elsewhere : (armed : Bool) (pos ctl h x : ℕ) → x / 2 ≡ h → (pos % 256 ≡ h → ⊥) → (armed && (2 * (pos % 256) + ctl % 2 == x)) ≡ false
elsewhere true pos ctl h x at not_here =
    let differ : 2 * (pos % 256) + ctl % 2 ≡ x → ⊥ = λ e. not_here (omega (arith, e, at)) in
    grind (arith, nat_tests)
elsewhere false pos ctl h x at not_here = refl

pub none_starts : (x h : ℕ) (s : SpriteRegisters) → x / 2 ≡ h → ((n : ℕ) → n < 8 → slice_index s.pos n % 256 ≡ h → ⊥) → NoneBegins x s
unfolding NoneBegins
none_starts x h s at none n lt = elsewhere (s.armed / 2 ^ n % 2 == 1) (slice_index s.pos n) (slice_index s.ctl n) h x at (none n lt)

quiet_values : (q x : ℕ) (runs : List (Option Start)) → IsQuiet q runs → q < 512 → q ≤ x → sprite_values x runs ≡ replicate 8 0
quiet_values q x runs quiet few h =
    rw (
      quiet.quiet few x 0 h,
      quiet.quiet few x 1 h,
      quiet.quiet few x 2 h,
      quiet.quiet few x 3 h,
      quiet.quiet few x 4 h,
      quiet.quiet few x 5 h,
      quiet.quiet few x 6 h,
      quiet.quiet few x 7 h,
    ) refl

-- whether one of eight passes a test
either_of_eight : (a b c d e f g h : Bool) →
    (((((((a || b) || c) || d) || e) || f) || g) || h) ≡ (a || (b || (c || (d || (e || (f || (g || (h || false))))))))
either_of_eight true b c d e f g h = refl
either_of_eight false true c d e f g h = refl
either_of_eight false false true d e f g h = refl
either_of_eight false false false true e f g h = refl
either_of_eight false false false false true f g h = refl
either_of_eight false false false false false true g h = refl
either_of_eight false false false false false false true h = refl
either_of_eight false false false false false false false true = refl
either_of_eight false false false false false false false false = refl

pub any_of_eight : (test : ℕ → Bool) →
    (((((((test 0 || test 1) || test 2) || test 3) || test 4) || test 5) || test 6) || test 7) ≡ list_any test all_sprites
any_of_eight test = either_of_eight (test 0) (test 1) (test 2) (test 3) (test 4) (test 5) (test 6) (test 7)

none_of : (test : ℕ → Bool) (l : List ℕ) (n : ℕ) → list_any test l ≡ false → n < length l → test (slice_index l n) ≡ false
none_of test [] n none lt = absurd (omega (arith, lt))
none_of test (x ∷ xs) zero none lt = (or_false (test x) (list_any test xs) none).0
none_of test (x ∷ xs) (suc n) none lt = none_of test xs n (or_false (test x) (list_any test xs) none).1 (omega (arith, lt))

sprite_at : (n : ℕ) → n < 8 → slice_index all_sprites n ≡ n
sprite_at zero lt = refl
sprite_at (suc zero) lt = refl
sprite_at (suc (suc zero)) lt = refl
sprite_at (suc (suc (suc zero))) lt = refl
sprite_at (suc (suc (suc (suc zero)))) lt = refl
sprite_at (suc (suc (suc (suc (suc zero))))) lt = refl
sprite_at (suc (suc (suc (suc (suc (suc zero)))))) lt = refl
sprite_at (suc (suc (suc (suc (suc (suc (suc zero))))))) lt = refl
sprite_at (suc (suc (suc (suc (suc (suc (suc (suc n)))))))) lt = absurd (omega (arith, lt))

-- where none has its HSTART at a clock
pub none_there : (h : ℕ) (s : SpriteRegisters) → has_start h s ≡ false → (n : ℕ) → n < 8 → slice_index s.pos n % 256 ≡ h → ⊥
none_there h s none n lt is =
    let test : ℕ → Bool = λ (sprite : ℕ). nat_eq (slice_index s.pos sprite % 256) h in
    let false_there : nat_eq (slice_index s.pos n % 256) h ≡ false =
    ap test (sym (sprite_at n lt)) ∙ none_of test all_sprites n none (omega (arith, lt)) in
    grind (arith, nat_tests)

-- where none has it at a position
and_false : (a b : Bool) → b ≡ false → (a && b) ≡ false
and_false true b is = is
and_false false b is = refl

pub none_there_at : (x : ℕ) (s : SpriteRegisters) → has_start_at x s ≡ false → NoneBegins x s
unfolding NoneBegins
none_there_at x s none n lt =
    let test : ℕ → Bool = λ (sprite : ℕ). nat_eq (2 * (slice_index s.pos sprite % 256) + slice_index s.ctl sprite % 2) x in
    let false_there : nat_eq (2 * (slice_index s.pos n % 256) + slice_index s.ctl n % 2) x ≡ false =
    ap test (sym (sprite_at n lt)) ∙ none_of test all_sprites n none (omega (arith, lt)) in
    and_false (s.armed / 2 ^ n % 2 == 1) _ false_there

-- what is known of an idle clock
pub known_by : (h : ℕ) (s : SpriteRegisters) (quiet unarmed start : Bool) → nat_le s.quiet_from (2 * h) ≡ quiet → nat_eq s.armed 0 ≡ unarmed →
    has_start h s ≡ start → (quiet && (unarmed || not start)) ≡ is_known_idle h s
known_by h s quiet unarmed start one two three = rw (one, two, three) refl

pub idle : (h q : ℕ) (s : SpriteRegisters) → IsQuiet q s.runs → q < 512 → q ≤ 2 * h → NoneBegins (2 * h) s → NoneBegins (2 * h + 1) s → IsIdle h s
idle h q s quiet few le first second = record {
  first = none_begun (2 * h) s quiet.eight first;
  second = none_begun (2 * h + 1) s quiet.eight second;
  values = λ x from. quiet_values q x s.runs quiet few (omega (arith, le, from));
}

-- a sprite whose HSTART is elsewhere begins nothing
pub starts_at : (s : SpriteRegisters) (n : ℕ) → n < 8 → slice_index (starts_in s) n ≡ start_of s n
starts_at s zero lt = refl
starts_at s (suc zero) lt = refl
starts_at s (suc (suc zero)) lt = refl
starts_at s (suc (suc (suc zero))) lt = refl
starts_at s (suc (suc (suc (suc zero)))) lt = refl
starts_at s (suc (suc (suc (suc (suc zero))))) lt = refl
starts_at s (suc (suc (suc (suc (suc (suc zero)))))) lt = refl
starts_at s (suc (suc (suc (suc (suc (suc (suc zero))))))) lt = refl
starts_at s (suc (suc (suc (suc (suc (suc (suc (suc n)))))))) lt = absurd (omega (arith, lt))

same_by : (b : Bool) (x q n : ℕ) (start : Start) (runs : List (Option Start)) → b ≡ false →
    (slice_set runs n (if b then Some start else slice_index_or runs n None) ≡ runs) × ((if b then max q (x + 16) else q) ≡ q)
same_by false x q n start runs is = (set-get_or runs n None, refl)
same_by true x q n start runs is = cc

pub none_of_one : (x : ℕ) (s now next : SpriteRegisters) (n : ℕ) → n < 8 → now ≡ first_begun x s n → next ≡ now →
    (slice_index (starts_in s) n ≡ x → ⊥) → next ≡ first_begun x s (n + 1)
none_of_one x s now next n lt is same other =
    let differ : start_of s n ≡ x → ⊥ = λ e. other (starts_at s n lt ∙ e) in
    let elsewhere : (start_of s n == x) ≡ false = grind (arith, nat_tests) in
    let none : begins_at x s n ≡ false = and_false (s.armed / 2 ^ n % 2 == 1) _ elsewhere in
    let here : begins_at x now n ≡ false = ap (λ (t : SpriteRegisters). begins_at x t n) is ∙ none in
    let start : Start = record { x = x; word_a = slice_index now.words_a n; word_b = slice_index now.words_b n } in
    let both = same_by (begins_at x now n) x now.quiet_from n start now.runs here in
    one_more x s now next n is
    (same
    ∙ sym (ap (λ (l : List (Option Start)). record now { runs = l; quiet_from = quiet_or x now n now.quiet_from }) both.0
    ∙ ap (λ (q : ℕ). record now { quiet_from = q }) both.1))
