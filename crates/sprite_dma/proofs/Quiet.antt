-- Clocks at which the sprites need no slot.
use Rattle.std.proofs.Common.{◌≡◌, ◌⊎◌, inl, inr, ℕ, ◌<◌, ◌≤◌, ◌+◌, ◌%◌, Bool, true, false, not, ◌&&◌, if◌then◌else◌, List, get_or, slice_set, Some, None}
use Rattle.std.proofs.Common.{arith, refl, ap, subst, sym, ◌∙◌}
use Rattle.std.proofs.lemmas.Bool.Decides.{nat_tests}
use Rattle.std.proofs.lemmas.List.{set-get_or}
use Rattle.ocs_base.specs.declared.beam.Beam.{Beam}
use Rattle.serial_model.specs.declared.fetch.SpriteKind.{SpriteKind}
use Rattle.serial_model.specs.declared.fetch.SpriteKind.TheVariants.{Nothing}
use Rattle.serial_model.specs.Beam.{is_line_start, later_beam}
use Rattle.serial_model.specs.Registers.{Registers}
use Rattle.serial_model.specs.SpriteFetch.{kinds_at, sprite_ask, is_sprite_slot, is_second_slot, sprite_of, sprite_dma, no_kinds}
use Rattle.serial_model.specs.SpriteFetch.{kind_of, kind_by, position_word, control_word, ask_in_slot, ask_by_kind}
use Rattle.sprite_dma.specs.Quiet.{ReadsNothing}

else_of : {X : Type 0} (c : Bool) (x y : X) → c ≡ false → (if c then x else y) ≡ y
else_of true x y is = grind arith
else_of false x y is = refl

if_either : {X : Type 0} (c : Bool) (x y : X) → (c ≡ true → x ≡ y) → (if c then x else y) ≡ y
if_either true x y is = is refl
if_either false x y is = refl

not_start : (b : Beam) → 0 < b.h → is_line_start b ≡ false
not_start b inner = grind (arith, nat_tests)

-- the kinds stay where no slot is, and where the kind that is decided is known already
stays : (b : Beam) (registers : Registers) (kinds : List SpriteKind) → 0 < b.h
    → ((is_sprite_slot b.h && not (is_second_slot b.h)) ≡ true → slice_set kinds (sprite_of b.h) (kind_of b.v registers (sprite_of b.h)) ≡ kinds)
    → kinds_at b registers kinds ≡ kinds
unfolding kinds_at
stays b registers kinds inner known =
    ap (λ before. if is_sprite_slot b.h && not (is_second_slot b.h) then slice_set before (sprite_of b.h) (kind_of b.v registers (sprite_of b.h)) else before)
    (else_of (is_line_start b) no_kinds kinds (not_start b inner))
    ∙ if_either (is_sprite_slot b.h && not (is_second_slot b.h)) (slice_set kinds (sprite_of b.h) (kind_of b.v registers (sprite_of b.h))) kinds known

pub quiet_between : (b : Beam) (registers : Registers) (kinds : List SpriteKind) → 0 < b.h → is_sprite_slot b.h ≡ false → ReadsNothing b registers kinds
quiet_between b registers kinds inner slot = record {
  stay = stays b registers kinds inner (λ is. grind (arith, nat_tests, is, slot));
  ask = λ taken. ap (λ s. ask_in_slot (if s && sprite_dma registers && not taken then Some (sprite_of b.h) else None) b.h registers kinds) slot;
}

without_dma : (v sprite : ℕ) (registers : Registers) (kinds : List SpriteKind) → sprite_dma registers ≡ false → get_or kinds sprite Nothing ≡ Nothing
    → slice_set kinds sprite (kind_of v registers sprite) ≡ kinds
without_dma v sprite registers kinds off nothing =
    ap (λ kind. slice_set kinds sprite kind)
    (else_of (sprite_dma registers) (kind_by v (position_word registers sprite) (control_word registers sprite)) Nothing off ∙ sym nothing)
    ∙ set-get_or kinds sprite Nothing

no_slot : (slot dma taken : Bool) (sprite : ℕ) → dma ≡ false → (if slot && dma && not taken then Some sprite else None) ≡ None
no_slot true dma taken sprite off = ap (λ d. if d && not taken then Some sprite else None) off
no_slot false dma taken sprite off = refl

pub quiet_without_dma : (b : Beam) (registers : Registers) (kinds : List SpriteKind) → 0 < b.h → sprite_dma registers ≡ false
    → ((sprite : ℕ) → sprite < 8 → get_or kinds sprite Nothing ≡ Nothing) → ReadsNothing b registers kinds
quiet_without_dma b registers kinds inner off nothing = record {
  stay = stays b registers kinds inner (λ slot.
      let few : sprite_of b.h < 8 = grind (arith, nat_tests, slot) in
      without_dma b.v (sprite_of b.h) registers kinds off (nothing (sprite_of b.h) few));
  ask = λ taken. ap (λ sprite. ask_in_slot sprite b.h registers kinds) (no_slot (is_sprite_slot b.h) (sprite_dma registers) taken (sprite_of b.h) off);
}

-- behind the last slot
pub quiet_behind : (b : Beam) (registers : Registers) (kinds : List SpriteKind) → 0x33 < b.h → ReadsNothing b registers kinds
quiet_behind b registers kinds late = quiet_between b registers kinds (omega (arith, late)) (grind (arith, nat_tests, late))

-- a slot of a sprite that reads nothing
asks_none : (asks : Bool) (sprite h : ℕ) (registers : Registers) (kinds : List SpriteKind) → get_or kinds sprite Nothing ≡ Nothing
    → ask_in_slot (if asks then Some sprite else None) h registers kinds ≡ None
asks_none true sprite h registers kinds nothing = ap (λ kind. ask_by_kind kind (is_second_slot h) registers sprite) nothing
asks_none false sprite h registers kinds nothing = refl

asks_nothing : (b : Beam) (registers : Registers) (kinds : List SpriteKind) (taken : Bool) → get_or kinds (sprite_of b.h) Nothing ≡ Nothing
    → sprite_ask b.h registers kinds taken ≡ None
asks_nothing b registers kinds taken nothing =
    asks_none (is_sprite_slot b.h && sprite_dma registers && not taken) (sprite_of b.h) b.h registers kinds nothing

pub quiet_second : (b : Beam) (registers : Registers) (kinds : List SpriteKind) → is_sprite_slot b.h ≡ true → get_or kinds (sprite_of b.h) Nothing ≡ Nothing
    → b.h % 4 ≡ 3 → ReadsNothing b registers kinds
quiet_second b registers kinds slot nothing second = record {
  stay = stays b registers kinds (grind (arith, nat_tests, slot)) (λ is. grind (arith, nat_tests, is, second));
  ask = λ taken. asks_nothing b registers kinds taken nothing;
}

-- its second slot, two clocks behind its first one
pub quiet_later_second : (b : Beam) (registers : Registers) (kinds : List SpriteKind) → is_sprite_slot b.h ≡ true
    → get_or kinds (sprite_of b.h) Nothing ≡ Nothing → b.h % 4 ≡ 1 → ReadsNothing (later_beam 2 b) registers kinds
quiet_later_second b registers kinds slot nothing first =
    let few : (b.h ≤ 0x33) × (0x15 ≤ b.h) = (grind (arith, nat_tests, slot), grind (arith, nat_tests, slot)) in
    let behind : is_sprite_slot (b.h + 2) ≡ true = grind (arith, nat_tests, few, first) in
    let same : sprite_of (b.h + 2) ≡ sprite_of b.h = omega (arith, few, first) in
    quiet_second (later_beam 2 b) registers kinds behind (subst (λ sprite. get_or kinds sprite Nothing ≡ Nothing) (sym same) nothing) (omega (arith, first))

pub quiet_first : (b : Beam) (registers : Registers) (kinds : List SpriteKind) → is_sprite_slot b.h ≡ true → get_or kinds (sprite_of b.h) Nothing ≡ Nothing
    → kind_of b.v registers (sprite_of b.h) ≡ Nothing → ReadsNothing b registers kinds
quiet_first b registers kinds slot nothing kind = record {
  stay = stays b registers kinds (grind (arith, nat_tests, slot))
      (λ is. ap (λ k. slice_set kinds (sprite_of b.h) k) (kind ∙ sym nothing) ∙ set-get_or kinds (sprite_of b.h) Nothing);
  ask = λ taken. asks_nothing b registers kinds taken nothing;
}

-- a slot passed, and the clock behind it
one_of : (k n : ℕ) → k < n + 2 → (k < n) ⊎ ((k ≡ n) ⊎ (k ≡ n + 1))
one_of k n below = grind (arith, nat_tests, below)

more_by : (k n : ℕ) (b : Beam) (registers : Registers) (kinds : List SpriteKind) → 0 < b.h → (b.h + n) % 2 ≡ 1
    → ((k : ℕ) → k < n → ReadsNothing (later_beam k b) registers kinds) → ReadsNothing (later_beam n b) registers kinds
    → (k < n) ⊎ ((k ≡ n) ⊎ (k ≡ n + 1)) → ReadsNothing (later_beam k b) registers kinds
more_by k n b registers kinds inner odd before now (inl less) = before k less
more_by k n b registers kinds inner odd before now (inr (inl same)) = subst (λ j. ReadsNothing (later_beam j b) registers kinds) (sym same) now
more_by k n b registers kinds inner odd before now (inr (inr next)) =
    let even : is_sprite_slot (b.h + k) ≡ false = grind (arith, nat_tests, odd, next) in
    quiet_between (later_beam k b) registers kinds (omega (arith, inner)) even

pub more_quiet : (n : ℕ) (b : Beam) (registers : Registers) (kinds : List SpriteKind) → 0 < b.h → (b.h + n) % 2 ≡ 1
    → ((k : ℕ) → k < n → ReadsNothing (later_beam k b) registers kinds) → ReadsNothing (later_beam n b) registers kinds
    → (k : ℕ) → k < n + 2 → ReadsNothing (later_beam k b) registers kinds
more_quiet n b registers kinds inner odd before now k below = more_by k n b registers kinds inner odd before now (one_of k n below)

-- both slots of a sprite passed, and the clock behind each
pub more_quiet_pair : (n : ℕ) (b : Beam) (registers : Registers) (kinds : List SpriteKind) → 0 < b.h → (b.h + n) % 2 ≡ 1
    → ((k : ℕ) → k < n → ReadsNothing (later_beam k b) registers kinds) → ReadsNothing (later_beam n b) registers kinds
    → ReadsNothing (later_beam 2 (later_beam n b)) registers kinds → (k : ℕ) → k < n + 4 → ReadsNothing (later_beam k b) registers kinds
more_quiet_pair n b registers kinds inner odd before first second k below =
    let at : b.h + n + 2 ≡ b.h + (n + 2) = omega arith in
    more_quiet (n + 2) b registers kinds inner (omega (arith, odd)) (more_quiet n b registers kinds inner odd before first)
    (subst (λ h. ReadsNothing (record b { h = h }) registers kinds) at second) k (omega (arith, below))

less_or : (k n : ℕ) → (k < n) ⊎ (n ≤ k)
less_or k n = grind arith

after_by : (k n : ℕ) (b : Beam) (registers : Registers) (kinds : List SpriteKind) → ((k : ℕ) → k < n → ReadsNothing (later_beam k b) registers kinds)
    → 0x33 < b.h + n → (k < n) ⊎ (n ≤ k) → ReadsNothing (later_beam k b) registers kinds
after_by k n b registers kinds before late (inl less) = before k less
after_by k n b registers kinds before late (inr more) = quiet_behind (later_beam k b) registers kinds (omega (arith, late, more))

-- behind the last slot all are quiet
pub quiet_after : (most n : ℕ) (b : Beam) (registers : Registers) (kinds : List SpriteKind)
    → ((k : ℕ) → k < n → ReadsNothing (later_beam k b) registers kinds) → 0x33 < b.h + n → (k : ℕ) → k < most → ReadsNothing (later_beam k b) registers kinds
quiet_after most n b registers kinds before late k below = after_by k n b registers kinds before late (less_or k n)
