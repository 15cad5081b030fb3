-- Plane and sprite fetch: where units begin, which slots planes use, and what their fetches leave as it is.
use Rattle.std.proofs.Common.{◌≡◌, ◌≢◌, ℕ, zero, suc, ◌+◌, ◌-◌, ◌/◌, ◌%◌, ◌<◌, ◌≤◌, ◌^◌, ◌⊎◌, inl, inr, min, IfSome, Bool, true}
use Rattle.std.proofs.Common.{false, ◌&&◌, nat_le, if◌then◌else◌, List, [], ◌∷◌, Option, Some, None, arith, refl, ap, ◌∙◌, sym, subst}
use Rattle.std.proofs.lemmas.Bool.Decides.{nat_tests}
use Rattle.std.proofs.lemmas.List.{get_or-set_other}
use Rattle.ocs_base.specs.Addr.{even_address}
use Rattle.ocs_base.specs.declared.beam.Beam.{Beam}
use Rattle.priority_ham.specs.PlaneCount.{planes_of}
use Rattle.serial_model.specs.Beam.{is_line_start}
use Rattle.serial_model.specs.PlaneFetch.{units_at, last_unit, last_unit_at, begins_unit, plane_pointer, is_in_unit, slot_plane, high_resolution}
use Rattle.serial_model.specs.PlaneFetch.{fetches_plane, fetched_plane, plane_dma, move_pointer, move_if_fetched, move_planes, IsUnitStart, IsLastUnit}
use Rattle.serial_model.specs.RegisterTable.{rows, row_at, is_pointer_high}
use Rattle.serial_model.specs.Registers.{Registers, kept_word, with_word}
use Rattle.serial_model.specs.SpriteFetch.{sprite_pointer}

-- a register that is named as the high word of a plane's or a sprite's pointer is one
pub plane_high : (offset plane : ℕ) → offset ≡ even_address 512 (plane_pointer plane) → 1 ≤ plane → plane ≤ 6 → is_pointer_high offset ≡ true
unfolding row_at rows
plane_high offset zero is low high = absurd (omega arith)
plane_high offset (suc zero) is low high = ap is_pointer_high is
plane_high offset (suc (suc zero)) is low high = ap is_pointer_high is
plane_high offset (suc (suc (suc zero))) is low high = ap is_pointer_high is
plane_high offset (suc (suc (suc (suc zero)))) is low high = ap is_pointer_high is
plane_high offset (suc (suc (suc (suc (suc zero))))) is low high = ap is_pointer_high is
plane_high offset (suc (suc (suc (suc (suc (suc zero)))))) is low high = ap is_pointer_high is
plane_high offset (suc (suc (suc (suc (suc (suc (suc n))))))) is low high = absurd (omega arith)

pub sprite_high : (offset sprite : ℕ) → offset ≡ even_address 512 (sprite_pointer sprite) → sprite < 8 → is_pointer_high offset ≡ true
unfolding row_at rows
sprite_high offset zero is high = ap is_pointer_high is
sprite_high offset (suc zero) is high = ap is_pointer_high is
sprite_high offset (suc (suc zero)) is high = ap is_pointer_high is
sprite_high offset (suc (suc (suc zero))) is high = ap is_pointer_high is
sprite_high offset (suc (suc (suc (suc zero)))) is high = ap is_pointer_high is
sprite_high offset (suc (suc (suc (suc (suc zero))))) is high = ap is_pointer_high is
sprite_high offset (suc (suc (suc (suc (suc (suc zero)))))) is high = ap is_pointer_high is
sprite_high offset (suc (suc (suc (suc (suc (suc (suc zero))))))) is high = ap is_pointer_high is
sprite_high offset (suc (suc (suc (suc (suc (suc (suc (suc n)))))))) is high = absurd (omega arith)

-- the last unit is known from the one before alone
last_if : (c : Bool) (h : ℕ) (before : List ℕ) → last_unit (if c then h ∷ before else before) ≡ (if c then Some h else last_unit before)
last_if true h before = refl
last_if false h before = refl

last_before : (c : Bool) (units : List ℕ) → last_unit (if c then [] else units) ≡ (if c then None else last_unit units)
last_before true units = refl
last_before false units = refl

pub last_unit-units_at : (b : Beam) (registers : Registers) (units : List ℕ) →
    last_unit (units_at b registers units) ≡ last_unit_at b registers (last_unit units)
unfolding units_at last_unit_at
last_unit-units_at b registers units =
    let before : List ℕ = if is_line_start b then [] else units in
    last_if (begins_unit b registers (last_unit before)) b.h before
    ∙ ap (λ last. if begins_unit b registers last then Some b.h else last) (last_before (is_line_start b) units)

-- a unit begins at a clock at which one can
pub begins_unit-is : (b : Beam) (registers : Registers) (last : Option ℕ) → IsLastUnit last → begins_unit b registers last ≡ true → IsUnitStart b.h
begins_unit-is b registers None at is = record { low = grind (arith, nat_tests); high = grind (arith, nat_tests); fourth = grind (arith, nat_tests) }
begins_unit-is b registers (Some start) at is = record {
  low = grind (arith, nat_tests, at.low);
  high = grind (arith, nat_tests, at.high);
  fourth = grind (arith, nat_tests, at.fourth);
}

kept_if : (c : Bool) (h : ℕ) (before : Option ℕ) → IsLastUnit before → (c ≡ true → IsUnitStart h) → IsLastUnit (if c then Some h else before)
kept_if true h before is at = at refl
kept_if false h before is at = is

forgotten_if : (c : Bool) (last : Option ℕ) → IsLastUnit last → IsLastUnit (if c then None else last)
forgotten_if true last is = tt
forgotten_if false last is = is

-- and so the last unit always began at one
pub last_unit_at-is : (b : Beam) (registers : Registers) (last : Option ℕ) → IsLastUnit last → IsLastUnit (last_unit_at b registers last)
unfolding last_unit_at
last_unit_at-is b registers last is =
    let before : Option ℕ = if is_line_start b then None else last in
    let at : IsLastUnit before = forgotten_if (is_line_start b) last is in
    kept_if (begins_unit b registers before) b.h before at (begins_unit-is b registers before at)

pub units_at-is : (b : Beam) (registers : Registers) (units : List ℕ) → IsLastUnit (last_unit units) → IsLastUnit (last_unit (units_at b registers units))
units_at-is b registers units is =
    subst IsLastUnit (sym (last_unit-units_at b registers units)) (last_unit_at-is b registers (last_unit units) is)

-- none begins between two multiples of four, nor at a line's first clock
pub last_unit_at-between : (b : Beam) (registers : Registers) (last : Option ℕ) → b.h % 4 ≢ 0 → IsLastUnit last → last_unit_at b registers last ≡ last
unfolding last_unit_at
last_unit_at-between b registers None off at = grind (arith, nat_tests)
last_unit_at-between b registers (Some start) off at = grind (arith, nat_tests, at.fourth)

pub last_unit_at-start : (b : Beam) (registers : Registers) (last : Option ℕ) → b.h ≡ 0 → last_unit_at b registers last ≡ None
unfolding last_unit_at
last_unit_at-start b registers last at = grind (arith, nat_tests)

pub last_unit_at-else : (b : Beam) (registers : Registers) (last : Option ℕ) → b.h ≢ 0
    → last_unit_at b registers last ≡ (if begins_unit b registers last then Some b.h else last)
unfolding last_unit_at
last_unit_at-else b registers last off =
    let not_start : is_line_start b ≡ false = grind (arith, nat_tests) in
    ap (λ c. if begins_unit b registers (if c then None else last) then Some b.h else (if c then None else last)) not_start

-- a plane that is fetched is one of the six, and its clock one of a unit's
pub record IsFetch (h plane : ℕ) : Type 0 where
  pub first : 1 ≤ plane
  pub most : plane ≤ 6
  pub low : 24 ≤ h
  pub high : h ≤ 223

most_planes : (hires : Bool) (bits : ℕ) → min bits (if hires then 4 else 6) ≤ 6
most_planes true bits = grind (arith, nat_tests)
most_planes false bits = grind (arith, nat_tests)

fetch_is : (h start plane most : ℕ) (on : Bool) → IsUnitStart start → most ≤ 6
    → (is_in_unit h start && (on && nat_le 1 plane && nat_le plane most)) ≡ true → IsFetch h plane
fetch_is h start plane most true at few is = record {
  first = grind (arith, nat_tests);
  most = grind (arith, nat_tests);
  low = grind (arith, nat_tests, at.low);
  high = grind (arith, nat_tests, at.high);
}
fetch_is h start plane most false at few is = grind (arith, nat_tests)

fetch_if : (c : Bool) (h plane : ℕ) → (c ≡ true → IsFetch h plane) → IfSome (if c then Some plane else None) (IsFetch h)
fetch_if true h plane is = is refl
fetch_if false h plane is = tt

pub fetched_plane-is : (h : ℕ) (registers : Registers) (last : Option ℕ) → IsLastUnit last → IfSome (fetched_plane h registers last) (IsFetch h)
fetched_plane-is h registers None at = tt
fetched_plane-is h registers (Some start) at =
    let plane : ℕ = slot_plane (high_resolution registers) (h - start) in
    fetch_if (is_in_unit h start && fetches_plane registers plane) h plane
    (fetch_is h start plane (planes_of (kept_word registers 0x100)) (plane_dma registers) at
    (most_planes (high_resolution registers) (kept_word registers 0x100 / 2 ^ 12 % 8)))

-- a moved pointer leaves the other registers
pub move_pointer-other : (high bytes : ℕ) (registers : Registers) (offset : ℕ) → offset / 2 ≢ high / 2 → offset / 2 ≢ (high + 2) / 2
    → kept_word (move_pointer high bytes registers) offset ≡ kept_word registers offset
move_pointer-other high bytes registers offset not_high not_low =
    get_or-set_other (with_word registers high _).words ((high + 2) / 2) (offset / 2) _ 0 not_low
    ∙ get_or-set_other registers.words (high / 2) (offset / 2) _ 0 not_high

-- so the fetches of planes leave all but the planes' pointers
abbrev pub IsNoPlanePointer : ℕ → Type 0
IsNoPlanePointer offset = (offset < 0xe0) ⊎ (0xf8 ≤ offset)

planes_kept : (h : ℕ) (last found : Option ℕ) (registers : Registers) (offset : ℕ) → IfSome found (IsFetch h) → IsNoPlanePointer offset
    → kept_word (move_if_fetched h last found registers) offset ≡ kept_word registers offset
planes_kept h last None registers offset is other = refl
planes_kept h None (Some plane) registers offset is other = refl
planes_kept h (Some start) (Some plane) registers offset is (inl low) =
    move_pointer-other (plane_pointer plane) _ registers offset (omega (arith, is.first, is.most)) (omega (arith, is.first, is.most))
planes_kept h (Some start) (Some plane) registers offset is (inr high) =
    move_pointer-other (plane_pointer plane) _ registers offset (omega (arith, is.first, is.most)) (omega (arith, is.first, is.most))

pub kept_word-move_planes : (h : ℕ) (last : Option ℕ) (registers : Registers) (offset : ℕ) → IsLastUnit last → IsNoPlanePointer offset
    → kept_word (move_planes h last registers) offset ≡ kept_word registers offset
kept_word-move_planes h last registers offset at other =
    planes_kept h last (fetched_plane h registers last) registers offset (fetched_plane-is h registers last at) other
