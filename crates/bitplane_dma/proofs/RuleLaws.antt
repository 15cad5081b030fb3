-- What decides the fetches of a line decides them as the registers do.
use Rattle.std.proofs.Common.{◌≡◌, ◌≤◌, ◌<◌, ℕ, ◌+◌, ◌-◌, ◌/◌, ◌*◌, ◌%◌, Bool, true, false, not, ◌&&◌, ◌||◌, ◌==◌, nat_le, nat_lt, min, max, if◌then◌else◌}
use Rattle.std.proofs.Common.{zero, suc, slice_index, inl, inr, Option, Some, None, arith, refl, ap, ◌∙◌, sym, subst}
use Rattle.std.proofs.lemmas.Bool.Decides.{nat_tests}
use Rattle.irq_cia.specs.Bits.{has_bits}
use Rattle.ocs_base.specs.declared.beam.Beam.{Beam}
use Rattle.ocs_base.specs.Sizes.{bytes_of}
use Rattle.ocs_base.specs.declared.chip_size.ChipSize.{ChipSize}
use Rattle.priority_ham.specs.PlaneCount.{is_hires, planes_of}
use Rattle.serial_model.specs.PlaneFetch.{fetch_start, fetch_end, plane_dma, high_resolution, is_in_unit}
use Rattle.serial_model.specs.PlaneFetch.{is_running, has_next, begins_next, begins_first, begins_unit}
use Rattle.serial_model.specs.PlaneFetch.{slot_plane, fetched_plane, is_last_fetch, added_bytes, modulo_bytes, move_planes}
use Rattle.serial_model.specs.PlaneFetch.{move_if_fetched, move_pointer, plane_pointer, plane_ask, ask_for_plane, IsLastUnit}
use Rattle.std.specs.Option.{option_map}
use Rattle.serial_model.specs.declared.fetch.PlaneAsk.{PlaneAsk}
use Rattle.serial_model.specs.Registers.{Registers, kept_word}
use Rattle.serial_model.specs.Window.{is_window_line}
use Rattle.serial_model.proofs.FetchLaws.{IsNoPlanePointer, kept_word-move_planes}
use Rattle.bitplane_dma.specs.Rules.{first_unit, rules_of, is_first, follows_by, begins_by, planes_by, fetched_in_slot, slots_by, plane_by, bytes_by}
use Rattle.bitplane_dma.specs.declared.rules.FetchRules.{FetchRules}

-- ---- units

next_at : (start end : ℕ) → nat_lt start (min end 0xd1) ≡ (nat_lt start end && nat_le (start + 8) 0xd8)
next_at start end = grind (arith, nat_tests)

next_as : (v start : ℕ) (registers : Registers) → nat_lt start (rules_of v registers).end ≡ has_next registers start
next_as v start registers = next_at start (fetch_end registers)

follows_as : (v h : ℕ) (registers : Registers) (last : Option ℕ) → follows_by (rules_of v registers) h last ≡ begins_next h registers last
follows_as v h registers None = refl
follows_as v h registers (Some start) = ap (λ next. (h == start + 8) && next) (next_as v start registers)

first_if : (some : Bool) (h start : ℕ) → is_first h (if some then Some start else None) ≡ (some && (h == start))
first_if true h start = refl
first_if false h start = refl

in_order : (dma low window at : Bool) → ((dma && (low && window)) && at) ≡ (((at && low) && dma) && window)
in_order true true true true = refl
in_order true true true false = refl
in_order true true false true = refl
in_order true true false false = refl
in_order true false true true = refl
in_order true false true false = refl
in_order true false false true = refl
in_order true false false false = refl
in_order false true true true = refl
in_order false true true false = refl
in_order false true false true = refl
in_order false true false false = refl
in_order false false true true = refl
in_order false false true false = refl
in_order false false false true = refl
in_order false false false false = refl

first_as : (b : Beam) (registers : Registers) → is_first b.h (first_unit b.v registers) ≡ begins_first b registers
first_as b registers =
    let low : Bool = nat_le (fetch_start registers) 0xd8 in
    let window : Bool = is_window_line b.v (kept_word registers 0x8e) (kept_word registers 0x90) in
    first_if (plane_dma registers && (low && window)) b.h (fetch_start registers)
    ∙ in_order (plane_dma registers) low window (b.h == fetch_start registers)

pub begins_as : (b : Beam) (registers : Registers) (last : Option ℕ) → begins_by (rules_of b.v registers) b.h last ≡ begins_unit b registers last
begins_as b registers last =
    ap (λ follows. not (is_running b.h last) && (follows || is_first b.h (first_unit b.v registers))) (follows_as b.v b.h registers last)
    ∙ ap (λ first. not (is_running b.h last) && (begins_next b.h registers last || first)) (first_as b registers)

-- ---- fetches

zero_if : (few : Bool) → zero ≡ (if few then zero else zero)
zero_if true = refl
zero_if false = refl

-- a slot behind the eighth fetches none
none_behind : (high : Bool) (planes slot : ℕ) → 0 ≡ fetched_in_slot high planes (suc (suc (suc (suc (suc (suc (suc (suc slot))))))))
none_behind true planes slot = zero_if (nat_le 0 planes)
none_behind false planes slot = zero_if (nat_le 0 planes)

in_slot : (high : Bool) (planes slot : ℕ) → slice_index (slots_by high planes) slot ≡ fetched_in_slot high planes slot
unfolding slots_by
in_slot high planes zero = refl
in_slot high planes (suc zero) = refl
in_slot high planes (suc (suc zero)) = refl
in_slot high planes (suc (suc (suc zero))) = refl
in_slot high planes (suc (suc (suc (suc zero)))) = refl
in_slot high planes (suc (suc (suc (suc (suc zero))))) = refl
in_slot high planes (suc (suc (suc (suc (suc (suc zero)))))) = refl
in_slot high planes (suc (suc (suc (suc (suc (suc (suc zero))))))) = refl
in_slot high planes (suc (suc (suc (suc (suc (suc (suc (suc slot)))))))) = none_behind high planes slot

-- no slot fetches a plane above the sixth
at_most : (few : Bool) (plane : ℕ) → plane ≤ 6 → (if few then plane else 0) ≤ 6
at_most true plane most = most
at_most false plane most = omega arith

slot_at_most : (high : Bool) (slot : ℕ) → slot_plane high slot ≤ 6
slot_at_most true zero = omega arith
slot_at_most true (suc zero) = omega arith
slot_at_most true (suc (suc zero)) = omega arith
slot_at_most true (suc (suc (suc zero))) = omega arith
slot_at_most true (suc (suc (suc (suc zero)))) = omega arith
slot_at_most true (suc (suc (suc (suc (suc zero))))) = omega arith
slot_at_most true (suc (suc (suc (suc (suc (suc zero)))))) = omega arith
slot_at_most true (suc (suc (suc (suc (suc (suc (suc zero))))))) = omega arith
slot_at_most true (suc (suc (suc (suc (suc (suc (suc (suc slot)))))))) = omega arith
slot_at_most false zero = omega arith
slot_at_most false (suc zero) = omega arith
slot_at_most false (suc (suc zero)) = omega arith
slot_at_most false (suc (suc (suc zero))) = omega arith
slot_at_most false (suc (suc (suc (suc zero)))) = omega arith
slot_at_most false (suc (suc (suc (suc (suc zero))))) = omega arith
slot_at_most false (suc (suc (suc (suc (suc (suc zero)))))) = omega arith
slot_at_most false (suc (suc (suc (suc (suc (suc (suc zero))))))) = omega arith
slot_at_most false (suc (suc (suc (suc (suc (suc (suc (suc slot)))))))) = omega arith

pub slot_most : (v slot : ℕ) (registers : Registers) (rules : FetchRules) → rules ≡ rules_of v registers → slice_index rules.slots slot ≤ 6
slot_most v slot registers rules same =
    let high : Bool = high_resolution registers in
    let planes : ℕ = planes_by registers in
    subst (λ plane. plane ≤ 6) (sym (ap (λ (r : FetchRules). slice_index r.slots slot) same ∙ in_slot high planes slot))
    (at_most (nat_le (slot_plane high slot) planes) (slot_plane high slot) (slot_at_most high slot))

and_true : (some : Bool) → some ≡ (some && true)
and_true true = refl
and_true false = refl

and_false : (some : Bool) → false ≡ (some && false)
and_false true = refl
and_false false = refl

-- a slot fetches its plane where that is one and not above the number of planes
slot_as : (within few : Bool) (plane : ℕ) → (if within && nat_le 1 (if few then plane else 0) then Some (if few then plane else 0) else None)
    ≡ (if within && (nat_le 1 plane && few) then Some plane else None)
slot_as true true plane = ap (λ some. if some then Some plane else None) (and_true (nat_le 1 plane))
slot_as true false plane = ap (λ some. if some then Some plane else None) (and_false (nat_le 1 plane))
slot_as false few plane = refl

none_of_none : (plane : ℕ) → (nat_le 1 plane && nat_le plane 0) ≡ false
none_of_none plane = grind (arith, nat_tests)

few_as : (dma : Bool) (plane planes : ℕ) → (nat_le 1 plane && nat_le plane (if dma then planes else 0)) ≡ ((dma && nat_le 1 plane) && nat_le plane planes)
few_as true plane planes = refl
few_as false plane planes = none_of_none plane

pub plane_as : (v h start : ℕ) (registers : Registers) → plane_by (rules_of v registers) h start ≡ fetched_plane h registers (Some start)
plane_as v h start registers =
    let high : Bool = high_resolution registers in
    let planes : ℕ = planes_by registers in
    let plane : ℕ = slot_plane high (h - start) in
    ap (λ plane. if is_in_unit h start && nat_le 1 plane then Some plane else None) (in_slot high planes (h - start))
    ∙ slot_as (is_in_unit h start) (nat_le plane planes) plane
    ∙ ap (λ fetches. if is_in_unit h start && fetches then Some plane else None)
    (few_as (plane_dma registers) plane (planes_of (kept_word registers 0x100)))

-- in a unit it is that of its slot, where that fetches one
found_in_unit : (rules : FetchRules) (h start plane : ℕ) → start ≤ h → h < start + 8 → plane ≡ slice_index rules.slots (h - start)
    → (if nat_le 1 plane then Some plane else None) ≡ plane_by rules h start
found_in_unit rules h start plane low high is =
    let slot : ℕ = slice_index rules.slots (h - start) in
    let within : is_in_unit h start ≡ true = grind (arith, nat_tests, low, high) in
    ap (λ p. if nat_le 1 p then Some p else None) is
    ∙ sym (ap (λ within. if within && nat_le 1 slot then Some slot else None) within)

pub some_in_unit : (rules : FetchRules) (h start plane : ℕ) → start ≤ h → h < start + 8 → plane ≡ slice_index rules.slots (h - start)
    → 1 ≤ plane → Some plane ≡ plane_by rules h start
some_in_unit rules h start plane low high is does =
    let fetches : nat_le 1 plane ≡ true = grind (arith, nat_tests, does) in
    sym (ap (λ f. if f then Some plane else None) fetches) ∙ found_in_unit rules h start plane low high is

pub none_in_unit : (rules : FetchRules) (h start plane : ℕ) → start ≤ h → h < start + 8 → plane ≡ slice_index rules.slots (h - start)
    → plane ≡ 0 → plane_by rules h start ≡ None
none_in_unit rules h start plane low high is lacks =
    sym (found_in_unit rules h start plane low high is) ∙ ap (λ p. if nat_le 1 p then Some p else None) lacks

word_as : (odd : Bool) (registers : Registers) → (if odd then kept_word registers 0x108 else kept_word registers 0x10a)
    ≡ kept_word registers (if odd then 0x108 else 0x10a)
word_as true registers = refl
word_as false registers = refl

pub bytes_as : (v h start plane : ℕ) (registers : Registers) → bytes_by (rules_of v registers) h start plane ≡ added_bytes h registers start plane
bytes_as v h start plane registers =
    let last : Bool = is_last_fetch (high_resolution registers) (h - start) in
    let word : ℕ = if plane % 2 == 1 then kept_word registers 0x108 else kept_word registers 0x10a in
    ap (λ next. if last && not next then modulo_bytes word else 0) (next_as v start registers)
    ∙ ap (λ word. if last && not (has_next registers start) then modulo_bytes word else 0) (word_as (plane % 2 == 1) registers)

-- ---- what a fetch keeps

abbrev rules_by : ℕ → ChipSize → ℕ → ℕ → ℕ → ℕ → ℕ → ℕ → ℕ → ℕ → FetchRules
rules_by v size diwstrt diwstop ddfstrt ddfstop dmacon bplcon0 odd even = record {
  first = if has_bits dmacon 768 && (nat_le (max 0x18 ddfstrt / 4 * 4) 0xd8 && is_window_line v diwstrt diwstop)
      then Some (max 0x18 ddfstrt / 4 * 4)
      else None;
  end = min (min 0xd8 ddfstop / 4 * 4) 0xd1;
  high = is_hires bplcon0;
  slots = slots_by (is_hires bplcon0) (if has_bits dmacon 768 then planes_of bplcon0 else 0);
  odd = odd;
  even = even;
  size = size;
  mask = bytes_of size - 2;
}

-- the size of chip memory stays
size_kept : (h : ℕ) (last found : Option ℕ) (registers : Registers) → (move_if_fetched h last found registers).size ≡ registers.size
size_kept h last None registers = refl
size_kept h None (Some plane) registers = refl
size_kept h (Some start) (Some plane) registers = refl

pub rules_kept : (v h : ℕ) (last : Option ℕ) (registers : Registers) → IsLastUnit last → rules_of v (move_planes h last registers) ≡ rules_of v registers
rules_kept v h last registers at =
    let size : ChipSize = registers.size in
    let old : ℕ → ℕ = λ offset. kept_word registers offset in
    let new : ℕ → ℕ = λ offset. kept_word (move_planes h last registers) offset in
    let same : (offset : ℕ) → IsNoPlanePointer offset → new offset ≡ old offset = λ offset other. kept_word-move_planes h last registers offset at other in
    ap (λ (size : ChipSize). rules_by v size (new 0x8e) (new 0x90) (new 0x92) (new 0x94) (new 0x96) (new 0x100) (new 0x108) (new 0x10a))
    (size_kept h last (fetched_plane h registers last) registers)
    ∙ ap (λ word. rules_by v size word (new 0x90) (new 0x92) (new 0x94) (new 0x96) (new 0x100) (new 0x108) (new 0x10a)) (same 0x8e (inl (omega arith)))
    ∙ ap (λ word. rules_by v size (old 0x8e) word (new 0x92) (new 0x94) (new 0x96) (new 0x100) (new 0x108) (new 0x10a)) (same 0x90 (inl (omega arith)))
    ∙ ap (λ word. rules_by v size (old 0x8e) (old 0x90) word (new 0x94) (new 0x96) (new 0x100) (new 0x108) (new 0x10a)) (same 0x92 (inl (omega arith)))
    ∙ ap (λ word. rules_by v size (old 0x8e) (old 0x90) (old 0x92) word (new 0x96) (new 0x100) (new 0x108) (new 0x10a)) (same 0x94 (inl (omega arith)))
    ∙ ap (λ word. rules_by v size (old 0x8e) (old 0x90) (old 0x92) (old 0x94) word (new 0x100) (new 0x108) (new 0x10a)) (same 0x96 (inl (omega arith)))
    ∙ ap (λ word. rules_by v size (old 0x8e) (old 0x90) (old 0x92) (old 0x94) (old 0x96) word (new 0x108) (new 0x10a)) (same 0x100 (inr (omega arith)))
    ∙ ap (λ word. rules_by v size (old 0x8e) (old 0x90) (old 0x92) (old 0x94) (old 0x96) (old 0x100) word (new 0x10a)) (same 0x108 (inr (omega arith)))
    ∙ ap (λ word. rules_by v size (old 0x8e) (old 0x90) (old 0x92) (old 0x94) (old 0x96) (old 0x100) (old 0x108) word) (same 0x10a (inr (omega arith)))

-- ---- the fetch of a clock

found_as : (v h start plane : ℕ) (registers : Registers) (rules : FetchRules) → rules ≡ rules_of v registers → Some plane ≡ plane_by rules h start
    → fetched_plane h registers (Some start) ≡ Some plane
found_as v h start plane registers rules same found =
    sym (plane_as v h start registers) ∙ ap (λ (r : FetchRules). plane_by r h start) (sym same) ∙ sym found

pub asked_as : (v h start plane : ℕ) (registers : Registers) (rules : FetchRules) (ask : PlaneAsk) → rules ≡ rules_of v registers
    → Some plane ≡ plane_by rules h start → ask ≡ ask_for_plane registers plane → Some ask ≡ plane_ask h registers (Some start)
asked_as v h start plane registers rules ask same found asks =
    ap (λ (a : PlaneAsk). Some a) asks
    ∙ ap (λ (f : Option ℕ). option_map (λ plane. ask_for_plane registers plane) f) (sym (found_as v h start plane registers rules same found))

pub moved_as : (v h start plane bytes : ℕ) (registers moved : Registers) (rules : FetchRules) → rules ≡ rules_of v registers
    → Some plane ≡ plane_by rules h start → bytes ≡ bytes_by rules h start plane → moved ≡ move_pointer (plane_pointer plane) bytes registers
    → moved ≡ move_planes h (Some start) registers
moved_as v h start plane bytes registers moved rules same found adds moves =
    moves
    ∙ ap (λ n. move_pointer (plane_pointer plane) n registers)
    (adds ∙ ap (λ (r : FetchRules). bytes_by r h start plane) same ∙ bytes_as v h start plane registers)
    ∙ ap (λ (f : Option ℕ). move_if_fetched h (Some start) f registers) (sym (found_as v h start plane registers rules same found))

-- and the same of a slot in which no plane is fetched
none_found : (v h start : ℕ) (registers : Registers) (rules : FetchRules) → rules ≡ rules_of v registers → plane_by rules h start ≡ None
    → fetched_plane h registers (Some start) ≡ None
none_found v h start registers rules same none =
    sym (plane_as v h start registers) ∙ ap (λ (r : FetchRules). plane_by r h start) (sym same) ∙ none

pub none_asked : (v h start : ℕ) (registers : Registers) (rules : FetchRules) → rules ≡ rules_of v registers → plane_by rules h start ≡ None
    → None ≡ plane_ask h registers (Some start)
none_asked v h start registers rules same none =
    ap (λ (f : Option ℕ). option_map (λ plane. ask_for_plane registers plane) f) (sym (none_found v h start registers rules same none))

pub none_moved : (v h start : ℕ) (registers : Registers) (rules : FetchRules) → rules ≡ rules_of v registers → plane_by rules h start ≡ None
    → registers ≡ move_planes h (Some start) registers
none_moved v h start registers rules same none =
    ap (λ (f : Option ℕ). move_if_fetched h (Some start) f registers) (sym (none_found v h start registers rules same none))
