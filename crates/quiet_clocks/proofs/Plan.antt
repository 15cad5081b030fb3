-- The plan of a line.
use Rattle.std.proofs.Common.{◌≡◌, ◌≢◌, ◌<◌, ℕ, zero, suc, ◌+◌, ◌-◌, ◌*◌, ◌/◌, ◌==◌, Bool, true, false, not, ◌&&◌, ◌||◌, nat_le, nat_lt, min, max}
use Rattle.std.proofs.Common.{if◌then◌else◌, List, Option, Some, None, inl, inr, arith, refl, ap, ◌∙◌, sym, subst}
use Rattle.std.specs.Option.{option_map}
use Rattle.std.proofs.lemmas.List.{get_or-set_other}
use Rattle.irq_cia.specs.Bits.{has_bits}
use Rattle.ocs_base.specs.declared.beam.Beam.{Beam}
use Rattle.priority_ham.specs.PlaneCount.{is_hires, planes_of}
use Rattle.serial_model.specs.declared.registers.Writing.{Writing}
use Rattle.serial_model.specs.declared.registers.Writing.TheVariants as W
use Rattle.serial_model.specs.Beam.{is_line_start, later_beam}
use Rattle.serial_model.specs.Bus.{plane_wish, units_now}
use Rattle.serial_model.specs.PlaneFetch.{fetch_start, plane_dma, has_next, is_last_fetch, high_resolution, fetched_plane, last_unit}
use Rattle.serial_model.specs.PlaneFetch.{is_running, is_in_unit, begins_next, begins_first, begins_unit, slot_plane, plane_ask}
use Rattle.serial_model.specs.PlaneFetch.{last_unit_at, ask_for_plane, move_if_fetched, move_planes}
use Rattle.serial_model.specs.Registers.{Registers, kept_word, with_word, is_closed, words_in, words_after}
use Rattle.serial_model.specs.RegisterTable.{writing_at}
use Rattle.serial_model.specs.State.{Chips}
use Rattle.serial_model.specs.Window.{is_window_line}
use Rattle.serial_model.proofs.FetchLaws.{last_unit-units_at, kept_word-move_planes}
use Rattle.serial_model.specs.SpriteFetch.{move_sprites}
use Rattle.serial_model.proofs.SlotLaws.{kept_word-move_sprites}
use Rattle.quiet_clocks.specs.QuietClocks.{later_units}
use Rattle.quiet_clocks.specs.Plan.{Fetch, fetch_of, fetch_at, unit_on, Plan, IsPlanned, IsPlan, PlanNext, SameFetches, PlanKept}
use Rattle.quiet_clocks.specs.Plan.{IsNoFetchRegister, WriteKeepsFetches, FetchKeepsFetches, SpriteKeepsFetches, move_fetch, SaysClock, PlanSays, PlanSpan}

-- ---- a clock later

beam_later : (k : ℕ) (b : Beam) → later_beam k (later_beam 1 b) ≡ later_beam (suc k) b
beam_later k b =
    let e : b.h + 1 + k ≡ b.h + suc k = omega arith in
    ap (λ h. record b { h = h }) e

beam_now : (b : Beam) → later_beam 0 b ≡ b
beam_now b =
    let e : b.h + 0 ≡ b.h = omega arith in
    ap (λ h. record b { h = h }) e

unit_later : (k : ℕ) (b : Beam) (registers : Registers) (last : Option ℕ)
    → unit_on k (later_beam 1 b) registers (last_unit_at b registers last) ≡ unit_on (suc k) b registers last
unfolding unit_on
unit_later zero b registers last = ap (λ (now : Beam). last_unit_at now registers last) (sym (beam_now b))
unit_later (suc k) b registers last =
    ap (λ (now : Beam). last_unit_at now registers (unit_on k (later_beam 1 b) registers (last_unit_at b registers last))) (beam_later k b)
    ∙ ap (λ unit. last_unit_at (later_beam (suc k) b) registers unit) (unit_later k b registers last)

planned_later : (plan : Plan) (k : ℕ) (b : Beam) (registers : Registers) (last : Option ℕ)
    → IsPlanned plan (b.h + suc k) registers (unit_on (suc (suc k)) b registers last)
    → IsPlanned plan (b.h + 1 + k) registers (unit_on (suc k) (later_beam 1 b) registers (last_unit_at b registers last))
planned_later plan k b registers last planned =
    let e : b.h + suc k ≡ b.h + 1 + k = omega arith in
    let at : IsPlanned plan (b.h + 1 + k) registers (unit_on (suc (suc k)) b registers last) =
    subst (λ h. IsPlanned plan h registers (unit_on (suc (suc k)) b registers last)) e planned in
    subst (λ unit. IsPlanned plan (b.h + 1 + k) registers unit) (sym (unit_later (suc k) b registers last)) at

pub plan_next : PlanNext
plan_next plan b registers last is k low =
    planned_later plan k b registers last (is (suc k) (omega (arith, low)))

-- ---- other registers with the same fetches

next_same : (h v : ℕ) (moved registers : Registers) (last : Option ℕ) → SameFetches v moved registers
    → begins_next h moved last ≡ begins_next h registers last
next_same h v moved registers None same = refl
next_same h v moved registers (Some start) same =
    ap (λ end. (h == start + 8) && (nat_lt start end && nat_le (start + 8) 0xd8)) same.end

first_same : (b : Beam) (moved registers : Registers) → SameFetches b.v moved registers → begins_first b moved ≡ begins_first b registers
first_same b moved registers same =
    ap (λ start. (b.h == start) && nat_le start 0xd8 && plane_dma moved && is_window_line b.v (kept_word moved 0x8e) (kept_word moved 0x90)) same.start
    ∙ ap (λ dma. (b.h == fetch_start registers) && nat_le (fetch_start registers) 0xd8 && dma
    && is_window_line b.v (kept_word moved 0x8e) (kept_word moved 0x90)) same.dma
    ∙ ap (λ window. (b.h == fetch_start registers) && nat_le (fetch_start registers) 0xd8 && plane_dma registers && window) same.window

begins_same : (b : Beam) (moved registers : Registers) (last : Option ℕ) → SameFetches b.v moved registers
    → begins_unit b moved last ≡ begins_unit b registers last
begins_same b moved registers last same =
    ap (λ next. not (is_running b.h last) && (next || begins_first b moved)) (next_same b.h b.v moved registers last same)
    ∙ ap (λ first. not (is_running b.h last) && (begins_next b.h registers last || first)) (first_same b moved registers same)

unit_same : (b : Beam) (moved registers : Registers) (last : Option ℕ) → SameFetches b.v moved registers
    → last_unit_at b moved last ≡ last_unit_at b registers last
unfolding last_unit_at
unit_same b moved registers last same =
    let before : Option ℕ = if is_line_start b then None else last in
    ap (λ begins. if begins then Some b.h else before) (begins_same b moved registers before same)

units_same : (k : ℕ) (b : Beam) (moved registers : Registers) (last : Option ℕ) → SameFetches b.v moved registers
    → unit_on k b moved last ≡ unit_on k b registers last
unfolding unit_on
units_same zero b moved registers last same = refl
units_same (suc k) b moved registers last same =
    unit_same (later_beam k b) moved registers (unit_on k b moved last) same
    ∙ ap (λ unit. last_unit_at (later_beam k b) registers unit) (units_same k b moved registers last same)

plane_same : (h v start : ℕ) (moved registers : Registers) → SameFetches v moved registers
    → fetched_plane h moved (Some start) ≡ fetched_plane h registers (Some start)
plane_same h v start moved registers same =
    ap (λ high. let plane = slot_plane high (h - start) in
    if is_in_unit h start && (plane_dma moved && nat_le 1 plane && nat_le plane (planes_of (kept_word moved 0x100))) then Some plane else None) same.high
    ∙ ap (λ dma. let plane = slot_plane (high_resolution registers) (h - start) in
    if is_in_unit h start && (dma && nat_le 1 plane && nat_le plane (planes_of (kept_word moved 0x100))) then Some plane else None) same.dma
    ∙ ap (λ planes. let plane = slot_plane (high_resolution registers) (h - start) in
    if is_in_unit h start && (plane_dma registers && nat_le 1 plane && nat_le plane planes) then Some plane else None) same.planes

fetch_same : (h v : ℕ) (last : Option ℕ) (moved registers : Registers) → SameFetches v moved registers
    → fetch_at h moved last ≡ fetch_at h registers last
fetch_same h v None moved registers same = refl
fetch_same h v (Some start) moved registers same =
    ap (λ high. option_map (fetch_of (is_last_fetch high (h - start) && not (has_next moved start))) (fetched_plane h moved (Some start))) same.high
    ∙ ap (λ end. option_map (fetch_of (is_last_fetch (high_resolution registers) (h - start) && not (nat_lt start end && nat_le (start + 8) 0xd8)))
    (fetched_plane h moved (Some start))) same.end
    ∙ ap (λ found. option_map (fetch_of (is_last_fetch (high_resolution registers) (h - start) && not (has_next registers start))) found)
    (plane_same h v start moved registers same)

planned_same : (plan : Plan) (h v : ℕ) (moved registers : Registers) (unit other : Option ℕ) → SameFetches v moved registers → other ≡ unit
    → IsPlanned plan h registers unit → IsPlanned plan h moved other
planned_same plan h v moved registers unit other same is planned = record {
  fetch = planned.fetch ∙ sym (fetch_same h v unit moved registers same) ∙ ap (λ last. fetch_at h moved last) (sym is);
  unit = planned.unit ∙ sym is;
}

pub plan_kept : PlanKept
plan_kept plan b moved registers last same is k low =
    planned_same plan (b.h + k) b.v moved registers (unit_on (suc k) b registers last) (unit_on (suc k) b moved last) same
    (units_same (suc k) b moved registers last same) (is k low)

-- ---- what keeps the fetches

pub record SameWords (moved registers : Registers) : Type 0 where
  pub diwstrt : kept_word moved 0x8e ≡ kept_word registers 0x8e
  pub diwstop : kept_word moved 0x90 ≡ kept_word registers 0x90
  pub ddfstrt : kept_word moved 0x92 ≡ kept_word registers 0x92
  pub ddfstop : kept_word moved 0x94 ≡ kept_word registers 0x94
  pub dmacon : kept_word moved 0x96 ≡ kept_word registers 0x96
  pub bplcon0 : kept_word moved 0x100 ≡ kept_word registers 0x100

same_by_words : (v : ℕ) (moved registers : Registers) → SameWords moved registers → SameFetches v moved registers
same_by_words v moved registers same = record {
  start = ap (λ word. max 0x18 word / 4 * 4) same.ddfstrt;
  end = ap (λ word. min 0xd8 word / 4 * 4) same.ddfstop;
  dma = ap (λ word. has_bits word 768) same.dmacon;
  high = ap is_hires same.bplcon0;
  planes = ap planes_of same.bplcon0;
  window = ap (λ word. is_window_line v word (kept_word moved 0x90)) same.diwstrt
      ∙ ap (λ word. is_window_line v (kept_word registers 0x8e) word) same.diwstop;
}

same_itself : (registers : Registers) → SameWords registers registers
same_itself registers = record { diwstrt = refl; diwstop = refl; ddfstrt = refl; ddfstop = refl; dmacon = refl; bplcon0 = refl }

other_word : (registers : Registers) (offset word at : ℕ) → offset / 2 ≢ at / 2 → kept_word (with_word registers offset word) at ≡ kept_word registers at
other_word registers offset word at other =
    get_or-set_other registers.words (offset / 2) (at / 2) word 0 (λ is. other (sym is))

same_with_word : (registers : Registers) (offset word : ℕ) → IsNoFetchRegister offset → SameWords (with_word registers offset word) registers
same_with_word registers offset word other = record {
  diwstrt = other_word registers offset word 0x8e other.diwstrt;
  diwstop = other_word registers offset word 0x90 other.diwstop;
  ddfstrt = other_word registers offset word 0x92 other.ddfstrt;
  ddfstop = other_word registers offset word 0x94 other.ddfstop;
  dmacon = other_word registers offset word 0x96 other.dmacon;
  bplcon0 = other_word registers offset word 0x100 other.bplcon0;
}

same_written : (way : Writing) (registers : Registers) (offset word : ℕ) → IsNoFetchRegister offset → SameWords (words_in way registers offset word) registers
same_written W.Ignored registers offset word other = same_itself registers
same_written W.Plain registers offset word other = same_with_word registers offset _ other
same_written W.PointerHigh registers offset word other = same_with_word registers offset _ other
same_written W.SetOrClear registers offset word other = same_with_word registers offset _ other
same_written (W.Jump list) registers offset word other = same_with_word registers offset _ other
same_written W.Blit registers offset word other = same_with_word registers offset _ other
same_written W.Picture registers offset word other = same_with_word registers offset _ other
same_written W.Interrupt registers offset word other = same_itself registers
same_written W.Field registers offset word other = same_with_word registers offset _ other

same_unless : (closed : Bool) (registers written : Registers) → SameWords written registers → SameWords (if closed then registers else written) registers
same_unless true registers written same = same_itself registers
same_unless false registers written same = same

pub write_keeps : WriteKeepsFetches
unfolding words_after
write_keeps v busy registers offset word other =
    same_by_words v (words_after busy registers offset word) registers
    (same_unless (is_closed busy offset) registers (words_in (writing_at offset) registers offset word)
    (same_written (writing_at offset) registers offset word other))

pub fetch_keeps : FetchKeepsFetches
fetch_keeps v h last registers at = same_by_words v (move_planes h last registers) registers (record {
  diwstrt = kept_word-move_planes h last registers 0x8e at (inl (omega arith));
  diwstop = kept_word-move_planes h last registers 0x90 at (inl (omega arith));
  ddfstrt = kept_word-move_planes h last registers 0x92 at (inl (omega arith));
  ddfstop = kept_word-move_planes h last registers 0x94 at (inl (omega arith));
  dmacon = kept_word-move_planes h last registers 0x96 at (inl (omega arith));
  bplcon0 = kept_word-move_planes h last registers 0x100 at (inr (omega arith));
})

pub sprite_keeps : SpriteKeepsFetches
sprite_keeps v h kinds taken registers = same_by_words v (move_sprites h kinds taken registers) registers (record {
  diwstrt = kept_word-move_sprites h kinds taken registers 0x8e (omega arith);
  diwstop = kept_word-move_sprites h kinds taken registers 0x90 (omega arith);
  ddfstrt = kept_word-move_sprites h kinds taken registers 0x92 (omega arith);
  ddfstop = kept_word-move_sprites h kinds taken registers 0x94 (omega arith);
  dmacon = kept_word-move_sprites h kinds taken registers 0x96 (omega arith);
  bplcon0 = kept_word-move_sprites h kinds taken registers 0x100 (omega arith);
})

-- ---- what a plan says

ask_found : (registers : Registers) (modulo : Bool) (found : Option ℕ)
    → option_map (λ plane. ask_for_plane registers plane) found
    ≡ option_map (λ (fetch : Fetch). ask_for_plane registers fetch.plane) (option_map (fetch_of modulo) found)
ask_found registers modulo None = refl
ask_found registers modulo (Some plane) = refl

ask_of_fetch : (h : ℕ) (registers : Registers) (last : Option ℕ)
    → plane_ask h registers last ≡ option_map (λ (fetch : Fetch). ask_for_plane registers fetch.plane) (fetch_at h registers last)
ask_of_fetch h registers None = refl
ask_of_fetch h registers (Some start) =
    ask_found registers (is_last_fetch (high_resolution registers) (h - start) && not (has_next registers start)) (fetched_plane h registers (Some start))

moves_found : (h start : ℕ) (registers : Registers) (found : Option ℕ)
    → move_if_fetched h (Some start) found registers
    ≡ move_fetch (option_map (fetch_of (is_last_fetch (high_resolution registers) (h - start) && not (has_next registers start))) found) registers
moves_found h start registers None = refl
moves_found h start registers (Some plane) = refl

moves_of_fetch : (h : ℕ) (registers : Registers) (last : Option ℕ) → move_planes h last registers ≡ move_fetch (fetch_at h registers last) registers
moves_of_fetch h registers None = refl
moves_of_fetch h registers (Some start) = moves_found h start registers (fetched_plane h registers (Some start))

-- the last unit of a later clock
last_later : (k : ℕ) (b : Beam) (registers : Registers) (units : List ℕ)
    → last_unit (later_units k b registers units) ≡ unit_on k b registers (last_unit units)
unfolding later_units unit_on
last_later zero b registers units = refl
last_later (suc k) b registers units =
    last_unit-units_at (later_beam k b) registers (later_units k b registers units)
    ∙ ap (λ last. last_unit_at (later_beam k b) registers last) (last_later k b registers units)

none_asked : (registers : Registers) (fetch : Option Fetch) → fetch ≡ None
    → option_map (λ (fetch : Fetch). ask_for_plane registers fetch.plane) fetch ≡ None
none_asked registers fetch is = ap (λ (f : Option Fetch). option_map (λ (fetch : Fetch). ask_for_plane registers fetch.plane) f) is

wish_later : (k : ℕ) (b : Beam) (c : Chips)
    → plane_wish (later_beam k b) (record c { units = later_units k b c.registers c.units })
    ≡ option_map (λ (fetch : Fetch). ask_for_plane c.registers fetch.plane) (fetch_at (b.h + k) c.registers (unit_on (suc k) b c.registers (last_unit c.units)))
unfolding later_units
wish_later k b c =
    ap (λ last. plane_ask (b.h + k) c.registers last) (last_later (suc k) b c.registers c.units)
    ∙ ask_of_fetch (b.h + k) c.registers (unit_on (suc k) b c.registers (last_unit c.units))

pub plan_span : PlanSpan
plan_span plan b c is k low =
    let planned : IsPlanned plan (b.h + k) c.registers (unit_on (suc k) b c.registers (last_unit c.units)) = is k low in
    record {
      wish = λ none. wish_later k b c ∙ none_asked c.registers _ (sym planned.fetch ∙ none);
      unit = last_later (suc k) b c.registers c.units ∙ sym planned.unit;
    }

planned_now : (plan : Plan) (b : Beam) (registers : Registers) (last : Option ℕ) → b.h < 228 → IsPlan plan b registers last
    → IsPlanned plan b.h registers (last_unit_at b registers last)
unfolding unit_on
planned_now plan b registers last low is =
    let e : b.h + 0 ≡ b.h = omega arith in
    let there : IsPlanned plan (b.h + 0) registers (last_unit_at (later_beam 0 b) registers last) = is 0 (omega (arith, low)) in
    let here : IsPlanned plan b.h registers (last_unit_at (later_beam 0 b) registers last) =
    subst (λ h. IsPlanned plan h registers (last_unit_at (later_beam 0 b) registers last)) e there in
    subst (λ (now : Beam). IsPlanned plan b.h registers (last_unit_at now registers last)) (beam_now b) here

says_by : (plan : Plan) (b : Beam) (c : Chips) (last : Option ℕ) → last_unit (units_now b c) ≡ last → IsPlanned plan b.h c.registers last
    → SaysClock plan b c
says_by plan b c last is planned = record {
  wish = ap (λ unit. plane_ask b.h c.registers unit) is ∙ ask_of_fetch b.h c.registers last
      ∙ ap (λ (f : Option Fetch). option_map (λ (fetch : Fetch). ask_for_plane c.registers fetch.plane) f) (sym planned.fetch);
  unit = is ∙ sym planned.unit;
  moves = ap (λ unit. move_planes b.h unit c.registers) is ∙ moves_of_fetch b.h c.registers last
      ∙ ap (λ (f : Option Fetch). move_fetch f c.registers) (sym planned.fetch);
}

pub plan_says : PlanSays
plan_says plan b c low is =
    says_by plan b c (last_unit_at b c.registers (last_unit c.units)) (last_unit-units_at b c.registers c.units)
    (planned_now plan b c.registers (last_unit c.units) low is)
