-- What a painter of a band keeps beside its painter.
use Rattle.std.proofs.Common.{◌≡◌, ◌≢◌, ◌≤◌, ℕ, zero, suc, ◌-◌, ◌*◌, ◌/◌, ◌%◌, ◌==◌, Bool, true, false, List, [], ◌∷◌, ◌++◌, None}
use Rattle.std.proofs.Common.{replicate, slice_index, slice_set, refl, sym, ap, subst, arith, ◌<◌, nat_le, ◌+◌, ◌∙◌}
use Rattle.std.specs.Bool.{if◌then◌else◌}
use Rattle.std.proofs.lemmas.Bool.Decides.{nat_tests}
use Rattle.ocs_base.specs.declared.beam.Beam.{Beam}
use Rattle.ocs_base.specs.declared.system.System.{System}
use Rattle.planes.specs.declared.load.Load.{Load}
use Rattle.planes.specs.PlaneBit.{ShowsSame, load_of}
use Rattle.planes.proofs.Standing.{ShowsSame-refl, ShowsSame-later, ShowsSame-loaded}
use Rattle.priority_ham.specs.PlaneCount.{is_hires}
use Rattle.serial_model.specs.Beam.{is_line_start}
use Rattle.serial_model.specs.declared.picture.Denise.{Denise}
use Rattle.serial_model.specs.Picture.{set_picture, set_sprite, is_latch, is_sprite, is_colour, clear_line}
use Rattle.serial_model.specs.Spans.{after_shows}
use Rattle.painter.specs.Painter.{IsPainterOf}
use Rattle.serial_model.specs.StandsFor.{StandsFor}
use Rattle.band_draw.specs.declared.band_painter.BandPainter.{BandPainter}
use Rattle.band_draw.specs.BandPainter.{IsBandPainterOf, opened}

-- of writes that of BPL1DAT alone changes the loads
loads_if : (b : Bool) (p q : Denise) (l : List Load) → p.loads ≡ l → q.loads ≡ l → (if b then p else q).loads ≡ l
loads_if true p q l one two = one
loads_if false p q l one two = two

loads_else : (b : Bool) (p q : Denise) (l : List Load) → b ≡ false → q.loads ≡ l → (if b then p else q).loads ≡ l
loads_else true p q l is two = cc
loads_else false p q l is two = two

pub loads_kept : (h offset word : ℕ) (p : Denise) → offset ≢ 0x110 → (set_picture h offset word p).loads ≡ p.loads
unfolding set_picture
loads_kept h offset word p other =
    let n : ℕ = (offset - 0x140) / 8 in
    let which : ℕ = (offset - 0x140) % 8 in
    let l : List Load = p.loads in
    let not_first : (offset == 0x110) ≡ false = grind (arith, nat_tests) in
    let sprite : (set_sprite n which word p).loads ≡ l =
    loads_if (which == 0) _ _ l refl (loads_if (which == 2) _ _ l refl (loads_if (which == 4) _ _ l refl refl)) in
    loads_if (offset == 0x08e) _ _ l refl
    (loads_if (offset == 0x090) _ _ l refl
    (loads_if (offset == 0x098) _ _ l refl
    (loads_if (offset == 0x100) _ _ l refl
    (loads_if (offset == 0x102) _ _ l refl
    (loads_if (offset == 0x104) _ _ l refl
    (loads_else (offset == 0x110) _ _ l not_first
    (loads_if (is_latch offset) _ _ l refl
    (loads_if (is_sprite offset) _ _ l sprite (loads_if (is_colour offset) _ _ l refl refl)))))))))

-- which adds one
pub load_added : (h from word : ℕ) (old new : List Load) (p : Denise) → 4 * h ≤ from → ShowsSame from old p.loads →
    (let q = set_picture h 0x110 word p in ShowsSame (4 * h) new (old ++ load_of h q.latches q.con1 (is_hires q.con0) ∷ [])) →
    ShowsSame from new (set_picture h 0x110 word p).loads
unfolding set_picture
load_added h from word old new p later stood made =
    let load : Load = load_of h (slice_set p.latches 0 word) p.con1 (is_hires p.con0) in
    ShowsSame-loaded from from old new p.loads load (omega arith)
    (ShowsSame-later (4 * h) from new (old ++ load ∷ []) later made) stood

-- picture steps change none
pub loads_shown : (system : System) (v h n : ℕ) (p : Denise) → (after_shows system v h n p).loads ≡ p.loads
unfolding after_shows
loads_shown system v h zero p = refl
loads_shown system v h (suc n) p = loads_shown system v h n p

-- the clearing
cleared_by : (from : ℕ) (b : Beam) (now : List Load) (p : Denise) (at : Bool) → is_line_start b ≡ at → ShowsSame from now p.loads
    → (is_line_start b ≡ false → from ≤ 4 * b.h) → at ≡ false → ShowsSame (4 * b.h) now (clear_line b p).loads
unfolding clear_line
cleared_by from b now p true is same order none = cc
cleared_by from b now p false is same order none =
    subst (λ (q : Denise). ShowsSame (4 * b.h) now q.loads)
    (sym (ap (λ (t : Bool). if t then record p { loads = []; runs = replicate 8 None; held = record { 0 = slice_index p.palette 0 } } else p) is))
    (ShowsSame-later from (4 * b.h) now p.loads (order is) same)

pub same_later : (from : ℕ) (b : Beam) (now : List Load) (p : Denise) → is_line_start b ≡ false → ShowsSame from now p.loads
    → (is_line_start b ≡ false → from ≤ 4 * b.h) → ShowsSame (4 * b.h) now (clear_line b p).loads
same_later from b now p is same order = cleared_by from b now p false is same order refl

pub none_left : (b : Beam) (p : Denise) → is_line_start b ≡ true → (clear_line b p).loads ≡ []
unfolding clear_line
none_left b p is =
    ap (λ (t : Bool). (if t then record p { loads = []; runs = replicate 8 None; held = record { 0 = slice_index p.palette 0 } } else p).loads) is

-- what is opened
pub opened_start : (b : Beam) (d : Denise) (now : BandPainter) → is_line_start b ≡ true
    → IsPainterOf now.painter (record d { loads = []; runs = replicate 8 None }) → now.loads ≡ [] → IsBandPainterOf (4 * b.h) now (opened b d)
opened_start b d now is painter none =
    subst (λ (t : Bool). IsBandPainterOf (4 * b.h) now (if t then record d { loads = []; runs = replicate 8 None } else d)) (sym is)
    (record { painter = painter; loads = λ keeps. subst (λ (l : List Load). ShowsSame (4 * b.h) l []) (sym none) (ShowsSame-refl (4 * b.h) []) })

pub opened_on : (b : Beam) (d : Denise) (now : BandPainter) → is_line_start b ≡ false → IsPainterOf now.painter d → now.loads ≡ d.loads
    → IsBandPainterOf (4 * b.h) now (opened b d)
opened_on b d now is painter same =
    subst (λ (t : Bool). IsBandPainterOf (4 * b.h) now (if t then record d { loads = []; runs = replicate 8 None } else d)) (sym is)
    (record { painter = painter; loads = λ keeps. subst (λ (l : List Load). ShowsSame (4 * b.h) l d.loads) (sym same) (ShowsSame-refl (4 * b.h) d.loads) })

-- what is closed
pub closed_stands : (from : ℕ) (p closing : Denise) (loads now : List Load) → closing ≡ record p { loads = loads } → loads ≡ now
    → ShowsSame from now p.loads → StandsFor from closing p
closed_stands from p closing loads now is same shows =
    subst (λ q. StandsFor from q p) (sym is)
    (record { loads = subst (λ (l : List Load). ShowsSame from l p.loads) (sym same) shows; rest = refl })

-- where loads are kept
keeps_by : (start : Bool) (keeps old new : Bool) (to clock last_clock h next : ℕ) → (next == 0) ≡ start → (start ≡ true → new ≡ keeps)
    → (start ≡ false → new ≡ old) → keeps ≡ nat_le (to - clock) 229 → next ≡ (if nat_le last_clock h then 0 else h + 1)
    → (old ≡ false → clock + 228 < to + h) → new ≡ false → clock + 1 + 228 < to + next
keeps_by true keeps old new to clock last_clock h next is first on last place kept none =
    let few : nat_le (to - clock) 229 ≡ false = sym last ∙ sym (first refl) ∙ none in
    let many : 229 < to - clock = grind (arith, nat_tests) in
    omega (arith, many)
keeps_by false keeps old new to clock last_clock h next is first on last place kept none =
    let before : clock + 228 < to + h = kept (sym (on refl) ∙ none) in
    let step : next ≡ h + 1 = step_by (nat_le last_clock h) place is in
    omega (arith, before, step)
  where
    step_by : (b : Bool) → next ≡ (if b then 0 else h + 1) → (next == 0) ≡ false → next ≡ h + 1
    step_by true start not_zero = absurd (grind (arith, nat_tests))
    step_by false one not_zero = one

pub keeps_next : (b : Beam) (keeps old new : Bool) (to clock last_clock h : ℕ) → (is_line_start b ≡ true → new ≡ keeps)
    → (is_line_start b ≡ false → new ≡ old) → keeps ≡ nat_le (to - clock) 229 → b.h ≡ (if nat_le last_clock h then 0 else h + 1)
    → (old ≡ false → clock + 228 < to + h) → new ≡ false → clock + 1 + 228 < to + b.h
keeps_next b keeps old new to clock last_clock h first on last place kept none =
    keeps_by (is_line_start b) keeps old new to clock last_clock h b.h refl first on last place kept none

pub keeps_last : (keeps : Bool) (to clock h : ℕ) → (keeps ≡ false → clock + 228 < to + h) → clock + 1 ≡ to → h < 228 → keeps ≡ true
keeps_last true to clock h kept last place = refl
keeps_last false to clock h kept last place =
    let more : clock + 228 < to + h = kept refl in
    absurd (omega (arith, more, last, place))
