-- A load of a clock shows nothing yet at that clock's positions and before them.
use Rattle.std.proofs.Common.{◌≡◌, ◌<◌, ◌≤◌, ℕ, ◌+◌, ◌*◌, ◌%◌, Bool, true, false, ◌==◌, if◌then◌else◌, List, [], ◌∷◌, ◌++◌}
use Rattle.std.proofs.Common.{Option, nat_le, refl, ap, ◌∙◌, arith}
use Rattle.std.specs.Option.{option_map, unwrap_or}
use Rattle.std.proofs.lemmas.Bool.Decides.{nat_tests}
use Rattle.ocs_base.specs.declared.system.System.{System}
use Rattle.planes.specs.PlaneBit.{load_of, shown_load, load_bit, plane_bit, all_bits}
use Rattle.planes.specs.declared.load.Load.{Load}
use Rattle.planes.proofs.Showing.{later, shown-append, one_not}
use Rattle.priority_ham.specs.PlaneCount.{is_hires, planes_of}
use Rattle.serial_model.specs.declared.picture.Denise.{Denise}
use Rattle.serial_model.specs.Picture.{add_load, pixel_colour, held_after, runs_after, shown_at, collisions_at, step_of}
use Rattle.serial_model.proofs.Standing.{SameHere, step_same}

not_yet : (start x : ℕ) → x < start → nat_le start x ≡ false
not_yet start x before = grind (arith, nat_tests)

neither_yet : (b : Bool) (odd even x : ℕ) → x < odd → x < even → nat_le (if b then odd else even) x ≡ false
neither_yet true odd even x first second = not_yet odd x first
neither_yet false odd even x first second = not_yet even x second

-- before position 4h + 6 no plane shows it
plane_early : (plane x h : ℕ) (loads : List Load) (latches : List ℕ) (con1 : ℕ) (hires : Bool) → x < 4 * h + 6
    → plane_bit plane x (loads ++ load_of h latches con1 hires ∷ []) ≡ plane_bit plane x loads
unfolding plane_bit
plane_early plane x h loads latches con1 hires before =
    let load : Load = load_of h latches con1 hires in
    let first : x < load.odd = omega arith in
    let second : x < load.even = omega arith in
    ap (λ (o : Option Load). unwrap_or (option_map (load_bit plane x) o) 0)
    (shown-append plane x loads (load ∷ [])
    ∙ ap (later (shown_load plane x loads)) (one_not plane x load (neither_yet (plane % 2 == 1) load.odd load.even x first second)))

all_early : (x count h : ℕ) (loads : List Load) (latches : List ℕ) (con1 : ℕ) (hires : Bool) → x < 4 * h + 6
    → all_bits x count (loads ++ load_of h latches con1 hires ∷ []) ≡ all_bits x count loads
unfolding all_bits
all_early x count h loads latches con1 hires before =
    rw (
      plane_early 1 x h loads latches con1 hires before,
      plane_early 2 x h loads latches con1 hires before,
      plane_early 3 x h loads latches con1 hires before,
      plane_early 4 x h loads latches con1 hires before,
      plane_early 5 x h loads latches con1 hires before,
      plane_early 6 x h loads latches con1 hires before,
    )

-- the picture step of a clock is the same with a load of that clock or a later one
pub step_early : (system : System) (v here h : ℕ) (p : Denise) → here ≤ h → step_of system v here (add_load h p) ≡ step_of system v here p
step_early system v here h p order =
    let loads : List Load = p.loads ++ load_of h p.latches p.con1 (is_hires p.con0) ∷ [] in
    let same : SameHere here loads p =
    λ n few. all_early (4 * here + n) (planes_of p.con0) h p.loads p.latches p.con1 (is_hires p.con0) (omega arith) in
    step_same system v here loads p same

-- and with other latches
pub step_unlatched : (system : System) (v h : ℕ) (latches : List ℕ) (p : Denise)
    → step_of system v h (record p { latches = latches }) ≡ step_of system v h p
unfolding step_of held_after runs_after pixel_colour shown_at collisions_at
step_unlatched system v h latches p = refl
