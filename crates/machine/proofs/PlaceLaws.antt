-- Steps of the machine without its picture that leave its place, one after another.
use Rattle.std.proofs.Common.{◌≡◌, refl, ap, subst, ◌∙◌, sym}
use Rattle.ocs_base.specs.declared.beam.Beam.{Beam}
use Rattle.serial_model.specs.Beam.{IsOnScreen}
use Rattle.machine.specs.Machine.{MachineValue, IsSamePlace, StaysInPlace, KeepsPlace}

same_place_more : (a b c : Beam) → IsSamePlace a b → IsSamePlace b c → IsSamePlace a c
same_place_more a b c first second = second ∙ ap (λ (x : Beam). record x { lof = c.lof }) first

-- the chips alone are changed
pub KeepsPlace-chips : (old new : MachineValue) → new ≡ record old { chips = new.chips } → KeepsPlace old new
KeepsPlace-chips old new same = subst (λ m. KeepsPlace old m) (sym same) (record { t = refl; beam = refl; chip = refl })

pub KeepsPlace-more : (a b c : MachineValue) → KeepsPlace a b → KeepsPlace b c → KeepsPlace a c
KeepsPlace-more a b c first second = record {
  t = second.t ∙ first.t;
  beam = same_place_more a.beam b.beam c.beam first.beam second.beam;
  chip = second.chip ∙ first.chip;
}

pub StaysInPlace-kept : (old new : MachineValue) → KeepsPlace old new → StaysInPlace old new
StaysInPlace-kept old new kept = record { t = kept.t; beam = kept.beam }

pub StaysInPlace-more : (a b c : MachineValue) → StaysInPlace a b → StaysInPlace b c → StaysInPlace a c
StaysInPlace-more a b c first second = record {
  t = second.t ∙ first.t;
  beam = same_place_more a.beam b.beam c.beam first.beam second.beam;
}

-- it stays on the screen
pub IsOnScreen-same : (old new : Beam) → IsSamePlace old new → IsOnScreen old → IsOnScreen new
IsOnScreen-same old new same on = subst IsOnScreen (sym same) (record { line = on.line; clock = on.clock })
