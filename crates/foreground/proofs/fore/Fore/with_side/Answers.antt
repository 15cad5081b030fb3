-- The machine at reset, and a log at clock 0.
use Rattle.std.proofs.Common.{◌≡◌, ◌∙◌, ap, subst, List, ℕ, Bool}
use Rattle.std.specs.Arc.{arc_value}
use Rattle.ocs_base.specs.Script.{ScriptValue}
use Rattle.ocs_base.specs.declared.chip_size.ChipSize.{ChipSize}
use Rattle.serial_model.specs.Side.{SideValue}
use Rattle.serial_bands.specs.Run.{RunOf, RunValue, run_over, IsGoodRun}
use Rattle.machine.specs.Machine.{IsReset, machine_over}
use Rattle.foreground.proofs.NewLaws.{new_fore, good_over}
use Rattle.foreground.proofs.fore.Fore.with_side.Goals as goal

pub returns : goal.returns
returns g c =
    let kept = arc_value c.args.run in
    let run : RunValue = run_over g.S.Side.seen kept in
    let image : c.image.result.now ≡ run.image = c.image.ensures.bytes ∙ ap (λ (r : RunOf _). r.image) c.deref.ensures in
    let size : c.chip_size.result ≡ run.script.chip =
    c.chip_size.ensures ∙ ap (λ (s : ScriptValue). s.chip) (c.script.ensures.value ∙ ap (λ (r : RunOf _). r.script) c.deref-2.ensures) in
    let cpu : c.cpu.result ≡ run.script.cpu =
    c.cpu.ensures ∙ ap (λ (s : ScriptValue). s.cpu) (c.script-2.ensures.value ∙ ap (λ (r : RunOf _). r.script) c.deref-3.ensures) in
    let machine = machine_over g.S.Side.seen c.in_ok-machine.machine in
    let reset : IsReset run.side run.image run.script.chip run.script.cpu machine =
    subst (λ (side : SideValue). IsReset side run.image run.script.chip run.script.cpu machine) c.requires
    (subst (λ (bytes : List ℕ). IsReset (g.S.Side.seen c.args.side) bytes run.script.chip run.script.cpu machine) image
    (subst (λ (s : ChipSize). IsReset (g.S.Side.seen c.args.side) c.image.result.now s run.script.cpu machine) size
    (subst (λ (b : Bool). IsReset (g.S.Side.seen c.args.side) c.image.result.now c.chip_size.result b machine) cpu c.in_ok-machine.ensures))) in
    new_fore run machine c.in_ok-log.log (good_over g.S.Side.seen kept (subst IsGoodRun c.deref.ensures c.image.ensures.good)) reset c.in_ok-log.ensures
