-- A clock with which the open band goes on: what holds once the chips have asked.
use Rattle.std.proofs.Common.{◌≡◌, ◌<◌, ℕ, Result, Ok, Err, OnOk, ap, subst, sym, ◌∙◌}
use Rattle.out_files.specs.OutFiles.{OutFilesValue}
use Rattle.serial_model.specs.declared.bus.Ask.{Ask}
use Rattle.serial_model.specs.State.{State}
use Rattle.serial_model.specs.Tick.{ask_of}
use Rattle.band_log.specs.Raster.{RasterValue}
use Rattle.machine.specs.Machine.{MachineValue, IsMachineOf, HasAskedOf, IsSamePlace}
use Rattle.foreground.specs.Clock.{IsLogged}
use Rattle.foreground.specs.Fore.{ForeValue}
use Rattle.foreground.specs.Steps.{IsBefore, IsLoggedBefore, KeepsClock, HasAskedNow, AccessesPart}
use Rattle.foreground.proofs.MadeLaws.{before_view, asked_now, logged_once_asked}

-- the foreground as its fields are seen
pub before_seen : (g f : ForeValue) → g ≡ f → f.log.band.from < f.machine.t → g.log.band.from < g.machine.t
before_seen g f view before = subst (λ (o : ForeValue). o.log.band.from < o.machine.t) (sym view) before

-- `f` stands before its access, and `m1` is its machine once the chips have asked
pub asked_then : (f g : ForeValue) (m1 : MachineValue) (ask : Ask) (first : ℕ) (seen : RasterValue) → g ≡ f → IsBefore f first seen
    → ((s : State) → IsMachineOf g.machine s → ask ≡ ask_of s) → ((s : State) → IsMachineOf g.machine s → HasAskedOf m1 s)
    → m1 ≡ record g.machine { chips = m1.chips }
    → HasAskedNow ask (record g { machine = m1 }) × IsLoggedBefore (record g { machine = m1 }) first seen
asked_then f g m1 ask first seen view is asks asked same = (
  asked_now g m1 ask first seen (before_view f g first seen view is) asks asked same,
  logged_once_asked g m1 first seen (before_view f g first seen view is) same,
)

logged_still : (g : ForeValue) (m1 : MachineValue) (first : ℕ) (seen : RasterValue) → IsLoggedBefore g first seen
    → m1 ≡ record g.machine { chips = m1.chips } → IsLoggedBefore (record g { machine = m1 }) first seen
logged_still g m1 first seen is same =
    subst (λ k. IsLogged g.run k first m1.chip g.log g.clx seen) (sym (ap (λ (m : MachineValue). m.t) same))
    (subst (λ x. IsLogged g.run g.machine.t first x g.log g.clx seen) (sym (ap (λ (m : MachineValue). m.chip) same)) is)

-- a part of the pixels was given in the access
pub part_once_asked : (f g : ForeValue) (m1 : MachineValue) (seen after : RasterValue) (out given : OutFilesValue) → g ≡ f
    → m1 ≡ record g.machine { chips = m1.chips } → AccessesPart (record g { machine = m1 }) seen after out given → AccessesPart f seen after out given
part_once_asked f g m1 seen after out given view same part =
    subst (λ x. AccessesPart x seen after out given) view (λ first is. part first (logged_still g m1 first seen is same))

-- the clock is that of before
pub kept_once_asked : (f g new : ForeValue) (m1 : MachineValue) → g ≡ f → m1 ≡ record g.machine { chips = m1.chips }
    → KeepsClock (record g { machine = m1 }) new → KeepsClock f new
kept_once_asked f g new m1 view same kept =
    subst (λ x. KeepsClock x new) view (record {
      run = kept.run;
      t = kept.t ∙ ap (λ (m : MachineValue). m.t) same;
      beam = subst (λ b. IsSamePlace b new.machine.beam) (ap (λ (m : MachineValue). m.beam) same) kept.beam;
      next = kept.next;
      spent = kept.spent;
    })

-- what holds whatever was answered holds after a success
pub on_ok : {T E P : Type 0} (r : Result T E) → P → OnOk r P
on_ok (Ok x) p = p
on_ok (Err e) p = tt
