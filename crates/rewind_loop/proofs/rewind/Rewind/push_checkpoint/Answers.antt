-- A checkpoint of the present clock is pushed.
use Rattle.std.proofs.Common.{◌≡◌, sym, ap, subst, ◌∙◌, true}
use Rattle.foreground.specs.Fore.{ForeValue}
use Rattle.foreground.specs.Save.{HasSaved}
use Rattle.rewind_loop.specs.Places.{is_due, due_in, visited}
use Rattle.rewind_loop.specs.Present.{AreAt, run_in, states_in, fore_of, raster_of}
use Rattle.rewind_loop.proofs.PresentLaws.{push_allowed, present_pushed}
use Rattle.rewind_loop.proofs.rewind.Rewind.push_checkpoint.Goals as goal

pub push-requires : goal.push-requires
push-requires c =
    let self = c.args.self.now in
    let is = c.requires.at.2 in
    let has : HasSaved (fore_of self.fore) (fore_of c.save.new.self) is.first (raster_of self.raster) (raster_of c.save.new.raster) self.out c.save.new.out =
    c.in_ok-kept.ensures.saved is.first is.stands in
    push_allowed (run_in self) c.requires.at.0 c.requires.at.1 (fore_of self.fore) (raster_of self.raster) self.ring is c.clocks.result
    (c.clocks.ensures ∙ ap (λ (f : ForeValue). f.machine.t) has.same) (c.requires.new c.requires.at.0 c.requires.at.1 is)

pub returns-clause-visits : goal.returns-clause-visits
returns-clause-visits c keep p is =
    let self = c.args.self.now in
    let has : HasSaved (fore_of self.fore) (fore_of c.save.new.self) is.first (raster_of self.raster) (raster_of c.save.new.raster) self.out c.save.new.out =
    c.in_ok-kept.ensures.saved is.first is.stands in
    let due : is_due self.every self.fore.machine.beam ≡ true = c.requires.due in
    subst (λ ring. AreAt (run_in self) keep (record p { ring = visited (due_in (states_in self) self.every) keep p.now p.ring }) (fore_of c.save.new.self)
    (raster_of c.save.new.raster) ring) (sym c.push.ensures)
    (present_pushed (run_in self) keep p (fore_of self.fore) (raster_of self.raster) self.ring is self.every c.clocks.result (fore_of c.save.new.self)
    (raster_of c.save.new.raster) c.in_ok-kept.kept self.out c.save.new.out due
    (c.requires.new keep p is) c.in_ok-kept.ensures.saved c.in_ok-kept.ensures.checkpoint
    (c.clocks.ensures ∙ ap (λ (f : ForeValue). f.machine.t) has.same))
