use Rattle.std.proofs.Common.{ℕ, ◌-◌, ◌+◌, arith, refl}
use Rattle.plane_rows.proofs.Rows.{laid_over, laid_few}
use Rattle.plane_rows.proofs.Pairs.{laid_blank, laid_paired}
use Rattle.plane_rows.proofs.row.Row.lay.Goals as goal

pub returns-clause-shown : goal.returns-clause-shown
returns-clause-shown c =
    λ (x : ℕ). laid_over c.args.self.now.shown c.wipe.new.shown c.args.bytes.now c.copy_from_slice.new.self c.args.start
    (c.args.start + 32 - c.args.start) c.args.self.now.end x (omega arith) (omega arith) c.requires.size c.copy_from_slice.ensures.after
    (c.args.self.now.blank x) (c.wipe.ensures.wiped x)

pub invariant_of-self-clause-blank : goal.invariant_of-self-clause-blank
invariant_of-self-clause-blank c =
    λ (x : ℕ) behind. laid_blank c.args.self.now.shown _ c.args.bytes.now c.args.start x c.requires.size
    (laid_over c.args.self.now.shown c.wipe.new.shown c.args.bytes.now c.copy_from_slice.new.self c.args.start
    (c.args.start + 32 - c.args.start) c.args.self.now.end x (omega arith) (omega arith) c.requires.size c.copy_from_slice.ensures.after
    (c.args.self.now.blank x) (c.wipe.ensures.wiped x)) behind

pub invariant_of-self-clause-pairs : goal.invariant_of-self-clause-pairs
invariant_of-self-clause-pairs c =
    laid_paired c.args.self.now.shown _ c.args.bytes.now c.args.start _ _ c.requires.even c.args.self.now.pairs c.requires.pairs
    (λ (x : ℕ). laid_over c.args.self.now.shown c.wipe.new.shown c.args.bytes.now c.copy_from_slice.new.self c.args.start
    (c.args.start + 32 - c.args.start) c.args.self.now.end x (omega arith) (omega arith) c.requires.size c.copy_from_slice.ensures.after
    (c.args.self.now.blank x) (c.wipe.ensures.wiped x))

pub invariant_of-self-clause-few : goal.invariant_of-self-clause-few
invariant_of-self-clause-few c =
    λ (x : ℕ). laid_few c.args.self.now.shown _ c.args.bytes.now c.args.start x (c.args.self.now.few x) (c.requires.few (x - c.args.start))
    (laid_over c.args.self.now.shown c.wipe.new.shown c.args.bytes.now c.copy_from_slice.new.self c.args.start
    (c.args.start + 32 - c.args.start) c.args.self.now.end x (omega arith) (omega arith) c.requires.size c.copy_from_slice.ensures.after
    (c.args.self.now.blank x) (c.wipe.ensures.wiped x))

pub returns-clause-end : goal.returns-clause-end
returns-clause-end c = refl
