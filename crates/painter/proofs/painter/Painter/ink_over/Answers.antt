use Rattle.std.proofs.Common.{◌≡◌, ◌*◌, false, nat_eq, sym, ◌∙◌, arith}
use Rattle.std.proofs.lemmas.Bool.Decides.{nat_tests}
use Rattle.painter.proofs.PairOver.{none_over, hidden_over, in_front}
use Rattle.painter.proofs.painter.Painter.ink_over.Goals as goal

pub returns-then-byte-eq0-clause-value : goal.returns-then-byte-eq0-clause-value
returns-then-byte-eq0-clause-value c =
    none_over c.args.self.now.inks c.args.self.now.line c.args.steady.now.lone c.args.steady.now.attached c.args.byte (2 * c.args.column)
    c.bits-bits.result c.name.result c.if-byte-eq0.true c.bits-bits.ensures.value c.name.ensures.value

pub returns-then-hides-clause-value : goal.returns-then-hides-clause-value
returns-then-hides-clause-value c =
    hidden_over c.args.self.now.inks c.args.self.now.line c.args.steady.now.lone c.args.steady.now.attached c.args.byte (2 * c.args.column)
    c.bits-bits.result c.name-then-hides.result (sym c.hides.ensures ∙ c.if-hides.true) c.bits-bits.ensures.value c.name-then-hides.ensures.value

pub returns-clause-value : goal.returns-clause-value
returns-clause-value c =
    let some : nat_eq c.args.byte 0 ≡ false = grind (arith, nat_tests) in
    in_front c.args.self.now.inks c.args.self.now.line c.args.steady.now.lone c.args.steady.now.attached c.args.byte (2 * c.args.column)
    c.bits-bits.result _ some (sym c.hides.ensures ∙ c.if-hides.false) c.bits-bits.ensures.value
    (c.requires.colours c.args.byte (omega (arith, c.requires.few))) (c.requires.low c.args.byte)
