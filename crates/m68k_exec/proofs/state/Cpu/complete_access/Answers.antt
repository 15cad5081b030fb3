use Rattle.std.proofs.Common.{◌≡◌, ◌+◌, [], ◌∷◌, ◌++◌, length, sym, ap, ◌∙◌, arith, length-append}
use Rattle.m68k_exec.specs.Meaning.{follow}
use Rattle.m68k_exec.proofs.Following.{after_more}
use Rattle.m68k_exec.proofs.state.Cpu.complete_access.Goals as goal

pub returns : goal.returns
returns c = λ r u ws s.
    let longer : length (ws ++ c.args.word ∷ []) ≡ length ws + 1 = grind (arith, length-append) in
    record {
      regs = c.continue_with_word.ensures.start ∙ s.regs;
      same = c.continue_with_word.ensures.walk ∙ ap (λ p. follow p c.args.word) s.same ∙ sym (after_more _ ws c.args.word);
      done = omega (arith, longer, s.done, c.count_access.ensures);
      traced = s.traced;
    }
