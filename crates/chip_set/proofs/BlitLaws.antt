-- The blit that the clock loop keeps: whether it goes on, and its end.
use Rattle.std.proofs.Common.{◌≡◌, ◌≢◌, ℕ, Bool, true, false, if◌then◌else◌, [], ◌∷◌, ◌++◌, Option, Some, None, is_some, ap, subst, sym, ◌∙◌, refl}
use Rattle.std.proofs.lemmas.Option.{none-some}
use Rattle.std.specs.Option.{option_map, unwrap_or}
use Rattle.blit_words.specs.Blitter.{blit_ask, is_done, blit_zero, blit_end}
use Rattle.blit_words.specs.declared.blit.BlitRegs.{BlitRegs}
use Rattle.blit_words.specs.declared.blit.SlotAsk.{SlotAsk}
use Rattle.blit_words.specs.declared.blit.SlotAsk.TheVariants.{Read, Write, Rest, Done}
use Rattle.blitter.specs.StandsFor.{StandsFor, ForWhatItStands, slot_shown}
use Rattle.blitter.specs.declared.Blit.{Blit}
use Rattle.ocs_base.specs.declared.addr.Addr.{Addr}
use Rattle.irq_cia.specs.Interrupts.{Interrupts, after_request}
use Rattle.serial_model.specs.BlitRegisters.{with_blit}
use Rattle.serial_model.specs.Bus.{end_blit, give_blit}
use Rattle.serial_model.specs.Registers.{Registers}
use Rattle.serial_model.specs.State.{BlitUnderWay, Chips}
use Rattle.chip_set.specs.Chips.{WorkingChips, IsBlitOf, IsChipsOf, IsGoing, end_if_blit}

-- a blit whose ask is the clock's goes on
shown_by : (a b : SlotAsk) → Some a ≡ Some b → a ≡ b
shown_by a b is = ap (λ o. unwrap_or o a) is

pub going_by : (dma : Bool) (kept : Option Blit) (ask : SlotAsk) → (if dma then option_map slot_shown kept else None) ≡ Some ask → ask ≢ Done
    → IsGoing kept
going_by true None ask is not = tt
going_by true (Some blit) ask is not = λ done. not (sym (shown_by (slot_shown blit) ask is) ∙ done)
going_by false None ask is not = tt
going_by false (Some blit) ask is not = absurd (none-some ask is)

-- an ask is no end
abbrev NoEnd : SlotAsk → Type 0
NoEnd (Read at) = Unit {0}
NoEnd (Write at word) = Unit {0}
NoEnd Rest = Unit {0}
NoEnd Done = ⊥

pub read_is_none : (at : Addr) → Read at ≢ Done
read_is_none at is = subst NoEnd is tt

pub write_is_none : (at : Addr) (word : ℕ) → Write at word ≢ Done
write_is_none at word is = subst NoEnd is tt

pub rest_is_none : Rest ≢ Done
rest_is_none is = subst NoEnd is tt

-- the end of a blit: the last answer was given
by_run : (word : ℕ) (old new : WorkingChips) (blit after : Blit) (c : Chips) (run : Option BlitUnderWay) → c.blit ≡ run → IsBlitOf (Some blit) run
    → ForWhatItStands blit (λ s ws. StandsFor after s (ws ++ word ∷ [])) → ForWhatItStands after (λ s ws. true ≡ is_done (blit_ask s ws))
    → ((x : Chips) → IsChipsOf (record old { blit = Some after }) x → IsChipsOf new (end_if_blit x.blit x)) → IsChipsOf old c
    → IsChipsOf new (give_blit word c.blit c)
by_run word old new blit after c None e same gives done ends is = absurd same
by_run word old new blit after c (Some run) e same gives done ends is =
    let next : BlitUnderWay = record run { answers = run.answers ++ word ∷ [] } in
    let stands : StandsFor after next.start next.answers = gives run.start run.answers same in
    let ended : IsChipsOf new (end_blit next c) = ends (record c { blit = Some next }) (record {
      registers = is.registers;
      last = is.last;
      kinds = is.kinds;
      copper = is.copper;
      blit = stands;
      zero = is.zero;
      irq = is.irq;
      processor = is.processor;
      missed = is.missed;
      cia_a = is.cia_a;
      cia_b = is.cia_b;
      inputs = is.inputs;
    }) in
    subst (λ r. IsChipsOf new (give_blit word r c)) (sym e)
    (subst (λ d. IsChipsOf new (if d then end_blit next c else record c { blit = Some next })) (done next.start next.answers stands) ended)

pub blit_ended : (word : ℕ) (old new : WorkingChips) (blit after : Blit) → old.blit ≡ Some blit
    → ForWhatItStands blit (λ s ws. StandsFor after s (ws ++ word ∷ [])) → ForWhatItStands after (λ s ws. true ≡ is_done (blit_ask s ws))
    → ((x : Chips) → IsChipsOf (record old { blit = Some after }) x → IsChipsOf new (end_if_blit x.blit x))
    → (c : Chips) → IsChipsOf old c → IsChipsOf new (give_blit word c.blit c)
blit_ended word old new blit after kept gives done ends c is =
    by_run word old new blit after c c.blit refl (subst (λ k. IsBlitOf k c.blit) kept is.blit) gives done ends is

-- a blit that goes on: one more answer was given
on_by_run : (word : ℕ) (old : WorkingChips) (blit after : Blit) (c : Chips) (run : Option BlitUnderWay) → c.blit ≡ run → IsBlitOf (Some blit) run
    → ForWhatItStands blit (λ s ws. StandsFor after s (ws ++ word ∷ [])) → ForWhatItStands after (λ s ws. false ≡ is_done (blit_ask s ws))
    → IsChipsOf old c → IsChipsOf (record old { blit = Some after }) (give_blit word c.blit c)
on_by_run word old blit after c None e same gives going is = absurd same
on_by_run word old blit after c (Some run) e same gives going is =
    let next : BlitUnderWay = record run { answers = run.answers ++ word ∷ [] } in
    let new : WorkingChips = record old { blit = Some after } in
    let stands : StandsFor after next.start next.answers = gives run.start run.answers same in
    let on : IsChipsOf new (record c { blit = Some next }) = record {
      registers = is.registers;
      last = is.last;
      kinds = is.kinds;
      copper = is.copper;
      blit = stands;
      zero = is.zero;
      irq = is.irq;
      processor = is.processor;
      missed = is.missed;
      cia_a = is.cia_a;
      cia_b = is.cia_b;
      inputs = is.inputs;
    } in
    subst (λ r. IsChipsOf new (give_blit word r c)) (sym e)
    (subst (λ d. IsChipsOf new (if d then end_blit next c else record c { blit = Some next })) (going next.start next.answers stands) on)

pub blit_goes_on : (word : ℕ) (old : WorkingChips) (blit after : Blit) → old.blit ≡ Some blit
    → ForWhatItStands blit (λ s ws. StandsFor after s (ws ++ word ∷ [])) → ForWhatItStands after (λ s ws. false ≡ is_done (blit_ask s ws))
    → (c : Chips) → IsChipsOf old c → IsChipsOf (record old { blit = Some after }) (give_blit word c.blit c)
blit_goes_on word old blit after kept gives going c is =
    on_by_run word old blit after c c.blit refl (subst (λ k. IsBlitOf k c.blit) kept is.blit) gives going is

-- and its end, in which its registers are kept
abbrev pub EndedChips : WorkingChips → Registers → Bool → Interrupts → WorkingChips
EndedChips old registers zero irq = record old { registers = registers; blit = None; zero = zero; irq = irq }

end_by_run : (old : WorkingChips) (blit : Blit) (left : BlitRegs) (registers : Registers) (zero : Bool) (irq : Interrupts) (c : Chips)
    (run : Option BlitUnderWay) → IsBlitOf (Some blit) run → ForWhatItStands blit (λ s ws. left ≡ blit_end s ws)
    → ForWhatItStands blit (λ s ws. zero ≡ blit_zero s ws) → registers ≡ with_blit left old.registers → irq ≡ after_request 0x40 old.irq
    → IsChipsOf old c → IsChipsOf (EndedChips old registers zero irq) (end_if_blit run c)
end_by_run old blit left registers zero irq c None same leaves zeros kept requests is = absurd same
end_by_run old blit left registers zero irq c (Some run) same leaves zeros kept requests is = record {
  registers = ap (λ r. with_blit r c.registers) (sym (leaves run.start run.answers same)) ∙ ap (λ r. with_blit left r) is.registers ∙ sym kept;
  last = is.last;
  kinds = is.kinds;
  copper = is.copper;
  blit = tt;
  zero = sym (zeros run.start run.answers same);
  irq = ap (λ words. after_request 0x40 words) is.irq ∙ sym requests;
  processor = is.processor;
  missed = is.missed;
  cia_a = is.cia_a;
  cia_b = is.cia_b;
  inputs = is.inputs;
}

pub blit_ends : (old : WorkingChips) (blit : Blit) (left : BlitRegs) (registers : Registers) (zero : Bool) (irq : Interrupts) → old.blit ≡ Some blit
    → ForWhatItStands blit (λ s ws. left ≡ blit_end s ws) → ForWhatItStands blit (λ s ws. zero ≡ blit_zero s ws)
    → registers ≡ with_blit left old.registers → irq ≡ after_request 0x40 old.irq
    → (c : Chips) → IsChipsOf old c → IsChipsOf (EndedChips old registers zero irq) (end_if_blit c.blit c)
blit_ends old blit left registers zero irq kept leaves zeros keeps requests c is =
    end_by_run old blit left registers zero irq c c.blit (subst (λ k. IsBlitOf k c.blit) kept is.blit) leaves zeros keeps requests is

-- a kept blit is under way where the machine's is
pub kept_busy : (kept : Option Blit) (run : Option BlitUnderWay) → IsBlitOf kept run → is_some kept ≡ is_some run
kept_busy None None is = refl
kept_busy None (Some run) is = absurd is
kept_busy (Some blit) None is = absurd is
kept_busy (Some blit) (Some run) is = refl
