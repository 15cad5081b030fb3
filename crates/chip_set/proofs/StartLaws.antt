-- A blit's registers are equal where each of them is, and each is the word that a register keeps.
use Rattle.std.proofs.Common.{◌≡◌, ℕ, ℤ, ap, ◌∙◌}
use Rattle.std.specs.Int.{w16, cast_signed}
use Rattle.blit_words.specs.declared.blit.BlitRegs.{BlitRegs}
use Rattle.ocs_base.specs.declared.addr.Addr.{Addr}
use Rattle.serial_model.specs.Registers.{Registers, kept_word, pointer_at}

pub same_start : (a b : BlitRegs) → a.con0 ≡ b.con0 → a.con1 ≡ b.con1 → a.afwm ≡ b.afwm → a.alwm ≡ b.alwm → a.size ≡ b.size
    → a.adat ≡ b.adat → a.bdat ≡ b.bdat → a.cdat ≡ b.cdat → a.amod ≡ b.amod → a.bmod ≡ b.bmod
    → a.cmod ≡ b.cmod → a.dmod ≡ b.dmod → a.apt ≡ b.apt → a.bpt ≡ b.bpt → a.cpt ≡ b.cpt
    → a.dpt ≡ b.dpt → a.aptl ≡ b.aptl → a ≡ b
same_start a b con0 con1 afwm alwm size adat bdat cdat amod bmod cmod dmod apt bpt cpt dpt aptl = λ i. record {
  con0 = con0 i;
  con1 = con1 i;
  afwm = afwm i;
  alwm = alwm i;
  size = size i;
  adat = adat i;
  bdat = bdat i;
  cdat = cdat i;
  amod = amod i;
  bmod = bmod i;
  cmod = cmod i;
  dmod = dmod i;
  apt = apt i;
  bpt = bpt i;
  cpt = cpt i;
  dpt = dpt i;
  aptl = aptl i;
}

pub word_is : (registers : Registers) (word offset place : ℕ) → word ≡ kept_word registers offset → offset ≡ place → word ≡ kept_word registers place
word_is registers word offset place is same = is ∙ ap (λ o. kept_word registers o) same

pub pointer_is : (registers : Registers) (at : Addr) (offset place : ℕ) → at ≡ pointer_at registers offset → offset ≡ place → at ≡ pointer_at registers place
pointer_is registers at offset place is same = is ∙ ap (λ o. pointer_at registers o) same

pub modulo_is : (registers : Registers) (number : ℤ) (word offset place : ℕ) → number ≡ cast_signed w16 word → word ≡ kept_word registers offset
    → offset ≡ place → number ≡ cast_signed w16 (kept_word registers place)
modulo_is registers number word offset place signed is same = signed ∙ ap (λ w. cast_signed w16 w) (word_is registers word offset place is same)
