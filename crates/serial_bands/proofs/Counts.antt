-- Tints, and counts of reads.
use Rattle.std.proofs.Common.{◌≤◌, ◌-◌, false, [], ◌∷◌, ◌++◌, refl, ap, ◌∙◌, arith}
use Rattle.std.specs.Int.Bits.{xor_zero_r}
use Rattle.std.proofs.lemmas.List.Sums.{count_by-le-length}
use Rattle.blit_words.specs.declared.blit.SlotAsk.{SlotAsk}
use Rattle.blit_words.specs.declared.blit.SlotAsk.TheVariants as B
use Rattle.serial_model.specs.declared.bus.Ask.{Ask}
use Rattle.serial_model.specs.declared.bus.Ask.TheVariants as A
use Rattle.serial_model.specs.declared.bus.ProcessorAsk.{ProcessorAsk}
use Rattle.serial_model.specs.declared.bus.ProcessorAsk.TheVariants as P
use Rattle.serial_model.specs.declared.bus.SideAsk.{SideAsk}
use Rattle.serial_model.specs.declared.bus.SideAsk.TheVariants as S
use Rattle.serial_model.specs.declared.fetch.SpriteAsk.{SpriteAsk}
use Rattle.serial_model.specs.declared.fetch.SpriteAsk.TheVariants.{Control, Words}
use Rattle.serial_bands.specs.Clock.{access_at}
use Rattle.serial_bands.specs.OpenBand.{waiting_events}
use Rattle.serial_bands.specs.RightJob.{events_in}
use Rattle.serial_bands.specs.BandShown.{tinted_bytes}
use Rattle.serial_model.specs.Bus.{reads_of_side, reads_of_sprite, reads_of_blit, reads_of_processor, reads_of_ask}
use Rattle.serial_bands.specs.BusReads.{is_fetched, word_registers}
use Rattle.serial_bands.specs.BandLaws.{NoTint, AccessReadsFew, LatchedAreFew}

pub no_tint : NoTint
no_tint [] = refl
no_tint (byte ∷ bytes) = ap (λ b. b ∷ tinted_bytes 0 bytes) (xor_zero_r byte) ∙ ap (λ l. byte ∷ l) (no_tint bytes)

none : 0 ≤ 1
none = omega arith

one : 1 ≤ 1
one = omega arith

few_of_side : (ask : SideAsk) → reads_of_side ask ≤ 1
few_of_side S.Nothing = none
few_of_side (S.Disk at word) = none
few_of_side (S.Audio channel at) = one

few_of_sprite : (ask : SpriteAsk) → reads_of_sprite ask ≤ 1
few_of_sprite (Control sprite second at) = one
few_of_sprite (Words sprite second at) = none

few_of_blit : (ask : SlotAsk) → reads_of_blit ask ≤ 1
few_of_blit (B.Read at) = one
few_of_blit (B.Write at word) = none
few_of_blit B.Rest = none
few_of_blit B.Done = none

few_of_processor : (ask : ProcessorAsk) → reads_of_processor ask ≤ 1
few_of_processor (P.Read at) = one
few_of_processor (P.Write at half word) = none
few_of_processor (P.ReadRegister reg) = none
few_of_processor (P.WriteRegister reg word) = none

few : (ask : Ask) → reads_of_ask ask ≤ 1
few A.Free = none
few (A.Side ask) = few_of_side ask
few (A.Plane ask) = none
few (A.Sprite ask) = few_of_sprite ask
few (A.Copper at) = one
few (A.Blit ask) = few_of_blit ask
few (A.Processor ask) = few_of_processor ask

pub access_reads_few : AccessReadsFew
access_reads_few run c = few (access_at run c)

pub latched_are_few : LatchedAreFew
latched_are_few run from to =
    count_by-le-length (λ register. is_fetched register false (events_in run from to ++ waiting_events run to)) word_registers
