-- A record tells what it is of: code, address and word are read back.
use Rattle.std.proofs.Common.{◌≡◌, ℕ, ◌+◌, ◌-◌, ◌/◌, ◌%◌, ◌^◌, ◌<◌, ◌==◌, nat_lt, if◌then◌else◌, Bool, false, true, List, get_or, refl, ap, sym, ◌∙◌, arith}
use Rattle.std.proofs.lemmas.Bool.Decides.{nat_tests}
use Rattle.blit_words.specs.declared.blit.SlotAsk.TheVariants.{Read, Write, Rest, Done}
use Rattle.serial_model.specs.Owner.{is_refresh}
use Rattle.serial_model.specs.declared.bus.Ask.{Ask}
use Rattle.serial_model.specs.declared.bus.Ask.TheVariants as A
use Rattle.serial_model.specs.declared.bus.Half.TheVariants.{Both, High, Low}
use Rattle.serial_model.specs.declared.bus.ProcessorAsk.TheVariants as P
use Rattle.serial_model.specs.declared.bus.SideAsk.TheVariants as S
use Rattle.serial_model.specs.declared.fetch.SpriteAsk.TheVariants.{Control, Words}
use Rattle.slot_log.specs.Entry.{entry_of}
use Rattle.slot_log.specs.Purpose.{code_of}
use Rattle.slot_log.specs.Record.{SlotClock, clock_entry, record_bytes, RecordsTell}
use Rattle.slot_log.specs.declared.purpose.Purpose.{Purpose}
use Rattle.slot_log.specs.declared.purpose.Purpose.TheVariants as U

-- ---- a code as it is read

abbrev chip_purpose : ℕ → Purpose
chip_purpose code =
    if code == 0 then U.Free else if code == 1 then U.Refresh else if code == 2 then U.BlitterRests else if code == 3 then U.CopperReads
    else if code == 4 then U.BlitterReads else U.BlitterWrites

abbrev processor_purpose : ℕ → Purpose
processor_purpose code =
    if code == 6 then U.ProcessorReads else if code == 7 then U.ProcessorWrites Both else if code == 8 then U.ProcessorWrites High
    else if code == 9 then U.ProcessorWrites Low else if code == 10 then U.ProcessorReadsRegister
    else if code == 11 then U.ProcessorWritesRegister else U.DiskWrites

abbrev sprite_purpose : ℕ → Purpose
sprite_purpose code =
    if nat_lt code 48 then U.ControlOfSprite (code - 40) false else if nat_lt code 56 then U.ControlOfSprite (code - 48) true
    else if nat_lt code 64 then U.ImageOfSprite (code - 56) false else U.ImageOfSprite (code - 64) true

abbrev purpose_with : ℕ → Purpose
purpose_with code =
    if nat_lt code 6 then chip_purpose code else if nat_lt code 16 then processor_purpose code
    else if nat_lt code 32 then U.AudioReads (code - 16) else if nat_lt code 40 then U.PlaneReads (code - 32) else sprite_purpose code

-- ---- the numbered ones

audio : (n : ℕ) → n < 4 → purpose_with (16 + n) ≡ U.AudioReads n
audio n low = grind (arith, nat_tests, low)

plane : (n : ℕ) → n < 8 → purpose_with (32 + n) ≡ U.PlaneReads n
plane n low = grind (arith, nat_tests, low)

control : (n : ℕ) (second : Bool) → n < 8 → purpose_with (code_of (U.ControlOfSprite n second)) ≡ U.ControlOfSprite n second
control n false low = grind (arith, nat_tests, low)
control n true low = grind (arith, nat_tests, low)

image : (n : ℕ) (second : Bool) → n < 8 → purpose_with (code_of (U.ImageOfSprite n second)) ≡ U.ImageOfSprite n second
image n false low = grind (arith, nat_tests, low)
image n true low = grind (arith, nat_tests, low)

free : (refresh : Bool) → purpose_with (code_of (if refresh then U.Refresh else U.Free)) ≡ (if refresh then U.Refresh else U.Free)
free true = refl
free false = refl

known : (h answer : ℕ) (ask : Ask) → purpose_with (code_of (entry_of h answer ask).purpose) ≡ (entry_of h answer ask).purpose
known h answer A.Free = free (is_refresh h)
known h answer (A.Side S.Nothing) = refl
known h answer (A.Side (S.Disk at word)) = refl
known h answer (A.Side (S.Audio channel at)) = audio (channel % 4) (omega arith)
known h answer (A.Plane ask) = plane (ask.plane % 8) (omega arith)
known h answer (A.Sprite (Control sprite second at)) = control (sprite % 8) second (omega arith)
known h answer (A.Sprite (Words sprite second at)) = image (sprite % 8) second (omega arith)
known h answer (A.Copper at) = refl
known h answer (A.Blit (Read at)) = refl
known h answer (A.Blit (Write at word)) = refl
known h answer (A.Blit Rest) = refl
known h answer (A.Blit Done) = refl
known h answer (A.Processor (P.Read at)) = refl
known h answer (A.Processor (P.Write at Both word)) = refl
known h answer (A.Processor (P.Write at High word)) = refl
known h answer (A.Processor (P.Write at Low word)) = refl
known h answer (A.Processor (P.ReadRegister reg)) = refl
known h answer (A.Processor (P.WriteRegister reg word)) = refl

clock_known : (a : SlotClock) → purpose_with (code_of (clock_entry a).purpose) ≡ (clock_entry a).purpose
clock_known a = known a.beam.h a.answer a.ask

-- ---- numbers of two bytes and of four

same_word : (a b : ℕ) → a / 256 ≡ b / 256 → a % 256 ≡ b % 256 → a ≡ b
same_word a b high low = omega (arith, high, low)

same_address : (a b : ℕ) → a / 65536 ≡ b / 65536 → a % 65536 ≡ b % 65536 → a ≡ b
same_address a b high low = omega (arith, high, low)

pub tell : RecordsTell
tell a b same =
    let byte : (i : ℕ) → get_or (record_bytes a) i 0 ≡ get_or (record_bytes b) i 0 = λ i. ap (λ bytes. get_or bytes i 0) same in
    record {
      line = same_word a.beam.v b.beam.v (byte 0) (byte 1);
      clock = byte 2;
      purpose = sym (clock_known a) ∙ ap purpose_with (byte 3) ∙ clock_known b;
      address = same_address (clock_entry a).address (clock_entry b).address (same_word _ _ (byte 4) (byte 5)) (same_word _ _ (byte 6) (byte 7));
      word = same_word (clock_entry a).word (clock_entry b).word (byte 8) (byte 9);
    }
