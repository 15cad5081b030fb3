-- Paula's four audio channels, and the side that they are.
use Rattle.std.specs.Prelude.{ℕ, ◌+◌, ◌*◌, ◌/◌, ◌%◌, ◌^◌, Bool, ◌==◌, if◌then◌else◌, List, [], ◌∷◌}
use Rattle.irq_cia.specs.Bits.{has_bits}
use Rattle.ocs_base.specs.declared.beam.Beam.{Beam}
use Rattle.ocs_base.specs.declared.chip_size.ChipSize.{ChipSize}
use Rattle.ocs_base.specs.declared.reg.Reg.{Reg}
use Rattle.paula_audio.specs.Channel.{reset_channel, after_tick, is_requested, wants_word, after_word, after_write}
use Rattle.paula_audio.specs.Sound.{side_byte}
use Rattle.paula_audio.specs.declared.channel.Channel.{Channel}
use Rattle.serial_model.specs.Registers.{bit_worth}
use Rattle.serial_model.specs.Side.{Happening, Poked, Ticked, Given, SideRules, SideValue, side_over}
use Rattle.serial_model.specs.declared.bus.SideAsk.{SideAsk}
use Rattle.serial_model.specs.declared.bus.SideAsk.TheVariants as S

-- the four channels, and the clock of the last tick
pub record PaulaValue : Type 0 where
  pub zero : Channel
  pub one : Channel
  pub two : Channel
  pub three : Channel
  pub h : ℕ

-- each channel, by its number, becomes what this makes of it
abbrev pub each_channel : (ℕ → Channel → Channel) → PaulaValue → PaulaValue
each_channel f p = record p { zero = f 0 p.zero; one = f 1 p.one; two = f 2 p.two; three = f 3 p.three }

-- with a chip memory of this size
abbrev pub reset_paula : ChipSize → PaulaValue
reset_paula size =
    let off = reset_channel size in
    record { zero = off; one = off; two = off; three = off; h = 0 }

-- DMAEN of DMACON and the channel's own bit, AUD0EN to AUD3EN, which are bits 0 to 3, are both set
abbrev pub has_dma : ℕ → ℕ → Bool
has_dma n dmacon = has_bits dmacon (0x200 + 2 ^ n)

-- the registers of channel n are those from 0a0 + 10n on
abbrev pub channel_write : ℕ → ℕ → ℕ → Channel → Channel
channel_write n offset word c = if offset / 16 == 10 + n then after_write (offset % 16) word c else c

abbrev pub paula_write : Reg → ℕ → PaulaValue → PaulaValue
paula_write reg word p = each_channel (λ n c. channel_write n reg.offset word c) p

abbrev pub paula_tick : Beam → ℕ → PaulaValue → PaulaValue
paula_tick b dmacon p = each_channel (λ n c. after_tick (has_dma n dmacon) c) (record p { h = b.h })

-- the bits of INTREQ that a tick requests: bit 7 + n for channel n
abbrev pub channel_bit : ℕ → ℕ → Channel → ℕ
channel_bit n dmacon c = bit_worth (is_requested (has_dma n dmacon) c) (2 ^ (7 + n))

abbrev pub paula_bits : ℕ → PaulaValue → ℕ
paula_bits dmacon p =
    channel_bit 0 dmacon p.zero + channel_bit 1 dmacon p.one + channel_bit 2 dmacon p.two + channel_bit 3 dmacon p.three

-- the clock of the line that is channel n's
abbrev pub clock_of : ℕ → ℕ
clock_of n = 13 + 2 * n

abbrev pub channel_ask : ℕ → Bool → Channel → SideAsk
channel_ask n dma c = if wants_word dma c then S.Audio n c.at else S.Nothing

abbrev pub paula_ask : Beam → ℕ → PaulaValue → SideAsk
paula_ask b dmacon p =
    if b.h == clock_of 0 then channel_ask 0 (has_dma 0 dmacon) p.zero
    else (if b.h == clock_of 1 then channel_ask 1 (has_dma 1 dmacon) p.one
    else (if b.h == clock_of 2 then channel_ask 2 (has_dma 2 dmacon) p.two
    else (if b.h == clock_of 3 then channel_ask 3 (has_dma 3 dmacon) p.three
    else S.Nothing)))

-- a word that is given is that of the channel whose clock the last tick was
abbrev pub channel_word : ℕ → ℕ → ℕ → Channel → Channel
channel_word n h word c = if h == clock_of n then after_word word c else c

abbrev pub paula_word : ℕ → PaulaValue → PaulaValue
paula_word word p = each_channel (λ n c. channel_word n p.h word c) p

-- left is of channels 0 and 3, right of 1 and 2
abbrev pub left_of : PaulaValue → ℕ
left_of p = side_byte p.zero p.three

abbrev pub right_of : PaulaValue → ℕ
right_of p = side_byte p.one p.two

-- the two bytes that it sounds
abbrev pub paula_sound : PaulaValue → List ℕ
paula_sound p = left_of p ∷ right_of p ∷ []

abbrev pub paula_after : Happening → PaulaValue → PaulaValue
paula_after (Poked reg word) p = paula_write reg word p
paula_after (Ticked b dmacon) p = paula_tick b dmacon p
paula_after (Given word) p = paula_word word p

abbrev pub paula_rules : SideRules PaulaValue
paula_rules = record {
  after = paula_after;
  bits = λ b dmacon p. paula_bits dmacon p;
  ask = paula_ask;
  shows = paula_sound;
}

-- the side: it shows the left and the right byte
abbrev pub paula_side : PaulaValue → SideValue
paula_side p = side_over paula_rules p
