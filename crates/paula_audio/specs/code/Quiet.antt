-- Ticks of the audio channels one behind the other, and clocks in which they do nothing on the bus.
use Rattle.std.specs.Prelude.{◌≡◌, ◌<◌, ℕ, zero, suc, ◌+◌, Bool, false}
use Rattle.ocs_base.specs.declared.beam.Beam.{Beam}
use Rattle.paula_audio.specs.Channel.{after_count, after_tick, is_requested, wants_word}
use Rattle.paula_audio.specs.Paula.{PaulaValue, has_dma, each_channel}
use Rattle.paula_audio.specs.declared.channel.Channel.{Channel}

-- a channel after so many ticks, and one that is on after so many clocks of its counter
unfoldable pub ticked : Bool → ℕ → Channel → Channel
ticked dma zero c = c
ticked dma (suc n) c = after_tick dma (ticked dma n c)

unfoldable pub counted : ℕ → Channel → Channel
counted zero c = c
counted (suc n) c = after_count (counted n c)

-- from clock h of a line on, so many clocks: it requests no interrupt in them, and asks for no word at its own clock
pub record IsQuietChannel (h slot : ℕ) (dma : Bool) (n : ℕ) (c : Channel) : Type 0 where
  pub requests : (k : ℕ) → k < n → is_requested dma (ticked dma k c) ≡ false
  pub asks : (k : ℕ) → k < n → h + k ≡ slot → wants_word dma (ticked dma (suc k) c) ≡ false

-- the clock of the last of so many ticks, where the first comes with the beam there
unfoldable pub last_tick : ℕ → Beam → ℕ → ℕ
last_tick zero b h = h
last_tick (suc n) b h = b.h + n

-- the four of them after so many ticks
abbrev pub paula_later : ℕ → Beam → ℕ → PaulaValue → PaulaValue
paula_later n b dmacon p = each_channel (λ i c. ticked (has_dma i dmacon) n c) (record p { h = last_tick n b p.h })
