-- What the access of a clock makes, by the ask of its slot.
use Rattle.std.specs.Prelude.{ℕ, Option, Some, None}
use Rattle.blit_words.specs.declared.blit.SlotAsk.{SlotAsk}
use Rattle.blit_words.specs.declared.blit.SlotAsk.TheVariants.{Read, Write, Rest, Done}
use Rattle.ocs_base.specs.declared.addr.Addr.{Addr}
use Rattle.serial_model.specs.Bus.{made_by_copper, made_by_processor, made_by_sprite}
use Rattle.serial_model.specs.declared.bus.Ask.{Ask}
use Rattle.serial_model.specs.declared.bus.Ask.TheVariants as A
use Rattle.serial_model.specs.declared.bus.Half.TheVariants.{Both}
use Rattle.serial_model.specs.declared.bus.Made.{Made}
use Rattle.serial_model.specs.declared.bus.Made.TheVariants as M
use Rattle.serial_model.specs.declared.bus.SideAsk.{SideAsk}
use Rattle.serial_model.specs.declared.bus.SideAsk.TheVariants as S
use Rattle.serial_model.specs.declared.copper.CopperAct.{CopperAct}

-- the word that the disk, or a blit, stores, and where
abbrev pub stored_by_side : SideAsk → Option (Addr × ℕ)
stored_by_side S.Nothing = None
stored_by_side (S.Disk at stored) = Some (at, stored)
stored_by_side (S.Audio channel at) = None

abbrev pub stored_by_blit : SlotAsk → Option (Addr × ℕ)
stored_by_blit (Read at) = None
stored_by_blit (Write at stored) = Some (at, stored)
stored_by_blit Rest = None
stored_by_blit Done = None

abbrev pub stored_or_made : Option (Addr × ℕ) → CopperAct → Made
stored_or_made None act = made_by_copper act
stored_or_made (Some (at, stored)) act = M.Stored at Both stored

-- what the access makes, with the word that answers it: a fetch fills a latch or a sprite's data, or writes a sprite's
-- control word, the disk or a blit stores its word, and else it is what the Copper's step makes
abbrev pub made_with : Ask → ℕ → CopperAct → Made
made_with A.Free word act = made_by_copper act
made_with (A.Side ask) word act = stored_or_made (stored_by_side ask) act
made_with (A.Plane ask) word act = M.Plane ask.plane ask.at
made_with (A.Sprite ask) word act = made_by_sprite ask word
made_with (A.Copper at) word act = made_by_copper act
made_with (A.Blit ask) word act = stored_or_made (stored_by_blit ask) act
made_with (A.Processor ask) word act = made_by_processor ask
