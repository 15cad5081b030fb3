-- What is asked for, and what an ask makes, is within the ranges of planes and sprites.
use Rattle.std.proofs.Common.{◌≡◌, ℕ, ◌≤◌, Bool, true, false, ◌==◌, if◌then◌else◌, Option, Some, None, is_some, IfSome, ap, subst, ◌∙◌, sym}
use Rattle.std.specs.Option.{option_map}
use Rattle.blit_words.specs.declared.blit.SlotAsk.{SlotAsk}
use Rattle.blit_words.specs.declared.blit.SlotAsk.TheVariants.{Read, Write, Rest, Done}
use Rattle.ocs_base.specs.declared.addr.Addr.{Addr}
use Rattle.ocs_base.specs.declared.beam.Beam.{Beam}
use Rattle.ocs_base.specs.declared.reg.Reg.{Reg}
use Rattle.serial_model.specs.declared.bus.Ask.{Ask}
use Rattle.serial_model.specs.declared.bus.Ask.TheVariants as A
use Rattle.serial_model.specs.declared.bus.Made.TheVariants as M
use Rattle.serial_model.specs.declared.bus.ProcessorAsk.{ProcessorAsk}
use Rattle.serial_model.specs.declared.bus.ProcessorAsk.TheVariants as P
use Rattle.serial_model.specs.declared.bus.SideAsk.{SideAsk}
use Rattle.serial_model.specs.declared.bus.SideAsk.TheVariants as S
use Rattle.serial_model.specs.declared.copper.CopperAct.{CopperAct}
use Rattle.serial_model.specs.declared.copper.CopperAct.TheVariants.{None as NoAct, Move}
use Rattle.serial_model.specs.declared.fetch.PlaneAsk.{PlaneAsk}
use Rattle.serial_model.specs.declared.fetch.SpriteAsk.{SpriteAsk}
use Rattle.serial_model.specs.declared.fetch.SpriteAsk.TheVariants.{Control, Words}
use Rattle.serial_model.specs.declared.slots.Owner.{Owner}
use Rattle.serial_model.specs.declared.slots.Owner.TheVariants.{Refresh, Disk, Audio, Plane, Sprite, Copper, Blitter, Processor, Free}
use Rattle.serial_model.specs.declared.trace.Source.TheVariants.{Processor as ByProcessor}
use Rattle.cpu_bus.specs.Bus.{wish_shown}
use Rattle.serial_model.specs.Bus.{Wishes, slot_state, owner_ask, made_by_copper, made_by_processor}
use Rattle.serial_model.specs.Owner.{owner_of}
use Rattle.serial_model.specs.Registers.{Registers}
use Rattle.serial_model.specs.PlaneFetch.{fetched_plane, ask_for_plane, move_planes}
use Rattle.serial_model.specs.SpriteFetch.{asking_sprite}
use Rattle.serial_model.proofs.FetchLaws.{IsFetch, fetched_plane-is}
use Rattle.serial_model.proofs.SlotLaws.{sprite_ask-few}
use Rattle.bus_slots.specs.Asks.{made_with}
use Rattle.chip_set.specs.Chips.{WorkingChips, plain_chips, kept_wish, wishes_with, ask_with, CanAsk, CanDo}
use Rattle.chip_set.proofs.AskLaws.{HasFetched}

-- a plane that is fetched is one of six, and a sprite one of eight; a MOVE is always done
act_can : (act : CopperAct) → CanDo (made_by_copper act)
act_can NoAct = tt
act_can (Move reg word) = tt

read_can : (clxdat : Bool) (reg : Reg) → CanDo (if clxdat then M.Read reg ByProcessor else M.Nothing)
read_can true reg = tt
read_can false reg = tt

processor_can : (ask : ProcessorAsk) → CanDo (made_by_processor ask)
processor_can (P.Read at) = tt
processor_can (P.Write at half word) = tt
processor_can (P.ReadRegister reg) = read_can (reg.offset == 0x0e) reg
processor_can (P.WriteRegister reg word) = tt

-- the loop can do what an ask makes
pub can_make : (ask : Ask) (word : ℕ) (act : CopperAct) → CanAsk ask → CanDo (made_with ask word act)
can_make A.Free word act can = act_can act
can_make (A.Side S.Nothing) word act can = act_can act
can_make (A.Side (S.Disk at stored)) word act can = tt
can_make (A.Side (S.Audio channel at)) word act can = act_can act
can_make (A.Plane ask) word act can = can
can_make (A.Sprite (Control sprite second at)) word act can = tt
can_make (A.Sprite (Words sprite second at)) word act can = can
can_make (A.Copper at) word act can = act_can act
can_make (A.Blit (Read at)) word act can = act_can act
can_make (A.Blit (Write at stored)) word act can = tt
can_make (A.Blit Rest) word act can = act_can act
can_make (A.Blit Done) word act can = act_can act
can_make (A.Processor ask) word act can = processor_can ask

-- and a plane that is fetched is one of six, a sprite one of eight
with_can : (owner : Owner) (side : SideAsk) (found : Option ℕ) (asked : Option SpriteAsk) (wish : Option Addr) (blit : Option SlotAsk)
    (processor : Option ProcessorAsk) (registers : Registers) (h : ℕ) → IfSome found (IsFetch h) → IfSome asked (λ ask. asking_sprite ask ≤ 7)
    → CanAsk (owner_ask owner (record {
      side = side;
      plane = option_map (λ plane. ask_for_plane registers plane) found;
      sprite = asked;
      copper = wish;
      blit = blit;
      processor = processor;
    }))
with_can Refresh side found asked wish blit processor registers h within few = tt
with_can Disk side found asked wish blit processor registers h within few = tt
with_can (Audio channel) side found asked wish blit processor registers h within few = tt
with_can (Plane plane) side None asked wish blit processor registers h within few = tt
with_can (Plane plane) side (Some number) asked wish blit processor registers h within few = record { first = within.first; last = within.most }
with_can (Sprite sprite) side found None wish blit processor registers h within few = tt
with_can (Sprite sprite) side found (Some ask) wish blit processor registers h within few = few
with_can Copper side found asked None blit processor registers h within few = tt
with_can Copper side found asked (Some at) blit processor registers h within few = tt
with_can Blitter side found asked wish None processor registers h within few = tt
with_can Blitter side found asked wish (Some (Read at)) processor registers h within few = tt
with_can Blitter side found asked wish (Some (Write at stored)) processor registers h within few = tt
with_can Blitter side found asked wish (Some Rest) processor registers h within few = tt
with_can Blitter side found asked wish (Some Done) processor registers h within few = tt
with_can Processor side found asked wish blit None registers h within few = tt
with_can Processor side found asked wish blit (Some ask) registers h within few = tt
with_can Free side found asked wish blit processor registers h within few = tt

pub ask_can : (side : SideAsk) (b : Beam) (ask : Ask) (old mid : WorkingChips) (plane : Option PlaneAsk) (sprite : Option SpriteAsk)
    → HasFetched b old mid plane sprite → ask ≡ ask_with side b plane sprite (kept_wish mid) (wish_shown mid.processor) (plain_chips mid)
    → CanAsk ask
unfolding ask_with
ask_can side b ask old mid plane sprite fetched asks =
    let found : Option ℕ = fetched_plane b.h old.registers mid.last in
    let within : IfSome found (IsFetch b.h) = fetched_plane-is b.h old.registers mid.last fetched.begun in
    let few : IfSome sprite (λ ask. asking_sprite ask ≤ 7) =
    subst (λ a. IfSome a (λ ask. asking_sprite ask ≤ 7)) (sym fetched.sprite_ask)
    (sprite_ask-few b.h (move_planes b.h mid.last old.registers) mid.kinds (is_some plane)) in
    let w : Wishes = wishes_with side b plane sprite (kept_wish mid) (wish_shown mid.processor) (plain_chips mid) in
    subst CanAsk
    (sym (asks ∙ ap (λ p. owner_ask (owner_of (slot_state b (plain_chips mid) w)) (record w { plane = p })) fetched.plane_ask))
    (with_can (owner_of (slot_state b (plain_chips mid) w)) side found sprite w.copper (kept_wish mid) w.processor old.registers b.h within few)
