-- Whose ask the slot's owner has, by what each wishes.
use Rattle.std.proofs.Common.{◌≡◌, Bool, ◌++◌, if◌then◌else◌, Option, None, is_some, refl, ap, ◌∙◌}
use Rattle.std.specs.Option.{option_map}
use Rattle.blit_words.specs.declared.blit.SlotAsk.{SlotAsk}
use Rattle.ocs_base.specs.declared.addr.Addr.{Addr}
use Rattle.ocs_base.specs.declared.beam.Beam.{Beam}
use Rattle.serial_model.specs.declared.bus.Ask.{Ask}
use Rattle.serial_model.specs.declared.bus.ProcessorAsk.{ProcessorAsk}
use Rattle.serial_model.specs.declared.bus.SideAsk.{SideAsk}
use Rattle.serial_model.specs.declared.bus.SideAsk.TheVariants as S
use Rattle.serial_model.specs.declared.fetch.PlaneAsk.{PlaneAsk}
use Rattle.serial_model.specs.declared.fetch.SpriteAsk.{SpriteAsk}
use Rattle.serial_model.specs.declared.slots.Owner.TheVariants as O
use Rattle.serial_model.specs.Bus.{Wishes, wishes_of, is_disk, channel_of, owner_ask, ask_at, plane_wish, sprite_wish, copper_wish, blit_wish}
use Rattle.serial_model.specs.Owner.{owner_of, is_refresh, if_asking, by_channel, first_asker}
use Rattle.serial_model.specs.Processor.{processor_wish}
use Rattle.serial_model.specs.SpriteFetch.{asking_sprite}
use Rattle.serial_model.specs.State.{Chips}
use Rattle.quiet_clocks.specs.PlainClock.{comes_first}

-- the owner's ask, by what each wishes and whether the processor comes before the blitter
abbrev pub asked_in : Bool → Bool → Wishes → Ask
asked_in refresh first w =
    owner_ask (first_asker (if_asking refresh O.Refresh ++ if_asking (is_disk w.side) O.Disk ++ by_channel (λ n. O.Audio n) (channel_of w.side)
    ++ by_channel (λ n. O.Plane n) (option_map (λ (ask : PlaneAsk). ask.plane) w.plane)
    ++ by_channel (λ n. O.Sprite n) (option_map asking_sprite w.sprite) ++ if_asking (is_some w.copper) O.Copper
    ++ (if first
    then if_asking (is_some w.processor) O.Processor ++ if_asking (is_some w.blit) O.Blitter
    else if_asking (is_some w.blit) O.Blitter ++ if_asking (is_some w.processor) O.Processor))) w

abbrev pub late_wishes : Option Addr → Option SlotAsk → Option ProcessorAsk → Wishes
late_wishes copper blit processor = record {
  side = S.Nothing;
  plane = None;
  sprite = None;
  copper = copper;
  blit = blit;
  processor = processor;
}

asked_whole : (side : SideAsk) (b : Beam) (c : Chips) → ask_at side b c ≡ asked_in (is_refresh b.h) (comes_first c) (wishes_of side b c)
unfolding ask_at owner_of
asked_whole side b c = refl

-- neither side, plane nor sprite asks
pub asked_after : (side : SideAsk) (b : Beam) (c : Chips) → side ≡ S.Nothing → plane_wish b c ≡ None → sprite_wish b c ≡ None
    → ask_at side b c ≡ asked_in (is_refresh b.h) (comes_first c) (late_wishes (copper_wish b c) (blit_wish c) (processor_wish c.processor))
asked_after side b c silent no_plane no_sprite =
    asked_whole side b c
    ∙ ap (λ (s : SideAsk). asked_in (is_refresh b.h) (comes_first c) (record {
      side = s;
      plane = plane_wish b c;
      sprite = sprite_wish b c;
      copper = copper_wish b c;
      blit = blit_wish c;
      processor = processor_wish c.processor;
    })) silent
    ∙ ap (λ (w : Option PlaneAsk). asked_in (is_refresh b.h) (comes_first c) (record {
      side = S.Nothing;
      plane = w;
      sprite = sprite_wish b c;
      copper = copper_wish b c;
      blit = blit_wish c;
      processor = processor_wish c.processor;
    })) no_plane
    ∙ ap (λ (w : Option SpriteAsk). asked_in (is_refresh b.h) (comes_first c) (record {
      side = S.Nothing;
      plane = None;
      sprite = w;
      copper = copper_wish b c;
      blit = blit_wish c;
      processor = processor_wish c.processor;
    })) no_sprite
