-- The channels fit the chip memory that their pointers are of.
use Rattle.std.proofs.Common.{◌≡◌, refl, sym, ap, subst, ◌∙◌, ℕ, Bool, true, false, if◌then◌else◌, Option, None, Some, List, [], ◌∷◌, ◌-◌, ◌%◌, ◌<◌}
use Rattle.ocs_base.specs.Sizes.{bytes_of, size_of_bytes}
use Rattle.ocs_base.specs.declared.beam.Beam.{Beam}
use Rattle.ocs_base.specs.declared.chip_size.ChipSize.{ChipSize}
use Rattle.paula_audio.specs.Channel.{after_start, after_stop, after_switch, first_half, second_half, next_half_at_zero}
use Rattle.paula_audio.specs.Channel.{count_if_on, after_tick, after_fetch, after_word, after_write, after_load}
use Rattle.paula_audio.specs.Paula.{PaulaValue, reset_paula, has_dma, channel_write, channel_ask, paula_ask, channel_word}
use Rattle.paula_audio.specs.Paula.{paula_after, paula_side}
use Rattle.paula_audio.specs.declared.channel.Channel.{Channel}
use Rattle.serial_model.specs.Copper.{bytes_after}
use Rattle.serial_model.specs.Side.{Happening, Poked, Ticked, Given, after_all, IsBelow, FitsSide}
use Rattle.serial_model.specs.declared.bus.SideAsk.{SideAsk}
use Rattle.serial_model.specs.declared.bus.SideAsk.TheVariants as S

record HasSize (size : ChipSize) (c : Channel) : Type 0 where
  is : c.at.size ≡ size

same : (c : Channel) → HasSize c.at.size c
same c = record { is = refl }

either : {size : ChipSize} (b : Bool) (x y : Channel) → HasSize size x → HasSize size y → HasSize size (if b then x else y)
either true x y first second = first
either false x y first second = second

write_keeps : (place word : ℕ) (c : Channel) → HasSize c.at.size (after_write place word c)
write_keeps place word c =
    either _ _ _ (same (record c { high = word }))
    (either _ _ _ (same (record c { low = word }))
    (either _ _ _ (same (record c { length = word }))
    (either _ _ _ (same (record c { period = word })) (either _ _ _ (same (record c { volume = word })) (same c)))))

switch_keeps : (dma : Bool) (c : Channel) → HasSize c.at.size (after_switch dma c)
switch_keeps dma c = either _ _ _ (either _ _ _ (same c) (same (after_start c))) (same (after_stop c))

first_keeps : (held : Option ℕ) (c : Channel) → HasSize c.at.size (first_half held c)
first_keeps None c = same c
first_keeps (Some word) c = same (first_half (Some word) c)

half_keeps : (c : Channel) → HasSize c.at.size (next_half_at_zero c)
half_keeps c = either _ _ _ (either _ _ _ (same (second_half c)) (first_keeps c.held c)) (same c)

count_keeps : (c : Channel) → HasSize c.at.size (count_if_on c)
count_keeps c = either _ _ _ (half_keeps (record c { counter = c.counter - 1 })) (same c)

tick_keeps : (dma : Bool) (c : Channel) → HasSize c.at.size (after_tick dma c)
tick_keeps dma c =
    record {
      is = (count_keeps (after_switch dma (record c { due = false }))).is ∙ (switch_keeps dma (record c { due = false })).is;
    }

word_keeps : (word : ℕ) (c : Channel) → HasSize c.at.size (after_word word c)
word_keeps word c =
    let fetched : HasSize c.at.size (after_fetch c) =
    either _ _ _ (same (record (after_load c) { due = true })) (same (record c { at = bytes_after c.at 2; left = c.left - 1 })) in
    let given : HasSize c.at.size (record (after_fetch c) { held = Some word }) = record { is = fetched.is } in
    either _ _ _ given (same c)

-- the four of them
record HaveSize (size : ChipSize) (p : PaulaValue) : Type 0 where
  zero : p.zero.at.size ≡ size
  one : p.one.at.size ≡ size
  two : p.two.at.size ≡ size
  three : p.three.at.size ≡ size

poke_keeps : (n offset word : ℕ) (c : Channel) → HasSize c.at.size (channel_write n offset word c)
poke_keeps n offset word c = either _ _ _ (write_keeps (offset % 16) word c) (same c)

give_keeps : (n h word : ℕ) (c : Channel) → HasSize c.at.size (channel_word n h word c)
give_keeps n h word c = either _ _ _ (word_keeps word c) (same c)

step_keeps : (size : ChipSize) (happening : Happening) (p : PaulaValue) → HaveSize size p → HaveSize size (paula_after happening p)
step_keeps size (Poked reg word) p have = record {
  zero = (poke_keeps 0 reg.offset word p.zero).is ∙ have.zero;
  one = (poke_keeps 1 reg.offset word p.one).is ∙ have.one;
  two = (poke_keeps 2 reg.offset word p.two).is ∙ have.two;
  three = (poke_keeps 3 reg.offset word p.three).is ∙ have.three;
}
step_keeps size (Ticked b dmacon) p have = record {
  zero = (tick_keeps (has_dma 0 dmacon) p.zero).is ∙ have.zero;
  one = (tick_keeps (has_dma 1 dmacon) p.one).is ∙ have.one;
  two = (tick_keeps (has_dma 2 dmacon) p.two).is ∙ have.two;
  three = (tick_keeps (has_dma 3 dmacon) p.three).is ∙ have.three;
}
step_keeps size (Given word) p have = record {
  zero = (give_keeps 0 p.h word p.zero).is ∙ have.zero;
  one = (give_keeps 1 p.h word p.one).is ∙ have.one;
  two = (give_keeps 2 p.h word p.two).is ∙ have.two;
  three = (give_keeps 3 p.h word p.three).is ∙ have.three;
}

all_keep : (size : ChipSize) (later : List Happening) (p : PaulaValue) → HaveSize size p → HaveSize size (after_all paula_after later p)
all_keep size [] p have = have
all_keep size (happening ∷ later) p have = all_keep size later (paula_after happening p) (step_keeps size happening p have)

record IsAskBelow (size : ℕ) (ask : SideAsk) : Type 0 where
  is : IsBelow size ask

either_ask : {size : ℕ} (b : Bool) (x y : SideAsk) → IsAskBelow size x → IsAskBelow size y → IsAskBelow size (if b then x else y)
either_ask true x y first second = first
either_ask false x y first second = second

none : (size : ℕ) → IsAskBelow size S.Nothing
none size = record { is = tt }

channel_below : (size : ChipSize) (n : ℕ) (dma : Bool) (c : Channel) → c.at.size ≡ size → IsAskBelow (bytes_of size) (channel_ask n dma c)
channel_below size n dma c has =
    let own : IsAskBelow (bytes_of size) (S.Audio n c.at) = record { is = subst (λ s. c.at.value < bytes_of s) has c.at.below } in
    either_ask _ _ _ own (none (bytes_of size))

ask_below : (size : ChipSize) (b : Beam) (dmacon : ℕ) (p : PaulaValue) → HaveSize size p → IsAskBelow (bytes_of size) (paula_ask b dmacon p)
ask_below size b dmacon p have =
    either_ask _ _ _ (channel_below size 0 (has_dma 0 dmacon) p.zero have.zero)
    (either_ask _ _ _ (channel_below size 1 (has_dma 1 dmacon) p.one have.one)
    (either_ask _ _ _ (channel_below size 2 (has_dma 2 dmacon) p.two have.two)
    (either_ask _ _ _ (channel_below size 3 (has_dma 3 dmacon) p.three have.three) (none (bytes_of size)))))

paula_fits : (size : ChipSize) (p : PaulaValue) → HaveSize size p → FitsSide (bytes_of size) (paula_side p)
paula_fits size p have later b dmacon =
    (ask_below size b dmacon (after_all paula_after later p) (all_keep size later p have)).is

pub reset_fits : (size : ChipSize) (chip : ℕ) → size ≡ size_of_bytes chip → bytes_of size ≡ chip →
    FitsSide chip (paula_side (reset_paula (size_of_bytes chip)))
reset_fits size chip is bytes =
    subst (λ n. FitsSide n (paula_side (reset_paula (size_of_bytes chip)))) (ap bytes_of (sym is) ∙ bytes)
    (paula_fits (size_of_bytes chip) (reset_paula (size_of_bytes chip)) (record { zero = refl; one = refl; two = refl; three = refl }))
