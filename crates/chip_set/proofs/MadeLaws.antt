-- What the access of a clock makes: by the word that answers it in the code, and by the one in the machine.
use Rattle.std.proofs.Common.{◌≡◌, ℕ, Bool, true, false, if◌then◌else◌, List, Option, Some, None, refl, ap, sym}
use Rattle.blit_words.specs.declared.blit.SlotAsk.{SlotAsk}
use Rattle.blit_words.specs.declared.blit.SlotAsk.TheVariants.{Read, Write, Rest, Done}
use Rattle.ocs_base.specs.declared.addr.Addr.{Addr}
use Rattle.ocs_base.specs.declared.beam.Beam.{Beam}
use Rattle.serial_model.specs.declared.bus.Ask.{Ask}
use Rattle.serial_model.specs.declared.bus.Ask.TheVariants as A
use Rattle.serial_model.specs.declared.bus.Made.TheVariants as M
use Rattle.serial_model.specs.declared.bus.ProcessorAsk.{ProcessorAsk}
use Rattle.serial_model.specs.declared.bus.SideAsk.{SideAsk}
use Rattle.serial_model.specs.declared.bus.SideAsk.TheVariants as S
use Rattle.serial_model.specs.declared.copper.CopperAct.TheVariants.{None as NoAct}
use Rattle.serial_model.specs.declared.copper.CopperState.{CopperState}
use Rattle.serial_model.specs.declared.copper.CopperPhase.{CopperPhase}
use Rattle.serial_model.specs.declared.copper.CopperPhase.TheVariants.{First, Second, Waiting, Stopped}
use Rattle.serial_model.specs.declared.fetch.PlaneAsk.{PlaneAsk}
use Rattle.serial_model.specs.declared.fetch.SpriteAsk.{SpriteAsk}
use Rattle.serial_model.specs.declared.fetch.SpriteAsk.TheVariants.{Control, Words}
use Rattle.serial_model.specs.declared.slots.Owner.{Owner}
use Rattle.serial_model.specs.declared.slots.Owner.TheVariants.{Refresh, Disk, Audio, Plane, Sprite, Copper, Blitter, Processor, Free}
use Rattle.serial_model.specs.Bus.{Wishes, copper_runs, plane_wish, sprite_wish, blit_wish, wishes_of, slot_state}
use Rattle.serial_model.specs.Bus.{owner_ask, ask_at, answer_to, copper_word, made_by_copper, made_by_ask}
use Rattle.serial_model.specs.Copper.{wish_of, copper_act, act_in}
use Rattle.serial_model.specs.Owner.{owner_of}
use Rattle.serial_model.specs.Processor.{processor_wish}
use Rattle.serial_model.specs.Registers.{is_danger}
use Rattle.serial_model.specs.State.{Chips}
use Rattle.bus_slots.specs.Asks.{made_with}
use Rattle.chip_set.specs.Chips.{act_at}

-- without a word the Copper makes nothing
no_word : (danger : Bool) (phase : CopperPhase) (first : ℕ) → act_in danger None phase first ≡ NoAct
no_word danger First first = refl
no_word danger Second first = refl
no_word danger Waiting first = refl
no_word danger Stopped first = refl

no_made : (danger : Bool) (c : CopperState) → M.Nothing ≡ made_by_copper (copper_act danger None c)
unfolding copper_act
no_made danger c = ap (λ act. made_by_copper act) (sym (no_word danger c.phase c.first))

-- what is made, where the Copper runs, and where it does not
abbrev Agrees : Bool → Owner → Wishes → Option Addr → ℕ → Chips → Type 0
Agrees runs owner w wish word c =
    (let ask = owner_ask owner (record w { copper = if runs then wish else None }) in
    made_by_ask ask word c
    ≡ made_with ask word (if runs then copper_act (is_danger c.registers) (copper_word ask word) c.copper else NoAct))

abbrev Wishing : SideAsk → Option PlaneAsk → Option SpriteAsk → Option SlotAsk → Option ProcessorAsk → Wishes
Wishing side plane sprite blit processor =
    record { side = side; plane = plane; sprite = sprite; copper = None; blit = blit; processor = processor }

side_running : (side : SideAsk) (word : ℕ) (c : Chips) → made_by_ask (A.Side side) word c
    ≡ made_with (A.Side side) word (copper_act (is_danger c.registers) (copper_word (A.Side side) word) c.copper)
unfolding made_by_ask
side_running S.Nothing word c = no_made (is_danger c.registers) c.copper
side_running (S.Disk at stored) word c = refl
side_running (S.Audio channel at) word c = no_made (is_danger c.registers) c.copper

side_at_rest : (side : SideAsk) (word : ℕ) (c : Chips) → made_by_ask (A.Side side) word c ≡ made_with (A.Side side) word NoAct
unfolding made_by_ask
side_at_rest S.Nothing word c = refl
side_at_rest (S.Disk at stored) word c = refl
side_at_rest (S.Audio channel at) word c = refl

while_running : (owner : Owner) (side : SideAsk) (plane : Option PlaneAsk) (sprite : Option SpriteAsk) (blit : Option SlotAsk)
    (processor : Option ProcessorAsk) (wish : Option Addr) (word : ℕ) (c : Chips)
    → Agrees true owner (Wishing side plane sprite blit processor) wish word c
unfolding made_by_ask
while_running Refresh side plane sprite blit processor wish word c = no_made (is_danger c.registers) c.copper
while_running Disk side plane sprite blit processor wish word c = side_running side word c
while_running (Audio channel) side plane sprite blit processor wish word c = side_running side word c
while_running (Plane number) side None sprite blit processor wish word c = no_made (is_danger c.registers) c.copper
while_running (Plane number) side (Some ask) sprite blit processor wish word c = refl
while_running (Sprite number) side plane None blit processor wish word c = no_made (is_danger c.registers) c.copper
while_running (Sprite number) side plane (Some (Control sprite second at)) blit processor wish word c = refl
while_running (Sprite number) side plane (Some (Words sprite second at)) blit processor wish word c = refl
while_running Copper side plane sprite blit processor None word c = no_made (is_danger c.registers) c.copper
while_running Copper side plane sprite blit processor (Some at) word c = refl
while_running Blitter side plane sprite None processor wish word c = no_made (is_danger c.registers) c.copper
while_running Blitter side plane sprite (Some (Read at)) processor wish word c = no_made (is_danger c.registers) c.copper
while_running Blitter side plane sprite (Some (Write at stored)) processor wish word c = refl
while_running Blitter side plane sprite (Some Rest) processor wish word c = no_made (is_danger c.registers) c.copper
while_running Blitter side plane sprite (Some Done) processor wish word c = no_made (is_danger c.registers) c.copper
while_running Processor side plane sprite blit None wish word c = no_made (is_danger c.registers) c.copper
while_running Processor side plane sprite blit (Some ask) wish word c = refl
while_running Free side plane sprite blit processor wish word c = no_made (is_danger c.registers) c.copper

at_rest : (owner : Owner) (side : SideAsk) (plane : Option PlaneAsk) (sprite : Option SpriteAsk) (blit : Option SlotAsk)
    (processor : Option ProcessorAsk) (wish : Option Addr) (word : ℕ) (c : Chips)
    → Agrees false owner (Wishing side plane sprite blit processor) wish word c
unfolding made_by_ask
at_rest Refresh side plane sprite blit processor wish word c = refl
at_rest Disk side plane sprite blit processor wish word c = side_at_rest side word c
at_rest (Audio channel) side plane sprite blit processor wish word c = side_at_rest side word c
at_rest (Plane number) side None sprite blit processor wish word c = refl
at_rest (Plane number) side (Some ask) sprite blit processor wish word c = refl
at_rest (Sprite number) side plane None blit processor wish word c = refl
at_rest (Sprite number) side plane (Some (Control sprite second at)) blit processor wish word c = refl
at_rest (Sprite number) side plane (Some (Words sprite second at)) blit processor wish word c = refl
at_rest Copper side plane sprite blit processor wish word c = refl
at_rest Blitter side plane sprite None processor wish word c = refl
at_rest Blitter side plane sprite (Some (Read at)) processor wish word c = refl
at_rest Blitter side plane sprite (Some (Write at stored)) processor wish word c = refl
at_rest Blitter side plane sprite (Some Rest) processor wish word c = refl
at_rest Blitter side plane sprite (Some Done) processor wish word c = refl
at_rest Processor side plane sprite blit None wish word c = refl
at_rest Processor side plane sprite blit (Some ask) wish word c = refl
at_rest Free side plane sprite blit processor wish word c = refl

either : (runs : Bool) (owner : Owner) (side : SideAsk) (plane : Option PlaneAsk) (sprite : Option SpriteAsk) (blit : Option SlotAsk)
    (processor : Option ProcessorAsk) (wish : Option Addr) (word : ℕ) (c : Chips)
    → Agrees runs owner (Wishing side plane sprite blit processor) wish word c
either true owner side plane sprite blit processor wish word c = while_running owner side plane sprite blit processor wish word c
either false owner side plane sprite blit processor wish word c = at_rest owner side plane sprite blit processor wish word c

pub made-act : (side : SideAsk) (b : Beam) (word : ℕ) (c : Chips)
    → made_by_ask (ask_at side b c) word c ≡ made_with (ask_at side b c) word (act_at b (ask_at side b c) word c)
unfolding ask_at
made-act side b word c =
    either (copper_runs b c) (owner_of (slot_state b c (wishes_of side b c))) side (plane_wish b c) (sprite_wish b c) (blit_wish c)
    (processor_wish c.processor) (wish_of c.copper) word c

-- the word of the code serves as the machine's
abbrev pub Serves : Ask → Beam → ℕ → Chips → List ℕ → ℕ → Type 0
Serves A.Free b clx c memory word = word ≡ 0
Serves (A.Side ask) b clx c memory word = Unit {0}
Serves (A.Plane ask) b clx c memory word = Unit {0}
Serves (A.Sprite (Control sprite second at)) b clx c memory word = word ≡ answer_to (A.Sprite (Control sprite second at)) b clx c memory
Serves (A.Sprite (Words sprite second at)) b clx c memory word = Unit {0}
Serves (A.Copper at) b clx c memory word = word ≡ answer_to (A.Copper at) b clx c memory
Serves (A.Blit ask) b clx c memory word = word ≡ answer_to (A.Blit ask) b clx c memory
Serves (A.Processor ask) b clx c memory word = word ≡ answer_to (A.Processor ask) b clx c memory

pub made_by_answer : (ask : Ask) (b : Beam) (clx : ℕ) (c : Chips) (memory : List ℕ) (word : ℕ) → Serves ask b clx c memory word
    → made_by_ask ask word c ≡ made_by_ask ask (answer_to ask b clx c memory) c
unfolding made_by_ask
made_by_answer A.Free b clx c memory word is = refl
made_by_answer (A.Side ask) b clx c memory word is = refl
made_by_answer (A.Plane ask) b clx c memory word is = refl
made_by_answer (A.Sprite (Control sprite second at)) b clx c memory word is =
    ap (λ w. made_by_ask (A.Sprite (Control sprite second at)) w c) is
made_by_answer (A.Sprite (Words sprite second at)) b clx c memory word is = refl
made_by_answer (A.Copper at) b clx c memory word is = ap (λ w. made_by_ask (A.Copper at) w c) is
made_by_answer (A.Blit ask) b clx c memory word is = refl
made_by_answer (A.Processor ask) b clx c memory word is = refl

pub copper_by_answer : (ask : Ask) (b : Beam) (clx : ℕ) (c : Chips) (memory : List ℕ) (word : ℕ) → Serves ask b clx c memory word
    → copper_word ask word ≡ copper_word ask (answer_to ask b clx c memory)
copper_by_answer A.Free b clx c memory word is = refl
copper_by_answer (A.Side ask) b clx c memory word is = refl
copper_by_answer (A.Plane ask) b clx c memory word is = refl
copper_by_answer (A.Sprite ask) b clx c memory word is = refl
copper_by_answer (A.Copper at) b clx c memory word is = ap (λ w. Some w) is
copper_by_answer (A.Blit ask) b clx c memory word is = refl
copper_by_answer (A.Processor ask) b clx c memory word is = refl
