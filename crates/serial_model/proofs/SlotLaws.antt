-- Planes and sprites in their slots: those that ask get them, and the fetches of planes are seen by no sprite.
use Rattle.std.proofs.Common.{◌≡◌, ℕ, slice_set, ◌+◌, ◌*◌, ◌<◌, ◌≤◌, inl, inr, IfSome, Bool, true, false, not, ◌&&◌}
use Rattle.std.proofs.Common.{◌++◌, if◌then◌else◌, List, Option, Some, None, get_or, is_some, arith, refl, ap, ◌∙◌, sym}
use Rattle.std.proofs.lemmas.Bool.Decides.{nat_tests}
use Rattle.std.proofs.lemmas.Option.{none-some}
use Rattle.std.proofs.Math.Bool.{and-false}
use Rattle.std.specs.Option.{option_map}
use Rattle.ocs_base.specs.AddressOf.{addr_at}
use Rattle.ocs_base.specs.declared.beam.Beam.{Beam}
use Rattle.serial_model.specs.declared.fetch.PlaneAsk.{PlaneAsk}
use Rattle.serial_model.specs.declared.fetch.SpriteAsk.{SpriteAsk}
use Rattle.serial_model.specs.declared.fetch.SpriteAsk.TheVariants as A
use Rattle.serial_model.specs.declared.fetch.SpriteKind.{SpriteKind}
use Rattle.serial_model.specs.declared.fetch.SpriteKind.TheVariants.{Nothing, Control, Words}
use Rattle.serial_model.specs.declared.slots.Owner.{Owner}
use Rattle.serial_model.specs.declared.slots.Owner.TheVariants as O
use Rattle.serial_model.specs.declared.slots.SlotState.{SlotState}
use Rattle.serial_model.specs.Beam.{is_line_start}
use Rattle.serial_model.specs.Owner.{owner_of, is_refresh, if_asking, by_channel, first_asker, blitter_and_processor, processor_first}
use Rattle.serial_model.specs.PlaneFetch.{IsLastUnit, fetched_plane, plane_ask, move_planes, move_if_fetched, move_plane_pointer, ask_for_plane}
use Rattle.irq_cia.specs.Bits.{has_bits}
use Rattle.serial_model.specs.Registers.{Registers, kept_word, pointer_at}
use Rattle.serial_model.specs.SpriteFetch.{kinds_at, kind_of, kind_by, no_kinds, sprite_of, is_sprite_slot, is_second_slot}
use Rattle.serial_model.specs.SpriteFetch.{sprite_in_slot, sprite_ask, ask_in_slot, ask_by_kind, asking_sprite, sprite_pointer}
use Rattle.serial_model.specs.SpriteFetch.{position_word, control_word, sprite_dma, move_sprites, move_sprite_pointer, move_if_asked}
use Rattle.serial_model.proofs.FetchLaws.{IsFetch, IsNoPlanePointer, fetched_plane-is, kept_word-move_planes, move_pointer-other}

-- registers that differ in the planes' pointers at most
pub record SameForSprites (moved registers : Registers) : Type 0 where
  pub size : moved.size ≡ registers.size
  pub kept : (offset : ℕ) → IsNoPlanePointer offset → kept_word moved offset ≡ kept_word registers offset

-- the fetches of planes leave the size of chip memory
size-move_if_fetched : (h : ℕ) (last found : Option ℕ) (registers : Registers) → (move_if_fetched h last found registers).size ≡ registers.size
size-move_if_fetched h last None registers = refl
size-move_if_fetched h None (Some plane) registers = refl
size-move_if_fetched h (Some start) (Some plane) registers = refl

pub move_planes-same : (h : ℕ) (last : Option ℕ) (registers : Registers) → IsLastUnit last → SameForSprites (move_planes h last registers) registers
move_planes-same h last registers at = record {
  size = size-move_if_fetched h last (fetched_plane h registers last) registers;
  kept = λ offset other. kept_word-move_planes h last registers offset at other;
}

dma_same : (moved registers : Registers) → SameForSprites moved registers → sprite_dma moved ≡ sprite_dma registers
dma_same moved registers same = ap (λ word. has_bits word 544) (same.kept 0x96 (inl (omega arith)))

kind_same : (v : ℕ) (moved registers : Registers) (sprite : ℕ) → SameForSprites moved registers → kind_of v moved sprite ≡ kind_of v registers sprite
kind_same v moved registers sprite same =
    ap (λ on. if on then kind_by v (position_word moved sprite) (control_word moved sprite) else Nothing) (dma_same moved registers same)
    ∙ ap (λ pos. if sprite_dma registers then kind_by v pos (control_word moved sprite) else Nothing)
    (same.kept (0x140 + 8 * sprite) (inr (omega arith)))
    ∙ ap (λ ctl. if sprite_dma registers then kind_by v (position_word registers sprite) ctl else Nothing)
    (same.kept (0x142 + 8 * sprite) (inr (omega arith)))

pub kinds_at-same : (b : Beam) (moved registers : Registers) (kinds : List SpriteKind) → SameForSprites moved registers
    → kinds_at b moved kinds ≡ kinds_at b registers kinds
unfolding kinds_at
kinds_at-same b moved registers kinds same =
    let before : List SpriteKind = if is_line_start b then no_kinds else kinds in
    ap (λ kind. if is_sprite_slot b.h && not (is_second_slot b.h) then slice_set before (sprite_of b.h) kind else before)
    (kind_same b.v moved registers (sprite_of b.h) same)

pointer_same : (moved registers : Registers) (sprite : ℕ) → SameForSprites moved registers
    → pointer_at moved (sprite_pointer sprite) ≡ pointer_at registers (sprite_pointer sprite)
pointer_same moved registers sprite same =
    ap (λ size. addr_at size (65536 * kept_word moved (sprite_pointer sprite) + kept_word moved (sprite_pointer sprite + 2))) same.size
    ∙ ap (λ high. addr_at registers.size (65536 * high + kept_word moved (sprite_pointer sprite + 2))) (same.kept (sprite_pointer sprite) (inr (omega arith)))
    ∙ ap (λ low. addr_at registers.size (65536 * kept_word registers (sprite_pointer sprite) + low)) (same.kept (sprite_pointer sprite + 2) (inr (omega arith)))

by_kind_same : (kind : SpriteKind) (second : Bool) (moved registers : Registers) (sprite : ℕ) → SameForSprites moved registers
    → ask_by_kind kind second moved sprite ≡ ask_by_kind kind second registers sprite
by_kind_same Nothing second moved registers sprite same = refl
by_kind_same Control second moved registers sprite same = ap (λ at. Some (A.Control sprite second at)) (pointer_same moved registers sprite same)
by_kind_same Words second moved registers sprite same = ap (λ at. Some (A.Words sprite second at)) (pointer_same moved registers sprite same)

in_slot_same : (sprite : Option ℕ) (h : ℕ) (moved registers : Registers) (kinds : List SpriteKind) → SameForSprites moved registers
    → ask_in_slot sprite h moved kinds ≡ ask_in_slot sprite h registers kinds
in_slot_same None h moved registers kinds same = refl
in_slot_same (Some sprite) h moved registers kinds same =
    by_kind_same (get_or kinds sprite Nothing) (is_second_slot h) moved registers sprite same

pub sprite_ask-same : (h : ℕ) (moved registers : Registers) (kinds : List SpriteKind) (taken : Bool) → SameForSprites moved registers
    → sprite_ask h moved kinds taken ≡ sprite_ask h registers kinds taken
sprite_ask-same h moved registers kinds taken same =
    ap (λ on. ask_in_slot (if is_sprite_slot h && on && not taken then Some (sprite_of h) else None) h moved kinds) (dma_same moved registers same)
    ∙ in_slot_same (sprite_in_slot h registers taken) h moved registers kinds same

-- a sprite that asks has its slot's clock, and asks in no slot that a bitplane has
slot_if : (slot on free : Bool) (sprite h : ℕ) (registers : Registers) (kinds : List SpriteKind) (ask : SpriteAsk)
    → ask_in_slot (if slot && on && free then Some sprite else None) h registers kinds ≡ Some ask → slot ≡ true
slot_if true on free sprite h registers kinds ask is = refl
slot_if false on free sprite h registers kinds ask is = absurd (none-some ask is)

pub sprite_ask-slot : (h : ℕ) (registers : Registers) (kinds : List SpriteKind) (taken : Bool) (ask : SpriteAsk)
    → sprite_ask h registers kinds taken ≡ Some ask → is_sprite_slot h ≡ true
sprite_ask-slot h registers kinds taken ask is =
    slot_if (is_sprite_slot h) (sprite_dma registers) (not taken) (sprite_of h) h registers kinds ask is

pub sprite_ask-taken : (h : ℕ) (registers : Registers) (kinds : List SpriteKind) → sprite_ask h registers kinds true ≡ None
sprite_ask-taken h registers kinds =
    ap (λ asks. ask_in_slot (if asks then Some (sprite_of h) else None) h registers kinds) (and-false (is_sprite_slot h && sprite_dma registers))

-- one of eight sprites asks
few_in_slot : (kind : SpriteKind) (second : Bool) (registers : Registers) (sprite : ℕ) → sprite ≤ 7
    → IfSome (ask_by_kind kind second registers sprite) (λ ask. asking_sprite ask ≤ 7)
few_in_slot Nothing second registers sprite few = tt
few_in_slot Control second registers sprite few = few
few_in_slot Words second registers sprite few = few

few_if : (slot on free : Bool) (h : ℕ) (registers : Registers) (kinds : List SpriteKind) → (slot ≡ true → sprite_of h ≤ 7)
    → IfSome (ask_in_slot (if slot && on && free then Some (sprite_of h) else None) h registers kinds) (λ ask. asking_sprite ask ≤ 7)
few_if true true true h registers kinds few =
    few_in_slot (get_or kinds (sprite_of h) Nothing) (is_second_slot h) registers (sprite_of h) (few refl)
few_if true true false h registers kinds few = tt
few_if true false free h registers kinds few = tt
few_if false on free h registers kinds few = tt

few_at : (h : ℕ) → is_sprite_slot h ≡ true → sprite_of h ≤ 7
few_at h is = grind (arith, nat_tests)

pub sprite_ask-few : (h : ℕ) (registers : Registers) (kinds : List SpriteKind) (taken : Bool)
    → IfSome (sprite_ask h registers kinds taken) (λ ask. asking_sprite ask ≤ 7)
sprite_ask-few h registers kinds taken = few_if (is_sprite_slot h) (sprite_dma registers) (not taken) h registers kinds (few_at h)

-- the fetches of sprites leave the registers below their pointers
sprites_kept : (asked : Option SpriteAsk) (registers : Registers) (offset : ℕ) → offset < 0x120
    → kept_word (move_if_asked asked registers) offset ≡ kept_word registers offset
sprites_kept None registers offset low = refl
sprites_kept (Some ask) registers offset low =
    move_pointer-other (sprite_pointer (asking_sprite ask)) 0 registers offset (omega arith) (omega arith)

pub kept_word-move_sprites : (h : ℕ) (kinds : List SpriteKind) (taken : Bool) (registers : Registers) (offset : ℕ) → offset < 0x120
    → kept_word (move_sprites h kinds taken registers) offset ≡ kept_word registers offset
kept_word-move_sprites h kinds taken registers offset low = sprites_kept (sprite_ask h registers kinds taken) registers offset low

-- disk and audio ask only before the sprites' first slot
pub record AsksBefore (s : SlotState) : Type 0 where
  pub disk : s.disk ≡ true → s.h < 21
  pub audio : IfSome s.audio (λ channel. s.h < 21)

-- the owner, by who asks among the first five
abbrev pub owner_by : Bool → Bool → Option ℕ → Option ℕ → Option ℕ → SlotState → Owner
owner_by refresh disk audio plane sprite s =
    first_asker (if_asking refresh O.Refresh ++ if_asking disk O.Disk ++ by_channel (λ n. O.Audio n) audio ++ by_channel (λ n. O.Plane n) plane
    ++ by_channel (λ n. O.Sprite n) sprite ++ if_asking s.copper O.Copper ++ blitter_and_processor s)

no_disk : (disk : Bool) (h : ℕ) → 21 ≤ h → (disk ≡ true → h < 21) → disk ≡ false
no_disk true h late before = let low : h < 21 = before refl in absurd (omega arith)
no_disk false h late before = refl

no_audio : (audio : Option ℕ) (h : ℕ) → 21 ≤ h → IfSome audio (λ channel. h < 21) → audio ≡ None
no_audio None h late before = refl
no_audio (Some channel) h late before = absurd (omega (arith, before))

no_refresh : (h : ℕ) → 21 ≤ h → h ≤ 223 → is_refresh h ≡ false
no_refresh h late before = grind (arith, nat_tests)

owner_then : (s : SlotState) → AsksBefore s → 21 ≤ s.h → s.h ≤ 223 → owner_of s ≡ owner_by false false None s.plane s.sprite s
unfolding owner_of
owner_then s asks late before =
    ap (λ refresh. owner_by refresh s.disk s.audio s.plane s.sprite s) (no_refresh s.h late before)
    ∙ ap (λ disk. owner_by false disk s.audio s.plane s.sprite s) (no_disk s.disk s.h late asks.disk)
    ∙ ap (λ audio. owner_by false false audio s.plane s.sprite s) (no_audio s.audio s.h late asks.audio)

-- a plane that asks gets its slot
pub plane_wins : (s : SlotState) (plane : ℕ) → AsksBefore s → 21 ≤ s.h → s.h ≤ 223 → s.plane ≡ Some plane → owner_of s ≡ O.Plane plane
plane_wins s plane asks late before is =
    owner_then s asks late before ∙ ap (λ wish. owner_by false false None wish s.sprite s) is

-- so does a sprite, where no plane asks
pub sprite_wins : (s : SlotState) (sprite : ℕ) → AsksBefore s → 21 ≤ s.h → s.h ≤ 223 → s.plane ≡ None → s.sprite ≡ Some sprite
    → owner_of s ≡ O.Sprite sprite
sprite_wins s sprite asks late before none is =
    owner_then s asks late before ∙ ap (λ wish. owner_by false false None wish s.sprite s) none
    ∙ ap (λ wish. owner_by false false None None wish s) is

-- what the access of the owner does to the registers, as far as planes and sprites go
abbrev pub move_owned : ℕ → Option ℕ → Owner → Registers → Registers
move_owned h last (O.Plane plane) registers = move_plane_pointer h last plane registers
move_owned h last (O.Sprite sprite) registers = move_sprite_pointer sprite registers
move_owned h last O.Refresh registers = registers
move_owned h last O.Disk registers = registers
move_owned h last (O.Audio channel) registers = registers
move_owned h last O.Copper registers = registers
move_owned h last O.Blitter registers = registers
move_owned h last O.Processor registers = registers
move_owned h last O.Free registers = registers

-- where neither a plane nor a sprite asks, the owner moves no pointer
late_asker : (first blitter processor : Bool) (h : ℕ) (last : Option ℕ) (registers : Registers)
    → move_owned h last (first_asker (if first then if_asking processor O.Processor ++ if_asking blitter O.Blitter
    else if_asking blitter O.Blitter ++ if_asking processor O.Processor)) registers ≡ registers
late_asker true blitter true h last registers = refl
late_asker true true false h last registers = refl
late_asker true false false h last registers = refl
late_asker false true processor h last registers = refl
late_asker false false true h last registers = refl
late_asker false false false h last registers = refl

other_asker : (refresh disk copper : Bool) (audio : Option ℕ) (s : SlotState) (last : Option ℕ) (registers : Registers)
    → move_owned s.h last (first_asker (if_asking refresh O.Refresh ++ if_asking disk O.Disk ++ by_channel (λ n. O.Audio n) audio
    ++ by_channel (λ n. O.Plane n) None ++ by_channel (λ n. O.Sprite n) None ++ if_asking copper O.Copper ++ blitter_and_processor s)) registers ≡ registers
other_asker true disk copper audio s last registers = refl
other_asker false true copper audio s last registers = refl
other_asker false false copper (Some channel) s last registers = refl
other_asker false false true None s last registers = refl
other_asker false false false None s last registers = late_asker (processor_first s) s.blitter s.processor s.h last registers

-- a clock whose slot a plane or a sprite may have
record IsFetchClock (h : ℕ) : Type 0 where
  late : 21 ≤ h
  before : h ≤ 223

sprite_clock : (h : ℕ) → is_sprite_slot h ≡ true → IsFetchClock h
sprite_clock h is = record { late = grind (arith, nat_tests); before = grind (arith, nat_tests) }

plane_clock : (h plane : ℕ) → IsFetch h plane → IsFetchClock h
plane_clock h plane is = record { late = omega (arith, is.low); before = omega (arith, is.high) }

-- the access of the owner moves what the asks of planes and sprites move, where the slot state has those asks
by_plane : (s : SlotState) (last : Option ℕ) (plane : ℕ) (kinds : List SpriteKind) (registers : Registers) → AsksBefore s → IsFetchClock s.h
    → s.plane ≡ Some plane
    → move_owned s.h last (owner_of s) registers ≡ move_sprites s.h kinds true (move_plane_pointer s.h last plane registers)
by_plane s last plane kinds registers asks clock is =
    ap (λ owner. move_owned s.h last owner registers) (plane_wins s plane asks clock.late clock.before is)
    ∙ sym (ap (λ ask. move_if_asked ask (move_plane_pointer s.h last plane registers))
    (sprite_ask-taken s.h (move_plane_pointer s.h last plane registers) kinds))

by_sprite : (s : SlotState) (last : Option ℕ) (asked : Option SpriteAsk) (kinds : List SpriteKind) (registers : Registers) → AsksBefore s
    → s.plane ≡ None → s.sprite ≡ option_map asking_sprite asked → sprite_ask s.h registers kinds false ≡ asked
    → move_owned s.h last (owner_of s) registers ≡ move_sprites s.h kinds false registers
unfolding owner_of
by_sprite s last None kinds registers asks none is ask =
    let stays : move_owned s.h last (owner_by (is_refresh s.h) s.disk s.audio None None s) registers ≡ registers =
    other_asker (is_refresh s.h) s.disk s.copper s.audio s last registers in
    ap (λ wish. move_owned s.h last (owner_by (is_refresh s.h) s.disk s.audio wish s.sprite s) registers) none
    ∙ ap (λ wish. move_owned s.h last (owner_by (is_refresh s.h) s.disk s.audio None wish s) registers) is
    ∙ stays ∙ sym (ap (λ a. move_if_asked a registers) ask)
by_sprite s last (Some asked) kinds registers asks none is ask =
    let clock : IsFetchClock s.h = sprite_clock s.h (sprite_ask-slot s.h registers kinds false asked ask) in
    ap (λ owner. move_owned s.h last owner registers) (sprite_wins s (asking_sprite asked) asks clock.late clock.before none is)
    ∙ sym (ap (λ a. move_if_asked a registers) ask)

by_either : (s : SlotState) (last found : Option ℕ) (kinds : List SpriteKind) (registers : Registers) → AsksBefore s
    → IfSome found (IsFetch s.h) → s.plane ≡ found
    → s.sprite ≡ option_map asking_sprite (sprite_ask s.h registers kinds (is_some found))
    → move_owned s.h last (owner_of s) registers ≡ move_sprites s.h kinds (is_some found) (move_if_fetched s.h last found registers)
by_either s last None kinds registers asks within plane sprite =
    by_sprite s last (sprite_ask s.h registers kinds false) kinds registers asks plane sprite refl
by_either s last (Some found) kinds registers asks within plane sprite =
    by_plane s last found kinds registers asks (plane_clock s.h found within) plane

pub move_owned-moved : (s : SlotState) (last : Option ℕ) (kinds : List SpriteKind) (registers : Registers) → AsksBefore s → IsLastUnit last
    → s.plane ≡ fetched_plane s.h registers last
    → s.sprite ≡ option_map asking_sprite (sprite_ask s.h registers kinds (is_some (fetched_plane s.h registers last)))
    → move_owned s.h last (owner_of s) registers
    ≡ move_sprites s.h kinds (is_some (fetched_plane s.h registers last)) (move_planes s.h last registers)
move_owned-moved s last kinds registers asks at plane sprite =
    by_either s last (fetched_plane s.h registers last) kinds registers asks (fetched_plane-is s.h registers last at) plane sprite

-- the plane of the planes' ask is the one that is fetched, and one asks where one is fetched
ask_for_found : (registers : Registers) (found : Option ℕ)
    → option_map (λ (ask : PlaneAsk). ask.plane) (option_map (λ plane. ask_for_plane registers plane) found) ≡ found
ask_for_found registers None = refl
ask_for_found registers (Some plane) = refl

pub plane_of-plane_ask : (h : ℕ) (registers : Registers) (last : Option ℕ)
    → option_map (λ (ask : PlaneAsk). ask.plane) (plane_ask h registers last) ≡ fetched_plane h registers last
plane_of-plane_ask h registers last = ask_for_found registers (fetched_plane h registers last)

some_for_found : (registers : Registers) (found : Option ℕ) → is_some (option_map (λ plane. ask_for_plane registers plane) found) ≡ is_some found
some_for_found registers None = refl
some_for_found registers (Some plane) = refl

pub is_some-plane_ask : (h : ℕ) (registers : Registers) (last : Option ℕ)
    → is_some (plane_ask h registers last) ≡ is_some (fetched_plane h registers last)
is_some-plane_ask h registers last = some_for_found registers (fetched_plane h registers last)
