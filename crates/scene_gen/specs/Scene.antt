-- The scene of a number n: the first 49,152 bytes of chip memory, and a script of ten frames. Addresses and words in the
-- comments are hexadecimal.
use Rattle.std.specs.Prelude.{ℕ, ◌+◌, ◌-◌, ◌*◌, ◌/◌, ◌%◌, true, ◌==◌, if◌then◌else◌, List, [], ◌∷◌, ◌++◌, map, flat_map, replicate}
use Rattle.std.specs.List.{concat, range_with_len}
use Rattle.ocs_base.specs.Register.{register_of}
use Rattle.ocs_base.specs.Script.{ScriptValue}
use Rattle.ocs_base.specs.declared.chip_size.ChipSize.TheVariants.{Kib512}
use Rattle.ocs_base.specs.declared.script.Act.{Act}
use Rattle.ocs_base.specs.declared.script.Act.TheVariants.{Poke, Peek}
use Rattle.ocs_base.specs.declared.script.At.{At}
use Rattle.ocs_base.specs.declared.system.System.TheVariants.{Pal}
use Rattle.scene_gen.specs.Blocks.{Block, bytes_of, bytes_by, byte_at}

-- ---- the program

-- where the processor starts: the supervisor stack and the first instruction
abbrev pub start_vectors : List ℕ
start_vectors = 0x0000 ∷ 0x2000 ∷ 0x0000 ∷ 0x0100 ∷ []

-- the handler of interrupts of level 3
abbrev pub level_3_vector : List ℕ
level_3_vector = 0x0000 ∷ 0x0140 ∷ []

-- it allows the interrupt of the vertical blank, and stops until the next one, again and again
abbrev pub main_program : List ℕ
main_program =
    0x33fc ∷ 0xc020 ∷ 0x00df ∷ 0xf09a  -- MOVE.W #$C020,$DFF09A
    ∷ 0x46fc ∷ 0x2000  -- MOVE.W #$2000,SR
    ∷ 0x4e72 ∷ 0x2000  -- STOP #$2000
    ∷ 0x60fa  -- BRA.S to the STOP
    ∷ []

-- it reads CLXDAT, takes the request back, counts frames at 200, and makes their number the background
abbrev pub level_3_handler : List ℕ
level_3_handler =
    0x3039 ∷ 0x00df ∷ 0xf00e  -- MOVE.W $DFF00E,D0
    ∷ 0x33fc ∷ 0x0020 ∷ 0x00df ∷ 0xf09c  -- MOVE.W #$0020,$DFF09C
    ∷ 0x5279 ∷ 0x0000 ∷ 0x0200  -- ADDQ.W #1,$0200
    ∷ 0x33f9 ∷ 0x0000 ∷ 0x0200 ∷ 0x00df ∷ 0xf180  -- MOVE.W $0200,$DFF180
    ∷ 0x4e73  -- RTE
    ∷ []

-- ---- sprite 0

-- its two control words, its 16 lines, and the two words that end it
unfoldable pub sprite_list : ℕ → List ℕ
sprite_list n = (0x3c00 + 0x40 + n % 64) ∷ 0x4c00 ∷ concat (replicate 16 (0xffff ∷ 0x0f0f ∷ [])) ++ 0x0000 ∷ 0x0000 ∷ []

-- ---- the Copper list

-- a MOVE of a word to a register, and a WAIT for the begin of a line
abbrev pub move_to : ℕ → ℕ → List ℕ
move_to register word = register ∷ word ∷ []

abbrev pub wait_for : ℕ → List ℕ
wait_for line = (256 * line + 1) ∷ 0xfffe ∷ []

-- where the words of sprite k begin: the others have the two last words of sprite 0, which end a sprite at once
abbrev pub sprite_address : ℕ → ℕ
sprite_address k = if k == 0 then 0x0300 else 0x0344

-- the pointer of sprite k
abbrev pub sprite_pointer : ℕ → List ℕ
sprite_pointer k = move_to (0x0120 + 4 * k) 0x0000 ++ move_to (0x0122 + 4 * k) (sprite_address k)

-- the pointer of bitplane p, counted from 1
abbrev pub plane_pointer : ℕ → List ℕ
plane_pointer p = move_to (0x00e0 + 4 * (p - 1)) 0x0000 ++ move_to (0x00e2 + 4 * (p - 1)) (0x2000 * (p + 1))

-- a new colour for one of COLOR01 to COLOR15 each eight lines
abbrev pub colour_change : ℕ → ℕ → List ℕ
colour_change n i = wait_for (48 + 8 * i) ++ move_to (0x0182 + 2 * (i % 15)) ((37 * n + 291 * i) % 4096)

-- for k from 0 to 7, p from 1 to 4 and i from 0 to 15; at last a WAIT for a line that never comes
unfoldable pub copper_list : ℕ → List ℕ
copper_list n =
    flat_map sprite_pointer (range_with_len 0 8)
    ++ flat_map plane_pointer (range_with_len 1 4)
    ++ flat_map (colour_change n) (range_with_len 0 16)
    ++ 0xffff ∷ 0xfffe ∷ []

-- ---- the image

-- the byte at an address of the bitplanes
abbrev pub pattern_byte : ℕ → ℕ → ℕ
pattern_byte n a = ((2 * n + 1) * a + a / 256) % 256

-- what stands where; all else is zero
unfoldable pub scene_blocks : ℕ → List Block
scene_blocks n =
    record { address = 0x0000; bytes = bytes_of start_vectors }
    ∷ record { address = 0x006c; bytes = bytes_of level_3_vector }
    ∷ record { address = 0x0100; bytes = bytes_of main_program }
    ∷ record { address = 0x0140; bytes = bytes_of level_3_handler }
    ∷ record { address = 0x0300; bytes = bytes_of (sprite_list n) }
    ∷ record { address = 0x0400; bytes = bytes_of (copper_list n) }
    ∷ record { address = 0x4000; bytes = bytes_by (pattern_byte n) 0x4000 0x8000 }
    ∷ []

-- the 49,152 bytes from address 0 on
unfoldable pub scene_image : ℕ → List ℕ
scene_image n = bytes_by (byte_at (scene_blocks n)) 0 49152

-- ---- the script

abbrev pub event : ℕ → ℕ → ℕ → Act → At
event frame v h act = record { frame = frame; v = v; h = h; act = act }

abbrev pub poke : ℕ → ℕ → Act
poke register word = Poke (register_of register) word

abbrev pub peek : ℕ → Act
peek register = Peek (register_of register)

-- pokes of these registers and words at the begin of a line
abbrev pub pokes_at : ℕ → ℕ → List (ℕ × ℕ) → List At
pokes_at frame v pokes = map (λ p. event frame v 0 (poke p.0 p.1)) pokes

-- the registers that the run begins with
abbrev pub first_pokes : List (ℕ × ℕ)
first_pokes =
    (0x08e, 0x2c81)  -- DIWSTRT
    ∷ (0x090, 0xf4c1)  -- DIWSTOP
    ∷ (0x092, 0x0038)  -- DDFSTRT
    ∷ (0x094, 0x00d0)  -- DDFSTOP
    ∷ (0x100, 0x4000)  -- BPLCON0: four bitplanes
    ∷ (0x104, 0x0024)  -- BPLCON2: sprites in front
    ∷ (0x098, 0x0041)  -- CLXCON
    ∷ (0x1a2, 0x0f00)  -- COLOR17 to COLOR19, those of sprite 0
    ∷ (0x1a4, 0x00f0)
    ∷ (0x1a6, 0x000f)
    ∷ (0x082, 0x0400)  -- COP1LCL
    ∷ (0x088, 0x0000)  -- COPJMP1
    ∷ (0x096, 0x83e0)  -- DMACON: bitplanes, Copper, blitter, sprites
    ∷ []

-- a blit of 16 words in each of eight lines from one place of the bitplanes to another
abbrev pub blit_pokes : ℕ → ℕ → List (ℕ × ℕ)
blit_pokes n frame =
    (0x040, 0x09f0)  -- BLTCON0: D is A
    ∷ (0x044, 0xffff)  -- BLTAFWM
    ∷ (0x046, 0xffff)  -- BLTALWM
    ∷ (0x050, 0x0000)  -- BLTAPTH
    ∷ (0x052, 16384 + 256 * ((n + 11 * frame) % 128))  -- BLTAPTL
    ∷ (0x054, 0x0000)  -- BLTDPTH
    ∷ (0x056, 16384 + 256 * ((3 * n + 29 * frame) % 128))  -- BLTDPTL
    ∷ (0x058, 0x0210)  -- BLTSIZE
    ∷ []

-- the first frame begins with its registers, and each other blits at line 100
abbrev pub frame_pokes : ℕ → ℕ → List At
frame_pokes n frame = if frame == 0 then pokes_at frame 0 first_pokes else pokes_at frame 100 (blit_pokes n frame)

-- then CLXDAT is read at line 150, and the background changes at line 200
unfoldable pub frame_events : ℕ → ℕ → List At
frame_events n frame =
    frame_pokes n frame
    ++ event frame 150 0 (peek 0x00e)
    ∷ event frame 200 (100 + frame) (poke 0x180 ((273 * frame + n) % 4096))
    ∷ []

unfoldable pub scene_script : ℕ → ScriptValue
scene_script n = record {
  cpu = true;
  frames = 10;
  chip = Kib512;
  system = Pal;
  events = flat_map (frame_events n) (range_with_len 0 10);
}
