-- The fields of an opcode as the code takes them apart. (Only private functions speak of these words.)
use Rattle.std.specs.Prelude.{ℕ, Bool, true, false, Option, Some, None, ◌==◌, ◌/◌, ◌%◌, if◌then◌else◌, ◌||◌, ◌&&◌, not}
use Rattle.m68k_opcodes.specs.declared.operand.Size.{Size}
use Rattle.m68k_opcodes.specs.declared.operand.Size.TheVariants as S
use Rattle.m68k_opcodes.specs.declared.operand.Mode.{Mode}
use Rattle.m68k_opcodes.specs.declared.operand.Mode.TheVariants as M
use Rattle.m68k_opcodes.specs.declared.class.Class.{Class}
use Rattle.m68k_opcodes.specs.declared.class.Class.TheVariants as K

abbrev pub size_in : ℕ → Option Size
size_in bits =
    if bits == 0 then Some S.Byte else (if bits == 1 then Some S.Word else (if bits == 2 then Some S.Long else None))

abbrev pub word_or_long : Bool → Size
word_or_long bit = if bit then S.Long else S.Word

abbrev pub mode_in : ℕ → ℕ → Option Mode
mode_in bits reg =
    if bits == 0 then Some (M.Dn reg)
    else (if bits == 1 then Some (M.An reg)
    else (if bits == 2 then Some (M.Ind reg)
    else (if bits == 3 then Some (M.Post reg)
    else (if bits == 4 then Some (M.Pre reg)
    else (if bits == 5 then Some (M.Disp reg)
    else (if bits == 6 then Some (M.Index reg)
    else (if reg == 0 then Some M.Short
    else (if reg == 1 then Some M.Long
    else (if reg == 2 then Some M.PcDisp
    else (if reg == 3 then Some M.PcIndex
    else (if reg == 4 then Some M.Imm
    else None)))))))))))

abbrev pub is_dn : Mode → Bool
is_dn (M.Dn r) = true
is_dn _ = false

abbrev pub is_an : Mode → Bool
is_an (M.An r) = true
is_an _ = false

abbrev pub is_post : Mode → Bool
is_post (M.Post r) = true
is_post _ = false

abbrev pub is_immediate : Mode → Bool
is_immediate M.Imm = true
is_immediate _ = false

abbrev pub is_memory_alterable : Mode → Bool
is_memory_alterable (M.Ind r) = true
is_memory_alterable (M.Post r) = true
is_memory_alterable (M.Pre r) = true
is_memory_alterable (M.Disp r) = true
is_memory_alterable (M.Index r) = true
is_memory_alterable M.Short = true
is_memory_alterable M.Long = true
is_memory_alterable _ = false

abbrev pub is_control : Mode → Bool
is_control (M.Ind r) = true
is_control (M.Disp r) = true
is_control (M.Index r) = true
is_control M.Short = true
is_control M.Long = true
is_control M.PcDisp = true
is_control M.PcIndex = true
is_control _ = false

abbrev pub admits : Class → Mode → Bool
admits K.All m = true
admits K.Data m = not (is_an m)
admits K.DataButImmediate m = not (is_an m || is_immediate m)
admits K.MemoryAlterable m = is_memory_alterable m
admits K.DataAlterable m = is_memory_alterable m || is_dn m
admits K.Alterable m = is_memory_alterable m || (is_dn m || is_an m)
admits K.Control m = is_control m
admits K.ControlOrPost m = is_control m || is_post m
admits K.ControlAlterableOrPre m = is_memory_alterable m && not (is_post m)

abbrev pub admitted : Class → Option Mode → Option Mode
admitted k (Some m) = if admits k m then Some m else None
admitted k None = None

abbrev pub operand_in : ℕ → Class → Option Mode
operand_in n k = admitted k (mode_in (n / 8 % 8) (n % 8))

abbrev pub any_of : Size → Class
any_of S.Byte = K.Data
any_of _ = K.All

abbrev pub alterable_of : Size → Class
alterable_of S.Byte = K.DataAlterable
alterable_of _ = K.Alterable
