-- An operand in a data register has no extension words and makes no step.
use Rattle.std.proofs.Common.{◌≡◌, ℕ, refl}
use Rattle.m68k_opcodes.specs.declared.operand.Mode.TheVariants as M
use Rattle.m68k_opcodes.specs.declared.instr.Instr.{Instr}
use Rattle.m68k_decode.specs.declared.place.Place68.TheVariants as P
use Rattle.m68k_decode.specs.declared.row.Source.TheVariants as F
use Rattle.m68k_decode.specs.declared.row.Dest.TheVariants as D
use Rattle.m68k_decode.specs.Places.{place_of, stepped}
use Rattle.m68k_decode.specs.Rows.{general_row}
use Rattle.m68k_decode.specs.Run.{Run, place, at_place}
use Rattle.m68k_decode.specs.General.{general, with_source, dest, with_dest}

pub source_in_register : (i : Instr) (r : ℕ) (s : Run) → (general_row i).source ≡ F.Operand (M.Dn r)
    → general i s ≡ with_source i (P.Data r) s
unfolding general place at_place place_of stepped
source_in_register i r s is = rw is refl

pub dest_in_register : (i : Instr) (value r : ℕ) (s : Run) → (general_row i).dest ≡ D.Operand (M.Dn r)
    → dest i value s ≡ with_dest i value (P.Data r) s
unfolding dest place at_place place_of stepped
dest_in_register i value r s is = rw is refl
