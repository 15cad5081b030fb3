-- An instruction as a list of numbers, which tells instructions apart.
use Rattle.std.proofs.Common.{◌≡◌, ℕ, Bool, true, false, List, [], ◌∷◌, ◌==◌, if◌then◌else◌, refl, ap, ◌∙◌, sym, get_or, eqb-true}
use Rattle.m68k_opcodes.specs.declared.operand.Size.{Size}
use Rattle.m68k_opcodes.specs.declared.operand.Size.TheVariants as S
use Rattle.m68k_opcodes.specs.declared.operand.Mode.{Mode}
use Rattle.m68k_opcodes.specs.declared.operand.Mode.TheVariants as M
use Rattle.m68k_opcodes.specs.declared.instr.Instr.{Instr}
use Rattle.m68k_opcodes.specs.declared.instr.Instr.TheVariants as I
use Rattle.m68k_opcodes.specs.Modes.{code, mode_with}

abbrev pub size_key : Size → ℕ
size_key S.Byte = 0
size_key S.Word = 1
size_key S.Long = 2

abbrev pub size_at : ℕ → Size
size_at k = if k == 0 then S.Byte else (if k == 1 then S.Word else S.Long)

pub size_back : (z : Size) → size_at (size_key z) ≡ z
size_back S.Byte = refl
size_back S.Word = refl
size_back S.Long = refl

abbrev pub register : Mode → ℕ
register (M.Dn r) = r
register (M.An r) = r
register (M.Ind r) = r
register (M.Post r) = r
register (M.Pre r) = r
register (M.Disp r) = r
register (M.Index r) = r
register _ = 0

pub mode_back : (m : Mode) → mode_with (code m) (register m) ≡ m
mode_back (M.Dn r) = refl
mode_back (M.An r) = refl
mode_back (M.Ind r) = refl
mode_back (M.Post r) = refl
mode_back (M.Pre r) = refl
mode_back (M.Disp r) = refl
mode_back (M.Index r) = refl
mode_back M.Short = refl
mode_back M.Long = refl
mode_back M.PcDisp = refl
mode_back M.PcIndex = refl
mode_back M.Imm = refl

abbrev pub key : Instr → List ℕ
key (I.Immediate n0 n1 z2 m3) = 0 ∷ n0 ∷ n1 ∷ (size_key z2) ∷ (code m3) ∷ (register m3) ∷ []
key (I.Cmpi z0 m1) = 1 ∷ (size_key z0) ∷ (code m1) ∷ (register m1) ∷ []
key (I.ImmediateToStatus n0) = 2 ∷ n0 ∷ []
key (I.BitDynamic n0 n1 n2 m3) = 3 ∷ n0 ∷ n1 ∷ n2 ∷ (code m3) ∷ (register m3) ∷ []
key (I.BitStatic n0 n1 m2) = 4 ∷ n0 ∷ n1 ∷ (code m2) ∷ (register m2) ∷ []
key (I.Movep n0 n1 n2) = 5 ∷ n0 ∷ n1 ∷ n2 ∷ []
key (I.Move z0 m1 m2) = 6 ∷ (size_key z0) ∷ (code m1) ∷ (register m1) ∷ (code m2) ∷ (register m2) ∷ []
key (I.Movea z0 n1 m2) = 7 ∷ (size_key z0) ∷ n1 ∷ (code m2) ∷ (register m2) ∷ []
key (I.Unary n0 n1 z2 m3) = 8 ∷ n0 ∷ n1 ∷ (size_key z2) ∷ (code m3) ∷ (register m3) ∷ []
key (I.MoveFromSr m0) = 9 ∷ (code m0) ∷ (register m0) ∷ []
key (I.MoveToStatus n0 m1) = 10 ∷ n0 ∷ (code m1) ∷ (register m1) ∷ []
key (I.Nbcd m0) = 11 ∷ (code m0) ∷ (register m0) ∷ []
key (I.Swap n0) = 12 ∷ n0 ∷ []
key (I.Pea m0) = 13 ∷ (code m0) ∷ (register m0) ∷ []
key (I.Ext z0 n1) = 14 ∷ (size_key z0) ∷ n1 ∷ []
key (I.MovemToMemory z0 m1) = 15 ∷ (size_key z0) ∷ (code m1) ∷ (register m1) ∷ []
key (I.MovemToRegisters z0 m1) = 16 ∷ (size_key z0) ∷ (code m1) ∷ (register m1) ∷ []
key (I.Tst z0 m1) = 17 ∷ (size_key z0) ∷ (code m1) ∷ (register m1) ∷ []
key (I.Tas m0) = 18 ∷ (code m0) ∷ (register m0) ∷ []
key (I.Trap n0) = 19 ∷ n0 ∷ []
key (I.LinkUnlk n0 n1) = 20 ∷ n0 ∷ n1 ∷ []
key (I.MoveUsp n0 n1) = 21 ∷ n0 ∷ n1 ∷ []
key (I.ResetNopStopRte n0) = 22 ∷ n0 ∷ []
key (I.RtsTrapvRtr n0) = 23 ∷ n0 ∷ []
key (I.JsrJmp n0 m1) = 24 ∷ n0 ∷ (code m1) ∷ (register m1) ∷ []
key (I.Lea n0 m1) = 25 ∷ n0 ∷ (code m1) ∷ (register m1) ∷ []
key (I.Chk n0 m1) = 26 ∷ n0 ∷ (code m1) ∷ (register m1) ∷ []
key (I.Quick n0 n1 z2 m3) = 27 ∷ n0 ∷ n1 ∷ (size_key z2) ∷ (code m3) ∷ (register m3) ∷ []
key (I.Scc n0 m1) = 28 ∷ n0 ∷ (code m1) ∷ (register m1) ∷ []
key (I.Dbcc n0 n1) = 29 ∷ n0 ∷ n1 ∷ []
key (I.Branch n0 n1 n2) = 30 ∷ n0 ∷ n1 ∷ n2 ∷ []
key (I.Moveq n0 n1) = 31 ∷ n0 ∷ n1 ∷ []
key (I.OrAndToDn n0 n1 z2 m3) = 32 ∷ n0 ∷ n1 ∷ (size_key z2) ∷ (code m3) ∷ (register m3) ∷ []
key (I.SubAddToDn n0 n1 z2 m3) = 33 ∷ n0 ∷ n1 ∷ (size_key z2) ∷ (code m3) ∷ (register m3) ∷ []
key (I.ToMemory n0 n1 z2 m3) = 34 ∷ n0 ∷ n1 ∷ (size_key z2) ∷ (code m3) ∷ (register m3) ∷ []
key (I.Cmp n0 z1 m2) = 35 ∷ n0 ∷ (size_key z1) ∷ (code m2) ∷ (register m2) ∷ []
key (I.Eor n0 z1 m2) = 36 ∷ n0 ∷ (size_key z1) ∷ (code m2) ∷ (register m2) ∷ []
key (I.Cmpm n0 z1 n2) = 37 ∷ n0 ∷ (size_key z1) ∷ n2 ∷ []
key (I.SubaAdda n0 n1 z2 m3) = 38 ∷ n0 ∷ n1 ∷ (size_key z2) ∷ (code m3) ∷ (register m3) ∷ []
key (I.Cmpa n0 z1 m2) = 39 ∷ n0 ∷ (size_key z1) ∷ (code m2) ∷ (register m2) ∷ []
key (I.SubxAddx n0 n1 z2 n3 n4) = 40 ∷ n0 ∷ n1 ∷ (size_key z2) ∷ n3 ∷ n4 ∷ []
key (I.SbcdAbcd n0 n1 n2 n3) = 41 ∷ n0 ∷ n1 ∷ n2 ∷ n3 ∷ []
key (I.Exg n0 n1 n2) = 42 ∷ n0 ∷ n1 ∷ n2 ∷ []
key (I.MuluMuls n0 n1 m2) = 43 ∷ n0 ∷ n1 ∷ (code m2) ∷ (register m2) ∷ []
key (I.DivuDivs n0 n1 m2) = 44 ∷ n0 ∷ n1 ∷ (code m2) ∷ (register m2) ∷ []
key (I.ShiftRegister n0 n1 z2 n3 n4 n5) = 45 ∷ n0 ∷ n1 ∷ (size_key z2) ∷ n3 ∷ n4 ∷ n5 ∷ []
key (I.ShiftMemory n0 n1 m2) = 46 ∷ n0 ∷ n1 ∷ (code m2) ∷ (register m2) ∷ []
key I.Illegal = 47 ∷ []
key I.LineA = 48 ∷ []
key I.LineF = 49 ∷ []

-- the number at a place of a key
abbrev pub at : List ℕ → ℕ → ℕ
at l k = get_or l k 0

abbrev pub from_key : List ℕ → Instr
from_key l =
    if at l 0 == 0 then I.Immediate (at l 1) (at l 2) (size_at (at l 3)) (mode_with (at l 4) (at l 5))
    else (if at l 0 == 1 then I.Cmpi (size_at (at l 1)) (mode_with (at l 2) (at l 3))
    else (if at l 0 == 2 then I.ImmediateToStatus (at l 1)
    else (if at l 0 == 3 then I.BitDynamic (at l 1) (at l 2) (at l 3) (mode_with (at l 4) (at l 5))
    else (if at l 0 == 4 then I.BitStatic (at l 1) (at l 2) (mode_with (at l 3) (at l 4))
    else (if at l 0 == 5 then I.Movep (at l 1) (at l 2) (at l 3)
    else (if at l 0 == 6 then I.Move (size_at (at l 1)) (mode_with (at l 2) (at l 3)) (mode_with (at l 4) (at l 5))
    else (if at l 0 == 7 then I.Movea (size_at (at l 1)) (at l 2) (mode_with (at l 3) (at l 4))
    else (if at l 0 == 8 then I.Unary (at l 1) (at l 2) (size_at (at l 3)) (mode_with (at l 4) (at l 5))
    else (if at l 0 == 9 then I.MoveFromSr (mode_with (at l 1) (at l 2))
    else (if at l 0 == 10 then I.MoveToStatus (at l 1) (mode_with (at l 2) (at l 3))
    else (if at l 0 == 11 then I.Nbcd (mode_with (at l 1) (at l 2))
    else (if at l 0 == 12 then I.Swap (at l 1)
    else (if at l 0 == 13 then I.Pea (mode_with (at l 1) (at l 2))
    else (if at l 0 == 14 then I.Ext (size_at (at l 1)) (at l 2)
    else (if at l 0 == 15 then I.MovemToMemory (size_at (at l 1)) (mode_with (at l 2) (at l 3))
    else (if at l 0 == 16 then I.MovemToRegisters (size_at (at l 1)) (mode_with (at l 2) (at l 3))
    else (if at l 0 == 17 then I.Tst (size_at (at l 1)) (mode_with (at l 2) (at l 3))
    else (if at l 0 == 18 then I.Tas (mode_with (at l 1) (at l 2))
    else (if at l 0 == 19 then I.Trap (at l 1)
    else (if at l 0 == 20 then I.LinkUnlk (at l 1) (at l 2)
    else (if at l 0 == 21 then I.MoveUsp (at l 1) (at l 2)
    else (if at l 0 == 22 then I.ResetNopStopRte (at l 1)
    else (if at l 0 == 23 then I.RtsTrapvRtr (at l 1)
    else (if at l 0 == 24 then I.JsrJmp (at l 1) (mode_with (at l 2) (at l 3))
    else (if at l 0 == 25 then I.Lea (at l 1) (mode_with (at l 2) (at l 3))
    else (if at l 0 == 26 then I.Chk (at l 1) (mode_with (at l 2) (at l 3))
    else (if at l 0 == 27 then I.Quick (at l 1) (at l 2) (size_at (at l 3)) (mode_with (at l 4) (at l 5))
    else (if at l 0 == 28 then I.Scc (at l 1) (mode_with (at l 2) (at l 3))
    else (if at l 0 == 29 then I.Dbcc (at l 1) (at l 2)
    else (if at l 0 == 30 then I.Branch (at l 1) (at l 2) (at l 3)
    else (if at l 0 == 31 then I.Moveq (at l 1) (at l 2)
    else (if at l 0 == 32 then I.OrAndToDn (at l 1) (at l 2) (size_at (at l 3)) (mode_with (at l 4) (at l 5))
    else (if at l 0 == 33 then I.SubAddToDn (at l 1) (at l 2) (size_at (at l 3)) (mode_with (at l 4) (at l 5))
    else (if at l 0 == 34 then I.ToMemory (at l 1) (at l 2) (size_at (at l 3)) (mode_with (at l 4) (at l 5))
    else (if at l 0 == 35 then I.Cmp (at l 1) (size_at (at l 2)) (mode_with (at l 3) (at l 4))
    else (if at l 0 == 36 then I.Eor (at l 1) (size_at (at l 2)) (mode_with (at l 3) (at l 4))
    else (if at l 0 == 37 then I.Cmpm (at l 1) (size_at (at l 2)) (at l 3)
    else (if at l 0 == 38 then I.SubaAdda (at l 1) (at l 2) (size_at (at l 3)) (mode_with (at l 4) (at l 5))
    else (if at l 0 == 39 then I.Cmpa (at l 1) (size_at (at l 2)) (mode_with (at l 3) (at l 4))
    else (if at l 0 == 40 then I.SubxAddx (at l 1) (at l 2) (size_at (at l 3)) (at l 4) (at l 5)
    else (if at l 0 == 41 then I.SbcdAbcd (at l 1) (at l 2) (at l 3) (at l 4)
    else (if at l 0 == 42 then I.Exg (at l 1) (at l 2) (at l 3)
    else (if at l 0 == 43 then I.MuluMuls (at l 1) (at l 2) (mode_with (at l 3) (at l 4))
    else (if at l 0 == 44 then I.DivuDivs (at l 1) (at l 2) (mode_with (at l 3) (at l 4))
    else (if at l 0 == 45 then I.ShiftRegister (at l 1) (at l 2) (size_at (at l 3)) (at l 4) (at l 5) (at l 6)
    else (if at l 0 == 46 then I.ShiftMemory (at l 1) (at l 2) (mode_with (at l 3) (at l 4))
    else (if at l 0 == 47 then I.Illegal
    else (if at l 0 == 48 then I.LineA
    else I.LineF))))))))))))))))))))))))))))))))))))))))))))))))

pub back : (i : Instr) → from_key (key i) ≡ i
back (I.Immediate n0 n1 z2 m3) = ap (λ w. I.Immediate n0 n1 w (mode_with (code m3) (register m3))) (size_back z2)
    ∙ ap (λ w. I.Immediate n0 n1 z2 w) (mode_back m3)
back (I.Cmpi z0 m1) = ap (λ w. I.Cmpi w (mode_with (code m1) (register m1))) (size_back z0) ∙ ap (λ w. I.Cmpi z0 w) (mode_back m1)
back (I.ImmediateToStatus n0) = refl
back (I.BitDynamic n0 n1 n2 m3) = ap (λ w. I.BitDynamic n0 n1 n2 w) (mode_back m3)
back (I.BitStatic n0 n1 m2) = ap (λ w. I.BitStatic n0 n1 w) (mode_back m2)
back (I.Movep n0 n1 n2) = refl
back (I.Move z0 m1 m2) = ap (λ w. I.Move w (mode_with (code m1) (register m1)) (mode_with (code m2) (register m2))) (size_back z0)
    ∙ ap (λ w. I.Move z0 w (mode_with (code m2) (register m2))) (mode_back m1) ∙ ap (λ w. I.Move z0 m1 w) (mode_back m2)
back (I.Movea z0 n1 m2) = ap (λ w. I.Movea w n1 (mode_with (code m2) (register m2))) (size_back z0) ∙ ap (λ w. I.Movea z0 n1 w) (mode_back m2)
back (I.Unary n0 n1 z2 m3) = ap (λ w. I.Unary n0 n1 w (mode_with (code m3) (register m3))) (size_back z2) ∙ ap (λ w. I.Unary n0 n1 z2 w) (mode_back m3)
back (I.MoveFromSr m0) = ap (λ w. I.MoveFromSr w) (mode_back m0)
back (I.MoveToStatus n0 m1) = ap (λ w. I.MoveToStatus n0 w) (mode_back m1)
back (I.Nbcd m0) = ap (λ w. I.Nbcd w) (mode_back m0)
back (I.Swap n0) = refl
back (I.Pea m0) = ap (λ w. I.Pea w) (mode_back m0)
back (I.Ext z0 n1) = ap (λ w. I.Ext w n1) (size_back z0)
back (I.MovemToMemory z0 m1) = ap (λ w. I.MovemToMemory w (mode_with (code m1) (register m1))) (size_back z0) ∙ ap (λ w. I.MovemToMemory z0 w) (mode_back m1)
back (I.MovemToRegisters z0 m1) = ap (λ w. I.MovemToRegisters w (mode_with (code m1) (register m1))) (size_back z0)
    ∙ ap (λ w. I.MovemToRegisters z0 w) (mode_back m1)
back (I.Tst z0 m1) = ap (λ w. I.Tst w (mode_with (code m1) (register m1))) (size_back z0) ∙ ap (λ w. I.Tst z0 w) (mode_back m1)
back (I.Tas m0) = ap (λ w. I.Tas w) (mode_back m0)
back (I.Trap n0) = refl
back (I.LinkUnlk n0 n1) = refl
back (I.MoveUsp n0 n1) = refl
back (I.ResetNopStopRte n0) = refl
back (I.RtsTrapvRtr n0) = refl
back (I.JsrJmp n0 m1) = ap (λ w. I.JsrJmp n0 w) (mode_back m1)
back (I.Lea n0 m1) = ap (λ w. I.Lea n0 w) (mode_back m1)
back (I.Chk n0 m1) = ap (λ w. I.Chk n0 w) (mode_back m1)
back (I.Quick n0 n1 z2 m3) = ap (λ w. I.Quick n0 n1 w (mode_with (code m3) (register m3))) (size_back z2) ∙ ap (λ w. I.Quick n0 n1 z2 w) (mode_back m3)
back (I.Scc n0 m1) = ap (λ w. I.Scc n0 w) (mode_back m1)
back (I.Dbcc n0 n1) = refl
back (I.Branch n0 n1 n2) = refl
back (I.Moveq n0 n1) = refl
back (I.OrAndToDn n0 n1 z2 m3) = ap (λ w. I.OrAndToDn n0 n1 w (mode_with (code m3) (register m3))) (size_back z2)
    ∙ ap (λ w. I.OrAndToDn n0 n1 z2 w) (mode_back m3)
back (I.SubAddToDn n0 n1 z2 m3) = ap (λ w. I.SubAddToDn n0 n1 w (mode_with (code m3) (register m3))) (size_back z2)
    ∙ ap (λ w. I.SubAddToDn n0 n1 z2 w) (mode_back m3)
back (I.ToMemory n0 n1 z2 m3) = ap (λ w. I.ToMemory n0 n1 w (mode_with (code m3) (register m3))) (size_back z2) ∙ ap (λ w. I.ToMemory n0 n1 z2 w) (mode_back m3)
back (I.Cmp n0 z1 m2) = ap (λ w. I.Cmp n0 w (mode_with (code m2) (register m2))) (size_back z1) ∙ ap (λ w. I.Cmp n0 z1 w) (mode_back m2)
back (I.Eor n0 z1 m2) = ap (λ w. I.Eor n0 w (mode_with (code m2) (register m2))) (size_back z1) ∙ ap (λ w. I.Eor n0 z1 w) (mode_back m2)
back (I.Cmpm n0 z1 n2) = ap (λ w. I.Cmpm n0 w n2) (size_back z1)
back (I.SubaAdda n0 n1 z2 m3) = ap (λ w. I.SubaAdda n0 n1 w (mode_with (code m3) (register m3))) (size_back z2) ∙ ap (λ w. I.SubaAdda n0 n1 z2 w) (mode_back m3)
back (I.Cmpa n0 z1 m2) = ap (λ w. I.Cmpa n0 w (mode_with (code m2) (register m2))) (size_back z1) ∙ ap (λ w. I.Cmpa n0 z1 w) (mode_back m2)
back (I.SubxAddx n0 n1 z2 n3 n4) = ap (λ w. I.SubxAddx n0 n1 w n3 n4) (size_back z2)
back (I.SbcdAbcd n0 n1 n2 n3) = refl
back (I.Exg n0 n1 n2) = refl
back (I.MuluMuls n0 n1 m2) = ap (λ w. I.MuluMuls n0 n1 w) (mode_back m2)
back (I.DivuDivs n0 n1 m2) = ap (λ w. I.DivuDivs n0 n1 w) (mode_back m2)
back (I.ShiftRegister n0 n1 z2 n3 n4 n5) = ap (λ w. I.ShiftRegister n0 n1 w n3 n4 n5) (size_back z2)
back (I.ShiftMemory n0 n1 m2) = ap (λ w. I.ShiftMemory n0 n1 w) (mode_back m2)
back I.Illegal = refl
back I.LineA = refl
back I.LineF = refl

-- whether two lists of numbers are the same
abbrev pub same : List ℕ → List ℕ → Bool
same [] [] = true
same [] (y ∷ ys) = false
same (x ∷ xs) [] = false
same (x ∷ xs) (y ∷ ys) = if x == y then same xs ys else false

pub same_sound : (xs ys : List ℕ) → same xs ys ≡ true → xs ≡ ys
same_sound [] [] h = refl
same_sound [] (y ∷ ys) h = cc
same_sound (x ∷ xs) [] h = cc
same_sound (x ∷ xs) (y ∷ ys) h =
    let P : Bool → Type 0 = λ b. (x == y) ≡ b → (if b then same xs ys else false) ≡ true → x ∷ xs ≡ y ∷ ys in
    let split : (b : Bool) → P b =
    (λ b. elim b as P [ true ↦ λ here rest. (let t : xs ≡ ys = same_sound xs ys rest in let u : x ≡ y = eqb-true x y here in cc) | false ↦ λ here rest. cc ]) in
    split (x == y) refl h

pub same_key : (i j : Instr) → same (key i) (key j) ≡ true → i ≡ j
same_key i j h = sym (back i) ∙ ap from_key (same_sound (key i) (key j) h) ∙ back j
