-- The shifts of registers, Scc of a data register, MULU and MULS take their clocks.
use Rattle.std.proofs.Common.{◌≡◌, ℕ, suc, ◌+◌, ◌*◌, ◌%◌, ◌<◌, ◌≤◌, ◌==◌, Bool, true}
use Rattle.std.proofs.Common.{false, if◌then◌else◌, List, [], ◌∷◌, length, refl, sym, subst, ◌∙◌, arith, lit<}
use Rattle.m68k_opcodes.specs.declared.operand.Size.{Size}
use Rattle.m68k_opcodes.specs.declared.operand.Size.TheVariants as S
use Rattle.m68k_opcodes.specs.declared.operand.Mode.{Mode}
use Rattle.m68k_opcodes.specs.declared.operand.Mode.TheVariants as M
use Rattle.m68k_opcodes.specs.declared.instr.Instr.{Instr}
use Rattle.m68k_opcodes.specs.declared.instr.Instr.TheVariants as I
use Rattle.m68k_opcodes.specs.Modes.{sized}
use Rattle.m68k_opcodes.specs.Clocks.{Clocks, Counted, Outcomes, number}
use Rattle.m68k_opcodes.specs.Table.{clocks_at}
use Rattle.m68k_opcodes.specs.code.Timing.{timing}
use Rattle.m68k_decode.specs.declared.place.Place68.{Place68}
use Rattle.m68k_decode.specs.declared.place.Place68.TheVariants as D
use Rattle.m68k_decode.specs.Registers.{data_of}
use Rattle.m68k_decode.specs.Places.{extensions, place_of, stepped}
use Rattle.m68k_decode.specs.Results.{low, one_if}
use Rattle.m68k_decode.specs.Status.{flags_of, condition}
use Rattle.m68k_decode.specs.Access.{Prog}
use Rattle.m68k_decode.specs.Run.{Run, with_regs, moved, read, at_place, place, load, store}
use Rattle.m68k_decode.specs.declared.row.Source.{Source}
use Rattle.m68k_decode.specs.declared.row.Source.TheVariants as F
use Rattle.m68k_decode.specs.declared.row.Count.TheVariants as C
use Rattle.m68k_decode.specs.RowWords.{eight_if_zero, ones, turns}
use Rattle.m68k_decode.specs.Rows.{general_row}
use Rattle.m68k_decode.specs.RowResults.{count_by, trap_by, trap_ea_by}
use Rattle.m68k_decode.specs.RowData.{is_operand, source_mode_of, constant_of}
use Rattle.m68k_decode.specs.General as G
use Rattle.m68k_time.specs.Time.{Takes, source_word, last_word, multiply_count}
use Rattle.m68k_time.proofs.Fits.{more, loads, counted_serves, fits}
use Rattle.m68k_time.proofs.Counting.{Holds, last_of, at_end, goes_on_at_end, at_begin, more_sum, serves_takes}
use Rattle.m68k_time.proofs.Parts.{words_at, fetch_holds, read_word_holds, place_holds}
use Rattle.m68k_time.proofs.Lawful.{Lawful, With, lawful_with, counted_takes}

-- clocks that rise with a count that needs no access
counted_at : (k : ℕ) (c : Clocks) → counted_serves k 0 c ≡ true → (x : ℕ) → Takes (number c x) k (number c x)
counted_at k c h x =
    let none : k + 0 * x ≡ k = omega arith in
    subst (λ j. Takes (number c x) j (number c x)) none (counted_takes k 0 c h x)

-- ---- shifts

shift_serves : (z : Size) → counted_serves 1 0 (Counted (sized z 6 8) 2) ≡ true
shift_serves S.Byte = refl
shift_serves S.Word = refl
shift_serves S.Long = refl

cut_count : (n : ℕ) → low S.Long n % 64 ≡ n % 64
cut_count n = omega arith

pub shift_row : (c d : ℕ) (z : Size) (i t r : ℕ) (s : Run) → clocks_at s.opcode ≡ timing (I.ShiftRegister c d z i t r)
    → Lawful (I.ShiftRegister c d z i t r) s (G.general (I.ShiftRegister c d z i t r) s)
unfolding G.general G.with_source G.dest G.with_dest G.compute G.completed place at_place place_of stepped load
    store general_row count_by trap_by trap_ea_by
shift_row c d z i t r s row =
    let serves_it : counted_serves 1 0 (clocks_at s.opcode) ≡ true = subst (λ k. counted_serves 1 0 k ≡ true) (sym row) (shift_serves z) in
    let X : Bool → ℕ = λ b. (if b then data_of s.regs c else eight_if_zero c) % 64 in
    let row : Instr = I.ShiftRegister c d z i t r in
    let source : Bool → Source = λ b. if b then F.Operand (M.Dn c) else F.Number (eight_if_zero c) in
    let M : Bool → Type 0 = λ b. Holds s.taking (With s (X b)) 0 1 0
    (if is_operand (source b) then place s S.Long (source_mode_of (source b)) (λ p t. G.with_source row p t) else G.dest row (constant_of (source b)) s) in
    let split : (b : Bool) → M b = (λ b. elim b as M [
      | true ↦ (
        subst (λ y. Takes (number (clocks_at s.opcode) y) 1 (number (clocks_at s.opcode) (data_of s.regs c % 64))) (sym (cut_count (data_of s.regs c)))
            (counted_at 1 (clocks_at s.opcode) serves_it (data_of s.regs c % 64)),
        tt,
      )
      | false ↦ (counted_at 1 (clocks_at s.opcode) serves_it (eight_if_zero c % 64), tt)
    ]) in
    lawful_with row s (G.general row s) (X (i == 1)) (λ ws. refl) (split (i == 1))

-- ---- Scc

scc_takes : (b : Bool) → Takes (number (Outcomes (4 ∷ 6 ∷ [])) (one_if b)) 1 (number (Outcomes (4 ∷ 6 ∷ [])) (one_if b))
scc_takes true = serves_takes 1 6 refl
scc_takes false = serves_takes 1 4 refl

pub scc_row : (c r : ℕ) (s : Run) → clocks_at s.opcode ≡ timing (I.Scc c (M.Dn r)) → Lawful (I.Scc c (M.Dn r)) s (G.general (I.Scc c (M.Dn r)) s)
unfolding G.general G.with_source G.dest G.with_dest G.compute G.completed place at_place place_of stepped load
    store general_row count_by trap_by trap_ea_by
scc_row c r s row =
    let x : ℕ = one_if (condition c (flags_of s.regs.sr)) in
    lawful_with (I.Scc c (M.Dn r)) s (G.general (I.Scc c (M.Dn r)) s) x (λ ws. refl)
    (subst (λ k. Takes (number k x) 1 (number k x)) (sym row) (scc_takes (condition c (flags_of s.regs.sr))), tt)

-- ---- MULU and MULS

-- the count of the row is that of its operation
counted : (b : Bool) (v sr : ℕ) → (if b then ones 16 v else turns 16 (2 * v)) ≡ count_by (if b then C.Ones else C.Turns) v sr
unfolding count_by
counted true v sr = refl
counted false v sr = refl

-- the source is known
multiplied : (P : ℕ → ℕ → ℕ → Type 0) (k l : ℕ) (w r : ℕ) (m : Mode) (value : ℕ) (s : Run) → P k l (number (clocks_at s.opcode) (multiply_count w value))
    → Holds s.taking P 0 k l (G.dest (I.MuluMuls w r m) value s)
unfolding G.dest G.with_dest G.compute G.completed place at_place place_of stepped load store general_row count_by trap_by
multiplied P k l w r m value s h = (subst (λ x. P k l (number (clocks_at s.opcode) x)) (counted (w == 0) value s.regs.sr) h, tt)

-- the source is the last word that was read
abbrev pub ByLast : Run → ℕ → ℕ → ℕ → ℕ → Type 0
ByLast s w k l t = Takes t k (number (clocks_at s.opcode) (multiply_count w l)) × (2 ≤ k)

last_is : (w : ℕ) (ws : List ℕ) → last_word (w ∷ ws) ≡ last_of w ws
last_is w [] = refl
last_is w (v ∷ ws) = last_is v ws

by_last_end : (s : Run) (w : ℕ) (ws : List ℕ) (t : ℕ) → ByLast s w (more (length ws) 1) (last_of 0 ws) t
    → Takes t (more (length ws) 1) (number (clocks_at s.opcode) (multiply_count w (last_word ws)))
by_last_end s w [] t h = absurd (omega (arith, h.1))
by_last_end s w (v ∷ ws) t h =
    subst (λ x. Takes t (more (length (v ∷ ws)) 1) (number (clocks_at s.opcode) (multiply_count w x))) (sym (last_is v ws)) h.0

lawful_by_last : (w r : ℕ) (m : Mode) (s : Run) (p : Prog) → ((ws : List ℕ) → source_word m s.regs ws ≡ last_word ws)
    → Holds s.taking (ByLast s w) 0 1 0 p → Lawful (I.MuluMuls w r m) s p
unfolding general_row trap_ea_by
lawful_by_last w r m s p is_last h =
    record {
      ends = λ ws t q u words here. subst (λ x. Takes t (more (length ws) 1) (number (clocks_at s.opcode) (multiply_count w x))) (sym (is_last ws))
          (by_last_end s w ws t (at_end s.taking (ByLast s w) 0 1 0 p ws t q u h words here));
      goes_on = λ ws t q u words here. goes_on_at_end s.taking (ByLast s w) 0 1 0 p ws t q u h words here;
      begins = λ ws q u words here. at_begin s.taking (ByLast s w) 0 1 0 p ws q u h words here;
    }

-- a word in memory is read, and nothing else
load_last : (P : ℕ → ℕ → ℕ → Type 0) (k l : ℕ) (s : Run) (program : Bool) (p : Place68) (c : ℕ → Prog) → words_at p S.Word ≡ 1
    → ((v : ℕ) → v < 65536 → Holds s.taking P 0 (suc k) v (c v)) → Holds s.taking P 0 k l (load s S.Word program p c)
unfolding load read
load_last P k l s program (D.Data r) c one h = absurd (omega (arith, one))
load_last P k l s program (D.Address r) c one h = absurd (omega (arith, one))
load_last P k l s program (D.Value v) c one h = absurd (omega (arith, one))
load_last P k l s program (D.Memory at) c one h = read_word_holds P 0 k l s program at c h

at_least : (n : ℕ) → 2 ≤ suc (more n 1)
at_least n = let e : more n 1 ≡ n + 1 = more_sum n 1 in omega (arith, e)

memory_product : (w r : ℕ) (m : Mode) (s : Run) → loads m S.Word ≡ 1
    → counted_serves (more (loads m S.Word) (more (extensions m S.Word) 1)) 0 (clocks_at s.opcode) ≡ true
    → Holds s.taking (ByLast s w) 0 1 0 (G.general (I.MuluMuls w r m) s)
unfolding G.general G.with_source general_row
memory_product w r m s one fits =
    let enough : counted_serves (suc (more (extensions m S.Word) 1)) 0 (clocks_at s.opcode) ≡ true =
    subst (λ n. counted_serves (more n (more (extensions m S.Word) 1)) 0 (clocks_at s.opcode) ≡ true) one fits in
    place_holds (ByLast s w) 0 1 0 s S.Word m _ (λ p regs v placed.
    load_last (ByLast s w) (more (extensions m S.Word) 1) v (with_regs s regs) (G.is_program m) p _ (placed ∙ one)
    (λ value below. multiplied (ByLast s w) (suc (more (extensions m S.Word) 1)) value w r m value (with_regs s regs)
    (counted_at (suc (more (extensions m S.Word) 1)) (clocks_at s.opcode) enough (multiply_count w value), at_least (extensions m S.Word))))

immediate_product : (w r : ℕ) (s : Run) → counted_serves 2 0 (clocks_at s.opcode) ≡ true
    → Holds s.taking (ByLast s w) 0 1 0 (G.general (I.MuluMuls w r M.Imm) s)
unfolding G.general G.with_source place at_place place_of stepped load general_row
immediate_product w r s fits =
    fetch_holds (ByLast s w) 0 1 0 s _ (λ value below.
    multiplied (ByLast s w) 2 value w r M.Imm (value % 65536) (moved s) (
      let whole : value ≡ value % 65536 = omega (arith, below) in
          subst (λ x. Takes (number (clocks_at s.opcode) (multiply_count w x)) 2 (number (clocks_at s.opcode) (multiply_count w value))) whole
          (counted_at 2 (clocks_at s.opcode) fits (multiply_count w value)),
      lit< {m = 1} {n = 2} tt,
    ))

register_product : (w r n : ℕ) (s : Run) → counted_serves 1 0 (clocks_at s.opcode) ≡ true
    → Lawful (I.MuluMuls w r (M.Dn n)) s (G.general (I.MuluMuls w r (M.Dn n)) s)
unfolding G.general G.with_source place at_place place_of stepped load general_row trap_ea_by
register_product w r n s fits =
    lawful_with (I.MuluMuls w r (M.Dn n)) s (G.general (I.MuluMuls w r (M.Dn n)) s) (multiply_count w (low S.Word (data_of s.regs n))) (λ ws. refl)
    (multiplied (With s (multiply_count w (low S.Word (data_of s.regs n)))) 1 0 w r (M.Dn n) (low S.Word (data_of s.regs n)) s
    (counted_at 1 (clocks_at s.opcode) fits (multiply_count w (low S.Word (data_of s.regs n)))))

-- what the row's clocks are to serve
serves_row : (j k : ℕ) (c d : Clocks) → c ≡ d → counted_serves j k d ≡ true → counted_serves j k c ≡ true
serves_row j k c d same h = subst (λ x. counted_serves j k x ≡ true) (sym same) h

pub product_row : (w r : ℕ) (m : Mode) (s : Run) → clocks_at s.opcode ≡ timing (I.MuluMuls w r m) → fits (I.MuluMuls w r m) ≡ true
    → Lawful (I.MuluMuls w r m) s (G.general (I.MuluMuls w r m) s)
unfolding fits
product_row w r (M.Dn n) s row h = register_product w r n s (serves_row 1 0 _ _ row h)
product_row w r (M.An n) s row h = cc
product_row w r M.Imm s row h =
    lawful_by_last w r M.Imm s _ (λ ws. refl) (immediate_product w r s (serves_row 2 0 _ _ row h))
product_row w r (M.Ind n) s row h =
    lawful_by_last w r (M.Ind n) s _ (λ ws. refl) (memory_product w r (M.Ind n) s refl (serves_row 2 0 _ _ row h))
product_row w r (M.Post n) s row h =
    lawful_by_last w r (M.Post n) s _ (λ ws. refl) (memory_product w r (M.Post n) s refl (serves_row 2 0 _ _ row h))
product_row w r (M.Pre n) s row h =
    lawful_by_last w r (M.Pre n) s _ (λ ws. refl) (memory_product w r (M.Pre n) s refl (serves_row 2 0 _ _ row h))
product_row w r (M.Disp n) s row h =
    lawful_by_last w r (M.Disp n) s _ (λ ws. refl) (memory_product w r (M.Disp n) s refl (serves_row 3 0 _ _ row h))
product_row w r (M.Index n) s row h =
    lawful_by_last w r (M.Index n) s _ (λ ws. refl) (memory_product w r (M.Index n) s refl (serves_row 3 0 _ _ row h))
product_row w r M.Short s row h =
    lawful_by_last w r M.Short s _ (λ ws. refl) (memory_product w r M.Short s refl (serves_row 3 0 _ _ row h))
product_row w r M.Long s row h =
    lawful_by_last w r M.Long s _ (λ ws. refl) (memory_product w r M.Long s refl (serves_row 4 0 _ _ row h))
product_row w r M.PcDisp s row h =
    lawful_by_last w r M.PcDisp s _ (λ ws. refl) (memory_product w r M.PcDisp s refl (serves_row 3 0 _ _ row h))
product_row w r M.PcIndex s row h =
    lawful_by_last w r M.PcIndex s _ (λ ws. refl) (memory_product w r M.PcIndex s refl (serves_row 3 0 _ _ row h))
