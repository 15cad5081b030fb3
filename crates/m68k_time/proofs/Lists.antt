-- MOVEM and MOVEP take their clocks.
use Rattle.std.proofs.Common.{◌≡◌, ℕ, zero, suc, ◌+◌, ◌*◌, ◌/◌, ◌==◌, Bool, true, false}
use Rattle.std.proofs.Common.{◌||◌, if◌then◌else◌, List, [], ◌∷◌, length, refl, ap, sym, subst, ◌∙◌, arith}
use Rattle.std.proofs.lemmas.Bool.Decides.{nat_tests}
use Rattle.std.proofs.Math.Nat.{mul-suc}
use Rattle.m68k_opcodes.specs.declared.operand.Size.{Size}
use Rattle.m68k_opcodes.specs.declared.operand.Size.TheVariants as S
use Rattle.m68k_opcodes.specs.declared.operand.Mode.{Mode}
use Rattle.m68k_opcodes.specs.declared.operand.Mode.TheVariants as M
use Rattle.m68k_opcodes.specs.declared.instr.Instr.{Instr}
use Rattle.m68k_opcodes.specs.declared.instr.Instr.TheVariants as I
use Rattle.m68k_opcodes.specs.Clocks.{Clocks, Always, number}
use Rattle.m68k_opcodes.specs.Table.{clocks_at}
use Rattle.m68k_opcodes.specs.code.Timing.{timing}
use Rattle.m68k_decode.specs.declared.place.Place68.{Place68}
use Rattle.m68k_decode.specs.declared.place.Place68.TheVariants as D
use Rattle.m68k_decode.specs.declared.regs.CpuRegs.{CpuRegs}
use Rattle.m68k_decode.specs.declared.under.Under.{Under}
use Rattle.m68k_decode.specs.Registers.{word32}
use Rattle.m68k_decode.specs.Places.{extensions}
use Rattle.m68k_decode.specs.Access.{Prog, End}
use Rattle.m68k_decode.specs.Run.{Run, with_regs, moved, fetch, address_after}
use Rattle.m68k_decode.specs.RowWords.{ones, extended}
use Rattle.m68k_decode.specs.Rows.{general_row}
use Rattle.m68k_decode.specs.RowResults.{trap_ea_by}
use Rattle.m68k_decode.specs.RowData.{trap_ea}
use Rattle.m68k_decode.specs.General.{is_program}
use Rattle.m68k_decode.specs.Lists.{list_mode, list_size, unstepped, numbers, stored_next, with_register, list_ended, stores}
use Rattle.m68k_decode.specs.Lists.{loads, listing, several, scatter, gathered, gather, bytes_moved, spread}
use Rattle.m68k_decode.specs.Flow.{own, own_word}
use Rattle.m68k_time.specs.Time.{AreWords, ComesTo, Takes, outcome}
use Rattle.m68k_time.proofs.Fits as F
use Rattle.m68k_time.proofs.Fits.{more, words, counted_serves, always_serves, fits}
use Rattle.m68k_time.proofs.Counting.{Begins, Holds, Anything, at_end, goes_on_at_end, at_begin, more_sum}
use Rattle.m68k_time.proofs.Parts.{words_at, choice, finish_holds, fetch_holds, fetch_comes, fetch_no_end, read_holds, write_holds, place_holds}
use Rattle.m68k_time.proofs.Lawful.{Lawful, Same, lawful_same, With, counted_takes, always_takes}

-- ---- MOVEM

-- n more for each of a list
abbrev pub for_each : ℕ → List ℕ → ℕ → ℕ
for_each n [] k = k
for_each n (x ∷ xs) k = for_each n xs (more n k)

for_each_sum : (n : ℕ) (xs : List ℕ) (k : ℕ) → for_each n xs k ≡ k + n * length xs
for_each_sum n [] k = omega arith
for_each_sum n (x ∷ xs) k =
    let e : for_each n xs (more n k) ≡ more n k + n * length xs = for_each_sum n xs (more n k) in
    let f : more n k ≡ n + k = more_sum n k in
    let g : n * suc (length xs) ≡ n * length xs + n = mul-suc n (length xs) in
    omega (arith, e, f, g)

numbers_count : (k mask : ℕ) → length (numbers k mask) ≡ ones k mask
unfolding numbers ones
numbers_count zero mask = refl
numbers_count (suc k) mask =
    let e : length (numbers k (mask / 2)) ≡ ones k (mask / 2) = numbers_count k (mask / 2) in
    grind (arith, nat_tests, e)

ended_holds : (P : ℕ → ℕ → ℕ → Type 0) (k l : ℕ) (i : Instr) (mask at : ℕ) (s : Run) → P k l (number (clocks_at s.opcode) (ones 16 mask))
    → Holds s.taking P 0 k l (list_ended i mask at s)
unfolding list_ended
ended_holds P k l i mask at s h = finish_holds P 0 k l (ones 16 mask) _ h

stores_holds : (P : ℕ → ℕ → ℕ → Type 0) (k l : ℕ) (i : Instr) (mask at : ℕ) (ns : List ℕ) (s : Run)
    → ((w : ℕ) → P (for_each (words (list_size i)) ns k) w (number (clocks_at s.opcode) (ones 16 mask))) → Holds s.taking P 0 k l (stores i mask at ns s)
unfolding stores
stores_holds P k l i mask at [] s h = ended_holds P k l i mask at s (h l)
stores_holds P k l i mask at (n ∷ ns) s h =
    write_holds P 0 k l s (list_size i) _ _ _ (λ w. stores_holds P (more (words (list_size i)) k) w i mask (stored_next (list_mode i) (list_size i) at) ns s h)

loads_holds : (P : ℕ → ℕ → ℕ → Type 0) (k l : ℕ) (i : Instr) (mask at : ℕ) (ns : List ℕ) (s : Run)
    → ((w : ℕ) → P (for_each (words (list_size i)) ns k) w (number (clocks_at s.opcode) (ones 16 mask))) → Holds s.taking P 0 k l (loads i mask at ns s)
unfolding loads
loads_holds P k l i mask at [] s h = ended_holds P k l i mask at s (h l)
loads_holds P k l i mask at (n ∷ ns) s h =
    read_holds P 0 k l s (list_size i) (is_program (list_mode i)) at _
    (λ value w. loads_holds P (more (words (list_size i)) k) w i mask (address_after (list_size i) at) ns
    (with_regs s (with_register s.regs n (extended (list_size i) value))) h)

some_words : (z : Size) → 0 ≡ words z → ⊥
some_words S.Byte h = absurd (omega (arith, h))
some_words S.Word h = absurd (omega (arith, h))
some_words S.Long h = absurd (omega (arith, h))

-- what follows the first address
abbrev Listed : (ℕ → ℕ → ℕ → Type 0) → ℕ → Size → ℕ → Run → Type 0
Listed P k z mask s = (w : ℕ) → P (for_each (words z) (numbers 16 mask) k) w (number (clocks_at s.opcode) (ones 16 mask))

stored_holds : (P : ℕ → ℕ → ℕ → Type 0) (k l : ℕ) (z : Size) (m : Mode) (mask : ℕ) (p : Place68) (s : Run) → words_at p z ≡ words z
    → Listed P k z mask s → Holds s.taking P 0 k l (listing (I.MovemToMemory z m) mask p s)
unfolding listing list_size
stored_holds P k l z m mask (D.Memory at) s in_memory h = stores_holds P k l (I.MovemToMemory z m) mask at (numbers 16 mask) s h
stored_holds P k l z m mask (D.Data r) s in_memory h = absurd (some_words z in_memory)
stored_holds P k l z m mask (D.Address r) s in_memory h = absurd (some_words z in_memory)
stored_holds P k l z m mask (D.Value v) s in_memory h = absurd (some_words z in_memory)

loaded_holds : (P : ℕ → ℕ → ℕ → Type 0) (k l : ℕ) (z : Size) (m : Mode) (mask : ℕ) (p : Place68) (s : Run) → words_at p z ≡ words z
    → Listed P k z mask s → Holds s.taking P 0 k l (listing (I.MovemToRegisters z m) mask p s)
unfolding listing list_size
loaded_holds P k l z m mask (D.Memory at) s in_memory h = loads_holds P k l (I.MovemToRegisters z m) mask at (numbers 16 mask) s h
loaded_holds P k l z m mask (D.Data r) s in_memory h = absurd (some_words z in_memory)
loaded_holds P k l z m mask (D.Address r) s in_memory h = absurd (some_words z in_memory)
loaded_holds P k l z m mask (D.Value v) s in_memory h = absurd (some_words z in_memory)

-- the modes that MOVEM may have are in memory, and its own steps take no word
abbrev InMemory : Mode → Size → Type 0
InMemory m z = (F.loads (unstepped m) z ≡ words z) × (extensions (unstepped m) z ≡ extensions m z)

to_memory_mode : (m : Mode) (z : Size) → fits (I.MovemToMemory z m) ≡ true → InMemory m z
unfolding fits unstepped
to_memory_mode (M.Dn r) z h = cc
to_memory_mode (M.An r) z h = cc
to_memory_mode (M.Ind r) z h = (refl, refl)
to_memory_mode (M.Post r) z h = (refl, refl)
to_memory_mode (M.Pre r) z h = (refl, refl)
to_memory_mode (M.Disp r) z h = (refl, refl)
to_memory_mode (M.Index r) z h = (refl, refl)
to_memory_mode M.Short z h = (refl, refl)
to_memory_mode M.Long z h = (refl, refl)
to_memory_mode M.PcDisp z h = (refl, refl)
to_memory_mode M.PcIndex z h = (refl, refl)
to_memory_mode M.Imm S.Byte h = cc
to_memory_mode M.Imm S.Word h = cc
to_memory_mode M.Imm S.Long h = cc

to_registers_mode : (m : Mode) (z : Size) → fits (I.MovemToRegisters z m) ≡ true → InMemory m z
unfolding fits unstepped
to_registers_mode (M.Dn r) z h = cc
to_registers_mode (M.An r) z h = cc
to_registers_mode (M.Ind r) z h = (refl, refl)
to_registers_mode (M.Post r) z h = (refl, refl)
to_registers_mode (M.Pre r) z h = (refl, refl)
to_registers_mode (M.Disp r) z h = (refl, refl)
to_registers_mode (M.Index r) z h = (refl, refl)
to_registers_mode M.Short z h = (refl, refl)
to_registers_mode M.Long z h = (refl, refl)
to_registers_mode M.PcDisp z h = (refl, refl)
to_registers_mode M.PcIndex z h = (refl, refl)
to_registers_mode M.Imm S.Byte h = cc
to_registers_mode M.Imm S.Word h = cc
to_registers_mode M.Imm S.Long h = cc

to_memory_holds : (P : ℕ → ℕ → ℕ → Type 0) (k l : ℕ) (z : Size) (m : Mode) (mask : ℕ) (s : Run) → InMemory m z
    → Listed P (more (extensions m z) k) z mask s → Holds s.taking P 0 k l (several (I.MovemToMemory z m) mask s)
unfolding several list_size list_mode
to_memory_holds P k l z m mask s mode h =
    place_holds P 0 k l s z (unstepped m) _ (λ p regs w placed.
    stored_holds P (more (extensions (unstepped m) z) k) w z m mask p (with_regs s regs) (placed ∙ mode.0)
    (subst (λ n. Listed P (more n k) z mask s) (sym mode.1) h))

to_registers_holds : (P : ℕ → ℕ → ℕ → Type 0) (k l : ℕ) (z : Size) (m : Mode) (mask : ℕ) (s : Run) → InMemory m z
    → Listed P (more (extensions m z) k) z mask s → Holds s.taking P 0 k l (several (I.MovemToRegisters z m) mask s)
unfolding several list_size list_mode
to_registers_holds P k l z m mask s mode h =
    place_holds P 0 k l s z (unstepped m) _ (λ p regs w placed.
    loaded_holds P (more (extensions (unstepped m) z) k) w z m mask p (with_regs s regs) (placed ∙ mode.0)
    (subst (λ n. Listed P (more n k) z mask s) (sym mode.1) h))

-- the clocks rise with the registers as the accesses do
listed_takes : (k j : ℕ) (c : Clocks) (mask : ℕ) → counted_serves k j c ≡ true
    → Takes (number c (ones 16 mask)) (for_each j (numbers 16 mask) k) (number c (ones 16 mask))
listed_takes k j c mask h =
    let sum : for_each j (numbers 16 mask) k ≡ k + j * ones 16 mask =
    for_each_sum j (numbers 16 mask) k ∙ ap (λ n. k + j * n) (numbers_count 16 mask) in
    subst (λ n. Takes (number c (ones 16 mask)) n (number c (ones 16 mask))) (sym sum) (counted_takes k j c h (ones 16 mask))

-- a row of MOVEM, whose mask is the word behind its opcode
masked : (i : Instr) (s : Run) (p : ℕ → Run → Prog) → trap_ea i ≡ 0 → ((ws : List ℕ) (mask : ℕ) → outcome i s.regs (mask ∷ ws) ≡ ones 16 mask)
    → ((P : ℕ → ℕ → ℕ → Type 0) (mask : ℕ)
    → ((k : ℕ) (w : ℕ) → Takes (number (clocks_at s.opcode) (ones 16 mask)) k (number (clocks_at s.opcode) (ones 16 mask))
    → P k w (number (clocks_at s.opcode) (ones 16 mask))) → Holds s.taking P 0 2 mask (p mask (moved s)))
    → Lawful i s (fetch s p)
masked i s p none counts h =
    record {
      ends = masked_ends;
      goes_on = λ ws t r u words here.
          goes_on_at_end s.taking Anything 0 1 0 (fetch s p) ws t r u (fetch_holds Anything 0 1 0 s p (λ mask below. h Anything mask (λ k w x. tt))) words here;
      begins = λ ws r u words here. subst (λ e. Begins s.taking e (more (length ws) 1) u) (sym none)
          (at_begin s.taking Anything 0 1 0 (fetch s p) ws r u (fetch_holds Anything 0 1 0 s p (λ mask below. h Anything mask (λ k w x. tt))) words here);
    }
  where
    masked_ends : (ws : List ℕ) (t : ℕ) (r : CpuRegs) (u : Under) → AreWords ws → ComesTo (fetch s p) ws (End t r u)
        → Takes t (more (length ws) 1) (number (clocks_at s.opcode) (outcome i s.regs ws))
    masked_ends [] t r u words here = absurd (fetch_no_end s p t r u here)
    masked_ends (mask ∷ ws) t r u words here =
        subst (λ x. Takes t (more (length (mask ∷ ws)) 1) (number (clocks_at s.opcode) x)) (sym (counts ws mask))
        (at_end s.taking (With s (ones 16 mask)) 0 2 mask (p mask (moved s)) ws t r u (h (With s (ones 16 mask)) mask (λ k w x. x)) words.1
        (fetch_comes s p mask ws (End t r u) here))

pub to_memory_row : (z : Size) (m : Mode) (s : Run) → clocks_at s.opcode ≡ timing (I.MovemToMemory z m) → fits (I.MovemToMemory z m) ≡ true
    → Lawful (I.MovemToMemory z m) s (own_word (I.MovemToMemory z m) s)
unfolding fits own_word own general_row trap_ea_by
to_memory_row z m s row h =
    masked (I.MovemToMemory z m) s _ refl (λ ws mask. refl) (λ P mask closes.
    to_memory_holds P 2 mask z m mask (moved s) (to_memory_mode m z h)
    (λ w. closes _ w (listed_takes (more (extensions m z) 2) (words z) (clocks_at s.opcode) mask
    (subst (λ c. counted_serves (more (extensions m z) 2) (words z) c ≡ true) (sym row) h))))

pub to_registers_row : (z : Size) (m : Mode) (s : Run) → clocks_at s.opcode ≡ timing (I.MovemToRegisters z m) → fits (I.MovemToRegisters z m) ≡ true
    → Lawful (I.MovemToRegisters z m) s (own_word (I.MovemToRegisters z m) s)
unfolding fits own_word own general_row trap_ea_by
to_registers_row z m s row h =
    masked (I.MovemToRegisters z m) s _ refl (λ ws mask. refl) (λ P mask closes.
    to_registers_holds P 2 mask z m mask (moved s) (to_registers_mode m z h)
    (λ w. closes _ w (listed_takes (more (extensions m z) 2) (words z) (clocks_at s.opcode) mask
    (subst (λ c. counted_serves (more (extensions m z) 2) (words z) c ≡ true) (sym row) h))))

-- ---- MOVEP

scatter_holds : (P : ℕ → ℕ → ℕ → Type 0) (k l n at value : ℕ) (s : Run) → ((w : ℕ) → P (more n k) w (number (clocks_at s.opcode) 0))
    → Holds s.taking P 0 k l (scatter n at value s)
unfolding scatter
scatter_holds P k l zero at value s h = finish_holds P 0 k l 0 s (h l)
scatter_holds P k l (suc n) at value s h =
    write_holds P 0 k l s S.Byte at _ _ (λ w. scatter_holds P (suc k) w n (word32 (at + 2)) (word32 (value * 256)) s h)

gather_holds : (P : ℕ → ℕ → ℕ → Type 0) (k l r o a n at value : ℕ) (s : Run) → ((w : ℕ) → P (more n k) w (number (clocks_at s.opcode) 0))
    → Holds s.taking P 0 k l (gather (I.Movep r o a) n at value s)
unfolding gather gathered
gather_holds P k l r o a zero at value s h = finish_holds P 0 k l 0 _ (h l)
gather_holds P k l r o a (suc n) at value s h =
    read_holds P 0 k l s S.Byte false at _ (λ byte w. gather_holds P (suc k) w r o a n (word32 (at + 2)) (word32 (value * 256 + byte)) s h)

-- two bytes take 16 clocks, and four take 24
abbrev two_or_four : Bool → Clocks
two_or_four two = Always (if two then 16 else 24)

two_bytes : (two : Bool) → always_serves 4 (two_or_four two) ≡ true
two_bytes true = refl
two_bytes false = refl

four_bytes : (two : Bool) → two ≡ false → always_serves 6 (two_or_four two) ≡ true
four_bytes true h = cc
four_bytes false h = refl

long_to : (o : ℕ) → o == 1 ≡ true → (o == 0) || (o == 2) ≡ false
long_to o h = grind (arith, nat_tests, h)

long_from : (o : ℕ) → o == 0 ≡ false → o == 2 ≡ false → (o == 0) || (o == 2) ≡ false
long_from o h g = grind (arith, nat_tests, h, g)

bytes_hold : (r o a l at : ℕ) (s : Run) → clocks_at s.opcode ≡ two_or_four ((o == 0) || (o == 2))
    → Holds s.taking (Same s) 0 2 l (bytes_moved (I.Movep r o a) r o at s)
bytes_hold r o a l at s row =
    let c : Clocks = clocks_at s.opcode in
    let back : (k : ℕ) → always_serves k (two_or_four ((o == 0) || (o == 2))) ≡ true → always_serves k c ≡ true =
    (λ k h. subst (λ x. always_serves k x ≡ true) (sym row) h) in
    let two : always_serves 4 c ≡ true = back 4 (two_bytes ((o == 0) || (o == 2))) in
    choice s.taking (Same s) 0 2 l (o == 0) _ _ (λ e. gather_holds (Same s) 2 l r o a 2 at 0 s (λ w x. always_takes 4 c two 0 x)) (λ not_0.
    choice s.taking (Same s) 0 2 l (o == 1) _ _ (λ e. gather_holds (Same s) 2 l r o a 4 at 0 s (λ w x.
    always_takes 6 c (back 6 (four_bytes ((o == 0) || (o == 2)) (long_to o e))) 0 x)) (λ not_1.
    choice s.taking (Same s) 0 2 l (o == 2) _ _ (λ e. scatter_holds (Same s) 2 l 2 at _ s (λ w x. always_takes 4 c two 0 x)) (λ not_2.
    scatter_holds (Same s) 2 l 4 at _ s (λ w x. always_takes 6 c (back 6 (four_bytes ((o == 0) || (o == 2)) (long_from o not_0 not_2))) 0 x))))

pub bytes_row : (r o a : ℕ) (s : Run) → clocks_at s.opcode ≡ timing (I.Movep r o a) → Lawful (I.Movep r o a) s (own_word (I.Movep r o a) s)
unfolding own_word own spread general_row trap_ea_by
bytes_row r o a s row =
    lawful_same (I.Movep r o a) s _ (fetch_holds (Same s) 0 1 0 s _ (λ w below. bytes_hold r o a w _ (moved s) row))
