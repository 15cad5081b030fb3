-- What the parts of every row add: fetches, reads, writes, and the places of operands.
use Rattle.std.proofs.Common.{◌≡◌, ℕ, suc, ◌+◌, ◌*◌, ◌%◌, ◌==◌, ◌<◌, Bool, true, false, if◌then◌else◌, List, [], ◌∷◌, refl, subst}
use Rattle.m68k_opcodes.specs.declared.operand.Size.{Size}
use Rattle.m68k_opcodes.specs.declared.operand.Size.TheVariants as S
use Rattle.m68k_opcodes.specs.declared.operand.Mode.{Mode}
use Rattle.m68k_opcodes.specs.declared.operand.Mode.TheVariants as M
use Rattle.m68k_decode.specs.declared.place.Place68.{Place68}
use Rattle.m68k_decode.specs.declared.place.Place68.TheVariants as D
use Rattle.m68k_decode.specs.declared.regs.CpuRegs.{CpuRegs}
use Rattle.m68k_decode.specs.declared.trap.Trap.TheVariants as T
use Rattle.m68k_decode.specs.declared.under.Under.{Under}
use Rattle.m68k_decode.specs.declared.under.Under.TheVariants as U
use Rattle.m68k_decode.specs.Registers.{data_of, address_of}
use Rattle.m68k_decode.specs.Places.{extensions, place_of, stepped}
use Rattle.m68k_decode.specs.Results.{low}
use Rattle.m68k_decode.specs.Access.{Access, Read, Prog, Ask, End, Enter}
use Rattle.m68k_decode.specs.Run.{Run, with_regs, moved, address_after, row_clocks, finish, fault, read_word}
use Rattle.m68k_decode.specs.Run.{fetch, half_at, read, write_word, write, at_place, place, load, store}
use Rattle.m68k_time.specs.Time.{ComesTo}
use Rattle.m68k_time.proofs.Fits.{more, words, loads}
use Rattle.m68k_time.proofs.Counting.{Begins, Holds, Anything}

-- a choice of programs
pub choice : (taking : Bool) (P : ℕ → ℕ → ℕ → Type 0) (e k l : ℕ) (b : Bool) (p q : Prog)
    → (b ≡ true → Holds taking P e k l p) → (b ≡ false → Holds taking P e k l q) → Holds taking P e k l (if b then p else q)
choice taking P e k l true p q x y = x refl
choice taking P e k l false p q x y = y refl

-- the end of an instruction
pub finish_holds : (P : ℕ → ℕ → ℕ → Type 0) (e k l : ℕ) (extra : ℕ) (s : Run) → P k l (row_clocks extra s) → Holds s.taking P e k l (finish extra s)
unfolding finish
finish_holds P e k l extra s h = (h, tt)

-- an address error
pub fault_holds : (P : ℕ → ℕ → ℕ → Type 0) (e k l : ℕ) (s : Run) (at : ℕ) (reads program : Bool) → Holds s.taking P e k l (fault s at reads program)
unfolding fault
fault_holds P e k l s at reads program = choice s.taking P e k l s.taking _ _ (λ now. now) (λ _. tt)

pub read_word_holds : (P : ℕ → ℕ → ℕ → Type 0) (e k l : ℕ) (s : Run) (program : Bool) (at : ℕ) (c : ℕ → Prog)
    → ((w : ℕ) → w < 65536 → Holds s.taking P e (suc k) w (c w)) → Holds s.taking P e k l (read_word s program at c)
unfolding read_word
read_word_holds P e k l s program at c h = choice s.taking P e k l (at % 2 == 1) _ _ (λ _. fault_holds P e k l s at true program) (λ _. h)

abbrev pub Broken : Type 0
Broken = CpuRegs × Under

abbrev pub broken : Broken → Prog
broken x = Enter x.0 x.1

fetched : (odd taking : Bool) (x y : Broken) (a : Access) (c : ℕ → Prog) (w : ℕ) (ws : List ℕ) (q : Prog)
    → ComesTo (if odd then (if taking then broken x else broken y) else Ask a c) (w ∷ ws) q → ComesTo (c w) ws q
fetched true true x y a c w ws q here = absurd here
fetched true false x y a c w ws q here = absurd here
fetched false taking x y a c w ws q here = here

no_end : (odd taking : Bool) (x y : Broken) (a : Access) (c : ℕ → Prog) (t : ℕ) (r : CpuRegs) (u : Under)
    → (if odd then (if taking then broken x else broken y) else Ask a c) ≡ End t r u → ⊥
no_end true true x y a c t r u here = cc
no_end true false x y a c t r u here = cc
no_end false taking x y a c t r u here = cc

begun : (e k : ℕ) (odd taking : Bool) (x y : Broken) (a : Access) (c : ℕ → Prog) (r : CpuRegs) (u : Under)
    → (taking ≡ true → Begins taking e k x.1) → Begins taking e k y.1
    → (if odd then (if taking then broken x else broken y) else Ask a c) ≡ Enter r u → Begins taking e k u
begun e k true true x y a c r u p q here = subst (λ z. Holds true Anything e k 0 z) here (p refl)
begun e k true false x y a c r u p q here = subst (λ z. Holds false Anything e k 0 z) here q
begun e k false taking x y a c r u p q here = cc

pub fetch_holds : (P : ℕ → ℕ → ℕ → Type 0) (e k l : ℕ) (s : Run) (c : ℕ → Run → Prog)
    → ((w : ℕ) → w < 65536 → Holds s.taking P e (suc k) w (c w (moved s))) → Holds s.taking P e k l (fetch s c)
unfolding fetch
fetch_holds P e k l s c h = read_word_holds P e k l s true s.regs.pc (λ w. c w (moved s)) h

-- behind a fetch that was answered is what follows it; and a fetch is no end
pub fetch_comes : (s : Run) (c : ℕ → Run → Prog) (w : ℕ) (ws : List ℕ) (q : Prog) → ComesTo (fetch s c) (w ∷ ws) q → ComesTo (c w (moved s)) ws q
unfolding fetch read_word fault
fetch_comes s c w ws q here = fetched (s.regs.pc % 2 == 1) s.taking _ _ _ (λ v. c v (moved s)) w ws q here

pub fetch_no_end : (s : Run) (c : ℕ → Run → Prog) (t : ℕ) (r : CpuRegs) (u : Under) → fetch s c ≡ End t r u → ⊥
unfolding fetch read_word fault
fetch_no_end s c t r u here = no_end (s.regs.pc % 2 == 1) s.taking _ _ _ (λ v. c v (moved s)) t r u here

-- what a fetch begins is an address error, or it halts
pub fetch_begins : (e k : ℕ) (s : Run) (c : ℕ → Run → Prog) (r : CpuRegs) (u : Under) → fetch s c ≡ Enter r u → Begins s.taking e k u
unfolding fetch read_word fault
fetch_begins e k s c r u here =
    let at : ℕ = s.regs.pc in
    begun e k (at % 2 == 1) s.taking (s.start, U.Halted) (record s.start { pc = at }, U.Entry (T.AddressError at s.opcode true true s.instruction) 0 true)
    (Read at false)
    (λ v. c v (moved s)) r u (λ now. now) tt here

pub read_holds : (P : ℕ → ℕ → ℕ → Type 0) (e k l : ℕ) (s : Run) (z : Size) (program : Bool) (at : ℕ) (c : ℕ → Prog)
    → ((v w : ℕ) → Holds s.taking P e (more (words z) k) w (c v)) → Holds s.taking P e k l (read s z program at c)
unfolding read
read_holds P e k l s S.Byte program at c h = λ w b. h (half_at at w) w
read_holds P e k l s S.Word program at c h = read_word_holds P e k l s program at c (λ w b. h w w)
read_holds P e k l s S.Long program at c h =
    read_word_holds P e k l s program at _ (λ high a.
    read_word_holds P e (suc k) high s program (address_after S.Word at) _ (λ low b. h (high * 65536 + low) low))

pub write_word_holds : (P : ℕ → ℕ → ℕ → Type 0) (e k l : ℕ) (s : Run) (at word : ℕ) (p : Prog)
    → ((w : ℕ) → Holds s.taking P e (suc k) w p) → Holds s.taking P e k l (write_word s at word p)
unfolding write_word
write_word_holds P e k l s at word p h = choice s.taking P e k l (at % 2 == 1) _ _ (λ _. fault_holds P e k l s at false false) (λ _ w b. h w)

pub write_holds : (P : ℕ → ℕ → ℕ → Type 0) (e k l : ℕ) (s : Run) (z : Size) (at value : ℕ) (p : Prog)
    → ((w : ℕ) → Holds s.taking P e (more (words z) k) w p) → Holds s.taking P e k l (write s z at value p)
unfolding write
write_holds P e k l s S.Byte at value p h = λ w b. h w
write_holds P e k l s S.Word at value p h = write_word_holds P e k l s at _ p h
write_holds P e k l s S.Long at value p h =
    write_word_holds P e k l s at _ _ (λ v. write_word_holds P e (suc k) v s (address_after S.Word at) _ p h)

-- ---- places

-- how many accesses a value at a place takes
abbrev pub words_at : Place68 → Size → ℕ
words_at (D.Data r) z = 0
words_at (D.Address r) z = 0
words_at (D.Value v) z = 0
words_at (D.Memory at) z = words z

pub placed_words : (m : Mode) (regs : CpuRegs) (ws : List ℕ) (pc : ℕ) (z : Size) → words_at (place_of m regs ws pc z) z ≡ loads m z
unfolding place_of
placed_words (M.Dn r) regs ws pc z = refl
placed_words (M.An r) regs ws pc z = refl
placed_words (M.Ind r) regs ws pc z = refl
placed_words (M.Post r) regs ws pc z = refl
placed_words (M.Pre r) regs ws pc z = refl
placed_words (M.Disp r) regs ws pc z = refl
placed_words (M.Index r) regs ws pc z = refl
placed_words M.Short regs ws pc z = refl
placed_words M.Long regs ws pc z = refl
placed_words M.PcDisp regs ws pc z = refl
placed_words M.PcIndex regs ws pc z = refl
placed_words M.Imm regs ws pc z = refl

-- what follows a place holds for each that a mode can say
abbrev pub Follows : (ℕ → ℕ → ℕ → Type 0) → ℕ → ℕ → Run → Size → Mode → (Place68 → Run → Prog) → Type 0
Follows P e k s z m c = (p : Place68) (regs : CpuRegs) (l : ℕ) → words_at p z ≡ loads m z → Holds s.taking P e k l (c p (with_regs s regs))

place_0 : (P : ℕ → ℕ → ℕ → Type 0) (e k l : ℕ) (s : Run) (z : Size) (m : Mode) (c : Place68 → Run → Prog)
    → Follows P e k s z m c → Holds s.taking P e k l (at_place s m z s.regs.pc 0 0 c)
unfolding at_place
place_0 P e k l s z m c h = h _ _ l (placed_words m s.regs (0 ∷ 0 ∷ []) s.regs.pc z)

place_1 : (P : ℕ → ℕ → ℕ → Type 0) (e k l : ℕ) (s : Run) (z : Size) (m : Mode) (c : Place68 → Run → Prog)
    → Follows P e (suc k) s z m c → Holds s.taking P e k l (fetch s (λ w t. at_place t m z s.regs.pc w 0 c))
unfolding at_place
place_1 P e k l s z m c h =
    fetch_holds P e k l s _ (λ w b. h (place_of m (moved s).regs (w ∷ 0 ∷ []) s.regs.pc z) (stepped m (moved s).regs z) w
    (placed_words m (moved s).regs (w ∷ 0 ∷ []) s.regs.pc z))

place_2 : (P : ℕ → ℕ → ℕ → Type 0) (e k l : ℕ) (s : Run) (z : Size) (m : Mode) (c : Place68 → Run → Prog)
    → Follows P e (suc (suc k)) s z m c → Holds s.taking P e k l (fetch s (λ h t. fetch t (λ l u. at_place u m z s.regs.pc h l c)))
unfolding at_place
place_2 P e k l s z m c h =
    fetch_holds P e k l s _ (λ v a. fetch_holds P e (suc k) v (moved s) _
    (λ w b. h (place_of m (moved (moved s)).regs (v ∷ w ∷ []) s.regs.pc z) (stepped m (moved (moved s)).regs z) w
    (placed_words m (moved (moved s)).regs (v ∷ w ∷ []) s.regs.pc z)))

pub place_holds : (P : ℕ → ℕ → ℕ → Type 0) (e k l : ℕ) (s : Run) (z : Size) (m : Mode) (c : Place68 → Run → Prog)
    → Follows P e (more (extensions m z) k) s z m c → Holds s.taking P e k l (place s z m c)
unfolding place
place_holds P e k l s z (M.Dn r) c h = place_0 P e k l s z (M.Dn r) c h
place_holds P e k l s z (M.An r) c h = place_0 P e k l s z (M.An r) c h
place_holds P e k l s z (M.Ind r) c h = place_0 P e k l s z (M.Ind r) c h
place_holds P e k l s z (M.Post r) c h = place_0 P e k l s z (M.Post r) c h
place_holds P e k l s z (M.Pre r) c h = place_0 P e k l s z (M.Pre r) c h
place_holds P e k l s z (M.Disp r) c h = place_1 P e k l s z (M.Disp r) c h
place_holds P e k l s z (M.Index r) c h = place_1 P e k l s z (M.Index r) c h
place_holds P e k l s z M.Short c h = place_1 P e k l s z M.Short c h
place_holds P e k l s z M.Long c h = place_2 P e k l s z M.Long c h
place_holds P e k l s z M.PcDisp c h = place_1 P e k l s z M.PcDisp c h
place_holds P e k l s z M.PcIndex c h = place_1 P e k l s z M.PcIndex c h
place_holds P e k l s S.Byte M.Imm c h = place_1 P e k l s S.Byte M.Imm c h
place_holds P e k l s S.Word M.Imm c h = place_1 P e k l s S.Word M.Imm c h
place_holds P e k l s S.Long M.Imm c h = place_2 P e k l s S.Long M.Imm c h

-- ---- values and results

pub load_holds : (P : ℕ → ℕ → ℕ → Type 0) (e k l : ℕ) (s : Run) (z : Size) (program : Bool) (p : Place68) (c : ℕ → Prog)
    → ((v w : ℕ) → Holds s.taking P e (more (words_at p z) k) w (c v)) → Holds s.taking P e k l (load s z program p c)
unfolding load
load_holds P e k l s z program (D.Data r) c h = h (low z (data_of s.regs r)) l
load_holds P e k l s z program (D.Address r) c h = h (low z (address_of s.regs r)) l
load_holds P e k l s z program (D.Value v) c h = h (low z v) l
load_holds P e k l s z program (D.Memory at) c h = read_holds P e k l s z program at c h

pub store_holds : (P : ℕ → ℕ → ℕ → Type 0) (e k l : ℕ) (s : Run) (z : Size) (p : Place68) (value clocks : ℕ)
    → ((w : ℕ) → P (more (words_at p z) k) w clocks) → Holds s.taking P e k l (store s z p value clocks)
unfolding store
store_holds P e k l s z (D.Data r) value clocks h = (h l, tt)
store_holds P e k l s z (D.Address r) value clocks h = (h l, tt)
store_holds P e k l s z (D.Value v) value clocks h = (h l, tt)
store_holds P e k l s z (D.Memory at) value clocks h = write_holds P e k l s z at value _ (λ w. (h w, tt))
