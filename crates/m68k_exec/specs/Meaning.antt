-- What a state between two accesses stands for: what is left of the walk.
use Rattle.std.specs.Prelude.{ℕ, Bool, true, false, List, [], ◌∷◌, ◌+◌, ◌*◌, drop, Option, Some, None}
use Rattle.m68k_opcodes.specs.declared.operand.Size.{Size}
use Rattle.m68k_opcodes.specs.declared.operand.Size.TheVariants as S
use Rattle.m68k_opcodes.specs.declared.operand.Mode.{Mode}
use Rattle.m68k_opcodes.specs.declared.instr.Instr.{Instr}
use Rattle.m68k_decode.specs.declared.place.Place68.{Place68}
use Rattle.m68k_decode.specs.declared.place.Place68.TheVariants as P
use Rattle.m68k_decode.specs.Registers.{word32}
use Rattle.m68k_decode.specs.Frames.{frame_of}
use Rattle.m68k_decode.specs.Access.{Prog, Ask, End, Enter, Halt, Read, Write}
use Rattle.m68k_decode.specs.Run.{Run, with_regs, moved, jumped, half_at, address_after, ended, finish, fetch, read_word, write_word, at_place}
use Rattle.m68k_decode.specs.RowWords.{extended}
use Rattle.m68k_decode.specs.RowData.{dest_size, source_size, source_mode, dest_mode}
use Rattle.m68k_decode.specs.General.{with_source, dest, with_dest, compute}
use Rattle.m68k_decode.specs.Lists.{list_mode, list_size, unstepped, numbers, with_register, stores, loads, listing, scatter, gather}
use Rattle.m68k_decode.specs.Flow.{control_mode, addressed, own, returned, resuming, resumed, unlinked}
use Rattle.m68k_decode.specs.Entries.{pushes, handled, reset_stack, reset_done}
use Rattle.m68k_decode.specs.Walk.{opcode_read}
use Rattle.m68k_exec.specs.declared.state.Role.{Role}
use Rattle.m68k_exec.specs.declared.state.Role.TheVariants as R
use Rattle.m68k_exec.specs.declared.state.Part.{Part}
use Rattle.m68k_exec.specs.declared.state.Part.TheVariants as W
use Rattle.m68k_exec.specs.declared.state.Use.{Use}
use Rattle.m68k_exec.specs.declared.state.Use.TheVariants as V
use Rattle.m68k_exec.specs.declared.state.Then.{Then}
use Rattle.m68k_exec.specs.declared.state.Then.TheVariants as N
use Rattle.m68k_exec.specs.declared.state.Step.{Step}
use Rattle.m68k_exec.specs.declared.state.Step.TheVariants as T
use Rattle.m68k_exec.specs.declared.state.Left.{Left}
use Rattle.m68k_exec.specs.declared.state.Context.{Context}
use Rattle.m68k_exec.specs.declared.state.Machine.{Machine}

-- whether a place is in memory
abbrev pub is_memory : Place68 → Bool
is_memory (P.Memory at) = true
is_memory (P.Data r) = false
is_memory (P.Address r) = false
is_memory (P.Value v) = false

-- the run that a state stands for
abbrev pub run_of : Context → Machine → Run
run_of c m =
    record { start = c.start; regs = m.regs; opcode = c.fetched.opcode; taking = c.taking; instruction = c.instruction }

-- the registers that MOVEM has still to move
abbrev pub numbers_left : Left → List ℕ
numbers_left left = numbers left.bits left.rest

-- a list of which the first was taken, if there was one
abbrev pub taken : Option ℕ → List ℕ → List ℕ
taken None others = []
taken (Some n) others = n ∷ others

-- what follows once the place of a role is known
abbrev pub placed : Role → Instr → Place68 → Run → Prog
placed R.Source i p t = with_source i p t
placed (R.Dest value) i p t = with_dest i value p t
placed R.Control i p t = addressed i p t
placed (R.List mask) i p t = listing i mask p t

abbrev pub role_mode : Role → Instr → Mode
role_mode R.Source i = source_mode i
role_mode (R.Dest value) i = dest_mode i
role_mode R.Control i = control_mode i
role_mode (R.List mask) i = unstepped (list_mode i)

abbrev pub role_size : Role → Instr → Size
role_size R.Source i = source_size i
role_size (R.Dest value) i = dest_size i
role_size R.Control i = S.Long
role_size (R.List mask) i = list_size i

-- what follows a word of the program, the address of which was pc
abbrev pub fetched : Part → Instr → ℕ → ℕ → Run → Prog
fetched W.Opcode i pc w s = opcode_read w s
fetched W.Own i pc w s = own i w s
fetched (W.One role) i pc w s = at_place s (role_mode role i) (role_size role i) pc w 0 (placed role i)
fetched (W.High role) i pc w s =
    fetch s (λ l t. at_place t (role_mode role i) (role_size role i) pc w l (placed role i))
fetched (W.Low role first high) i pc w s =
    at_place s (role_mode role i) (role_size role i) first high w (placed role i)

-- what follows a value that was read
abbrev pub valued : Use → Instr → Run → ℕ → Prog
valued V.Source i s v = dest i v s
valued (V.Old value at) i s v = compute i value (P.Memory at) v s
valued V.Return i s v = returned v s
valued V.Status i s v = resuming i v s
valued (V.Resume status) i s v = resumed i status v s
valued V.Unlink i s v = unlinked i v s
valued (V.Gather at left value) i s v = gather i left at (word32 (value * 256 + v)) s
valued (V.Load at number left) i s v =
    loads i left.mask at (numbers_left left) (with_regs s (with_register s.regs number (extended (list_size i) v)))
valued (V.Handler clocks) i s v = handled clocks v s
valued V.Stack i s v = reset_stack v s
valued (V.Begin ssp) i s v = reset_done ssp v s

-- what follows a write
abbrev pub written : Then → Instr → Run → Prog
written (N.End clocks) i s = ended clocks s
written (N.Jump at) i s = finish 0 (jumped at s)
written (N.Store at left) i s = stores i left.mask at (numbers_left left) s
written (N.Scatter at left value) i s = scatter left at value s

abbrev pub rest : Step → Instr → Run → Prog
rest (T.Fetch part) i s = Ask (Read s.regs.pc false) (λ w. fetched part i s.regs.pc w (moved s))
rest (T.ReadByte at into) i s = Ask (Read at true) (λ w. valued into i s (half_at at w))
rest (T.ReadWord at into) i s = Ask (Read at false) (valued into i s)
rest (T.ReadHigh at program into) i s =
    Ask (Read at false) (λ h. read_word s program (address_after S.Word at) (λ l. valued into i s (h * 65536 + l)))
rest (T.ReadLow at high into) i s = Ask (Read at false) (λ l. valued into i s (high * 65536 + l))
rest (T.WriteByte at byte follows) i s = Ask (Write at true byte) (λ _. written follows i s)
rest (T.WriteWord at word follows) i s = Ask (Write at false word) (λ _. written follows i s)
rest (T.WriteHigh at high low follows) i s =
    Ask (Write at false high) (λ _. write_word s (address_after S.Word at) low (written follows i s))
rest (T.Push at word next kind ea) i s =
    Ask (Write at false word) (λ _. pushes kind ea at (drop next (frame_of kind s.start)) s)
rest (T.Ended clocks under) i s = End clocks s.regs under
rest (T.Broken under) i s = Enter s.regs under
rest T.Halted i s = Halt

-- what is left of the walk
abbrev pub meaning : Context → Machine → Prog
meaning c m = rest m.step c.fetched.instr (run_of c m)

-- what follows a word
abbrev pub follow : Prog → ℕ → Prog
follow (Ask a k) w = k w
follow (End t r u) w = End t r u
follow (Enter r u) w = Enter r u
follow Halt w = Halt
