-- A processor that STOP has stopped.
use Rattle.std.specs.Prelude.{ℕ, Bool, true, false, List, [], ◌∷◌}
use Rattle.m68k_decode.specs.Access.{Prog, Ask, End, Enter, Halt}
use Rattle.m68k_decode.specs.declared.under.Under.{Under}
use Rattle.m68k_decode.specs.declared.under.Under.TheVariants as U
use Rattle.m68k_exec.specs.declared.state.Step.{Step}
use Rattle.m68k_exec.specs.declared.state.Step.TheVariants as T

-- STOP has stopped it
abbrev pub is_stopped : Under → Bool
is_stopped U.Reset = false
is_stopped (U.Instruction taking) = false
is_stopped (U.Entry kind ea taking) = false
is_stopped U.Stopped = true
is_stopped U.Halted = false

-- it has, and no access was made since what is under way began
abbrev pub stands_stopped : Under → List ℕ → Bool
stands_stopped u [] = is_stopped u
stands_stopped u (w ∷ ws) = false

-- whether nothing but idle clocks is left
abbrev pub is_end : Prog → Bool
is_end (Ask a k) = false
is_end (End t r u) = true
is_end (Enter r u) = false
is_end Halt = false

abbrev pub is_end_step : Step → Bool
is_end_step (T.Ended clocks under) = true
is_end_step _ = false
