-- What is known of a task that was started.
use Rattle.std.specs.Prelude.{◌≡◌}
use Rattle.crew.specs.declared.task.Task.{Task}
use Rattle.crew.specs.declared.task.Task.TheVariants.{Runs, Waits}

-- it will give a result that keeps the promise
abbrev pub WillKeep : {T P F : Type 0} → (F → Type 0) → (F → T → Type 0) → (P → T → Type 0) → P → Task T P F → Type 0
WillKeep pre post kept p (Runs handle) = handle.promise ≡ p
WillKeep {T} pre post kept p (Waits work) = pre work × ((r : T) → post work r → kept p r)
