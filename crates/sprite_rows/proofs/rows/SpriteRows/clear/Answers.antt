use Rattle.std.proofs.Common.{ℕ, arith}
use Rattle.sprite_rows.specs.Laid.{byte_of}
use Rattle.sprite_rows.proofs.Standing.{no_pixels, no_pixels-byte, none_run}
use Rattle.sprite_rows.proofs.rows.SpriteRows.clear.Goals as goal

pub invariant_of-self : goal.invariant_of-self
invariant_of-self c = record {
  few = λ (p x : ℕ). omega (arith, no_pixels-byte p x);
  within = omega arith;
  blank = λ (p x : ℕ) from. no_pixels-byte p x;
  ended = λ (p x : ℕ) few from. no_pixels-byte p x;
}

pub returns-then-self-gt0-clause-rows : goal.returns-then-self-gt0-clause-rows
returns-then-self-gt0-clause-rows c = record { bytes = λ (p x : ℕ) pair from within. none_run (byte_of no_pixels p x) p x (no_pixels-byte p x) }

pub returns-else-self-gt0-clause-rows : goal.returns-else-self-gt0-clause-rows
returns-else-self-gt0-clause-rows c = record {
  bytes = λ (p x : ℕ) pair from within. none_run (byte_of c.args.self.now.pairs p x) p x (c.args.self.now.blank p x (omega arith));
}
