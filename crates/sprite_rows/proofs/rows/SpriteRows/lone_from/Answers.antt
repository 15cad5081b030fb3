use Rattle.std.proofs.Common.{◌≡◌, ◌≢◌, ◌≤◌, ◌<◌, ℕ, zero, suc, false, nat_lt, slice_index, arith}
use Rattle.std.proofs.lemmas.Bool.Decides.{nat_tests}
use Rattle.sprite_rows.specs.Laid.{byte_of}
use Rattle.sprite_rows.specs.declared.rows.SpriteRows.{SpriteRows}
use Rattle.sprite_rows.proofs.rows.SpriteRows.lone_from.Goals as goal

past : (rows : SpriteRows) (x y q : ℕ) → q < 4 → x ≤ y → nat_lt x (slice_index rows.ends q) ≡ false → byte_of rows.pairs q y ≡ 0
past rows x y q few le is =
    let end : slice_index rows.ends q ≤ x = grind (arith, nat_tests) in
    rows.ended q y few (omega (arith, end, le))

by_pair : (rows : SpriteRows) (x y lone : ℕ) → (0 ≢ lone → nat_lt x (slice_index rows.ends 0) ≡ false) →
    (1 ≢ lone → nat_lt x (slice_index rows.ends 1) ≡ false) → (2 ≢ lone → nat_lt x (slice_index rows.ends 2) ≡ false) →
    (3 ≢ lone → nat_lt x (slice_index rows.ends 3) ≡ false) → (q : ℕ) → q < 4 → q ≢ lone → x ≤ y → byte_of rows.pairs q y ≡ 0
by_pair rows x y lone a b c d zero few other le = past rows x y 0 few le (a other)
by_pair rows x y lone a b c d (suc zero) few other le = past rows x y 1 few le (b other)
by_pair rows x y lone a b c d (suc (suc zero)) few other le = past rows x y 2 few le (c other)
by_pair rows x y lone a b c d (suc (suc (suc zero))) few other le = past rows x y 3 few le (d other)
by_pair rows x y lone a b c d (suc (suc (suc (suc n)))) few other le = absurd (omega (arith, few))

pub returns : goal.returns
returns c one q y few other le =
    by_pair c.args.self.now c.args.x y c.lone_of.result (c.lone_of.ensures.a one) (c.lone_of.ensures.b one) (c.lone_of.ensures.c one)
    (c.lone_of.ensures.d one) q few other le
