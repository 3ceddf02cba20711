-- `line::write::count` meets its contract.
-- Assumes nothing.
use Rattle.std.proofs.Common.{◌≡◌, ℕ, ◌-◌, ◌/◌, ◌<◌, ◌^◌, length, sym, arith, rules}
use lib.Count.{count_leading_zeros, leading_length}
use Rattle.line.specs.steps.Packed.{chars}
use Rattle.line.proofs.Packing.{counted}
use Rattle.line.proofs.write.count.Goals as goal

by_digits : (w : ℕ) → w < 2 ^ 64 → length (chars w) ≡ (71 - count_leading_zeros 64 w) / 8
by_digits w l = let z = leading_length 64 w l in omega (arith, counted 8 z.0 w z.2 z.3 (omega (arith, z.1)), z.1)

pub returns : goal.returns
returns c = (sym (by_digits c.args.word (search rules)), omega arith)
