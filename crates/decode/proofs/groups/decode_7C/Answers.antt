-- `decode::groups::decode_7C` meets its contract.
-- Assumes nothing.
use native.Mathlib.Omega.{arith}
use Rattle.record.specs.declared.Width.TheVariants.{B}
use Rattle.decode_changed.proofs.Rows.{mul_new}
use Rattle.decode.proofs.Readings.{chosen}
use Rattle.decode.proofs.groups.decode_7C.Goals.{else-manual-via-then-manual+else-in_7C, else-manual-via-else-manual}
use Rattle.decode.proofs.groups.decode_7C.Goals as goal

pub returns-then-in_7C : goal.returns-then-in_7C
returns-then-in_7C c = grind (arith, chosen, mul_new, c.in_7C.ensures B)

pub returns : goal.returns
returns c = elim c.else-manual.branch [
  | else-manual-via-then-manual+else-in_7C w ↦ grind (arith, chosen, w.in_7C.ensures B)
  | else-manual-via-else-manual w ↦ grind (arith, chosen)
]
