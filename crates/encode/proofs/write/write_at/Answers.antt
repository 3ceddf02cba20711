-- `encode::write::write_at` meets its contract.
-- Assumes nothing.
use native.Mathlib.Omega.{arith}
use Rattle.encode.specs.steps.Plan.{planned}
use Rattle.encode.proofs.Put.{none, some}
use Rattle.encode.proofs.write.write_at.Goals as goal
use Rattle.encode.proofs.write.write_at.Goals.{then-buf-place-via-then-buf-place, then-buf-place-via-else-buf-place+then-buf-place-2}

pub returns-then-buf-place : goal.returns-then-buf-place
returns-then-buf-place c = none _ _ (planned c.args.p) (elim c.then-buf-place.branch [
  | then-buf-place-via-then-buf-place w ↦ omega (arith, w.if-buf-place.true)
  | then-buf-place-via-else-buf-place+then-buf-place-2 w ↦ omega (arith, c.length-n.ensures, w.if-buf-place.false, w.if-buf-place-2.true)
])

pub returns : goal.returns
returns c = some _ _ (planned c.args.p) c.length-n.ensures (omega (arith, c.length-n.ensures, c.if-buf-place.false, c.if-buf-place-2.false)) c.write_plan.ensures
