-- `decode_changed::asked::in_76` meets its contract.
-- Assumes nothing.
use Prim.Native.Nat.{◌/◌, ◌%◌}
use mathlib.Core.Path.{refl, ◌∙◌}
use native.Mathlib.Omega.{arith}
use Rattle.laws.proofs.Agree.{agree}
use Rattle.readers.specs.steps.Set.{holds}
use Rattle.by_manual.specs.Changed.{change76}
use Rattle.by_manual.specs.Lists.{is_changed}
use Rattle.decode_changed.proofs.asked.in_76.Goals as goal

pub returns : goal.returns
returns c w =
    c.has.ensures
    ∙ agree (λ b. holds _ (b / 16)) (λ b. is_changed (change76 w (b / 16) (b % 16))) 256 refl c.args.b (omega (arith, c.ranges.b))
