-- `decode_changed::asked::in_7D` meets its contract.
-- Assumes nothing.
use Prim.Native.Nat.{◌/◌, ◌%◌}
use mathlib.Core.Path.{◌≡◌, refl, ◌∙◌}
use mathlib.Core.Bool.{false}
use mathlib.Core.List.{[], ◌∷◌}
use native.Mathlib.Omega.{arith}
use Rattle.laws.proofs.Agree.{agree, agree_past}
use Rattle.readers.specs.steps.Set.{holds}
use Rattle.by_manual.specs.Changed.{change_7D}
use Rattle.by_manual.specs.Lists.{is_changed}
use Rattle.decode_changed.proofs.asked.in_7D.Goals as goal

-- conditions
pub returns-then-b-eq13 : goal.returns-then-b-eq13
returns-then-b-eq13 c =
    let row : c.args.b / 16 ≡ 13 = c.if-b-eq13.true in
    c.has.ensures ∙ rw row (agree (holds _) (λ n. is_changed (change_7D 13 n)) 16 refl (c.args.b % 16) (omega arith))

-- the other rows
pub returns : goal.returns
returns c =
    c.has-2.ensures
    ∙ agree_past (13 ∷ []) false (holds _) (λ h. is_changed (change_7D h (c.args.b % 16))) 16 refl (c.args.b / 16) (omega (arith, c.ranges.b)) (tt, c.if-b-eq13.false)
