-- `encode::write::write_plan` meets its contract.
-- Assumes nothing.
use Prim.Native.Nat.{◌+◌}
use mathlib.Core.Path.{ap, ◌∙◌}
use Rattle.laws.specs.Over.{put}
use Rattle.encode_rules.specs.steps.Digits.{digits}
use Rattle.encode.proofs.Put.{laid}
use Rattle.encode.proofs.write.write_plan.Goals as goal

pub returns : goal.returns
returns c = laid c.args.out.now c.args.p c.requires c.write_number.ensures (c.write_number-2.ensures ∙ ap (λ n. put (2 + n) (digits c.args.p.rest.count c.args.p.rest.value) c.write_number.new.out) c.from-behind.ensures)
