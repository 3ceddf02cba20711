-- `readers::mul::bad_mul` meets its contract.
-- Assumes nothing.
use mathlib.Core.Path.{refl, ◌∙◌}
use borrow.Author.Rules.{rules}
use Rattle.laws.proofs.Agree.{agree}
use Rattle.record.specs.declared.Width.TheVariants.{B, W}
use Rattle.rows.specs.Rows.{bad_mul}
use Rattle.readers.specs.steps.Set.{holds}
use Rattle.readers.proofs.mul.bad_mul.Goals as goal

pub returns-then-byte : goal.returns-then-byte
returns-then-byte c = rw c.if-byte.true (c.has.ensures ∙ agree (holds _) (bad_mul B) 256 refl c.args.n (search rules))

pub returns : goal.returns
returns c = rw c.if-byte.false (c.has-2.ensures ∙ agree (holds _) (bad_mul W) 256 refl c.args.n (search rules))
