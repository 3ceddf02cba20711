-- `readers::long::long_refused` meets its contract.
-- Assumes nothing.
use mathlib.Core.Path.{refl, ◌∙◌}
use borrow.Author.Rules.{rules}
use Rattle.laws.proofs.Agree.{agree}
use Rattle.rows.specs.Codes.{no_pair}
use Rattle.readers.specs.steps.Set.{holds}
use Rattle.readers.proofs.long.long_refused.Goals as goal

pub returns : goal.returns
unfolding no_pair
returns c = c.has.ensures ∙ agree (holds _) no_pair 256 refl c.args.code (search rules)
