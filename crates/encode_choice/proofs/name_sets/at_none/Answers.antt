-- `encode_choice::name_sets::at_none` meets its contract: no form behind those with an arm has a row. Made by scripts/tables/make-name-sets from encode_choice/specs/steps/{Choose,Forms}.antt.
-- Assumes nothing.
use mathlib.Core.Path.{refl}
use mathlib.Core.List.{[], ◌∷◌}
use borrow.Author.Rules.{rules}
use Rattle.record.specs.declared.Width.TheVariants.{None}
use Rattle.encode_choice.proofs.Lookups.{no_rows}
use Rattle.encode_choice.proofs.name_sets.at_none.Goals as goal

pub returns-in_default : goal.returns-in_default
returns-in_default c = no_rows None (7 ∷ 6 ∷ 5 ∷ 4 ∷ 3 ∷ 2 ∷ 1 ∷ 0 ∷ []) refl c.number_of.ensures (search rules)
