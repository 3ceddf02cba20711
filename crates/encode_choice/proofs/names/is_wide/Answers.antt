-- `encode_choice::names::is_wide` meets its contract: the bits are those of the wide names.
-- Assumes nothing.
use mathlib.Core.Path.{◌∙◌}
use Rattle.record.specs.Same.{same_name, among, wide_names, field_of}
use Rattle.encode_choice.specs.steps.Coded.{is_wide}
use Rattle.encode_choice.specs.steps.NameSet.{bit_set}
use Rattle.encode_choice.proofs.SetBits.{set_names}
use Rattle.encode_choice.proofs.names.is_wide.Goals as goal

pub returns : goal.returns
unfolding bit_set same_name among field_of
returns c = c.has.ensures ∙ set_names (bit_set wide_names) (λ o. is_wide (field_of o)) tt c.args.o
