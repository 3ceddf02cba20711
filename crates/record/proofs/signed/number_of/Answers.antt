-- `record::signed::number_of` meets its contract.
-- Assumes nothing.
use mathlib.Core.Path.{sym, ◌∙◌}
use mir.Syntax.{w64}
use mir.Facts.{to_z-of_z}
use Rattle.record.specs.Signed.{number_of}
use Rattle.record.proofs.signed.number_of.Goals as goal

pub returns-then-is_signed : goal.returns-then-is_signed
unfolding number_of
returns-then-is_signed c = rw (sym c.is_signed.ensures ∙ c.if-is_signed.true) (to_z-of_z {w = w64} (record { sfits = c.signed_byte.type_inv }) ∙ c.signed_byte.ensures)

pub returns : goal.returns
unfolding number_of
returns c = rw (sym c.is_signed.ensures ∙ c.if-is_signed.false) (to_z-of_z {w = w64} (record { sfits = c.from.type_inv }) ∙ c.from.ensures)
