-- `m16c_encode::encode_numbers` meets its contract: numbers that make no record are encoded as the blank record is.
-- Assumes nothing.
use mathlib.Core.Path.{sym, ◌∙◌}
use Rattle.m16c_encode.proofs.Outcomes.{refused}
use Rattle.m16c_encode.proofs.encode_numbers.Goals as goal

pub returns-then-not-is_record : goal.returns-then-not-is_record
returns-then-not-is_record c =
    refused c.args.manual c.args.numbers.now c.args.buf.now c.args.place (sym c.is_record.ensures ∙ c.if-not-is_record.true)
