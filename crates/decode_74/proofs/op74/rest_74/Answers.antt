-- `decode_74::op74::rest_74` meets its contract.
use mathlib.Core.Path.{ap}
use borrow.Author.Tests.{le-ltb, ne_eqb}
use Rattle.readers.proofs.Told.{none}
use Rattle.record.specs.Answer.{found}
use Rattle.decode_74.proofs.op74.rest_74.Goals as goal

pub returns : goal.returns
returns c = rw (le-ltb _ 2 c.if-h-lt2.false, ne_eqb _ 11 c.if-h-eq11.false, ne_eqb _ 12 c.if-h-eq12.false) (ap (found _) (none _ _))
