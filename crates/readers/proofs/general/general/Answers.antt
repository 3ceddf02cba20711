-- `readers::general::general` meets its contract.
-- Assumes nothing.
use mathlib.Core.Path.{ap}
use borrow.Author.Tests.{lt-ltb}
use Rattle.record.specs.Answer.{found}
use Rattle.readers.proofs.Told.{none}
use Rattle.readers.proofs.general.general.Goals as goal

pub returns-then-code-lt8 : goal.returns-then-code-lt8
returns-then-code-lt8 c = rw (lt-ltb _ 8 c.if-code-lt8.true) (ap (found _) (none _ _))
