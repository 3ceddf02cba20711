-- `line::write::count_all` meets its contract.
-- Assumes nothing.
use Rattle.std.proofs.Common.{length, ap, arith}
use Rattle.line.proofs.Packing.{text_length, text_end}
use Rattle.line.proofs.write.count_all.Goals as goal

pub loop-word-preserved : goal.loop-word-preserved
loop-word-preserved c = record { few = omega arith; all = omega (arith, text_length c.loop-word.word-index c.args.words.now (omega arith)) }

pub returns : goal.returns
returns c = omega (arith, ap length (text_end c.loop-word.word-index c.args.words.now (omega arith)))
