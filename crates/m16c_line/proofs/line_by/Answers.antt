-- `m16c_line::line_by` meets its contract.
-- Assumes nothing.
use mathlib.Core.Path.{sym, ap, ◌∙◌}
use Rattle.record.specs.Answer.{answer_of}
use Rattle.by_manual.specs.Table.{table_by}
use Rattle.m16c_line.proofs.Laws.{line_told, refusal_told}
use Rattle.m16c_line.proofs.line_by.Goals.{in-Ok, in-Err}
use Rattle.m16c_line.proofs.line_by.Goals as goal

pub returns : goal.returns
returns c =
    let a = c.args in
    let d = c.decode_by.ensures in
    elim c.match-decode_by.branch [
      | in-Ok w ↦ rw (c.leave.ensures.0, c.leave.ensures.1, w.written-is, w.out-is) (line_told (table_by a.manual) a.image.now a.at a.out.now (ap answer_of (sym w.in-Ok.is) ∙ d) w.line-written.ensures)
      | in-Err w ↦ rw (c.leave.ensures.0, c.leave.ensures.1, w.written-is, w.out-is) (refusal_told (table_by a.manual) a.image.now a.at a.out.now _ (ap answer_of (sym w.in-Err.is) ∙ d))
    ]
