-- What stands behind the two bytes of a code comes to, by a table of rows with document 01's first bytes.
use Rattle.std.specs.Prelude.{ℕ, List}
use Rattle.laws.specs.Choice.{pick}
use Rattle.record.specs.Answer.{Answer}
use Rattle.rows.specs.Row.{Table}
use Rattle.rows.specs.Groups.{known}
use Rattle.rows.specs.Run.{refusal, run_row}

abbrev pub coded : Table → ℕ → ℕ → List ℕ → Answer
coded t a b bs = pick (known a) (run_row (t.row_at a b) bs) (refusal 4 1)
