-- A code's row in one of the two readings, as the code chooses it: by the change first.
use Rattle.std.specs.Prelude.{Bool, true, false}
use Rattle.rows.specs.Row.{Row}
use Rattle.by_manual.specs.Changed.{Change, stays, becomes}

abbrev pub row_by : Change → Bool → Row → Row
row_by stays m r = r
row_by (becomes w) true r = w
row_by (becomes w) false r = r
