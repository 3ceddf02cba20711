-- Request A9: the table of a reading by the manual, and the two readings.
use Rattle.std.specs.Prelude.{◌/◌, ◌%◌, Bool, true, false}
use Rattle.rows.specs.Row.{Row, Table}
use Rattle.rows.specs.Groups.{known, document01}
use Rattle.by_manual.specs.Changed.{Change, stays, becomes, change_at}

abbrev pub changed : Change → Row → Row
changed stays r = r
changed (becomes w) r = w

-- the first bytes and, where nothing changes, the rows are document 01's
abbrev pub by_manual : Table
by_manual = record { known = known; row_at = λ a b. changed (change_at a (b / 16) (b % 16)) (document01.row_at a b) }

-- of the two readings, by whether the manual's is meant
abbrev pub table_by : Bool → Table
table_by true = by_manual
table_by false = document01
