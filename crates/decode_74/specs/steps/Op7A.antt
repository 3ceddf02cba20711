-- 7A and 7B: the second byte's upper half is a row of a control register, of its lower half XCHG has the first four.
use Rattle.std.specs.Prelude.{ℕ, ◌-◌, leb}
use Rattle.laws.specs.Choice.{pick}
use Rattle.record.specs.declared.Width.{Width}
use Rattle.rows.specs.Row.{InvalidOperand, Row}
use Rattle.rows.specs.Rows.{refused, xchg}

abbrev pub thirds : (ℕ → ℕ → Row) → Width → ℕ → ℕ → Row
thirds upper w h n = pick (leb 8 h) (upper (h - 8) n) (pick (leb 4 h) (refused InvalidOperand) (xchg w h n))
