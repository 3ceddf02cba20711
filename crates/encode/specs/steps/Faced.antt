-- The row at a chosen code, told by what was asked for.
use Rattle.std.specs.Prelude.{ℕ, ◌/◌, false, eqb}
use Rattle.laws.specs.Choice.{pick, both}
use Rattle.record.specs.declared.Opcode.TheVariants.{NOP}
use Rattle.rows.specs.Row.{Face, face}
use Rattle.encode_choice.specs.declared.Asked.{Asked}

-- its names; what stands behind a code does not depend on the opcode
abbrev pub face_by : Asked → Face
face_by q = face NOP q.size q.width q.op0 q.op1 false

-- 7E 2n reads a condition, no other code does
abbrev pub conditions : ℕ → ℕ → ℕ
conditions a b = pick (both (eqb a 0x7E) (eqb (b / 16) 2)) 1 0
