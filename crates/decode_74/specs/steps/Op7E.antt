-- The face of a row of 7E.
use Rattle.std.specs.Prelude.{false}
use Rattle.record.specs.declared.Opcode.{Opcode}
use Rattle.record.specs.declared.Size.TheVariants as size
use Rattle.record.specs.declared.Width.TheVariants.{None}
use Rattle.record.specs.declared.Operand.{Operand}
use Rattle.record.specs.declared.Operand.TheVariants.{Nothing}
use Rattle.rows.specs.Row.{Face, face}

abbrev pub bit_face : Opcode → Operand → Face
bit_face o a = face o size.None None a Nothing false
