-- Document 01, "Blank record": NOP, three Nothing, zeros, no width, unmarked; by request A6 nothing dropped, by request A5 no parts, by
-- request A7 no registers.
use Rattle.std.specs.Prelude.{false}
use Rattle.record.specs.declared.Record.{Record}
use Rattle.record.specs.declared.Opcode.TheVariants.{NOP}
use Rattle.record.specs.declared.Operand.TheVariants.{Nothing}
use Rattle.record.specs.declared.Size.TheVariants as size
use Rattle.record.specs.declared.Width.TheVariants as width
use Rattle.record.specs.Parts.{no_parts}

abbrev pub blank : Record
blank = record {
  imm_wide = 0;
  dispabs = 0;
  first = 0;
  length = 0;
  opcode = NOP;
  size = size.None;
  width = width.None;
  op0 = Nothing;
  op1 = Nothing;
  op2 = Nothing;
  marked = false;
  dropped = false;
  parts = no_parts;
  registers = 0;
}
