-- Which numbers that a program passes in make a record, and which record.
use Rattle.std.specs.Prelude.{ℕ, Bool, false, List, length, get_or, ltb, leb}
use Rattle.laws.specs.Choice.{pick, both}
use Rattle.record.specs.declared.Record.{Record}
use Rattle.record.specs.Blank.{blank}
use Rattle.record.specs.Parts.{no_parts}
use Rattle.record.specs.Names.{opcodes, opcode_at, sizes, size_at, widths, width_at, operands, operand_at}

-- the number at a place is below a bound
abbrev pub below : List ℕ → ℕ → ℕ → Bool
below ns k bound = ltb (get_or ns k 0) bound

-- enough numbers, names that are in their lists, displacements of two bytes
unfoldable pub valid : List ℕ → Bool
valid ns =
    both (leb 12 (length ns))
    (both (below ns 1 (length opcodes))
    (both (below ns 2 (length sizes))
    (both (below ns 3 (length widths))
    (both (below ns 4 (length operands))
    (both (below ns 5 (length operands))
    (both (below ns 6 (length operands))
    (both (below ns 8 65536) (below ns 9 65536))))))))

-- taken, length and marked, numbers 0, 10 and 11, do not count, nor what stands behind them
abbrev pub made_of : List ℕ → Record
made_of ns = record {
  imm_wide = get_or ns 7 0;
  dispabs = get_or ns 8 0;
  first = get_or ns 9 0;
  length = 0;
  opcode = opcode_at (get_or ns 1 0);
  size = size_at (get_or ns 2 0);
  width = width_at (get_or ns 3 0);
  op0 = operand_at (get_or ns 4 0);
  op1 = operand_at (get_or ns 5 0);
  op2 = operand_at (get_or ns 6 0);
  marked = false;
  dropped = false;
  registers = 0;
  parts = no_parts;
}

-- numbers that make no record make the blank one, which has no operand and which no bytes encode
abbrev pub record_of : List ℕ → Record
record_of ns = pick (valid ns) (made_of ns) blank
