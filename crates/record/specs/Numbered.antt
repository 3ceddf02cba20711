-- A record with other numbers: what decoding reads and counts is told anew, names, length and mark are as they were.
use Rattle.std.specs.Prelude.{ℕ, Bool}
use Rattle.record.specs.declared.Parts.{Parts}
use Rattle.record.specs.declared.Record.{Record}

-- imm_wide, dispabs, first, whether bits were dropped, where the numbers stand, how many registers are named
abbrev pub numbered : ℕ → ℕ → ℕ → Bool → Parts → ℕ → Record → Record
numbered wide short early dropped parts registers r = record {
  imm_wide = wide;
  dispabs = short;
  first = early;
  length = r.length;
  opcode = r.opcode;
  size = r.size;
  width = r.width;
  op0 = r.op0;
  op1 = r.op1;
  op2 = r.op2;
  marked = r.marked;
  dropped = dropped;
  parts = parts;
  registers = registers;
}
