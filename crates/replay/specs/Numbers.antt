-- An answer's numbers, and where a line has them.
use Rattle.std.specs.Prelude.{ℕ, List}
use Rattle.record.specs.Answer.{Answer}
use Rattle.record.specs.Numbers.{opcode_no, size_no, operand_no}
use Rattle.replay.specs.declared.numbers.Numbers.{Numbers}
use Rattle.replay.specs.Hex.{digit_at, byte_at, word_at, long_at}

abbrev pub numbers_in : List ℕ → Numbers
numbers_in s = record {
  refusal = digit_at s 19;
  taken = digit_at s 21;
  opcode = byte_at s 23;
  size = digit_at s 25;
  op0 = byte_at s 26;
  op1 = byte_at s 28;
  op2 = byte_at s 30;
  imm_wide = long_at s 33;
  dispabs = word_at s 42;
  length = digit_at s 47;
}

abbrev pub numbers_of : Answer → Numbers
numbers_of a = record {
  refusal = a.refusal;
  taken = a.taken;
  opcode = opcode_no a.inst.opcode;
  size = size_no a.inst.size;
  op0 = operand_no a.inst.op0;
  op1 = operand_no a.inst.op1;
  op2 = operand_no a.inst.op2;
  imm_wide = a.inst.imm_wide;
  dispabs = a.inst.dispabs;
  length = a.inst.length;
}
