-- Request A7: EC and ED, whose second byte is a list of registers, a bit for each. h and n are its nibbles.
use Rattle.std.specs.Prelude.{ℕ, ◌+◌, ◌*◌, false, []}
use Rattle.std.specs.Int.Count.{ones_in}
use Rattle.record.specs.declared.Opcode.{Opcode}
use Rattle.record.specs.declared.Size.TheVariants as size
use Rattle.record.specs.declared.Width.TheVariants.{None}
use Rattle.record.specs.declared.Operand.TheVariants.{Nothing, RegList}
use Rattle.rows.specs.Row.{Row}

-- how many registers a list names: the ones among the byte's eight bits
unfoldable pub registers_in : ℕ → ℕ
unfolding ones_in
registers_in b = ones_in 8 b

-- the list is the number of RegList, and part of the code
unfoldable pub list : Opcode → ℕ → ℕ → Row
unfolding registers_in
list o h n = record {
  face = record { opcode = o; size = size.None; width = None; op0 = RegList; op1 = Nothing; marked = false; registers = registers_in (16 * h + n) };
  number = 16 * h + n;
  reads = [];
}
