-- A row as data: what it names, the number that is part of its code, and what it reads behind the second byte, in order.
use Rattle.std.specs.Prelude.{ℕ, Bool, List}
use Rattle.record.specs.declared.Opcode.{Opcode}
use Rattle.record.specs.declared.Size.{Size}
use Rattle.record.specs.declared.Width.{Width}
use Rattle.record.specs.declared.Operand.{Operand}

pub data Num : Type 0 where
  disp : ℕ → Num  -- so many bytes into dispabs, none at 0
  imm : ℕ → Num  -- so many bytes into imm_wide
  imm20 : Num  -- three bytes into imm_wide, masked to 20 bits

-- a row's own refusals, 2 and 3
pub data Refusal : Type 0 where
  InvalidOpcode InvalidOperand : Refusal

abbrev pub refusal_no : Refusal → ℕ
refusal_no InvalidOpcode = 2
refusal_no InvalidOperand = 3

pub data Read : Type 0 where
  num : Num → Read
  cond : Read  -- a condition byte, which names the opcode
  stop : Refusal → Read

pub data Condition : Type 0 where
  named : Opcode → Condition
  unnamed : Condition

-- what the record gets from the row alone (no row has a third operand)
pub record Face : Type 0 where
  pub opcode : Opcode
  pub size : Size
  pub width : Width
  pub op0 : Operand
  pub op1 : Operand
  pub marked : Bool
  pub registers : ℕ  -- request A7: how many registers its list names

-- of a row that names no list of registers
abbrev pub face : Opcode → Size → Width → Operand → Operand → Bool → Face
face o z w a b m = record { opcode = o; size = z; width = w; op0 = a; op1 = b; marked = m; registers = 0 }

pub record Row : Type 0 where
  pub face : Face
  pub number : ℕ
  pub reads : List Read

-- the first bytes that a decoding knows, and the row of each first and second byte
pub record Table : Type 0 where
  pub known : ℕ → Bool
  pub row_at : ℕ → ℕ → Row
