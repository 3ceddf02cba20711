-- What the maker's manual says of a code: the instruction in its syntax, where its numbers stand, and its length in bytes.
use Rattle.std.specs.Prelude.{ℕ}
use Rattle.record.specs.declared.Opcode.{Opcode}
use Rattle.record.specs.declared.Operand.{Operand}

-- `.size`: `A` is the 20-bit size of JMPI and JSRI
pub data Suffix : Type 0 where
  none B W L A : Suffix

-- a number that is part of the code itself
pub data Number : Type 0 where
  plus : ℕ → Number
  minus : ℕ → Number

-- an operand of the syntax; a register or a way of addressing goes by the record's name for it
pub data Spot : Type 0 where
  nothing : Spot
  plain : Operand → Spot  -- no number belongs to it
  behind : Operand → ℕ → ℕ → Spot  -- its number stands behind the code: from which byte of the instruction, in how many bytes
  within : Operand → Number → Spot  -- its number is part of the code
  carry : Spot  -- C
  counter : Spot  -- PC
  flag : ℕ → Spot  -- a flag, by its bit in FLG

pub record Meaning : Type 0 where
  pub mnemonic : Opcode
  pub suffix : Suffix
  pub op0 : Spot
  pub op1 : Spot
  pub length : ℕ

-- a code has a meaning or is left empty
pub data Entry : Type 0 where
  meaning : Meaning → Entry
  empty : Entry
