-- A number tells its name: two names with one number are one name.
-- Assumes nothing.
use Prim.Native.Nat.{ℕ}
use mathlib.Core.Path.{◌≡◌, sym, ap, ◌∙◌}
use Rattle.record.specs.declared.Opcode.{Opcode}
use Rattle.record.specs.declared.Size.{Size}
use Rattle.record.specs.declared.Width.{Width}
use Rattle.record.specs.declared.Operand.{Operand}
use Rattle.record.specs.Numbers.{opcode_no, size_no, width_no, operand_no}
pub use Rattle.record.specs.Names.{opcodes, opcode_at, size_at, width_at, operands, operand_at}
use Rattle.record.proofs.At.{opcode_at_lem, size_at_lem, width_at_lem, operand_at_lem}

-- a number that a name can be found by tells it
module _ {A : Type 0} (no : A → ℕ) (name : ℕ → A) (found : (a : A) → name (no a) ≡ a) where
  pub told : (a b : A) → no a ≡ no b → a ≡ b
  told a b e = sym (found a) ∙ ap name e ∙ found b

pub opcodes_apart : (a b : Opcode) → opcode_no a ≡ opcode_no b → a ≡ b
opcodes_apart = told opcode_no opcode_at opcode_at_lem

pub sizes_apart : (a b : Size) → size_no a ≡ size_no b → a ≡ b
sizes_apart = told size_no size_at size_at_lem

pub widths_apart : (a b : Width) → width_no a ≡ width_no b → a ≡ b
widths_apart = told width_no width_at width_at_lem

pub operands_apart : (a b : Operand) → operand_no a ≡ operand_no b → a ≡ b
operands_apart = told operand_no operand_at operand_at_lem
