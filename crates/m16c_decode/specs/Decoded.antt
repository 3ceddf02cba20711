-- What m16c_decode and m16c_decode_manual return, and leave in the list passed in, by a table of rows.
use Rattle.std.specs.Prelude.{ℕ, ◌≡◌, Bool, true, false, List, [], ◌∷◌, ◌++◌, length, drop, ltb}
use Rattle.laws.specs.Choice.{pick}
use Rattle.record.specs.Answer.{Answer}
use Rattle.record.specs.declared.Parts.{Parts}
use Rattle.record.specs.Numbers.{opcode_no, size_no, width_no, operand_no}
use Rattle.rows.specs.Row.{Table}
use Rattle.rows.specs.Run.{decode_by}

abbrev pub flag_no : Bool → ℕ
flag_no true = 1
flag_no false = 0

-- request A5: where first, dispabs and imm_wide stand, the offset and the width of each
abbrev pub part_numbers : Parts → List ℕ
part_numbers p =
    p.first.offset
    ∷ p.first.width
    ∷ p.dispabs.offset
    ∷ p.dispabs.width
    ∷ p.imm_wide.offset
    ∷ p.imm_wide.width
    ∷ []

-- an answer as numbers
unfoldable pub numbers_of : Answer → List ℕ
numbers_of x =
    x.taken
    ∷ opcode_no x.inst.opcode
    ∷ size_no x.inst.size
    ∷ width_no x.inst.width
    ∷ operand_no x.inst.op0
    ∷ operand_no x.inst.op1
    ∷ operand_no x.inst.op2
    ∷ x.inst.imm_wide
    ∷ x.inst.dispabs
    ∷ x.inst.first
    ∷ x.inst.length
    ∷ flag_no x.inst.marked
    ∷ flag_no x.inst.dropped
    ∷ (part_numbers x.inst.parts ++ (x.inst.registers ∷ []))

-- so many stand before the parts, so many before what request A7 adds, and so many are all
abbrev pub parts_from : ℕ
parts_from = 13

abbrev pub registers_from : ℕ
registers_from = 19

abbrev pub entries : ℕ
entries = 20

-- the number returned, and the list as it is left
pub record Delivered : Type 0 where
  pub no : ℕ
  pub out : List ℕ

-- 6 and nothing touched where the list has fewer entries; else the numbers stand over its first ones
unfoldable pub decoded : Table → List ℕ → ℕ → List ℕ → Delivered
decoded t image at out =
    pick (ltb (length out) entries) (record { no = 6; out = out })
    (record { no = (decode_by t (drop at image)).refusal; out = numbers_of (decode_by t (drop at image)) ++ drop entries out })

-- the promise: the number returned, and every entry of the list as it is left
pub record Decodes (t : Table) (image : List ℕ) (at : ℕ) (out : List ℕ) (r : ℕ) (after : List ℕ) : Type 0 where
  pub returned : r ≡ (decoded t image at out).no
  pub kept : after ≡ (decoded t image at out).out
