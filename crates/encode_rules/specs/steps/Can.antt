-- Whether a row can encode a key, with no bytes: names agree and each number fits where the row reads it, or is the row's own.
use Rattle.std.specs.Prelude.{ℕ, zero, suc, ◌^◌, Bool, true, List, [], ◌∷◌, ltb, eqb}
use Rattle.laws.specs.Choice.{both}
use Rattle.record.specs.declared.Record.{Record}
use Rattle.record.specs.declared.Opcode.{Opcode}
use Rattle.record.specs.declared.Operand.TheVariants.{Nothing}
use Rattle.record.specs.Numbers.{opcode_no, size_no, width_no, operand_no}
use Rattle.record.specs.declared.Key.{Key}
use Rattle.record.specs.declared.fields.Field.{Field}
use Rattle.record.specs.declared.fields.Field.TheVariants.{Nowhere as nowhere, Wide as wide, Short as short, Early as early}
use Rattle.record.specs.Same.{field_of, base_of}
use Rattle.rows.specs.Row.{disp, imm, imm20, Read, num, cond, stop, Row}
use Rattle.rows.specs.Codes.{cond_of}
use Rattle.rows.specs.Run.{twenty_bits}
use Rattle.encode_rules.specs.steps.Search.{means, cond_byte, disps, imms, conds, nth, live, aim}

-- a number that is not read is the one that the row gives: by an operand's field, the row's reads into imm_wide and the row's own number
abbrev pub exact : Field → ℕ → ℕ → ℕ → Bool
exact nowhere n m v = eqb v 0
exact short n m v = true
exact early n m v = true
exact wide zero m v = eqb v m
exact wide (suc n) m v = true

-- a number that is read fits, and a condition has a byte
unfoldable pub fits : List Read → Record → Bool
fits [] s = true
fits (num (disp zero) ∷ rs) s = fits rs s
fits (num (disp (suc n)) ∷ rs) s = both (ltb (nth (disps rs) s) (256 ^ suc n)) (fits rs s)
fits (num (imm n) ∷ rs) s = both (ltb s.imm_wide (256 ^ n)) (fits rs s)
fits (num imm20 ∷ rs) s = both (ltb s.imm_wide twenty_bits) (fits rs s)
fits (cond ∷ rs) s = both (means (cond_of (cond_byte s.opcode)) s.opcode) (fits rs s)
fits (stop e ∷ rs) s = true

-- the opcode is the row's, or the one of a condition
abbrev pub named : ℕ → Opcode → Opcode → Bool
named zero o p = eqb (opcode_no o) (opcode_no p)
named (suc n) o p = true

unfoldable pub can : Row → Key → Bool
can w k =
    both (live w)
    (both (named (conds w.reads) w.face.opcode k.opcode)
    (both (eqb (size_no w.face.size) (size_no k.size))
    (both (eqb (width_no w.face.width) (width_no k.width))
    (both (eqb (operand_no (base_of w.face.op0)) (operand_no k.base0))
    (both (eqb (operand_no (base_of w.face.op1)) (operand_no k.base1))
    (both (eqb (operand_no (base_of Nothing)) (operand_no k.base2))
    (both (eqb k.number2 0)
    (both (exact (field_of w.face.op0) (imms w.reads) w.number k.number0)
    (both (exact (field_of w.face.op1) (imms w.reads) w.number k.number1)
    (fits w.reads (aim w.face k)))))))))))
