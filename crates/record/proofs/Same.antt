-- Sameness is an equivalence, and does not see what was dropped, where the numbers stood, or how many registers are named.
-- Assumes nothing.
use Prim.Native.Nat.{ℕ}
use mathlib.Core.Path.{◌≡◌, refl, sym, ◌∙◌}
use mathlib.Core.Bool.{Bool}
use Rattle.record.specs.declared.Parts.{Parts}
use Rattle.record.specs.declared.Record.{Record}
use Rattle.record.specs.declared.fields.Field.{Field}
use Rattle.record.specs.declared.fields.Field.TheVariants.{Nowhere as nowhere, Wide as wide, Short as short, Early as early}
use Rattle.record.specs.Numbered.{numbered}
use Rattle.record.specs.Same.{base_of, field0, field1, field_of, value_of, Same}

pub same_self : (r : Record) → Same r r
same_self r = refl

pub same_back : (r s : Record) → Same r s → Same s r
same_back r s h = sym h

pub same_through : (r s t : Record) → Same r s → Same s t → Same r t
same_through r s t h k = h ∙ k

-- a record with another answer to whether bits were dropped, other parts, and another count of registers
abbrev pub told : Bool → Parts → ℕ → Record → Record
told d p n r = numbered r.imm_wide r.dispabs r.first d p n r

abbrev pub dropping : Bool → Record → Record
dropping d r = told d r.parts r.registers r

abbrev pub placing : Parts → Record → Record
placing p r = told r.dropped p r.registers r

abbrev pub counting : ℕ → Record → Record
counting n r = told r.dropped r.parts n r

module _ (d : Bool) (p : Parts) (n : ℕ) (r : Record) where
  value_kept : (f : Field) → value_of f (told d p n r) ≡ value_of f r
  value_kept nowhere = refl
  value_kept wide = refl
  value_kept short = refl
  value_kept early = refl

  -- it is the same instruction
  same_told : Same (told d p n r) r
  same_told i = record {
    opcode = r.opcode;
    size = r.size;
    width = r.width;
    base0 = base_of r.op0;
    base1 = base_of r.op1;
    base2 = base_of r.op2;
    number0 = value_kept (field0 r.op0 r.op1) i;
    number1 = value_kept (field1 r.op0 r.op1) i;
    number2 = value_kept (field_of r.op2) i;
  }

-- request A6
pub same_dropping : (d : Bool) (r : Record) → Same (dropping d r) r
same_dropping d r = same_told d r.parts r.registers r

-- request A5: the key does not change with the parts
pub same_placing : (p : Parts) (r : Record) → Same (placing p r) r
same_placing p r = same_told r.dropped p r.registers r

-- request A7: nor with the count
pub same_counting : (n : ℕ) (r : Record) → Same (counting n r) r
same_counting n r = same_told r.dropped r.parts n r
