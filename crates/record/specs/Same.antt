-- Document 01, "Same instruction": what counts of a record, and that two records are the same if it agrees.
use Rattle.std.specs.Prelude.{ℕ, zero, suc, ◌≡◌, Bool, true, false, List, [], ◌∷◌, eqb}
use Rattle.record.specs.declared.Record.{Record}
use Rattle.record.specs.declared.Key.{Key}
use Rattle.record.specs.declared.Operand.{Operand}
use Rattle.record.specs.declared.Operand.TheVariants.{Imm4, Imm8, Imm16, RegList, Abs16, Abs20, Disp8, Deref_A0, Deref_A1, Disp8_A0, Disp8_A1, Disp8_SB, Disp8_FB}
use Rattle.record.specs.declared.Operand.TheVariants.{Disp8_SP, Disp16_A0, Disp16_A1, Disp16_SB, Disp20_A0, Disp20_A1, Bit_R0, Bit_R1, Bit_R2, Bit_R3, Bit_A0}
use Rattle.record.specs.declared.Operand.TheVariants.{Bit_A1, Bit_Disp8_A0, Bit_Disp8_A1, Bit_Disp8_SB, Bit_Disp8_FB, Bit_Disp16_A0, Bit_Disp16_A1, Bit_Disp16_SB}
use Rattle.record.specs.declared.Operand.TheVariants.{Bit_Abs16}
use Rattle.record.specs.Numbers.{operand_no}
-- the field that holds an operand's number: none; imm_wide; dispabs; first
use Rattle.record.specs.declared.fields.Field.{Field}
use Rattle.record.specs.declared.fields.Field.TheVariants.{Nowhere as nowhere, Wide as wide, Short as short, Early as early}
use Rattle.laws.specs.Choice.{pick}

unfoldable pub same_name : Operand → Operand → Bool
same_name a b = eqb (operand_no a) (operand_no b)

unfoldable pub among : List Operand → Operand → Bool
unfolding same_name
among [] a = false
among (b ∷ bs) a = pick (same_name a b) true (among bs a)

-- "base and number": over A0, A1 and SB the name counts without its 8 or 16, and Deref is base and 0
unfoldable pub base_of : Operand → Operand
unfolding among
base_of a =
    pick (among (Deref_A0 ∷ Disp8_A0 ∷ Disp16_A0 ∷ []) a) Disp16_A0
    (pick (among (Deref_A1 ∷ Disp8_A1 ∷ Disp16_A1 ∷ []) a) Disp16_A1
    (pick (among (Disp8_SB ∷ Disp16_SB ∷ []) a) Disp16_SB a))

-- the names whose number is in imm_wide, and those that need dispabs
abbrev pub wide_names : List Operand
wide_names = Imm4 ∷ Imm8 ∷ Imm16 ∷ Abs20 ∷ Disp20_A0 ∷ Disp20_A1 ∷ Disp8 ∷ RegList ∷ []

abbrev pub short_names : List Operand
short_names =
    Disp8_A0 ∷ Disp8_A1 ∷ Disp8_SB ∷ Disp8_FB ∷ Disp8_SP ∷ Disp16_A0 ∷ Disp16_A1 ∷ Disp16_SB ∷ Abs16
    ∷ Bit_R0 ∷ Bit_R1 ∷ Bit_R2 ∷ Bit_R3 ∷ Bit_A0 ∷ Bit_A1 ∷ Bit_Disp8_A0 ∷ Bit_Disp8_A1 ∷ Bit_Disp8_SB ∷ Bit_Disp8_FB
    ∷ Bit_Disp16_A0 ∷ Bit_Disp16_A1 ∷ Bit_Disp16_SB ∷ Bit_Abs16 ∷ []

-- the field that an operand's name asks for
unfoldable pub field_of : Operand → Field
unfolding among
field_of a = pick (among wide_names a) wide (pick (among short_names a) short nowhere)

-- "Where two operands need dispabs": its own field, the other operand's, and whether dispabs is then the other's
abbrev pub shared : Field → Field → Bool → Field
shared nowhere other others = nowhere
shared wide other others = wide
shared early other others = early
shared short nowhere others = short
shared short wide others = short
shared short early others = short
shared short short true = early
shared short short false = short

-- "it belongs to operand 0 if that is Disp8_SP, else to operand 1"
abbrev pub field0 : Operand → Operand → Field
field0 a b = shared (field_of a) (field_of b) (pick (same_name a Disp8_SP) false true)

abbrev pub field1 : Operand → Operand → Field
field1 a b = shared (field_of b) (field_of a) (same_name a Disp8_SP)

-- the field of operand k's number; there are operands 0, 1 and 2, and a third takes its name's field
abbrev pub field_at : Record → ℕ → Field
field_at r zero = field0 r.op0 r.op1
field_at r (suc zero) = field1 r.op0 r.op1
field_at r (suc (suc zero)) = field_of r.op2
field_at r (suc (suc (suc k))) = nowhere

abbrev pub value_of : Field → Record → ℕ
value_of nowhere r = 0
value_of wide r = r.imm_wide
value_of short r = r.dispabs
value_of early r = r.first

-- all that counts: not length, not marked, not dropped, no parts, not how many registers are named, no field that no operand names. (No row has a third operand; in a record made otherwise its number is its name's field.)
abbrev pub key : Record → Key
key r = record {
  opcode = r.opcode;
  size = r.size;
  width = r.width;
  base0 = base_of r.op0;
  base1 = base_of r.op1;
  base2 = base_of r.op2;
  number0 = value_of (field0 r.op0 r.op1) r;
  number1 = value_of (field1 r.op0 r.op1) r;
  number2 = value_of (field_of r.op2) r;
}

abbrev pub Same : Record → Record → Type 0
Same r s = key r ≡ key s
