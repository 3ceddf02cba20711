-- Records that request A9 speaks of, and the bytes that the reading by the manual has for them.
-- Assumes nothing.
use Prim.Native.Nat.{ℕ}
use mathlib.Core.Path.{◌≡◌, refl, subst}
use mathlib.Core.Bool.{Bool, true, false}
use mathlib.Core.List.{List, [], ◌∷◌}
use Rattle.record.specs.declared.Record.{Record}
use Rattle.record.specs.declared.Opcode.{Opcode}
use Rattle.record.specs.declared.Opcode.TheVariants.{ADD, BMGE, DIVX, FSET, JMPI, LDC, LDIPL, MOV, MULU}
use Rattle.record.specs.declared.Size.{Size}
use Rattle.record.specs.declared.Size.TheVariants as size
use Rattle.record.specs.declared.Width.{Width}
use Rattle.record.specs.declared.Width.TheVariants.{None, B, W}
use Rattle.record.specs.declared.Operand.{Operand}
use Rattle.record.specs.declared.Operand.TheVariants.{Nothing, Imm4, Imm8, R0L, R2, Deref_A0, Disp8_A0, Disp8_SP, Disp16_A0, SP, FB}
use Rattle.record.specs.Blank.{blank}
use Rattle.record.specs.Parts.{no_parts}
use Rattle.record.specs.Same.{same_name, among, field_of, base_of}
use Rattle.rows.specs.Codes.{cond_of}
use Rattle.rows.specs.Groups.{known, rows_of}
use Rattle.rows.specs.Rows.{row}
use Rattle.rows.specs.Run.{decode_by, decode_rows, run_row, run, read_disp, read_into}
use Rattle.by_manual.specs.Changed.{change_at}
use Rattle.by_manual.specs.Table.{by_manual, table_by}
use Rattle.encode_rules.specs.Says.{Found, bytes, none, Right}
use Rattle.encode_rules.specs.steps.Search.{cond_byte, disps, imms, conds, spell, aim, bytes_by}
use Rattle.encode_rules.specs.steps.Can.{fits, can}
use Rattle.encode_rules.specs.steps.Direct.{able, taken}
use Rattle.encode_choice.specs.steps.Coarse.{whole}
use Rattle.encode_choice.specs.steps.Forms.{form_of, goes_with}
use Rattle.encode_choice.specs.steps.Choose.{choose_named, drops_zero, place}
use Rattle.encode_choice.specs.steps.Choose as choice
use Rattle.encode_choice.proofs.NoBytes as document
use Rattle.encode_added.specs.steps.Entries.{entry_of, goes_as}
use Rattle.encode_added.specs.steps.Choose.{choose_by, encoded_by}
use Rattle.encode_added.proofs.Right.{right_by}

-- the blank record, so that what makes no record has no bytes by either reading
pub no_blank : (d : Bool) → Right (table_by d) blank none
unfolding taken choose_by entry_of goes_as choose_named drops_zero goes_with form_of among same_name field_of base_of whole
no_blank false = document.no_blank
no_blank true = right_by true blank

-- a record of names and of the numbers imm_wide, dispabs, first
abbrev made : Opcode → Size → Width → Operand → Operand → ℕ → ℕ → ℕ → Record
made o s w x y wide short first = record {
  imm_wide = wide;
  dispabs = short;
  first = first;
  length = 0;
  opcode = o;
  size = s;
  width = w;
  op0 = x;
  op1 = y;
  op2 = Nothing;
  marked = false;
  dropped = false;
  parts = no_parts;
  registers = 0;
}

-- a record, and what is right for it
record Line : Type 0 where
  from : Record
  found : Found

abbrev to : Record → List ℕ → Line
to r bs = record { from = r; found = bytes bs }

abbrev to_none : Record → Line
to_none r = record { from = r; found = none }

abbrev Hold : List Line → Type 0
Hold [] = Unit {0}
Hold (l ∷ ls) = Right by_manual l.from l.found × Hold ls

-- what document 01 reads at 7D B9, 1 added to SP, is another code by the manual
abbrev lines : List Line
lines =
    to (decode_rows (0x7D ∷ 0xB9 ∷ [])).inst (0x7D ∷ 0xB1 ∷ [])
    ∷ to (made ADD size.W W Imm8 SP 0xFFFFFFF8 0 0) (0x7D ∷ 0xB8 ∷ [])
    ∷ to_none (made ADD size.W W Imm8 SP 8 0 0)
    ∷ to (made DIVX size.B B R0L Nothing 0 0 0) (0x76 ∷ 0x90 ∷ [])
    ∷ to (made MULU size.B B Imm8 Deref_A0 0x12 0 0) (0x7C ∷ 0x46 ∷ 0x12 ∷ [])
    ∷ to (made MOV size.B B Disp8_A0 Disp8_SP 0 0x20 0x10) (0x74 ∷ 0x38 ∷ 0x10 ∷ 0x20 ∷ [])
    ∷ to (made MOV size.B B Disp16_A0 Disp8_SP 0 0x20 0) (0x74 ∷ 0x36 ∷ 0x20 ∷ [])
    ∷ to_none (made MOV size.B B R0L Disp8_SP 0 0x120 0)
    ∷ to (made LDC size.None B R2 FB 0 0 0) (0x7A ∷ 0xF2 ∷ [])
    ∷ to (made FSET size.None None Imm4 Nothing 6 0 0) (0xEB ∷ 0x64 ∷ [])
    ∷ to_none (made FSET size.None None Imm4 Nothing 8 0 0)
    ∷ to (made LDIPL size.None W Imm8 Nothing 7 0 0) (0x7D ∷ 0xA7 ∷ [])
    ∷ to (made JMPI size.W W R2 Nothing 0 0 0) (0x7D ∷ 0x22 ∷ [])
    ∷ to (made BMGE size.None W Nothing Nothing 0 0 0) (0x7D ∷ 0xDA ∷ [])
    ∷ []

-- what is found is right
abbrev found_so : List Line → Type 0
found_so [] = Unit {0}
found_so (l ∷ ls) = (encoded_by true l.from ≡ l.found) × found_so ls

hold : (ls : List Line) → found_so ls → Hold ls
hold [] e = tt
hold (l ∷ ls) e = (subst (Right by_manual l.from) e.0 (right_by true l.from), hold ls e.1)

pub examples : Hold lines
unfolding decode_by run_row run read_disp read_into cond_of known rows_of row change_at taken able can fits bytes_by spell aim choose_by entry_of goes_as
    choose_named drops_zero goes_with form_of among same_name choice.choose_by place cond_byte disps imms conds field_of base_of whole
examples = hold lines (refl, (refl, (refl, (refl, (refl, (refl, (refl, (refl, (refl, (refl, (refl, (refl, (refl, (refl, tt))))))))))))))
