-- Records that no bytes encode.
-- Assumes nothing.
use Prim.Native.Nat.{ℕ}
use mathlib.Core.Path.{◌≡◌, refl}
use mathlib.Core.Bool.{false}
use mathlib.Core.List.{[], ◌∷◌}
use Rattle.record.specs.declared.Record.{Record}
use Rattle.record.specs.declared.Opcode.TheVariants.{NEG}
use Rattle.record.specs.declared.Size.TheVariants as size
use Rattle.record.specs.declared.Width.TheVariants.{B}
use Rattle.record.specs.declared.Operand.TheVariants.{Nothing, Disp8_FB}
use Rattle.record.specs.Blank.{blank}
use Rattle.record.specs.Parts.{no_parts}
use Rattle.record.specs.Same.{same_name, among, field_of, base_of}
use Rattle.record.specs.Signed.{is_signed, number_of, number_at}
use Rattle.rows.specs.Codes.{cond_of}
use Rattle.rows.specs.Groups.{document01, known, rows_of}
use Rattle.rows.specs.Run.{decode_by, run_row, run, read_disp, read_into}
use Rattle.encode_rules.specs.Says.{bytes, none, Right}
use Rattle.encode_rules.specs.steps.Search.{cond_byte, disps, imms, conds, spell, aim, bytes_by}
use Rattle.encode_rules.specs.steps.Can.{fits, can}
use Rattle.encode_rules.specs.steps.Direct.{able, taken}
use Rattle.encode_choice.specs.steps.Coarse.{whole}
use Rattle.encode_choice.specs.steps.Forms.{form_of, goes_with}
use Rattle.encode_choice.specs.steps.Choose.{choose_named, choose_by, drops_zero, place}
use Rattle.encode_choice.proofs.Chosen.{chosen}
use Rattle.encode_choice.proofs.Encoded.{right_bytes}

-- the blank record, so that what makes no record has no bytes
pub no_blank : Right document01 blank none
unfolding decode_by run_row run read_disp read_into cond_of known rows_of taken able can fits bytes_by spell aim
    choose_named drops_zero goes_with form_of among same_name choose_by place cond_byte disps imms conds field_of base_of whole
no_blank = chosen blank

-- NEG.B of a local variable
abbrev negated : ℕ → Record
negated v = record {
  imm_wide = 0;
  dispabs = v;
  first = 0;
  length = 0;
  opcode = NEG;
  size = size.None;
  width = B;
  op0 = Disp8_FB;
  op1 = Nothing;
  op2 = Nothing;
  marked = false;
  dropped = false;
  parts = no_parts;
  registers = 0;
}

-- request A3: encoding goes by what a field holds, and not by the number that it is counted as: one number, and one of the two has bytes
pub by_the_field :
    (number_at (negated 0x01F0) 0 ≡ number_at (negated 0x00F0) 0)
    × Right document01 (negated 0x00F0) (bytes (0x74 ∷ 0x5B ∷ 0xF0 ∷ []))
    × Right document01 (negated 0x01F0) none
unfolding is_signed number_of decode_by run_row run read_disp read_into cond_of known rows_of taken able can fits bytes_by spell aim
    choose_named drops_zero goes_with form_of among same_name choose_by place cond_byte disps imms conds field_of base_of whole
by_the_field = (refl, right_bytes _ _ refl, chosen (negated 0x01F0))
