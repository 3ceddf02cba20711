-- Document 01's fourteen bytes: the lines at the three places that decode, in any buffer, and the refusal at the fourth; and lines by the manual.
-- Assumes nothing.
use Prim.Native.Nat.{ℕ}
use mathlib.Core.Path.{◌≡◌, refl}
use mathlib.Core.List.{List, [], ◌∷◌}
use Rattle.record.specs.Same.{same_name, among, field_of}
use Rattle.record.specs.Signed.{is_signed, number_of}
use Rattle.rows.specs.Groups.{known, rows_of, document01}
use Rattle.rows.specs.Codes.{cond_of}
use Rattle.rows.specs.Run.{decode_by, run_row, run, read_disp, read_into}
use Rattle.by_manual.specs.Changed.{change_at}
use Rattle.by_manual.specs.Table.{by_manual}
use Rattle.laws.specs.Text.{spelled}
use Rattle.line.specs.Characters.{digit}
use Rattle.line.specs.Names.{opcode_names, opcode_name, operand_names, operand_name}
use Rattle.line.specs.Line.{digits_of, number_text, shown, from_width, line_of}
use Rattle.line.specs.Left.{left}
use Rattle.m16c_line.specs.Lined.{told, untouched, lined}

abbrev bytes : List ℕ
bytes = 0x74 ∷ 0x0F ∷ 0x34 ∷ 0x12 ∷ 0x89 ∷ 0x67 ∷ 0xF5 ∷ 0x7D ∷ 0xC8 ∷ 0x05 ∷ 0xEB ∷ 0xC5 ∷ 0x7E ∷ 0xE0 ∷ []

pub document : (out : List ℕ)
    → (lined document01 bytes 0 out ≡ told (left (spelled "0000 7 B STE Abs16=1234 Abs20=56789 !") out))
    × (lined document01 bytes 7 out ≡ told (left (spelled "0007 3 W JLE Disp8=+05") out))
    × (lined document01 bytes 0xA out ≡ told (left (spelled "000A 2 - INT Imm8=05") out))
    × (lined document01 bytes 0xC out ≡ untouched 2 out)
unfolding lined decode_by run_row run read_disp read_into cond_of known rows_of same_name among field_of digit opcode_names opcode_name operand_names operand_name digits_of number_text is_signed number_of shown from_width line_of
document out = (refl, refl, refl, refl)

-- request A9: by the manual, a source displacement and SP's own; a number of four bits with its sign; a word jump; a flag
pub by_the_manual : (out : List ℕ)
    → (lined by_manual (0x74 ∷ 0x38 ∷ 0x10 ∷ 0x20 ∷ []) 0 out ≡ told (left (spelled "0000 4 B MOV.B Disp8_A0=10 Disp8_SP=20") out))
    × (lined by_manual (0x7D ∷ 0xB8 ∷ []) 0 out ≡ told (left (spelled "0000 2 W ADD.W Imm8=F8 SP") out))
    × (lined by_manual (0x7D ∷ 0x22 ∷ []) 0 out ≡ told (left (spelled "0000 2 W JMPI.W R2") out))
    × (lined by_manual (0xEB ∷ 0x64 ∷ []) 0 out ≡ told (left (spelled "0000 2 - FSET Imm4=6") out))
unfolding lined decode_by run_row run read_disp read_into cond_of known rows_of change_at same_name among field_of digit opcode_names opcode_name operand_names operand_name digits_of number_text is_signed number_of shown from_width line_of
by_the_manual out = (refl, refl, refl, refl)
