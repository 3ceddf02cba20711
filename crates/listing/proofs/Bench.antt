-- The document's fourteen bytes, an empty image, a marked row whose two displacements go by the rule for `dispabs`, signed displacements,
-- dropped bits, what a listing still hides, and an image that is too long.
-- Assumes nothing.
use mathlib.Core.Path.{◌≡◌, refl}
use mathlib.Core.List.{[], ◌∷◌}
use lib.ListN.{replicate}
use Rattle.record.specs.Same.{same_name, among, field_of}
use Rattle.record.specs.Signed.{is_signed, number_of}
use Rattle.rows.specs.Groups.{known, rows_of, document01}
use Rattle.rows.specs.Codes.{cond_of}
use Rattle.rows.specs.Run.{decode_by, run_row, run, read_disp, read_into}
use Rattle.sweep.specs.declared.Rule.TheVariants.{GoOn, Stop}
use Rattle.sweep.specs.Walk.{step_at, go, walk}
use Rattle.laws.specs.Text.{spelled}
use Rattle.line.specs.Characters.{digit}
use Rattle.line.specs.Names.{opcode_names, opcode_name, operand_names, operand_name}
use Rattle.line.specs.Line.{digits_of, number_text, shown, from_width, line_of}
use Rattle.listing.specs.Listing.{listing}

pub document : listing document01 Stop (0x74 ∷ 0x0F ∷ 0x34 ∷ 0x12 ∷ 0x89 ∷ 0x67 ∷ 0xF5 ∷ 0x7D ∷ 0xC8 ∷ 0x05 ∷ 0xEB ∷ 0xC5 ∷ 0x7E ∷ 0xE0 ∷ [])
    ≡ spelled "0000 7 B STE Abs16=1234 Abs20=56789 !\n0007 3 W JLE Disp8=+05\n000A 2 - INT Imm8=05\n000C REFUSED 2 TAKEN 2\n"
unfolding listing walk go step_at decode_by run_row run read_disp read_into cond_of known rows_of same_name among field_of digit opcode_names opcode_name operand_names operand_name digits_of number_text is_signed number_of shown from_width line_of
document = refl

-- request A1: the same going on
pub carried_on : listing document01 GoOn (0x74 ∷ 0x0F ∷ 0x34 ∷ 0x12 ∷ 0x89 ∷ 0x67 ∷ 0xF5 ∷ 0x7D ∷ 0xC8 ∷ 0x05 ∷ 0xEB ∷ 0xC5 ∷ 0x7E ∷ 0xE0 ∷ [])
    ≡ spelled "0000 7 B STE Abs16=1234 Abs20=56789 !\n0007 3 W JLE Disp8=+05\n000A 2 - INT Imm8=05\n000C REFUSED 2 TAKEN 2\n000D REFUSED 4 TAKEN 1\nEND 000E\n"
unfolding listing walk go step_at decode_by run_row run read_disp read_into cond_of known rows_of same_name among field_of digit opcode_names opcode_name operand_names operand_name digits_of number_text is_signed number_of shown from_width line_of
carried_on = refl

-- one byte on, though the refused decoding took two: the second begins an instruction
pub overlapping : listing document01 GoOn (0x7C ∷ 0x7D ∷ 0xC8 ∷ 0x05 ∷ []) ≡ spelled "0000 REFUSED 2 TAKEN 2\n0001 3 W JLE Disp8=+05\nEND 0004\n"
unfolding listing walk go step_at decode_by run_row run read_disp read_into cond_of known rows_of same_name among field_of digit opcode_names opcode_name operand_names operand_name digits_of number_text is_signed number_of shown from_width line_of
overlapping = refl

pub empty : listing document01 Stop [] ≡ spelled "END 0000\n"
unfolding listing walk go step_at digit
empty = refl

pub marked : listing document01 Stop (0x74 ∷ 0x38 ∷ 0x10 ∷ []) ≡ spelled "0000 3 B MOV.B Disp8_A0=00 Disp8_SP=10\nEND 0003\n"
unfolding listing walk go step_at decode_by run_row run read_disp read_into cond_of known rows_of same_name among field_of digit opcode_names opcode_name operand_names operand_name digits_of number_text is_signed number_of shown from_width line_of
marked = refl

-- request A3: the frame base's displacements and the bit form's
pub signed : listing document01 Stop (0x74 ∷ 0x5B ∷ 0xF0 ∷ 0x74 ∷ 0x5B ∷ 0x7F ∷ 0x74 ∷ 0x5B ∷ 0x80 ∷ 0x7E ∷ 0x8B ∷ 0xF0 ∷ [])
    ≡ spelled "0000 3 B NEG Disp8_FB=-10\n0003 3 B NEG Disp8_FB=+7F\n0006 3 B NEG Disp8_FB=-80\n0009 3 - BCLR Bit_Disp8_FB=F0\nEND 000C\n"
unfolding listing walk go step_at decode_by run_row run read_disp read_into cond_of known rows_of same_name among field_of digit opcode_names opcode_name operand_names operand_name digits_of number_text is_signed number_of shown from_width line_of
signed = refl

-- request A6: two images that differ in a nibble, which only `!` tells
pub dropped : (listing document01 Stop (0x74 ∷ 0x00 ∷ 0x61 ∷ 0xFE ∷ 0x06 ∷ []) ≡ spelled "0000 5 B STE R0L Abs20=6FE61\nEND 0005\n")
    × (listing document01 Stop (0x74 ∷ 0x00 ∷ 0x61 ∷ 0xFE ∷ 0x16 ∷ []) ≡ spelled "0000 5 B STE R0L Abs20=6FE61 !\nEND 0005\n")
unfolding listing walk go step_at decode_by run_row run read_disp read_into cond_of known rows_of same_name among field_of digit opcode_names opcode_name operand_names operand_name digits_of number_text is_signed number_of shown from_width line_of
dropped = (refl, refl)

-- a marked row shows a displacement of two bytes in two digits, so bytes that differ list alike
pub hidden : listing document01 Stop (0x74 ∷ 0x3C ∷ 0x80 ∷ 0x00 ∷ []) ≡ listing document01 Stop (0x74 ∷ 0x3C ∷ 0x80 ∷ 0x10 ∷ [])
unfolding listing walk go step_at decode_by run_row run read_disp read_into cond_of known rows_of same_name among field_of digit opcode_names opcode_name operand_names operand_name digits_of number_text is_signed number_of shown from_width line_of
hidden = refl

pub too_long : listing document01 Stop (replicate 4097 0) ≡ spelled "REFUSED 7\n"
unfolding listing
too_long = refl
