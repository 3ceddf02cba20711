-- Document 01, "Bench lines": the lines marked P, with the parts of request A5, and what request A6 says of encoding, as one table.
use Rattle.std.specs.Prelude.{ℕ, ◌≡◌, Bool, true, false, List, [], ◌∷◌}
use Rattle.record.specs.Answer.{Answer}
use Rattle.record.specs.declared.Opcode.TheVariants.{STE, ROT, MUL, BMGE, LDIPL}
use Rattle.record.specs.declared.Size.TheVariants as size
use Rattle.record.specs.declared.Width.TheVariants.{None, B, W}
use Rattle.record.specs.declared.Operand.TheVariants.{Nothing, Imm8, R1H, R3, Abs16, Abs20, Disp8_A0, Disp8_A1, Bit_R0}
use Rattle.record.specs.declared.Part.{Part}
use Rattle.record.specs.declared.Parts.{Parts}
use Rattle.record.specs.declared.Seen.{Seen}
use Rattle.record.specs.Parts.{part, no_part, no_parts}
use Rattle.rows.specs.Groups.{document01}
use Rattle.rows.specs.Run.{accepted, refusal, decode_rows}
use Rattle.encode_rules.specs.Says.{bytes, Right}

-- bytes and the answer to them, or bytes and those that their instruction is encoded to
pub data Line : Type 0 where
  decodes : List ℕ → Answer → Line
  encodes : List ℕ → List ℕ → Line

-- the numbers of a record in the order imm_wide, dispabs, first, and where they stand
abbrev pub at : Part → Part → Part → Parts
at wide short first = record { imm_wide = wide; dispabs = short; first = first }

abbrev pub numbers : ℕ → ℕ → ℕ → Parts → Bool → ℕ → Seen
numbers wide short first parts dropped taken = record { imm_wide = wide; dispabs = short; first = first; dropped = dropped; parts = parts; taken = taken }

abbrev pub lines : List Line
lines =
    decodes [] (refusal 1 0)
    ∷ decodes (0x04 ∷ []) (refusal 4 1)
    ∷ decodes (0x74 ∷ 0x0F ∷ 0x34 ∷ 0x12 ∷ 0x89 ∷ 0x67 ∷ 0xF5 ∷ []) (accepted STE size.None B Abs16 Abs20 false (numbers 0x56789 0x1234 0 (at (part 4 3) (part 2 2) no_part) true 7))
    ∷ decodes (0x74 ∷ 0x0F ∷ 0x34 ∷ 0x12 ∷ 0x89 ∷ 0x67 ∷ []) (refusal 1 6)
    ∷ decodes (0x74 ∷ 0x63 ∷ []) (refusal 3 2)
    ∷ decodes (0x75 ∷ 0x63 ∷ []) (accepted ROT size.W W R1H R3 false (numbers 0 0 0 no_parts false 2))
    ∷ decodes (0x78 ∷ 0x83 ∷ []) (refusal 1 2)
    ∷ decodes (0x78 ∷ 0x83 ∷ 0x10 ∷ []) (refusal 3 3)
    ∷ decodes (0x7B ∷ 0x88 ∷ []) (refusal 3 2)
    ∷ decodes (0x7A ∷ 0x88 ∷ []) (refusal 1 2)
    ∷ decodes (0x78 ∷ 0x89 ∷ 0x10 ∷ 0x20 ∷ []) (accepted MUL size.None B Disp8_A0 Disp8_A1 false (numbers 0 0x20 0x10 (at no_part (part 3 1) (part 2 1)) false 4))
    ∷ decodes (0x7E ∷ 0x20 ∷ 0x05 ∷ 0x07 ∷ []) (refusal 2 4)
    ∷ decodes (0x7E ∷ 0x20 ∷ 0x05 ∷ 0x06 ∷ []) (accepted BMGE size.None None Bit_R0 Nothing false (numbers 0 5 0 (at no_part (part 2 1) no_part) false 4))
    ∷ decodes (0x7D ∷ 0xA5 ∷ []) (accepted LDIPL size.None W Imm8 Nothing true (numbers 0xFFFFFFFD 0 0 no_parts false 2))
    ∷ encodes (0x74 ∷ 0x5C ∷ 0x00 ∷ 0x00 ∷ []) (0x74 ∷ 0x56 ∷ [])
    ∷ encodes (0xEB ∷ 0x0C ∷ 0x00 ∷ 0x00 ∷ []) (0xEB ∷ 0x08 ∷ 0x00 ∷ [])
    ∷ encodes (0x74 ∷ 0x00 ∷ 0x61 ∷ 0xFE ∷ 0x16 ∷ []) (0x74 ∷ 0x00 ∷ 0x61 ∷ 0xFE ∷ 0x06 ∷ [])  -- request A6
    ∷ []

abbrev pub Holds : Line → Type 0
Holds (decodes bs answer) = decode_rows bs ≡ answer
Holds (encodes from to) = Right document01 (decode_rows from).inst (bytes to)

-- every line of a table holds
abbrev pub Hold : List Line → Type 0
Hold [] = Unit {0}
Hold (l ∷ ls) = Holds l × Hold ls
