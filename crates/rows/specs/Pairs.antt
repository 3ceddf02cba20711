-- Request A7: the rows of two operands, ten pairs of first bytes. h and n are the second byte's nibbles.
use Rattle.std.specs.Prelude.{ℕ, List, [], ◌∷◌}
use Rattle.record.specs.declared.Opcode.{Opcode}
use Rattle.record.specs.declared.Opcode.TheVariants.{MOV, TST, XOR, AND, OR, ADD, SUB, ADC, SBB, CMP}
use Rattle.record.specs.declared.Width.{Width}
use Rattle.rows.specs.Row.{Row}
use Rattle.rows.specs.Codes.{name_G, G}
use Rattle.rows.specs.Rows.{sized}

-- one row for all: from G(h) to G(n), the source's bytes first
unfoldable pub two : Opcode → Width → ℕ → ℕ → Row
two o w h n = sized o w (name_G w h) (name_G w n) (G h ∷ G n ∷ [])

-- an even first byte, whose width is B; the odd one behind it has W
pub record Pair : Type 0 where
  pub even : ℕ
  pub opcode : Opcode

abbrev pair : ℕ → Opcode → Pair
pair a o = record { even = a; opcode = o }

abbrev pub pairs : List Pair
pairs =
    pair 0x72 MOV ∷ pair 0x80 TST ∷ pair 0x88 XOR ∷ pair 0x90 AND ∷ pair 0x98 OR
    ∷ pair 0xA0 ADD ∷ pair 0xA8 SUB ∷ pair 0xB0 ADC ∷ pair 0xB8 SBB ∷ pair 0xC0 CMP
    ∷ []
