-- Bit instructions, 7E, and the conditional ones. In a comment n is the second byte's low nibble, a code of the bit table.
use Rattle.std.specs.Prelude.{ℕ, ◌+◌, ◌-◌, [], ◌∷◌, ltb, get_or}
use Rattle.laws.specs.Choice.{pick}
use Rattle.record.specs.declared.Opcode.{Opcode}
use Rattle.record.specs.declared.Opcode.TheVariants.{NOP, BMEQ, BMGEU, BMGT, BMGTU, BMLE, BMLEU, BMLTU, BMLT, BMNO, BMGE, BMN, BMNE, BMO, BMPZ}
use Rattle.manual.specs.Meaning.{none, carry, Entry, meaning, empty}
use Rattle.manual.specs.Codes.{stands, line, bit_table, only}

-- OP operand: 7E 0n BTSTC, 1n BTSTS, 3n BNTST, 4n BAND, 5n BNAND, 6n BOR, 7n BNOR, 8n BCLR:G, 9n BSET:G, An BNOT:G, Bn BTST:G, Cn BXOR, Dn BNXOR
abbrev pub bit : Opcode → ℕ → Entry
bit o n = only o none (line bit_table n)

-- one byte more behind all else
abbrev pub and_byte : Entry → Entry
and_byte (meaning m) = meaning (record { mnemonic = m.mnemonic; suffix = m.suffix; op0 = m.op0; op1 = m.op1; length = m.length + 1 })
and_byte empty = empty

-- BMcnd dest: 7E 2n. The instruction's last byte is the condition and names the mnemonic (condition_at): NOP holds its place here.
abbrev pub bmcnd : ℕ → Entry
bmcnd n = and_byte (bit NOP n)

-- a condition byte names an instruction or is left empty
pub data Condition : Type 0 where
  named : Opcode → Condition
  unnamed : Condition

-- the condition byte of BMcnd dest: 00 to 06, and F8 to FE
unfoldable pub condition_at : ℕ → Condition
condition_at c =
    pick (ltb c 0xF8) (get_or (named BMGEU ∷ named BMGTU ∷ named BMEQ ∷ named BMN ∷ named BMLE ∷ named BMO ∷ named BMGE ∷ []) c unnamed)
    (get_or (named BMLTU ∷ named BMLEU ∷ named BMNE ∷ named BMPZ ∷ named BMGT ∷ named BMNO ∷ named BMLT ∷ []) (c - 0xF8) unnamed)

-- BMcnd C: 7D Dn, n the condition; B and F are none
abbrev pub bmcnd_carry : ℕ → Entry
bmcnd_carry n = entry_of (get_or (named BMGEU ∷ named BMGTU ∷ named BMEQ ∷ named BMN ∷ named BMLTU ∷ named BMLEU ∷ named BMNE ∷ named BMPZ ∷ named BMLE
    ∷ named BMO ∷ named BMGE ∷ unnamed ∷ named BMGT ∷ named BMNO ∷ named BMLT ∷ []) n unnamed)
  where
    entry_of : Condition → Entry
    entry_of (named o) = only o none (stands carry)
    entry_of unnamed = empty
