-- Demand 2, the manual's part: when a decoded record is the instruction that the manual gives to its code, with the manual's numbers.
use Rattle.std.specs.Prelude.{ℕ, ◌-◌, ◌+◌, ◌%◌, Bool, true, false, List, ◌≡◌, T, eqb, ltb, get_or}
use Rattle.record.specs.declared.Opcode.TheVariants.{NOP, STC}
use Rattle.record.specs.declared.Record.{Record}
use Rattle.record.specs.declared.Size.{Size}
use Rattle.record.specs.declared.Size.TheVariants as size
use Rattle.record.specs.declared.Width.{Width}
use Rattle.record.specs.declared.Width.TheVariants as width
use Rattle.record.specs.declared.Operand.{Operand}
use Rattle.record.specs.declared.Operand.TheVariants.{Nothing, Imm4}
use Rattle.laws.specs.Choice.{pick, both, either}
use Rattle.record.specs.Numbers.{opcode_no, width_no}
use Rattle.record.specs.Same.{same_name, key}
use Rattle.manual.specs.Bits.{Condition, named, condition_at}
use Rattle.manual.specs.Meaning.{Suffix, none, B, W, L, A, Number, plus, minus, Spot, nothing, plain, behind, within, carry, counter, flag, Meaning}
use Rattle.manual.specs.Packed.{suffix_no}
use Rattle.rows.specs.Run.{bytes}

-- the number in so many bytes of the instruction, low byte first; addresses of three bytes have 20 bits
abbrev pub number_at : List ℕ → ℕ → ℕ → ℕ
number_at bs p n = pick (eqb n 3) (bytes bs p n % 0x100000) (bytes bs p n)

-- a number that is part of the code. Imm4 of a shift keeps the raw code: 0 to 7 are 1 to 8, 8 to F are -1 to -8
abbrev pub shift_count : ℕ → Number
shift_count v = pick (ltb v 8) (plus (v + 1)) (minus (v - 7))

-- another number is signed in 32 bits (request A9, whose ADD #-8,SP is FFFFFFF8; before it such numbers were all taken as unsigned)
abbrev pub signed32 : ℕ → Number
signed32 v = pick (ltb v 0x80000000) (plus v) (minus (0x100000000 - v))

abbrev pub in_code : Operand → ℕ → Number
in_code a v = pick (same_name a Imm4) (shift_count v) (signed32 v)

-- an operand of the record and its number are the manual's; no operand of a record is C or PC. A flag is Imm4 with the flag's number (request A9; before it no operand was one)
abbrev pub Shows : List ℕ → Spot → Operand → ℕ → Type 0
Shows bs nothing o v = o ≡ Nothing
Shows bs (plain a) o v = o ≡ a
Shows bs (behind a p n) o v = (o ≡ a) × (v ≡ number_at bs p n)
Shows bs (within a k) o v = (o ≡ a) × (in_code a v ≡ k)
Shows bs carry o v = ⊥
Shows bs counter o v = ⊥
Shows bs (flag k) o v = (o ≡ Imm4) × (v ≡ k)

-- the record has no operand for C
abbrev pub held : Spot → Spot
held nothing = nothing
held (plain a) = plain a
held (behind a p n) = behind a p n
held (within a k) = within a k
held carry = nothing
held counter = counter
held (flag k) = flag k

-- a meaning as the record can hold it: without C, and with STC's operands the other way round
abbrev pub turned : Meaning → Bool
turned m = eqb (opcode_no m.mnemonic) (opcode_no STC)

unfoldable pub recorded : Meaning → Meaning
recorded m = record {
  mnemonic = m.mnemonic;
  suffix = m.suffix;
  op0 = held (pick (turned m) m.op1 m.op0);
  op1 = held (pick (turned m) m.op0 m.op1);
  length = m.length;
}

-- the mnemonic; where NOP holds the place of BMcnd's, the instruction's last byte names it
abbrev pub conditional : Meaning → Bool
conditional m = eqb (opcode_no m.mnemonic) (opcode_no NOP)

abbrev pub mnemonic_in : List ℕ → Meaning → Condition
mnemonic_in bs m = pick (conditional m) (condition_at (get_or bs (m.length - 1) 0)) (named m.mnemonic)

-- the size that the opcode carries is the manual's; where it carries none, a B or W of the manual is the width
abbrev pub suffix_fits : Size → Width → Suffix → Bool
suffix_fits size.B w x = eqb (suffix_no x) (suffix_no B)
suffix_fits size.W w x = eqb (suffix_no x) (suffix_no W)
suffix_fits size.L w x = eqb (suffix_no x) (suffix_no L)
suffix_fits size.None w none = true
suffix_fits size.None w B = eqb (width_no w) (width_no width.B)
suffix_fits size.None w W = eqb (width_no w) (width_no width.W)
suffix_fits size.None w L = false
suffix_fits size.None w A = true

-- EXTS.W R0: the manual writes W, the opcode carries no size, and the width of first byte 7C is B
abbrev pub other_width : ℕ → ℕ → Bool
other_width a b = both (eqb a 0x7C) (eqb b 0xF3)

abbrev pub size_fits : ℕ → ℕ → Size → Width → Suffix → Bool
size_fits a b z w x = either (suffix_fits z w x) (other_width a b)

-- what was decoded from bytes, of which a and b are the first two, is the manual's instruction
pub record AsManual (a b : ℕ) (bs : List ℕ) (m : Meaning) (r : Record) : Type 0 where
  pub mnemonic : mnemonic_in bs m ≡ named r.opcode
  pub size : T (size_fits a b r.size r.width m.suffix)
  pub op0 : Shows bs (recorded m).op0 r.op0 (key r).number0
  pub op1 : Shows bs (recorded m).op1 r.op1 (key r).number1
  pub op2 : r.op2 ≡ Nothing
  pub length : r.length ≡ m.length
