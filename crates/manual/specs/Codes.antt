-- The manual's operand code tables, and how an instruction is put together from its operands.
-- A table goes by the code, from 0 on. What an instruction cannot select is barred in its own table.
use Rattle.std.specs.Prelude.{ℕ, ◌+◌, List, [], ◌∷◌, get_or}
use Rattle.record.specs.declared.Opcode.{Opcode}
use Rattle.record.specs.declared.Operand.{Operand}
use Rattle.record.specs.declared.Operand.TheVariants.{Imm8, Imm16, R0L, R0H, R1L, R1H, R0, R1, R2, R3, R2R0, R3R1, A0, A1, A1A0, Bit_R0, Bit_R1, Bit_R2}
use Rattle.record.specs.declared.Operand.TheVariants.{Bit_R3, Bit_A0, Bit_A1, Bit_Deref_A0, Bit_Deref_A1, Bit_Disp8_A0, Bit_Disp8_A1, Bit_Disp8_SB}
use Rattle.record.specs.declared.Operand.TheVariants.{Bit_Disp8_FB, Bit_Disp16_A0, Bit_Disp16_A1, Bit_Disp16_SB, Bit_Abs16, Disp8_A0, Disp8_A1}
use Rattle.record.specs.declared.Operand.TheVariants.{Disp8_SB, Disp8_FB, Disp16_A0, Disp16_A1, Disp16_SB, Disp20_A0, Disp20_A1, Deref_A0, Deref_A1}
use Rattle.record.specs.declared.Operand.TheVariants.{Abs16, INTBL, INTBH, FLG, ISP, SP, SB, FB}
use Rattle.manual.specs.Meaning.{Suffix, none, B, W, L, A, Spot, nothing, plain, behind, Entry, meaning, empty}

-- what a code selects for one operand of the syntax
pub data Choice : Type 0 where
  stands : Spot → Choice  -- an operand without a number behind the code
  takes : Operand → ℕ → Choice  -- an operand whose number stands behind the code, in so many bytes
  barred : Choice  -- no operand, so that the code has no meaning

abbrev pub reg : Operand → Choice
reg r = stands (plain r)

-- the line of a table; a code past its end selects nothing
abbrev pub line : List Choice → ℕ → Choice
line t n = get_or t n barred

-- dsp:8[A0], dsp:8[A1], dsp:8[SB], dsp:8[FB], dsp:16[A0], dsp:16[A1], dsp:16[SB], abs16: codes 8 to F
abbrev pub displaced : List Choice
displaced =
    takes Disp8_A0 1 ∷ takes Disp8_A1 1 ∷ takes Disp8_SB 1 ∷ takes Disp8_FB 1 ∷
    takes Disp16_A0 2 ∷ takes Disp16_A1 2 ∷ takes Disp16_SB 2 ∷ takes Abs16 2 ∷ []

-- codes 6 to F: [A0], [A1] and the eight above
abbrev pub memory : List Choice
memory = reg Deref_A0 ∷ reg Deref_A1 ∷ displaced

-- src and dest of .B and of .W: codes 0 to 5 are registers
abbrev pub byte_table : List Choice
byte_table = reg R0L ∷ reg R0H ∷ reg R1L ∷ reg R1H ∷ reg A0 ∷ reg A1 ∷ memory

abbrev pub word_table : List Choice
word_table = reg R0 ∷ reg R1 ∷ reg R2 ∷ reg R3 ∷ reg A0 ∷ reg A1 ∷ memory

-- a table that goes by .size, which is .B or .W
abbrev pub by_size : List Choice → List Choice → Suffix → ℕ → Choice
by_size b w B n = line b n
by_size b w W n = line w n
by_size b w none n = barred
by_size b w L n = barred
by_size b w A n = barred

abbrev pub general : Suffix → ℕ → Choice
general = by_size byte_table word_table

-- #IMM8 of .B, #IMM16 of .W
abbrev pub imm : Suffix → Choice
imm s = by_size (takes Imm8 1 ∷ []) (takes Imm16 2 ∷ []) s 0

-- src where A0 and A1 cannot be selected at .B (no witness checks this)
abbrev pub no_address : List Choice
no_address = reg R0L ∷ reg R0H ∷ reg R1L ∷ reg R1H ∷ barred ∷ barred ∷ memory

-- dest of MUL and MULU: at .B not R0H, R1H, A1; at .W not R2, R3, A1 (no witness checks these)
abbrev pub mul_dest : Suffix → ℕ → Choice
mul_dest =
    by_size (reg R0L ∷ barred ∷ reg R1L ∷ barred ∷ reg A0 ∷ barred ∷ memory)
    (reg R0 ∷ reg R1 ∷ barred ∷ barred ∷ reg A0 ∷ barred ∷ memory)

-- dest of a shift by R1H: not R1H itself at .B, nor R1, which holds it, at .W (no witness checks these)
abbrev pub shift_dest : Suffix → ℕ → Choice
shift_dest =
    by_size (reg R0L ∷ reg R0H ∷ reg R1L ∷ barred ∷ reg A0 ∷ reg A1 ∷ memory)
    (reg R0 ∷ barred ∷ reg R2 ∷ reg R3 ∷ reg A0 ∷ reg A1 ∷ memory)

-- the operand of MOVDir beside R0L: not A0, A1, and not R0L again (that one by the simulator alone)
abbrev pub nibble_table : List Choice
nibble_table = barred ∷ reg R0H ∷ reg R1L ∷ reg R1H ∷ barred ∷ barred ∷ memory

-- dest of EXTS.B: R0L and R1L, which have a high byte to extend into, and memory
abbrev pub exts_table : List Choice
exts_table = reg R0L ∷ barred ∷ reg R1L ∷ barred ∷ barred ∷ barred ∷ memory

-- dest of STC PC: what holds 20 bits. Neither witness names the register pairs; they are those of the 20-bit jumps
abbrev pub counter_table : List Choice
counter_table = reg R2R0 ∷ reg R3R1 ∷ barred ∷ barred ∷ reg A1A0 ∷ barred ∷ memory

-- src of JMPI and JSRI: codes C and D have 20 bits where other instructions have 16
abbrev pub jump_memory : List Choice
jump_memory =
    reg Deref_A0 ∷ reg Deref_A1 ∷
    takes Disp8_A0 1 ∷ takes Disp8_A1 1 ∷ takes Disp8_SB 1 ∷ takes Disp8_FB 1 ∷
    takes Disp20_A0 3 ∷ takes Disp20_A1 3 ∷ takes Disp16_SB 2 ∷ takes Abs16 2 ∷ []

abbrev pub jump_word : List Choice
jump_word = reg R0 ∷ reg R1 ∷ reg R2 ∷ reg R3 ∷ reg A0 ∷ reg A1 ∷ jump_memory

abbrev pub jump_long : List Choice
jump_long = reg R2R0 ∷ reg R3R1 ∷ barred ∷ barred ∷ reg A1A0 ∷ barred ∷ jump_memory

-- src of MOVA and PUSHA: an address that is computed, so no register, and not [A0] or [A1]
abbrev pub address_table : List Choice
address_table = barred ∷ barred ∷ barred ∷ barred ∷ barred ∷ barred ∷ barred ∷ barred ∷ displaced

-- dest of MOVA
abbrev pub address_dest : List Choice
address_dest = reg R0 ∷ reg R1 ∷ reg R2 ∷ reg R3 ∷ reg A0 ∷ reg A1 ∷ []

-- a bit: bit,Rn and bit,An have the bit's number behind the code, [An] nothing, the others base and bit in one number
abbrev pub bit_table : List Choice
bit_table =
    takes Bit_R0 1 ∷ takes Bit_R1 1 ∷ takes Bit_R2 1 ∷ takes Bit_R3 1 ∷ takes Bit_A0 1 ∷ takes Bit_A1 1 ∷
    reg Bit_Deref_A0 ∷ reg Bit_Deref_A1 ∷
    takes Bit_Disp8_A0 1 ∷ takes Bit_Disp8_A1 1 ∷ takes Bit_Disp8_SB 1 ∷ takes Bit_Disp8_FB 1 ∷
    takes Bit_Disp16_A0 2 ∷ takes Bit_Disp16_A1 2 ∷ takes Bit_Disp16_SB 2 ∷ takes Bit_Abs16 2 ∷ []

-- control registers: 0 is none
abbrev pub control_table : List Choice
control_table = barred ∷ reg INTBL ∷ reg INTBH ∷ reg FLG ∷ reg ISP ∷ reg SP ∷ reg SB ∷ reg FB ∷ []

-- an operand, with its number at a byte of the instruction
abbrev pub spot : Choice → ℕ → Spot
spot (stands s) at = s
spot (takes o k) at = behind o at k
spot barred at = nothing

abbrev pub bytes : Choice → ℕ
bytes (stands s) = 0
bytes (takes o k) = k
bytes barred = 0

-- a code whose operand cannot be selected is left empty
abbrev pub given : Choice → Entry → Entry
given (stands s) e = e
given (takes o k) e = e
given barred e = empty

-- src,dest: behind the two bytes of the code src's number, then dest's
abbrev pub src_first : Opcode → Suffix → Choice → Choice → Entry
src_first o s src dest =
    given src
    (given dest
    (meaning
    (record {
      mnemonic = o;
      suffix = s;
      op0 = spot src 2;
      op1 = spot dest (2 + bytes src);
      length = 2 + bytes src + bytes dest;
    })))

-- src,dest: behind the code dest's number, then src's; so stand immediates and what else the code does not select
abbrev pub dest_first : Opcode → Suffix → Choice → Choice → Entry
dest_first o s src dest =
    given src
    (given dest
    (meaning
    (record {
      mnemonic = o;
      suffix = s;
      op0 = spot src (2 + bytes dest);
      op1 = spot dest 2;
      length = 2 + bytes src + bytes dest;
    })))

abbrev pub absent : Choice
absent = stands nothing

-- one operand
abbrev pub only : Opcode → Suffix → Choice → Entry
only o s operand = src_first o s operand absent

-- no operand
abbrev pub alone : Opcode → Suffix → Entry
alone o s = src_first o s absent absent

-- a row of codes that are all empty
abbrev pub blank : ℕ → Entry
blank n = empty
