-- Arithmetic, logic and shift instructions. In a comment n is the second byte's low nibble, a code of the operand table.
use Rattle.std.specs.Prelude.{ℕ, ◌+◌, ◌-◌, [], ◌∷◌, ltb, eqb}
use Rattle.laws.specs.Choice.{pick}
use Rattle.record.specs.declared.Opcode.{Opcode}
use Rattle.record.specs.declared.Opcode.TheVariants.{ADD, EXTS, MUL}
use Rattle.record.specs.declared.Operand.{Operand}
use Rattle.record.specs.declared.Operand.TheVariants.{Imm4, Imm8, R0L, R0H, R1H, R0, R1, SP}
use Rattle.manual.specs.Meaning.{Suffix, B, W, L, plus, minus, within, Entry}
use Rattle.manual.specs.Codes.{Choice, stands, reg, line, no_address, byte_table, word_table, by_size, general, imm, mul_dest, shift_dest, exts_table, src_first, dest_first, only}

-- OP.size #IMM,dest: 76/77 0n TST, 1n XOR, 2n AND:G, 3n OR:G, 4n ADD:G, 5n SUB:G, 6n ADC, 7n SBB, 8n CMP:G
abbrev pub imm_to_dest : Opcode → Suffix → ℕ → Entry
imm_to_dest o s n = dest_first o s (imm s) (general s n)

-- OP.size operand: 74/75 5n NEG, 7n NOT:G; 76/77 9n DIVX, An ROLC, Bn RORC, Cn DIVU, Dn DIV, En ADCF, Fn ABS
abbrev pub unary : Opcode → Suffix → ℕ → Entry
unary o s n = only o s (general s n)

-- OP.size #IMM: 7C/7D E0 DIVU, E1 DIV, E3 DIVX
abbrev pub div_imm : Opcode → Suffix → Entry
div_imm o s = only o s (imm s)

-- src of MUL.size: at .B neither A0 nor A1 where dest is A0, code 4
abbrev pub mul_src : ℕ → Suffix → ℕ → Choice
mul_src n = by_size (pick (eqb n 4) no_address byte_table) word_table

-- MUL.size src,dest: 78/79 hn, h the source
abbrev pub mul : Suffix → ℕ → ℕ → Entry
mul s h n = src_first MUL s (mul_src n s h) (mul_dest s n)

-- OP.size #IMM,dest: 7C/7D 4n MULU, 5n MUL
abbrev pub mul_imm : Opcode → Suffix → ℕ → Entry
mul_imm o s n = dest_first o s (imm s) (mul_dest s n)

-- the accumulator of decimal arithmetic: R0L at .B, R0 at .W
abbrev pub accumulator : Suffix → Choice
accumulator s = by_size (reg R0L ∷ []) (reg R0 ∷ []) s 0

-- OP.B R0H,R0L and OP.W R1,R0: 7C/7D E4 DADD, E5 DSUB, E6 DADC, E7 DSBB
abbrev pub decimal : Opcode → Suffix → Entry
decimal o s = src_first o s (by_size (reg R0H ∷ []) (reg R1 ∷ []) s 0) (accumulator s)

-- OP.B #IMM8,R0L and OP.W #IMM16,R0: 7C/7D EC DADD, ED DSUB, EE DADC, EF DSBB
abbrev pub decimal_imm : Opcode → Suffix → Entry
decimal_imm o s = src_first o s (imm s) (accumulator s)

-- ADD.size:G #IMM,SP: 7C/7D EB
abbrev pub add_stack : Suffix → Entry
add_stack s = src_first ADD s (imm s) (reg SP)

-- ADD.size:Q #IMM,SP: 7D Bn, n the number in four bits with its sign: 0 to 7, then -8 to -1; .B and .W share the code, and .W stands for both
abbrev pub add_stack_quick : ℕ → Entry
add_stack_quick n = src_first ADD W (stands (within Imm8 (pick (ltb n 8) (plus n) (minus (16 - n))))) (reg SP)

-- EXTS.B dest: 7C 6n
abbrev pub exts_byte : ℕ → Entry
exts_byte n = only EXTS B (line exts_table n)

-- EXTS.W R0: 7C F3
abbrev pub exts_word : Entry
exts_word = only EXTS W (reg R0)

-- OP.size R1H,dest: 74/75 6n ROT, En SHL, Fn SHA
abbrev pub shift : Opcode → Suffix → ℕ → Entry
shift o s n = src_first o s (reg R1H) (shift_dest s n)

-- OP.L R1H,dest: EB 01 SHL R2R0, 11 SHL R3R1, 21 SHA R2R0, 31 SHA R3R1
abbrev pub shift_long : Opcode → Operand → Entry
shift_long o pair = src_first o L (reg R1H) (reg pair)

-- OP.L #IMM,dest: EB 8n SHL R2R0, 9n SHL R3R1, An SHA R2R0, Bn SHA R3R1; the number is 1 to 8, then -1 to -8
abbrev pub shift_long_imm : Opcode → Operand → ℕ → Entry
shift_long_imm o pair n = src_first o L (stands (within Imm4 (pick (ltb n 8) (plus (n + 1)) (minus (n - 7))))) (reg pair)
