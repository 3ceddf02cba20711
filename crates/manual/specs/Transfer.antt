-- Transfer instructions. In a comment n is the second byte's low nibble, a code of the operand table.
use Rattle.std.specs.Prelude.{ℕ, [], ◌∷◌}
use Rattle.record.specs.declared.Opcode.{Opcode}
use Rattle.record.specs.declared.Opcode.TheVariants.{LDE, MOV, MOVA, POP, PUSH, PUSHA, STE, XCHG}
use Rattle.record.specs.declared.Operand.TheVariants.{R0L, R0H, R1L, R1H, R0, R1, R2, R3, Disp8_SP, Disp20_A0, Deref_A1A0, Abs20}
use Rattle.manual.specs.Meaning.{Suffix, none, Entry}
use Rattle.manual.specs.Codes.{Choice, takes, reg, line, by_size, general, imm, nibble_table, address_table, address_dest, src_first, dest_first, only}

-- the operands of STE and LDE that reach the whole of memory
abbrev pub abs20 : Choice
abs20 = takes Abs20 3

abbrev pub dsp20 : Choice
dsp20 = takes Disp20_A0 3

abbrev pub a1a0 : Choice
a1a0 = reg Deref_A1A0

-- STE.size src,abs20: 74/75 0n; src,dsp:20[A0]: 74/75 1n; src,[A1A0]: 74/75 2n
abbrev pub ste : Choice → Suffix → ℕ → Entry
ste dest s n = src_first STE s (general s n) dest

-- LDE.size abs20,dest: 74/75 8n; dsp:20[A0],dest: 74/75 9n; [A1A0],dest: 74/75 An
abbrev pub lde : Choice → Suffix → ℕ → Entry
lde src s n = dest_first LDE s src (general s n)

-- MOV.size:G src,dsp:8[SP]: 74/75 3n
abbrev pub mov_to_stack : Suffix → ℕ → Entry
mov_to_stack s n = src_first MOV s (general s n) (takes Disp8_SP 1)

-- MOV.size:G dsp:8[SP],dest: 74/75 Bn
abbrev pub mov_from_stack : Suffix → ℕ → Entry
mov_from_stack s n = dest_first MOV s (takes Disp8_SP 1) (general s n)

-- MOV.size:G #IMM,dest: 74/75 Cn
abbrev pub mov_imm : Suffix → ℕ → Entry
mov_imm s n = dest_first MOV s (imm s) (general s n)

-- PUSH.size:G src: 74/75 4n
abbrev pub push : Suffix → ℕ → Entry
push s n = only PUSH s (general s n)

-- PUSH.size:G #IMM: 7C/7D E2
abbrev pub push_imm : Suffix → Entry
push_imm s = only PUSH s (imm s)

-- PUSHA src: 7D 9n
abbrev pub pusha : ℕ → Entry
pusha n = only PUSHA none (line address_table n)

-- POP.size:G dest: 74/75 Dn
abbrev pub pop : Suffix → ℕ → Entry
pop s n = only POP s (general s n)

-- XCHG.size src,dest: 7A/7B hn, h 0 to 3 a data register
abbrev pub xchg : Suffix → ℕ → ℕ → Entry
xchg s h n = src_first XCHG s (by_size (reg R0L ∷ reg R0H ∷ reg R1L ∷ reg R1H ∷ []) (reg R0 ∷ reg R1 ∷ reg R2 ∷ reg R3 ∷ []) s h) (general s n)

-- MOVDir src,R0L: 7C 0n MOVLL, 1n MOVHL, 2n MOVLH, 3n MOVHH
abbrev pub nibble_to_R0L : Opcode → ℕ → Entry
nibble_to_R0L o n = src_first o none (line nibble_table n) (reg R0L)

-- MOVDir R0L,dest: 7C 8n MOVLL, 9n MOVHL, An MOVLH, Bn MOVHH
abbrev pub nibble_from_R0L : Opcode → ℕ → Entry
nibble_from_R0L o n = src_first o none (reg R0L) (line nibble_table n)

-- MOVA src,dest: EB hn, h the destination
abbrev pub mova : ℕ → ℕ → Entry
mova n h = src_first MOVA none (line address_table n) (line address_dest h)
