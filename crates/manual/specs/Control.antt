-- Control registers, flags, contexts, strings and the rest. In a comment n is the second byte's low nibble, a code of the operand table.
use Rattle.std.specs.Prelude.{ℕ, List, [], ◌∷◌, ltb}
use Rattle.laws.specs.Choice.{pick}
use Rattle.record.specs.declared.Opcode.{Opcode}
use Rattle.record.specs.declared.Opcode.TheVariants.{ENTER, EXITD, INT, LDC, LDIPL, STC, WAIT}
use Rattle.record.specs.declared.Operand.TheVariants.{Imm8, Imm16, Abs16, Abs20}
use Rattle.manual.specs.Meaning.{Suffix, none, W, plus, within, counter, flag, Entry}
use Rattle.manual.specs.Codes.{Choice, stands, takes, barred, line, general, counter_table, control_table, src_first, only, alone}

-- LDC src,dest: 7A hn, h 9 to F the control registers 1 to 7
abbrev pub ldc : ℕ → ℕ → Entry
ldc k n = src_first LDC none (general W n) (line control_table k)

-- LDC #IMM16,dest: EB k0, k the control register
abbrev pub ldc_imm : ℕ → Entry
ldc_imm k = src_first LDC none (takes Imm16 2) (line control_table k)

-- STC src,dest: 7B hn, h 9 to F the control registers 1 to 7
abbrev pub stc : ℕ → ℕ → Entry
stc k n = src_first STC none (line control_table k) (general W n)

-- STC PC,dest: 7C Cn
abbrev pub stc_counter : ℕ → Entry
stc_counter n = src_first STC none (stands counter) (line counter_table n)

-- OP register: EB k2 PUSHC, EB k3 POPC, k the control register
abbrev pub control : Opcode → ℕ → Entry
control o k = only o none (line control_table k)

-- the flags C, D, Z, S, B, O, I, U
abbrev pub flags : List Choice
flags = stands (flag 0) ∷ stands (flag 1) ∷ stands (flag 2) ∷ stands (flag 3) ∷ stands (flag 4) ∷ stands (flag 5) ∷ stands (flag 6) ∷ stands (flag 7) ∷ []

-- OP flag: EB k4 FSET, EB k5 FCLR, k the flag
abbrev pub flag_op : Opcode → ℕ → Entry
flag_op o k = only o none (line flags k)

-- LDIPL #IMM: 7D An, n 0 to 7 the number
abbrev pub ldipl : ℕ → Entry
ldipl n = only LDIPL none (pick (ltb n 8) (stands (within Imm8 (plus n))) barred)

-- INT #IMM: EB C0 to FF, the number 0 to 63
abbrev pub int : ℕ → Entry
int k = only INT none (stands (within Imm8 (plus k)))

-- OP abs16,abs20: 7C F0 LDCTX, 7D F0 STCTX
abbrev pub context : Opcode → Entry
context o = src_first o none (takes Abs16 2) (takes Abs20 3)

-- OP.size: 7C/7D E8 SMOVF, E9 SMOVB, EA SSTR, F1 RMPA
abbrev pub string : Opcode → Suffix → Entry
string o s = alone o s

-- ENTER #IMM8: 7C F2
abbrev pub enter : Entry
enter = only ENTER none (takes Imm8 1)

-- EXITD: 7D F2
abbrev pub exitd : Entry
exitd = alone EXITD none

-- WAIT: 7D F3
abbrev pub wait : Entry
wait = alone WAIT none
