-- The names that the listing prints, spelled, each at its number. Nothing prints none.
-- Made by scripts/tables/make-names from the enums of crates/record/src/lib.rt.
use Rattle.std.specs.Prelude.{ℕ, List, [], ◌∷◌, get_or}
use Prim.Native.String.{String}
use Rattle.record.specs.declared.Opcode.{Opcode}
use Rattle.record.specs.declared.Operand.{Operand}
use Rattle.record.specs.Numbers.{opcode_no, operand_no}
use Rattle.laws.specs.Text.{spelled}

unfoldable pub opcode_names : List String
opcode_names = "NOP" ∷ "ABS" ∷ "ADC" ∷ "ADCF" ∷ "ADD" ∷ "AND" ∷ "BAND" ∷ "BCLR" ∷ "BMEQ" ∷ "BMGEU" ∷ "BMGT" ∷ "BMGTU" ∷ "BMLE" ∷ "BMLEU" ∷ "BMLTU" ∷ "BMLT" ∷ "BMNO" ∷ "BMGE" ∷ "BMN" ∷ "BMNE" ∷ "BMO" ∷ "BMPZ" ∷ "BNAND" ∷ "BNOR" ∷ "BNOT" ∷ "BNTST" ∷ "BNXOR" ∷ "BOR" ∷ "BSET" ∷ "BTST" ∷ "BTSTC" ∷ "BTSTS" ∷ "BXOR" ∷ "CMP" ∷ "DADC" ∷ "DADD" ∷ "DIV" ∷ "DIVU" ∷ "DIVX" ∷ "DSBB" ∷ "DSUB" ∷ "ENTER" ∷ "EXITD" ∷ "EXTS" ∷ "FCLR" ∷ "FSET" ∷ "GE" ∷ "INT" ∷ "JGE" ∷ "JGT" ∷ "JLE" ∷ "JLT" ∷ "JMPI" ∷ "JNO" ∷ "JO" ∷ "JSRI" ∷ "LDC" ∷ "LDCTX" ∷ "LDE" ∷ "LDIPL" ∷ "LT" ∷ "MOV" ∷ "MOVA" ∷ "MOVHH" ∷ "MOVHL" ∷ "MOVLH" ∷ "MOVLL" ∷ "MUL" ∷ "MULU" ∷ "NEG" ∷ "NO" ∷ "NOT" ∷ "OR" ∷ "POP" ∷ "POPC" ∷ "POPM" ∷ "PUSH" ∷ "PUSHA" ∷ "PUSHC" ∷ "PUSHM" ∷ "RMPA" ∷ "ROLC" ∷ "RORC" ∷ "ROT" ∷ "SBB" ∷ "SHA" ∷ "SHL" ∷ "SMOVB" ∷ "SMOVF" ∷ "SSTR" ∷ "STC" ∷ "STCTX" ∷ "STE" ∷ "SUB" ∷ "TST" ∷ "WAIT" ∷ "XCHG" ∷ "XOR" ∷ []

unfoldable pub operand_names : List String
operand_names = "" ∷ "Imm4" ∷ "Imm8" ∷ "Imm16" ∷ "R0L" ∷ "R0H" ∷ "R1L" ∷ "R1H" ∷ "R0" ∷ "R1" ∷ "R2" ∷ "R3" ∷ "R2R0" ∷ "R3R1" ∷ "A0" ∷ "A1" ∷ "A1A0" ∷ "Bit_R0" ∷ "Bit_R1" ∷ "Bit_R2" ∷ "Bit_R3" ∷ "Bit_A0" ∷ "Bit_A1" ∷ "Bit_Deref_A0" ∷ "Bit_Deref_A1" ∷ "Bit_Disp8_A0" ∷ "Bit_Disp8_A1" ∷ "Bit_Disp8_SB" ∷ "Bit_Disp8_FB" ∷ "Bit_Disp16_A0" ∷ "Bit_Disp16_A1" ∷ "Bit_Disp16_SB" ∷ "Bit_Abs16" ∷ "Disp8_A0" ∷ "Disp8_A1" ∷ "Disp8_SB" ∷ "Disp8_FB" ∷ "Disp8_SP" ∷ "Disp16_A0" ∷ "Disp16_A1" ∷ "Disp16_SB" ∷ "Disp20_A0" ∷ "Disp20_A1" ∷ "Deref_A0" ∷ "Deref_A1" ∷ "Deref_A1A0" ∷ "Abs16" ∷ "Abs20" ∷ "Disp8" ∷ "RegList" ∷ "INTBL" ∷ "INTBH" ∷ "FLG" ∷ "ISP" ∷ "SP" ∷ "SB" ∷ "FB" ∷ []

unfoldable pub opcode_name : Opcode → List ℕ
unfolding opcode_names
opcode_name x = spelled (get_or opcode_names (opcode_no x) "")

unfoldable pub operand_name : Operand → List ℕ
unfolding operand_names
operand_name x = spelled (get_or operand_names (operand_no x) "")
