-- `line::names::opcode_word` meets its contract: an arm is told its name, and its numbers pack the name's characters.
-- Made by scripts/tables/make-names from the enums of crates/record/src/lib.rt.
-- Assumes nothing.
use Rattle.line.specs.Names.{opcode_names, opcode_name}
use Rattle.line.proofs.names.opcode_word.Goals as goal

pub returns-in-NOP : goal.returns-in-NOP
unfolding opcode_names opcode_name
returns-in-NOP c = rw c.in-NOP.is

pub returns-in-ABS : goal.returns-in-ABS
unfolding opcode_names opcode_name
returns-in-ABS c = rw c.in-ABS.is

pub returns-in-ADC : goal.returns-in-ADC
unfolding opcode_names opcode_name
returns-in-ADC c = rw c.in-ADC.is

pub returns-in-ADCF : goal.returns-in-ADCF
unfolding opcode_names opcode_name
returns-in-ADCF c = rw c.in-ADCF.is

pub returns-in-ADD : goal.returns-in-ADD
unfolding opcode_names opcode_name
returns-in-ADD c = rw c.in-ADD.is

pub returns-in-AND : goal.returns-in-AND
unfolding opcode_names opcode_name
returns-in-AND c = rw c.in-AND.is

pub returns-in-BAND : goal.returns-in-BAND
unfolding opcode_names opcode_name
returns-in-BAND c = rw c.in-BAND.is

pub returns-in-BCLR : goal.returns-in-BCLR
unfolding opcode_names opcode_name
returns-in-BCLR c = rw c.in-BCLR.is

pub returns-in-BMEQ : goal.returns-in-BMEQ
unfolding opcode_names opcode_name
returns-in-BMEQ c = rw c.in-BMEQ.is

pub returns-in-BMGEU : goal.returns-in-BMGEU
unfolding opcode_names opcode_name
returns-in-BMGEU c = rw c.in-BMGEU.is

pub returns-in-BMGT : goal.returns-in-BMGT
unfolding opcode_names opcode_name
returns-in-BMGT c = rw c.in-BMGT.is

pub returns-in-BMGTU : goal.returns-in-BMGTU
unfolding opcode_names opcode_name
returns-in-BMGTU c = rw c.in-BMGTU.is

pub returns-in-BMLE : goal.returns-in-BMLE
unfolding opcode_names opcode_name
returns-in-BMLE c = rw c.in-BMLE.is

pub returns-in-BMLEU : goal.returns-in-BMLEU
unfolding opcode_names opcode_name
returns-in-BMLEU c = rw c.in-BMLEU.is

pub returns-in-BMLTU : goal.returns-in-BMLTU
unfolding opcode_names opcode_name
returns-in-BMLTU c = rw c.in-BMLTU.is

pub returns-in-BMLT : goal.returns-in-BMLT
unfolding opcode_names opcode_name
returns-in-BMLT c = rw c.in-BMLT.is

pub returns-in-BMNO : goal.returns-in-BMNO
unfolding opcode_names opcode_name
returns-in-BMNO c = rw c.in-BMNO.is

pub returns-in-BMGE : goal.returns-in-BMGE
unfolding opcode_names opcode_name
returns-in-BMGE c = rw c.in-BMGE.is

pub returns-in-BMN : goal.returns-in-BMN
unfolding opcode_names opcode_name
returns-in-BMN c = rw c.in-BMN.is

pub returns-in-BMNE : goal.returns-in-BMNE
unfolding opcode_names opcode_name
returns-in-BMNE c = rw c.in-BMNE.is

pub returns-in-BMO : goal.returns-in-BMO
unfolding opcode_names opcode_name
returns-in-BMO c = rw c.in-BMO.is

pub returns-in-BMPZ : goal.returns-in-BMPZ
unfolding opcode_names opcode_name
returns-in-BMPZ c = rw c.in-BMPZ.is

pub returns-in-BNAND : goal.returns-in-BNAND
unfolding opcode_names opcode_name
returns-in-BNAND c = rw c.in-BNAND.is

pub returns-in-BNOR : goal.returns-in-BNOR
unfolding opcode_names opcode_name
returns-in-BNOR c = rw c.in-BNOR.is

pub returns-in-BNOT : goal.returns-in-BNOT
unfolding opcode_names opcode_name
returns-in-BNOT c = rw c.in-BNOT.is

pub returns-in-BNTST : goal.returns-in-BNTST
unfolding opcode_names opcode_name
returns-in-BNTST c = rw c.in-BNTST.is

pub returns-in-BNXOR : goal.returns-in-BNXOR
unfolding opcode_names opcode_name
returns-in-BNXOR c = rw c.in-BNXOR.is

pub returns-in-BOR : goal.returns-in-BOR
unfolding opcode_names opcode_name
returns-in-BOR c = rw c.in-BOR.is

pub returns-in-BSET : goal.returns-in-BSET
unfolding opcode_names opcode_name
returns-in-BSET c = rw c.in-BSET.is

pub returns-in-BTST : goal.returns-in-BTST
unfolding opcode_names opcode_name
returns-in-BTST c = rw c.in-BTST.is

pub returns-in-BTSTC : goal.returns-in-BTSTC
unfolding opcode_names opcode_name
returns-in-BTSTC c = rw c.in-BTSTC.is

pub returns-in-BTSTS : goal.returns-in-BTSTS
unfolding opcode_names opcode_name
returns-in-BTSTS c = rw c.in-BTSTS.is

pub returns-in-BXOR : goal.returns-in-BXOR
unfolding opcode_names opcode_name
returns-in-BXOR c = rw c.in-BXOR.is

pub returns-in-CMP : goal.returns-in-CMP
unfolding opcode_names opcode_name
returns-in-CMP c = rw c.in-CMP.is

pub returns-in-DADC : goal.returns-in-DADC
unfolding opcode_names opcode_name
returns-in-DADC c = rw c.in-DADC.is

pub returns-in-DADD : goal.returns-in-DADD
unfolding opcode_names opcode_name
returns-in-DADD c = rw c.in-DADD.is

pub returns-in-DIV : goal.returns-in-DIV
unfolding opcode_names opcode_name
returns-in-DIV c = rw c.in-DIV.is

pub returns-in-DIVU : goal.returns-in-DIVU
unfolding opcode_names opcode_name
returns-in-DIVU c = rw c.in-DIVU.is

pub returns-in-DIVX : goal.returns-in-DIVX
unfolding opcode_names opcode_name
returns-in-DIVX c = rw c.in-DIVX.is

pub returns-in-DSBB : goal.returns-in-DSBB
unfolding opcode_names opcode_name
returns-in-DSBB c = rw c.in-DSBB.is

pub returns-in-DSUB : goal.returns-in-DSUB
unfolding opcode_names opcode_name
returns-in-DSUB c = rw c.in-DSUB.is

pub returns-in-ENTER : goal.returns-in-ENTER
unfolding opcode_names opcode_name
returns-in-ENTER c = rw c.in-ENTER.is

pub returns-in-EXITD : goal.returns-in-EXITD
unfolding opcode_names opcode_name
returns-in-EXITD c = rw c.in-EXITD.is

pub returns-in-EXTS : goal.returns-in-EXTS
unfolding opcode_names opcode_name
returns-in-EXTS c = rw c.in-EXTS.is

pub returns-in-FCLR : goal.returns-in-FCLR
unfolding opcode_names opcode_name
returns-in-FCLR c = rw c.in-FCLR.is

pub returns-in-FSET : goal.returns-in-FSET
unfolding opcode_names opcode_name
returns-in-FSET c = rw c.in-FSET.is

pub returns-in-GE : goal.returns-in-GE
unfolding opcode_names opcode_name
returns-in-GE c = rw c.in-GE.is

pub returns-in-INT : goal.returns-in-INT
unfolding opcode_names opcode_name
returns-in-INT c = rw c.in-INT.is

pub returns-in-JGE : goal.returns-in-JGE
unfolding opcode_names opcode_name
returns-in-JGE c = rw c.in-JGE.is

pub returns-in-JGT : goal.returns-in-JGT
unfolding opcode_names opcode_name
returns-in-JGT c = rw c.in-JGT.is

pub returns-in-JLE : goal.returns-in-JLE
unfolding opcode_names opcode_name
returns-in-JLE c = rw c.in-JLE.is

pub returns-in-JLT : goal.returns-in-JLT
unfolding opcode_names opcode_name
returns-in-JLT c = rw c.in-JLT.is

pub returns-in-JMPI : goal.returns-in-JMPI
unfolding opcode_names opcode_name
returns-in-JMPI c = rw c.in-JMPI.is

pub returns-in-JNO : goal.returns-in-JNO
unfolding opcode_names opcode_name
returns-in-JNO c = rw c.in-JNO.is

pub returns-in-JO : goal.returns-in-JO
unfolding opcode_names opcode_name
returns-in-JO c = rw c.in-JO.is

pub returns-in-JSRI : goal.returns-in-JSRI
unfolding opcode_names opcode_name
returns-in-JSRI c = rw c.in-JSRI.is

pub returns-in-LDC : goal.returns-in-LDC
unfolding opcode_names opcode_name
returns-in-LDC c = rw c.in-LDC.is

pub returns-in-LDCTX : goal.returns-in-LDCTX
unfolding opcode_names opcode_name
returns-in-LDCTX c = rw c.in-LDCTX.is

pub returns-in-LDE : goal.returns-in-LDE
unfolding opcode_names opcode_name
returns-in-LDE c = rw c.in-LDE.is

pub returns-in-LDIPL : goal.returns-in-LDIPL
unfolding opcode_names opcode_name
returns-in-LDIPL c = rw c.in-LDIPL.is

pub returns-in-LT : goal.returns-in-LT
unfolding opcode_names opcode_name
returns-in-LT c = rw c.in-LT.is

pub returns-in-MOV : goal.returns-in-MOV
unfolding opcode_names opcode_name
returns-in-MOV c = rw c.in-MOV.is

pub returns-in-MOVA : goal.returns-in-MOVA
unfolding opcode_names opcode_name
returns-in-MOVA c = rw c.in-MOVA.is

pub returns-in-MOVHH : goal.returns-in-MOVHH
unfolding opcode_names opcode_name
returns-in-MOVHH c = rw c.in-MOVHH.is

pub returns-in-MOVHL : goal.returns-in-MOVHL
unfolding opcode_names opcode_name
returns-in-MOVHL c = rw c.in-MOVHL.is

pub returns-in-MOVLH : goal.returns-in-MOVLH
unfolding opcode_names opcode_name
returns-in-MOVLH c = rw c.in-MOVLH.is

pub returns-in-MOVLL : goal.returns-in-MOVLL
unfolding opcode_names opcode_name
returns-in-MOVLL c = rw c.in-MOVLL.is

pub returns-in-MUL : goal.returns-in-MUL
unfolding opcode_names opcode_name
returns-in-MUL c = rw c.in-MUL.is

pub returns-in-MULU : goal.returns-in-MULU
unfolding opcode_names opcode_name
returns-in-MULU c = rw c.in-MULU.is

pub returns-in-NEG : goal.returns-in-NEG
unfolding opcode_names opcode_name
returns-in-NEG c = rw c.in-NEG.is

pub returns-in-NO : goal.returns-in-NO
unfolding opcode_names opcode_name
returns-in-NO c = rw c.in-NO.is

pub returns-in-NOT : goal.returns-in-NOT
unfolding opcode_names opcode_name
returns-in-NOT c = rw c.in-NOT.is

pub returns-in-OR : goal.returns-in-OR
unfolding opcode_names opcode_name
returns-in-OR c = rw c.in-OR.is

pub returns-in-POP : goal.returns-in-POP
unfolding opcode_names opcode_name
returns-in-POP c = rw c.in-POP.is

pub returns-in-POPC : goal.returns-in-POPC
unfolding opcode_names opcode_name
returns-in-POPC c = rw c.in-POPC.is

pub returns-in-POPM : goal.returns-in-POPM
unfolding opcode_names opcode_name
returns-in-POPM c = rw c.in-POPM.is

pub returns-in-PUSH : goal.returns-in-PUSH
unfolding opcode_names opcode_name
returns-in-PUSH c = rw c.in-PUSH.is

pub returns-in-PUSHA : goal.returns-in-PUSHA
unfolding opcode_names opcode_name
returns-in-PUSHA c = rw c.in-PUSHA.is

pub returns-in-PUSHC : goal.returns-in-PUSHC
unfolding opcode_names opcode_name
returns-in-PUSHC c = rw c.in-PUSHC.is

pub returns-in-PUSHM : goal.returns-in-PUSHM
unfolding opcode_names opcode_name
returns-in-PUSHM c = rw c.in-PUSHM.is

pub returns-in-RMPA : goal.returns-in-RMPA
unfolding opcode_names opcode_name
returns-in-RMPA c = rw c.in-RMPA.is

pub returns-in-ROLC : goal.returns-in-ROLC
unfolding opcode_names opcode_name
returns-in-ROLC c = rw c.in-ROLC.is

pub returns-in-RORC : goal.returns-in-RORC
unfolding opcode_names opcode_name
returns-in-RORC c = rw c.in-RORC.is

pub returns-in-ROT : goal.returns-in-ROT
unfolding opcode_names opcode_name
returns-in-ROT c = rw c.in-ROT.is

pub returns-in-SBB : goal.returns-in-SBB
unfolding opcode_names opcode_name
returns-in-SBB c = rw c.in-SBB.is

pub returns-in-SHA : goal.returns-in-SHA
unfolding opcode_names opcode_name
returns-in-SHA c = rw c.in-SHA.is

pub returns-in-SHL : goal.returns-in-SHL
unfolding opcode_names opcode_name
returns-in-SHL c = rw c.in-SHL.is

pub returns-in-SMOVB : goal.returns-in-SMOVB
unfolding opcode_names opcode_name
returns-in-SMOVB c = rw c.in-SMOVB.is

pub returns-in-SMOVF : goal.returns-in-SMOVF
unfolding opcode_names opcode_name
returns-in-SMOVF c = rw c.in-SMOVF.is

pub returns-in-SSTR : goal.returns-in-SSTR
unfolding opcode_names opcode_name
returns-in-SSTR c = rw c.in-SSTR.is

pub returns-in-STC : goal.returns-in-STC
unfolding opcode_names opcode_name
returns-in-STC c = rw c.in-STC.is

pub returns-in-STCTX : goal.returns-in-STCTX
unfolding opcode_names opcode_name
returns-in-STCTX c = rw c.in-STCTX.is

pub returns-in-STE : goal.returns-in-STE
unfolding opcode_names opcode_name
returns-in-STE c = rw c.in-STE.is

pub returns-in-SUB : goal.returns-in-SUB
unfolding opcode_names opcode_name
returns-in-SUB c = rw c.in-SUB.is

pub returns-in-TST : goal.returns-in-TST
unfolding opcode_names opcode_name
returns-in-TST c = rw c.in-TST.is

pub returns-in-WAIT : goal.returns-in-WAIT
unfolding opcode_names opcode_name
returns-in-WAIT c = rw c.in-WAIT.is

pub returns-in-XCHG : goal.returns-in-XCHG
unfolding opcode_names opcode_name
returns-in-XCHG c = rw c.in-XCHG.is

pub returns-in-XOR : goal.returns-in-XOR
unfolding opcode_names opcode_name
returns-in-XOR c = rw c.in-XOR.is
