-- `line::names::operand_shown` meets its contract: an arm is told its name, and its numbers pack the name's characters.
-- Made by scripts/tables/make-names from the enums of crates/record/src/lib.rt.
-- Assumes nothing.
use Rattle.std.proofs.Common.{refl}
use Rattle.record.specs.Same.{same_name}
use Rattle.line.specs.Line.{shown}
use Rattle.line.specs.Names.{operand_names, operand_name}
use Rattle.line.proofs.names.operand_shown.Goals as goal

pub returns-in-Nothing : goal.returns-in-Nothing
unfolding operand_names operand_name shown same_name
returns-in-Nothing c = rw c.in-Nothing.is (refl, refl)

pub returns-in-Imm4 : goal.returns-in-Imm4
unfolding operand_names operand_name shown same_name
returns-in-Imm4 c = rw c.in-Imm4.is (refl, refl)

pub returns-in-Imm8 : goal.returns-in-Imm8
unfolding operand_names operand_name shown same_name
returns-in-Imm8 c = rw c.in-Imm8.is (refl, refl)

pub returns-in-Imm16 : goal.returns-in-Imm16
unfolding operand_names operand_name shown same_name
returns-in-Imm16 c = rw c.in-Imm16.is (refl, refl)

pub returns-in-R0L : goal.returns-in-R0L
unfolding operand_names operand_name shown same_name
returns-in-R0L c = rw c.in-R0L.is (refl, refl)

pub returns-in-R0H : goal.returns-in-R0H
unfolding operand_names operand_name shown same_name
returns-in-R0H c = rw c.in-R0H.is (refl, refl)

pub returns-in-R1L : goal.returns-in-R1L
unfolding operand_names operand_name shown same_name
returns-in-R1L c = rw c.in-R1L.is (refl, refl)

pub returns-in-R1H : goal.returns-in-R1H
unfolding operand_names operand_name shown same_name
returns-in-R1H c = rw c.in-R1H.is (refl, refl)

pub returns-in-R0 : goal.returns-in-R0
unfolding operand_names operand_name shown same_name
returns-in-R0 c = rw c.in-R0.is (refl, refl)

pub returns-in-R1 : goal.returns-in-R1
unfolding operand_names operand_name shown same_name
returns-in-R1 c = rw c.in-R1.is (refl, refl)

pub returns-in-R2 : goal.returns-in-R2
unfolding operand_names operand_name shown same_name
returns-in-R2 c = rw c.in-R2.is (refl, refl)

pub returns-in-R3 : goal.returns-in-R3
unfolding operand_names operand_name shown same_name
returns-in-R3 c = rw c.in-R3.is (refl, refl)

pub returns-in-R2R0 : goal.returns-in-R2R0
unfolding operand_names operand_name shown same_name
returns-in-R2R0 c = rw c.in-R2R0.is (refl, refl)

pub returns-in-R3R1 : goal.returns-in-R3R1
unfolding operand_names operand_name shown same_name
returns-in-R3R1 c = rw c.in-R3R1.is (refl, refl)

pub returns-in-A0 : goal.returns-in-A0
unfolding operand_names operand_name shown same_name
returns-in-A0 c = rw c.in-A0.is (refl, refl)

pub returns-in-A1 : goal.returns-in-A1
unfolding operand_names operand_name shown same_name
returns-in-A1 c = rw c.in-A1.is (refl, refl)

pub returns-in-A1A0 : goal.returns-in-A1A0
unfolding operand_names operand_name shown same_name
returns-in-A1A0 c = rw c.in-A1A0.is (refl, refl)

pub returns-in-Bit_R0 : goal.returns-in-Bit_R0
unfolding operand_names operand_name shown same_name
returns-in-Bit_R0 c = rw c.in-Bit_R0.is (refl, refl)

pub returns-in-Bit_R1 : goal.returns-in-Bit_R1
unfolding operand_names operand_name shown same_name
returns-in-Bit_R1 c = rw c.in-Bit_R1.is (refl, refl)

pub returns-in-Bit_R2 : goal.returns-in-Bit_R2
unfolding operand_names operand_name shown same_name
returns-in-Bit_R2 c = rw c.in-Bit_R2.is (refl, refl)

pub returns-in-Bit_R3 : goal.returns-in-Bit_R3
unfolding operand_names operand_name shown same_name
returns-in-Bit_R3 c = rw c.in-Bit_R3.is (refl, refl)

pub returns-in-Bit_A0 : goal.returns-in-Bit_A0
unfolding operand_names operand_name shown same_name
returns-in-Bit_A0 c = rw c.in-Bit_A0.is (refl, refl)

pub returns-in-Bit_A1 : goal.returns-in-Bit_A1
unfolding operand_names operand_name shown same_name
returns-in-Bit_A1 c = rw c.in-Bit_A1.is (refl, refl)

pub returns-in-Bit_Deref_A0 : goal.returns-in-Bit_Deref_A0
unfolding operand_names operand_name shown same_name
returns-in-Bit_Deref_A0 c = rw c.in-Bit_Deref_A0.is (refl, refl)

pub returns-in-Bit_Deref_A1 : goal.returns-in-Bit_Deref_A1
unfolding operand_names operand_name shown same_name
returns-in-Bit_Deref_A1 c = rw c.in-Bit_Deref_A1.is (refl, refl)

pub returns-in-Bit_Disp8_A0 : goal.returns-in-Bit_Disp8_A0
unfolding operand_names operand_name shown same_name
returns-in-Bit_Disp8_A0 c = rw c.in-Bit_Disp8_A0.is (refl, refl)

pub returns-in-Bit_Disp8_A1 : goal.returns-in-Bit_Disp8_A1
unfolding operand_names operand_name shown same_name
returns-in-Bit_Disp8_A1 c = rw c.in-Bit_Disp8_A1.is (refl, refl)

pub returns-in-Bit_Disp8_SB : goal.returns-in-Bit_Disp8_SB
unfolding operand_names operand_name shown same_name
returns-in-Bit_Disp8_SB c = rw c.in-Bit_Disp8_SB.is (refl, refl)

pub returns-in-Bit_Disp8_FB : goal.returns-in-Bit_Disp8_FB
unfolding operand_names operand_name shown same_name
returns-in-Bit_Disp8_FB c = rw c.in-Bit_Disp8_FB.is (refl, refl)

pub returns-in-Bit_Disp16_A0 : goal.returns-in-Bit_Disp16_A0
unfolding operand_names operand_name shown same_name
returns-in-Bit_Disp16_A0 c = rw c.in-Bit_Disp16_A0.is (refl, refl)

pub returns-in-Bit_Disp16_A1 : goal.returns-in-Bit_Disp16_A1
unfolding operand_names operand_name shown same_name
returns-in-Bit_Disp16_A1 c = rw c.in-Bit_Disp16_A1.is (refl, refl)

pub returns-in-Bit_Disp16_SB : goal.returns-in-Bit_Disp16_SB
unfolding operand_names operand_name shown same_name
returns-in-Bit_Disp16_SB c = rw c.in-Bit_Disp16_SB.is (refl, refl)

pub returns-in-Bit_Abs16 : goal.returns-in-Bit_Abs16
unfolding operand_names operand_name shown same_name
returns-in-Bit_Abs16 c = rw c.in-Bit_Abs16.is (refl, refl)

pub returns-in-Disp8_A0 : goal.returns-in-Disp8_A0
unfolding operand_names operand_name shown same_name
returns-in-Disp8_A0 c = rw c.in-Disp8_A0.is (refl, refl)

pub returns-in-Disp8_A1 : goal.returns-in-Disp8_A1
unfolding operand_names operand_name shown same_name
returns-in-Disp8_A1 c = rw c.in-Disp8_A1.is (refl, refl)

pub returns-in-Disp8_SB : goal.returns-in-Disp8_SB
unfolding operand_names operand_name shown same_name
returns-in-Disp8_SB c = rw c.in-Disp8_SB.is (refl, refl)

pub returns-in-Disp8_FB : goal.returns-in-Disp8_FB
unfolding operand_names operand_name shown same_name
returns-in-Disp8_FB c = rw c.in-Disp8_FB.is (refl, refl)

pub returns-in-Disp8_SP : goal.returns-in-Disp8_SP
unfolding operand_names operand_name shown same_name
returns-in-Disp8_SP c = rw c.in-Disp8_SP.is (refl, refl)

pub returns-in-Disp16_A0 : goal.returns-in-Disp16_A0
unfolding operand_names operand_name shown same_name
returns-in-Disp16_A0 c = rw c.in-Disp16_A0.is (refl, refl)

pub returns-in-Disp16_A1 : goal.returns-in-Disp16_A1
unfolding operand_names operand_name shown same_name
returns-in-Disp16_A1 c = rw c.in-Disp16_A1.is (refl, refl)

pub returns-in-Disp16_SB : goal.returns-in-Disp16_SB
unfolding operand_names operand_name shown same_name
returns-in-Disp16_SB c = rw c.in-Disp16_SB.is (refl, refl)

pub returns-in-Disp20_A0 : goal.returns-in-Disp20_A0
unfolding operand_names operand_name shown same_name
returns-in-Disp20_A0 c = rw c.in-Disp20_A0.is (refl, refl)

pub returns-in-Disp20_A1 : goal.returns-in-Disp20_A1
unfolding operand_names operand_name shown same_name
returns-in-Disp20_A1 c = rw c.in-Disp20_A1.is (refl, refl)

pub returns-in-Deref_A0 : goal.returns-in-Deref_A0
unfolding operand_names operand_name shown same_name
returns-in-Deref_A0 c = rw c.in-Deref_A0.is (refl, refl)

pub returns-in-Deref_A1 : goal.returns-in-Deref_A1
unfolding operand_names operand_name shown same_name
returns-in-Deref_A1 c = rw c.in-Deref_A1.is (refl, refl)

pub returns-in-Deref_A1A0 : goal.returns-in-Deref_A1A0
unfolding operand_names operand_name shown same_name
returns-in-Deref_A1A0 c = rw c.in-Deref_A1A0.is (refl, refl)

pub returns-in-Abs16 : goal.returns-in-Abs16
unfolding operand_names operand_name shown same_name
returns-in-Abs16 c = rw c.in-Abs16.is (refl, refl)

pub returns-in-Abs20 : goal.returns-in-Abs20
unfolding operand_names operand_name shown same_name
returns-in-Abs20 c = rw c.in-Abs20.is (refl, refl)

pub returns-in-Disp8 : goal.returns-in-Disp8
unfolding operand_names operand_name shown same_name
returns-in-Disp8 c = rw c.in-Disp8.is (refl, refl)

pub returns-in-RegList : goal.returns-in-RegList
unfolding operand_names operand_name shown same_name
returns-in-RegList c = rw c.in-RegList.is (refl, refl)

pub returns-in-INTBL : goal.returns-in-INTBL
unfolding operand_names operand_name shown same_name
returns-in-INTBL c = rw c.in-INTBL.is (refl, refl)

pub returns-in-INTBH : goal.returns-in-INTBH
unfolding operand_names operand_name shown same_name
returns-in-INTBH c = rw c.in-INTBH.is (refl, refl)

pub returns-in-FLG : goal.returns-in-FLG
unfolding operand_names operand_name shown same_name
returns-in-FLG c = rw c.in-FLG.is (refl, refl)

pub returns-in-ISP : goal.returns-in-ISP
unfolding operand_names operand_name shown same_name
returns-in-ISP c = rw c.in-ISP.is (refl, refl)

pub returns-in-SP : goal.returns-in-SP
unfolding operand_names operand_name shown same_name
returns-in-SP c = rw c.in-SP.is (refl, refl)

pub returns-in-SB : goal.returns-in-SB
unfolding operand_names operand_name shown same_name
returns-in-SB c = rw c.in-SB.is (refl, refl)

pub returns-in-FB : goal.returns-in-FB
unfolding operand_names operand_name shown same_name
returns-in-FB c = rw c.in-FB.is (refl, refl)
