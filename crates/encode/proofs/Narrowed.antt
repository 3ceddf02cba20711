-- What is asked of a record's key keeps the bases, and whether a number is part of the code.
-- Assumes nothing.
use mathlib.Core.Path.{◌≡◌, sym, ap}
use mathlib.Core.Bool.{Bool, true, false}
use lib.Dec.{T, eqb}
use borrow.Author.Tests.{eqb-true}
use Rattle.laws.specs.Choice.{both}
use Rattle.laws.specs.Table.{every}
use Rattle.record.specs.declared.Operand.{Operand}
use Rattle.record.specs.declared.Width.{Width}
use Rattle.record.specs.Numbers.{width_no, operand_no}
use Rattle.record.specs.Same.{same_name, among, base_of}
use Rattle.record.proofs.Apart.{operands, operands_apart}
use Rattle.record.proofs.Arms.{every_operand, bit, bits_apart}
use Rattle.encode_choice.specs.steps.Choose.{narrow}
use Rattle.encode_choice.specs.steps.Coarse.{in_code, whole}
use Rattle.encode_rules.proofs.Bools.{so}

-- a test at every name, however its number is
abbrev Always : (Bool → Bool → Operand → Bool) → Type 0
Always f = (z s : Bool) → T (every (λ i o. f z s o) 0 operands)

-- a shorter name has the same base
same_base : Bool → Bool → Operand → Bool
same_base z s o = eqb (operand_no (base_of (narrow (base_of o) z s))) (operand_no (base_of o))

always_base : Always same_base
unfolding same_base base_of same_name among
always_base true true = tt
always_base true false = tt
always_base false true = tt
always_base false false = tt

pub base_kept : (z s : Bool) (o : Operand) → base_of (narrow (base_of o) z s) ≡ base_of o
unfolding same_base
base_kept z s o = operands_apart _ _ (eqb-true _ _ (so _ (every_operand (same_base z s) (always_base z s) o)))

-- a name whose number is part of the code has no other name
same_in_code : Bool → Bool → Operand → Bool
same_in_code z s o = eqb (bit (in_code (narrow o z s))) (bit (in_code o))

always_in_code : Always same_in_code
unfolding same_in_code same_name
always_in_code true true = tt
always_in_code true false = tt
always_in_code false true = tt
always_in_code false false = tt

in_code_lem : (z s : Bool) (o : Operand) → in_code (narrow o z s) ≡ in_code o
unfolding same_in_code
in_code_lem z s o = bits_apart _ _ (eqb-true _ _ (so _ (every_operand (same_in_code z s) (always_in_code z s) o)))

in_code_base : (o : Operand) → in_code (base_of o) ≡ in_code o
unfolding base_of same_name among
in_code_base o = bits_apart _ _ (eqb-true _ _ (so _ (every_operand (λ o. eqb (bit (in_code (base_of o))) (bit (in_code o))) tt o)))

pub whole_kept : (w : Width) (z s : Bool) (o : Operand) → whole w (narrow o z s) ≡ whole w o
unfolding whole
whole_kept w z s o = ap (both (eqb (width_no w) 0)) (in_code_lem z s o)

pub whole_base : (w : Width) (o : Operand) → whole w o ≡ whole w (base_of o)
unfolding whole
whole_base w o = ap (both (eqb (width_no w) 0)) (sym (in_code_base o))
