-- What the names of General have in common, which request A7's rows take as both operands.
-- Assumes nothing.
use Prim.Native.Nat.{◌<◌}
use mathlib.Core.Path.{◌≡◌}
use mathlib.Core.Bool.{Bool, true, false, not}
use native.Mathlib.Omega.{arith}
use lib.Dec.{T, eqb}
use borrow.Author.Tests.{eqb-true, not-true}
use Rattle.laws.specs.Choice.{both}
use Rattle.laws.specs.Table.{every}
use Rattle.record.specs.declared.Width.{Width}
use Rattle.record.specs.declared.Width.TheVariants.{None, B, W}
use Rattle.record.specs.declared.Operand.{Operand}
use Rattle.record.specs.declared.Operand.TheVariants.{Disp8_SP, SP}
use Rattle.record.specs.Numbers.{operand_no}
use Rattle.record.specs.Same.{same_name, among, field_of}
use Rattle.record.proofs.Apart.{operands_apart}
use Rattle.rows.specs.Codes.{name_G}
use Rattle.encode_choice.specs.steps.Forms.{general}
use Rattle.encode_choice.specs.steps.Choose.{place, code_of}
use Rattle.encode_choice.specs.steps.Coded.{is_wide}
use Rattle.encode_rules.proofs.Bools.{so, both_true}
use Rattle.encode_choice.proofs.Among.{at_among}

-- its code is a nibble that names it again; it is no immediate, and neither of the two names for which MOV and ADD have a row of their own
pub record GeneralName (w : Width) (x : Operand) : Type 0 where
  pub coded : name_G w (code_of x) ≡ x
  pub nibble : code_of x < 16
  pub narrow : is_wide (field_of x) ≡ false
  pub no_stack : same_name x Disp8_SP ≡ false
  pub no_pointer : same_name x SP ≡ false

name_test : Width → Operand → Bool
name_test w x =
    both (eqb (operand_no (name_G w (code_of x))) (operand_no x))
    (both (not (is_wide (field_of x))) (both (not (same_name x Disp8_SP)) (not (same_name x SP))))

tested : (w : Width) → T (every (λ i x. name_test w x) 0 (general w))
unfolding name_test place same_name field_of
tested B = tt
tested W = tt
tested None = tt

pub general_name : (w : Width) (x : Operand) → among (general w) x ≡ true → GeneralName w x
unfolding name_test
general_name w x m =
    let a = both_true (eqb (operand_no (name_G w (code_of x))) (operand_no x)) _ (so _ (at_among (name_test w) (general w) 0 (tested w) x m)) in
    let b = both_true (not (is_wide (field_of x))) _ a.1 in
    let c = both_true (not (same_name x Disp8_SP)) _ b.1 in
    record {
      coded = operands_apart _ _ (eqb-true _ _ a.0);
      nibble = omega arith;
      narrow = not-true _ b.0;
      no_stack = not-true _ c.0;
      no_pointer = not-true _ c.1;
    }
