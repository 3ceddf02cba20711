-- A test that passes at every name of a list is a law for the names among them.
-- Assumes nothing.
use Prim.Native.Nat.{ℕ}
use mathlib.Core.Path.{◌≡◌, refl, sym, ap, subst, ◌∙◌}
use mathlib.Core.Bool.{Bool, true, false}
use mathlib.Core.List.{List, [], ◌∷◌}
use lib.Dec.{T, eqb}
use borrow.Author.Tests.{eqb-true}
use Rattle.laws.specs.Choice.{pick}
use Rattle.laws.specs.Table.{every}
use Rattle.laws.proofs.Choice.{both_left, both_right}
use Rattle.record.specs.declared.Operand.{Operand}
use Rattle.record.specs.Numbers.{operand_no}
use Rattle.record.specs.Same.{same_name, among}
use Rattle.record.proofs.Apart.{operands_apart}

pub at_among : (f : Operand → Bool) (xs : List Operand) (i : ℕ) → T (every (λ i x. f x) i xs) → (x : Operand) → among xs x ≡ true → T (f x)
unfolding among same_name
at_among f [] i t x m = absurd (subst T (sym m) tt)
at_among f (y ∷ ys) i t x m = by (eqb (operand_no x) (operand_no y)) refl (λ n. at_among f ys _ (both_right (f y) _ t) x n)
  where
    by : (b : Bool) → eqb (operand_no x) (operand_no y) ≡ b → (among ys x ≡ true → T (f x)) → T (f x)
    by true e g = subst (λ z. T (f z)) (sym (operands_apart x y (eqb-true _ _ e))) (both_left (f y) _ t)
    by false e g = g (sym (ap (λ b. pick b true (among ys x)) e) ∙ m)
