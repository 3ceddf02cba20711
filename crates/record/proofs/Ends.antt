-- The name of a number at the end of a list of names, and past it.
-- Assumes nothing.
use Prim.Native.Nat.{ℕ, ◌≤◌}
use mathlib.Core.Path.{◌≡◌, refl, sym, ap}
use mathlib.Core.Bool.{Bool, true, false}
use mathlib.Core.List.{List}
use native.Mathlib.Omega.{arith}
use lib.ListN.{length, get_or, get_or-eq_default}
use lib.Dec.{ltb}
use borrow.Author.Tests.{ltb-true, ltb-false}
use Rattle.laws.specs.Range.{Each}
use Rattle.laws.proofs.Range.{each}

module _ {A : Type 0} (names : List A) (d : A) where
  pub past : (n : ℕ) → length names ≤ n → d ≡ get_or names n d
  past n h = sym (get_or-eq_default names d h)

  -- a number up to m that is none below it is m
  pub last : (m n : ℕ) → n ≤ m → Each (λ k. n ≡ k → ⊥) m → get_or names m d ≡ get_or names n d
  last m n h t = ap (λ k. get_or names k d) (by (ltb n m) refl)
    where
      by : (b : Bool) → ltb n m ≡ b → m ≡ n
      by true e = absurd (each (λ k. n ≡ k → ⊥) m t n (ltb-true _ _ e) refl)
      by false e = let g = ltb-false n m e in omega arith
