-- A test that passes at every number below a bound is a law for each of them.
-- Assumes nothing.
use Prim.Native.Nat.{ℕ, zero, suc, ◌+◌, ◌-◌, ◌≤◌, ◌<◌}
use mathlib.Core.Path.{◌≡◌, refl, sym, subst}
use mathlib.Core.Bool.{Bool, true, false}
use native.Mathlib.Omega.{arith}
use native.Mathlib.Nat.{not-suc-le-zero}
use lib.Dec.{T, eqb}
use borrow.Author.Tests.{eqb-true, eqb-false}
use Rattle.laws.specs.Range.{upto, Each}
use Rattle.laws.proofs.Choice.{both_left, both_right}

-- at the last number or before it
one_more : (f : ℕ → Bool) (n k : ℕ) → T (f n) → (k < n → T (f k)) → k < suc n → T (f k)
one_more f n k t g h = by (eqb k n) refl
  where
    by : (b : Bool) → eqb k n ≡ b → T (f k)
    by true e = subst (λ m. T (f m)) (sym (eqb-true k n e)) t
    by false e = let d = eqb-false k n e in g (omega arith)

pub upto_at : (f : ℕ → Bool) (n : ℕ) → T (upto f n) → (k : ℕ) → k < n → T (f k)
unfolding upto
upto_at f zero t k h = absurd (not-suc-le-zero h)
upto_at f (suc n) t k h = one_more f n k (both_left (f n) (upto f n) t) (upto_at f n (both_right (f n) (upto f n) t) k) h

each_last : (P : ℕ → Type 0) (n k : ℕ) → P n → (k < n → P k) → k < suc n → P k
each_last P n k p g h = by (eqb k n) refl
  where
    by : (b : Bool) → eqb k n ≡ b → P k
    by true e = subst P (sym (eqb-true k n e)) p
    by false e = let d = eqb-false k n e in g (omega arith)

-- a case for each number below the bound is a law for them all
pub each : (P : ℕ → Type 0) (n : ℕ) → Each P n → (k : ℕ) → k < n → P k
each P zero t k h = absurd (not-suc-le-zero h)
each P (suc n) t k h = each_last P n k t.1 (each P n t.0 k) h

-- the same of the n numbers from m on
pub each_from : (P : ℕ → Type 0) (m n : ℕ) → Each (λ k. P (m + k)) n → (a : ℕ) → m ≤ a → a < m + n → P a
each_from P m n t a g l =
    let q : m + (a - m) ≡ a = omega arith in
    subst P q (each (λ k. P (m + k)) n t (a - m) (omega arith))
