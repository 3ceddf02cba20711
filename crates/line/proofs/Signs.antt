-- Signed numbers of 64 bits: what a test of the sign shows, and what is between a negative number and -1.
-- Assumes nothing.
use Prim.Native.Nat.{ℕ, suc, ◌+◌, ◌^◌, ◌<◌}
use mathlib.Core.Path.{◌≡◌, refl, sym, ap, ◌∙◌, subst}
use mathlib.Core.Bool.{true, false}
use native.Mathlib.Omega.{arith}
use native.Mathlib.Numerals.{add-one}
use lib.Dec.{T}
use lib.IntN.{ℤ, pos, negsuc, nat_abs, ◌-ℤ◌}
use lib.Signed.{mag, lt_z, non_neg}
use mir.Syntax.{w64}
use mir.Val.{Fits, SFits, to_z, of_z}
use mir.Facts.{to_z-of_z}
use borrow.Author.Tests.{ltb-true, le-ltb}

-- the bits of a number, read back
abbrev pub read : ℤ → ℤ
read z = to_z w64 (of_z w64 z)

negative : (z : ℤ) → lt_z z (pos 0) ≡ true → z ≡ negsuc (mag z)
negative (pos n) e = absurd (omega (arith, ltb-true n 0 e))
negative (negsuc n) e = refl

positive : (z : ℤ) → lt_z z (pos 0) ≡ false → z ≡ pos (mag z)
positive (pos n) e = refl
positive (negsuc n) e = absurd (let z : ◌≡◌ {A = ℕ} 0 1 = cc in omega arith)

-- -1 less a negative number
turned : (n : ℕ) → negsuc 0 -ℤ negsuc n ≡ pos n
turned n = rw (le-ltb (suc n) 1 (omega arith)) (ap pos (omega arith))

module _ (z : ℤ) (fits : SFits w64 z) where
  pub below : lt_z (read z) (pos 0) ≡ true → z ≡ negsuc (mag z)
  below e = negative z (subst (λ (x : ℤ). lt_z x (pos 0) ≡ true) (to_z-of_z fits) e)

  pub above : lt_z (read z) (pos 0) ≡ false → read z ≡ pos (mag z)
  above e = to_z-of_z fits ∙ positive z (subst (λ (x : ℤ). lt_z x (pos 0) ≡ false) (to_z-of_z fits) e)

  module _ (e : lt_z (read z) (pos 0) ≡ true) where
    between : negsuc 0 -ℤ read z ≡ pos (mag z)
    between = ap (λ (x : ℤ). negsuc 0 -ℤ x) (to_z-of_z fits ∙ below e) ∙ turned (mag z)

    pub between_fits : SFits w64 (negsuc 0 -ℤ read z)
    between_fits = subst (SFits w64) (sym between) (record { sfits = fits.sfits })

    pub between_read : read (negsuc 0 -ℤ read z) ≡ pos (mag z)
    between_read = to_z-of_z between_fits ∙ between

    pub one_more : nat_abs (read (negsuc 0 -ℤ read z)) + 1 ≡ nat_abs z
    one_more = ap (λ (x : ℤ). nat_abs x + 1) between_read ∙ add-one (mag z) ∙ ap nat_abs (sym (below e))

-- a number that is known to be no less than zero is one without a sign
pub unsigned : {x : ℤ} {n : ℕ} → x ≡ pos n → n < 2 ^ 63 → T (non_neg x) × Fits w64 (nat_abs x)
unsigned {x} {n} e h = (subst (λ (y : ℤ). T (non_neg y)) (sym e) tt, subst (λ (y : ℤ). Fits w64 (nat_abs y)) (sym e) (record { fits = omega arith }))
