-- Packed hex digits.
-- Assumes nothing.
use Prim.Native.Nat.{ℕ, zero, suc, ◌+◌, ◌*◌, ◌/◌, ◌%◌, ◌^◌, ◌<◌, ◌≤◌}
use mathlib.Core.Path.{◌≡◌, refl, sym, ap, ◌∙◌}
use mathlib.Core.Bool.{Bool, true, false}
use mathlib.Core.List.{[]}
use lib.IntN.{ℤ, pos, negsuc}
use native.Mathlib.Omega.{arith}
use native.Mathlib.Nat.{pow-suc, pow-le-pow_right, div-div-eq-div-mul, not-suc-le-zero}
use lib.Dec.{eqb, ltb, eqb→eq}
use borrow.Author.Tests.{lt-ltb, le-ltb, ltb-true, ltb-false}
use Rattle.laws.specs.Choice.{pick}
use Rattle.record.specs.declared.Operand.{Operand}
use Rattle.record.specs.Same.{same_name, among}
use Rattle.record.specs.Signed.{is_signed}
use Rattle.record.proofs.Arms.{every_operand}
use Rattle.line.specs.Characters.{digit, hex}
use Rattle.line.specs.Line.{digits_of, sign_text, equals}
use Rattle.line.specs.steps.Packed.{pack}

pub low : (d : ℕ) → d < 10 → 48 + d ≡ digit d
unfolding digit
low d h = rw (lt-ltb d 10 h)

pub high : (d : ℕ) → 10 ≤ d → 55 + d ≡ digit d
unfolding digit
high d h = rw (le-ltb d 10 h)

-- a digit is a character, and no zero byte
pub character : (d : ℕ) → d < 16 → (0 < digit d) × (digit d < 256)
unfolding digit
character d h = by (ltb d 10) refl
  where
    by : (b : Bool) → ltb d 10 ≡ b → (0 < digit d) × (digit d < 256)
    by true e = let q = low d (ltb-true d 10 e) in (omega arith, omega arith)
    by false e = let q = high d (ltb-false d 10 e) in (omega arith, omega arith)

pub below : (n v : ℕ) → pack (hex n v) < 256 ^ n
below zero v = omega arith
below (suc n) v =
    let h = character (v / 16 ^ n % 16) (omega arith) in
    let i = below n v in
    let p = pow-suc 256 n in
    omega arith

-- up to five digits fit in five bytes
pub five : (n v : ℕ) → n ≤ 5 → pack (hex n v) < 0x10000000000
five n v h =
    let p : 256 ^ n ≤ 256 ^ 5 = pow-le-pow_right (omega arith) h in
    let q = below n v in
    omega arith

-- the rest of a number behind its low n digits, and behind one more
pub further : (n v : ℕ) → v / 16 ^ n / 16 ≡ v / 16 ^ suc n
further n v = div-div-eq-div-mul v (16 ^ n) 16 ∙ ap (λ m. v / m) (sym (pow-suc 16 n))

-- a number behind its `=`, without a sign and with one
pub numbered : (n v : ℕ) → 0 < n → 0x3D + 256 * pack (hex n v) ≡ pack (equals n [] v)
numbered zero v h = absurd (not-suc-le-zero h)
numbered (suc n) v h = refl

pub signed : (n v : ℕ) (z : ℤ) → 0 < n → 0x3D + 256 * (pack (sign_text z) + 256 * pack (hex n v)) ≡ pack (equals n (sign_text z) v)
signed zero v z h = absurd (not-suc-le-zero h)
signed (suc n) v (pos m) h = refl
signed (suc n) v (negsuc m) h = refl

-- a signed number has two digits
pub two_digits : (x : Operand) → is_signed x ≡ true → digits_of x ≡ 2
unfolding is_signed digits_of among same_name
two_digits x e = eqb→eq _ _ (rw e at (every_operand (λ x. pick (is_signed x) (eqb (digits_of x) 2) true) tt x))
