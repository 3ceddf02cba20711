-- The digits of a number tell it, and so does the text of an operand's number.
-- Assumes nothing.
use Prim.Native.Nat.{ℕ, zero, suc, ◌-◌, ◌/◌, ◌%◌, ◌^◌, ◌<◌}
use mathlib.Core.Path.{◌≡◌, refl, sym, ap, ◌∙◌}
use mathlib.Core.Bool.{Bool, true, false}
use mathlib.Core.List.{List, [], head-eq_of_cons-eq, tail-eq_of_cons-eq}
use mathlib.Core.Logic.{⊎_elim}
use native.Mathlib.Omega.{arith}
use native.Mathlib.Nat.{div-eq_of_lt, mod-eq_of_lt}
use lib.Dec.{ltb}
use lib.IntN.{ℤ, pos, negsuc, nat_abs}
use lib.ListN.{length, length-append}
use borrow.Author.Tests.{lt-ltb, ltb-true, ltb-false}
use Rattle.laws.specs.Choice.{pick}
use Rattle.record.specs.declared.Operand.{Operand}
use Rattle.record.specs.Same.{same_name, among}
use Rattle.record.specs.Signed.{is_signed, signed, number_of}
use Rattle.record.proofs.Counted.{low_byte, as_it_is, no_other}
use Rattle.line.specs.Characters.{digit, hex}
use Rattle.line.specs.Line.{digits_of, sign_text, equals, number_text}
use Rattle.line.proofs.Digits.{low, high, further}

-- 0 to 9 and A to F do not meet
pub digit_told : (c d : ℕ) → digit c ≡ digit d → c ≡ d
digit_told c d e = by (ltb c 10) (ltb d 10) refl refl
  where
    by : (x y : Bool) → ltb c 10 ≡ x → ltb d 10 ≡ y → c ≡ d
    by true true p q = omega (arith, low c (ltb-true c 10 p), low d (ltb-true d 10 q))
    by true false p q = omega (arith, low c (ltb-true c 10 p), high d (ltb-false d 10 q), ltb-true c 10 p, ltb-false d 10 q)
    by false true p q = omega (arith, high c (ltb-false c 10 p), low d (ltb-true d 10 q), ltb-false c 10 p, ltb-true d 10 q)
    by false false p q = omega (arith, high c (ltb-false c 10 p), high d (ltb-false d 10 q))

-- two numbers with the same low digits, and the same in front of them, are one
whole_told : (n u v : ℕ) → u / 16 ^ n ≡ v / 16 ^ n → hex n u ≡ hex n v → u ≡ v
whole_told zero u v h e = omega arith
whole_told (suc n) u v h e =
    let d = digit_told (u / 16 ^ n % 16) (v / 16 ^ n % 16) (head-eq_of_cons-eq e) in
    whole_told n u v (omega (arith, further n u, further n v)) (tail-eq_of_cons-eq e)

-- where the digits are all, nothing is in front of them
pub hex_told : (n u v : ℕ) → u < 16 ^ n → v < 16 ^ n → hex n u ≡ hex n v → u ≡ v
hex_told n u v k l e = whole_told n u v (div-eq_of_lt k ∙ sym (div-eq_of_lt l)) e

-- the length of a number's text goes by its name: of the digits, of the sign, of both behind `=`
hex_length : (n v : ℕ) → length (hex n v) ≡ n
hex_length zero v = refl
hex_length (suc n) v = ap suc (hex_length n v)

sign_length : (b : Bool) (y z : ℤ) → length (pick b (sign_text y) []) ≡ length (pick b (sign_text z) [])
sign_length true (pos m) (pos n) = refl
sign_length true (pos m) (negsuc n) = refl
sign_length true (negsuc m) (pos n) = refl
sign_length true (negsuc m) (negsuc n) = refl
sign_length false y z = refl

equals_length : (n u v : ℕ) (x y : List ℕ) → length x ≡ length y → length (equals n x u) ≡ length (equals n y v)
equals_length zero u v x y h = refl
equals_length (suc n) u v x y h =
    omega (arith, length-append x (hex (suc n) u), length-append y (hex (suc n) v), hex_length (suc n) u, hex_length (suc n) v)

pub number_length : (a : Operand) (y z : ℤ) → length (number_text a y) ≡ length (number_text a z)
unfolding number_text
number_length a y z = equals_length (digits_of a) (nat_abs y) (nat_abs z) _ _ (sign_length (is_signed a) y z)

-- digits behind `=` without a sign; no digit shows the number 0
equals_told : (n u v : ℕ) → u < 16 ^ n → v < 16 ^ n → equals n [] u ≡ equals n [] v → u ≡ v
equals_told zero u v k l e = omega arith
equals_told (suc n) u v k l e = hex_told (suc n) u v k l (tail-eq_of_cons-eq e)

-- two digits and their sign: that tells the bytes below 80 (hex) from those above, which are told by their distance
abbrev byte_text : ℤ → List ℕ
byte_text z = equals 2 (sign_text z) (nat_abs z)

signed_told : (u v : ℕ) → u < 0x100 → v < 0x100 → byte_text (signed u) ≡ byte_text (signed v) → u ≡ v
signed_told u v k l e = by (ltb u 0x80) (ltb v 0x80) refl refl (rw (lt-ltb u 0x100 k, lt-ltb v 0x100 l) at e)
  where
    by : (x y : Bool) → ltb u 0x80 ≡ x → ltb v 0x80 ≡ y
        → byte_text (pick x (pos u) (negsuc (0x100 - suc u))) ≡ byte_text (pick y (pos v) (negsuc (0x100 - suc v))) → u ≡ v
    by true true p q e = hex_told 2 u v k l (tail-eq_of_cons-eq (tail-eq_of_cons-eq e))
    by true false p q e = absurd (omega (arith, head-eq_of_cons-eq (tail-eq_of_cons-eq e)))
    by false true p q e = absurd (omega (arith, head-eq_of_cons-eq (tail-eq_of_cons-eq e)))
    by false false p q e =
        let a = ltb-false u 0x80 p in
        let b = ltb-false v 0x80 q in
        omega (arith, hex_told 2 (suc (0x100 - suc u)) (suc (0x100 - suc v)) (omega arith) (omega arith) (tail-eq_of_cons-eq (tail-eq_of_cons-eq e)))

-- a signed name has two digits
two_digits : (a : Operand) → is_signed a ≡ true → digits_of a ≡ 2
unfolding digits_of among same_name
two_digits a s = ⊎_elim (λ e. ap digits_of e) (λ e. ap digits_of e) (no_other a s)

-- of a byte the low byte is all
byte_number : (a : Operand) → is_signed a ≡ true → (v : ℕ) → v < 0x100 → number_of a v ≡ signed v
byte_number a s v h = low_byte a s v ∙ ap signed (mod-eq_of_lt h)

-- a name with a number tells it whole, and one without has 0
pub number_told : (a : Operand) (u v : ℕ) → u < 16 ^ digits_of a → v < 16 ^ digits_of a → number_text a (number_of a u) ≡ number_text a (number_of a v) → u ≡ v
unfolding number_text
number_told a u v k l e = by (is_signed a) refl
  where
    by : (b : Bool) → is_signed a ≡ b → u ≡ v
    by true s =
        let d = two_digits a s in
        let g : u < 0x100 = rw d at k in
        let h : v < 0x100 = rw d at l in
        signed_told u v g h (rw (s, d, byte_number a s u g, byte_number a s v h) at e)
    by false s = equals_told (digits_of a) u v k l (rw (s, as_it_is a s u, as_it_is a s v) at e)
