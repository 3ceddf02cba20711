-- What signed numbers are, and that sameness does not go by them.
-- Assumes nothing.
use Prim.Native.Nat.{ℕ, zero, suc, ◌-◌, ◌<◌, ◌%◌, ◌^◌}
use mathlib.Core.Path.{◌≡◌, refl, ap}
use mathlib.Core.Bool.{Bool, true, false}
use mathlib.Core.Logic.{◌⊎◌, inl, inr}
use native.Mathlib.Omega.{arith}
use lib.Dec.{ltb}
use lib.IntN.{pos, neg_ℤ, nat_abs, sub_ℕ}
use mir.Syntax.{w64}
use mir.Val.{SFits}
use borrow.Author.Tests.{lt-ltb, eqb-true}
use Rattle.laws.specs.Choice.{pick}
use Rattle.record.specs.declared.Record.{Record}
use Rattle.record.specs.declared.Operand.{Operand}
use Rattle.record.specs.declared.Operand.TheVariants.{Disp8, Disp8_FB, Disp8_SP, Bit_Disp8_FB}
use Rattle.record.specs.Same.{same_name, among, field_at, value_of, Same}
use Rattle.record.specs.Signed.{is_signed, signed, number_of}
use Rattle.record.proofs.Apart.{operands_apart}

-- the number of a signed name is its low byte's, exact where bytes turn negative and at both ends
module _ (a : Operand) (s : is_signed a ≡ true) where
  pub low_byte : (v : ℕ) → number_of a v ≡ signed (v % 0x100)
  unfolding number_of
  low_byte v = rw s

  pub exact :
      (number_of a 0x7F ≡ pos 0x7F)
      × (number_of a 0x80 ≡ neg_ℤ (pos 0x80))
      × (number_of a 0x00 ≡ pos 0)
      × (number_of a 0xFF ≡ neg_ℤ (pos 1))
  exact = (low_byte 0x7F, low_byte 0x80, low_byte 0x00, low_byte 0xFF)

-- of any other name it is what the field holds
pub as_it_is : (a : Operand) → is_signed a ≡ false → (v : ℕ) → number_of a v ≡ pos v
unfolding number_of
as_it_is a s v = rw s

-- where nothing is held, the number is 0
pub of_nothing : (a : Operand) → number_of a 0 ≡ pos 0
unfolding number_of
of_nothing a = by (is_signed a)
  where
    by : (b : Bool) → pick b (signed (0 % 0x100)) (pos 0) ≡ pos 0
    by true = refl
    by false = refl

-- two names are signed; the bit form and the stack's displacement are not
pub signed_names_lem :
    (is_signed Disp8_FB ≡ true)
    × (is_signed Disp8 ≡ true)
    × (is_signed Bit_Disp8_FB ≡ false)
    × (is_signed Disp8_SP ≡ false)
unfolding is_signed among same_name
signed_names_lem = (refl, refl, refl, refl)

pub no_other : (a : Operand) → is_signed a ≡ true → (a ≡ Disp8_FB) ⊎ (a ≡ Disp8)
unfolding is_signed among same_name
no_other a e = by (same_name a Disp8_FB) (same_name a Disp8) refl refl e
  where
    by : (x y : Bool) → same_name a Disp8_FB ≡ x → same_name a Disp8 ≡ y → pick x true (pick y true false) ≡ true → (a ≡ Disp8_FB) ⊎ (a ≡ Disp8)
    by true y p q e = inl (operands_apart a Disp8_FB (eqb-true _ _ p))
    by false true p q e = inr (operands_apart a Disp8 (eqb-true _ _ q))
    by false false p q e = absurd (let z : ◌≡◌ {A = ℕ} 0 1 = cc in omega arith)

-- how far a signed byte is from zero, which two digits show whole
pub distance : (b : ℕ) → b < 0x100 → nat_abs (signed b) ≡ pick (ltb b 0x80) b (0x100 - b)
distance b h = by (ltb b 0x80)
  where
    by : (x : Bool) → nat_abs (pick x (pos b) (sub_ℕ b 0x100)) ≡ pick x b (0x100 - b)
    by true = refl
    by false = rw (lt-ltb b 0x100 h) (omega arith)

-- 100 (hex) less than a byte, and any number of 32 bits as it is counted, are numbers of 64 bits
pub less_fits : (b : ℕ) → b < 0x100 → SFits w64 (sub_ℕ b 0x100)
less_fits b h = rw (lt-ltb b 0x100 h) (record { sfits = omega arith })

pub number_fits : (a : Operand) (v : ℕ) → v < 2 ^ 32 → SFits w64 (number_of a v)
unfolding number_of
number_fits a v h = by (is_signed a) (ltb (v % 0x100) 0x80)
  where
    by : (s b : Bool) → SFits w64 (pick s (pick b (pos (v % 0x100)) (sub_ℕ (v % 0x100) 0x100)) (pos v))
    by true true = record { sfits = omega arith }
    by true false = less_fits (v % 0x100) (omega arith)
    by false b = record { sfits = omega arith }

-- what operand k's field holds
abbrev held : Record → ℕ → ℕ
held r k = value_of (field_at r k) r

-- sameness asks for all that a field holds, and not for the number that it is counted as
pub whole_field : (r s : Record) → Same r s → (k : ℕ) → held r k ≡ held s k
whole_field r s e zero = ap (λ x. x.number0) e
whole_field r s e (suc zero) = ap (λ x. x.number1) e
whole_field r s e (suc (suc zero)) = ap (λ x. x.number2) e
whole_field r s e (suc (suc (suc k))) = refl
