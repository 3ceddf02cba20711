-- Where m16c_operand_number answers 0 and 5, and what it then leaves.
-- Assumes nothing.
use Prim.Native.Nat.{ℕ, zero, suc, ◌<◌, ◌^◌}
use mathlib.Core.Path.{◌≡◌, refl}
use mathlib.Core.Bool.{Bool, true, false}
use mathlib.Core.List.{List}
use mathlib.Core.Logic.{◌⊎◌, inl, inr}
use native.Mathlib.Omega.{arith}
use lib.IntN.{pos}
use lib.ListN.{get_or}
use mir.Syntax.{w64}
use mir.Val.{SFits}
use Rattle.laws.specs.Choice.{pick}
use Rattle.record.specs.declared.Record.{Record}
use Rattle.record.specs.declared.Operand.{Operand}
use Rattle.record.specs.declared.fields.Field.{Field}
use Rattle.record.specs.declared.fields.Field.TheVariants.{Nowhere as nowhere, Wide as wide, Short as short, Early as early}
use Rattle.record.specs.Blank.{blank}
use Rattle.record.specs.Same.{same_name, among, field_of, field_at, value_of}
use Rattle.record.specs.Signed.{number_of, name_at, number_at}
use Rattle.record.proofs.Counted.{of_nothing, number_fits}
use Rattle.from_numbers.specs.Made.{valid, made_of, record_of}
use Rattle.m16c_operand_number.specs.Told.{asked, refusal_of}

zero_or_five_at : (f : Field) → (refusal_of f ≡ 0) ⊎ (refusal_of f ≡ 5)
zero_or_five_at nowhere = inr refl
zero_or_five_at wide = inl refl
zero_or_five_at short = inl refl
zero_or_five_at early = inl refl

zero_in : (a : Operand) (f : Field) (r : Record) → refusal_of f ≡ 5 → number_of a (value_of f r) ≡ pos 0
zero_in a nowhere r e = of_nothing a
zero_in a wide r e = absurd (omega (arith, e))
zero_in a short r e = absurd (omega (arith, e))
zero_in a early r e = absurd (omega (arith, e))

-- the blank record has no number
none_in_blank : (k : ℕ) → refusal_of (number_at blank k).field ≡ 5
unfolding field_of among same_name
none_in_blank zero = refl
none_in_blank (suc zero) = refl
none_in_blank (suc (suc zero)) = refl
none_in_blank (suc (suc (suc k))) = refl

module _ (ns : List ℕ) (k : ℕ) where
  -- 0 or 5, and no other
  pub zero_or_five : (refusal_of (asked ns k).field ≡ 0) ⊎ (refusal_of (asked ns k).field ≡ 5)
  zero_or_five = zero_or_five_at (asked ns k).field

  -- with 5 the number is 0
  pub five_leaves_zero : refusal_of (asked ns k).field ≡ 5 → (asked ns k).value ≡ pos 0
  five_leaves_zero e = zero_in (name_at (record_of ns) k) (field_at (record_of ns) k) (record_of ns) e

  -- there is no operand above 2
  pub no_fourth : refusal_of (asked ns (suc (suc (suc k)))).field ≡ 5
  no_fourth = refl

  -- numbers that make no record have no number
  pub no_record : valid ns ≡ false → refusal_of (asked ns k).field ≡ 5
  no_record e = rw e (none_in_blank k)

  -- of numbers of 32 bits it is a number of 64
  module _ (h7 : get_or ns 7 0 < 2 ^ 32) (h8 : get_or ns 8 0 < 2 ^ 32) (h9 : get_or ns 9 0 < 2 ^ 32) where
    held_small : (f : Field) → value_of f (record_of ns) < 2 ^ 32
    held_small f = by f (valid ns)
      where
        by : (f : Field) (b : Bool) → value_of f (pick b (made_of ns) blank) < 2 ^ 32
        by nowhere b = omega arith
        by wide true = h7
        by short true = h8
        by early true = h9
        by wide false = omega arith
        by short false = omega arith
        by early false = omega arith

    pub asked_fits : SFits w64 (asked ns k).value
    asked_fits = number_fits (name_at (record_of ns) k) _ (held_small (field_at (record_of ns) k))
