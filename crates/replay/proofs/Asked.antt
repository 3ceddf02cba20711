-- What a line's record has for an operand is a number of 64 bits, so its bits are those of no other.
-- Assumes nothing.
use Rattle.std.proofs.Common.{◌≡◌, ℕ, ◌+◌, ◌-◌, ◌^◌, ◌<◌, Bool, true, false, leb, List, get_or, ℤ, sym, refl, subst, arith, to_z-of_z, w64, SFits, to_z, of_z, leb-true}
use Rattle.laws.specs.Choice.{pick, both, either}
use Rattle.m16c_operand_number.specs.Told.{asked}
use Rattle.m16c_operand_number.proofs.Laws.{asked_fits}
use Rattle.replay.specs.Hex.{is_digit, digit_of, word_at, long_at}
use Rattle.replay.specs.Encoding.{record_in}

digit_small : (c : ℕ) → digit_of c < 16
unfolding is_digit digit_of
digit_small c = by (leb 48 c) (leb c 57) (leb 65 c) (leb c 70) refl refl
  where
    by : (u v x y : Bool) → leb c 57 ≡ v → leb c 70 ≡ y → pick (either (both u v) (both x y)) (pick v (c - 48) (c - 65 + 10)) 0 < 16
    by true true x y e f = omega (arith, leb-true c 57 e)
    by true false true true e f = omega (arith, leb-true c 70 f)
    by true false true false e f = omega arith
    by true false false y e f = omega arith
    by false true true true e f = omega (arith, leb-true c 57 e)
    by false true true false e f = omega arith
    by false true false y e f = omega arith
    by false false true true e f = omega (arith, leb-true c 70 f)
    by false false true false e f = omega arith
    by false false false y e f = omega arith

module _ (s : List ℕ) where
  word_small : (at : ℕ) → word_at s at < 2 ^ 16
  word_small at =
      omega (
        arith,
        digit_small (get_or s at 0),
        digit_small (get_or s (at + 1) 0),
        digit_small (get_or s (at + 2) 0),
        digit_small (get_or s (at + 2 + 1) 0),
      )

  long_small : (at : ℕ) → long_at s at < 2 ^ 32
  long_small at = omega (arith, word_small at, word_small (at + 4))

  pub kept : (k : ℕ) {n : ℤ} → n ≡ (asked (record_in s) k).value → to_z w64 (of_z w64 n) ≡ n
  kept k e = to_z-of_z (subst (SFits w64) (sym e) (asked_fits (record_in s) k (long_small 12) (omega (arith, word_small 21)) (omega (arith, word_small 25))))
