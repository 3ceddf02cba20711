-- Whether a number that is in imm_wide is exact.
-- Assumes nothing.
use Prim.Native.Nat.{ℕ, zero, suc}
use mathlib.Core.Path.{◌≡◌, refl}
use mathlib.Core.Logic.{◌≢◌}
use mathlib.Core.Bool.{true, false≢true}
use lib.Dec.{eqb}
use Rattle.record.specs.declared.fields.Field.{Field}
use Rattle.record.specs.declared.fields.Field.TheVariants.{Nowhere as nowhere, Wide as wide, Short as short, Early as early}
use Rattle.encode_rules.specs.steps.Can.{exact}
use Rattle.encode_choice.specs.steps.Coded.{is_wide}

-- a number that is not read
module _ (n own v : ℕ) where
  pub exact_own : (f : Field) → is_wide f ≡ true → n ≡ 0 → eqb v own ≡ exact f n own v
  exact_own wide h z = rw z refl
  exact_own nowhere h z = absurd (false≢true h)
  exact_own short h z = absurd (false≢true h)
  exact_own early h z = absurd (false≢true h)

  pub exact_read : (f : Field) → is_wide f ≡ true → n ≢ 0 → true ≡ exact f n own v
  exact_read wide h z = by n z
    where
      by : (n : ℕ) → n ≢ 0 → true ≡ exact wide n own v
      by zero z = absurd (z refl)
      by (suc n) z = refl
  exact_read nowhere h z = absurd (false≢true h)
  exact_read short h z = absurd (false≢true h)
  exact_read early h z = absurd (false≢true h)
