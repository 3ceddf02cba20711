-- What holds between the numbers of two keys holds between what a row's fields take of them.
-- Assumes nothing.
use Prim.Native.Nat.{ℕ}
use mathlib.Core.Bool.{Bool, true, false}
use Rattle.record.specs.declared.Key.{Key}
use Rattle.record.specs.declared.fields.Field.{Field}
use Rattle.record.specs.declared.fields.Field.TheVariants.{Nowhere as nowhere, Wide as wide, Short as short, Early as early}
use Rattle.encode_rules.specs.steps.Search.{wide_for, disp_for, first_for}

module _ (R : ℕ → ℕ → Type 0) (k l : Key) (zeroth : R k.number0 l.number0) (oneth : R k.number1 l.number1) where
  pub of_wide : (p : Field) → R (wide_for p k) (wide_for p l)
  of_wide wide = zeroth
  of_wide nowhere = oneth
  of_wide short = oneth
  of_wide early = oneth

  pub of_disp : (p q : Field) (b : Bool) → R (disp_for p q b k) (disp_for p q b l)
  of_disp short short true = zeroth
  of_disp short short false = oneth
  of_disp short nowhere b = zeroth
  of_disp short wide b = zeroth
  of_disp short early b = zeroth
  of_disp nowhere q b = oneth
  of_disp wide q b = oneth
  of_disp early q b = oneth

  pub of_first : (b : Bool) → R (first_for b k) (first_for b l)
  of_first true = oneth
  of_first false = zeroth
