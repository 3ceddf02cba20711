-- What holds of document 01's rows and of those that request A9 changes holds of every row of the reading by the manual.
-- Assumes nothing.
use Prim.Native.Nat.{ℕ, ◌/◌, ◌%◌, ◌<◌}
use mathlib.Core.Path.{◌≡◌, refl, sym, subst}
use mathlib.Core.Bool.{Bool, true, false}
use mathlib.Core.List.{List, [], ◌∷◌}
use lib.Dec.{T, eqb}
use borrow.Author.Tests.{eqb-true}
use Rattle.laws.specs.Choice.{pick}
use Rattle.laws.specs.Range.{upto}
use Rattle.laws.proofs.Choice.{both_left, both_right}
use Rattle.laws.proofs.Range.{upto_at}
use Rattle.rows.specs.Row.{Row}
use Rattle.rows.specs.Groups.{known, document01}
use Rattle.by_manual.specs.Changed.{Change, stays, becomes, Changes, changes, changes_in, change_at}
use Rattle.by_manual.specs.Table.{changed, by_manual}
use Rattle.by_manual.specs.Lists.{on_changed, every_in, every_changed}

-- a test of every changed row is a law for each
module _ (f : ℕ → ℕ → Row → Bool) (b : ℕ) (l : b < 256) where
  in_list : (cs : List Changes) → T (every_in f cs) → (a : ℕ) → T (on_changed (f a b) (changes_in cs a (b / 16) (b % 16)))
  in_list [] t a = tt
  in_list (c ∷ cs) t a = by (eqb a c.byte) refl (in_list cs (both_right (upto (λ b. on_changed (f c.byte b) (c.rows (b / 16) (b % 16))) 256) _ t) a)
    where
      tests : ℕ → ℕ → Bool
      tests a b = on_changed (f a b) (c.rows (b / 16) (b % 16))

      by : (x : Bool) → eqb a c.byte ≡ x → T (on_changed (f a b) (changes_in cs a (b / 16) (b % 16)))
          → T (on_changed (f a b) (pick x c.rows (changes_in cs a) (b / 16) (b % 16)))
      by true e k = subst (λ a. T (tests a b)) (sym (eqb-true a c.byte e)) (upto_at (tests c.byte) 256 (both_left (upto (tests c.byte) 256) _ t) b l)
      by false e k = k

  pub every_changed_lem : T (every_changed f) → (a : ℕ) → T (on_changed (f a b) (change_at a (b / 16) (b % 16)))
  unfolding every_changed change_at
  every_changed_lem = in_list changes

-- of each code's row
pub each_row : (P : ℕ → ℕ → Row → Type 0) → ((a b : ℕ) → known a ≡ true → b < 256 → P a b (document01.row_at a b))
    → ((a b : ℕ) (w : Row) → b < 256 → change_at a (b / 16) (b % 16) ≡ becomes w → P a b w)
    → (a b : ℕ) → known a ≡ true → b < 256 → P a b (by_manual.row_at a b)
each_row P before new a b k l = by (change_at a (b / 16) (b % 16)) refl
  where
    by : (c : Change) → change_at a (b / 16) (b % 16) ≡ c → P a b (changed c (document01.row_at a b))
    by stays e = before a b k l
    by (becomes w) e = new a b w l e

-- and by a test of the changed rows alone
pub each_tested : (f : ℕ → ℕ → Row → Bool) → T (every_changed f) → ((a b : ℕ) → known a ≡ true → b < 256 → T (f a b (document01.row_at a b)))
    → (a b : ℕ) → known a ≡ true → b < 256 → T (f a b (by_manual.row_at a b))
each_tested f t before =
    each_row (λ a b w. T (f a b w)) before (λ a b w l e. subst (λ c. T (on_changed (f a b) c)) e (every_changed_lem f b l t a))
