-- What holds of each first byte that has rows holds of each known one; a test over all codes that passes is a law for each code.
-- Assumes nothing.
use Prim.Native.Nat.{ℕ, ◌<◌}
use mathlib.Core.Path.{◌≡◌, refl, sym, subst}
use mathlib.Core.Bool.{Bool, true, false}
use mathlib.Core.List.{List, [], ◌∷◌, ◌++◌}
use lib.Dec.{T, eqb}
use borrow.Author.Tests.{eqb-true}
use Rattle.laws.specs.Range.{upto}
use Rattle.laws.proofs.Choice.{both_left, both_right}
use Rattle.laws.proofs.Range.{upto_at}
use Rattle.rows.specs.All.{every_first, every_code, EachFirst}
use Rattle.rows.specs.Groups.{Group, groups, known_in, known}

module _ (P : ℕ → Type 0) where
  found : (gs : List Group) → EachFirst P gs → (a : ℕ) → known_in gs a ≡ true → P a
  found [] t a e = absurd (subst T (sym e) tt)
  found (g ∷ gs) t a e = by (eqb a g.byte) refl (found gs t.1 a)
    where
      by : (x : Bool) → eqb a g.byte ≡ x → (known_in gs a ≡ true → P a) → P a
      by true p k = subst P (sym (eqb-true a g.byte p)) t.0
      by false p k = k (rw p at e)

  pub each_first : EachFirst P groups → (a : ℕ) → known a ≡ true → P a
  unfolding known
  each_first = found groups

pub tested : (f : ℕ → Bool) (gs : List Group) → T (every_first f gs) → EachFirst (λ a. T (f a)) gs
tested f [] t = tt
tested f (g ∷ gs) t = (both_left (f g.byte) (every_first f gs) t, tested f gs (both_right (f g.byte) (every_first f gs) t))

-- and what holds of each first byte of two lists holds of those of both
pub joined : (P : ℕ → Type 0) (gs hs : List Group) → EachFirst P gs → EachFirst P hs → EachFirst P (gs ++ hs)
joined P [] hs t u = u
joined P (g ∷ gs) hs t u = (t.0, joined P gs hs t.1 u)

pub every_first_lem : (f : ℕ → Bool) → T (every_first f groups) → (a : ℕ) → known a ≡ true → T (f a)
every_first_lem f t = each_first (λ a. T (f a)) (tested f groups t)

pub every_code_lem : (f : ℕ → ℕ → Bool) → T (every_code f) → (b : ℕ) → b < 256 → (a : ℕ) → known a ≡ true → T (f a b)
unfolding every_code
every_code_lem f t b l a e = upto_at (f a) 256 (every_first_lem (λ a. upto (f a) 256) t a e) b l
