-- What stands behind the first twelve numbers does not count.
-- Assumes nothing.
use Prim.Native.Nat.{ℕ, ◌≤◌}
use mathlib.Core.Path.{◌≡◌}
use mathlib.Core.List.{List, ◌∷◌}
use native.Mathlib.Omega.{arith}
use lib.ListN.{length}
use borrow.Author.Tests.{le-leb}
use Rattle.from_numbers.specs.Made.{valid, record_of}

pub behind_twelve : (a b c d e f g h i j k l : ℕ) (ms ns : List ℕ)
    → record_of (a ∷ b ∷ c ∷ d ∷ e ∷ f ∷ g ∷ h ∷ i ∷ j ∷ k ∷ l ∷ ms) ≡ record_of (a ∷ b ∷ c ∷ d ∷ e ∷ f ∷ g ∷ h ∷ i ∷ j ∷ k ∷ l ∷ ns)
unfolding valid
behind_twelve a b c d e f g h i j k l ms ns =
    let enough : (ys : List ℕ) → 12 ≤ length (a ∷ b ∷ c ∷ d ∷ e ∷ f ∷ g ∷ h ∷ i ∷ j ∷ k ∷ l ∷ ys) = λ ys. omega arith in
    rw (le-leb 12 _ (enough ms), le-leb 12 _ (enough ns))
