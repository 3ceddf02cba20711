-- There are operands 0, 1 and 2: what is said of every other number is said of those that are none of these.
-- Assumes nothing.
use Prim.Native.Nat.{ℕ, zero, suc}
use mathlib.Core.Path.{◌≡◌, refl}

pub no_other : {A : Type 0} (f : ℕ → A) (d : A) → ((k : ℕ) → d ≡ f (suc (suc (suc k)))) → (k : ℕ) → (k ≡ 0 → ⊥) → (k ≡ 1 → ⊥) → (k ≡ 2 → ⊥) → d ≡ f k
no_other f d h zero a b c = absurd (a refl)
no_other f d h (suc zero) a b c = absurd (b refl)
no_other f d h (suc (suc zero)) a b c = absurd (c refl)
no_other f d h (suc (suc (suc k))) a b c = h k
