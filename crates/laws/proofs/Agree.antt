-- Two functions agree at every number below a bound: their values, listed and computed, are one list.
-- Assumes nothing.
use Prim.Native.Nat.{ℕ, zero, suc, ◌<◌}
use mathlib.Core.Path.{◌≡◌, refl, sym, ap, ◌∙◌}
use mathlib.Core.Bool.{Bool, true, false}
use mathlib.Core.List.{List, [], ◌∷◌}
use lib.Dec.{eqb}
use borrow.Author.Tests.{ne_eqb}
use Rattle.laws.specs.Choice.{pick}
use Rattle.laws.specs.Range.{Each}
use Rattle.laws.proofs.Range.{each}

-- the last number first
abbrev pub listed : {A : Type 0} → (ℕ → A) → ℕ → List A
listed f zero = []
listed f (suc n) = f n ∷ listed f n

abbrev head : {A : Type 0} → A → List A → A
head d [] = d
head d (x ∷ xs) = x

abbrev tail : {A : Type 0} → List A → List A
tail [] = []
tail (x ∷ xs) = xs

module _ {A : Type 0} (f g : ℕ → A) where
  apart : (n : ℕ) → listed f n ≡ listed g n → Each (λ k. f k ≡ g k) n
  apart zero e = tt
  apart (suc n) e = (apart n (ap tail e), ap (head (f n)) e)

  pub agree : (n : ℕ) → listed f n ≡ listed g n → (k : ℕ) → k < n → f k ≡ g k
  agree n e = each (λ k. f k ≡ g k) n (apart n e)

-- A match's last arm, `_`, is left with the numbers that are none of its keys (which are listed last first).
abbrev pub among : List ℕ → ℕ → Bool
among [] n = false
among (k ∷ ks) n = pick (eqb n k) true (among ks n)

abbrev pub Rest : List ℕ → ℕ → Type 0
Rest [] n = Unit {0}
Rest (k ∷ ks) n = Rest ks n × (n ≡ k → ⊥)

none_among : (ks : List ℕ) (n : ℕ) → Rest ks n → among ks n ≡ false
none_among [] n r = refl
none_among (k ∷ ks) n r = rw (ne_eqb n k r.1) (none_among ks n r.0)

-- d stands for both at the keys
pub agree_past : {A : Type 0} (ks : List ℕ) (d : A) (f g : ℕ → A) (m : ℕ)
    → listed (λ k. pick (among ks k) d (f k)) m ≡ listed (λ k. pick (among ks k) d (g k)) m → (n : ℕ) → n < m → Rest ks n → f n ≡ g n
agree_past ks d f g m e n h r = rw (none_among ks n r) at (agree (λ k. pick (among ks k) d (f k)) (λ k. pick (among ks k) d (g k)) m e n h)

-- A match with a number in each arm: an arm returns what the definition has for its key, and one number is left for the last.
module _ (f : ℕ → ℕ) where
  pub at_key : {a k w : ℕ} → w ≡ f k → a ≡ k → w ≡ f a
  at_key e h = e ∙ ap f (sym h)

  pub at_last : {a w : ℕ} (ks : List ℕ) → listed (λ k. pick (among ks k) w (f k)) 256 ≡ listed (λ k. pick (among ks k) w w) 256 → a < 256 → Rest ks a → w ≡ f a
  at_last {a} {w} ks e l r = sym (agree_past ks w f (λ k. w) 256 e a l r)
