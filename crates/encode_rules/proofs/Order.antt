-- The order of answers: shorter, or as long and first in byte order.
-- Assumes nothing.
use Prim.Native.Nat.{ℕ, ◌≤◌}
use mathlib.Core.Path.{◌≡◌, refl, sym, ap₂}
use mathlib.Core.Bool.{Bool, true, false}
use mathlib.Core.List.{List, [], ◌∷◌, ◌++◌}
use native.Mathlib.Omega.{arith}
use lib.ListN.{length}
use lib.Dec.{ltb}
use borrow.Author.Tests.{ltb-true, ltb-false}
use Rattle.laws.specs.Choice.{pick}
use Rattle.encode_rules.specs.Says.{First, Ahead}
use Rattle.encode_rules.specs.steps.Search.{firstb, aheadb}

first_trans : (xs ys zs : List ℕ) → First xs ys → First ys zs → First xs zs
first_trans [] ys zs p q = tt
first_trans (x ∷ xs) [] zs p q = absurd p
first_trans (x ∷ xs) (y ∷ ys) [] p q = absurd q
first_trans (x ∷ xs) (y ∷ ys) (z ∷ zs) p q = (omega arith, λ e. first_trans xs ys zs (p.1 (omega arith)) (q.1 (omega arith)))

pub ahead_trans : {xs ys zs : List ℕ} → Ahead xs ys → Ahead ys zs → Ahead xs zs
ahead_trans {xs} {ys} {zs} p q = record { short = omega arith; first = λ e. first_trans xs ys zs (p.first (omega arith)) (q.first (omega arith)) }

pub first_refl : (xs : List ℕ) → First xs xs
first_refl [] = tt
first_refl (x ∷ xs) = (omega arith, λ e. first_refl xs)

pub ahead_refl : (xs : List ℕ) → Ahead xs xs
ahead_refl xs = record { short = omega arith; first = λ e. first_refl xs }

first_same : (xs ys : List ℕ) → length xs ≡ length ys → First xs ys → First ys xs → xs ≡ ys
first_same [] [] e p q = refl
first_same [] (y ∷ ys) e p q = absurd q
first_same (x ∷ xs) [] e p q = absurd p
first_same (x ∷ xs) (y ∷ ys) e p q =
    let h : x ≡ y = omega (arith, p.0, q.0) in
    ap₂ (λ z zs. z ∷ zs) h (first_same xs ys (omega arith) (p.1 h) (q.1 (sym h)))

-- no two answers are best
pub ahead_same : (xs ys : List ℕ) → Ahead xs ys → Ahead ys xs → xs ≡ ys
ahead_same xs ys p q = let e : length xs ≡ length ys = omega arith in first_same xs ys e (p.first e) (q.first (sym e))

-- the test and the order
abbrev lead : ℕ → ℕ → Bool → Bool
lead x y q = pick (ltb x y) true (pick (ltb y x) false q)

lead_true : (x y : ℕ) (q : Bool) → lead x y q ≡ true → (x ≤ y) × (x ≡ y → q ≡ true)
lead_true x y q e = go (ltb x y) refl (ltb y x) refl e
  where
    go : (a : Bool) → ltb x y ≡ a → (b : Bool) → ltb y x ≡ b → pick a true (pick b false q) ≡ true → (x ≤ y) × (x ≡ y → q ≡ true)
    go true p b r h = (omega (arith, ltb-true x y p), λ e. absurd (omega (arith, ltb-true x y p)))
    go false p true r h = let z : ◌≡◌ {A = ℕ} 0 1 = cc in absurd (omega arith)
    go false p false r h = (omega (arith, ltb-false y x r), λ e. h)

lead_false : (x y : ℕ) (q : Bool) → lead x y q ≡ false → (y ≤ x) × (y ≡ x → q ≡ false)
lead_false x y q e = go (ltb x y) refl (ltb y x) refl e
  where
    go : (a : Bool) → ltb x y ≡ a → (b : Bool) → ltb y x ≡ b → pick a true (pick b false q) ≡ false → (y ≤ x) × (y ≡ x → q ≡ false)
    go true p b r h = let z : ◌≡◌ {A = ℕ} 0 1 = cc in absurd (omega arith)
    go false p true r h = (omega (arith, ltb-true y x r), λ e. absurd (omega (arith, ltb-true y x r)))
    go false p false r h = (omega (arith, ltb-false x y p), λ e. h)

pub first_true : (xs ys : List ℕ) → firstb xs ys ≡ true → First xs ys
first_true [] ys e = tt
first_true (x ∷ xs) [] e = let z : ◌≡◌ {A = ℕ} 0 1 = cc in absurd (omega arith)
first_true (x ∷ xs) (y ∷ ys) e =
    let h = lead_true x y (firstb xs ys) e in
    (h.0, λ q. first_true xs ys (h.1 q))

first_false : (xs ys : List ℕ) → firstb xs ys ≡ false → First ys xs
first_false [] ys e = let z : ◌≡◌ {A = ℕ} 0 1 = cc in absurd (omega arith)
first_false (x ∷ xs) [] e = tt
first_false (x ∷ xs) (y ∷ ys) e =
    let h = lead_false x y (firstb xs ys) e in
    (h.0, λ q. first_false xs ys (h.1 q))

pub ahead_true : (xs ys : List ℕ) → aheadb xs ys ≡ true → Ahead xs ys
ahead_true xs ys e =
    let h = lead_true (length xs) (length ys) (firstb xs ys) e in
    record { short = h.0; first = λ q. first_true xs ys (h.1 q) }

pub ahead_false : (xs ys : List ℕ) → aheadb xs ys ≡ false → Ahead ys xs
ahead_false xs ys e =
    let h = lead_false (length xs) (length ys) (firstb xs ys) e in
    record { short = h.0; first = λ q. first_false xs ys (h.1 q) }

-- as long, and nowhere above
abbrev pub Below : List ℕ → List ℕ → Type 0
Below [] [] = Unit {0}
Below [] (y ∷ ys) = ⊥
Below (x ∷ xs) [] = ⊥
Below (x ∷ xs) (y ∷ ys) = (x ≤ y) × Below xs ys

-- bytes that are nowhere above, and any behind them, come first
below_first : (xs more ys : List ℕ) → Below (xs ++ more) ys → First xs ys
below_first [] more ys h = tt
below_first (x ∷ xs) more [] h = absurd h
below_first (x ∷ xs) more (y ∷ ys) h = (h.0, λ _. below_first xs more ys h.1)

below_length : (xs more ys : List ℕ) → Below (xs ++ more) ys → length xs ≤ length ys
below_length [] more ys h = omega arith
below_length (x ∷ xs) more [] h = absurd h
below_length (x ∷ xs) more (y ∷ ys) h = omega (arith, below_length xs more ys h.1)

pub below_ahead : (xs more ys : List ℕ) → Below (xs ++ more) ys → Ahead xs ys
below_ahead xs more ys h = record { short = below_length xs more ys h; first = λ _. below_first xs more ys h }
