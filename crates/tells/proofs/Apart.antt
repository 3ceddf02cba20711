-- Numbers by their stamps: a tree in which a stamp's binary digits, lowest first, lead to its number. Numbers that are found so are told apart by their stamps.
-- Assumes nothing.
use Prim.Native.Nat.{ℕ, zero, suc, ◌/◌, ◌%◌}
use mathlib.Core.Path.{◌≡◌, sym, ap, ◌∙◌}

-- a number where the digits end, and two ways where one more is asked
pub data Tree : Type 0 where
  empty : Tree
  leaf : ℕ → Tree
  fork : Tree → Tree → Tree

-- the way of digit 0, and that of digit 1
abbrev left : Tree → Tree
left empty = empty
left (leaf n) = empty
left (fork l r) = l

abbrev right : Tree → Tree
right empty = empty
right (leaf n) = empty
right (fork l r) = r

-- what a digit leads to
abbrev side : ℕ → Tree → Tree
side zero t = left t
side (suc k) t = right t

-- a tree with another part there
abbrev placed : ℕ → Tree → Tree → Tree
placed zero t s = fork s (right t)
placed (suc k) t s = fork (left t) s

-- a number put where so many digits of its stamp lead, over one that was there
unfoldable pub put : ℕ → ℕ → ℕ → Tree → Tree
put zero s n t = leaf n
put (suc d) s n t = placed (s % 2) t (put d (s / 2) n (side (s % 2) t))

-- the number that a tree is, if it is one
abbrev number : Tree → ℕ
number empty = 0
number (leaf n) = n
number (fork l r) = 0

-- the number to which so many digits of a stamp lead
unfoldable pub find : ℕ → ℕ → Tree → ℕ
find zero s t = number t
find (suc d) s t = find d (s / 2) (side (s % 2) t)

-- two numbers that one tree has under one stamp are one number
pub apart : (d : ℕ) (t : Tree) {s r m n : ℕ} → find d s t ≡ m → find d r t ≡ n → s ≡ r → m ≡ n
apart d t p q e = sym p ∙ ap (λ k. find d k t) e ∙ q
