-- n bytes off a list, low first, and the n bytes of a number.
use Rattle.std.specs.Prelude.{ℕ, zero, suc, ◌+◌, ◌*◌, ◌/◌, ◌%◌, List, [], ◌∷◌}

pub data Grab : Type 0 where
  some : ℕ → List ℕ → Grab
  short : Grab

abbrev pub push : ℕ → Grab → Grab
push b (some v rest) = some (b + 256 * v) rest
push b short = short

abbrev pub grab : ℕ → List ℕ → Grab
grab zero bs = some 0 bs
grab (suc n) [] = short
grab (suc n) (b ∷ bs) = push b (grab n bs)

abbrev pub digits : ℕ → ℕ → List ℕ
digits zero v = []
digits (suc n) v = v % 256 ∷ digits n (v / 256)
