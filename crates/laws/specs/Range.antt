-- A test at every number below a bound, and how many of them pass.
use Rattle.std.specs.Prelude.{ℕ, zero, suc, ◌+◌, Bool, true}
use Rattle.laws.specs.Choice.{pick, both}

unfoldable pub upto : (ℕ → Bool) → ℕ → Bool
upto f zero = true
upto f (suc n) = both (f n) (upto f n)

unfoldable pub how_many : (ℕ → Bool) → ℕ → ℕ
how_many f zero = 0
how_many f (suc n) = pick (f n) 1 0 + how_many f n

-- a sum over the numbers below a bound
unfoldable pub total : (ℕ → ℕ) → ℕ → ℕ
total f zero = 0
total f (suc n) = f n + total f n

-- what is stated of every number below a bound, as one tuple
abbrev pub Each : (ℕ → Type 0) → ℕ → Type 0
Each P zero = Unit {0}
Each P (suc n) = Each P n × P n
