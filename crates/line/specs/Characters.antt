-- Numbers in upper-case hex digits, as texts.
use Rattle.std.specs.Prelude.{ℕ, zero, suc, ◌+◌, ◌/◌, ◌%◌, ◌^◌, List, [], ◌∷◌, ltb}
use Rattle.laws.specs.Choice.{pick}

-- 0 to 9, then A to F
unfoldable pub digit : ℕ → ℕ
digit d = pick (ltb d 10) (48 + d) (55 + d)

-- the low n digits of a number, the highest first
abbrev pub hex : ℕ → ℕ → List ℕ
hex zero v = []
hex (suc n) v = digit (v / 16 ^ n % 16) ∷ hex n v
