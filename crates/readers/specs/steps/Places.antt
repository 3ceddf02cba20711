-- Where the names of other forms than G stand in the one table of names, by code.
use Rattle.std.specs.Prelude.{ℕ, ◌+◌, ◌/◌, ltb, eqb}
use Rattle.laws.specs.Choice.{pick}

-- pairs at codes 0 to 5
abbrev pub pair_place : ℕ → ℕ
pair_place c = pick (ltb c 6) (32 + c) c

-- J's names: Disp20 at C and D
abbrev pub long_place : ℕ → ℕ
long_place c = pick (eqb (c / 2) 6) (26 + c) (pair_place c)
