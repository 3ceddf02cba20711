-- A set of numbers below 32, as the bits of one.
use Rattle.std.specs.Prelude.{ℕ, ◌/◌, ◌%◌, ◌^◌, Bool, false, eqb, ltb}
use Rattle.laws.specs.Choice.{pick}

abbrev pub holds : ℕ → ℕ → Bool
holds set n = pick (ltb n 32) (eqb (set / 2 ^ n % 2) 1) false
