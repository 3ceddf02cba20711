-- The ones of a byte, as the machine counts them, are those among its eight bits.
-- Assumes nothing.
use Prim.Native.Nat.{ℕ, ◌<◌}
use mathlib.Core.Path.{◌≡◌, refl}
use lib.Count.{ones}
use Rattle.laws.proofs.Agree.{agree}
use Rattle.rows.specs.RegisterList.{registers_in}

pub eight_bits : (b : ℕ) → b < 256 → ones b ≡ registers_in b
unfolding ones registers_in
eight_bits = agree ones registers_in 256 refl
