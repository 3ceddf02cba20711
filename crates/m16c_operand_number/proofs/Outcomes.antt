-- The promise of m16c_operand_number allows one outcome: the number returned and the number left.
-- Assumes nothing.
use Prim.Native.Nat.{ℕ}
use mathlib.Core.Path.{◌≡◌, sym, ◌∙◌}
use mathlib.Core.List.{List}
use lib.IntN.{ℤ}
use Rattle.m16c_operand_number.specs.Told.{TellsNumber}

pub tells_number_once : {ns : List ℕ} {k r s : ℕ} {n m : ℤ} → TellsNumber ns k r n → TellsNumber ns k s m → (r ≡ s) × (n ≡ m)
tells_number_once a b = (a.returned ∙ sym b.returned, a.left ∙ sym b.left)
