-- What the request says by example, and an instruction of each end: what two bytes tell, whatever follows.
-- Assumes nothing.
use Prim.Native.Nat.{ℕ}
use mathlib.Core.Path.{refl}
use mathlib.Core.List.{List, ◌∷◌}
use native.Mathlib.Omega.{arith}
use Rattle.rows.specs.Groups.{known, document01}
use Rattle.lengths.specs.Length.{LengthOf}
use Rattle.lengths.specs.steps.Table.{table}
use Rattle.lengths.specs.steps.Entry.{place, character}
use Rattle.lengths.proofs.Rule.{entry_right}
use Rattle.lengths.proofs.Laws.{of_outside}

pub examples : (bs : List ℕ)
    → LengthOf document01 (0x78 ∷ 0x83 ∷ bs) 3 0 × LengthOf document01 (0x7C ∷ 0xF4 ∷ bs) 2 0 × LengthOf document01 (0x74 ∷ 0x0F ∷ bs) 0 7
    × LengthOf document01 (0x7E ∷ 0x2F ∷ bs) 0 5 × LengthOf document01 (0xEB ∷ 0xC5 ∷ bs) 0 2 × LengthOf document01 (0x00 ∷ bs) 4 0
unfolding known place table character
examples bs = (
  entry_right 0x78 0x83 refl (omega arith),
  entry_right 0x7C 0xF4 refl (omega arith),
  entry_right 0x74 0x0F refl (omega arith),
  entry_right 0x7E 0x2F refl (omega arith),
  entry_right 0xEB 0xC5 refl (omega arith),
  of_outside document01 0x00 bs refl,
)
