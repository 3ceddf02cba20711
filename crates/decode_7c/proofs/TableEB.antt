-- EB: the code's tests are document 01's rows.
-- Assumes nothing.
use Prim.Native.Nat.{ℕ, ◌<◌}
use mathlib.Core.Path.{◌≡◌, refl}
use mathlib.Core.List.{[], ◌∷◌}
use lib.Dec.{leb}
use Rattle.laws.specs.Choice.{pick}
use Rattle.laws.proofs.Agree.{Rest, agree_past}
use Rattle.rows.specs.Row.{InvalidOperand}
use Rattle.rows.specs.Rows.{row, refused, mova, row_EB_low}

-- n from 8 on, which the code's match leaves
pub addresses : (h n : ℕ) → n < 16 → Rest (7 ∷ 6 ∷ 5 ∷ 4 ∷ 3 ∷ 2 ∷ 1 ∷ 0 ∷ []) n → row_EB_low h n ≡ mova h n
unfolding row row_EB_low
addresses h = agree_past (7 ∷ 6 ∷ 5 ∷ 4 ∷ 3 ∷ 2 ∷ 1 ∷ 0 ∷ []) (refused InvalidOperand) (row_EB_low h) (mova h) 16 refl

-- no n but those and the code's match has a row
pub others : (h n : ℕ) → n < 16 → Rest (5 ∷ 4 ∷ 3 ∷ 2 ∷ 1 ∷ 0 ∷ []) n → row_EB_low h n ≡ pick (leb 8 n) (mova h n) (refused InvalidOperand)
unfolding row row_EB_low
others h = agree_past (5 ∷ 4 ∷ 3 ∷ 2 ∷ 1 ∷ 0 ∷ []) (refused InvalidOperand) (row_EB_low h) (λ n. pick (leb 8 n) (mova h n) (refused InvalidOperand)) 16 refl
