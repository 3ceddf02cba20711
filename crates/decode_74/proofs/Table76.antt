-- 76 and 77: the code's three shapes are document 01's rows.
-- Assumes nothing.
use Prim.Native.Nat.{ℕ, ◌<◌}
use mathlib.Core.Path.{◌≡◌, refl}
use Rattle.laws.proofs.Agree.{agree}
use Rattle.record.specs.declared.Width.{Width}
use Rattle.rows.specs.Rows.{row, row76}
use Rattle.decode_74.specs.steps.Op76.{unary76, immediate76, both76, table76}

pub tables76 : (w : Width) (n h : ℕ) → h < 16 → row76 w h n ≡ table76 w h n
unfolding row row76 unary76 immediate76 both76
tables76 w n = agree (λ h. row76 w h n) (λ h. table76 w h n) 16 refl
