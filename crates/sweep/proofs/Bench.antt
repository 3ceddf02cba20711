-- What sweeps read, of images in numbers: the rules' fourteen bytes by both rules, six bytes of which most is read, and refused sweeps.
-- Assumes nothing.
use mathlib.Core.Path.{◌≡◌, refl}
use mathlib.Core.List.{List, [], ◌∷◌}
use lib.ListN.{replicate}
use Prim.Native.Nat.{ℕ, ◌+◌}
use Rattle.rows.specs.Groups.{known, rows_of, document01}
use Rattle.rows.specs.Codes.{cond_of}
use Rattle.rows.specs.Run.{decode_by, run_row, run, read_disp, read_into}
use Rattle.sweep.specs.declared.Rule.TheVariants.{GoOn, Stop}
use Rattle.sweep.specs.Walk.{step_at, go, walk}
use Rattle.sweep.specs.Swept.{not_swept}
use Rattle.sweep.specs.Sweep.{whole}

abbrev document : List ℕ
document = 0x74 ∷ 0x0F ∷ 0x34 ∷ 0x12 ∷ 0x89 ∷ 0x67 ∷ 0xF5 ∷ 0x7D ∷ 0xC8 ∷ 0x05 ∷ 0xEB ∷ 0xC5 ∷ 0x7E ∷ 0xE0 ∷ []

-- 7, 3 and 2 accepted; 2 and, going on, 1 refused
pub read_of_document : ((whole document01 Stop document (replicate 14 0)).swept.read ≡ 7 + 3 + 2 + 2) × ((whole document01 GoOn document (replicate 14 0)).swept.read ≡ 7 + 3 + 2 + 2 + 1)
unfolding whole walk go step_at decode_by run_row run read_disp read_into cond_of known rows_of
read_of_document = (refl, refl)

abbrev most : List ℕ
most = 0x74 ∷ 0x0C ∷ 0x76 ∷ 0x7D ∷ 0xEB ∷ 0x00 ∷ []

-- one less than three times the length
pub read_most : ((whole document01 Stop most (replicate 6 0)).swept.read ≡ 6) × ((whole document01 GoOn most (replicate 6 0)).swept.read ≡ 6 + 1 + 4 + 3 + 2 + 1)
unfolding whole walk go step_at decode_by run_row run read_disp read_into cond_of known rows_of
read_most = (refl, refl)

pub none_read : ((whole document01 GoOn most (replicate 5 0)).swept ≡ not_swept 6) × ((whole document01 GoOn [] []).swept.read ≡ 0)
unfolding whole walk go step_at
none_read = (refl, refl)
