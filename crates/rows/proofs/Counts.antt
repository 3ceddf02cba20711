-- How many codes of document 01 come to what, and how far its rows read, by computation.
-- Assumes nothing.
use Prim.Native.Nat.{ℕ, ◌≤◌, ◌<◌}
use mathlib.Core.Path.{◌≡◌, refl}
use mathlib.Core.Bool.{Bool, true}
use lib.Dec.{T, leb, leb→le}
use Rattle.laws.specs.Choice.{both}
use Rattle.rows.specs.All.{every_code, count_codes}
use Rattle.rows.specs.Fate.{ends, marked_at, reads_at, reach}
use Rattle.rows.specs.Groups.{known, rows_of, document01}
use Rattle.rows.proofs.All.{every_code_lem}

-- accepted; of them marked; always refused with 2; with 3; of these, judged only once bytes behind the code were read
pub counts : (count_codes (ends 0) ≡ 8228) × (count_codes (λ a b. both (ends 0 a b) (marked_at a b)) ≡ 446) × (count_codes (ends 2) ≡ 148) × (count_codes (ends 3) ≡ 328)
    × (count_codes (λ a b. both (ends 3 a b) (reads_at a b)) ≡ 56)
unfolding count_codes ends marked_at reads_at rows_of
counts = (refl, refl, refl, refl, refl)

short : ℕ → ℕ → Bool
short a b = leb (reach (document01.row_at a b).reads) 5

all_short : T (every_code short)
unfolding every_code short rows_of
all_short = tt

-- no row reads more than five bytes behind its second
pub five : (a b : ℕ) → known a ≡ true → b < 256 → reach (document01.row_at a b).reads ≤ 5
unfolding short
five a b e l = leb→le _ 5 (every_code_lem short all_short b l a e)
