-- 7C: the code's tables and tests are document 01's rows.
-- Assumes nothing.
use Prim.Native.Nat.{ℕ, ◌%◌, ◌<◌}
use mathlib.Core.Path.{◌≡◌, refl}
use mathlib.Core.List.{[], ◌∷◌}
use lib.Dec.{ltb}
use Rattle.laws.specs.Choice.{pick}
use Rattle.laws.proofs.Agree.{agree, Rest, agree_past}
use Rattle.rows.specs.Row.{InvalidOpcode}
use Rattle.rows.specs.Rows.{row, refused, exchanged, bad_exts, row_7C, row_7CF}
use Rattle.decode_7c.specs.steps.Op7C.{meant_by, nibble, no_exts}

pub meant : (n : ℕ) → n < 16 → meant_by n ≡ exchanged n
meant = agree meant_by exchanged 16 refl

-- a row at the h that the code's match leaves
pub nibbles : (n h : ℕ) → h < 16 → Rest (15 ∷ 14 ∷ 13 ∷ 12 ∷ 7 ∷ 6 ∷ 5 ∷ 4 ∷ []) h → row_7C h n ≡ nibble h n
unfolding row row_7C nibble
nibbles n = agree_past (15 ∷ 14 ∷ 13 ∷ 12 ∷ 7 ∷ 6 ∷ 5 ∷ 4 ∷ []) (refused InvalidOpcode) (λ h. row_7C h n) (λ h. nibble h n) 16 refl

-- no h but those and the code's match has a row
pub others : (n h : ℕ) → h < 16 → Rest (15 ∷ 14 ∷ 12 ∷ 6 ∷ 5 ∷ 4 ∷ []) h → row_7C h n ≡ pick (ltb (h % 8) 4) (nibble h n) (refused InvalidOpcode)
unfolding row row_7C nibble
others n = agree_past (15 ∷ 14 ∷ 12 ∷ 6 ∷ 5 ∷ 4 ∷ []) (refused InvalidOpcode) (λ h. row_7C h n) (λ h. pick (ltb (h % 8) 4) (nibble h n) (refused InvalidOpcode)) 16 refl

-- under F, the code's match has every row
pub past_F : (n : ℕ) → n < 16 → Rest (3 ∷ 2 ∷ 1 ∷ 0 ∷ []) n → row_7CF n ≡ refused InvalidOpcode
unfolding row row_7CF
past_F = agree_past (3 ∷ 2 ∷ 1 ∷ 0 ∷ []) (refused InvalidOpcode) row_7CF (λ n. refused InvalidOpcode) 16 refl

-- the code's test
pub no_exts_lem : (n : ℕ) → n < 16 → no_exts n ≡ bad_exts n
no_exts_lem = agree no_exts bad_exts 16 refl
