-- 7D: the code's tables and tests are document 01's rows.
-- Assumes nothing.
use Prim.Native.Nat.{ℕ, ◌≤◌, ◌<◌}
use native.Mathlib.Omega.{arith}
use mathlib.Core.Path.{◌≡◌, refl}
use mathlib.Core.List.{[], ◌∷◌}
use lib.Dec.{ltb}
use Rattle.laws.specs.Choice.{pick}
use Rattle.laws.proofs.Agree.{agree, Rest, agree_past}
use Rattle.rows.specs.Row.{InvalidOpcode, Row}
use Rattle.rows.specs.Rows.{row, refused, star_if, jump, flagged, row_7D, row_7DC, row_7DD, row_7DF}
use Rattle.decode_7c.specs.steps.Op7D.{jump_by, no_condition, jump_at, condition_by, marked_by}

-- h below 4
pub jumps : (n h : ℕ) → h < 4 → row_7D h n ≡ jump_by h n
unfolding row row_7D jump_by
jumps n = agree (λ h. row_7D h n) (λ h. jump_by h n) 4 refl

-- no h but those and the code's match has a row
pub others : (n h : ℕ) → h < 16 → Rest (15 ∷ 14 ∷ 13 ∷ 12 ∷ 11 ∷ 10 ∷ 9 ∷ 5 ∷ 4 ∷ []) h → row_7D h n ≡ pick (ltb h 4) (jump_by h n) (refused InvalidOpcode)
unfolding row row_7D jump_by
others n = agree_past (15 ∷ 14 ∷ 13 ∷ 12 ∷ 11 ∷ 10 ∷ 9 ∷ 5 ∷ 4 ∷ []) (refused InvalidOpcode) (λ h. row_7D h n) (λ h. pick (ltb h 4) (jump_by h n) (refused InvalidOpcode)) 16 refl

-- no row at 6, 7 and 8
pub vacant : (n h : ℕ) → 6 ≤ h → h < 9 → row_7D h n ≡ refused InvalidOpcode
unfolding row row_7D
vacant n h l u = grind arith

-- under F, the code's match has every row
pub past_F : (n : ℕ) → n < 16 → Rest (3 ∷ 2 ∷ 1 ∷ 0 ∷ []) n → row_7DF n ≡ refused InvalidOpcode
unfolding row row_7DF
past_F = agree_past (3 ∷ 2 ∷ 1 ∷ 0 ∷ []) (refused InvalidOpcode) row_7DF (λ n. refused InvalidOpcode) 16 refl

abbrev pub table_J : ℕ → Row
table_J n = pick (ltb n 8) (refused InvalidOpcode) (pick (no_condition n) (refused InvalidOpcode) (jump (jump_at n)))

pub conditional_jumps : (n : ℕ) → n < 16 → row_7DC n ≡ table_J n
unfolding row row_7DC
conditional_jumps = agree row_7DC table_J 16 refl

abbrev pub table_D : ℕ → Row
table_D n = pick (no_condition n) (refused InvalidOpcode) (star_if (marked_by n) (flagged (condition_by n)))

pub conditions : (n : ℕ) → n < 16 → row_7DD n ≡ table_D n
unfolding row row_7DD
conditions = agree row_7DD table_D 16 refl
