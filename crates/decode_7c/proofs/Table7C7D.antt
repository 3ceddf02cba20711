-- What 7C and 7D have together: the code's tables are document 01's rows.
-- Assumes nothing.
use Prim.Native.Nat.{ℕ, ◌<◌}
use mathlib.Core.Path.{◌≡◌, refl}
use mathlib.Core.Bool.{Bool, true, false}
use mathlib.Core.List.{List}
use Rattle.laws.proofs.Agree.{agree}
use Rattle.record.specs.declared.Width.{Width}
use Rattle.rows.specs.Rows.{row, mulu, mul, row_E}
use Rattle.rows.specs.Run.{read_disp, run, run_row}
use Rattle.readers.specs.steps.Width.{width_of}
use Rattle.decode_7c.specs.steps.Shared.{mul_by, table_E}

pub tables_E : (w : Width) (n : ℕ) → n < 16 → row_E w n ≡ table_E w n
unfolding row row_E table_E
tables_E w = agree (row_E w) (table_E w) 16 refl

-- MULU reads its first operand, a register, which takes no byte: the code goes without
pub unsigned : (byte : Bool) (n : ℕ) (bs : List ℕ) → run_row (mul_by true (width_of byte) n) bs ≡ run_row (mulu (width_of byte) n) bs
unfolding run run_row row read_disp
unsigned true n bs = refl
unsigned false n bs = refl

-- and MUL
pub signed : (byte : Bool) (n : ℕ) (bs : List ℕ) → run_row (mul_by false (width_of byte) n) bs ≡ run_row (mul (width_of byte) n) bs
unfolding run run_row row read_disp
signed true n bs = refl
signed false n bs = refl
