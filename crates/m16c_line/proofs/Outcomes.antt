-- The promise of the lines' functions leaves one outcome: the number returned, the line's length, and every byte of the buffer that was passed in.
-- Assumes nothing.
use Prim.Native.Nat.{ℕ}
use mathlib.Core.Path.{◌≡◌, sym, ◌∙◌}
use mathlib.Core.List.{List}
use Rattle.rows.specs.Row.{Table}
use Rattle.m16c_line.specs.Lined.{Lines}

pub lines_once : {t : Table} {image : List ℕ} {at : ℕ} {out : List ℕ} {r s n m : ℕ} {after later : List ℕ} → Lines t image at out r n after → Lines t image at out s m later → (r ≡ s) × (n ≡ m) × (after ≡ later)
lines_once a b = (a.returned ∙ sym b.returned, a.measured ∙ sym b.measured, a.kept ∙ sym b.kept)
