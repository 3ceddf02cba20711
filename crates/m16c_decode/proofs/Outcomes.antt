-- The promise of the decoders for C leaves one outcome: the number returned, and every entry of the list passed in.
-- Assumes nothing.
use Prim.Native.Nat.{ℕ, ◌≤◌}
use mathlib.Core.Path.{◌≡◌, sym, ◌∙◌}
use mathlib.Core.List.{List, ◌++◌}
use native.Mathlib.Omega.{arith}
use lib.ListN.{length, drop, length-drop}
use Rattle.record.specs.Answer.{Answer}
use Rattle.rows.specs.Row.{Table}
use Rattle.m16c_decode.specs.Decoded.{numbers_of, entries, Decodes}

pub decodes_once : {t : Table} {image : List ℕ} {at : ℕ} {out : List ℕ} {r s : ℕ} {after later : List ℕ} → Decodes t image at out r after → Decodes t image at out s later → (r ≡ s) × (after ≡ later)
decodes_once a b = (a.returned ∙ sym b.returned, a.kept ∙ sym b.kept)

-- no entry more or less
pub as_long : (a : Answer) (l : List ℕ) → entries ≤ length l → length (numbers_of a ++ drop entries l) ≡ length l
unfolding numbers_of
as_long a l h = omega (arith, length-drop entries l)
