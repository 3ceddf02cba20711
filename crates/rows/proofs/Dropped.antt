-- Request A6: what `dropped` tells of the bytes, of any row table.
-- Assumes nothing.
use Prim.Native.Nat.{ℕ, ◌+◌}
use mathlib.Core.Path.{◌≡◌, refl, sym, ◌∙◌}
use mathlib.Core.Bool.{Bool, true, false}
use mathlib.Core.List.{List, ◌∷◌}
use lib.Dec.{leb}
use lib.ListN.{get_or}
use native.Mathlib.Omega.{arith}
use Rattle.laws.specs.Choice.{both}
use Rattle.rows.specs.All.{count_codes}
use Rattle.rows.specs.Bytes.{Bytes}
use Rattle.rows.specs.Fate.{ends, marked_at}
use Rattle.rows.specs.Row.{Table}
use Rattle.rows.specs.Groups.{rows_of, document01}
use Rattle.rows.specs.Run.{decode_by}
use Rattle.rows.specs.Spans.{Source, code, read, twenty, spans_of, dropped_in}
use Rattle.rows.proofs.Bytes.{at_bytes}
use Rattle.rows.proofs.Reading.{over_twenty}
use Rattle.rows.proofs.Spans.{accepted}

-- the third byte of a 20-bit number is 10 (hex) or more; of any other number nothing is dropped
abbrev pub third_tells : List ℕ → Source → Bool
third_tells bs code = false
third_tells bs (read s) = false
third_tells bs (twenty p) = leb 0x10 (get_or bs (p + 2) 0)

told : (bs : List ℕ) → Bytes bs → (w : Source) → dropped_in bs w ≡ third_tells bs w
told bs h code = refl
told bs h (read s) = refl
told bs h (twenty p) =
    let e : p + 1 + 1 ≡ p + 2 = omega arith in
    rw e (sym (over_twenty _ _ _ (at_bytes p bs h) (at_bytes (p + 1) bs h)))

pub third : (t : Table) (a b : ℕ) (bs : List ℕ) → Bytes (a ∷ b ∷ bs) → (decode_by t (a ∷ b ∷ bs)).refusal ≡ 0
    → (decode_by t (a ∷ b ∷ bs)).inst.dropped ≡ third_tells (a ∷ b ∷ bs) (spans_of (t.row_at a b)).wide
third t a b bs h z = (accepted t a b bs z).made.dropped ∙ told (a ∷ b ∷ bs) h (spans_of (t.row_at a b)).wide

-- of document 01's accepted codes 138 read such a number, four of them marked (JMPI and JSRI of 7D 2C, 2D, 3C, 3D)
is_twenty : Source → Bool
is_twenty code = false
is_twenty (read s) = false
is_twenty (twenty p) = true

pub reads_twenty : ℕ → ℕ → Bool
reads_twenty a b = both (ends 0 a b) (is_twenty (spans_of (document01.row_at a b)).wide)

pub twenty_codes : (count_codes reads_twenty ≡ 138) × (count_codes (λ a b. both (reads_twenty a b) (marked_at a b)) ≡ 4)
unfolding count_codes reads_twenty is_twenty ends marked_at spans_of rows_of
twenty_codes = (refl, refl)
