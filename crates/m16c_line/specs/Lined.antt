-- What m16c_line and m16c_line_manual return and leave, by a table of rows.
use Rattle.std.specs.Prelude.{ℕ, ◌≡◌, List, drop, eqb}
use Rattle.laws.specs.Choice.{pick}
use Rattle.record.specs.Answer.{Answer, refusal_in, length_in}
use Rattle.rows.specs.Row.{Table}
use Rattle.rows.specs.Run.{decode_by}
use Rattle.line.specs.Line.{line_of}
use Rattle.line.specs.Left.{Delivered, left}

-- what a program is told: 0 or a refusal's number, and a length that is 0 where there is none; and the buffer
pub record Told : Type 0 where
  pub refusal : ℕ
  pub length : ℕ
  pub buffer : List ℕ

abbrev pub told : Delivered → Told
told d = record { refusal = refusal_in d.written; length = length_in d.written; buffer = d.buffer }

-- a refusal, length 0, and every byte as it was
abbrev pub untouched : ℕ → List ℕ → Told
untouched e out = record { refusal = e; length = 0; buffer = out }

-- an accepted place has its line in the listing; a refused one has none
abbrev pub line_at : ℕ → Answer → List ℕ → Told
line_at at x out = pick (eqb x.refusal 0) (told (left (line_of at x.inst) out)) (untouched x.refusal out)

unfoldable pub lined : Table → List ℕ → ℕ → List ℕ → Told
lined t image at out = line_at at (decode_by t (drop at image)) out

-- the promise: the number returned, the line's length, and every byte of the buffer as it is left
pub record Lines (t : Table) (image : List ℕ) (at : ℕ) (out : List ℕ) (r n : ℕ) (after : List ℕ) : Type 0 where
  pub returned : r ≡ (lined t image at out).refusal
  pub measured : n ≡ (lined t image at out).length
  pub kept : after ≡ (lined t image at out).buffer
