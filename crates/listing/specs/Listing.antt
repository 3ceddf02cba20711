-- Document 01, "Bench lines", and request A1: the whole text of an image's listing by a table of rows and a rule, a line for each place that the sweep visits.
use Rattle.std.specs.Prelude.{ℕ, List, ◌++◌, length, ltb}
use Rattle.laws.specs.Choice.{pick}
use Rattle.rows.specs.Row.{Table}
use Rattle.rows.specs.Run.{decode_by}
use Rattle.sweep.specs.declared.Rule.{Rule}
use Rattle.sweep.specs.Step.{Step}
use Rattle.sweep.specs.Step.{End, Accepted, Refused}
use Rattle.sweep.specs.Walk.{Walk, last, more, walk}
use Rattle.laws.specs.Text.{spelled}
use Rattle.line.specs.Line.{line_of, end_text, refused_text}

-- the line of what stands at a place
abbrev pub step_text : ℕ → Step → List ℕ
step_text p End = end_text p
step_text p (Accepted r t) = line_of p r
step_text p (Refused e t) = refused_text p e t

-- with its newline
abbrev pub line_at : ℕ → Step → List ℕ
line_at p s = step_text p s ++ spelled "\n"

-- a line for each place of a walk, in its order
abbrev pub text_of : Walk → List ℕ
text_of (last p s) = line_at p s
text_of (more p s w) = line_at p s ++ text_of w

-- from place p on
abbrev pub listed : Table → Rule → List ℕ → ℕ → List ℕ
listed t rule bs p = text_of (walk (decode_by t) rule bs p)

-- the whole listing of a refused image
abbrev pub too_long_text : List ℕ
too_long_text = spelled "REFUSED 7\n"

-- an image of more than 4,096 bytes is refused
unfoldable pub listing : Table → Rule → List ℕ → List ℕ
listing t rule bs = pick (ltb 4096 (length bs)) too_long_text (listed t rule bs 0)
