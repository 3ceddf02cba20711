-- A sweep's answer as a listing: the line of what stands at each start, and at the stopping place.
use Rattle.std.specs.Prelude.{ℕ, List, [], ◌∷◌, ◌++◌, take}
use Rattle.rows.specs.Row.{Table}
use Rattle.rows.specs.Run.{decode_by}
use Rattle.sweep.specs.Walk.{step_at}
use Rattle.sweep.specs.Sweep.{Outcome}
use Rattle.listing.specs.Listing.{line_at}

-- the line of what stands at a place
abbrev pub line_on : Table → List ℕ → ℕ → List ℕ
line_on t bs p = line_at p (step_at (decode_by t) bs p)

abbrev pub lines_at : Table → List ℕ → List ℕ → List ℕ
lines_at t bs [] = []
lines_at t bs (p ∷ ps) = line_on t bs p ++ lines_at t bs ps

abbrev pub shown_as : Table → List ℕ → Outcome → List ℕ
shown_as t bs x = lines_at t bs (take x.swept.count x.starts) ++ line_on t bs x.swept.place
