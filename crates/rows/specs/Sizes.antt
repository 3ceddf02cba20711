-- Document 01, "Operand codes", code by code: how many bytes each of the sixteen codes of a form reads. The rule that works them out
-- is in Codes; request A8 asks that it gives these lists.
use Rattle.std.specs.Prelude.{ℕ, List, [], ◌∷◌}
use Rattle.rows.specs.Row.{Num, disp}
use Rattle.rows.specs.Codes.{size_G, size_T, num_J}

pub data Form : Type 0 where
  general bit long : Form

-- the lists, from 0 to F; J refuses 2, 3 and 5 and reads nothing there
abbrev pub sizes : Form → List ℕ
sizes general = 0 ∷ 0 ∷ 0 ∷ 0 ∷ 0 ∷ 0 ∷ 0 ∷ 0 ∷ 1 ∷ 1 ∷ 1 ∷ 1 ∷ 2 ∷ 2 ∷ 2 ∷ 2 ∷ []
sizes bit = 1 ∷ 1 ∷ 1 ∷ 1 ∷ 1 ∷ 1 ∷ 0 ∷ 0 ∷ 1 ∷ 1 ∷ 1 ∷ 1 ∷ 2 ∷ 2 ∷ 2 ∷ 2 ∷ []
sizes long = 0 ∷ 0 ∷ 0 ∷ 0 ∷ 0 ∷ 0 ∷ 0 ∷ 0 ∷ 1 ∷ 1 ∷ 1 ∷ 1 ∷ 3 ∷ 3 ∷ 2 ∷ 2 ∷ []

-- what the rule reads behind a code
abbrev pub worked : Form → ℕ → Num
worked general c = disp (size_G c)
worked bit c = disp (size_T c)
worked long c = num_J c
