-- Requests A1 and A9: the listing goes on unless it is asked to stop, and goes by document 01 unless it is asked to go by the manual.
use Rattle.std.specs.Prelude.{ℕ, ◌≤◌, ◌<◌, ◌≡◌, Bool, true, false, List, Option, Some, None}
use Rattle.laws.specs.Text.{spelled}
use Rattle.sweep.specs.declared.Rule.{Rule}
use Rattle.sweep.specs.declared.Rule.TheVariants.{GoOn, Stop}
use Rattle.list_image.specs.declared.asked.Asked.{Asked}

-- one argument, and that is it; the program's own name counts too
abbrev pub Stopping : ℕ → List ℕ → Type 0
Stopping count first = (count ≡ 2) × (first ≡ spelled "--stopping")

abbrev pub Manually : ℕ → List ℕ → Type 0
Manually count first = (count ≡ 2) × (first ≡ spelled "--manual")

-- both, in this order
abbrev pub Both : ℕ → List ℕ → List ℕ → Type 0
Both count first second = (count ≡ 3) × (first ≡ spelled "--stopping") × (second ≡ spelled "--manual")

-- a reading and a rule are asked for
abbrev pub By : Bool → Rule → Option Asked
By m rule = Some (record { manual = m; rule = rule })

-- what so many arguments with these first ones ask for
pub record AsksFor (count : ℕ) (first second : List ℕ) (r : Option Asked) : Type 0 where
  pub nothing : count ≤ 1 → r ≡ By false GoOn
  pub stopping : Stopping count first → r ≡ By false Stop
  pub manual : Manually count first → r ≡ By true GoOn
  pub both : Both count first second → r ≡ By true Stop
  pub other : 1 < count → (Stopping count first → ⊥) → (Manually count first → ⊥) → (Both count first second → ⊥) → r ≡ None
