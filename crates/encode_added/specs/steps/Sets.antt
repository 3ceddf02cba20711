-- The sets of names that a lookup gives for a kind of rows at a width.
use Rattle.std.specs.Prelude.{ℕ, ◌≡◌}
use Rattle.record.specs.declared.Width.{Width}
use Rattle.encode_choice.specs.declared.Asked.{Asked}
use Rattle.encode_choice.specs.steps.NameSet.{all_in}
use Rattle.encode_added.specs.declared.sets.Kind.{Kind}
use Rattle.encode_added.specs.steps.Entries.{goes_as}

-- at that width, what is in the sets goes, and nothing else
pub record AreSets (m n : ℕ) (k : Kind) (w : Width) : Type 0 where
  pub go : (q : Asked) → q.width ≡ w → all_in m n q ≡ goes_as k q
