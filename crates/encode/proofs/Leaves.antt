-- The choice is right, so whatever leaves what it finds keeps demand 3.
-- Assumes nothing.
use Prim.Native.Nat.{ℕ}
use mathlib.Core.Path.{◌≡◌, refl, ap, ◌∙◌}
use mathlib.Core.Bool.{Bool}
use mathlib.Core.List.{List}
use Rattle.record.specs.declared.Record.{Record}
use Rattle.by_manual.specs.Table.{table_by}
use Rattle.encode_added.specs.steps.Choose.{encoded_by}
use Rattle.encode_rules.specs.Says.{Found, none}
use Rattle.encode_rules.specs.Written.{Left, outcome, written, Encodes}
use Rattle.encode_added.proofs.Right.{right_by}

pub encodes : (d : Bool) (r : Record) (buf : List ℕ) (place : ℕ) {out : Left} {x : Found} → x ≡ encoded_by d r → out ≡ written x buf place
    → Encodes (table_by d) r buf place out
encodes d r buf place e l = record {
  found = encoded_by d r;
  right = right_by d r;
  leaves = l ∙ ap (λ x. written x buf place) e;
}

-- no bytes: 5 and everything as it was
pub none_left : (buf : List ℕ) (place : ℕ) → outcome 5 0 buf ≡ written none buf place
unfolding written
none_left buf place = refl
