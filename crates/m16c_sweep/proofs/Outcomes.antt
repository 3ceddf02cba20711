-- The promise of the sweeps for C leaves one outcome: the number returned, count, place, refused and read, and every entry of the list that
-- was passed in.
-- Assumes nothing.
use Prim.Native.Nat.{ℕ}
use mathlib.Core.Path.{◌≡◌, ap}
use mathlib.Core.List.{List}
use Rattle.rows.specs.Row.{Table}
use Rattle.sweep.specs.declared.Rule.{Rule}
use Rattle.sweep.proofs.Outcomes.{sweeps_once}
use Rattle.m16c_sweep.specs.Parts.{SweepsInParts}

pub sweeps_in_parts_once : {t : Table} {rule : Rule} {image starts : List ℕ} {r s n m p q k l d f : ℕ} {after later : List ℕ}
    → SweepsInParts t rule image starts r n p k d after → SweepsInParts t rule image starts s m q l f later
    → (r ≡ s) × (n ≡ m) × (p ≡ q) × (k ≡ l) × (d ≡ f) × (after ≡ later)
sweeps_in_parts_once a b =
    let e = sweeps_once a b in
    (ap (λ x. x.refusal) e.0, ap (λ x. x.count) e.0, ap (λ x. x.place) e.0, ap (λ x. x.refused) e.0, ap (λ x. x.read) e.0, e.1)
