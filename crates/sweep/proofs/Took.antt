-- What a refusal by any row table tells of the bytes that it took, and that the image's end took none.
-- Assumes nothing.
use Prim.Native.Nat.{ℕ, ◌-◌, ◌≤◌}
use mathlib.Core.Path.{◌≡◌, refl, sym, subst, ◌∙◌}
use mathlib.Core.List.{List}
use native.Mathlib.Omega.{arith}
use lib.ListN.{length, drop, length-drop}
use Rattle.rows.specs.Row.{Table}
use Rattle.rows.specs.Run.{decode_by}
use Rattle.rows.proofs.Taken.{counted, takes_one}
use Rattle.rows.proofs.Refusals.{four_takes_one}
use Rattle.sweep.specs.Step.{Refused}
use Rattle.sweep.specs.Walk.{step_at}
use Rattle.sweep.specs.steps.Before.{Took}
use Rattle.sweep.proofs.Walk.{told, from, by_table}

pub took : (rows : Table) (bs : List ℕ) (p e t : ℕ) → Refused e t ≡ step_at (decode_by rows) bs p → Took e t (length bs - p)
took rows bs p e t s =
    let f = from (decode_by rows) bs p s in
    let rest = drop p bs in
    let lies = told (by_table rows) bs p s in
    record {
      none = λ z. absurd (lies.2 z);
      all = λ one. sym f.2 ∙ (counted rows rest).whole (f.1 ∙ one) ∙ length-drop p bs;
      one = λ four. sym f.2 ∙ four_takes_one rows rest (f.1 ∙ four);
      some = λ z. subst (λ n. 1 ≤ n) f.2 (takes_one rows rest (rw length-drop (omega (arith, lies))));
    }

pub took_none : (left : ℕ) → Took 0 0 left
took_none left = record { none = λ e. refl; all = λ e. absurd (omega arith); one = λ e. absurd (omega arith); some = λ z. absurd (z refl) }
