-- `sweep::run` meets its contract.
-- Assumes nothing.
use Rattle.std.proofs.Common.{◌≡◌, ℕ, ◌+◌, ◌-◌, ◌≤◌, Bool, List, length, refl, sym, ◌∙◌, arith}
use Rattle.std.proofs.Math.ListN.{length-set}
use Rattle.rows.specs.Run.{decode_by}
use Rattle.by_manual.specs.Table.{table_by}
use Rattle.sweep.specs.declared.Rule.TheVariants.{Stop}
use Rattle.sweep.specs.Step.{Step}
use Rattle.sweep.specs.Walk.{step_at, onward, walk}
use Rattle.sweep.specs.Sweep.{taken, Outcome}
use Rattle.sweep.specs.steps.Before.{behind}
use Rattle.sweep.proofs.Walk.{Told, told, by_table}
use Rattle.sweep.proofs.Took.{took, took_none}
use Rattle.sweep.proofs.Before.{counted, here_counted}
use Rattle.sweep.proofs.run.Goals as goal

-- the bytes passed before a step and its own
passed : (p t from : ℕ) → from ≤ p → p + t - from ≡ p - from + t
passed p t from h = omega arith

-- the step s at a place: where it lies, and that what is walked from it, its own bytes read, is what was to be walked
module _ (m : Bool) (bs : List ℕ) (p : ℕ) {s : Step} (stands : s ≡ step_at (decode_by (table_by m)) bs p) where
  lies : Told bs p s
  lies = told (by_table (table_by m)) bs p stands

  left : (n d : ℕ) (ss : List ℕ) {x : Outcome} → n + (length bs - p) ≤ length ss → behind (walk (decode_by (table_by m)) Stop bs p) n 0 d ss ≡ x
      → counted p s (onward Stop p s) (walk (decode_by (table_by m)) Stop bs) n 0 (d + taken s) ss ≡ x
  left n d ss room e = sym (here_counted (by_table (table_by m)) bs Stop p n 0 d ss room stands refl) ∙ e

pub bounds-starts-count : goal.bounds-starts-count
bounds-starts-count c =
    let here = rw c.in-Some-Ok.field-0-is at c.in-Some-Ok.ensures in
    omega (arith, lies _ _ _ here, c.requires)

pub overflow_add-place : goal.overflow_add-place
overflow_add-place c =
    let here = rw c.in-Some-Ok.field-0-is at c.in-Some-Ok.ensures in
    omega (arith, lies _ _ _ here, c.requires)

pub loop-here-smaller : goal.loop-here-smaller
loop-here-smaller c =
    let here = rw c.in-Some-Ok.field-0-is at c.in-Some-Ok.ensures in
    omega (arith, lies _ _ _ here)

pub loop-here-preserved : goal.loop-here-preserved
loop-here-preserved c =
    let l = c.loop-here in
    let stands = rw c.in-Some-Ok.field-0-is at c.in-Some-Ok.ensures in
    let here = lies _ _ _ stands in record {
      few = omega arith;
      ahead = omega arith;
      inside = omega arith;
      long = rw length-set l.invariant.long;
      left = rw (passed _ _ _ l.invariant.ahead) (left _ _ _ stands l.count (l.place - c.args.from) l.starts (omega (arith, c.requires)) l.invariant.left);
    }

pub returns-in-None : goal.returns-in-None
returns-in-None c =
    let l = c.loop-here in
    let i = l.invariant in record {
      walked = left _ _ _ c.in-None.ensures l.count (l.place - c.args.from) l.starts (omega (arith, c.requires)) i.left;
      long = i.long;
      ahead = i.ahead;
      inside = omega arith;
      took = took_none _;
      few = i.few;
    }

pub returns-in-Some-Err : goal.returns-in-Some-Err
returns-in-Some-Err c =
    let l = c.loop-here in
    let i = l.invariant in
    let stands = rw c.in-Some-Err.field-0-is at c.in-Some-Err.ensures in
    let here = lies _ _ _ stands in record {
      walked = left _ _ _ stands l.count (l.place - c.args.from) l.starts (omega (arith, c.requires)) i.left;
      long = i.long;
      ahead = i.ahead;
      inside = omega (arith, here);
      took = took (table_by c.args.manual) _ _ _ _ stands;
      few = i.few;
    }
