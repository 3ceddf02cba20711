-- `sweep::run`, its loop: what is still to be walked from here is what was to be walked from its first place.
use Rattle.std.proofs.Common.{◌≡◌, ◌+◌, ◌-◌, ◌≤◌, length}
use Rattle.rows.specs.Run.{decode_by}
use Rattle.by_manual.specs.Table.{table_by}
use Rattle.sweep.specs.declared.Rule.TheVariants.{Stop}
use Rattle.sweep.specs.Walk.{walk}
use Rattle.sweep.specs.steps.Before.{behind}
use Rattle.sweep.proofs.run.Given as goal

abbrev pub invariant-loop-here : goal.invariant-loop-here
invariant-loop-here l = record {
  few : l.count + l.from ≤ l.place + l.kept;
  ahead : l.from ≤ l.place;
  inside : l.place ≤ length l.image;
  long : length l.starts ≡ length l.fn.starts;
  left : behind (walk (decode_by (table_by l.manual)) Stop l.image l.place) l.count 0 (l.place - l.from) l.starts ≡ behind (walk (decode_by (table_by l.manual)) Stop l.image l.from) l.kept 0 0 l.fn.starts;
}

abbrev pub decreases-loop-here : goal.decreases-loop-here
decreases-loop-here l = length l.image - l.place
