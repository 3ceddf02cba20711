-- `sweep::sweep_by`, its loop: what is still to be swept from here is what was to be swept from 0.
use Rattle.std.proofs.Common.{◌≡◌, ◌+◌, ◌*◌, ◌-◌, ◌≤◌, length}
use Rattle.rows.specs.Run.{decode_by}
use Rattle.by_manual.specs.Table.{table_by}
use Rattle.sweep.specs.declared.Rule.TheVariants.{Stop}
use Rattle.sweep.specs.Walk.{walk}
use Rattle.sweep.specs.Sweep.{whole}
use Rattle.sweep.specs.steps.Before.{behind}
use Rattle.sweep.proofs.sweep_by.Given as goal

abbrev pub invariant-loop-here : goal.invariant-loop-here
invariant-loop-here l = record {
  few : l.count + l.refused ≤ l.place;
  inside : l.place ≤ length l.image;
  long : length l.starts ≡ length l.fn.starts;
  stops : l.rule ≡ Stop → l.refused ≡ 0;
  left : behind (walk (decode_by (table_by l.manual)) l.rule l.image l.place) l.count l.refused (l.place + l.again) l.starts ≡ whole (table_by l.manual) l.rule l.image l.fn.starts;
  twice : l.again ≤ 4096 * l.place;
}

abbrev pub decreases-loop-here : goal.decreases-loop-here
decreases-loop-here l = length l.image - l.place
