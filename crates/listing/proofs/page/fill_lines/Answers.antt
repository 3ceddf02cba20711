-- A line is put, and what is listed behind it is what is still to be listed.
use Rattle.std.proofs.Common.{◌≡◌, ℕ, ◌+◌, ◌≤◌, ◌<◌, List, length, sym, ◌∙◌, arith}
use Rattle.laws.proofs.Over.{written_length}
use Rattle.by_manual.specs.Table.{table_by}
use Rattle.rows.specs.Row.{Table}
use Rattle.rows.specs.Run.{decode_by}
use Rattle.sweep.specs.declared.Rule.{Rule}
use Rattle.std.specs.Prelude.{Option, Some}
use Rattle.sweep.specs.Step.{Step, standing}
use Rattle.sweep.specs.Walk.{step_at, onward}
use Rattle.sweep.proofs.Walk.{told, bytes_left, further, by_table}
use Rattle.listing.specs.Listing.{line_at}
use Rattle.listing.specs.steps.Page.{next_of}
use Rattle.listing.proofs.Lines.{line_room, from_here}
use Rattle.listing.proofs.Pages.{leads, stops, line_more, line_last}
use Rattle.listing.proofs.page.fill_lines.Goals as goal

-- where a walk goes on lies behind the place, inside the image or at its end
lies_behind : (t : Table) (rule : Rule) (bs : List ℕ) (p q : ℕ) {s : Step} {n : Option ℕ}
    → s ≡ step_at (decode_by t) bs p → n ≡ next_of (onward rule p s) → n ≡ Some q → (p < q) × (q ≤ length bs)
lies_behind t rule bs p q {s} here told_next e = further (by_table t) bs rule p q s (told (by_table t) bs p here) (leads (onward rule p s) (sym told_next ∙ e))

pub behind-requires : goal.behind-requires
behind-requires c =
    let bs = c.args.image.now in
    let p = c.loop-out.place in
    omega (arith, bytes_left bs p (standing c.step_at-here.result) (told (by_table (table_by c.args.manual)) bs p c.step_at-here.ensures))

pub loop-out-smaller : goal.loop-out-smaller
loop-out-smaller c =
    let t = lies_behind (table_by c.args.manual) c.args.rule c.args.image.now c.loop-out.place c.in-Some.next c.step_at-here.ensures c.behind.ensures c.in-Some.is in
    omega arith

pub loop-out-preserved : goal.loop-out-preserved
loop-out-preserved c =
    let l = c.loop-out in
    let s = c.step_at-here in
    let n = c.put_line-at.ensures in
    let r = line_room l.place (standing s.result) in
    let fits : l.at + length (line_at l.place (standing s.result)) ≤ length l.out = omega arith in
    let k = written_length l.at l.out (line_at l.place (standing s.result)) fits n.1 in
    let t = lies_behind (table_by c.args.manual) c.args.rule c.args.image.now l.place c.in-Some.next s.ensures c.behind.ensures c.in-Some.is in
    let o = leads (onward c.args.rule l.place (standing s.result)) (sym c.behind.ensures ∙ c.in-Some.is) in
    record {
      inside = omega (arith, n.0);
      same_length = k ∙ l.invariant.same_length;
      on = omega arith;
      within = omega arith;
      short = omega (arith, n.0);
      same = line_more l.at l.out (line_at l.place (standing s.result)) fits n _
          (from_here (table_by c.args.manual) c.args.rule c.args.image.now l.place s.ensures o) l.invariant.same;
    }

pub returns-in_default : goal.returns-in_default
returns-in_default c =
    let l = c.loop-out in
    let s = c.step_at-here in
    let n = c.put_line-at.ensures in
    let r = line_room l.place (standing s.result) in
    let fits : l.at + length (line_at l.place (standing s.result)) ≤ length l.out = omega arith in
    record {
      same = line_last l.at l.out (line_at l.place (standing s.result)) fits n
          (from_here (table_by c.args.manual) c.args.rule c.args.image.now l.place s.ensures (stops (onward c.args.rule l.place (standing s.result)) (sym c.behind.ensures ∙ c.in_default.is))) l.invariant.same;
      inside = omega (arith, n.0);
      onward = λ h. omega arith;
    }
