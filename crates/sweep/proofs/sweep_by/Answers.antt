-- `sweep::sweep_by` meets its contract.
-- Assumes nothing.
use Rattle.std.proofs.Common.{◌≡◌, ℕ, ◌+◌, ◌-◌, ◌≤◌, ◌<◌, List, length, refl, sym, ap, subst, ◌∙◌, arith}
use borrow.Author.Tests.{lt-ltb, le-ltb, lt-leb, le-leb}
use Rattle.rows.specs.Row.{Table}
use Rattle.rows.specs.Run.{decode_by}
use Rattle.sweep.specs.declared.Rule.{Rule}
use Rattle.sweep.specs.declared.Stopped.{Stopped}
use Rattle.sweep.specs.Walk.{walk}
use Rattle.sweep.specs.Swept.{Swept, not_swept}
use Rattle.sweep.specs.Sweep.{outcome, whole, Sweeps}
use Rattle.sweep.specs.steps.Before.{behind, Runs, why_no, taken_there}
use Rattle.record.proofs.Refusals.{refused as not_zero}
use Rattle.sweep.proofs.Walk.{by_table}
use Rattle.sweep.proofs.Before.{none_before}
use Rattle.sweep.proofs.Runs.{Continues, continues}
use Rattle.sweep.proofs.sweep_by.Goals as goal

module _ (t : Table) (rule : Rule) (bs ss : List ℕ) where
  -- an outcome that is the whole answer keeps the promise
  sweeps : {r : Swept} {after : List ℕ} → outcome r after ≡ whole t rule bs ss → Sweeps t rule bs ss r after
  sweeps e = record { returned = ap (λ x. x.swept) e; kept = ap (λ x. x.starts) e }

  too_long : {r : Swept} → 4096 < length bs → r ≡ not_swept 7 → Sweeps t rule bs ss r ss
  unfolding whole
  too_long h e = sweeps (rw (lt-ltb _ _ h) (ap (λ x. outcome x ss) e))

  no_room : {r : Swept} → length bs ≤ 4096 → length ss < length bs → r ≡ not_swept 6 → Sweeps t rule bs ss r ss
  unfolding whole
  no_room h g e = sweeps (rw (le-ltb _ _ h, lt-ltb _ _ g) (ap (λ x. outcome x ss) e))

  begun : length bs ≤ 4096 → length bs ≤ length ss → behind (walk (decode_by t) rule bs 0) 0 0 0 ss ≡ whole t rule bs ss
  unfolding whole
  begun h g = rw (le-ltb _ _ h, le-ltb _ _ g) (none_before (walk (decode_by t) rule bs 0) ss)

  -- a run r from a place, with n starts, m refused places and d bytes before it, of a sweep whose answer is known: n read bytes are those
  -- before and the run's
  goes_on : (p n m d : ℕ) (now : List ℕ) {r : Stopped} {after : List ℕ} {read : ℕ} → n + (length bs - p) ≤ length now → Runs t bs p n now r after
      → behind (walk (decode_by t) rule bs p) n m d now ≡ whole t rule bs ss → d + (r.place - p + taken_there r.refused) ≡ read
      → Continues rule (walk (decode_by t) rule bs) bs (whole t rule bs ss) m read (why_no r.refused) r.count r.place after
  goes_on p n m d now room ran left read = continues (by_table t) bs rule p n m d now room ran.walked read left

pub returns-then-image-gt4096-clause-swept : goal.returns-then-image-gt4096-clause-swept
returns-then-image-gt4096-clause-swept c = too_long _ _ _ _ (omega arith) refl

pub returns-then-starts-image-clause-swept : goal.returns-then-starts-image-clause-swept
returns-then-starts-image-clause-swept c = no_room _ _ _ _ (omega arith) (omega arith) refl

pub returns-then-image-gt4096-clause-begun : goal.returns-then-image-gt4096-clause-begun
returns-then-image-gt4096-clause-begun c = rw (lt-leb _ _ c.if-image-gt4096.true) refl

pub returns-then-starts-image-clause-begun : goal.returns-then-starts-image-clause-begun
returns-then-starts-image-clause-begun c = rw (le-leb _ _ c.if-image-gt4096.false, lt-leb _ _ c.if-starts-image.true) refl

pub loop-here-init : goal.loop-here-init
loop-here-init c = record {
  few = omega arith;
  inside = omega arith;
  long = refl;
  stops = λ e. refl;
  left = begun _ _ _ _ (omega arith) (omega arith);
  twice = omega arith;
}

-- at the image's end
pub returns-in_default-clause-swept : goal.returns-in_default-clause-swept
returns-in_default-clause-swept c =
    let l = c.loop-here in
    let end = ap why_no c.in_default.is in
    let done = c.run-stopped.ensures in
    let rest = goes_on _ _ _ c.args.starts.now l.place l.count l.refused (l.place + l.again) l.starts {read = c.run-stopped.result.place + l.again}
    (omega (arith, l.invariant.long)) done l.invariant.left (omega (arith, done.ahead, done.took.none end)) in
    sweeps _ _ _ _ (rest.ended end)

pub loop-here-preserved : goal.loop-here-preserved
loop-here-preserved c =
    let l = c.loop-here in
    let on = c.in-GoOn.is in
    let done = c.run-stopped.ensures in
    let refused = subst (λ x. why_no x ≡ 0 → ⊥) (sym c.in-Some.is) (not_zero c.in-Some.here.why) in
    let taken = ap taken_there c.in-Some.is in
    let rest = goes_on _ _ _ c.args.starts.now l.place l.count l.refused (l.place + l.again) l.starts {read = c.run-stopped.result.place + 1 + c.read_again-later.result}
    (omega (arith, l.invariant.long)) done l.invariant.left (omega (arith, done.ahead, done.took.some refused, c.read_again-later.ensures, taken)) in record {
      few = omega (arith, done.few);
      inside = omega (arith, rest.inside refused);
      long = done.long ∙ l.invariant.long;
      stops = λ stop. absurd (let z : ◌≡◌ {A = ℕ} 0 1 = cc in omega arith);
      left = rest.passed on refused;
      twice = omega (arith, done.ahead, done.inside, l.invariant.twice, c.read_again-later.ensures, taken);
    }
