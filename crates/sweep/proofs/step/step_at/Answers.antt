-- `sweep::step::step_at` meets its contract.
-- Assumes nothing.
use Rattle.std.proofs.Common.{◌≡◌, length, refl, ap, ◌∙◌, arith}
use Rattle.std.specs.Prelude.{Some, Result, Ok, Err}
use borrow.Author.Tests.{le-leb, lt-leb, ne_eqb}
use Rattle.record.specs.Answer.{answer_of}
use Rattle.record.specs.declared.Record.{Record}
use Rattle.record.specs.declared.refusal.Refused.{Refused}
use Rattle.record.proofs.Refusals.{refused}
use Rattle.sweep.specs.Step.{standing}
use Rattle.sweep.specs.Walk.{answered, step_at}
use Rattle.sweep.proofs.step.step_at.Goals as goal

-- what stands there is what the answer makes of it
as_answered : (x : Result Record Refused) → standing (Some x) ≡ answered (answer_of x)
as_answered (Ok r) = refl
as_answered (Err e) = rw (ne_eqb _ 0 (refused e.why)) refl

pub returns-then-image-place : goal.returns-then-image-place
unfolding step_at
returns-then-image-place c = rw (le-leb (length c.args.image.now) c.args.place (omega arith)) refl

pub returns : goal.returns
unfolding step_at
returns c = rw (lt-leb _ _ c.if-image-place.false) (as_answered c.decode_by.result ∙ ap answered c.decode_by.ensures)
