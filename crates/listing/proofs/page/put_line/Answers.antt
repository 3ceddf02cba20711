-- The text has room for a newline behind it, since no line is longer than 120 characters.
use Rattle.std.proofs.Common.{ℕ, ◌<◌, ◌≤◌, List, length, refl, sym, ap, ◌∙◌, slice_set, arith}
use Rattle.sweep.specs.Step.{Step, standing}
use Rattle.listing.specs.Listing.{step_text}
use Rattle.listing.proofs.Lines.{ok_one, line_longer, line_room, written, same_length, closed}
use Rattle.listing.proofs.page.put_line.Goals as goal

room : (p : ℕ) (s : Step) (out : List ℕ) → 121 ≤ length out → length (step_text p s) < length out
room p s out h = omega (arith, line_longer p s, line_room p s)

pub unwrap-n-requires : goal.unwrap-n-requires
unwrap-n-requires c = rw (written _ _ (room c.args.place (standing c.args.here) c.args.out.now c.requires) c.write_step.ensures) refl

pub bounds-out-n : goal.bounds-out-n
bounds-out-n c =
    let e = c.write_step.ensures in
    let r = room c.args.place (standing c.args.here) c.args.out.now c.requires in
    omega (arith, r, same_length _ _ r e, ok_one (sym (written _ _ r e) ∙ c.unwrap-n.ensures))

pub overflow_add-result : goal.overflow_add-result
overflow_add-result c =
    let e = c.write_step.ensures in
    let r = room c.args.place (standing c.args.here) c.args.out.now c.requires in
    record { fits = omega (arith, r, ok_one (sym (written _ _ r e) ∙ c.unwrap-n.ensures)) }

pub returns : goal.returns
returns c =
    let e = c.write_step.ensures in
    let r = room c.args.place (standing c.args.here) c.args.out.now c.requires in
    let n = ok_one (sym (written _ _ r e) ∙ c.unwrap-n.ensures) in
    (omega (arith, n, line_longer c.args.place (standing c.args.here)), ap (λ k. slice_set c.write_step.new.out k 10) (sym n) ∙ closed _ _ r e)
