-- The listing shows what the sweep answers. By either rule: a line for each place that the sweep passes, then one for where it stops. By
-- the stopping rule the places passed are the starts.
-- Assumes nothing.
use Prim.Native.Nat.{ℕ, ◌≤◌}
use mathlib.Core.Path.{◌≡◌, refl, sym, ap, ◌∙◌}
use mathlib.Core.List.{List, ◌++◌, append_assoc}
use lib.ListN.{length, drop}
use lib.Seq.{take_at}
use borrow.Author.Tests.{le-ltb}
use Rattle.rows.specs.Row.{Table}
use Rattle.rows.specs.Run.{decode_by}
use Rattle.sweep.specs.declared.Rule.{Rule}
use Rattle.sweep.specs.declared.Rule.TheVariants.{Stop}
use Rattle.sweep.specs.Walk.{walk}
use Rattle.sweep.specs.Sweep.{is_accepted, places, last_place, whole}
use Rattle.sweep.specs.Visits.{passed}
use Rattle.sweep.proofs.Walk.{along, by_table}
use Rattle.sweep.proofs.Rules.{passes_starts}
use Rattle.sweep.proofs.Answers.{walked}
use Rattle.listing.specs.Listing.{line_at, text_of, listed, listing}
use Rattle.listing.specs.steps.Starts.{line_on, lines_at, shown_as}

pub shows_every_place : (t : Table) (rule : Rule) (bs : List ℕ) (p : ℕ) → let w = walk (decode_by t) rule bs p in listed t rule bs p ≡ lines_at t bs (passed w) ++ line_on t bs (last_place w)
shows_every_place t rule bs =
    along (by_table t) bs rule (λ p w. text_of w ≡ lines_at t bs (passed w) ++ line_on t bs (last_place w))
    (λ p s e o. ap (line_at p) e)
    (λ p q s w u e o h. ap (λ z. line_at p s ++ z) h ∙ ap (λ z. line_at p z ++ (lines_at t bs (passed w) ++ line_on t bs (last_place w))) e
    ∙ sym (append_assoc (line_on t bs p) (lines_at t bs (passed w)) (line_on t bs (last_place w))))

-- the stopping listing, with room for the starts
pub shows_the_sweep : (t : Table) (bs ss : List ℕ) → length bs ≤ 4096 → length bs ≤ length ss → listing t Stop bs ≡ shown_as t bs (whole t Stop bs ss)
unfolding listing
shows_the_sweep t bs ss h g =
    let w = walk (decode_by t) Stop bs 0 in
    let starts = places is_accepted w in
    rw (le-ltb _ _ h, walked t bs ss h g Stop)
    (shows_every_place t Stop bs 0 ∙ ap (λ ps. lines_at t bs ps ++ line_on t bs (last_place w)) (passes_starts (by_table t) bs 0 ∙ sym (take_at starts (drop (length starts) ss) (length starts) refl)))
