-- The line of a step: how long it is at most, how it ends, and what is listed behind it.
-- Assumes nothing.
use Prim.Native.Nat.{ℕ, suc, ◌+◌, ◌≤◌, ◌<◌}
use mathlib.Core.Path.{◌≡◌, sym, ap, ◌∙◌}
use mathlib.Core.List.{List, [], ◌∷◌, ◌++◌}
use native.Mathlib.Omega.{arith}
use native.Mathlib.Numerals.{add-one}
use lib.ListN.{length, drop, set, length-append, length-drop}
use lib.Seq.{append_snoc, drop-cons, set-append_seam}
use borrow.Author.Tests.{le-leb}
use Rattle.rows.specs.Row.{Table}
use Rattle.rows.specs.Run.{decode_by}
use Rattle.sweep.specs.declared.Rule.{Rule}
use Rattle.sweep.specs.Step.{Step}
use Rattle.sweep.specs.Step.{End, Accepted, Refused}
use Rattle.sweep.specs.Walk.{step_at, Onward, onward, visit, walk}
use Rattle.sweep.proofs.Walk.{turned, by_table}
use Rattle.std.specs.Prelude.{Result, Ok}
use Rattle.record.specs.declared.refusal.Refusal.{Refusal}
use Rattle.laws.specs.Over.{over}
use Rattle.line.specs.Left.{left, Writes}
use Rattle.line.proofs.Lined.{line_short}
use Rattle.listing.specs.Listing.{step_text, line_at, text_of, listed}

pub ok_one : {a b : ℕ} → ◌≡◌ {A = Result ℕ Refusal} (Ok a) (Ok b) → a ≡ b
ok_one e = cc

text_short : (p : ℕ) (s : Step) → length (step_text p s) ≤ 120
text_short p End = omega arith
text_short p (Accepted r t) = line_short p r
text_short p (Refused e t) = omega arith

module _ (p : ℕ) (s : Step) where
  pub line_longer : length (line_at p s) ≡ length (step_text p s) + 1
  line_longer = length-append (step_text p s) (10 ∷ [])

  pub line_room : length (line_at p s) ≤ 121
  line_room = omega (arith, line_longer, text_short p s)

-- a text that has room over the first bytes of a buffer, and the newline behind it
module _ (xs bs : List ℕ) (h : length xs < length bs) {w : Result ℕ Refusal} {ys : List ℕ} (said : Writes xs bs w ys) where
  pub written : w ≡ Ok (length xs)
  unfolding left
  written = said.returned ∙ rw (le-leb (length xs) (length bs) (omega arith))

  there : ys ≡ over xs bs
  unfolding left
  there = said.kept ∙ rw (le-leb (length xs) (length bs) (omega arith))

  pub same_length : length ys ≡ length bs
  same_length = ap length there ∙ omega (arith, length-append xs (drop (length xs) bs), length-drop (length xs) bs)

  pub closed : set ys (length xs) 10 ≡ over (xs ++ (10 ∷ [])) bs
  closed =
      let n : length (xs ++ (10 ∷ [])) ≡ suc (length xs) = length-append xs (10 ∷ []) ∙ add-one (length xs) in
      ap (λ l. set l (length xs) 10) there
      ∙ ap (λ z. set (xs ++ z) (length xs) 10) (drop-cons bs (length xs) 0 h) ∙ set-append_seam xs _ (drop (suc (length xs)) bs) 10
      ∙ sym (append_snoc xs 10 (drop (suc (length xs)) bs)) ∙ ap (λ k. (xs ++ (10 ∷ [])) ++ drop k bs) (sym n)

-- what is listed from a place on: the line of the step there, and what is listed from where it leads
pub from_here : (t : Table) (rule : Rule) (bs : List ℕ) (p : ℕ) {s : Step} {o : Onward} → s ≡ step_at (decode_by t) bs p → onward rule p s ≡ o
    → listed t rule bs p ≡ text_of (visit p s o (walk (decode_by t) rule bs))
from_here t rule bs p {s} {o} e leads = ap text_of (turned (by_table t) bs rule p e ∙ ap (λ w. visit p s w (walk (decode_by t) rule bs)) leads)
