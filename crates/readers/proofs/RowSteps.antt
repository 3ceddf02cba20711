-- How a row goes on, step by step, as the code's reads have it: each law's left side is the row.
-- Assumes nothing.
use Prim.Native.Nat.{ℕ}
use mathlib.Core.Path.{◌≡◌, refl, sym, ap, ◌∙◌}
use native.Mathlib.Omega.{arith}
use mathlib.Core.List.{List, [], ◌∷◌}
use Rattle.std.specs.Prelude.{Result, Ok, Err}
use Rattle.std.specs.Result.{IsErrAnd}
use Rattle.laws.proofs.Exit.{passed}
use Rattle.record.specs.Answer.{Answer, Got, On, Short, answer_of, found}
use Rattle.record.specs.declared.Record.{Record}
use Rattle.record.specs.declared.Seen.{Seen}
use Rattle.record.specs.declared.refusal.Refused.{Refused}
use Rattle.rows.specs.Row.{Num, disp, Refusal, refusal_no, Read, num, stop, Face}
use Rattle.rows.specs.Codes.{size_G}
use Rattle.rows.specs.Run.{reading, read_disp, and_then, accepted_by, begun, refusal, run}
use Rattle.readers.specs.steps.Told.{found_in}
use Rattle.readers.proofs.Told.{near, first, second, behind_general}

-- what a read's result makes of a row
abbrev pub onto : List Read → List ℕ → Face → Result Seen Refused → Answer
onto rs bs f (Ok t) = run rs bs f t
onto rs bs f (Err e) = answer_of (Err e)

as_result : (rs : List Read) (bs : List ℕ) (f : Face) (x : Got) → and_then bs x (run rs bs f) ≡ onto rs bs f (found bs x)
as_result rs bs f (On t) = refl
as_result rs bs f Short = refl

-- what a row's first read found goes on, or too little ends the row
pub first_read : (k : Num) (rs : List Read) (bs : List ℕ) (f : Face) → run (num k ∷ rs) bs f (begun 0) ≡ onto rs bs f (found_in k bs (begun 0))
unfolding run
first_read k rs bs f = as_result rs bs f (reading k bs (begun 0)) ∙ ap (onto rs bs f) (sym (first k bs refl))

-- the same of a read behind two bytes of displacement
pub second_read : (k : Num) (rs : List Read) (bs : List ℕ) (f : Face) (s : Seen) → found_in (disp 2) bs (begun 0) ≡ Ok s
    → run (num k ∷ rs) bs f s ≡ onto rs bs f (found_in k bs s)
unfolding run
second_read k rs bs f s e = as_result rs bs f (reading k bs s) ∙ ap (onto rs bs f) (sym (near k bs s (second 2 bs (omega arith) refl e) refl))

-- and behind G's displacement
pub second_behind_general : (c : ℕ) (k : Num) (rs : List Read) (bs : List ℕ) (f : Face) (s : Seen) → found_in (disp (size_G c)) bs (begun 0) ≡ Ok s
    → run (num k ∷ rs) bs f s ≡ onto rs bs f (found_in k bs s)
unfolding run
second_behind_general c k rs bs f s e = as_result rs bs f (reading k bs s) ∙ ap (onto rs bs f) (sym (near k bs s (behind_general c bs refl e) refl))

-- no read is left: the record
pub last : (bs : List ℕ) (f : Face) (s : Seen) → run [] bs f s ≡ accepted_by f s
unfolding run
last bs f s = refl

-- the exit of a `?`
pub exits : (x : Result Record Refused) (e : Refused) → IsErrAnd x (λ y. y ≡ e) → answer_of x ≡ answer_of (Err e)
exits x e h = ap answer_of (passed h)

-- a refusal
pub stopped : (e : Refusal) (rs : List Read) (bs : List ℕ) (f : Face) (s : Seen) → run (stop e ∷ rs) bs f s ≡ refusal (refusal_no e) s.taken
unfolding run
stopped e rs bs f s = refl

-- a code that reads no byte
pub unread : (rs : List Read) (bs : List ℕ) (f : Face) (s : Seen) → run (num (disp 0) ∷ rs) bs f s ≡ run rs bs f s
unfolding run read_disp
unread rs bs f s = refl

pub ruleset steps = (first_read, last, exits, stopped, unread)
