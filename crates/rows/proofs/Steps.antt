-- How a row's reads go on, in the form that a group's calls give: what a call ensures, and which case its answer is.
-- Assumes nothing.
use Prim.Native.Nat.{ℕ, ◌+◌, ◌≤◌, ◌<◌}
use mathlib.Core.Path.{◌≡◌, refl, sym, ap, ◌∙◌}
use mathlib.Core.Bool.{Bool}
use mathlib.Core.List.{List, [], ◌∷◌}
use lib.ListN.{length, get_or}
use borrow.Author.Tests.{lt-ltb, le-ltb}
use Rattle.std.specs.Prelude.{Result, Ok, Err}
use Rattle.std.specs.Result.{IsErrAnd}
use Rattle.record.specs.Answer.{Answer, Got, On, Short, answer_of, found}
use Rattle.record.specs.declared.Opcode.{Opcode}
use Rattle.record.specs.declared.Size.{Size}
use Rattle.record.specs.declared.Width.{Width}
use Rattle.record.specs.declared.Operand.{Operand}
use Rattle.record.specs.declared.Seen.{Seen}
use Rattle.record.specs.declared.Record.{Record}
use Rattle.record.specs.declared.refusal.Refused.{Refused}
use Rattle.laws.proofs.Exit.{passed}
use Rattle.rows.specs.Row.{Num, Refusal, refusal_no, Read, num, stop, cond, named, unnamed, Face}
use Rattle.rows.specs.Codes.{cond_of}
use Rattle.rows.specs.Run.{reading, and_then, accepted_by, accepted, refusal, renamed, past, run}

module _ (k : Num) (bs : List ℕ) (f : Face) (s : Seen) {g : Result Seen Refused} (h : g ≡ found bs (reading k bs s)) (rs : List Read) where
  abbrev behind : Result Seen Refused → Answer
  behind (Ok t) = run rs bs f t
  behind (Err e) = answer_of (Err e)

  as_result : (x : Got) → and_then bs x (run rs bs f) ≡ behind (found bs x)
  as_result (On t) = refl
  as_result Short = refl

  -- a row is what stands behind its first read
  goes_on : {x : Result Seen Refused} → g ≡ x → run (num k ∷ rs) bs f s ≡ behind x
  unfolding run
  goes_on e = as_result (reading k bs s) ∙ ap behind (sym h ∙ e)

  -- a read that finds too little ends the row
  pub ends : (x : Result Record Refused) {e : Refused} → g ≡ Err e → IsErrAnd x (λ y. y ≡ e) → answer_of x ≡ run (num k ∷ rs) bs f s
  ends x is h = ap answer_of (passed h) ∙ sym (goes_on is)

  -- one that does not hands its numbers on
  pub goes : {x : Answer} {t : Seen} → g ≡ Ok t → x ≡ run rs bs f t → x ≡ run (num k ∷ rs) bs f s
  goes is j = j ∙ sym (goes_on is)

pub stops : (e : Refusal) (rs : List Read) (bs : List ℕ) (f : Face) (s : Seen) {x : Answer} → x ≡ refusal (refusal_no e) s.taken → x ≡ run (stop e ∷ rs) bs f s
unfolding run
stops e rs bs f s h = h

-- the record is made once, of the row's names; this row names no list of registers
pub done : (bs : List ℕ) {f : Face} → f.registers ≡ 0 → (s : Seen) {x : Answer} {o : Opcode} {z : Size} {w : Width} {a b : Operand} {m : Bool}
    → x ≡ accepted o z w a b m s → o ≡ f.opcode → z ≡ f.size → w ≡ f.width → a ≡ f.op0 → b ≡ f.op1 → m ≡ f.marked → x ≡ run [] bs f s
unfolding run
done bs {f} none s e ho hz hw ha hb hm =
    e ∙ (λ i. accepted_by (record { opcode = ho i; size = hz i; width = hw i; op0 = ha i; op1 = hb i; marked = hm i; registers = sym none i }) s)

-- the condition byte
module _ (bs : List ℕ) (f : Face) (s : Seen) {x : Answer} (rs : List Read) where
  pub unread : length bs ≤ s.taken → x ≡ refusal 1 (length bs) → x ≡ run (cond ∷ rs) bs f s
  unfolding run
  unread h k = rw (le-ltb _ _ h) k

  pub holds : {o : Opcode} → s.taken < length bs → cond_of (get_or bs s.taken 0) ≡ named o → x ≡ run rs bs (renamed o f) (past s) → x ≡ run (cond ∷ rs) bs f s
  unfolding run
  holds h e k = rw (lt-ltb _ _ h, e) k

  pub fails : s.taken < length bs → cond_of (get_or bs s.taken 0) ≡ unnamed → x ≡ refusal 2 (s.taken + 1) → x ≡ run (cond ∷ rs) bs f s
  unfolding run
  fails h e k = rw (lt-ltb _ _ h, e) k
