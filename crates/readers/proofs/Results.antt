-- What decoding says, and a length or a refusal, are told apart by their numbers: no two results are one answer.
-- Assumes nothing.
use Prim.Native.Nat.{ℕ}
use mathlib.Core.Path.{◌≡◌, refl, sym, ap, ◌∙◌}
use lib.Dec.{eqb}
use Rattle.laws.specs.Choice.{pick}
use Rattle.std.specs.Prelude.{Result, Ok, Err}
use Rattle.record.specs.declared.Record.{Record}
use Rattle.record.specs.declared.refusal.Refused.{Refused}
use Rattle.record.specs.declared.refusal.Refusal.{Refusal}
use Rattle.record.specs.declared.refusal.Refusal.TheVariants.{ExhaustedInput, InvalidOpcode, InvalidOperand, FirstByteOutside, NoString, TooLittleRoom, ImageTooLong}
use Rattle.record.specs.Answer.{number_of, answer_of, refusal_in, length_in}
use Rattle.record.proofs.Refusals.{refused}

-- the refusal with a number, any for a number that none has
abbrev pub refusal_by : ℕ → Refusal
refusal_by n =
    pick (eqb n 1) ExhaustedInput (pick (eqb n 2) InvalidOpcode (pick (eqb n 3) InvalidOperand (pick (eqb n 4) FirstByteOutside (pick (eqb n 5) NoString (pick (eqb n 6) TooLittleRoom ImageTooLong)))))

pub known_by : (e : Refusal) → refusal_by (number_of e) ≡ e
known_by ExhaustedInput = refl
known_by InvalidOpcode = refl
known_by InvalidOperand = refl
known_by FirstByteOutside = refl
known_by NoString = refl
known_by TooLittleRoom = refl
known_by ImageTooLong = refl

-- equal numbers are equal refusals
pub same_refusal : {e f : Refusal} → number_of e ≡ number_of f → e ≡ f
same_refusal {e} {f} h = sym (known_by e) ∙ ap refusal_by h ∙ known_by f

pub answers_apart : (x y : Result Record Refused) → answer_of x ≡ answer_of y → x ≡ y
answers_apart (Ok r) (Ok s) h = ap (λ a. Ok a.inst) h
answers_apart (Ok r) (Err f) h = absurd (refused f.why (sym (ap (λ a. a.refusal) h)))
answers_apart (Err e) (Ok s) h = absurd (refused e.why (ap (λ a. a.refusal) h))
answers_apart (Err e) (Err f) h =
    let why = same_refusal (ap (λ a. a.refusal) h) in
    λ i. Err (record { why = why i; taken = (h i).taken })

pub lengths_apart : (x y : Result ℕ Refusal) → refusal_in x ≡ refusal_in y → length_in x ≡ length_in y → x ≡ y
lengths_apart (Ok n) (Ok m) e h = ap Ok h
lengths_apart (Ok n) (Err f) e h = absurd (refused f (sym e))
lengths_apart (Err g) (Ok m) e h = absurd (refused g e)
lengths_apart (Err g) (Err f) e h = ap Err (same_refusal e)
