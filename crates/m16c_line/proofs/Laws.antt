-- Where a line's function answers 0, 6 or decoding's refusal.
-- Assumes nothing.
use Prim.Native.Nat.{ℕ, ◌≤◌, ◌<◌}
use mathlib.Core.Path.{◌≡◌, refl, sym, ap, ◌∙◌}
use mathlib.Core.Bool.{Bool, true, false}
use mathlib.Core.List.{List}
use mathlib.Core.Logic.{◌≢◌, ◌↔◌, ◌⊎◌, inl, inr}
use native.Mathlib.Omega.{arith}
use lib.ListN.{length, drop}
use lib.Dec.{leb, eqb}
use borrow.Author.Tests.{eq-eqb, ne_eqb, eqb-true, eqb-false, leb-true, leb-false}
use Rattle.std.specs.Prelude.{Result, Ok, Err}
use Rattle.record.specs.Answer.{answer_of, number_of, refusal_in, length_in}
use Rattle.record.specs.declared.Record.{Record}
use Rattle.record.specs.declared.refusal.Refused.{Refused}
use Rattle.record.specs.declared.refusal.Refusal.{Refusal}
use Rattle.record.specs.declared.refusal.Refusal.TheVariants.{ExhaustedInput, InvalidOpcode, InvalidOperand, FirstByteOutside, NoString, TooLittleRoom, ImageTooLong}
use Rattle.rows.specs.Row.{Table}
use Rattle.rows.specs.Run.{decode_by}
use Rattle.rows.proofs.Refusals.{at_most_four}
use Rattle.line.specs.Line.{line_of}
use Rattle.line.specs.Left.{left, Writes}
use Rattle.line.proofs.Lined.{line_short}
use Rattle.m16c_line.specs.Lined.{told, untouched, line_at, lined, Lines}

not_zero : (e : Refusal) → number_of e ≢ 0
not_zero ExhaustedInput z = absurd (omega arith)
not_zero InvalidOpcode z = absurd (omega arith)
not_zero InvalidOperand z = absurd (omega arith)
not_zero FirstByteOutside z = absurd (omega arith)
not_zero NoString z = absurd (omega arith)
not_zero TooLittleRoom z = absurd (omega arith)
not_zero ImageTooLong z = absurd (omega arith)

-- a number returned, by decoding's refusal, the line's length and the room for it
data Number (refusal n room r : ℕ) : Type 0 where
  refusing : refusal ≢ 0 → refusal ≤ 4 → r ≡ refusal → Number refusal n room r
  writing : refusal ≡ 0 → n ≤ room → r ≡ 0 → Number refusal n room r
  lacking : refusal ≡ 0 → room < n → r ≡ 6 → Number refusal n room r

module _ {refusal n room r : ℕ} where
  zero_by : Number refusal n room r → (r ≡ 0) ↔ ((refusal ≡ 0) × (n ≤ room))
  zero_by (refusing z h e) = (λ q. absurd (omega arith), λ p. absurd (z p.0))
  zero_by (writing z h e) = (λ q. (z, h), λ p. e)
  zero_by (lacking z h e) = (λ q. absurd (omega arith), λ p. absurd (omega arith))

  six_by : Number refusal n room r → (r ≡ 6) ↔ ((refusal ≡ 0) × (room < n))
  six_by (refusing z h e) = (λ q. absurd (omega arith), λ p. absurd (z p.0))
  six_by (writing z h e) = (λ q. absurd (omega arith), λ p. absurd (omega arith))
  six_by (lacking z h e) = (λ q. (z, h), λ p. e)

  either_by : Number refusal n room r → refusal ≡ 0 → (r ≡ 0) ⊎ (r ≡ 6)
  either_by (refusing z h e) q = absurd (z q)
  either_by (writing z h e) q = inl e
  either_by (lacking z h e) q = inr e

  roomy_by : Number refusal n room r → n ≤ room → r ≡ refusal
  roomy_by (refusing z h e) l = e
  roomy_by (writing z h e) l = omega arith
  roomy_by (lacking z h e) l = omega arith

module _ (t : Table) (image : List ℕ) (at : ℕ) (out : List ℕ) where
  abbrev refusal : ℕ
  refusal = (decode_by t (drop at image)).refusal

  abbrev line : List ℕ
  line = line_of at (decode_by t (drop at image)).inst

  abbrev number : ℕ
  number = (lined t image at out).refusal

  pub accepted : refusal ≡ 0 → lined t image at out ≡ told (left line out)
  unfolding lined
  accepted z = rw (eq-eqb _ 0 z)

  pub refused : refusal ≢ 0 → lined t image at out ≡ untouched refusal out
  unfolding lined
  refused z = rw (ne_eqb _ 0 z)

  -- what stands in the buffer then, by decoding's result
  pub line_told : {r : Record} → answer_of (Ok r) ≡ decode_by t (drop at image) → {w : Result ℕ Refusal} {after : List ℕ} → Writes (line_of at r) out w after
      → Lines t image at out (refusal_in w) (length_in w) after
  unfolding lined
  line_told e l =
      let k = ap (λ x. line_at at x out) e in
      record {
        returned = ap refusal_in l.returned ∙ ap (λ x. x.refusal) k;
        measured = ap length_in l.returned ∙ ap (λ x. x.length) k;
        kept = l.kept ∙ ap (λ x. x.buffer) k;
      }

  pub refusal_told : (e : Refused) → answer_of (Err e) ≡ decode_by t (drop at image) → Lines t image at out (number_of e.why) 0 out
  refusal_told e d =
      let n = ap (λ x. x.refusal) d in
      let k = sym (refused (λ z. not_zero e.why (n ∙ z))) in
      record { returned = n ∙ ap (λ x. x.refusal) k; measured = ap (λ x. x.length) k; kept = ap (λ x. x.buffer) k }

  numbered : Number refusal (length line) (length out) number
  unfolding left
  numbered = by (eqb refusal 0) (leb (length line) (length out)) refl refl
    where
      by : (a b : Bool) → eqb refusal 0 ≡ a → leb (length line) (length out) ≡ b → Number refusal (length line) (length out) number
      by false b e f = refusing (eqb-false _ 0 e) (at_most_four t (drop at image)) (ap (λ w. w.refusal) (refused (eqb-false _ 0 e)))
      by true true e f = writing (eqb-true _ 0 e) (leb-true _ _ f) (ap (λ w. w.refusal) (accepted (eqb-true _ 0 e)) ∙ rw f)
      by true false e f = lacking (eqb-true _ 0 e) (leb-false _ _ f) (ap (λ w. w.refusal) (accepted (eqb-true _ 0 e)) ∙ rw f)

  -- 0 exactly where decoding accepts and the line has room
  pub zero_where : (number ≡ 0) ↔ ((refusal ≡ 0) × (length line ≤ length out))
  zero_where = zero_by numbered

  -- 6 exactly where decoding accepts and the line has no room
  pub six_where : (number ≡ 6) ↔ ((refusal ≡ 0) × (length out < length line))
  six_where = six_by numbered

  -- 0 or 6 exactly where decoding accepts
  pub accepts : ((number ≡ 0) ⊎ (number ≡ 6)) ↔ (refusal ≡ 0)
  accepts = (from, either_by numbered)
    where
      from : (number ≡ 0) ⊎ (number ≡ 6) → refusal ≡ 0
      from (inl e) = (zero_where.0 e).0
      from (inr e) = (six_where.0 e).0

  -- with room for the longest line: decoding's refusal, so never 6
  pub roomy : 120 ≤ length out → number ≡ refusal
  roomy h = roomy_by numbered (omega (arith, line_short at (decode_by t (drop at image)).inst))

  pub never_six : 120 ≤ length out → number ≢ 6
  never_six h e = omega (arith, (six_where.0 e).1, line_short at (decode_by t (drop at image)).inst)
