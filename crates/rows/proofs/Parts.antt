-- Request A5, of every accepted record of any row table: its parts lie inside the length, behind the second byte, and share no byte; and reading
-- them again, as the row's reads keep numbers, gives the fields. Where a table's parts are plain, as document 01's are, their widths tell how,
-- and they cover every byte behind the second but for the condition byte of 7E 2n.
-- Assumes nothing.
use Prim.Native.Nat.{ℕ, ◌+◌, ◌/◌, ◌≤◌, ◌<◌}
use mathlib.Core.Path.{◌≡◌, refl, sym, ◌∙◌, subst}
use mathlib.Core.Bool.{Bool, true, false}
use mathlib.Core.List.{List, [], ◌∷◌}
use native.Mathlib.Omega.{arith}
use lib.Dec.{T, eqb, leb, ltb, leb→le, ltb→lt, eqb→eq}
use borrow.Author.Tests.{eqb-true, eqb-false}
use Rattle.laws.proofs.Choice.{both_left, both_right, one_of}
use Rattle.record.specs.declared.Record.{Record}
use Rattle.record.specs.declared.fields.Field.{Field}
use Rattle.record.specs.declared.fields.Field.TheVariants.{Nowhere as nowhere, Wide as wide, Short as short, Early as early}
use Rattle.record.specs.Parts.{no_parts, part_of, Inside, Within}
use Rattle.record.specs.Same.{value_of}
use Rattle.rows.specs.Bytes.{Bytes}
use Rattle.rows.specs.Row.{Row, Table}
use Rattle.rows.specs.Groups.{document01}
use Rattle.rows.specs.Run.{decode_by, decode_rows}
use Rattle.rows.specs.Spans.{Spans, spans_of, number_in, part_in, parts_in, MadeBy}
use Rattle.rows.specs.Parts.{Laid, Sized, kept_of, ReadByKind, Covered, by_part, by_condition, Placed}
use Rattle.rows.proofs.Laid.{laid_row}
use Rattle.rows.proofs.Length.{at_least}
use Rattle.rows.proofs.Plain.{withinb, conditionb, coveredb, Plain, plain_at_lem, whole, sized, sized_source, by_kind, wide_again}
use Rattle.rows.proofs.Refusals.{refused_blank}
use Rattle.rows.proofs.Spans.{accepted}
use Rattle.rows.proofs.Taken.{counted}

module _ (t : Table) where
  -- whatever stands in the fields, and whatever the rows read
  pub laid : (a b : ℕ) (bs : List ℕ) → (decode_by t (a ∷ b ∷ bs)).refusal ≡ 0 → Laid (decode_by t (a ∷ b ∷ bs)).inst.length (decode_by t (a ∷ b ∷ bs)).inst.parts
  laid a b bs z =
      let m = (accepted t a b bs z).made in
      rw (m.length, m.parts) (laid_row (t.row_at a b))

  pub read_by_kind : (a b : ℕ) (bs : List ℕ) → Bytes (a ∷ b ∷ bs) → (decode_by t (a ∷ b ∷ bs)).refusal ≡ 0
      → ReadByKind (a ∷ b ∷ bs) (spans_of (t.row_at a b)).wide (decode_by t (a ∷ b ∷ bs)).inst
  read_by_kind a b bs h z =
      let m = (accepted t a b bs z).made in
      let w = t.row_at a b in
      record {
        imm_wide = rw m.parts (λ l. m.imm_wide ∙ by_kind (a ∷ b ∷ bs) w.number h (spans_of w).wide l);
        dispabs = rw m.parts m.dispabs;
        first = rw m.parts m.first;
      }

  -- and of a refusal, where there are no parts
  pub inside : (bs : List ℕ) → Inside (decode_by t bs).inst.length (decode_by t bs).inst.parts
  inside bs = by (eqb (decode_by t bs).refusal 0) refl
    where
      Fits : Record → Type 0
      Fits r = Inside r.length r.parts

      no_parts_lem : Inside 0 no_parts
      no_parts_lem nowhere = omega arith
      no_parts_lem wide = omega arith
      no_parts_lem short = omega arith
      no_parts_lem early = omega arith

      long : (xs : List ℕ) → (decode_by t xs).refusal ≡ 0 → Fits (decode_by t xs).inst
      long [] z = let l = at_least t [] z in absurd (omega (arith, (counted t []).within))
      long (a ∷ []) z = let l = at_least t (a ∷ []) z in absurd (omega (arith, (counted t (a ∷ [])).within))
      long (a ∷ b ∷ xs) z = (laid a b xs z).inside

      by : (x : Bool) → eqb (decode_by t bs).refusal 0 ≡ x → Fits (decode_by t bs).inst
      by true e = long bs (eqb-true _ _ e)
      by false e = subst Fits (sym (refused_blank t bs (eqb-false _ _ e))) no_parts_lem

module _ (a b : ℕ) (bs : List ℕ) (h : Bytes bs) (w : Row) (r : Record) (made : MadeBy w bs r) (plainly : Plain a b (spans_of w)) where
  abbrev z : Spans
  z = spans_of w

  again_in : (f : Field) → 0 < (part_of f (parts_in z)).width → value_of f r ≡ kept_of (part_of f (parts_in z)).width (number_in bs (part_of f (parts_in z)))
  again_in nowhere l = absurd (omega arith)
  again_in wide l = made.imm_wide ∙ wide_again bs w.number h z.wide plainly.wide l
  again_in short l = made.dispabs ∙ sym (whole z.short _ plainly.short)
  again_in early l = made.first ∙ sym (whole z.early _ plainly.early)

  sized_in : (f : Field) → Sized (part_of f (parts_in z))
  sized_in nowhere = (omega arith, λ e. refl)
  sized_in wide = sized_source z.wide plainly.wide
  sized_in short = sized z.short plainly.short
  sized_in early = sized z.early plainly.early

  in_part : (f : Field) (i : ℕ) → T (withinb (part_of f (parts_in z)) i) → Covered a b r i
  unfolding withinb
  in_part f i t =
      let p = part_of f (parts_in z) in
      let v : Within p i = (leb→le p.offset i (both_left (leb p.offset i) _ t), ltb→lt i _ (both_right (leb p.offset i) _ t)) in
      by_part f (subst (λ q. Within (part_of f q) i) (sym made.parts) v)

  is_condition : (i : ℕ) → T (conditionb a b z.length i) → Covered a b r i
  unfolding conditionb
  is_condition i t =
      let u = both_right (eqb a 0x7E) _ t in
      by_condition (eqb→eq a 0x7E (both_left (eqb a 0x7E) _ t)) (eqb→eq (b / 16) 2 (both_left (eqb (b / 16) 2) _ u))
      (eqb→eq (i + 1) z.length (both_right (eqb (b / 16) 2) _ u) ∙ sym made.length)

  covered_in : (i : ℕ) → 2 ≤ i → T (coveredb a b z i) → Covered a b r i
  unfolding coveredb
  covered_in i l t =
      one_of (ltb i 2) _ t (λ u. absurd (omega (arith, ltb→lt i 2 u))) (λ u.
      one_of (withinb (part_in z.wide) i) _ u (in_part wide i) (λ v.
      one_of (withinb z.short i) _ v (in_part short i) (λ x.
      one_of (withinb z.early i) _ x (in_part early i) (is_condition i))))

  pub placed : Placed a b bs r
  placed = record {
    laid = rw (made.length, made.parts) (laid_row w);
    sized = subst (λ q. (f : Field) → Sized (part_of f q)) (sym made.parts) sized_in;
    again = subst (λ q. (f : Field) → 0 < (part_of f q).width → value_of f r ≡ kept_of (part_of f q).width (number_in bs (part_of f q))) (sym made.parts) again_in;
    covered = λ i l m. covered_in i l (plainly.covered i (omega (arith, made.length)));
  }

-- document 01's rows
pub every_record : (a b : ℕ) (bs : List ℕ) → Bytes (a ∷ b ∷ bs) → (decode_rows (a ∷ b ∷ bs)).refusal ≡ 0 → Placed a b (a ∷ b ∷ bs) (decode_rows (a ∷ b ∷ bs)).inst
every_record a b bs h z =
    let d = accepted document01 a b bs z in
    placed a b (a ∷ b ∷ bs) h (document01.row_at a b) _ d.made (plain_at_lem a b d.known h.1.0)
