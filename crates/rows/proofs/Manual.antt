-- Decoding and the manual: what an unmarked code that has a meaning decodes to is the manual's instruction, whatever bytes follow.
-- Assumes nothing.
use Prim.Native.Nat.{ℕ, ◌-◌, ◌<◌}
use mathlib.Core.Path.{◌≡◌, refl, sym, ap, ap₂, subst, ◌∙◌}
use mathlib.Core.Bool.{Bool, true, false, not}
use mathlib.Core.List.{List, ◌∷◌}
use lib.Dec.{T, eqb, ltb, eqb→eq, ltb→lt}
use lib.ListN.{get_or}
use borrow.Author.Tests.{eqb-true}
use Rattle.laws.specs.Choice.{pick, both}
use Rattle.laws.proofs.Choice.{both_right}
use Rattle.record.specs.declared.Opcode.{Opcode}
use Rattle.record.specs.declared.Operand.{Operand}
use Rattle.record.specs.declared.Operand.TheVariants.{Nothing, Imm4}
use Rattle.record.specs.declared.Record.{Record}
use Rattle.record.specs.declared.fields.Field.{Field}
use Rattle.record.specs.declared.fields.Field.TheVariants.{Nowhere as nowhere, Wide as wide, Short as short, Early as early}
use Rattle.record.specs.Same.{same_name, field0, field1, value_of}
use Rattle.record.proofs.Apart.{operands_apart}
use Rattle.manual.specs.Bits as bits
use Rattle.manual.specs.Bits.{condition_at}
use Rattle.manual.specs.Meaning.{Spot, nothing, plain, within, flag, Meaning, Entry, meaning, empty}
use Rattle.manual.specs.Entries.{entry_at}
use Rattle.rows.specs.Bytes.{Bytes}
use Rattle.rows.specs.Row.{named, Row, Table}
use Rattle.rows.specs.Codes.{cond_of}
use Rattle.rows.specs.Groups.{known, rows_of, document01}
use Rattle.rows.specs.Run.{decode_by, decode_rows}
use Rattle.rows.specs.All.{every_code}
use Rattle.rows.specs.Spans.{Source, code, read, twenty, Naming, by_row, by_byte, spans_of, wide_in, named_in, MadeBy}
use Rattle.rows.specs.Agree.{Shows, in_code, recorded, conditional, mnemonic_in, size_fits, AsManual}
use Rattle.rows.specs.steps.Meant.{flag_opcode, of_flag, spot, spot_wide, meaning_of, Agrees}
use Rattle.rows.proofs.All.{every_code_lem}
use Rattle.rows.proofs.Agree.{row_agreement, condition}
use Rattle.rows.proofs.Bytes.{at_bytes}
use Rattle.rows.proofs.Plain.{plain_part, plain_source, Plain, plain_at_lem, whole, wide_again}
use Rattle.rows.proofs.Spans.{accepted}

-- a condition byte is the last, and only where the manual has BMcnd
unfoldable pub plain_naming : Naming → Entry → Bool
plain_naming by_row (meaning m) = not (conditional m)
plain_naming (by_byte p) (meaning m) = both (conditional m) (eqb p (m.length - 1))
plain_naming n empty = true

named_at : ℕ → ℕ → Bool
named_at a b = plain_naming (spans_of (document01.row_at a b)).naming (entry_at a b)

all_named : T (every_code named_at)
unfolding every_code named_at plain_naming spans_of rows_of entry_at
all_named = tt

pub naming_at : (a b : ℕ) → known a ≡ true → b < 256 → T (plain_naming (spans_of (document01.row_at a b)).naming (entry_at a b))
unfolding named_at
naming_at a b k l = every_code_lem named_at all_named b l a k

-- what a row made of bytes, and what the row's spots show
module _ (w : Row) (bs : List ℕ) (h : Bytes bs) (r : Record) (made : MadeBy w bs r) (a b : ℕ) (plainly : Plain a b (spans_of w)) where
  code_shows : (a : Operand) (v : ℕ) → v ≡ w.number → Shows bs (spot_wide w.face.opcode a w.number code) a v
  unfolding same_name
  code_shows a v k = by (of_flag w.face.opcode a) refl
    where
      by : (x : Bool) → of_flag w.face.opcode a ≡ x → Shows bs (pick x (flag w.number) (within a (in_code a w.number))) a v
      by true e = (operands_apart a Imm4 (eqb→eq _ _ (both_right (flag_opcode w.face.opcode) _ (subst T (sym e) tt))), k)
      by false e = (refl, ap (in_code a) k)

  wide_shows : (a : Operand) (q : Source) → T (plain_source q) → r.imm_wide ≡ wide_in bs w.number q → Shows bs (spot_wide w.face.opcode a w.number q) a r.imm_wide
  unfolding plain_source
  wide_shows a code t k = code_shows a r.imm_wide k
  wide_shows a (read p) t k = (refl, k ∙ wide_again bs w.number h (read p) t (ltb→lt 0 p.width (both_right (plain_part p) (ltb 0 p.width) t)))
  wide_shows a (twenty p) t k = (refl, k)

  shows : (a : Operand) (x : Field) → Shows bs (spot a x w) a (value_of x r)
  unfolding spot same_name
  shows a nowhere = by (same_name a Nothing) refl
    where
      by : (b : Bool) → same_name a Nothing ≡ b → Shows bs (pick b nothing (plain a)) a 0
      by true k = operands_apart a Nothing (eqb-true _ _ k)
      by false k = refl
  shows a wide = wide_shows a (spans_of w).wide plainly.wide made.imm_wide
  shows a short = (refl, made.dispabs ∙ sym (whole (spans_of w).short _ plainly.short))
  shows a early = (refl, made.first ∙ sym (whole (spans_of w).early _ plainly.early))

  -- as the record names its operands
  shown : (s : Spot) (a o : Operand) (x y : Field) → spot a x w ≡ s → o ≡ a → y ≡ x → Shows bs s o (value_of y r)
  shown s a o x y p q f = subst (λ v. Shows bs s v (value_of y r)) (sym q) (subst (λ v. Shows bs s a (value_of v r)) (sym f) (subst (λ v. Shows bs v a (value_of x r)) p (shows a x)))

-- the mnemonic is the row's, or the condition byte's
module _ (bs : List ℕ) (h : Bytes bs) (m : Meaning) (p : Opcode) where
  mnemonic : (n : Naming) → T (plain_naming n (meaning m)) → named_in bs m.mnemonic n ≡ named p → mnemonic_in bs m ≡ bits.named p
  unfolding plain_naming
  mnemonic by_row = by (conditional m)
    where
      by : (c : Bool) → T (not c) → named m.mnemonic ≡ named p → pick c (condition_at (get_or bs (m.length - 1) 0)) (bits.named m.mnemonic) ≡ bits.named p
      by true t k = absurd t
      by false t k = cc
  mnemonic (by_byte q) = by (conditional m)
    where
      by : (c : Bool) → T (both c (eqb q (m.length - 1))) → cond_of (get_or bs q 0) ≡ named p → pick c (condition_at (get_or bs (m.length - 1) 0)) (bits.named m.mnemonic) ≡ bits.named p
      by true t k = condition _ (at_bytes (m.length - 1) bs h) p (ap (λ x. cond_of (get_or bs x 0)) (sym (eqb→eq q _ t)) ∙ k)
      by false t k = absurd t

-- of any table: where a code's row has plain parts and says what the manual does, its decoding is the manual's instruction
module _ (t : Table) (a b : ℕ) (bs : List ℕ) (h : Bytes (a ∷ b ∷ bs)) where
  pub as_manual : (decode_by t (a ∷ b ∷ bs)).refusal ≡ 0 → (m : Meaning) → Plain a b (spans_of (t.row_at a b)) → Agrees a b (t.row_at a b) m
      → T (plain_naming (spans_of (t.row_at a b)).naming (meaning m)) → AsManual a b (a ∷ b ∷ bs) m (decode_by t (a ∷ b ∷ bs)).inst
  unfolding meaning_of recorded
  as_manual z m plainly g named_so =
      let all = a ∷ b ∷ bs in
      let w = t.row_at a b in
      let r = (decode_by t all).inst in
      let made = (accepted t a b bs z).made in
      record {
        mnemonic = mnemonic all h m r.opcode (spans_of w).naming named_so (ap (λ y. named_in all y.mnemonic (spans_of w).naming) (sym g.said) ∙ made.opcode);
        size = subst (λ y. T (size_fits a b y r.width m.suffix)) (sym made.size) (subst (λ y. T (size_fits a b w.face.size y m.suffix)) (sym made.width) g.size);
        op0 = shown w all h r made a b plainly _ _ _ _ _ (ap (λ y. y.op0) g.said) made.op0 (ap₂ field0 made.op0 made.op1);
        op1 = shown w all h r made a b plainly _ _ _ _ _ (ap (λ y. y.op1) g.said) made.op1 (ap₂ field1 made.op0 made.op1);
        op2 = made.op2;
        length = made.length ∙ ap (λ y. y.length) g.said;
      }

-- document 01's rows
module _ (a b : ℕ) (bs : List ℕ) (h : Bytes (a ∷ b ∷ bs)) where
  pub agreement : (decode_rows (a ∷ b ∷ bs)).refusal ≡ 0 → (decode_rows (a ∷ b ∷ bs)).inst.marked ≡ false
      → (m : Meaning) → entry_at a b ≡ meaning m → AsManual a b (a ∷ b ∷ bs) m (decode_rows (a ∷ b ∷ bs)).inst
  agreement z u m e =
      let x = accepted document01 a b bs z in
      as_manual document01 a b bs h z m (plain_at_lem a b x.known h.1.0)
      (row_agreement a b x.known h.1.0 x.alive (sym x.made.marked ∙ u) m e)
      (subst (λ y. T (plain_naming (spans_of (document01.row_at a b)).naming y)) e (naming_at a b x.known h.1.0))
