-- Request A6: what a listing tells. Equal lines of unmarked rows, with nothing dropped, are of the same bytes, but for codes that mean the same.
-- Assumes nothing.
use Prim.Native.Nat.{ℕ, ◌^◌, ◌<◌}
use mathlib.Core.Path.{◌≡◌, refl, sym, ap, ap₂, ◌∙◌, subst}
use mathlib.Core.List.{List, ◌∷◌}
use native.Mathlib.Omega.{arith}
use Rattle.laws.specs.Choice.{pick}
use Rattle.record.specs.declared.Record.{Record}
use Rattle.record.specs.declared.Operand.{Operand}
use Rattle.record.specs.declared.Operand.TheVariants.{Nothing}
use Rattle.record.specs.Numbers.{size_no, width_no, operand_no}
use Rattle.record.specs.Same.{same_name, among, base_of, field_of, field0, field1, value_of, key}
use Rattle.record.specs.Signed.{number_of}
use Rattle.rows.specs.Groups.{document01}
use Rattle.rows.specs.Run.{decode_rows}
use Rattle.rows.proofs.Length.{two_to_seven}
use Rattle.rows.proofs.Taken.{counted}
use Rattle.line.specs.Line.{digits_of, number_text, line_of}
use Rattle.encode_rules.specs.steps.Search.{spell, aim}
use Rattle.encode_rules.proofs.Optimal.{says_two}
use Rattle.tells.specs.Tells.{folded, instruction, Clear}
use Rattle.tells.specs.steps.Stamp.{shown_name, in_code, code_number, stamp, stamp_of}
use Rattle.tells.proofs.Codes.{folded_row, codes_apart}
use Rattle.tells.proofs.Limits.{full0, full1}
use Rattle.tells.proofs.Line.{Told, told}
use Rattle.tells.proofs.Numbers.{number_told}
use Rattle.tells.proofs.Clear.{row, by_row, second, lively, led, stamp_is, fully, bytes_are, by_key, face}

-- equal texts of a name's number, both shown in full
number_same : (o p : Operand) (u v : ℕ) → o ≡ p → u < 16 ^ digits_of o → v < 16 ^ digits_of p
    → number_text o (number_of o u) ≡ number_text p (number_of p v) → u ≡ v
number_same o p u v e h l t =
    number_told o u v h (subst (λ x. v < 16 ^ digits_of x) (sym e) l) (subst (λ x. number_text o (number_of o u) ≡ number_text x (number_of x v)) (sym e) t)

-- no third operand, no number
none_third : (r : Record) → r.op2 ≡ Nothing → value_of (field_of r.op2) r ≡ 0
unfolding field_of same_name among
none_third r e = ap (λ x. value_of (field_of x) r) e

-- two that list alike
module _ (a b : ℕ) (xs : List ℕ) (c : Clear (a ∷ b ∷ xs)) (a' b' : ℕ) (xs' : List ℕ) (c' : Clear (a' ∷ b' ∷ xs'))
    (t : Told (decode_rows (a ∷ b ∷ xs)).inst (decode_rows (a' ∷ b' ∷ xs')).inst) where
  abbrev r : Record
  r = (decode_rows (a ∷ b ∷ xs)).inst

  abbrev s : Record
  s = (decode_rows (a' ∷ b' ∷ xs')).inst

  number0 : value_of (field0 r.op0 r.op1) r ≡ value_of (field0 s.op0 s.op1) s
  number0 =
      number_same r.op0 s.op0 _ _ t.op0
      (full0 (row a b xs c) (fully a b xs c) (a ∷ b ∷ xs) c.bytes r (by_row a b xs c).made)
      (full0 (row a' b' xs' c') (fully a' b' xs' c') (a' ∷ b' ∷ xs') c'.bytes s (by_row a' b' xs' c').made) t.number0

  number1 : value_of (field1 r.op0 r.op1) r ≡ value_of (field1 s.op0 s.op1) s
  number1 =
      number_same r.op1 s.op1 _ _ t.op1
      (full1 (row a b xs c) (fully a b xs c) (a ∷ b ∷ xs) c.bytes r (by_row a b xs c).made)
      (full1 (row a' b' xs' c') (fully a' b' xs' c') (a' ∷ b' ∷ xs') c'.bytes s (by_row a' b' xs' c').made) t.number1

  same : key r ≡ key s
  same =
      let none = (face a b xs c).op2 in
      let none' = (face a' b' xs' c').op2 in
      let number2 = none_third r none ∙ sym (none_third s none') in
      let op2 = none ∙ sym none' in
      λ i. record {
        opcode = t.opcode i;
        size = t.size i;
        width = t.width i;
        base0 = base_of (t.op0 i);
        base1 = base_of (t.op1 i);
        base2 = base_of (op2 i);
        number0 = number0 i;
        number1 = number1 i;
        number2 = number2 i;
      }

  -- a length has one digit
  length_same : r.length ≡ s.length
  length_same =
      let l = two_to_seven (a ∷ b ∷ xs) (second a b xs c) c.accepted in
      let m = two_to_seven (a' ∷ b' ∷ xs') (second a' b' xs' c') c'.accepted in
      omega (arith, t.length, l.1, m.1, (counted document01 (a ∷ b ∷ xs)).accepted c.accepted, (counted document01 (a' ∷ b' ∷ xs')).accepted c'.accepted)

  stamps : stamp_of r ≡ stamp_of s
  unfolding stamp_of code_number
  stamps i =
      stamp (shown_name (t.width i) (t.opcode i)) (size_no (t.size i)) (width_no (t.width i)) (operand_no (t.op0 i)) (operand_no (t.op1 i)) (length_same i)
      (pick (in_code (t.opcode i) (t.size i)) (number0 i) 0)

  codes : (a ≡ a') × (folded a b ≡ folded a' b')
  codes =
      codes_apart a b a' b' (by_row a b xs c).known (by_row a' b' xs' c').known (second a b xs c) (second a' b' xs' c') (lively a b xs c) (lively a' b' xs' c')
      (sym (stamp_is a b xs c) ∙ stamps ∙ stamp_is a' b' xs' c')

  rows : row a b xs c ≡ row a' b' xs' c'
  rows = sym (folded_row a b (second a b xs c)) ∙ ap₂ (λ x y. document01.row_at x y) codes.0 codes.1 ∙ folded_row a' b' (second a' b' xs' c')

  numbers : spell (row a b xs c).reads r ≡ spell (row a' b' xs' c').reads s
  numbers = by_key a b xs c (key s) same ∙ ap (λ w. spell w.reads (aim w.face (key s))) rows ∙ sym (by_key a' b' xs' c' (key s) refl)

  alike : instruction (a ∷ b ∷ xs) ≡ instruction (a' ∷ b' ∷ xs')
  alike = bytes_are a b xs c ∙ (λ i. codes.0 i ∷ codes.1 i ∷ numbers i) ∙ sym (bytes_are a' b' xs' c')

-- clear bytes are two at least
two : (P : List ℕ → Type 0) → ((a b : ℕ) (xs : List ℕ) → Clear (a ∷ b ∷ xs) → P (a ∷ b ∷ xs)) → (xs : List ℕ) → Clear xs → P xs
two P f xs c =
    says_two document01 (λ ys. Clear ys → P ys) (decode_rows xs).inst (λ a b ys says k. f a b ys k) xs
    (record { accepted = c.accepted; unmarked = c.unmarked; same = refl }) c

pub tells : (p q : ℕ) (xs ys : List ℕ) → Clear xs → Clear ys → line_of p (decode_rows xs).inst ≡ line_of q (decode_rows ys).inst → instruction xs ≡ instruction ys
tells p q xs ys c d =
    two (λ us. line_of p (decode_rows us).inst ≡ line_of q (decode_rows ys).inst → instruction us ≡ instruction ys)
    (λ a b us k.
    two (λ vs. line_of p (decode_rows (a ∷ b ∷ us)).inst ≡ line_of q (decode_rows vs).inst → instruction (a ∷ b ∷ us) ≡ instruction vs)
    (λ a' b' vs l e. alike a b us k a' b' vs l (told p q _ _ (led a b us k) (led a' b' vs l) e)) ys d)
    xs c
