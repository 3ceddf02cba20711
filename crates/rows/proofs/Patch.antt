-- Request A5, what a patcher needs: if the bytes of one part are changed, decoding at the same place gives the same record but for that field,
-- and whether bits were dropped. A part has no byte of the code and no condition byte, and what a row comes to goes by these and by how many
-- bytes there are; so the same row reads at the same places.
-- Assumes nothing.
use Prim.Native.Nat.{ℕ, ◌+◌, ◌%◌, ◌^◌, ◌<◌}
use mathlib.Core.Path.{◌≡◌, refl, sym, ap, ◌∙◌, subst}
use mathlib.Core.Bool.{true, not}
use mathlib.Core.List.{List, [], ◌∷◌}
use native.Mathlib.Omega.{arith}
use lib.Dec.{T, T_not, eqb, eqb_refl, leb}
use Rattle.record.specs.Answer.{Answer}
use Rattle.record.specs.declared.Record.{Record}
use Rattle.record.specs.declared.fields.Field.{Field}
use Rattle.record.specs.declared.fields.Field.TheVariants.{Nowhere as nowhere, Wide as wide, Short as short, Early as early}
use Rattle.record.specs.Parts.{part_of}
use Rattle.record.specs.Numbered.{numbered}
use Rattle.rows.specs.Bytes.{Bytes}
use Rattle.rows.specs.Parts.{DifferIn, dropped_of, kept_of, holding}
use Rattle.rows.specs.Row.{Row, Table}
use Rattle.rows.specs.Run.{run_row, begun, twenty_bits, decode_by}
use Rattle.rows.specs.Spans.{Source, code, read, twenty, spans_of, number_in, wide_in, dropped_in, part_in, parts_in, MadeBy}
use Rattle.rows.proofs.Bytes.{bytes_alike}
use Rattle.rows.proofs.Laid.{begins, laid_row}
use Rattle.rows.proofs.Plain.{Plain, plain_source, wide_again, dropped_again}
use Rattle.rows.proofs.Spans.{Accepted, accepted}
use Rattle.rows.proofs.Taken.{counted}
use Rattle.rows.proofs.Length.{at_least}
use Rattle.rows.proofs.Parts.{laid}
use Rattle.rows.proofs.Unchanged.{Alike, alike, conditions}

-- what is read of the same bytes is the same
wide_kept : (bs cs : List ℕ) (number : ℕ) (q : Source) → number_in cs (part_in q) ≡ number_in bs (part_in q) → wide_in cs number q ≡ wide_in bs number q
wide_kept bs cs number code e = refl
wide_kept bs cs number (read p) e = ap (λ v. v % 256 ^ p.width) e
wide_kept bs cs number (twenty p) e = ap (λ v. v % twenty_bits) e

dropped_kept : (bs cs : List ℕ) (q : Source) → number_in cs (part_in q) ≡ number_in bs (part_in q) → dropped_in cs q ≡ dropped_in bs q
dropped_kept bs cs code e = refl
dropped_kept bs cs (read p) e = refl
dropped_kept bs cs (twenty p) e = ap (leb twenty_bits) e

abbrev field_no : Field → ℕ
field_no nowhere = 0
field_no wide = 1
field_no short = 2
field_no early = 3

-- two of the three are not one
differs : {f g : Field} → T (not (eqb (field_no f) (field_no g))) → f ≡ g → ⊥
differs {f} {g} n e = T_not (eqb (field_no f) (field_no g)) n (subst (λ x. T (eqb (field_no f) (field_no x))) e (eqb_refl (field_no f)))

-- decoding what was changed gives the record that holds what stands there now
abbrev pub answer : Record → ℕ → Answer
answer r n = record { inst = r; taken = n; refusal = 0 }

abbrev pub Patched : Table → Field → List ℕ → List ℕ → Type 0
Patched t f bs cs = decode_by t cs ≡ answer (holding f (number_in cs (part_of f (decode_by t bs).inst.parts)) (decode_by t bs).inst) (decode_by t bs).taken

module _ (t : Table) (f : Field) (a b : ℕ) (bs cs : List ℕ) (z : (decode_by t (a ∷ b ∷ bs)).refusal ≡ 0)
    (d : DifferIn (part_of f (decode_by t (a ∷ b ∷ bs)).inst.parts) (a ∷ b ∷ bs) (a ∷ b ∷ cs)) where
  abbrev w : Row
  w = t.row_at a b

  abbrev r : Record
  r = (decode_by t (a ∷ b ∷ bs)).inst

  abbrev s : Record
  s = (decode_by t (a ∷ b ∷ cs)).inst

  was : Accepted t a b bs r
  was = accepted t a b bs z

  differ : DifferIn (part_of f (parts_in (spans_of w))) (a ∷ b ∷ bs) (a ∷ b ∷ cs)
  differ = subst (λ p. DifferIn (part_of f p) (a ∷ b ∷ bs) (a ∷ b ∷ cs)) was.made.parts d

  by_row : (xs : List ℕ) → decode_by t (a ∷ b ∷ xs) ≡ run_row w (a ∷ b ∷ xs)
  unfolding decode_by
  by_row xs = rw was.known

  rows_alike : Alike (run_row w (a ∷ b ∷ bs)) (run_row w (a ∷ b ∷ cs))
  unfolding run_row spans_of
  rows_alike =
      alike (a ∷ b ∷ bs) (a ∷ b ∷ cs) differ.long w.reads w.face (begun w.number) (begun w.number) 2 refl refl
      (conditions f (a ∷ b ∷ bs) (a ∷ b ∷ cs) w.reads _ begins differ)

  still : Alike (decode_by t (a ∷ b ∷ bs)) (decode_by t (a ∷ b ∷ cs))
  still = subst (λ x. Alike x (decode_by t (a ∷ b ∷ cs))) (sym (by_row bs)) (subst (Alike (run_row w (a ∷ b ∷ bs))) (sym (by_row cs)) rows_alike)

  is : MadeBy w (a ∷ b ∷ cs) s
  is = (accepted t a b cs (still.refusal ∙ z)).made

  -- names, length, mark, parts and how many registers are named
  named_alike : s ≡ numbered s.imm_wide s.dispabs s.first s.dropped r.parts r.registers r
  named_alike i = record {
    imm_wide = s.imm_wide;
    dispabs = s.dispabs;
    first = s.first;
    length = (is.length ∙ sym was.made.length) i;
    opcode = still.opcode i;
    size = (is.size ∙ sym was.made.size) i;
    width = (is.width ∙ sym was.made.width) i;
    op0 = (is.op0 ∙ sym was.made.op0) i;
    op1 = (is.op1 ∙ sym was.made.op1) i;
    op2 = (is.op2 ∙ sym was.made.op2) i;
    marked = (is.marked ∙ sym was.made.marked) i;
    dropped = s.dropped;
    parts = (is.parts ∙ sym was.made.parts) i;
    registers = (is.registers ∙ sym was.made.registers) i;
  }

  -- the number of another field
  other_number : (g : Field) → (f ≡ g → ⊥) → number_in (a ∷ b ∷ cs) (part_of g (parts_in (spans_of w))) ≡ number_in (a ∷ b ∷ bs) (part_of g (parts_in (spans_of w)))
  other_number g n =
      let p = part_of g (parts_in (spans_of w)) in
      bytes_alike (a ∷ b ∷ bs) (a ∷ b ∷ cs) p.width p.offset p.offset
      (λ k l. differ.elsewhere (p.offset + k) (λ v. n ((laid_row w).apart f g (p.offset + k) v (omega arith, omega arith))))

  wide_same : (f ≡ wide → ⊥) → s.imm_wide ≡ r.imm_wide
  wide_same n = is.imm_wide ∙ wide_kept (a ∷ b ∷ bs) (a ∷ b ∷ cs) w.number (spans_of w).wide (other_number wide n) ∙ sym was.made.imm_wide

  dropped_same : (f ≡ wide → ⊥) → s.dropped ≡ r.dropped
  dropped_same n = is.dropped ∙ dropped_kept (a ∷ b ∷ bs) (a ∷ b ∷ cs) (spans_of w).wide (other_number wide n) ∙ sym was.made.dropped

  short_same : (f ≡ short → ⊥) → s.dispabs ≡ r.dispabs
  short_same n = is.dispabs ∙ other_number short n ∙ sym was.made.dispabs

  early_same : (f ≡ early → ⊥) → s.first ≡ r.first
  early_same n = is.first ∙ other_number early n ∙ sym was.made.first

  -- what is read now, by the parts that the record told
  module _ (h : Bytes (a ∷ b ∷ cs)) (plainly : T (plain_source (spans_of w).wide)) (l : 0 < (part_of f r.parts).width) where
    wide_now : 0 < r.parts.imm_wide.width → s.imm_wide ≡ kept_of r.parts.imm_wide.width (number_in (a ∷ b ∷ cs) r.parts.imm_wide)
    wide_now =
        subst (λ p. 0 < p.imm_wide.width → s.imm_wide ≡ kept_of p.imm_wide.width (number_in (a ∷ b ∷ cs) p.imm_wide)) (sym was.made.parts)
        (λ m. is.imm_wide ∙ wide_again (a ∷ b ∷ cs) w.number h (spans_of w).wide plainly m)

    dropped_now : s.dropped ≡ dropped_of r.parts.imm_wide.width (number_in (a ∷ b ∷ cs) r.parts.imm_wide)
    dropped_now =
        subst (λ p. s.dropped ≡ dropped_of p.imm_wide.width (number_in (a ∷ b ∷ cs) p.imm_wide)) (sym was.made.parts)
        (is.dropped ∙ dropped_again (a ∷ b ∷ cs) (spans_of w).wide plainly)

    short_now : s.dispabs ≡ number_in (a ∷ b ∷ cs) r.parts.dispabs
    short_now = subst (λ p. s.dispabs ≡ number_in (a ∷ b ∷ cs) p.dispabs) (sym was.made.parts) is.dispabs

    early_now : s.first ≡ number_in (a ∷ b ∷ cs) r.parts.first
    early_now = subst (λ p. s.first ≡ number_in (a ∷ b ∷ cs) p.first) (sym was.made.parts) is.first

    -- the field is one of the three, and the other two are as they were
    held : (g : Field) → f ≡ g → s ≡ holding g (number_in (a ∷ b ∷ cs) (part_of g r.parts)) r
    held nowhere e = let m : 0 < 0 = rw e at l in absurd (omega arith)
    held wide e =
        let m : 0 < r.parts.imm_wide.width = rw e at l in
        let x = short_same (λ q. differs tt (sym e ∙ q)) in
        let y = early_same (λ q. differs tt (sym e ∙ q)) in
        named_alike ∙ (λ i. numbered (wide_now m i) (x i) (y i) (dropped_now i) r.parts r.registers r)
    held short e =
        let x = wide_same (λ q. differs tt (sym e ∙ q)) in
        let y = early_same (λ q. differs tt (sym e ∙ q)) in
        let u = dropped_same (λ q. differs tt (sym e ∙ q)) in
        named_alike ∙ (λ i. numbered (x i) (short_now i) (y i) (u i) r.parts r.registers r)
    held early e =
        let x = wide_same (λ q. differs tt (sym e ∙ q)) in
        let y = short_same (λ q. differs tt (sym e ∙ q)) in
        let u = dropped_same (λ q. differs tt (sym e ∙ q)) in
        named_alike ∙ (λ i. numbered (x i) (y i) (early_now i) (u i) r.parts r.registers r)

    pub changed : decode_by t (a ∷ b ∷ cs) ≡ answer (holding f (number_in (a ∷ b ∷ cs) (part_of f r.parts)) r) (decode_by t (a ∷ b ∷ bs)).taken
    changed i = record { inst = held f refl i; taken = still.taken i; refusal = (still.refusal ∙ z) i }

-- whatever the two strings begin with
module _ (t : Table) (plainly : (a b : ℕ) → t.known a ≡ true → b < 256 → Plain a b (spans_of (t.row_at a b))) (f : Field) where
  from_code : (a b c d : ℕ) (bs cs : List ℕ) → Bytes (c ∷ d ∷ cs) → (decode_by t (a ∷ b ∷ bs)).refusal ≡ 0
      → 0 < (part_of f (decode_by t (a ∷ b ∷ bs)).inst.parts).width
      → DifferIn (part_of f (decode_by t (a ∷ b ∷ bs)).inst.parts) (a ∷ b ∷ bs) (c ∷ d ∷ cs) → c ≡ a → d ≡ b → Patched t f (a ∷ b ∷ bs) (c ∷ d ∷ cs)
  from_code a b c d bs cs h z l e p q =
      let g : Bytes (a ∷ b ∷ cs) = subst (λ x. Bytes (x ∷ b ∷ cs)) p (subst (λ y. Bytes (c ∷ y ∷ cs)) q h) in
      let k : DifferIn (part_of f (decode_by t (a ∷ b ∷ bs)).inst.parts) (a ∷ b ∷ bs) (a ∷ b ∷ cs) =
      subst (λ x. DifferIn (part_of f (decode_by t (a ∷ b ∷ bs)).inst.parts) (a ∷ b ∷ bs) (x ∷ b ∷ cs)) p
      (subst (λ y. DifferIn (part_of f (decode_by t (a ∷ b ∷ bs)).inst.parts) (a ∷ b ∷ bs) (c ∷ y ∷ cs)) q e) in
      let v = changed t f a b bs cs z k g (plainly a b (accepted t a b bs z).known g.1.0).wide l in
      subst (λ x. Patched t f (a ∷ b ∷ bs) (x ∷ d ∷ cs)) (sym p) (subst (λ y. Patched t f (a ∷ b ∷ bs) (a ∷ y ∷ cs)) (sym q) v)

  pub patched : (bs cs : List ℕ) → Bytes cs → (decode_by t bs).refusal ≡ 0 → 0 < (part_of f (decode_by t bs).inst.parts).width
      → DifferIn (part_of f (decode_by t bs).inst.parts) bs cs → Patched t f bs cs
  patched [] cs h z l e = let m = at_least t [] z in absurd (omega (arith, (counted t []).within))
  patched (a ∷ []) cs h z l e = let m = at_least t (a ∷ []) z in absurd (omega (arith, (counted t (a ∷ [])).within))
  patched (a ∷ b ∷ bs) [] h z l e = absurd (omega (arith, e.long))
  patched (a ∷ b ∷ bs) (c ∷ []) h z l e = absurd (omega (arith, e.long))
  patched (a ∷ b ∷ bs) (c ∷ d ∷ cs) h z l e =
      let p : c ≡ a = e.elsewhere 0 (λ w. omega (arith, (laid t a b bs z).behind f 0 w)) in
      let q : d ≡ b = e.elsewhere 1 (λ w. omega (arith, (laid t a b bs z).behind f 1 w)) in
      from_code a b c d bs cs h z l e p q
