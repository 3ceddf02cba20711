-- The two readings of a row agree: what decoding accepts has the numbers that stand at the row's parts, these parts and their length. Of any row table.
-- Assumes nothing.
use Prim.Native.Nat.{ℕ, ◌+◌, ◌%◌, ◌^◌}
use mathlib.Core.Path.{◌≡◌, refl, sym, ap, ◌∙◌}
use mathlib.Core.Bool.{Bool, true, false}
use mathlib.Core.List.{List, [], ◌∷◌}
use native.Mathlib.Omega.{arith}
use lib.ListN.{length, get_or}
use lib.Dec.{eqb, leb, ltb}
use Rattle.laws.specs.Choice.{pick}
use Rattle.record.specs.declared.Opcode.{Opcode}
use Rattle.record.specs.declared.Record.{Record}
use Rattle.record.specs.declared.Seen.{Seen}
use Rattle.record.specs.Answer.{On, Short}
use Rattle.record.specs.Parts.{part}
use Rattle.rows.specs.Row.{disp, imm, imm20, InvalidOpcode, InvalidOperand, Read, num, cond, stop, Condition, named, unnamed, Face, Row, Table}
use Rattle.rows.specs.Codes.{cond_of}
use Rattle.rows.specs.Fate.{fate}
use Rattle.rows.specs.Run.{bytes, twenty_bits, read_disp, read_into, disp_at, imm_at, with_disp, with_imm, and_then, judged, past, renamed, refusal, run, run_row, begun, decode_by}
use Rattle.rows.specs.Spans.{Source, read, twenty, Spans, follow, spans_of, disp_next, imm_next, cond_next, number_in, wide_in, dropped_in, parts_in, part_in, named_in, Made, MadeBy}

-- the numbers read so far stand at the spans so far; the last naming is the opcode's
module _ (bs : List ℕ) (number : ℕ) (o : Opcode) where
  record SoFar (z : Spans) (f : Face) (s : Seen) : Type 0 where
    taken : s.taken ≡ z.length
    wide : s.imm_wide ≡ wide_in bs number z.wide
    short : s.dispabs ≡ number_in bs z.short
    early : s.first ≡ number_in bs z.early
    opcode : named_in bs o z.naming ≡ named f.opcode
    dropped : s.dropped ≡ dropped_in bs z.wide
    parts : s.parts ≡ parts_in z

  -- of a list of reads: where it accepts, the record was made at its spans, and none of its own refusals was met
  abbrev Goes : List Read → Type 0
  Goes rs = (f : Face) (s : Seen) (z : Spans) → SoFar z f s → (run rs bs f s).refusal ≡ 0 → Made bs number o f (follow rs z) (run rs bs f s).inst × (fate rs ≡ 0)

  disp_goes : (n : ℕ) (rs : List Read) → Goes rs → Goes (num (disp n) ∷ rs)
  unfolding run read_disp follow
  disp_goes n rs ih f s z h = by (eqb n 0) (leb (s.taken + n) (length bs))
    where
      by : (e l : Bool) → (and_then bs (pick e (On s) (pick l (On (with_disp n (bytes bs s.taken n) s)) Short)) (run rs bs f)).refusal ≡ 0
          → Made bs number o f (follow rs (pick e z (disp_next n z))) (and_then bs (pick e (On s) (pick l (On (with_disp n (bytes bs s.taken n) s)) Short)) (run rs bs f)).inst × (fate rs ≡ 0)
      by true l = ih f s z h
      by false true =
          ih f (with_disp n (bytes bs s.taken n) s) (disp_next n z) (record {
            taken = ap (λ k. k + n) h.taken;
            wide = h.wide;
            short = ap (λ k. bytes bs k n) h.taken;
            early = h.short;
            opcode = h.opcode;
            dropped = h.dropped;
            parts = λ i. disp_at (h.taken i) n (h.parts i);
          })
      by false false = λ k. absurd (omega arith)

  -- a number for imm_wide, from a source of its own
  imm_goes : (n : ℕ) (kept : ℕ → ℕ) (lost : ℕ → Bool) (source : ℕ → Source)
      → ((p : ℕ) → kept (bytes bs p n) ≡ wide_in bs number (source p)) → ((p : ℕ) → lost (bytes bs p n) ≡ dropped_in bs (source p))
      → ((p : ℕ) → part p n ≡ part_in (source p)) → (rs : List Read) → Goes rs → (f : Face) (s : Seen) (z : Spans) → SoFar z f s
      → (and_then bs (read_into n (λ v. with_imm n (kept v) (lost v)) bs s) (run rs bs f)).refusal ≡ 0
      → Made bs number o f (follow rs (imm_next (source z.length) n z)) (and_then bs (read_into n (λ v. with_imm n (kept v) (lost v)) bs s) (run rs bs f)).inst × (fate rs ≡ 0)
  unfolding read_into
  imm_goes n kept lost source wide dropped place rs ih f s z h = by (leb (s.taken + n) (length bs))
    where
      after : Seen
      after = let v = bytes bs s.taken n in with_imm n (kept v) (lost v) s

      by : (l : Bool) → (and_then bs (pick l (On after) Short) (run rs bs f)).refusal ≡ 0
          → Made bs number o f (follow rs (imm_next (source z.length) n z)) (and_then bs (pick l (On after) Short) (run rs bs f)).inst × (fate rs ≡ 0)
      by true =
          ih f after (imm_next (source z.length) n z) (record {
            taken = ap (λ k. k + n) h.taken;
            wide = ap (λ k. kept (bytes bs k n)) h.taken ∙ wide z.length;
            short = h.short;
            early = h.early;
            opcode = h.opcode;
            dropped = ap (λ k. lost (bytes bs k n)) h.taken ∙ dropped z.length;
            parts = (λ i. imm_at (h.taken i) n (h.parts i)) ∙ ap (λ p. record { imm_wide = p; dispabs = z.short; first = z.early }) (place z.length);
          })
      by false = λ k. absurd (omega arith)

  -- another opcode changes no other name
  face_kept : (p : Opcode) (f : Face) (z : Spans) (r : Record) → Made bs number o (renamed p f) z r → Made bs number o f z r
  face_kept p f z r d = record {
    length = d.length;
    imm_wide = d.imm_wide;
    dispabs = d.dispabs;
    first = d.first;
    opcode = d.opcode;
    size = d.size;
    width = d.width;
    op0 = d.op0;
    op1 = d.op1;
    op2 = d.op2;
    marked = d.marked;
    dropped = d.dropped;
    parts = d.parts;
    registers = d.registers;
  }

  cond_goes : (rs : List Read) → Goes rs → Goes (cond ∷ rs)
  unfolding run follow
  cond_goes rs ih f s z h = by (ltb s.taken (length bs)) (cond_of (get_or bs s.taken 0)) refl
    where
      by : (l : Bool) (c : Condition) → cond_of (get_or bs s.taken 0) ≡ c
          → (pick l (judged c s (λ p. run rs bs (renamed p f) (past s))) (refusal 1 (length bs))).refusal ≡ 0
          → Made bs number o f (follow rs (cond_next z)) (pick l (judged c s (λ p. run rs bs (renamed p f) (past s))) (refusal 1 (length bs))).inst × (fate rs ≡ 0)
      by true (named p) e k =
          let d =
          ih (renamed p f) (past s) (cond_next z) (record {
            taken = ap (λ n. n + 1) h.taken;
            wide = h.wide;
            short = h.short;
            early = h.early;
            opcode = ap (λ n. cond_of (get_or bs n 0)) (sym h.taken) ∙ e;
            dropped = h.dropped;
            parts = h.parts;
          }) k
          in
          (face_kept p f _ _ d.0, d.1)
      by true unnamed e k = absurd (omega arith)
      by false c e k = absurd (omega arith)

  goes : (rs : List Read) → Goes rs
  unfolding run follow
  goes [] f s z h k = (
    record {
      length = h.taken;
      imm_wide = h.wide;
      dispabs = h.short;
      first = h.early;
      opcode = h.opcode;
      size = refl;
      width = refl;
      op0 = refl;
      op1 = refl;
      op2 = refl;
      marked = refl;
      dropped = h.dropped;
      parts = h.parts;
      registers = refl;
    },
    refl,
  )
  goes (num (disp n) ∷ rs) f s z h k = disp_goes n rs (goes rs) f s z h k
  goes (num (imm n) ∷ rs) f s z h k = imm_goes n (λ v. v % 256 ^ n) (λ v. false) (λ p. read (part p n)) (λ p. refl) (λ p. refl) (λ p. refl) rs (goes rs) f s z h k
  goes (num imm20 ∷ rs) f s z h k = imm_goes 3 (λ v. v % twenty_bits) (leb twenty_bits) twenty (λ p. refl) (λ p. refl) (λ p. refl) rs (goes rs) f s z h k
  goes (cond ∷ rs) f s z h k = cond_goes rs (goes rs) f s z h k
  goes (stop InvalidOpcode ∷ rs) f s z h k = absurd (omega arith)
  goes (stop InvalidOperand ∷ rs) f s z h k = absurd (omega arith)

row_goes : (w : Row) (bs : List ℕ) → (run_row w bs).refusal ≡ 0 → MadeBy w bs (run_row w bs).inst × (fate w.reads ≡ 0)
unfolding run_row spans_of
row_goes w bs = goes bs w.number w.face.opcode w.reads w.face (begun w.number) _ (record { taken = refl; wide = refl; short = refl; early = refl; opcode = refl; dropped = refl; parts = refl })

-- what is accepted has a first byte that is known and a row that does not refuse, and was made by that row
pub record Accepted (t : Table) (a b : ℕ) (bs : List ℕ) (r : Record) : Type 0 where
  pub known : t.known a ≡ true
  pub alive : fate (t.row_at a b).reads ≡ 0
  pub made : MadeBy (t.row_at a b) (a ∷ b ∷ bs) r

module _ (t : Table) (a b : ℕ) (bs : List ℕ) where
  pub accepted : (decode_by t (a ∷ b ∷ bs)).refusal ≡ 0 → Accepted t a b bs (decode_by t (a ∷ b ∷ bs)).inst
  unfolding decode_by
  accepted = by (t.known a) refl
    where
      w : Row
      w = t.row_at a b

      by : (k : Bool) → t.known a ≡ k → (pick k (run_row w (a ∷ b ∷ bs)) (refusal 4 1)).refusal ≡ 0 → Accepted t a b bs (pick k (run_row w (a ∷ b ∷ bs)) (refusal 4 1)).inst
      by false e z = absurd (omega arith)
      by true e z = let d = row_goes w (a ∷ b ∷ bs) z in record { known = e; alive = d.1; made = d.0 }
