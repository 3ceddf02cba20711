-- Request A5: what the parts of document 01's rows are, by computation over all codes. Three bytes are read into imm_wide alone, and kept to
-- 20 bits; other numbers have one byte or two, and are kept whole; and every byte behind the second is a part's or the condition byte of 7E 2n.
-- Assumes nothing.
use Prim.Native.Nat.{ℕ, ◌+◌, ◌/◌, ◌≤◌, ◌<◌}
use mathlib.Core.Path.{◌≡◌, refl, sym, ◌∙◌}
use mathlib.Core.Bool.{Bool, true, false}
use mathlib.Core.List.{List}
use native.Mathlib.Omega.{arith}
use native.Mathlib.Nat.{mod-eq_of_lt}
use lib.Dec.{T, eqb, leb, ltb, leb→le, eqb→eq}
use borrow.Author.Tests.{eqb-true}
use Rattle.laws.specs.Choice.{pick, both, either}
use Rattle.laws.specs.Range.{upto}
use Rattle.laws.proofs.Choice.{both_left, both_right}
use Rattle.laws.proofs.Range.{upto_at}
use Rattle.record.specs.declared.Part.{Part}
use Rattle.rows.specs.All.{every_code}
use Rattle.rows.specs.Bytes.{Bytes}
use Rattle.rows.specs.Parts.{Sized, kept_by, kept_of, dropped_of}
use Rattle.rows.specs.Groups.{known, rows_of, document01}
use Rattle.rows.specs.Spans.{Source, code, read, twenty, Spans, spans_of, number_in, wide_in, dropped_in, part_in}
use Rattle.rows.proofs.All.{every_code_lem}
use Rattle.rows.proofs.Bytes.{bytes_small}

-- one byte or two, or none, and then at no place
unfoldable pub plain_part : Part → Bool
plain_part p = pick (eqb p.width 0) (eqb p.offset 0) (leb p.width 2)

unfoldable pub plain_source : Source → Bool
unfolding plain_part
plain_source code = true
plain_source (read p) = both (plain_part p) (ltb 0 p.width)
plain_source (twenty p) = true

unfoldable pub withinb : Part → ℕ → Bool
withinb p i = both (leb p.offset i) (ltb i (p.offset + p.width))

unfoldable pub conditionb : ℕ → ℕ → ℕ → ℕ → Bool
conditionb a b n i = both (eqb a 0x7E) (both (eqb (b / 16) 2) (eqb (i + 1) n))

-- a byte of the code, of a part, or the condition byte
unfoldable pub coveredb : ℕ → ℕ → Spans → ℕ → Bool
unfolding withinb conditionb
coveredb a b z i =
    either (ltb i 2)
    (either (withinb (part_in z.wide) i)
    (either (withinb z.short i)
    (either (withinb z.early i) (conditionb a b z.length i))))

unfoldable pub plain_spans : ℕ → ℕ → Spans → Bool
unfolding plain_source coveredb upto
plain_spans a b z = both (plain_source z.wide) (both (plain_part z.short) (both (plain_part z.early) (upto (coveredb a b z) z.length)))

plain_at : ℕ → ℕ → Bool
plain_at a b = plain_spans a b (spans_of (document01.row_at a b))

all_plain : T (every_code plain_at)
unfolding every_code upto plain_at plain_spans plain_source coveredb spans_of rows_of
all_plain = tt

short_width : (p : Part) → T (plain_part p) → p.width ≤ 2
unfolding plain_part
short_width p t = by (eqb p.width 0) refl t
  where
    by : (x : Bool) → eqb p.width 0 ≡ x → T (pick x (eqb p.offset 0) (leb p.width 2)) → p.width ≤ 2
    by true e u = omega (arith, eqb-true p.width 0 e)
    by false e u = leb→le p.width 2 u

not_three : (p : Part) → T (plain_part p) → eqb p.width 3 ≡ false
not_three p t = by (eqb p.width 3) refl
  where
    by : (x : Bool) → eqb p.width 3 ≡ x → x ≡ false
    by false e = refl
    by true e = absurd (omega (arith, short_width p t, eqb-true p.width 3 e))

-- a number of one byte or two is kept whole, and nothing of it is dropped
pub whole : (p : Part) (v : ℕ) → T (plain_part p) → kept_of p.width v ≡ v
whole p v t = rw (not_three p t)

none : (p : Part) (v : ℕ) → T (plain_part p) → false ≡ dropped_of p.width v
none p v t = rw (not_three p t)

pub sized : (p : Part) → T (plain_part p) → Sized p
unfolding plain_part
sized p t = (omega (arith, short_width p t), λ e. at_none p.width e t)
  where
    at_none : (w : ℕ) → w ≡ 0 → T (pick (eqb w 0) (eqb p.offset 0) (leb w 2)) → p.offset ≡ 0
    at_none w e u = eqb→eq p.offset 0 (rw e at u)

pub sized_source : (q : Source) → T (plain_source q) → Sized (part_in q)
unfolding plain_source
sized_source code t = (omega arith, λ e. refl)
sized_source (read p) t = sized p (both_left (plain_part p) (ltb 0 p.width) t)
sized_source (twenty p) t = (omega arith, λ e. absurd (omega arith))

-- a number for imm_wide: by its kind, of any row, and by its width
pub by_kind : (bs : List ℕ) (number : ℕ) → Bytes bs → (q : Source) → 0 < (part_in q).width → wide_in bs number q ≡ kept_by q (number_in bs (part_in q))
by_kind bs number h code l = absurd (omega arith)
by_kind bs number h (read p) l = mod-eq_of_lt (bytes_small p.width p.offset bs h)
by_kind bs number h (twenty p) l = refl

by_width : (q : Source) (v : ℕ) → T (plain_source q) → kept_by q v ≡ kept_of (part_in q).width v
unfolding plain_source
by_width code v t = refl
by_width (read p) v t = sym (whole p v (both_left (plain_part p) (ltb 0 p.width) t))
by_width (twenty p) v t = refl

pub wide_again : (bs : List ℕ) (number : ℕ) → Bytes bs → (q : Source) → T (plain_source q) → 0 < (part_in q).width
    → wide_in bs number q ≡ kept_of (part_in q).width (number_in bs (part_in q))
wide_again bs number h q t l = by_kind bs number h q l ∙ by_width q (number_in bs (part_in q)) t

pub dropped_again : (bs : List ℕ) (q : Source) → T (plain_source q) → dropped_in bs q ≡ dropped_of (part_in q).width (number_in bs (part_in q))
unfolding plain_source
dropped_again bs code t = refl
dropped_again bs (read p) t = none p (number_in bs p) (both_left (plain_part p) (ltb 0 p.width) t)
dropped_again bs (twenty p) t = refl

-- of the spans of a code
pub record Plain (a b : ℕ) (z : Spans) : Type 0 where
  pub wide : T (plain_source z.wide)
  pub short : T (plain_part z.short)
  pub early : T (plain_part z.early)
  pub covered : (i : ℕ) → i < z.length → T (coveredb a b z i)

pub passed : (a b : ℕ) (z : Spans) → T (plain_spans a b z) → Plain a b z
unfolding plain_spans
passed a b z t =
    let x = both_right (plain_source z.wide) _ t in
    let y = both_right (plain_part z.short) _ x in
    record {
      wide = both_left (plain_source z.wide) _ t;
      short = both_left (plain_part z.short) _ x;
      early = both_left (plain_part z.early) _ y;
      covered = upto_at (coveredb a b z) z.length (both_right (plain_part z.early) _ y);
    }

pub plain_at_lem : (a b : ℕ) → known a ≡ true → b < 256 → Plain a b (spans_of (document01.row_at a b))
unfolding plain_at
plain_at_lem a b k l = passed a b _ (every_code_lem plain_at all_plain b l a k)
