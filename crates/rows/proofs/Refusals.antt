-- What decoding refuses with, of any row table: a number up to 4, so that what says that a buffer is too small is no refusal of bytes; and 4
-- by the first byte alone, since a row refuses with a number up to 3. With it comes the blank record.
-- Assumes nothing.
use Prim.Native.Nat.{ℕ, ◌≤◌}
use mathlib.Core.Path.{◌≡◌, refl}
use mathlib.Core.Bool.{false}
use mathlib.Core.List.{List, [], ◌∷◌}
use native.Mathlib.Omega.{arith}
use Rattle.record.specs.Answer.{Answer}
use Rattle.laws.proofs.Choice.{pick_holds}
use Rattle.record.specs.Blank.{blank}
use Rattle.rows.specs.Row.{Refusal, InvalidOpcode, InvalidOperand, refusal_no, Table}
use Rattle.rows.specs.Run.{refusal, run_row, begun, decode_by}
use Rattle.rows.proofs.Along.{Events, along}

abbrev Listed : Answer → Type 0
Listed x = x.refusal ≤ 3

own : (e : Refusal) → refusal_no e ≤ 3
own InvalidOpcode = omega arith
own InvalidOperand = omega arith

events : (bs : List ℕ) → Events bs (λ rs n x. Listed x)
events bs = record {
  ends = λ n x l z t h. omega arith;
  goes_on = λ k rs n x l h. h;
  runs_out = λ k rs n l s. omega arith;
  names = λ rs n x l h. h;
  names_none = λ rs n l. omega arith;
  no_condition_lem = λ rs n e. omega arith;
  stops = λ e rs n l. own e;
}

-- the record beside a refusal
abbrev Blank : Answer → Type 0
Blank x = (x.refusal ≡ 0 → ⊥) → x.inst ≡ blank

blanks : (bs : List ℕ) → Events bs (λ rs n x. Blank x)
blanks bs = record {
  ends = λ n x l z t h k. absurd (k z);
  goes_on = λ k rs n x l h. h;
  runs_out = λ k rs n l s e. refl;
  names = λ rs n x l h. h;
  names_none = λ rs n l e. refl;
  no_condition_lem = λ rs n e k. refl;
  stops = λ e rs n l k. refl;
}

-- a row's refusal, or that of a first byte outside
abbrev First : Answer → Type 0
First x = (x.refusal ≤ 4) × (x.refusal ≡ 4 → x.taken ≡ 1)

by_row : (x : Answer) → Listed x → First x
by_row x l = (omega arith, λ e. absurd (omega arith))

module _ (t : Table) where
  first : (bs : List ℕ) → First (decode_by t bs)
  unfolding decode_by run_row
  first [] = by_row (refusal 1 0) (omega arith)
  first (a ∷ []) = pick_holds First (t.known a) (refusal 1 1) (refusal 4 1) (λ e. by_row (refusal 1 1) (omega arith)) (λ e. (omega arith, λ f. refl))
  first (a ∷ b ∷ bs) =
      let r = t.row_at a b in
      pick_holds First (t.known a) (run_row r (a ∷ b ∷ bs)) (refusal 4 1)
      (λ e. by_row (run_row r (a ∷ b ∷ bs)) (along (events (a ∷ b ∷ bs)) r.reads r.face (begun r.number) (omega arith)))
      (λ e. (omega arith, λ f. refl))

  -- demand 1: with a refusal comes the blank record
  pub refused_blank : (bs : List ℕ) → ((decode_by t bs).refusal ≡ 0 → ⊥) → (decode_by t bs).inst ≡ blank
  unfolding decode_by run_row
  refused_blank [] = λ n. refl
  refused_blank (a ∷ []) = pick_holds Blank (t.known a) (refusal 1 1) (refusal 4 1) (λ e n. refl) (λ e n. refl)
  refused_blank (a ∷ b ∷ bs) =
      let r = t.row_at a b in
      pick_holds Blank (t.known a) (run_row r (a ∷ b ∷ bs)) (refusal 4 1)
      (λ e. along (blanks (a ∷ b ∷ bs)) r.reads r.face (begun r.number) (omega arith)) (λ e n. refl)

  -- a first byte outside, whatever follows
  pub outside : (a : ℕ) (bs : List ℕ) → t.known a ≡ false → decode_by t (a ∷ bs) ≡ refusal 4 1
  unfolding decode_by
  outside a [] e = rw e
  outside a (b ∷ bs) e = rw e

  pub at_most_four : (bs : List ℕ) → (decode_by t bs).refusal ≤ 4
  at_most_four bs = (first bs).0

  -- a first byte outside is all that is taken
  pub four_takes_one : (bs : List ℕ) → (decode_by t bs).refusal ≡ 4 → (decode_by t bs).taken ≡ 1
  four_takes_one bs = (first bs).1
