-- The bytes taken, of any row table: an accepted length equals them, they are never more than were given, and at refusal 1 they are all.
-- Assumes nothing.
use Prim.Native.Nat.{ℕ, ◌≤◌}
use mathlib.Core.Path.{◌≡◌, refl, sym, ◌∙◌}
use mathlib.Core.List.{List, [], ◌∷◌}
use native.Mathlib.Omega.{arith}
use lib.ListN.{length}
use Rattle.record.specs.Answer.{Answer}
use Rattle.record.specs.declared.Seen.{Seen}
use Rattle.laws.proofs.Choice.{pick_holds}
use Rattle.rows.specs.Row.{Refusal, InvalidOpcode, InvalidOperand, refusal_no, Read, Face, Row, Table}
use Rattle.rows.specs.Run.{refusal, run, run_row, begun, decode_by}
use Rattle.rows.proofs.Along.{Events, along}

-- what holds of every answer to b bytes, a of which were taken before
pub record Counted (a b : ℕ) (x : Answer) : Type 0 where
  pub accepted : x.refusal ≡ 0 → x.inst.length ≡ x.taken
  pub short : x.inst.length ≤ x.taken
  pub grown : a ≤ x.taken
  pub within : x.taken ≤ b
  pub whole : x.refusal ≡ 1 → x.taken ≡ b

refused_counted : (a b e n : ℕ) → 1 ≤ e → (e ≡ 1 → n ≡ b) → a ≤ n → n ≤ b → Counted a b (refusal e n)
refused_counted a b e n z w g h = record { accepted = λ q. absurd (omega arith); short = omega arith; grown = g; within = h; whole = w }

wider : (a c b : ℕ) (x : Answer) → a ≤ c → Counted c b x → Counted a b x
wider a c b x h k = record { accepted = k.accepted; short = k.short; grown = omega (arith, k.grown); within = k.within; whole = k.whole }

stopped_counted : (b : ℕ) (e : Refusal) (n : ℕ) → n ≤ b → Counted n b (refusal (refusal_no e) n)
stopped_counted b InvalidOpcode n l = refused_counted _ _ 2 _ (omega arith) (λ e. absurd (omega arith)) (omega arith) l
stopped_counted b InvalidOperand n l = refused_counted _ _ 3 _ (omega arith) (λ e. absurd (omega arith)) (omega arith) l

events : (bs : List ℕ) → Events bs (λ rs n x. Counted n (length bs) x)
events bs = record {
  ends = λ n x l z t h. record { accepted = λ e. h ∙ sym t; short = omega arith; grown = omega arith; within = omega arith; whole = λ e. absurd (omega arith) };
  goes_on = λ k rs n x l h. wider _ _ _ x (omega arith) h;
  runs_out = λ k rs n l s. refused_counted _ _ 1 _ (omega arith) (λ e. refl) l (omega arith);
  names = λ rs n x l h. wider _ _ _ x (omega arith) h;
  names_none = λ rs n l. refused_counted _ _ 2 _ (omega arith) (λ e. absurd (omega arith)) (omega arith) l;
  no_condition_lem = λ rs n e. refused_counted _ _ 1 _ (omega arith) (λ q. refl) (omega arith) (omega arith);
  stops = λ e rs n l. stopped_counted _ e n l;
}

pub run_counted : (rs : List Read) (bs : List ℕ) (f : Face) (s : Seen) → s.taken ≤ length bs → Counted s.taken (length bs) (run rs bs f s)
run_counted rs bs = along (events bs) rs

pub row_counted : (r : Row) (a b : ℕ) (bs : List ℕ) → Counted 2 (length (a ∷ b ∷ bs)) (run_row r (a ∷ b ∷ bs))
unfolding run_row
row_counted r a b bs = run_counted r.reads (a ∷ b ∷ bs) r.face (begun r.number) (omega arith)

module _ (t : Table) where
  -- of bytes one at least is taken
  pub takes_one : (bs : List ℕ) → 1 ≤ length bs → 1 ≤ (decode_by t bs).taken
  unfolding decode_by
  takes_one [] l = absurd (omega arith)
  takes_one (a ∷ []) l = pick_holds (λ x. 1 ≤ x.taken) (t.known a) (refusal 1 1) (refusal 4 1) (λ e. omega arith) (λ e. omega arith)
  takes_one (a ∷ b ∷ bs) l =
      pick_holds (λ x. 1 ≤ x.taken) (t.known a) _ (refusal 4 1) (λ e. omega (arith, (row_counted (t.row_at a b) a b bs).grown)) (λ e. omega arith)

  pub counted : (bs : List ℕ) → Counted 0 (length bs) (decode_by t bs)
  unfolding decode_by
  counted [] = refused_counted _ _ 1 _ (omega arith) (λ e. refl) (omega arith) (omega arith)
  counted (a ∷ []) =
      pick_holds (Counted 0 1) (t.known a) (refusal 1 1) (refusal 4 1) (λ e. refused_counted _ _ 1 _ (omega arith) (λ q. refl) (omega arith) (omega arith))
      (λ e. refused_counted _ _ 4 _ (omega arith) (λ q. absurd (omega arith)) (omega arith) (omega arith))
  counted (a ∷ b ∷ bs) =
      pick_holds (Counted 0 (length (a ∷ b ∷ bs))) (t.known a) _ (refusal 4 1) (λ e. wider _ 2 _ _ (omega arith) (row_counted (t.row_at a b) a b bs))
      (λ e. refused_counted _ _ 4 _ (omega arith) (λ q. absurd (omega arith)) (omega arith) (omega arith))
