-- How many bytes a refusal takes, for any row table. By 1 all that are left, fewer than the row reads; by 2 and 3 those up to the test that
-- refuses, and over all rows of document 01 no more than its bound; by 4 one.
-- Assumes nothing.
use Prim.Native.Nat.{ℕ, zero, suc, ◌+◌, ◌≤◌, ◌<◌}
use mathlib.Core.Path.{◌≡◌, refl, sym, subst}
use mathlib.Core.Bool.{Bool, true, false}
use mathlib.Core.List.{List, [], ◌∷◌}
use native.Mathlib.Omega.{arith}
use lib.ListN.{length, get_or}
use lib.Dec.{T, leb, eqb, leb→le}
use borrow.Author.Tests.{eqb-true, eqb-false}
use Rattle.record.specs.Answer.{Answer}
use Rattle.laws.specs.Choice.{both}
use Rattle.laws.proofs.Choice.{both_left, both_right, pick_holds}
use Rattle.rows.specs.Row.{Refusal, InvalidOpcode, InvalidOperand, refusal_no, Read, num, cond, stop, Table}
use Rattle.rows.specs.Codes.{cond_of}
use Rattle.rows.specs.Fate.{bytes_of, reach, most_taken}
use Rattle.rows.specs.Groups.{known, rows_of, document01}
use Rattle.rows.specs.All.{every_code}
use Rattle.rows.specs.Run.{read_disp, read_into, refusal, run, run_row, begun, decode_by, decode_rows}
use Rattle.rows.proofs.Along.{Events, along}
use Rattle.rows.proofs.Taken.{counted}
use Rattle.rows.proofs.All.{every_code_lem}

module _ (most : ℕ → ℕ) where
  -- the reads of a row behind n bytes: each test that can refuse has taken no more than the bound of its refusal
  abbrev pub kept : ℕ → List Read → Bool
  kept n [] = true
  kept n (num k ∷ rs) = kept (n + bytes_of k) rs
  kept n (cond ∷ rs) = both (leb (n + 1) (most 2)) (kept (n + 1) rs)
  kept n (stop e ∷ rs) = leb n (most (refusal_no e))

  -- an answer to b bytes by reads that go to m: for want of bytes, or within the bound
  pub record Bounded (b m : ℕ) (x : Answer) : Type 0 where
    pub short : x.refusal ≡ 1 → b < m
    pub early : (x.refusal ≡ 0 → ⊥) → (x.refusal ≡ 1 → ⊥) → x.taken ≤ most x.refusal

  -- so a refusal is for want of bytes, or by a test and within the bound
  pub want_or_test : {P : Type 0} {b m : ℕ} {x : Answer} → Bounded b m x → (x.refusal ≡ 0 → ⊥) → (x.refusal ≡ 1 → b < m → P)
      → ((x.refusal ≡ 1 → ⊥) → x.taken ≤ most x.refusal → P) → P
  want_or_test {P} {x = x} limits refused want test = by (eqb x.refusal 1) refl
    where
      by : (o : Bool) → eqb x.refusal 1 ≡ o → P
      by true o = let one = eqb-true _ 1 o in want one (limits.short one)
      by false o = let other = eqb-false _ 1 o in test other (limits.early refused other)

  short_bounded : (b m n : ℕ) → b < m → Bounded b m (refusal 1 n)
  short_bounded b m n l = record { short = λ e. l; early = λ z o. absurd (o refl) }

  early_bounded : (b m e n : ℕ) → 1 < e → n ≤ most e → Bounded b m (refusal e n)
  early_bounded b m e n h l = record { short = λ o. absurd (omega arith); early = λ z o. l }

  wider : (b m n : ℕ) (x : Answer) → m ≤ n → Bounded b m x → Bounded b n x
  wider b m n x h k = record { short = λ e. omega (arith, k.short e); early = k.early }

  stopped_bounded : (b m : ℕ) (e : Refusal) (n : ℕ) → n ≤ most (refusal_no e) → Bounded b m (refusal (refusal_no e) n)
  stopped_bounded b m InvalidOpcode n l = early_bounded b m 2 n (omega arith) l
  stopped_bounded b m InvalidOperand n l = early_bounded b m 3 n (omega arith) l

  events : (bs : List ℕ) → Events bs (λ rs n x. T (kept n rs) → Bounded (length bs) (n + reach rs) x)
  events bs = record {
    ends = λ n x l z t h k. record { short = λ e. absurd (omega arith); early = λ q o. absurd (q z) };
    goes_on = λ k rs n x l h t. wider _ _ _ x (omega arith) (h t);
    runs_out = λ k rs n l s t. short_bounded _ _ _ (omega arith);
    names = λ rs n x l h t. wider _ _ _ x (omega arith) (h (both_right (leb (n + 1) (most 2)) (kept (n + 1) rs) t));
    names_none = λ rs n l t. early_bounded _ _ 2 _ (omega arith) (leb→le _ _ (both_left (leb (n + 1) (most 2)) (kept (n + 1) rs) t));
    no_condition_lem = λ rs n e t. short_bounded _ _ _ (omega arith);
    stops = λ e rs n l t. stopped_bounded _ _ e n (leb→le _ _ t);
  }

  module _ (t : Table) where
    -- a test of a code: its row reads at most m bytes, and refuses within the bounds
    unfoldable pub within : ℕ → ℕ → ℕ → Bool
    within m a b = both (leb (reach (t.row_at a b).reads) m) (kept 2 (t.row_at a b).reads)

    pub row_bounded : (m a b : ℕ) (bs : List ℕ) → T (within m a b) → Bounded (length (a ∷ b ∷ bs)) (2 + m) (run_row (t.row_at a b) (a ∷ b ∷ bs))
    unfolding run_row within
    row_bounded m a b bs w =
        let reads = (t.row_at a b).reads in
        let far = leb→le (reach reads) m (both_left (leb (reach reads) m) (kept 2 reads) w) in
        wider _ _ _ _ (omega (arith, far))
        (along (events (a ∷ b ∷ bs)) reads (t.row_at a b).face (begun (t.row_at a b).number) (omega arith) (both_right (leb (reach reads) m) (kept 2 reads) w))

    -- of every answer, if every code passes
    pub bounded : (m : ℕ) → 1 ≤ most 4 → ((a b : ℕ) → t.known a ≡ true → b < 256 → T (within m a b)) → (bs : List ℕ) → get_or bs 1 0 < 256
        → Bounded (length bs) (2 + m) (decode_by t bs)
    unfolding decode_by
    bounded m one w [] l = short_bounded _ _ _ (omega arith)
    bounded m one w (a ∷ []) l =
        pick_holds (Bounded 1 (2 + m)) (t.known a) (refusal 1 1) (refusal 4 1) (λ e. short_bounded _ _ _ (omega arith)) (λ e. early_bounded _ _ 4 _ (omega arith) one)
    bounded m one w (a ∷ b ∷ bs) l =
        pick_holds (Bounded (length (a ∷ b ∷ bs)) (2 + m)) (t.known a) _ (refusal 4 1) (λ e. row_bounded m a b bs (w a b e l))
        (λ e. early_bounded _ _ 4 _ (omega arith) one)

-- a table whose codes pass by the bounds of document 01
abbrev pub Passes : Table → Type 0
Passes t = (a b : ℕ) → t.known a ≡ true → b < 256 → T (within most_taken t 5 a b)

-- but for 1, which takes all there are, none takes more than five
above_one : (e : ℕ) → (e ≡ 0 → ⊥) → (e ≡ 1 → ⊥) → most_taken e ≤ 5
above_one zero z o = absurd (z refl)
above_one (suc zero) z o = absurd (o refl)
above_one (suc (suc zero)) z o = omega arith
above_one (suc (suc (suc zero))) z o = omega arith
above_one (suc (suc (suc (suc zero)))) z o = omega arith
above_one (suc (suc (suc (suc (suc e))))) z o = omega arith

module _ (t : Table) (passes : Passes t) (bs : List ℕ) (second : get_or bs 1 0 < 256) (refused : (decode_by t bs).refusal ≡ 0 → ⊥) where
  abbrev x : Answer
  x = decode_by t bs

  limits : Bounded most_taken (length bs) 7 x
  limits = bounded most_taken t 5 (omega arith) passes bs second

  short_or_early : {P : Type 0} → (x.refusal ≡ 1 → x.taken ≡ length bs → length bs < 7 → P) → (x.taken ≤ most_taken x.refusal → most_taken x.refusal ≤ 5 → P) → P
  short_or_early short early =
      want_or_test most_taken limits refused (λ one l. short one ((counted t bs).whole one) l) (λ other l. early l (above_one _ refused other))

  -- a refusal takes at most as many bytes as its number says
  pub at_most_taken : x.taken ≤ most_taken x.refusal
  at_most_taken = short_or_early (λ o w l. subst (λ e. x.taken ≤ most_taken e) (sym o) (omega arith)) (λ t m. t)

  -- so six, and five where there are more than six
  pub at_most_six : x.taken ≤ 6
  at_most_six = short_or_early (λ o w l. omega arith) (λ t m. omega arith)

  pub at_most_five : 6 < length bs → x.taken ≤ 5
  at_most_five more = short_or_early (λ o w l. absurd (omega arith)) (λ t m. omega arith)

-- document 01, over every code
all_within : T (every_code (within most_taken document01 5))
unfolding every_code within rows_of
all_within = tt

pub codes_pass : Passes document01
codes_pass a b e l = every_code_lem (within most_taken document01 5) all_within b l a e

-- there are bytes of which each refusal takes as many
pub taken_all : (decode_rows (0x74 ∷ 0x0C ∷ 0 ∷ 0 ∷ 0 ∷ 0 ∷ []) ≡ refusal 1 (most_taken 1)) × (decode_rows (0x7E ∷ 0x2C ∷ 0 ∷ 0 ∷ 7 ∷ []) ≡ refusal 2 (most_taken 2))
    × (decode_rows (0x78 ∷ 0xC1 ∷ 0 ∷ 0 ∷ []) ≡ refusal 3 (most_taken 3)) × (decode_rows (0 ∷ []) ≡ refusal 4 (most_taken 4))
unfolding decode_by run_row run read_disp read_into cond_of known rows_of
taken_all = (refl, refl, refl, refl)
