-- Where the reading by the manual differs from document 01's: at the codes that request A9 names, and at no others.
-- Assumes nothing.
use Prim.Native.Nat.{ℕ, ◌/◌, ◌%◌, ◌<◌}
use mathlib.Core.Path.{◌≡◌, refl, ap}
use mathlib.Core.Bool.{Bool, true, false, not}
use mathlib.Core.List.{List, [], ◌∷◌}
use lib.Dec.{T}
use Rattle.laws.specs.Choice.{pick, both, either}
use Rattle.rows.specs.Groups.{known, rows_of, document01}
use Rattle.rows.specs.All.{every_code, count_codes}
use Rattle.rows.specs.Lists.{listed_in}
use Rattle.rows.specs.Run.{refusal, run_row, decode_by, decode_rows}
use Rattle.rows.proofs.All.{every_code_lem}
use Rattle.by_manual.specs.Changed.{Change, stays, becomes, change_at}
use Rattle.by_manual.specs.Table.{changed, by_manual}
use Rattle.by_manual.specs.Lists.{named_code, is_changed, reads_no, alike, accepted_by}

abbrev pub changes : ℕ → ℕ → Bool
changes a b = is_changed (change_at a (b / 16) (b % 16))

-- what is changed is what the request names; there the row was marked, and is not any more
named : ℕ → ℕ → Bool
named a b =
    pick (listed_in named_code a b)
    (both (changes a b) (both (document01.row_at a b).face.marked (not (by_manual.row_at a b).face.marked)))
    (not (changes a b))

all_named : T (every_code named)
unfolding every_code named change_at rows_of
all_named = tt

module _ (a b : ℕ) (k : known a ≡ true) (l : b < 256) where
  here : T (named a b)
  here = every_code_lem named all_named b l a k

  pub named_changed : listed_in named_code a b ≡ true → (changes a b ≡ true) × ((document01.row_at a b).face.marked ≡ true) × ((by_manual.row_at a b).face.marked ≡ false)
  unfolding named
  named_changed e = by (changes a b) (document01.row_at a b).face.marked (by_manual.row_at a b).face.marked (rw e at here)
    where
      by : (x y z : Bool) → T (both x (both y (not z))) → (x ≡ true) × (y ≡ true) × (z ≡ false)
      by true true false t = (refl, refl, refl)
      by true true true t = absurd t
      by true false z t = absurd t
      by false y z t = absurd t

  pub others_kept : listed_in named_code a b ≡ false → by_manual.row_at a b ≡ document01.row_at a b
  unfolding named
  others_kept e = by (change_at a (b / 16) (b % 16)) (rw e at here)
    where
      by : (c : Change) → T (not (is_changed c)) → changed c (document01.row_at a b) ≡ document01.row_at a b
      by stays t = refl
      by (becomes w) t = absurd t

-- so decoding is the same at every other code, whatever follows, and of fewer than two bytes
pub decoded_alike : (a b : ℕ) (bs : List ℕ) → b < 256 → listed_in named_code a b ≡ false → decode_by by_manual (a ∷ b ∷ bs) ≡ decode_rows (a ∷ b ∷ bs)
unfolding decode_by
decoded_alike a b bs l e = by (known a) refl
  where
    by : (x : Bool) → known a ≡ x → pick x (run_row (by_manual.row_at a b) (a ∷ b ∷ bs)) (refusal 4 1) ≡ pick x (run_row (document01.row_at a b) (a ∷ b ∷ bs)) (refusal 4 1)
    by true k = ap (λ w. run_row w (a ∷ b ∷ bs)) (others_kept a b k l e)
    by false k = refl

pub none_alike : decode_by by_manual [] ≡ decode_rows []
unfolding decode_by
none_alike = refl

pub one_alike : (a : ℕ) → decode_by by_manual (a ∷ []) ≡ decode_rows (a ∷ [])
unfolding decode_by
one_alike a = refl

-- the codes that are changed; in more than the mark; accepted by both; accepted now and refused before; refused by both
pub counts : (count_codes (listed_in named_code) ≡ 403)
    × (count_codes (λ a b. both (listed_in named_code a b) (not (alike (document01.row_at a b) (by_manual.row_at a b)))) ≡ 291)
    × (count_codes (λ a b. both (listed_in named_code a b) (both (accepted_by document01 a b) (accepted_by by_manual a b))) ≡ 361)
    × (count_codes (λ a b. both (listed_in named_code a b) (both (not (accepted_by document01 a b)) (accepted_by by_manual a b))) ≡ 6)
    × (count_codes (λ a b. both (listed_in named_code a b) (either (accepted_by document01 a b) (accepted_by by_manual a b))) ≡ 367)
unfolding count_codes alike reads_no accepted_by change_at rows_of
counts = (refl, refl, refl, refl, refl)
