-- What follows a late refusal, one that takes more than three of six bytes or more, for any row table that passes a test of its first bytes
-- (`Spaced`): the next place is accepted or takes one byte; or there are six bytes, it took four, and the place behind the next one does so.
-- Assumes nothing.
use Prim.Native.Nat.{ℕ, ◌+◌, ◌≤◌, ◌<◌}
use mathlib.Core.Path.{◌≡◌, refl, ap}
use mathlib.Core.Logic.{◌⊎◌, inl, inr}
use mathlib.Core.Bool.{Bool, true, false, not}
use mathlib.Core.List.{List, [], ◌∷◌}
use native.Mathlib.Omega.{arith}
use lib.ListN.{length, drop}
use lib.Dec.{T, leb, leb→le}
use borrow.Author.Tests.{leb-true, leb-false}
use Rattle.laws.specs.Choice.{both, either}
use Rattle.laws.specs.Range.{upto}
use Rattle.laws.proofs.Choice.{both_left, both_right}
use Rattle.laws.proofs.Range.{upto_at}
use Rattle.record.specs.Answer.{Answer}
use Rattle.rows.specs.Bytes.{Bytes}
use Rattle.rows.specs.Row.{Row, Table}
use Rattle.rows.specs.Groups.{groups, known, rows_of, document01}
use Rattle.rows.specs.Fate.{reach, smooth}
use Rattle.rows.specs.All.{every_first}
use Rattle.rows.specs.Run.{run_row, begun, decode_by}
use Rattle.rows.proofs.All.{every_first_lem}
use Rattle.rows.proofs.Along.{Events, along}
use Rattle.rows.proofs.Refusals.{outside}
use Rattle.rows.proofs.Depth.{within, row_bounded, want_or_test}

-- a smooth row accepts if it has its bytes
accepting : (bs : List ℕ) → Events bs (λ rs n x. T (smooth rs) → n + reach rs ≤ length bs → x.refusal ≡ 0)
accepting bs = record {
  ends = λ n x l z t h s e. z;
  goes_on = λ k rs n x l h s e. h s (omega arith);
  runs_out = λ k rs n l o s e. absurd (omega arith);
  names = λ rs n x l h s e. absurd s;
  names_none = λ rs n l s e. absurd s;
  no_condition_lem = λ rs n z s e. absurd s;
  stops = λ x rs n l s e. absurd s;
}

-- a first byte's row reads at most so many bytes, and is smooth
abbrev pub easy : ℕ → Row → Bool
easy m w = both (smooth w.reads) (leb (reach w.reads) m)

-- every refusal within so many bytes
abbrev always : ℕ → ℕ → ℕ
always n e = n

-- accepted, or one byte is taken
abbrev pub Light : Answer → Type 0
Light x = (x.refusal ≡ 0) ⊎ (x.taken ≤ 1)

-- what holds if one of two tests passes
either_holds : {P : Type 0} (x y : Bool) → (T x → P) → (T y → P) → T (either x y) → P
either_holds true y f g t = f tt
either_holds false y f g t = g t

module _ (t : Table) where
  -- a byte c behind b: four bytes from c on are light, if not all of b's bytes are there
  abbrev light_from : ℕ → Bool
  light_from c = either (not (t.known c)) (upto (λ d. easy 2 (t.row_at c d)) 256)

  abbrev spares : ℕ → ℕ → Bool
  spares b c = both (easy 4 (t.row_at b c)) (either (leb (reach (t.row_at b c).reads) 3) (light_from c))

  -- a row whose second byte is itself a first byte refuses within three bytes; or within four, and the rows of that byte are easy
  unfoldable pub spaced : ℕ → ℕ → Bool
  unfolding upto
  spaced a b = either (within (always 3) t 4 a b) (both (within (always 4) t 4 a b) (upto (spares b) 256))

  abbrev pub Spaced : Type 0
  Spaced = (a b : ℕ) → t.known a ≡ true → t.known b ≡ true → T (spaced a b)

  -- an easy row of a first byte that is known
  light_row : (m a b : ℕ) (bs : List ℕ) → t.known a ≡ true → T (easy m (t.row_at a b)) → 2 + reach (t.row_at a b).reads ≤ length (a ∷ b ∷ bs)
      → Light (decode_by t (a ∷ b ∷ bs))
  unfolding decode_by run_row
  light_row m a b bs e s l =
      let w = t.row_at a b in
      rw e (inl (along (accepting (a ∷ b ∷ bs)) w.reads w.face (begun w.number) (omega arith) (both_left (smooth w.reads) (leb (reach w.reads) m) s) l))

  easy_reach : (m : ℕ) (w : Row) → T (easy m w) → reach w.reads ≤ m
  easy_reach m w s = leb→le _ m (both_right (smooth w.reads) (leb (reach w.reads) m) s)

  light_outside : (a : ℕ) (bs : List ℕ) → t.known a ≡ false → Light (decode_by t (a ∷ bs))
  light_outside a bs e = rw (outside t a bs e) (inr (omega arith))

  light_third : (c d : ℕ) (bs : List ℕ) → d < 256 → 4 ≤ length (c ∷ d ∷ bs) → T (light_from c) → Light (decode_by t (c ∷ d ∷ bs))
  light_third c d bs l four = by (t.known c) refl
    where
      by : (x : Bool) → t.known c ≡ x → T (either (not x) (upto (λ d. easy 2 (t.row_at c d)) 256)) → Light (decode_by t (c ∷ d ∷ bs))
      by true k u = let s = upto_at (λ d. easy 2 (t.row_at c d)) 256 u d l in light_row 2 c d bs k s (omega (arith, easy_reach 2 (t.row_at c d) s))
      by false k u = light_outside c (d ∷ bs) k

  -- behind bytes of which a refusal took many
  abbrev pub Behind : List ℕ → Type 0
  Behind bs = Light (decode_by t (drop 1 bs)) ⊎ ((length bs ≡ 6) × ((decode_by t bs).taken ≤ 4) × Light (decode_by t (drop 2 bs)))

  -- a row that passes by the second test
  module _ (a b c d : ℕ) (bs : List ℕ) (second : c < 256) (third : d < 256) (f : t.known b ≡ true) (six : 6 ≤ length (a ∷ b ∷ c ∷ d ∷ bs)) where
    abbrev row : Row
    row = t.row_at b c

    behind_four : (decode_by t (a ∷ b ∷ c ∷ d ∷ bs)).taken ≤ 4 → T (spares b c) → Behind (a ∷ b ∷ c ∷ d ∷ bs)
    behind_four four s = by (leb (2 + reach row.reads) (length (b ∷ c ∷ d ∷ bs))) refl
      where
        easily : T (easy 4 row)
        easily = both_left (easy 4 row) _ s

        by : (x : Bool) → leb (2 + reach row.reads) (length (b ∷ c ∷ d ∷ bs)) ≡ x → Behind (a ∷ b ∷ c ∷ d ∷ bs)
        by true e = inl (light_row 4 b c (d ∷ bs) f easily (leb-true _ _ e))
        by false e =
            let short = leb-false (2 + reach row.reads) (length (b ∷ c ∷ d ∷ bs)) e in
            let far = easy_reach 4 row easily in
            either_holds (leb (reach row.reads) 3) (light_from c) (λ l. absurd (omega (arith, leb→le (reach row.reads) 3 l)))
            (λ l. inr (omega arith, four, light_third c d bs third (omega arith) l)) (both_right (easy 4 row) _ s)

  -- by a row that refuses within n bytes, of six or more
  in_row : (n a b : ℕ) (bs : List ℕ) → t.known a ≡ true → T (within (always n) t 4 a b) → 6 ≤ length (a ∷ b ∷ bs) → ((decode_by t (a ∷ b ∷ bs)).refusal ≡ 0 → ⊥)
      → (decode_by t (a ∷ b ∷ bs)).taken ≤ n
  unfolding decode_by
  in_row n a b bs e w l = rw e (λ z. want_or_test (always n) (row_bounded (always n) t 4 a b bs w) z (λ o s. absurd (omega arith)) (λ o s. s))

  module _ (spacing : Spaced) where
    pub behind : (bs : List ℕ) → Bytes bs → 6 ≤ length bs → ((decode_by t bs).refusal ≡ 0 → ⊥) → 3 < (decode_by t bs).taken → Behind bs
    unfolding spaced
    behind [] h l z g = absurd (omega arith)
    behind (a ∷ []) h l z g = absurd (omega arith)
    behind (a ∷ b ∷ []) h l z g = absurd (omega arith)
    behind (a ∷ b ∷ c ∷ []) h l z g = absurd (omega arith)
    behind (a ∷ b ∷ c ∷ d ∷ bs) h l z g = by (t.known a) (t.known b) refl refl
      where
        by : (x y : Bool) → t.known a ≡ x → t.known b ≡ y → Behind (a ∷ b ∷ c ∷ d ∷ bs)
        by false y e f = absurd (omega (arith, g, ap (λ x. x.taken) (outside t a (b ∷ c ∷ d ∷ bs) e)))
        by true false e f = inl (light_outside b (c ∷ d ∷ bs) f)
        by true true e f =
            either_holds (within (always 3) t 4 a b) (both (within (always 4) t 4 a b) (upto (spares b) 256)) (λ w. absurd (omega (arith, g, in_row 3 a b (c ∷ d ∷ bs) e w l z)))
            (λ w. behind_four a b c d bs h.1.1.0 h.1.1.1.0 f l (in_row 4 a b (c ∷ d ∷ bs) e (both_left (within (always 4) t 4 a b) _ w) l z)
            (upto_at (spares b) 256 (both_right (within (always 4) t 4 a b) _ w) c h.1.1.0)) (spacing a b e f)

-- the first bytes that are decoded, by themselves; of them 78 C1 passes by the second test
all_spaced : T (every_first (λ a. every_first (spaced document01 a) groups) groups)
unfolding groups spaced within known rows_of
all_spaced = tt

pub firsts_spaced : Spaced document01
firsts_spaced a b e f = every_first_lem (spaced document01 a) (every_first_lem (λ a. every_first (spaced document01 a) groups) all_spaced a e) b f
