-- What decoding answers to a code with five zeros behind it tells what it answers to every string that begins with the code: for any row
-- table, at each code that passes a test (`steady`).
-- Assumes nothing.
use Prim.Native.Nat.{ℕ, zero, suc, ◌+◌, ◌≤◌}
use mathlib.Core.Path.{◌≡◌, refl, sym, subst, ◌∙◌}
use mathlib.Core.Bool.{Bool, true}
use mathlib.Core.List.{List, [], ◌∷◌}
use native.Mathlib.Omega.{arith}
use lib.ListN.{length}
use lib.Dec.{T, eqb, leb, leb→le, eqb→eq}
use Rattle.record.specs.Answer.{Answer}
use Rattle.laws.specs.Choice.{both}
use Rattle.laws.proofs.Choice.{both_left, both_right}
use Rattle.rows.specs.Row.{Refusal, InvalidOpcode, InvalidOperand, refusal_no, Read, num, cond, stop, Table}
use Rattle.rows.specs.Bytes.{Bytes}
use Rattle.rows.specs.Fate.{fate, reach}
use Rattle.rows.specs.Run.{refusal, run_row, begun, decode_by}
use Rattle.rows.proofs.Along.{Events, along}
use Rattle.lengths.specs.Length.{OfTwo}

-- no condition byte stands before a row's refusal, so that nothing else refuses first
abbrev certain : List Read → Bool
certain [] = true
certain (num k ∷ rs) = certain rs
certain (cond ∷ rs) = eqb (fate rs) 0
certain (stop e ∷ rs) = true

-- an answer to b bytes by reads that go to m and come to f
record Fated (b m f : ℕ) (sure : Bool) (x : Answer) : Type 0 where
  pub accepted : x.refusal ≡ 0 → (x.inst.length ≡ m) × (f ≡ 0)
  pub refused : T sure → (f ≡ 0 → ⊥) → m ≤ b → x.refusal ≡ f
  pub blank : (x.refusal ≡ 0 → ⊥) → x.inst.length ≡ 0

refused_fated : {b m f : ℕ} {sure : Bool} (e n : ℕ) → (e ≡ 0 → ⊥) → (T sure → (f ≡ 0 → ⊥) → m ≤ b → e ≡ f) → Fated b m f sure (refusal e n)
refused_fated e n z k = record { accepted = λ q. absurd (z q); refused = k; blank = λ q. refl }

not_zero : (e : Refusal) → refusal_no e ≡ 0 → ⊥
not_zero InvalidOpcode q = omega arith
not_zero InvalidOperand q = omega arith

-- a condition byte counts only where the row accepts
not_both : {A : Type 0} (f : ℕ) → T (eqb f 0) → (f ≡ 0 → ⊥) → A
not_both f t z = absurd (z (eqb→eq f 0 t))

events : (bs : List ℕ) → Events bs (λ rs n x. Fated (length bs) (n + reach rs) (fate rs) (certain rs) x)
events bs = record {
  ends = λ n x l z t h. record { accepted = λ q. (h ∙ omega arith, refl); refused = λ c f. absurd (f refl); blank = λ q. absurd (q z) };
  goes_on = λ k rs n x l h. subst (λ m. Fated (length bs) m (fate rs) (certain rs) x) (omega arith) h;
  runs_out = λ k rs n l s. refused_fated 1 _ (λ q. omega arith) (λ c f w. absurd (omega arith));
  names = λ rs n x l h. record {
    accepted = λ q. ((h.accepted q).0 ∙ omega arith, (h.accepted q).1);
    refused = λ c f w. not_both (fate rs) c f;
    blank = h.blank;
  };
  names_none = λ rs n l. refused_fated 2 _ (λ q. omega arith) (λ c f w. not_both (fate rs) c f);
  no_condition_lem = λ rs n e. refused_fated 1 _ (λ q. omega arith) (λ c f w. not_both (fate rs) c f);
  stops = λ e rs n l. refused_fated (refusal_no e) n (not_zero e) (λ c f w. refl);
}

abbrev pub zeros : List ℕ
zeros = 0 ∷ 0 ∷ 0 ∷ 0 ∷ 0 ∷ []

zeros_bytes : Bytes zeros
zeros_bytes = (omega arith, (omega arith, (omega arith, (omega arith, (omega arith, tt)))))

module _ (t : Table) (a b : ℕ) where
  abbrev reads : List Read
  reads = (t.row_at a b).reads

  -- of a code: five bytes are enough for its row, and where zeros are refused anything is, for the same reason
  unfoldable pub steady : Bool
  steady = both (leb (reach reads) 5) (both (certain reads) (eqb (fate reads) (decode_by t (a ∷ b ∷ zeros)).refusal))

  module _ (known : t.known a ≡ true) where
    decoded : (bs : List ℕ) → Fated (length (a ∷ b ∷ bs)) (2 + reach reads) (fate reads) (certain reads) (decode_by t (a ∷ b ∷ bs))
    unfolding decode_by run_row
    decoded bs = rw known (along (events (a ∷ b ∷ bs)) reads (t.row_at a b).face (begun (t.row_at a b).number) (omega arith))

    module _ (passes : T steady) where
      enough : reach reads ≤ 5
      unfolding steady
      enough = leb→le (reach reads) 5 (both_left (leb (reach reads) 5) _ passes)

      sure : T (certain reads)
      unfolding steady
      sure = both_left (certain reads) _ (both_right (leb (reach reads) 5) _ passes)

      by_zeros : fate reads ≡ (decode_by t (a ∷ b ∷ zeros)).refusal
      unfolding steady
      by_zeros = eqb→eq _ _ (both_right (certain reads) _ (both_right (leb (reach reads) 5) _ passes))

      told : (e : ℕ) → (decode_by t (a ∷ b ∷ zeros)).refusal ≡ e → OfTwo t a b e (decode_by t (a ∷ b ∷ zeros)).inst.length
      told zero z = record {
        some = zeros;
        bytes = zeros_bytes;
        accepted = z;
        every = λ bs q. ((decoded bs).accepted q).0 ∙ sym ((decoded zeros).accepted z).0;
      }
      told (suc e) z =
          let other : fate reads ≡ 0 → ⊥ = λ q. omega (arith, by_zeros) in (
            record { never = λ bs q. other ((decoded bs).accepted q).1; long = λ bs l. (decoded bs).refused sure other (omega (arith, enough)) ∙ by_zeros ∙ z },
            (decoded zeros).blank (λ q. omega arith),
          )

      pub by_five_zeros : OfTwo t a b (decode_by t (a ∷ b ∷ zeros)).refusal (decode_by t (a ∷ b ∷ zeros)).inst.length
      by_five_zeros = told (decode_by t (a ∷ b ∷ zeros)).refusal refl
