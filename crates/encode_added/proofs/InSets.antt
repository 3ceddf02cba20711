-- Sets of names as numbers: their bits are the names and the size of a kind of changed rows at a width.
-- Assumes nothing.
use Prim.Native.Nat.{ℕ}
use mathlib.Core.Path.{◌≡◌, refl, sym, ap, ap₂, subst, ◌∙◌}
use mathlib.Core.Bool.{Bool, true, false, false≢true}
use mathlib.Core.List.{List, [], ◌∷◌}
use lib.Dec.{T, eqb}
use borrow.Author.Tests.{eqb-true}
use Rattle.laws.specs.Choice.{pick, both}
use Rattle.laws.specs.Table.{every}
use Rattle.laws.proofs.Choice.{both_left, both_right}
use Rattle.record.specs.declared.Size.{Size}
use Rattle.record.specs.declared.Size.TheVariants.{None, B, W, L}
use Rattle.record.specs.declared.Width.{Width}
use Rattle.record.specs.declared.Operand.{Operand}
use Rattle.record.specs.Names.{sizes}
use Rattle.record.specs.Numbers.{size_no, operand_no}
use Rattle.record.specs.Same.{among}
use Rattle.record.proofs.Apart.{operands}
use Rattle.record.proofs.Arms.{bit, bits_apart, every_size}
use Rattle.encode_rules.proofs.Bools.{so}
use Rattle.encode_choice.specs.declared.Asked.{Asked}
use Rattle.encode_choice.specs.steps.Forms.{is_empty}
use Rattle.encode_choice.specs.steps.NameSet.{size_bit, has_bit, all_in}
use Rattle.encode_choice.proofs.SetBits.{set_names}
use Rattle.encode_added.specs.declared.sets.Kind.{Kind}
use Rattle.encode_added.specs.steps.Entries.{names, size, goes_as}
use Rattle.encode_added.specs.steps.Sets.{AreSets}

-- a set of just these names, and of just this size
abbrev of_names : ℕ → List Operand → Bool
of_names m xs = every (λ i x. eqb (bit (has_bit m (operand_no x))) (bit (among xs x))) 0 operands

abbrev of_size : ℕ → Size → Bool
of_size m s = every (λ i z. eqb (bit (has_bit m (size_bit z))) (bit (eqb (size_no z) (size_no s)))) 0 sizes

-- without a row at the width, no bit
unfoldable pub are_sets : ℕ → ℕ → Width → Kind → Bool
are_sets m n w k =
    pick (is_empty (names k w).first) (eqb m 0)
    (both (of_names m (names k w).first) (both (of_names n (names k w).second) (of_size m (size k w))))

no_size : (s : Size) → has_bit 0 (size_bit s) ≡ false
no_size None = refl
no_size B = refl
no_size W = refl
no_size L = refl

no_name : (xs : List Operand) (x : Operand) → is_empty xs ≡ true → among xs x ≡ false
unfolding among
no_name [] x e = refl
no_name (y ∷ ys) x e = absurd (false≢true e)

in_size : (m : ℕ) (s : Size) → T (of_size m s) → (z : Size) → has_bit m (size_bit z) ≡ eqb (size_no z) (size_no s)
in_size m s t z = bits_apart _ _ (eqb-true _ _ (so _ (every_size (λ z. eqb (bit (has_bit m (size_bit z))) (bit (eqb (size_no z) (size_no s)))) t z)))

last_first : (a b c : Bool) → both c (both a b) ≡ both a (both b c)
last_first true true true = refl
last_first true true false = refl
last_first true false true = refl
last_first true false false = refl
last_first false b true = refl
last_first false b false = refl

are_sets_lem : (m n : ℕ) (w : Width) (k : Kind) → are_sets m n w k ≡ true → (q : Asked) → q.width ≡ w → all_in m n q ≡ goes_as k q
unfolding are_sets goes_as
are_sets_lem m n w k t q e = by (is_empty (names k w).first) refl (subst T (sym t) tt) ∙ ap at (sym e)
  where
    at : Width → Bool
    at w = both (among (names k w).first q.op0) (both (among (names k w).second q.op1) (eqb (size_no q.size) (size_no (size k w))))

    by : (b : Bool) → is_empty (names k w).first ≡ b
        → T (pick b (eqb m 0) (both (of_names m (names k w).first) (both (of_names n (names k w).second) (of_size m (size k w)))))
        → all_in m n q ≡ at w
    by true f u =
        ap (λ m. both (has_bit m (size_bit q.size)) (both (has_bit m (operand_no q.op0)) (has_bit n (operand_no q.op1)))) (eqb-true m 0 (so _ u))
        ∙ ap (λ b. both b (both (has_bit 0 (operand_no q.op0)) (has_bit n (operand_no q.op1)))) (no_size q.size)
        ∙ ap (λ b. both b (both (among (names k w).second q.op1) (eqb (size_no q.size) (size_no (size k w))))) (sym (no_name (names k w).first q.op0 f))
    by false f u =
        let first = set_names m (among (names k w).first) (both_left (of_names m (names k w).first) _ u) q.op0 in
        let rest = both_right (of_names m (names k w).first) _ u in
        let second = set_names n (among (names k w).second) (both_left (of_names n (names k w).second) _ rest) q.op1 in
        let sized = in_size m (size k w) (both_right (of_names n (names k w).second) _ rest) q.size in
        ap₂ both sized (ap₂ both first second) ∙ last_first (among (names k w).first q.op0) (among (names k w).second q.op1) _

pub told_sets : {m n : ℕ} {w : Width} {k l : Kind} → k ≡ l → are_sets m n w l ≡ true → AreSets m n k w
told_sets {m} {n} {w} {k} {l} e t = record { go = are_sets_lem m n w k (ap (are_sets m n w) e ∙ t) }
