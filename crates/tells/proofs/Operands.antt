-- The text of an operand tells its name, the text of its number, and what is behind it.
-- Assumes nothing.
use Prim.Native.Nat.{ℕ, zero, suc}
use mathlib.Core.Path.{◌≡◌, refl, sym, ap, ◌∙◌, subst}
use mathlib.Core.Bool.{Bool, true, false}
use mathlib.Core.List.{List, [], ◌++◌, append_assoc, append_cancel_left}
use native.Mathlib.Omega.{arith}
use lib.Dec.{T}
use lib.IntN.{ℤ, nat_abs}
use lib.ListN.{length, drop, length-append}
use borrow.Author.Tests.{eqb-true}
use Rattle.laws.specs.Choice.{pick}
use Rattle.record.specs.declared.Operand.{Operand}
use Rattle.record.specs.declared.Operand.TheVariants.{Nothing}
use Rattle.record.specs.Same.{same_name, among}
use Rattle.record.specs.Signed.{is_signed}
use Rattle.record.proofs.Apart.{operands_apart}
use Rattle.record.proofs.Arms.{has}
use Rattle.laws.specs.Text.{spelled}
use Rattle.line.specs.Names.{operand_name}
use Rattle.line.specs.Line.{digits_of, sign_text, equals, number_text, shown, operand_text, dropped_text}
use Rattle.tells.proofs.Split.{ended, by_length, by_mark}
use Rattle.tells.proofs.Names.{marks, operand_free, operand_told}
use Rattle.tells.proofs.Numbers.{number_length}

-- what the test for Nothing shows
nothing : (a : Operand) → same_name a Nothing ≡ true → a ≡ Nothing
unfolding same_name
nothing a e = operands_apart a Nothing (eqb-true _ _ e)

-- Nothing has no number and no name, and a line does not show it
numberless : (a : Operand) (n : ℤ) → a ≡ Nothing → number_text a n ≡ []
unfolding number_text digits_of among same_name
numberless a n e = ap (λ b. number_text b n) e

nameless : (a : Operand) → a ≡ Nothing → operand_name a ≡ []
unfolding operand_name
nameless a e = ap operand_name e

pub silent : (a : Operand) (n : ℤ) → a ≡ Nothing → operand_text a n ≡ []
unfolding shown number_text digits_of among same_name
silent a n e = ap (λ b. operand_text b n) e

-- an operand's text is empty or begins with a space, and so does the mark of dropped bits
pub spaced : (ms : List ℕ) → T (has ms 32) → (a : Operand) (n : ℤ) (u : List ℕ) → T (ended ms u) → T (ended ms (operand_text a n ++ u))
unfolding shown
spaced ms m a n u t = by (same_name a Nothing) refl
  where
    by : (b : Bool) → same_name a Nothing ≡ b → T (ended ms ((pick b [] (spelled " " ++ operand_name a) ++ number_text a n) ++ u))
    by true e = subst (λ x. T (ended ms (x ++ u))) (sym (numberless a n (nothing a e))) t
    by false e = m

pub dropped_spaced : (ms : List ℕ) → T (has ms 32) → (b : Bool) → T (ended ms (dropped_text b))
dropped_spaced ms m true = m
dropped_spaced ms m false = tt

-- and behind its space that stands where no name can
pub dropped_marked : (b : Bool) → T (ended marks (drop 1 (dropped_text b)))
dropped_marked true = tt
dropped_marked false = tt

-- behind a name come `=` or what is behind the operand
equals_ended : (n v : ℕ) (x u : List ℕ) → T (ended marks u) → T (ended marks (equals n x v ++ u))
equals_ended zero v x u t = t
equals_ended (suc n) v x u t = tt

number_ended : (a : Operand) (n : ℤ) (u : List ℕ) → T (ended marks u) → T (ended marks (number_text a n ++ u))
unfolding number_text
number_ended a n u t = equals_ended (digits_of a) (nat_abs n) (pick (is_signed a) (sign_text n) []) u t

-- what is behind an operand once the first space is taken off: of Nothing, which has none, it is the one of what follows
abbrev pub behind : Operand → List ℕ → List ℕ
behind a u = pick (same_name a Nothing) (drop 1 u) u

-- that begins with a mark if what follows does, behind Nothing without its space
pub behind_ended : (a : Operand) (u : List ℕ) → T (ended marks u) → (a ≡ Nothing → T (ended marks (drop 1 u))) → T (ended marks (behind a u))
behind_ended a u t f = by (same_name a Nothing) refl
  where
    by : (b : Bool) → same_name a Nothing ≡ b → T (ended marks (pick b (drop 1 u) u))
    by true e = f (nothing a e)
    by false e = t

-- the name is then the text's first part; that of Nothing is empty
unspaced : (a : Operand) (n : ℤ) (u : List ℕ) → drop 1 (operand_text a n ++ u) ≡ operand_name a ++ (number_text a n ++ behind a u)
unfolding shown
unspaced a n u = by (same_name a Nothing) refl
  where
    by : (b : Bool) → same_name a Nothing ≡ b
        → drop 1 ((pick b [] (spelled " " ++ operand_name a) ++ number_text a n) ++ u) ≡ operand_name a ++ (number_text a n ++ pick b (drop 1 u) u)
    by true e = rw (numberless a n (nothing a e), nameless a (nothing a e))
    by false e = append_assoc (operand_name a) (number_text a n) u

-- of one name the texts have one length
number_split : (a : Operand) (n m : ℤ) (u v : List ℕ) → operand_text a n ++ u ≡ operand_text a m ++ v → (number_text a n ≡ number_text a m) × (u ≡ v)
number_split a n m u v e =
    let l : length (operand_text a n) ≡ length (operand_text a m) =
    omega (arith, length-append (shown a) (number_text a n), length-append (shown a) (number_text a m), number_length a n m)
    in
    let s = by_length (operand_text a n) (operand_text a m) u v l e in
    (append_cancel_left (shown a) (number_text a n) (number_text a m) s.0, s.1)

-- the first operand of a text, where what is behind it cannot be taken for a name
module _ (a b : Operand) (n m : ℤ) (u v : List ℕ) (e : operand_text a n ++ u ≡ operand_text b m ++ v)
    (s : T (ended marks (behind a u))) (t : T (ended marks (behind b v))) where
  same : a ≡ b
  same =
      operand_told a b (by_mark marks (operand_name a) (operand_name b) (number_text a n ++ behind a u) (number_text b m ++ behind b v)
      (operand_free a) (operand_free b) (number_ended a n (behind a u) s) (number_ended b m (behind b v) t)
      (sym (unspaced a n u) ∙ ap (drop 1) e ∙ unspaced b m v)).0

  pub one_told : (a ≡ b) × (number_text a n ≡ number_text b m) × (u ≡ v)
  one_told =
      let r = number_split a n m u v (subst (λ c. operand_text a n ++ u ≡ operand_text c m ++ v) (sym same) e) in
      (same, r.0 ∙ ap (λ c. number_text c m) same, r.1)
