-- What holds of every name: a table of spelled names is tested once, and a number behind its end spells nothing.
-- Assumes nothing.
use Prim.Native.Nat.{ℕ, zero, suc, ◌≤◌}
use Prim.Native.String.{String}
use mathlib.Core.Bool.{Bool, true, false}
use mathlib.Core.List.{List, [], ◌∷◌, ◌++◌}
use native.Mathlib.Omega.{arith}
use lib.Dec.{T}
use lib.ListN.{get_or}
use Rattle.laws.specs.Choice.{pick, both}
use Rattle.laws.specs.Table.{every}
use Rattle.laws.proofs.Choice.{both_left, both_right}
use Rattle.record.specs.declared.Opcode.{Opcode}
use Rattle.record.specs.declared.Operand.{Operand}
use Rattle.record.specs.declared.Operand.TheVariants.{Nothing, Imm4}
use Rattle.record.specs.Numbers.{opcode_no, operand_no}
use Rattle.record.specs.Same.{same_name, among}
use Rattle.laws.specs.Text.{spelled}
use Rattle.line.specs.Names.{opcode_names, opcode_name, operand_names, operand_name}
use Rattle.line.specs.Line.{opcode_text, byte_names, word_names, twenty_names, digits_of, shown}
use Rattle.line.specs.steps.Packed.{first_eight, after_eight}
use Rattle.line.proofs.Unpacked.{wordy}

-- a test that passes at every entry and at the default passes at any number
pub anywhere : {A : Type 0} (f : A → Bool) (d : A) (xs : List A) (i : ℕ) → T (every (λ _ x. f x) i xs) → T (f d) → (k : ℕ) → T (f (get_or xs k d))
anywhere f d [] i t u k = u
anywhere f d (x ∷ xs) i t u zero = both_left (f x) (every (λ _ y. f y) (suc i) xs) t
anywhere f d (x ∷ xs) i t u (suc k) = anywhere f d xs (suc i) (both_right (f x) (every (λ _ y. f y) (suc i) xs) t) u k

-- an opcode's name and its space in one word
abbrev one_word : String → Bool
one_word s = wordy 8 (spelled " " ++ spelled s)

pub opcode_wordy : (o : Opcode) → T (wordy 8 (opcode_text o))
unfolding opcode_names opcode_name
opcode_wordy o = anywhere one_word "" opcode_names 0 tt tt (opcode_no o)

-- an operand's in two
abbrev two_words : String → Bool
two_words s = both (wordy 8 (first_eight (spelled " " ++ spelled s))) (wordy 8 (after_eight (spelled " " ++ spelled s)))

shown_wordy : (b : Bool) (s : List ℕ) → T (both (wordy 8 (first_eight s)) (wordy 8 (after_eight s))) → T (both (wordy 8 (first_eight (pick b [] s))) (wordy 8 (after_eight (pick b [] s))))
shown_wordy true s t = tt
shown_wordy false s t = t

words : (a : Operand) → T (both (wordy 8 (first_eight (shown a))) (wordy 8 (after_eight (shown a))))
unfolding operand_names operand_name shown
words a = shown_wordy (same_name a Nothing) (spelled " " ++ operand_name a) (anywhere two_words "" operand_names 0 tt tt (operand_no a))

pub first_wordy : (a : Operand) → T (wordy 8 (first_eight (shown a)))
first_wordy a = both_left (wordy 8 (first_eight (shown a))) (wordy 8 (after_eight (shown a))) (words a)

pub after_wordy : (a : Operand) → T (wordy 8 (after_eight (shown a)))
after_wordy a = both_right (wordy 8 (first_eight (shown a))) (wordy 8 (after_eight (shown a))) (words a)

few : (a b c d : Bool) → pick a 1 (pick b 2 (pick c 4 (pick d 5 0))) ≤ 5
few true b c d = omega arith
few false true c d = omega arith
few false false true d = omega arith
few false false false true = omega arith
few false false false false = omega arith

-- no number has more than five digits
pub digits_few : (a : Operand) → digits_of a ≤ 5
unfolding digits_of
digits_few a = few (same_name a Imm4) (among byte_names a) (among word_names a) (among twenty_names a)
