-- The words of a line spell the line.
-- Assumes nothing.
use Prim.Native.Nat.{ℕ, ◌≤◌}
use mathlib.Core.Path.{◌≡◌, sym, ap, ◌∙◌}
use mathlib.Core.Bool.{Bool, true, false}
use mathlib.Core.List.{List, [], ◌∷◌, ◌++◌, map, append_assoc, append-nil}
use lib.Dec.{T}
use native.Mathlib.Omega.{arith}
use lib.IntN.{ℤ, nat_abs}
use lib.ListN.{length, take-append-drop}
use Rattle.record.specs.declared.Record.{Record}
use Rattle.record.specs.declared.Size.{Size}
use Rattle.record.specs.declared.Width.{Width}
use Rattle.record.specs.declared.Operand.{Operand}
use Rattle.record.specs.Signed.{is_signed, number_at}
use Rattle.record.proofs.Arms.{every_size, every_width}
use Rattle.laws.specs.Text.{spelled}
use Rattle.line.specs.Line.{width_text, opcode_text, size_text, shown, digits_of, number_text, operand_text, dropped_text, from_width, line_of, end_text, refused_text}
use Rattle.line.specs.steps.Packed.{pack, text, first_eight, after_eight, place_text, length_text, parts, end_parts, refused_parts}
use Rattle.line.proofs.Unpacked.{wordy, wordy_hex, wordy_digits, wordy_equals, joined, Wordy, done, ◌also◌, text_of, text_short}
use Rattle.line.proofs.Spelling.{opcode_wordy, first_wordy, after_wordy, digits_few}

width_wordy : (w : Width) → T (wordy 8 (width_text w))
width_wordy = every_width (λ w. wordy 8 (width_text w)) tt

size_wordy : (s : Size) → T (wordy 8 (size_text s))
size_wordy = every_size (λ s. wordy 8 (size_text s)) tt

number_wordy : (a : Operand) (n : ℤ) → T (wordy 8 (number_text a n))
unfolding number_text
number_wordy a n = wordy_equals (digits_of a) (nat_abs n) (is_signed a) n (digits_few a)

dropped_wordy : (b : Bool) → T (wordy 8 (dropped_text b))
dropped_wordy true = tt
dropped_wordy false = tt

parts_wordy : (r : Record) → Wordy (parts r)
parts_wordy r =
    width_wordy r.width also opcode_wordy r.opcode also size_wordy r.size
    also first_wordy r.op0 also after_wordy r.op0 also number_wordy r.op0 (number_at r 0).value
    also first_wordy r.op1 also after_wordy r.op1 also number_wordy r.op1 (number_at r 1).value
    also first_wordy r.op2 also after_wordy r.op2 also number_wordy r.op2 (number_at r 2).value
    also dropped_wordy r.dropped also done

-- a name's two words, and the number behind them
operand_joined : (a : Operand) (n : ℤ) (xs : List ℕ) → first_eight (shown a) ++ (after_eight (shown a) ++ (number_text a n ++ xs)) ≡ operand_text a n ++ xs
operand_joined a n xs =
    sym (append_assoc (first_eight (shown a)) (after_eight (shown a)) (number_text a n ++ xs))
    ∙ ap (λ s. s ++ (number_text a n ++ xs)) (take-append-drop 8 (shown a)) ∙ sym (append_assoc (shown a) (number_text a n) xs)

parts_joined : (r : Record) → joined (parts r) ≡ from_width r
unfolding from_width
parts_joined r =
    ap (λ s. width_text r.width ++ (opcode_text r.opcode ++ (size_text r.size ++ s)))
    (operand_joined r.op0 (number_at r 0).value _ ∙ ap (λ s. operand_text r.op0 (number_at r 0).value ++ s)
    (operand_joined r.op1 (number_at r 1).value _ ∙ ap (λ s. operand_text r.op1 (number_at r 1).value ++ s)
    (operand_joined r.op2 (number_at r 2).value _ ∙ ap (λ s. operand_text r.op2 (number_at r 2).value ++ s) (append-nil (dropped_text r.dropped)))))

pub from_width_lem : (r : Record) → text (0 ∷ 0 ∷ map pack (parts r)) ≡ from_width r
from_width_lem r = text_of {xss = [] ∷ [] ∷ parts r} (tt also tt also parts_wordy r) ∙ parts_joined r

pub whole : (place : ℕ) (r : Record) → text (pack (place_text place) ∷ pack (length_text r.length) ∷ map pack (parts r)) ≡ line_of place r
unfolding line_of
whole place r =
    text_of {xss = place_text place ∷ length_text r.length ∷ parts r} (wordy_hex 4 4 place (spelled " ") tt also wordy_hex 1 7 r.length (spelled " ") tt also parts_wordy r)
    ∙ ap (λ s. place_text place ++ (length_text r.length ++ s)) (parts_joined r)

pub ending : (place : ℕ) → text (map pack (end_parts place)) ≡ end_text place
ending place = text_of {xss = end_parts place} (tt also wordy_digits 4 4 place also done)

pub refusing : (place refusal taken : ℕ) → text (map pack (refused_parts place refusal taken)) ≡ refused_text place refusal taken
refusing place refusal taken =
    text_of {xss = refused_parts place refusal taken} (wordy_digits 4 4 place also tt also wordy_digits 1 6 refusal also tt also wordy_digits 1 7 taken also done)

-- fifteen words, so at most 120 characters
pub line_short : (place : ℕ) (r : Record) → length (line_of place r) ≤ 120
line_short place r = omega (arith, ap length (whole place r), text_short (pack (place_text place) ∷ pack (length_text r.length) ∷ map pack (parts r)))
