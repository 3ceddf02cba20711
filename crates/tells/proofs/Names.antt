-- The text of a name tells the name, and no name has a mark of a line in it.
-- Assumes nothing.
use Prim.Native.Nat.{ℕ, suc}
use mathlib.Core.Path.{◌≡◌, sym, ap, ◌∙◌}
use mathlib.Core.Bool.{Bool, true, false}
use mathlib.Core.List.{List, [], ◌∷◌, map}
use lib.Dec.{T, eqb, eqb→eq}
use Rattle.laws.specs.Choice.{pick}
use Rattle.record.specs.declared.Opcode.{Opcode}
use Rattle.record.specs.declared.Size.{Size}
use Rattle.record.specs.declared.Width.{Width}
use Rattle.record.specs.declared.Operand.{Operand}
use Rattle.record.specs.Numbers.{opcode_no, size_no, width_no, operand_no}
use Rattle.record.specs.Names.{opcodes, sizes, widths, operands}
use Rattle.record.proofs.Apart.{opcodes_apart, sizes_apart, widths_apart, operands_apart}
use Rattle.record.proofs.Arms.{every_opcode, every_size, every_width, every_operand, bit, bits_apart}
use Rattle.laws.specs.Text.{spelled}
use Rattle.line.specs.Names.{opcode_name, operand_name}
use Rattle.line.specs.Line.{width_text, size_text, dropped_text}
use Rattle.line.specs.steps.Packed.{pack}
use Rattle.tells.proofs.Split.{free}

-- what stands in a line beside names, digits and signs
abbrev pub marks : List ℕ
marks = spelled " !.="

-- no name has one, tested at every name
pub opcode_free : (o : Opcode) → T (free marks (opcode_name o))
unfolding opcode_name
opcode_free = every_opcode (λ o. free marks (opcode_name o)) tt

pub operand_free : (a : Operand) → T (free marks (operand_name a))
unfolding operand_name
operand_free = every_operand (λ a. free marks (operand_name a)) tt

-- and a size has no space
pub size_free : (s : Size) → T (free (spelled " ") (size_text s))
size_free = every_size (λ s. free (spelled " ") (size_text s)) tt

-- how many numbers of a list stand before n
abbrev before : ℕ → List ℕ → ℕ
before n [] = 0
before n (k ∷ ks) = pick (eqb n k) 0 (suc (before n ks))

-- a text is looked up among the texts of all names, packed: if each is found at its name's number, it tells the name
module _ {A : Type 0} (no : A → ℕ) (text : A → List ℕ) (names : List A) where
  abbrev found : List ℕ → ℕ
  found t = before (pack t) (map (λ a. pack (text a)) names)

  abbrev itself : A → Bool
  itself a = eqb (found (text a)) (no a)

  by_text : ((a b : A) → no a ≡ no b → a ≡ b) → ((a : A) → T (itself a)) → (a b : A) → text a ≡ text b → a ≡ b
  by_text apart h a b e = apart a b (sym (eqb→eq _ _ (h a)) ∙ ap found e ∙ eqb→eq _ _ (h b))

-- each opcode, operand, size and width is found at its number
pub opcode_told : (a b : Opcode) → opcode_name a ≡ opcode_name b → a ≡ b
unfolding opcode_name
opcode_told = by_text opcode_no opcode_name opcodes opcodes_apart (every_opcode (itself opcode_no opcode_name opcodes) tt)

pub operand_told : (a b : Operand) → operand_name a ≡ operand_name b → a ≡ b
unfolding operand_name
operand_told = by_text operand_no operand_name operands operands_apart (every_operand (itself operand_no operand_name operands) tt)

pub size_told : (a b : Size) → size_text a ≡ size_text b → a ≡ b
size_told = by_text size_no size_text sizes sizes_apart (every_size (itself size_no size_text sizes) tt)

pub width_told : (a b : Width) → width_text a ≡ width_text b → a ≡ b
width_told = by_text width_no width_text widths widths_apart (every_width (itself width_no width_text widths) tt)

-- ` !` or nothing
pub dropped_told : (a b : Bool) → dropped_text a ≡ dropped_text b → a ≡ b
dropped_told = by_text bit dropped_text (false ∷ true ∷ []) bits_apart each
  where
    each : (b : Bool) → T (itself bit dropped_text (false ∷ true ∷ []) b)
    each true = tt
    each false = tt
