-- A set of names as a number: bit n is the name of number n.
use Rattle.std.specs.Prelude.{ℕ, ◌+◌, ◌^◌, ◌/◌, ◌%◌, ◌≡◌, Bool, List, [], ◌∷◌, eqb, length}
use Rattle.laws.specs.Choice.{pick, both}
use Rattle.record.specs.declared.Operand.{Operand}
use Rattle.record.specs.declared.Size.{Size}
use Rattle.record.specs.declared.Width.{Width}
use Rattle.record.specs.Names.{operands}
use Rattle.record.specs.Numbers.{size_no, operand_no}
use Rattle.encode_choice.specs.declared.Asked.{Asked}
use Rattle.encode_choice.specs.declared.name_sets.Form.{Form}
use Rattle.encode_choice.specs.steps.Forms.{names, rowless, size_for}

unfoldable pub bit_set : List Operand → ℕ
bit_set [] = 0
bit_set (x ∷ xs) = 2 ^ operand_no x + bit_set xs

-- the sizes' bits stand behind the names'
abbrev pub size_bit : Size → ℕ
size_bit s = length operands + size_no s

-- names of operand 0 and the size, and names of operand 1
abbrev pub first : Form → Width → ℕ
first f w = 2 ^ size_bit (size_for f w) + bit_set (names f w).first

abbrev pub second : Form → Width → ℕ
second f w = bit_set (names f w).second

-- no bit where the form has no row
abbrev pub if_rows : Form → Width → ℕ → ℕ
if_rows f w n = pick (rowless f w) 0 n

-- the sets of a form at a width
abbrev pub AreSets : ℕ → ℕ → Form → Width → Type 0
AreSets m n f w = (m ≡ if_rows f w (first f w)) × (n ≡ if_rows f w (second f w))

abbrev pub has_bit : ℕ → ℕ → Bool
has_bit n i = eqb (n / 2 ^ i % 2) 1

-- a size and a name in the first set, a name in the second
abbrev pub all_in : ℕ → ℕ → Asked → Bool
all_in m n q = both (has_bit m (size_bit q.size)) (both (has_bit m (operand_no q.op0)) (has_bit n (operand_no q.op1)))
