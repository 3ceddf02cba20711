-- A meaning as a number, for comparisons: its decimal digits are 1 MM S KNNABDDD KNNABDDD L, and an empty code is 0.
-- MM is the mnemonic, S the suffix, L the length. Of an operand K is the kind, NN the name, A the byte where its number starts and B the number's bytes, DDD a number that is part of the code.
use Rattle.std.specs.Prelude.{ℕ, ◌+◌, ◌*◌}
use Rattle.record.specs.Numbers.{opcode_no, operand_no}
use Rattle.manual.specs.Meaning.{Suffix, none, B, W, L, A, plus, minus, Spot, nothing, plain, behind, within, carry, counter, flag, Entry, meaning, empty}
use Rattle.manual.specs.Bits.{Condition, named, unnamed}

unfoldable pub suffix_no : Suffix → ℕ
suffix_no none = 0
suffix_no B = 1
suffix_no W = 2
suffix_no L = 3
suffix_no A = 4

-- an operand's digits
unfoldable pub digits : ℕ → ℕ → ℕ → ℕ → ℕ → ℕ
digits kind name start count number = (((kind * 100 + name) * 10 + start) * 10 + count) * 1000 + number

unfoldable pub spot_no : Spot → ℕ
unfolding digits
spot_no nothing = digits 0 0 0 0 0
spot_no (plain o) = digits 1 (operand_no o) 0 0 0
spot_no (behind o start count) = digits 2 (operand_no o) start count 0
spot_no (within o (plus k)) = digits 3 (operand_no o) 0 0 k
spot_no (within o (minus k)) = digits 4 (operand_no o) 0 0 k
spot_no carry = digits 5 0 0 0 0
spot_no counter = digits 6 0 0 0 0
spot_no (flag k) = digits 7 0 0 0 k

unfoldable pub packed : Entry → ℕ
unfolding suffix_no spot_no
packed (meaning m) = ((((100 + opcode_no m.mnemonic) * 10 + suffix_no m.suffix) * 100_000_000 + spot_no m.op0) * 100_000_000 + spot_no m.op1) * 10 + m.length
packed empty = 0

-- a condition byte's instruction, 1 + its number, or 0
unfoldable pub packed_condition : Condition → ℕ
packed_condition (named o) = 1 + opcode_no o
packed_condition unnamed = 0
