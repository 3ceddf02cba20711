-- Request A7's first bytes as the code tells them: by arithmetic. (That these are the first bytes of its rows is in proofs/Rows.)
use Rattle.std.specs.Prelude.{ℕ, ◌/◌, ◌%◌, Bool, false, [], ◌∷◌, get_or, eqb, ltb}
use Rattle.laws.specs.Choice.{pick, either}
use Rattle.record.specs.declared.Opcode.{Opcode}
use Rattle.record.specs.declared.Opcode.TheVariants.{NOP, MOV, TST, XOR, AND, OR, ADD, SUB, ADC, SBB, CMP, PUSHM, POPM}

-- 72 and 73; behind 7E, to C1, the first two of each eight
unfoldable pub is_two : ℕ → Bool
is_two a = pick (ltb a 0x7F) (eqb (a / 2) 0x39) (pick (ltb 0xC1 a) false (ltb (a % 8) 2))

-- EC and ED
unfoldable pub is_list : ℕ → Bool
is_list a = eqb (a / 2) 0x76

unfoldable pub is_added : ℕ → Bool
unfolding is_two is_list
is_added a = either (is_two a) (is_list a)

-- of a pair, by the first byte's eighth
abbrev pub opcode_at : ℕ → Opcode
opcode_at n =
    get_or (TST ∷ XOR ∷ AND ∷ OR ∷ ADD ∷ SUB ∷ ADC ∷ SBB ∷ CMP ∷ NOP ∷ NOP ∷ NOP ∷ NOP ∷ NOP ∷ MOV ∷ NOP ∷ []) n NOP

abbrev pub opcode_of : ℕ → Opcode
opcode_of a = opcode_at (a / 8 % 16)

abbrev pub list_opcode : ℕ → Opcode
list_opcode a = pick (eqb (a % 2) 0) PUSHM POPM
