-- Jump instructions, 7D. In a comment n is the second byte's low nibble, a code of the operand table.
use Rattle.std.specs.Prelude.{ℕ, [], ◌∷◌, get_or}
use Rattle.record.specs.declared.Opcode.{Opcode}
use Rattle.record.specs.declared.Opcode.TheVariants.{JGE, JGT, JLE, JLT, JNO, JO}
use Rattle.record.specs.declared.Operand.TheVariants.{Disp8}
use Rattle.manual.specs.Meaning.{none, W, A, Entry, empty}
use Rattle.manual.specs.Codes.{takes, line, jump_word, jump_long, only}

-- OP.A src: 7D 0n JMPI, 1n JSRI
abbrev pub jump_long_to : Opcode → ℕ → Entry
jump_long_to o n = only o A (line jump_long n)

-- OP.W src: 7D 2n JMPI, 3n JSRI
abbrev pub jump_word_to : Opcode → ℕ → Entry
jump_word_to o n = only o W (line jump_word n)

-- Jcnd label: 7D C8 JLE, C9 JO, CA JGE, CC JGT, CD JNO, CE JLT; label is a distance in one byte
abbrev pub jcnd : ℕ → Entry
jcnd n = get_or (empty ∷ empty ∷ empty ∷ empty ∷ empty ∷ empty ∷ empty ∷ empty ∷ to JLE ∷ to JO ∷ to JGE ∷ empty ∷ to JGT ∷ to JNO ∷ to JLT ∷ []) n empty
  where
    to : Opcode → Entry
    to o = only o none (takes Disp8 1)
