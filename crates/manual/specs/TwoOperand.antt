-- The instructions of two operands, both selected by the code: h, the second byte's high nibble, the source, n, its low one, the destination.
use Rattle.std.specs.Prelude.{ℕ, eqb}
use Rattle.laws.specs.Choice.{pick, either}
use Rattle.record.specs.declared.Opcode.{Opcode}
use Rattle.manual.specs.Meaning.{Suffix, Entry}
use Rattle.manual.specs.Codes.{Choice, no_address, byte_table, word_table, by_size, general, src_first}

-- src: at .B neither A0 nor A1 where dest is one of them, codes 4 and 5
abbrev pub src_beside : ℕ → Suffix → ℕ → Choice
src_beside n = by_size (pick (either (eqb n 4) (eqb n 5)) no_address byte_table) word_table

-- OP.size src,dest: 72/73 MOV:G, 80/81 TST, 88/89 XOR, 90/91 AND:G, 98/99 OR:G, A0/A1 ADD:G, A8/A9 SUB:G, B0/B1 ADC, B8/B9 SBB, C0/C1 CMP:G
abbrev pub src_to_dest : Opcode → Suffix → ℕ → ℕ → Entry
src_to_dest o s h n = src_first o s (src_beside n s h) (general s n)
