-- What a listing shows of an instruction apart from the bytes it reads, as one number, its stamp: of any record, and of a code.
use Rattle.std.specs.Prelude.{ℕ, ◌+◌, ◌*◌, ◌%◌, Bool, false, eqb}
use Rattle.laws.specs.Choice.{pick, either}
use Rattle.record.specs.declared.Record.{Record}
use Rattle.record.specs.declared.Opcode.{Opcode}
use Rattle.record.specs.declared.Opcode.TheVariants.{NOP, INT, PUSHM, POPM}
use Rattle.record.specs.declared.Size.{Size}
use Rattle.record.specs.declared.Size.TheVariants as size
use Rattle.record.specs.declared.Width.{Width}
use Rattle.record.specs.declared.Width.TheVariants.{None, B, W}
use Rattle.record.specs.Numbers.{opcode_no, size_no, width_no, operand_no}
use Rattle.record.specs.Parts.{no_parts}
use Rattle.record.specs.Same.{field0, value_of}
use Rattle.rows.specs.Row.{Row}
use Rattle.rows.specs.Codes.{cond_of}
use Rattle.rows.specs.Groups.{document01}
use Rattle.rows.specs.Run.{accepted_by}
use Rattle.rows.specs.Fate.{reach}
use Rattle.encode_rules.specs.steps.Search.{means, cond_byte}

-- the number of the name that a row has: NOP's where a condition byte names the opcode (such rows have no width), else the opcode's
unfoldable pub shown_name : Width → Opcode → ℕ
shown_name None o = pick (means (cond_of (cond_byte o)) o) (opcode_no NOP) (opcode_no o)
shown_name B o = opcode_no o
shown_name W o = opcode_no o

-- the number of operand 0 is part of the code: of INT, PUSHM, POPM and the long shifts
unfoldable pub in_code : Opcode → Size → Bool
in_code o z =
    either (eqb (opcode_no o) (opcode_no INT))
    (either (eqb (opcode_no o) (opcode_no PUSHM)) (either (eqb (opcode_no o) (opcode_no POPM)) (eqb (size_no z) (size_no size.L))))

-- that number, and 0 where none is part of the code
unfoldable pub code_number : Record → ℕ
code_number r = pick (in_code r.opcode r.size) (value_of (field0 r.op0 r.op1) r) 0

-- the parts of a stamp as one number, each kept below its bound: name, size, width, operands 0 and 1, length, number
unfoldable pub stamp : ℕ → ℕ → ℕ → ℕ → ℕ → ℕ → ℕ → ℕ
stamp o z w a b n v = (((((o % 128 * 4 + z % 4) * 4 + w % 4) * 64 + a % 64) * 64 + b % 64) * 16 + n % 16) * 256 + v % 256

-- how many binary digits a stamp has
abbrev pub stamp_digits : ℕ
stamp_digits = 35

-- the stamp of a record
unfoldable pub stamp_of : Record → ℕ
stamp_of r =
    stamp (shown_name r.width r.opcode) (size_no r.size) (width_no r.width) (operand_no r.op0) (operand_no r.op1) r.length (code_number r)

-- the record that a row makes, but that no byte behind the second was read
abbrev pub unread : Row → Record
unread w =
    (accepted_by w.face
    (record { imm_wide = w.number; dispabs = 0; first = 0; dropped = false; parts = no_parts; taken = 2 + reach w.reads })).inst

-- the stamp of a code
unfoldable pub code_stamp : ℕ → ℕ → ℕ
code_stamp a b = stamp_of (unread (document01.row_at a b))
