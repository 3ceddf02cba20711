-- Document 01, "What comes back": one reader of all rows.
use Rattle.std.specs.Prelude.{ℕ, zero, suc, ◌+◌, ◌*◌, ◌^◌, ◌%◌, Bool, false, List, [], ◌∷◌, get_or, length, ltb, leb, eqb}
use Rattle.record.specs.Answer.{Answer}
use Rattle.record.specs.declared.Opcode.{Opcode}
use Rattle.record.specs.declared.Size.{Size}
use Rattle.record.specs.declared.Width.{Width}
use Rattle.record.specs.declared.Operand.{Operand}
use Rattle.record.specs.declared.Operand.TheVariants.{Nothing}
use Rattle.laws.specs.Choice.{pick}
use Rattle.record.specs.Blank.{blank}
use Rattle.record.specs.Parts.{part, no_parts}
use Rattle.record.specs.declared.Parts.{Parts}
use Rattle.record.specs.declared.Seen.{Seen}
use Rattle.record.specs.Answer.{Got}
use Rattle.record.specs.Answer.{On, Short}
use Rattle.rows.specs.Row.{Num, disp, imm, imm20, refusal_no, Read, num, cond, stop, Condition, named, unnamed, Face, face, Row, Table}
use Rattle.rows.specs.Codes.{cond_of}
use Rattle.rows.specs.Groups.{document01}

-- n bytes from a place, low first
abbrev pub bytes : List ℕ → ℕ → ℕ → ℕ
bytes bs p zero = 0
bytes bs p (suc zero) = get_or bs p 0
bytes bs p (suc (suc n)) = get_or bs p 0 + 256 * bytes bs (p + 1) (suc n)

-- request A5: the parts once n bytes at a place were read for a displacement, which first takes over where a later one overwrites it
abbrev pub disp_at : ℕ → ℕ → Parts → Parts
disp_at p n q = record { imm_wide = q.imm_wide; dispabs = part p n; first = q.dispabs }

-- or for imm_wide
abbrev pub imm_at : ℕ → ℕ → Parts → Parts
imm_at p n q = record { imm_wide = part p n; dispabs = q.dispabs; first = q.first }

-- a displacement of n bytes: where it overwrites an earlier one, first keeps that
abbrev pub with_disp : ℕ → ℕ → Seen → Seen
with_disp n v s =
    record { imm_wide = s.imm_wide; dispabs = v; first = s.dispabs; dropped = s.dropped; parts = disp_at s.taken n s.parts; taken = s.taken + n }

-- a number of n bytes for imm_wide, and whether bits of it were dropped
abbrev pub with_imm : ℕ → ℕ → Bool → Seen → Seen
with_imm n v d s =
    record { imm_wide = v; dispabs = s.dispabs; first = s.first; dropped = d; parts = imm_at s.taken n s.parts; taken = s.taken + n }

-- n bytes are read and passed on, if they are there
unfoldable pub read_into : ℕ → (ℕ → Seen → Seen) → List ℕ → Seen → Got
read_into n into bs s = pick (leb (s.taken + n) (length bs)) (On (into (bytes bs s.taken n) s)) Short

unfoldable pub read_disp : ℕ → List ℕ → Seen → Got
unfolding read_into
read_disp n bs s = pick (eqb n 0) (On s) (read_into n (with_disp n) bs s)

-- kept whole
abbrev pub in_full : ℕ → ℕ → Seen → Seen
in_full n v = with_imm n (v % 256 ^ n) false

-- L and Disp20: what is kept of three bytes
abbrev pub twenty_bits : ℕ
twenty_bits = 0x100000

-- request A6: and that the nibble above was not zero
abbrev pub in_twenty : ℕ → Seen → Seen
in_twenty v = with_imm 3 (v % twenty_bits) (leb twenty_bits v)

abbrev pub reading : Num → List ℕ → Seen → Got
reading (disp n) = read_disp n
reading (imm n) = read_into n (in_full n)
reading imm20 = read_into 3 in_twenty

-- 0: the record, whose length is the bytes taken
abbrev pub accepted_by : Face → Seen → Answer
accepted_by f s = record {
  inst = record {
    imm_wide = s.imm_wide;
    dispabs = s.dispabs;
    first = s.first;
    length = s.taken;
    opcode = f.opcode;
    size = f.size;
    width = f.width;
    op0 = f.op0;
    op1 = f.op1;
    op2 = Nothing;
    marked = f.marked;
    dropped = s.dropped;
    parts = s.parts;
    registers = f.registers;
  };
  taken = s.taken;
  refusal = 0;
}

-- of a row that names no list of registers
abbrev pub accepted : Opcode → Size → Width → Operand → Operand → Bool → Seen → Answer
accepted o z w a b m = accepted_by (face o z w a b m)

-- a refusal: its number, the bytes taken and the blank record
abbrev pub refusal : ℕ → ℕ → Answer
refusal e n = record { inst = blank; taken = n; refusal = e }

-- a read that finds too little refuses with 1, and every byte was taken
abbrev pub and_then : List ℕ → Got → (Seen → Answer) → Answer
and_then bs (On s) k = k s
and_then bs Short k = refusal 1 (length bs)

abbrev pub past : Seen → Seen
past s = record { imm_wide = s.imm_wide; dispabs = s.dispabs; first = s.first; dropped = s.dropped; parts = s.parts; taken = s.taken + 1 }

abbrev pub renamed : Opcode → Face → Face
renamed o f = record { opcode = o; size = f.size; width = f.width; op0 = f.op0; op1 = f.op1; marked = f.marked; registers = f.registers }

abbrev pub judged : Condition → Seen → (Opcode → Answer) → Answer
judged (named o) s k = k o
judged unnamed s k = refusal 2 (s.taken + 1)

-- the reads of a row, one after the other; the earliest event answers
unfoldable pub run : List Read → List ℕ → Face → Seen → Answer
run [] bs f s = accepted_by f s
run (num k ∷ rs) bs f s = and_then bs (reading k bs s) (run rs bs f)
run (cond ∷ rs) bs f s =
    pick (ltb s.taken (length bs)) (judged (cond_of (get_or bs s.taken 0)) s (λ o. run rs bs (renamed o f) (past s))) (refusal 1 (length bs))
run (stop e ∷ rs) bs f s = refusal (refusal_no e) s.taken

-- two bytes were taken
abbrev pub begun : ℕ → Seen
begun v = record { imm_wide = v; dispabs = 0; first = 0; dropped = false; parts = no_parts; taken = 2 }

unfoldable pub run_row : Row → List ℕ → Answer
run_row r bs = run r.reads bs r.face (begun r.number)

-- decoding by any first bytes and rows: 1 for no byte, 4 for a first byte outside, 1 where the second byte is missing
unfoldable pub decode_by : Table → List ℕ → Answer
decode_by t [] = refusal 1 0
decode_by t (a ∷ []) = pick (t.known a) (refusal 1 1) (refusal 4 1)
decode_by t (a ∷ b ∷ bs) = pick (t.known a) (run_row (t.row_at a b) (a ∷ b ∷ bs)) (refusal 4 1)

-- decoding as document 01 has it
abbrev pub decode_rows : List ℕ → Answer
decode_rows = decode_by document01
