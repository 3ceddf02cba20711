-- The direct choice for document 01: the opcode gives the few rows, each operand's base and number its name, and that the nibble.
-- (A name in no list has a code too; no names that go together come to that.)
use Rattle.std.specs.Prelude.{ℕ, suc, ◌+◌, ◌*◌, ◌%◌, Bool, true, false, List, [], ◌∷◌, ◌++◌, take, drop, ltb, eqb}
use Rattle.laws.specs.Choice.{pick, both}
use Rattle.record.specs.declared.Record.{Record}
use Rattle.record.specs.declared.Opcode.{Opcode}
use Rattle.record.specs.declared.Opcode.TheVariants as opcode
use Rattle.record.specs.declared.Size.{Size}
use Rattle.record.specs.declared.Size.TheVariants as size
use Rattle.record.specs.declared.Width.{Width}
use Rattle.record.specs.declared.Width.TheVariants.{None, B, W}
use Rattle.record.specs.declared.Operand.{Operand}
use Rattle.record.specs.declared.Operand.TheVariants.{Nothing, Imm4, R0L, R0, Abs20, Deref_A0, Deref_A1, Disp8_A0}
use Rattle.record.specs.declared.Operand.TheVariants.{Disp8_A1, Disp8_SB, Disp8_SP, Disp16_A0, Disp16_A1, Disp16_SB, Disp20_A0, Disp20_A1, SP}
use Rattle.record.specs.Numbers.{opcode_no}
use Rattle.record.specs.declared.Key.{Key}
use Rattle.record.specs.declared.fields.Field.{Field}
use Rattle.record.specs.declared.fields.Field.TheVariants.{Nowhere as nowhere, Wide as wide, Short as short, Early as early}
use Rattle.record.specs.Same.{same_name, field_of, key}
use Rattle.rows.specs.Codes.{byte_names, word_names, bit_names, pair_names, control_names}
use Rattle.rows.specs.Groups.{document01}
use Rattle.encode_choice.specs.declared.Asked.{Asked}
use Rattle.encode_rules.specs.Says.{Found}
use Rattle.encode_rules.specs.steps.Direct.{Choice, code, nothing, taken}
use Rattle.encode_choice.specs.steps.Coarse.{whole_key}
use Rattle.encode_choice.specs.steps.Forms.{form_of, goes_with}

-- the shortest name for a base, as its number is 0, or below 256
abbrev pub narrow : Operand → Bool → Bool → Operand
narrow o z s =
    pick (same_name o Disp16_A0) (pick z Deref_A0 (pick s Disp8_A0 Disp16_A0))
    (pick (same_name o Disp16_A1) (pick z Deref_A1 (pick s Disp8_A1 Disp16_A1))
    (pick (same_name o Disp16_SB) (pick s Disp8_SB Disp16_SB) o))

-- no row of MOVA or PUSHA names Deref: there a displacement of 0 is not dropped
unfoldable pub drops_zero : Opcode → Bool
drops_zero o = pick (eqb (opcode_no o) (opcode_no opcode.MOVA)) false (pick (eqb (opcode_no o) (opcode_no opcode.PUSHA)) false true)

-- what the choice asks of a key beside the opcode
abbrev pub asked : Key → Asked
asked k = record {
  size = k.size;
  width = k.width;
  op0 = narrow k.base0 (both (drops_zero k.opcode) (eqb k.number0 0)) (ltb k.number0 256);
  op1 = narrow k.base1 (eqb k.number1 0) (ltb k.number1 256);
  number = pick (whole_key k) k.number0 0;
}

-- the codes of names
unfoldable pub place : List Operand → Operand → ℕ
place [] o = 0
place (x ∷ xs) o = pick (same_name x o) 0 (suc (place xs o))

-- J's names: pairs, Disp20 at C and D, else those of G
abbrev pub longs : List Operand
longs = pair_names ++ (take 6 (drop 6 word_names) ++ (Disp20_A0 ∷ Disp20_A1 ∷ drop 14 word_names))

-- the lists of document 01 one behind the other, sixteen names each: a name that two of them have has one code in both
abbrev pub listed : List Operand
listed = byte_names ++ (word_names ++ (bit_names ++ (longs ++ (Nothing ∷ control_names))))

abbrev pub code_of : Operand → ℕ
code_of o = place listed o % 16

-- the first byte of a pair, by width
abbrev pub word : Width → ℕ
word B = 0
word W = 1
word None = 1

-- no operand in the second byte
abbrev pub only : ℕ → ℕ → Asked → Choice
only f b q = code (f + word q.width) b

-- an operand's code in the low nibble
abbrev pub general : ℕ → ℕ → Width → Operand → Choice
general f h w o = code (f + word w) (16 * h + code_of o)

-- operand 0 is G(n)
abbrev pub unary : ℕ → ℕ → Asked → Choice
unary f h q = general f h q.width q.op0

-- operand 1 is G(n)
abbrev pub binary : ℕ → ℕ → Asked → Choice
binary f h q = general f h q.width q.op1

-- both are
abbrev pub twice : ℕ → Asked → Choice
twice f q = general f (code_of q.op0) q.width q.op1

-- an immediate as operand 0, or another
abbrev pub on_field : Field → Choice → Choice → Choice
on_field wide x y = x
on_field nowhere x y = y
on_field short x y = y
on_field early x y = y

abbrev pub or_imm : Choice → Choice → Asked → Choice
or_imm x y q = on_field (field_of q.op0) x y

-- an immediate form, by its even first byte and h, and a form of two operands, by its even first byte
abbrev pub arithmetic : ℕ → ℕ → ℕ → Asked → Choice
arithmetic a h f q = or_imm (binary a h q) (twice f q) q

-- 7E
abbrev pub bit : ℕ → Asked → Choice
bit h q = code 0x7E (16 * h + code_of q.op0)

-- the condition of a flag, 7D D, or of a bit
abbrev pub on_width : Width → Choice → Choice → Choice
on_width W x y = x
on_width B x y = y
on_width None x y = y

abbrev pub condition : ℕ → Asked → Choice
condition n q = on_width q.width (code 0x7D (0xD0 + n)) (bit 2 q)

-- an immediate alone, or G(n)
abbrev pub imm_or_unary : ℕ → ℕ → ℕ → Asked → Choice
imm_or_unary b f h q = or_imm (only 0x7C b q) (unary f h q) q

abbrev pub decimal : ℕ → Asked → Choice
decimal i q = or_imm (only 0x7C (0xEC + i) q) (only 0x7C (0xE4 + i) q) q

-- MOVLL and the like: to R0L, which comes first, or from it
abbrev pub half : ℕ → Asked → Choice
half h q = pick (same_name q.op1 R0L) (code 0x7C (16 * h + code_of q.op0)) (pick (same_name q.op0 R0L) (code 0x7C (16 * (8 + h) + code_of q.op1)) nothing)

-- STE and LDE, by the operand beside G(n)
abbrev pub far : Operand → ℕ
far o = pick (same_name o Abs20) 0 (pick (same_name o Disp20_A0) 1 2)

-- SHL and SHA: at size L a pair, by R1H or by Imm4
abbrev pub long : ℕ → Asked → Choice
long s q = pick (same_name q.op0 Imm4) (code 0xEB (16 * (8 + s + code_of q.op1) + q.number)) (code 0xEB (16 * (s + code_of q.op1) + 1))

abbrev pub on_size : Size → Choice → Choice → Choice
on_size size.L x y = x
on_size size.None x y = y
on_size size.B x y = y
on_size size.W x y = y

abbrev pub shift : ℕ → ℕ → Asked → Choice
shift h s q = on_size q.size (long s q) (binary 0x74 h q)

-- JMPI and JSRI, from 0 or 10 on
abbrev pub jump : ℕ → Asked → Choice
jump b q = code 0x7D (b + code_of q.op0)

-- PUSHC and POPC, by the low nibble
abbrev pub control : ℕ → Asked → Choice
control n q = code 0xEB (16 * code_of q.op0 + n)

unfoldable pub choose_by : Opcode → Asked → Choice
choose_by opcode.NOP q = nothing
choose_by opcode.ABS q = unary 0x76 0xF q
choose_by opcode.ADC q = arithmetic 0x76 6 0xB0 q
choose_by opcode.ADCF q = nothing
choose_by opcode.ADD q = pick (same_name q.op1 SP) (or_imm (only 0x7C 0xEB q) nothing q) (arithmetic 0x76 4 0xA0 q)
choose_by opcode.AND q = arithmetic 0x76 2 0x90 q
choose_by opcode.BAND q = bit 4 q
choose_by opcode.BCLR q = bit 8 q
choose_by opcode.BMEQ q = condition 2 q
choose_by opcode.BMGEU q = condition 0 q
choose_by opcode.BMGT q = condition 0xC q
choose_by opcode.BMGTU q = condition 1 q
choose_by opcode.BMLE q = condition 8 q
choose_by opcode.BMLEU q = condition 5 q
choose_by opcode.BMLTU q = condition 4 q
choose_by opcode.BMLT q = bit 2 q
choose_by opcode.BMNO q = bit 2 q
choose_by opcode.BMGE q = bit 2 q
choose_by opcode.BMN q = condition 3 q
choose_by opcode.BMNE q = condition 6 q
choose_by opcode.BMO q = condition 9 q
choose_by opcode.BMPZ q = condition 7 q
choose_by opcode.BNAND q = bit 5 q
choose_by opcode.BNOR q = bit 7 q
choose_by opcode.BNOT q = bit 0xA q
choose_by opcode.BNTST q = bit 3 q
choose_by opcode.BNXOR q = bit 0xD q
choose_by opcode.BOR q = bit 6 q
choose_by opcode.BSET q = bit 9 q
choose_by opcode.BTST q = bit 0xB q
choose_by opcode.BTSTC q = bit 0 q
choose_by opcode.BTSTS q = bit 1 q
choose_by opcode.BXOR q = bit 0xC q
choose_by opcode.CMP q = arithmetic 0x76 8 0xC0 q
choose_by opcode.DADC q = decimal 2 q
choose_by opcode.DADD q = decimal 0 q
choose_by opcode.DIV q = imm_or_unary 0xE1 0x76 0xD q
choose_by opcode.DIVU q = only 0x7C 0xE0 q
choose_by opcode.DIVX q = only 0x7C 0xE3 q
choose_by opcode.DSBB q = decimal 3 q
choose_by opcode.DSUB q = decimal 1 q
choose_by opcode.ENTER q = code 0x7C 0xF2
choose_by opcode.EXITD q = code 0x7D 0xF2
choose_by opcode.EXTS q = pick (same_name q.op0 R0) (code 0x7C 0xF3) (code 0x7C (0x60 + code_of q.op0))
choose_by opcode.FCLR q = nothing
choose_by opcode.FSET q = nothing
choose_by opcode.GE q = nothing
choose_by opcode.INT q = code 0xEB (0xC0 + q.number)
choose_by opcode.JGE q = code 0x7D 0xCA
choose_by opcode.JGT q = code 0x7D 0xCC
choose_by opcode.JLE q = code 0x7D 0xC8
choose_by opcode.JLT q = code 0x7D 0xCE
choose_by opcode.JMPI q = jump 0 q
choose_by opcode.JNO q = code 0x7D 0xCD
choose_by opcode.JO q = code 0x7D 0xC9
choose_by opcode.JSRI q = jump 0x10 q
choose_by opcode.LDC q = code 0xEB (16 * code_of q.op1)
choose_by opcode.LDCTX q = code 0x7C 0xF0
choose_by opcode.LDE q = binary 0x74 (8 + far q.op0) q
choose_by opcode.LDIPL q = nothing
choose_by opcode.LT q = nothing
choose_by opcode.MOV q = pick (same_name q.op0 Disp8_SP) (binary 0x74 0xB q) (arithmetic 0x74 0xC 0x72 q)
choose_by opcode.MOVA q = code 0xEB (16 * code_of q.op1 + code_of q.op0)
choose_by opcode.MOVHH q = half 3 q
choose_by opcode.MOVHL q = half 2 q
choose_by opcode.MOVLH q = half 1 q
choose_by opcode.MOVLL q = half 0 q
choose_by opcode.MUL q = twice 0x78 q
choose_by opcode.MULU q = nothing
choose_by opcode.NEG q = unary 0x74 5 q
choose_by opcode.NO q = nothing
choose_by opcode.NOT q = unary 0x74 7 q
choose_by opcode.OR q = arithmetic 0x76 3 0x98 q
choose_by opcode.POP q = unary 0x74 0xD q
choose_by opcode.POPC q = control 3 q
choose_by opcode.POPM q = code 0xED q.number
choose_by opcode.PUSH q = imm_or_unary 0xE2 0x74 4 q
choose_by opcode.PUSHA q = code 0x7D (0x90 + code_of q.op0)
choose_by opcode.PUSHC q = control 2 q
choose_by opcode.PUSHM q = code 0xEC q.number
choose_by opcode.RMPA q = only 0x7C 0xF1 q
choose_by opcode.ROLC q = unary 0x76 0xA q
choose_by opcode.RORC q = unary 0x76 0xB q
choose_by opcode.ROT q = binary 0x74 6 q
choose_by opcode.SBB q = arithmetic 0x76 7 0xB8 q
choose_by opcode.SHA q = shift 0xF 2 q
choose_by opcode.SHL q = shift 0xE 0 q
choose_by opcode.SMOVB q = only 0x7C 0xE9 q
choose_by opcode.SMOVF q = only 0x7C 0xE8 q
choose_by opcode.SSTR q = only 0x7C 0xEA q
choose_by opcode.STC q = code 0x7B (16 * (8 + code_of q.op1) + code_of q.op0)
choose_by opcode.STCTX q = code 0x7D 0xF0
choose_by opcode.STE q = unary 0x74 (far q.op1) q
choose_by opcode.SUB q = arithmetic 0x76 5 0xA8 q
choose_by opcode.TST q = arithmetic 0x76 0 0x80 q
choose_by opcode.WAIT q = code 0x7D 0xF3
choose_by opcode.XCHG q = twice 0x7A q
choose_by opcode.XOR q = arithmetic 0x76 1 0x88 q

-- the code, if these are names that the opcode has in an unmarked row
unfoldable pub choose_named : Opcode → Asked → Choice
choose_named o q = pick (goes_with (form_of o) q) (choose_by o q) nothing

abbrev pub choose : Key → Choice
choose k = choose_named k.opcode (asked k)

-- what document 01's encoder finds for a record
abbrev pub encoded : Record → Found
encoded r = taken document01 (choose (key r)) (key r)
