-- Which names an opcode's unmarked rows have, by width: the opcodes that have the same are of one form.
-- (Steps of the choice: that these are the names that document 01's rows have is proved, not believed.)
use Rattle.std.specs.Prelude.{ℕ, Bool, true, false, List, [], ◌∷◌, ◌++◌, ltb, eqb, take, drop, get_or}
use Rattle.laws.specs.Choice.{pick, both, either}
use Rattle.record.specs.declared.Opcode.{Opcode}
use Rattle.record.specs.declared.Opcode.TheVariants as opcode
use Rattle.record.specs.declared.Size.{Size}
use Rattle.record.specs.declared.Size.TheVariants as size
use Rattle.record.specs.declared.Width.{Width}
use Rattle.record.specs.declared.Width.TheVariants.{None, B, W}
use Rattle.record.specs.declared.Operand.{Operand}
use Rattle.record.specs.declared.Operand.TheVariants.{Nothing, Imm4, Imm8, Imm16, R0L, R0H, R1L, R1H, R0, R1, R2R0, R3R1, A0, A1, A1A0}
use Rattle.record.specs.declared.Operand.TheVariants.{Disp8_SP, Disp20_A0, Disp20_A1, Deref_A1A0, Abs16, Abs20, Disp8, RegList, SP}
use Rattle.record.specs.Numbers.{size_no}
use Rattle.record.specs.Same.{same_name, among}
use Rattle.rows.specs.Codes.{byte_names, word_names, bit_names, control_names}
use Rattle.encode_choice.specs.declared.Asked.{Asked}
use Rattle.encode_choice.specs.declared.name_sets.Form.{Form}
use Rattle.encode_choice.specs.declared.name_sets.Form.TheVariants as form

-- the form of each opcode; those without an unmarked row have none. (Sum is ADD, which has SP too, beside an immediate alone. Half is MOVLL and MOVHH, HalfRegister MOVLH and MOVHL, which are unmarked at R0L, A0 and A1 only.)
unfoldable pub form_of : Opcode → Form
form_of opcode.NOP = form.Unused
form_of opcode.ABS = form.General
form_of opcode.ADC = form.Arithmetic
form_of opcode.ADCF = form.Unused
form_of opcode.ADD = form.Sum
form_of opcode.AND = form.Arithmetic
form_of opcode.BAND = form.Bit
form_of opcode.BCLR = form.Bit
form_of opcode.BMEQ = form.FlagOrBit
form_of opcode.BMGEU = form.FlagOrBit
form_of opcode.BMGT = form.FlagOrBit
form_of opcode.BMGTU = form.FlagOrBit
form_of opcode.BMLE = form.FlagOrBit
form_of opcode.BMLEU = form.FlagOrBit
form_of opcode.BMLTU = form.FlagOrBit
form_of opcode.BMLT = form.Bit
form_of opcode.BMNO = form.Bit
form_of opcode.BMGE = form.Bit
form_of opcode.BMN = form.FlagOrBit
form_of opcode.BMNE = form.FlagOrBit
form_of opcode.BMO = form.FlagOrBit
form_of opcode.BMPZ = form.FlagOrBit
form_of opcode.BNAND = form.Bit
form_of opcode.BNOR = form.Bit
form_of opcode.BNOT = form.Bit
form_of opcode.BNTST = form.Bit
form_of opcode.BNXOR = form.Bit
form_of opcode.BOR = form.Bit
form_of opcode.BSET = form.Bit
form_of opcode.BTST = form.Bit
form_of opcode.BTSTC = form.Bit
form_of opcode.BTSTS = form.Bit
form_of opcode.BXOR = form.Bit
form_of opcode.CMP = form.Arithmetic
form_of opcode.DADC = form.Decimal
form_of opcode.DADD = form.Decimal
form_of opcode.DIV = form.GeneralOrImmediate
form_of opcode.DIVU = form.ImmediateAlone
form_of opcode.DIVX = form.ImmediateAlone
form_of opcode.DSBB = form.Decimal
form_of opcode.DSUB = form.Decimal
form_of opcode.ENTER = form.Enter
form_of opcode.EXITD = form.Plain
form_of opcode.EXTS = form.Extend
form_of opcode.FCLR = form.Unused
form_of opcode.FSET = form.Unused
form_of opcode.GE = form.Unused
form_of opcode.INT = form.Interrupt
form_of opcode.JGE = form.Jump
form_of opcode.JGT = form.Jump
form_of opcode.JLE = form.Jump
form_of opcode.JLT = form.Jump
form_of opcode.JMPI = form.Indirect
form_of opcode.JNO = form.Jump
form_of opcode.JO = form.Jump
form_of opcode.JSRI = form.Indirect
form_of opcode.LDC = form.LoadControl
form_of opcode.LDCTX = form.LoadContext
form_of opcode.LDE = form.LoadFar
form_of opcode.LDIPL = form.Unused
form_of opcode.LT = form.Unused
form_of opcode.MOV = form.Move
form_of opcode.MOVA = form.Address
form_of opcode.MOVHH = form.Half
form_of opcode.MOVHL = form.HalfRegister
form_of opcode.MOVLH = form.HalfRegister
form_of opcode.MOVLL = form.Half
form_of opcode.MUL = form.Multiply
form_of opcode.MULU = form.Unused
form_of opcode.NEG = form.General
form_of opcode.NO = form.Unused
form_of opcode.NOT = form.SizedGeneral
form_of opcode.OR = form.Arithmetic
form_of opcode.POP = form.General
form_of opcode.POPC = form.Control
form_of opcode.POPM = form.RegisterList
form_of opcode.PUSH = form.GeneralOrImmediate
form_of opcode.PUSHA = form.PushAddress
form_of opcode.PUSHC = form.Control
form_of opcode.PUSHM = form.RegisterList
form_of opcode.RMPA = form.Block
form_of opcode.ROLC = form.General
form_of opcode.RORC = form.General
form_of opcode.ROT = form.Rotate
form_of opcode.SBB = form.Arithmetic
form_of opcode.SHA = form.Shift
form_of opcode.SHL = form.Shift
form_of opcode.SMOVB = form.Block
form_of opcode.SMOVF = form.Block
form_of opcode.SSTR = form.Block
form_of opcode.STC = form.StoreControl
form_of opcode.STCTX = form.StoreContext
form_of opcode.STE = form.StoreFar
form_of opcode.SUB = form.Arithmetic
form_of opcode.TST = form.Arithmetic
form_of opcode.WAIT = form.Plain
form_of opcode.XCHG = form.Exchange
form_of opcode.XOR = form.Arithmetic

-- one thing at B, another at W, a third at no width
abbrev pub at : {A : Type 0} → Width → A → A → A → A
at B b w n = b
at W b w n = w
at None b w n = n

-- the size that goes with a width; at no width only the long shifts carry one
abbrev pub carried : Width → Size
carried w = at w size.B size.W size.L

-- the forms whose opcodes carry a size
abbrev pub carries : Form → Bool
carries form.Unused = false
carries form.General = false
carries form.SizedGeneral = true
carries form.GeneralOrImmediate = true
carries form.ImmediateAlone = true
carries form.Arithmetic = true
carries form.Sum = true
carries form.Move = true
carries form.Rotate = true
carries form.Shift = true
carries form.Decimal = false
carries form.Block = true
carries form.Bit = false
carries form.FlagOrBit = false
carries form.Enter = false
carries form.Plain = false
carries form.Extend = false
carries form.Interrupt = false
carries form.Jump = false
carries form.Indirect = false
carries form.LoadControl = false
carries form.LoadContext = false
carries form.StoreContext = false
carries form.LoadFar = false
carries form.StoreFar = false
carries form.Address = false
carries form.PushAddress = false
carries form.Half = false
carries form.HalfRegister = false
carries form.Multiply = false
carries form.Exchange = true
carries form.StoreControl = false
carries form.Control = false
carries form.RegisterList = false

-- the size of a form's rows at a width
abbrev pub size_for : Form → Width → Size
size_for f w = pick (carries f) (carried w) size.None

-- of a row's operand 0, and of its operand 1
pub record Names : Type 0 where
  pub first : List Operand
  pub second : List Operand

abbrev pub go : List Operand → List Operand → Names
go xs ys = record { first = xs; second = ys }

-- document 01's lists: General by width, an immediate by width
abbrev pub general : Width → List Operand
general w = at w byte_names word_names []

abbrev pub immediate : Width → List Operand
immediate w = at w (Imm8 ∷ []) (Imm16 ∷ []) []

-- what a shift can shift: not R1H at B, which is its count, nor R1 at W, which holds it
abbrev pub shifted : Width → List Operand → List Operand
shifted w long = at w (take 3 byte_names ++ drop 4 byte_names) (R0 ∷ drop 2 word_names) long

-- the operand beside G(n) of LDE and STE
abbrev pub far : List Operand
far = Abs20 ∷ Disp20_A0 ∷ Deref_A1A0 ∷ []

-- no operand
abbrev pub none : List Operand
none = Nothing ∷ []

-- the names that a form's rows have: where a list is empty, it has no row at that width
abbrev pub names : Form → Width → Names
names form.Unused w = go [] []
names form.General w = go (general w) none
names form.SizedGeneral w = go (general w) none
names form.GeneralOrImmediate w = go (immediate w ++ general w) none
names form.ImmediateAlone w = go (immediate w) none
names form.Arithmetic w = go (immediate w ++ general w) (general w)
names form.Sum w = go (immediate w ++ general w) (SP ∷ general w)
names form.Move w = go (Disp8_SP ∷ (immediate w ++ general w)) (general w)
names form.Rotate w = go (R1H ∷ []) (shifted w [])
names form.Shift w = go (at w (R1H ∷ []) (R1H ∷ []) (R1H ∷ Imm4 ∷ [])) (shifted w (R2R0 ∷ R3R1 ∷ []))
names form.Decimal w = go (at w (Imm8 ∷ R0H ∷ []) (Imm16 ∷ R1 ∷ []) []) (at w (R0L ∷ []) (R0 ∷ []) [])
names form.Block w = go (at w none none []) none
names form.Bit w = go (at w [] [] bit_names) none
names form.FlagOrBit w = go (at w [] none bit_names) none
names form.Enter w = go (at w (Imm8 ∷ []) [] []) none
names form.Plain w = go (at w [] none []) none
names form.Extend w = go (at w (R0 ∷ R0L ∷ R1L ∷ drop 6 byte_names) [] []) none
names form.Interrupt w = go (at w [] [] (Imm8 ∷ [])) none
names form.Jump w = go (at w [] (Disp8 ∷ []) []) none
names form.Indirect w = go (at w [] (R2R0 ∷ R3R1 ∷ A1A0 ∷ Disp20_A0 ∷ Disp20_A1 ∷ (take 6 (drop 6 word_names) ++ drop 14 word_names)) []) none
names form.LoadControl w = go (at w [] [] (Imm16 ∷ [])) control_names
names form.LoadContext w = go (at w (Abs16 ∷ []) [] []) (Abs20 ∷ [])
names form.StoreContext w = go (at w [] (Abs16 ∷ []) []) (Abs20 ∷ [])
names form.LoadFar w = go far (general w)
names form.StoreFar w = go (general w) far
names form.Address w = go (at w [] [] (drop 8 word_names)) (take 6 word_names)
names form.PushAddress w = go (at w [] (drop 8 word_names) []) none
names form.Half w = go (at w byte_names [] []) byte_names
names form.HalfRegister w = go (at w (R0L ∷ A0 ∷ A1 ∷ []) [] []) (R0L ∷ A0 ∷ A1 ∷ [])
names form.Multiply w = go (general w) (at w (R0L ∷ R1L ∷ A0 ∷ drop 6 byte_names) (R0 ∷ R1 ∷ A0 ∷ drop 6 word_names) [])
names form.Exchange w = go (take 4 (general w)) (general w)
names form.StoreControl w = go (at w [] word_names []) control_names
names form.Control w = go (at w [] [] control_names) none
names form.RegisterList w = go (at w [] [] (RegList ∷ [])) none

abbrev pub is_empty : List Operand → Bool
is_empty [] = true
is_empty (x ∷ xs) = false

abbrev pub rowless : Form → Width → Bool
rowless f w = either (is_empty (names f w).first) (is_empty (names f w).second)

-- the forms by their numbers: those that have rows at no width come first, so that a table of these alone finds them
abbrev pub forms : List Form
forms =
    form.Bit ∷ form.FlagOrBit ∷ form.Shift ∷ form.Interrupt ∷ form.LoadControl ∷ form.Address ∷ form.Control ∷ form.RegisterList
    ∷ form.General ∷ form.SizedGeneral ∷ form.GeneralOrImmediate ∷ form.ImmediateAlone ∷ form.Arithmetic ∷ form.Sum ∷ form.Move
    ∷ form.Rotate ∷ form.Decimal ∷ form.Block ∷ form.Enter ∷ form.Plain ∷ form.Extend ∷ form.Jump ∷ form.Indirect ∷ form.LoadContext
    ∷ form.StoreContext ∷ form.LoadFar ∷ form.StoreFar ∷ form.PushAddress ∷ form.Half ∷ form.HalfRegister ∷ form.Multiply
    ∷ form.Exchange ∷ form.StoreControl ∷ form.Unused
    ∷ []

-- (past the end Unused, which has no row)
abbrev pub form_at : ℕ → Form
form_at n = get_or forms n form.Unused

-- how many numbers a name has that is part of the code at no width
abbrev pub number_limit : Operand → ℕ
number_limit o = pick (same_name o Imm4) 16 (pick (same_name o RegList) 256 64)

-- what is asked for has the size and the names of its opcode's form
unfoldable pub goes_with : Form → Asked → Bool
goes_with f q =
    both (eqb (size_no q.size) (size_no (size_for f q.width)))
    (both (both (among (names f q.width).first q.op0) (among (names f q.width).second q.op1)) (at q.width true true (ltb q.number (number_limit q.op0))))
