-- The numbers of a live row, as its reads have them, are those of its names: written in their order, and each with its limit.
-- Assumes nothing.
use Prim.Native.Nat.{ℕ, ◌+◌, ◌/◌, ◌%◌, ◌<◌}
use mathlib.Core.Path.{◌≡◌, refl, sym, ap, subst, ◌∙◌}
use mathlib.Core.Bool.{Bool, true, false, false≢true, not}
use mathlib.Core.List.{List, [], ◌∷◌, ◌++◌, append-nil}
use native.Mathlib.Nat.{lt_of_lt_of_le}
use lib.Dec.{T, eqb, ltb, leb}
use lib.ListN.{take}
use borrow.Author.Tests.{eq-eqb, lt-ltb, leb-true}
use Rattle.laws.specs.Choice.{pick, both, either}
use Rattle.laws.specs.Range.{upto}
use Rattle.laws.proofs.Agree.{agree}
use Rattle.laws.proofs.Choice.{both_left, both_right}
use Rattle.laws.proofs.Range.{upto_at}
use Rattle.record.specs.declared.Key.{Key}
use Rattle.record.specs.declared.Opcode.{Opcode}
use Rattle.record.specs.declared.Operand.{Operand}
use Rattle.record.specs.declared.Width.{Width}
use Rattle.record.specs.declared.Width.TheVariants.{None, B, W}
use Rattle.record.specs.declared.fields.Field.{Field}
use Rattle.record.specs.Same.{same_name, among, field_of, base_of}
use Rattle.record.proofs.Arms.{every_operand}
use Rattle.rows.specs.All.{every_first, EachFirst}
use Rattle.rows.specs.Row.{Face, Row}
use Rattle.rows.specs.Rows.{row}
use Rattle.rows.specs.Pairs.{two, pairs}
use Rattle.rows.specs.Groups.{Group, groups, both_widths, known, rows_of, document01}
use Rattle.rows.proofs.All.{each_first, tested, joined}
use Rattle.by_manual.specs.Lists.{every_changed}
use Rattle.encode_rules.specs.steps.Can.{exact, fits}
use Rattle.encode_rules.specs.steps.Digits.{digits}
use Rattle.encode_rules.specs.steps.Search.{cond_byte, disps, imms, conds, spell, live, aim}
use Rattle.encode_rules.proofs.Bools.{so, both_last, picked}
use Rattle.encode_choice.specs.steps.Coarse.{in_code, whole, whole_row}
use Rattle.encode_choice.specs.steps.Coded.{is_wide}
use Rattle.encode_choice.specs.steps.Forms.{number_limit}
use Rattle.encode_choice.specs.steps.Choose.{word}
use Rattle.encode_choice.proofs.Formed.{meant}
use Rattle.encode_choice.proofs.Pairs.{even, opcode, Sided, at_bytes, rows}
use Rattle.encode_added.proofs.Added.{kept, added, each_added}
use Rattle.encode.specs.steps.Faced.{conditions}
use Rattle.encode.specs.steps.Slots as slots
use Rattle.encode.specs.steps.Slots.{count_of, limit_of, turns, count0}
use Rattle.encode.proofs.Tagged.{Tag, tag, spell_out, hold, some, same, one_list, spell_alike, tags_by, read_tags, fit_tags, exact_tags, read_out, fits_held, exact_held}

-- the numbers as they are written; z: no condition is read
abbrev second : Face → Bool → Tag
second f z = pick z (tag (count_of f.op1) 1) (tag 1 2)

abbrev written_tags : Face → Bool → Bool → List Tag
written_tags f t z = pick t (second f z ∷ tag (count0 f) 0 ∷ []) (tag (count0 f) 0 ∷ second f z ∷ [])

written_out : (k : Key) (f : Face) (c : ℕ) → slots.slots f c k ≡ spell_out (written_tags f (turns f.op0) (eqb c 0)) k
unfolding slots.slots spell_out
written_out k f c = by (turns f.op0) (eqb c 0)
  where
    by : (t z : Bool)
        → pick t (digits (pick z (count_of f.op1) 1) (pick z k.number1 (cond_byte k.opcode)) ++ digits (count0 f) k.number0)
        (digits (count0 f) k.number0 ++ digits (pick z (count_of f.op1) 1) (pick z k.number1 (cond_byte k.opcode)))
        ≡ spell_out (written_tags f t z) k
    by true true = ap (λ xs. digits (count_of f.op1) k.number1 ++ xs) (sym (append-nil _))
    by true false = ap (λ xs. digits 1 (cond_byte k.opcode) ++ xs) (sym (append-nil _))
    by false true = ap (λ xs. digits (count0 f) k.number0 ++ xs) (sym (append-nil _))
    by false false = ap (λ xs. digits (count0 f) k.number0 ++ xs) (sym (append-nil _))

-- what each number must be below, as a row reads them, and as the names say
abbrev limit_tags : Row → List Tag
limit_tags w =
    let f = w.face in
    exact_tags (whole_row f) (limit_of f.op0) (field_of f.op0) 0 (exact_tags false 0 (field_of f.op1) 1 (fit_tags f w.reads))

abbrev limit0 : Row → Tag
limit0 w = tag (limit_of w.face.op0) 0

abbrev limit1 : Row → Tag
limit1 w = tag (limit_of w.face.op1) 1

-- a number in imm_wide is read, or part of the code
abbrev is_read : Bool → Field → ℕ → Bool
is_read part x n = pick (is_wide x) (either part (not (eqb n 0))) true

told : (part : Bool) (x : Field) (n : ℕ) → T (is_read part x n) → is_wide x ≡ true → n ≡ 0 → part ≡ true
told true x n t e z = refl
told false x n t e z = absurd (subst (λ b. T (not b)) (eq-eqb n 0 z) (picked _ _ t e))

-- for every live row
abbrev in_order : Row → ℕ → Bool
in_order w c = same (some (read_tags w.face w.reads)) (some (written_tags w.face (turns w.face.op0) (eqb c 0)))

abbrev limited : Row → Bool
limited w = either (same (limit_tags w) (limit0 w ∷ limit1 w ∷ [])) (same (limit_tags w) (limit1 w ∷ limit0 w ∷ []))

abbrev all_read : Row → Bool
all_read w = both (is_read (whole_row w.face) (field_of w.face.op0) (imms w.reads)) (is_read false (field_of w.face.op1) (imms w.reads))

-- of a row, and how many conditions it reads
pub row_named : Row → ℕ → Bool
row_named w c = pick (live w) (both (in_order w c) (both (limited w) (all_read w))) true

abbrev AllNamed : ℕ → Type 0
AllNamed a = (b : ℕ) → b < 256 → T (row_named (document01.row_at a b) (conditions a b))

-- the first bytes that are no pair of request A7
abbrev single : List Group
single = take 14 groups

all_single : T (every_first (λ a. upto (λ b. row_named (document01.row_at a b) (conditions a b)) 256) single)
unfolding upto groups row_named rows_of same some tags_by aim limit_of turns count_of same_name among disps imms field_of base_of whole
all_single = tt

-- the pairs: their row asks for no opcode here, so that one test serves all ten
all_two : (o : Opcode) (w : Width) → Sided w → T (upto (λ b. row_named (two o w (b / 16) (b % 16)) 0) 256)
unfolding upto two row row_named same some tags_by aim limit_of turns count_of same_name among disps imms field_of base_of whole
all_two o B t = tt
all_two o W t = tt
all_two o None t = absurd t

module _ (k : ℕ) (l : k < 10) (w : Width) (t : Sided w) where
  unconditional : (b : ℕ) → conditions (even k + word w) b ≡ 0
  unconditional b = ap (λ x. pick (both x (eqb (b / 16) 2)) 1 0) (no_bit w t k l)
    where
      no_bit : (w : Width) → Sided w → (k : ℕ) → k < 10 → eqb (even k + word w) 0x7E ≡ false
      no_bit B t = agree _ (λ k. false) 10 refl
      no_bit W t = agree _ (λ k. false) 10 refl
      no_bit None t = absurd t

  two_named : AllNamed (even k + word w)
  two_named b h =
      subst T (λ i. row_named (sym (rows w t k l) i (b / 16) (b % 16)) (sym (unconditional b) i)) (upto_at (λ b. row_named (two (opcode k) w (b / 16) (b % 16)) 0) 256 (all_two (opcode k) w t) b h)

named_here : (a : ℕ) → known a ≡ true → AllNamed a
unfolding groups
named_here =
    each_first AllNamed
    (joined AllNamed single (both_widths pairs [])
    (every_single single (tested (λ a. upto (λ b. row_named (document01.row_at a b) (conditions a b)) 256) single all_single)) (at_bytes AllNamed two_named))
  where
    every_single : (gs : List Group) → EachFirst (λ a. T (upto (λ b. row_named (document01.row_at a b) (conditions a b)) 256)) gs → EachFirst AllNamed gs
    every_single [] t = tt
    every_single (g ∷ gs) t = (upto_at (λ b. row_named (document01.row_at g.byte b) (conditions g.byte b)) 256 t.0, every_single gs t.1)

-- so of document 01's rows, and of the changed ones whose code goes by their names
pub document_named : (a b : ℕ) → known a ≡ true → b < 256 → T (row_named (document01.row_at a b) (conditions a b))
document_named a b e l = named_here a e b l

all_changed : T (every_changed (λ a b w. row_named (kept w) (conditions a b)))
unfolding every_changed upto row_named row same some tags_by aim limit_of turns count_of same_name among disps imms field_of base_of whole
all_changed = tt

pub added_named : (a b : ℕ) → known a ≡ true → b < 256 → T (row_named (added.row_at a b) (conditions a b))
unfolding row_named row
added_named a b e l = subst T (sym (each_added (λ a b w. row_named w (conditions a b)) (λ a b. refl) all_changed a b l)) tt

either_way : (x y : Bool) {A : Type 0} → T (either x y) → (T x → A) → (T y → A) → A
either_way true y t f g = f tt
either_way false y t f g = g t

both_turned : (a b : Bool) → both a b ≡ both b a
both_turned true true = refl
both_turned true false = refl
both_turned false true = refl
both_turned false false = refl

-- a live row that passes, with c conditions
module _ (w : Row) (c : ℕ) (named : T (row_named w c)) (v : live w ≡ true) (k : Key) where
  in_words : T (both (in_order w c) (both (limited w) (all_read w)))
  unfolding row_named
  in_words = picked _ _ named v

  -- the bytes behind a code
  pub ordered : spell w.reads (aim w.face k) ≡ slots.slots w.face c k
  ordered =
      read_out k w.face w.reads
      ∙ spell_alike (read_tags w.face w.reads) (written_tags w.face (turns w.face.op0) (eqb c 0)) (both_left (in_order w c) _ in_words) k
      ∙ sym (written_out k w.face c)

  -- each number fits where the row reads it, or is the row's own
  abbrev pub sayable : Bool
  sayable =
      both (exact (field_of w.face.op0) (imms w.reads) w.number k.number0)
      (both (exact (field_of w.face.op1) (imms w.reads) w.number k.number1) (fits w.reads (aim w.face k)))

  -- just if each is small enough, where what is part of the code is right
  pub said_if_small : meant (conds w.reads) k.opcode ≡ true → (whole_row w.face ≡ true → (w.number ≡ k.number0) × (ltb k.number0 (limit_of w.face.op0) ≡ true))
      → sayable ≡ slots.fitting w.face k
  unfolding slots.fitting hold
  said_if_small m h =
      let x0 = field_of w.face.op0 in
      let x1 = field_of w.face.op1 in
      let n = imms w.reads in
      let part = whole_row w.face in
      let rest = both_right (in_order w c) _ in_words in
      let read = both_right (limited w) _ rest in
      let x = ltb k.number0 (limit_of w.face.op0) in
      let y = ltb k.number1 (limit_of w.face.op1) in
      exact_held k (limit_of w.face.op0) 0 w.number _
      (exact_held k 0 1 w.number _ (fits_held k w.face w.reads m) false x1 n (told false x1 n (both_right (is_read part x0 n) _ read)) (λ z. absurd (false≢true z)))
      part x0 n (told part x0 n (both_left (is_read part x0 n) _ read)) h
      ∙ either_way (same (limit_tags w) (limit0 w ∷ limit1 w ∷ [])) (same (limit_tags w) (limit1 w ∷ limit0 w ∷ [])) (both_left (limited w) _ rest)
      (λ t. ap (λ ts. hold ts k) (one_list (limit_tags w) (limit0 w ∷ limit1 w ∷ []) t) ∙ ap (both x) (both_last y))
      (λ t. ap (λ ts. hold ts k) (one_list (limit_tags w) (limit1 w ∷ limit0 w ∷ []) t) ∙ ap (both y) (both_last x) ∙ both_turned y x)

-- a number that is part of a code is below its name's limit
pub part_small : (o : Operand) (v : ℕ) → in_code o ≡ true → v < number_limit o → ltb v (limit_of o) ≡ true
unfolding limit_of count_of same_name among
part_small o v e h =
    lt-ltb _ _ (lt_of_lt_of_le h (leb-true _ _ (so _ (picked _ _ (every_operand (λ o. pick (in_code o) (leb (number_limit o) (limit_of o)) true) tt o) e))))
