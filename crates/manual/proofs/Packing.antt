-- The packed number keeps all of an entry whose numbers fit their digits: two such entries with one number are one entry.
-- Assumes nothing.
use mathlib.Core.Path.{◌≡◌, refl, ap, sym, ◌∙◌}
use mathlib.Core.List.{[], ◌∷◌}
use Prim.Native.Nat.{ℕ, ◌+◌, ◌*◌, ◌/◌, ◌%◌, ◌<◌}
use native.Mathlib.Omega.{arith}
use lib.Arith.{digits_div, digits_mod}
use lib.ListN.{get_or}
use Rattle.record.specs.declared.Opcode.{Opcode}
use Rattle.record.specs.Numbers.{operand_no}
use Rattle.manual.specs.Meaning.{Suffix, none, B, W, L, A, plus, minus, Spot, nothing, plain, behind, within, carry, counter, flag, Meaning, Entry, meaning, empty}
use Rattle.manual.specs.Bits.{Condition, named, unnamed}
use Rattle.manual.specs.Packed.{suffix_no, digits, spot_no, packed, packed_condition}
use Rattle.record.proofs.At.{operand_at_lem}
use Rattle.record.proofs.Apart.{operand_at, opcodes_apart}

-- the numbers whose digits an operand's number is made of
record Parts : Type 0 where
  kind : ℕ
  name : ℕ
  start : ℕ
  count : ℕ
  number : ℕ

parts : Spot → Parts
parts nothing = record { kind = 0; name = 0; start = 0; count = 0; number = 0 }
parts (plain o) = record { kind = 1; name = operand_no o; start = 0; count = 0; number = 0 }
parts (behind o a c) = record { kind = 2; name = operand_no o; start = a; count = c; number = 0 }
parts (within o (plus k)) = record { kind = 3; name = operand_no o; start = 0; count = 0; number = k }
parts (within o (minus k)) = record { kind = 4; name = operand_no o; start = 0; count = 0; number = k }
parts carry = record { kind = 5; name = 0; start = 0; count = 0; number = 0 }
parts counter = record { kind = 6; name = 0; start = 0; count = 0; number = 0 }
parts (flag k) = record { kind = 7; name = 0; start = 0; count = 0; number = k }

sum : Parts → ℕ
sum p = digits p.kind p.name p.start p.count p.number

spot_sum : (s : Spot) → spot_no s ≡ sum (parts s)
unfolding spot_no sum parts
spot_sum nothing = refl
spot_sum (plain o) = refl
spot_sum (behind o a c) = refl
spot_sum (within o (plus k)) = refl
spot_sum (within o (minus k)) = refl
spot_sum carry = refl
spot_sum counter = refl
spot_sum (flag k) = refl

remade : ℕ → ℕ → ℕ → ℕ → ℕ → Spot
remade kind name start count number =
    get_or (nothing ∷ plain (operand_at name) ∷ behind (operand_at name) start count ∷ within (operand_at name) (plus number)
    ∷ within (operand_at name) (minus number) ∷ carry ∷ counter ∷ flag number ∷ []) kind nothing

spot_of : Parts → Spot
spot_of p = remade p.kind p.name p.start p.count p.number

spot_back : (s : Spot) → spot_of (parts s) ≡ s
unfolding spot_of remade parts
spot_back nothing = refl
spot_back (plain o) = rw (operand_at_lem o)
spot_back (behind o a c) = rw (operand_at_lem o)
spot_back (within o (plus k)) = rw (operand_at_lem o)
spot_back (within o (minus k)) = rw (operand_at_lem o)
spot_back carry = refl
spot_back counter = refl
spot_back (flag k) = refl

-- what of an operand's numbers has no room in their digits: 0 where all fit
over_parts : Parts → ℕ
over_parts p = p.kind / 10 + p.name / 100 + p.start / 10 + p.count / 10 + p.number / 1000

record Fit (p : Parts) : Type 0 where
  name : p.name < 100
  start : p.start < 10
  count : p.count < 10
  number : p.number < 1000
  whole : sum p < 100_000_000

fit : (p : Parts) → over_parts p ≡ 0 → Fit p
unfolding over_parts sum digits
fit p h = omega arith

-- the last digits of a number, and what stands before them
last : (m : ℕ) {q r q' r' : ℕ} → r < m → r' < m → q * m + r ≡ q' * m + r' → (q ≡ q') × (r ≡ r')
last m {q} {r} {q'} {r'} h h' e = (
  sym (digits_div q h) ∙ ap (λ (n : ℕ). n / m) e ∙ digits_div q' h',
  sym (digits_mod q h) ∙ ap (λ (n : ℕ). n % m) e ∙ digits_mod q' h',
)

same_parts : (p q : Parts) → Fit p → Fit q → sum p ≡ sum q → spot_of p ≡ spot_of q
unfolding sum digits spot_of
same_parts p q f g e =
    let number = last 1000 f.number g.number e in
    let count = last 10 f.count g.count number.0 in
    let start = last 10 f.start g.start count.0 in
    let name = last 100 f.name g.name start.0 in
    cc

same_spot : (s t : Spot) → Fit (parts s) → Fit (parts t) → spot_no s ≡ spot_no t → s ≡ t
same_spot s t f g e = sym (spot_back s) ∙ same_parts (parts s) (parts t) f g (sym (spot_sum s) ∙ e ∙ spot_sum t) ∙ spot_back t

suffix_of : ℕ → Suffix
suffix_of n = get_or (none ∷ B ∷ W ∷ L ∷ A ∷ []) n none

suffix_back : (s : Suffix) → suffix_of (suffix_no s) ≡ s
unfolding suffix_of suffix_no
suffix_back none = refl
suffix_back B = refl
suffix_back W = refl
suffix_back L = refl
suffix_back A = refl

-- what of an entry's numbers has no room in their digits: 0 where all fit. (The mnemonic comes first, so it has room.)
unfoldable pub over : Entry → ℕ
unfolding over_parts parts suffix_no
over (meaning m) = suffix_no m.suffix / 10 + over_parts (parts m.op0) + over_parts (parts m.op1) + m.length / 10
over empty = 0

record FitMeaning (m : Meaning) : Type 0 where
  suffix : suffix_no m.suffix < 10
  op0 : Fit (parts m.op0)
  op1 : Fit (parts m.op1)
  length : m.length < 10

fit_meaning : (m : Meaning) → over (meaning m) ≡ 0 → FitMeaning m
unfolding over
fit_meaning m h =
    record {
      suffix = omega arith;
      op0 = fit (parts m.op0) (omega arith);
      op1 = fit (parts m.op1) (omega arith);
      length = omega arith;
    }

made : Opcode → Suffix → Spot → Spot → ℕ → Entry
made o s p q l = meaning (record { mnemonic = o; suffix = s; op0 = p; op1 = q; length = l })

same_made : {o o' : Opcode} {s s' : Suffix} {p p' q q' : Spot} {l l' : ℕ} → o ≡ o' → s ≡ s' → p ≡ p' → q ≡ q' → l ≡ l' → made o s p q l ≡ made o' s' p' q' l'
same_made a b c d e = cc

same_meaning : (m n : Meaning) → FitMeaning m → FitMeaning n → packed (meaning m) ≡ packed (meaning n) → meaning m ≡ meaning n
unfolding packed made
same_meaning m n f g e =
    let length = last 10 f.length g.length e in
    let second = last 100_000_000 (rw spot_sum f.op1.whole) (rw spot_sum g.op1.whole) length.0 in
    let first = last 100_000_000 (rw spot_sum f.op0.whole) (rw spot_sum g.op0.whole) second.0 in
    let suffix = last 10 f.suffix g.suffix first.0 in
    same_made (opcodes_apart m.mnemonic n.mnemonic (omega (arith, suffix.0)))
    (sym (suffix_back m.suffix) ∙ ap suffix_of suffix.1 ∙ suffix_back n.suffix)
    (same_spot m.op0 n.op0 f.op0 g.op0 first.1)
    (same_spot m.op1 n.op1 f.op1 g.op1 second.1)
    length.1

-- two entries that fit and have one number are one entry
pub injective : (d e : Entry) → over d ≡ 0 → over e ≡ 0 → packed d ≡ packed e → d ≡ e
unfolding packed
injective (meaning m) (meaning n) f g e = same_meaning m n (fit_meaning m f) (fit_meaning n g) e
injective (meaning m) empty f g e = absurd (omega arith)
injective empty (meaning n) f g e = absurd (omega arith)
injective empty empty f g e = refl

pub injective_condition : (c d : Condition) → packed_condition c ≡ packed_condition d → c ≡ d
unfolding packed_condition
injective_condition (named o) (named p) e = ap named (opcodes_apart o p (omega arith))
injective_condition (named o) unnamed e = absurd (omega arith)
injective_condition unnamed (named p) e = absurd (omega arith)
injective_condition unnamed unnamed e = refl
