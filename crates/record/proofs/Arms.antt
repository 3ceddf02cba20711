-- What an arm of a match knows, that a name's number is one of the arm's, settles what a definition says of the name.
-- Assumes nothing.
use Prim.Native.Nat.{ℕ, zero, suc}
use mathlib.Core.Path.{◌≡◌, refl, subst}
use mathlib.Core.Bool.{Bool, true, false}
use mathlib.Core.List.{List, [], ◌∷◌}
use mathlib.Core.Logic.{inl, inr}
use native.Mathlib.Omega.{arith}
use lib.Dec.{T, eqb}
use lib.ListN.{length, get_or, drop}
use types.Run.{OneOf}
use denote.Enum.Declared.{tag_of}
use borrow.Author.Tests.{eqb-true, eq-eqb}
use Rattle.laws.specs.Choice.{pick}
use Rattle.laws.specs.Table.{every}
use Rattle.laws.proofs.Choice.{both_left, both_right}
use Rattle.record.specs.declared.Opcode.{Opcode}
use Rattle.record.specs.declared.Opcode.TheVariants.{NOP}
use Rattle.record.specs.declared.Size.{Size}
use Rattle.record.specs.declared.Size.TheVariants as size
use Rattle.record.specs.declared.Width.{Width}
use Rattle.record.specs.declared.Width.TheVariants as width
use Rattle.record.specs.declared.Operand.{Operand}
use Rattle.record.specs.declared.Operand.TheVariants.{Nothing}
use Rattle.record.specs.Numbers.{opcode_no, size_no, width_no, operand_no}
use Rattle.record.specs.Names.{opcodes, sizes, widths, operands}
use Rattle.record.specs.contracts.Opcode as opcode
use Rattle.record.specs.contracts.Operand.{the_type}
use Rattle.record.proofs.At.{opcode_at_lem, size_at_lem, width_at_lem, operand_at_lem}
use Rattle.record.proofs.Apart.{operands_apart}

-- one of some numbers, as a test
abbrev pub has : List ℕ → ℕ → Bool
has [] x = false
has (k ∷ ks) x = pick (eqb x k) true (has ks x)

-- the numbers of an arm's names
abbrev pub keys : List Operand → List ℕ
keys [] = []
keys (o ∷ os) = operand_no o ∷ keys os

abbrev pub opcode_keys : List Opcode → List ℕ
opcode_keys [] = []
opcode_keys (o ∷ os) = opcode_no o ∷ opcode_keys os

-- and those that are left for the last arm: of n numbers from i on, without some
abbrev pub without : List ℕ → ℕ → ℕ → List ℕ
without ks zero i = []
without ks (suc n) i = pick (has ks i) (without ks n (suc i)) (i ∷ without ks n (suc i))

abbrev pub others : List Operand → List ℕ
others ns = without (keys ns) (length operands) 0

abbrev pub other_opcodes : List Opcode → List ℕ
other_opcodes ns = without (opcode_keys ns) (length opcodes) 0

has_first : (k x : ℕ) (ks : List ℕ) → x ≡ k → has (k ∷ ks) x ≡ true
has_first k x ks e = rw (eq-eqb x k e) refl

has_more : (k x : ℕ) (ks : List ℕ) → has ks x ≡ true → has (k ∷ ks) x ≡ true
has_more k x ks h = by (eqb x k)
  where
    by : (b : Bool) → pick b true (has ks x) ≡ true
    by true = refl
    by false = h

one_has : (ks : List ℕ) (x : ℕ) → OneOf ks x → has ks x ≡ true
one_has [] x h = absurd h
one_has (k ∷ []) x h = has_first k x [] h
one_has (k ∷ j ∷ ks) x (inl e) = has_first k x (j ∷ ks) e
one_has (k ∷ j ∷ ks) x (inr h) = has_more k x (j ∷ ks) (one_has (j ∷ ks) x h)

-- a test at every name is a law for each
module _ {E : Type 0} (f : E → Bool) (d : E) where
  at_any : (es : List E) (i : ℕ) → T (f d) → T (every (λ i e. f e) i es) → (k : ℕ) → T (f (get_or es k d))
  at_any [] i u t k = u
  at_any (e ∷ es) i u t zero = both_left (f e) (every (λ i e. f e) (suc i) es) t
  at_any (e ∷ es) i u t (suc k) = at_any es (suc i) u (both_right (f e) (every (λ i e. f e) (suc i) es) t) k

every_name : {E : Type 0} (number : E → ℕ) (d : E) (ds : List E) → ((e : E) → get_or (d ∷ ds) (number e) d ≡ e)
    → (f : E → Bool) → T (every (λ i e. f e) 0 (d ∷ ds)) → (e : E) → T (f e)
every_name number d ds found f t e = subst (λ e. T (f e)) (found e) (at_any f d (d ∷ ds) 0 (both_left (f d) _ t) t (number e))

pub every_operand : (f : Operand → Bool) → T (every (λ i o. f o) 0 operands) → (o : Operand) → T (f o)
every_operand = every_name operand_no Nothing (drop 1 operands) operand_at_lem

pub every_opcode : (f : Opcode → Bool) → T (every (λ i o. f o) 0 opcodes) → (o : Opcode) → T (f o)
every_opcode = every_name opcode_no NOP (drop 1 opcodes) opcode_at_lem

pub every_size : (f : Size → Bool) → T (every (λ i s. f s) 0 sizes) → (s : Size) → T (f s)
every_size = every_name size_no size.None (drop 1 sizes) size_at_lem

pub every_width : (f : Width → Bool) → T (every (λ i w. f w) 0 widths) → (w : Width) → T (f w)
every_width = every_name width_no width.None (drop 1 widths) width_at_lem

yes : (x : Bool) → T x → x ≡ true
yes true t = refl
yes false t = absurd t

asked : (b x : Bool) → b ≡ true → T (pick b x true) → x ≡ true
asked b x e t = yes x (subst (λ b. T (pick b x true)) e t)

-- what an arm of these numbers returns is what the definition says, if it is at each of the arm's names
module _ {A : Type 0} (no : A → ℕ) (apart : (a b : A) → no a ≡ no b → a ≡ b) (g f : Operand → A) (ks : List ℕ) where
  abbrev pub agreed : Operand → Bool
  agreed o = pick (has ks (tag_of the_type o)) (eqb (no (g o)) (no (f o))) true

  pub in_arm : T (every (λ i o. agreed o) 0 operands) → (o : Operand) → OneOf ks (tag_of the_type o) → g o ≡ f o
  in_arm t o h = apart (g o) (f o) (eqb-true _ _ (asked _ _ (one_has ks (tag_of the_type o) h) (every_operand agreed t o)))

pub numbered : (g f : Operand → ℕ) (ks : List ℕ) → T (every (λ i o. agreed (λ n. n) (λ a b e. e) g f ks o) 0 operands) → (o : Operand) → OneOf ks (tag_of the_type o) → g o ≡ f o
numbered = in_arm (λ n. n) (λ a b e. e)

pub named : (g f : Operand → Operand) (ks : List ℕ) → T (every (λ i o. agreed operand_no operands_apart g f ks o) 0 operands) → (o : Operand) → OneOf ks (tag_of the_type o) → g o ≡ f o
named = in_arm operand_no operands_apart

abbrev pub bit : Bool → ℕ
bit b = pick b 1 0

pub bits_apart : (a b : Bool) → bit a ≡ bit b → a ≡ b
bits_apart true true e = refl
bits_apart true false e = let z : ⊥ = omega (arith, e) in absurd z
bits_apart false true e = let z : ⊥ = omega (arith, e) in absurd z
bits_apart false false e = refl

pub tested : (g f : Operand → Bool) (ks : List ℕ) → T (every (λ i o. agreed bit bits_apart g f ks o) 0 operands) → (o : Operand) → OneOf ks (tag_of the_type o) → g o ≡ f o
tested = in_arm bit bits_apart

-- a test that passes at the opcodes of an arm
pub of_opcodes : (f : Opcode → Bool) (ks : List ℕ) → T (every (λ i o. pick (has ks (tag_of opcode.the_type o)) (f o) true) 0 opcodes) → (o : Opcode) → OneOf ks (tag_of opcode.the_type o) → f o ≡ true
of_opcodes f ks t o h = asked _ _ (one_has ks (tag_of opcode.the_type o) h) (every_opcode (λ o. pick (has ks (tag_of opcode.the_type o)) (f o) true) t o)
