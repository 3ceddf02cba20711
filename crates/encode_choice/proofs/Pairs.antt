-- Request A7's ten pairs of first bytes: what holds of all, by the place of a pair in their list.
-- Assumes nothing.
use Prim.Native.Nat.{ℕ, suc, ◌+◌, ◌*◌, ◌/◌, ◌%◌, ◌<◌}
use mathlib.Core.Path.{◌≡◌, refl, sym, ap, subst, ◌∙◌}
use mathlib.Core.Bool.{Bool, true, false}
use mathlib.Core.List.{List, [], ◌∷◌}
use native.Mathlib.Omega.{arith}
use native.Mathlib.Nat.{add-zero}
use lib.Dec.{T, eqb, ltb}
use lib.ListN.{length, get_or}
use borrow.Author.Tests.{eqb-true, ltb-true, lt-ltb}
use Rattle.laws.specs.Choice.{pick, both}
use Rattle.laws.specs.Table.{every}
use Rattle.laws.proofs.Agree.{agree}
use Rattle.laws.proofs.Range.{each}
use Rattle.record.specs.declared.Opcode.{Opcode}
use Rattle.record.specs.declared.Opcode.TheVariants.{MOV}
use Rattle.record.specs.declared.Size.TheVariants as size
use Rattle.record.specs.declared.Width.{Width}
use Rattle.record.specs.declared.Width.TheVariants.{None, B, W}
use Rattle.record.specs.declared.Operand.{Operand}
use Rattle.record.specs.Numbers.{opcode_no}
use Rattle.record.specs.Same.{among, field_of}
use Rattle.record.proofs.Apart.{opcodes, opcodes_apart}
use Rattle.record.proofs.Arms.{every_opcode}
use Rattle.rows.specs.All.{EachFirst}
use Rattle.rows.specs.Rows.{size_of}
use Rattle.rows.specs.Pairs.{two, Pair, pairs}
use Rattle.rows.specs.Groups.{both_widths, known, rows_of, document01}
use Rattle.encode_rules.specs.steps.Direct.{Choice, there}
use Rattle.encode_choice.specs.declared.Asked.{Asked}
use Rattle.encode_choice.specs.steps.Forms.{form_of, at, carried, carries, size_for, names, general}
use Rattle.encode_choice.specs.steps.Choose.{drops_zero, word, on_field, twice, choose_by}
use Rattle.encode_rules.proofs.Bools.{so, both_true, both_so, picked}
use Rattle.encode_choice.proofs.Among.{at_among}
use Rattle.encode_choice.proofs.OrImm.{on_field_lem}
use Rattle.encode_choice.proofs.PairNames.{general_name}

-- what `get_or` asks for past the end; every place here is below 10
abbrev first : Pair
first = record { even = 0x72; opcode = MOV }

abbrev pub even : ℕ → ℕ
even k = (get_or pairs k first).even

abbrev pub opcode : ℕ → Opcode
opcode k = (get_or pairs k first).opcode

-- the widths that a pair has: only these have names of General
abbrev pub Sided : Width → Type 0
Sided w = T (at w true true false)

pub sided : (w : Width) (x : Operand) → among (general w) x ≡ true → Sided w
unfolding among
sided B x m = tt
sided W x m = tt
sided None x m = subst T (sym m) tt

-- an opcode's place, 10 if no pair has it
abbrev seat : List Pair → Opcode → ℕ
seat [] o = 0
seat (p ∷ ps) o = pick (eqb (opcode_no o) (opcode_no p.opcode)) 0 (suc (seat ps o))

unfoldable pub paired : Opcode → Bool
paired o = ltb (seat pairs o) 10

found : Opcode → Bool
found o = pick (paired o) (eqb (opcode_no (opcode (seat pairs o))) (opcode_no o)) true

all_found : T (every (λ i o. found o) 0 opcodes)
unfolding found paired
all_found = tt

-- what is shown at each place is shown of each opcode that has one
pub at_opcode : (P : Opcode → Type 0) → ((k : ℕ) → k < 10 → P (opcode k)) → (o : Opcode) → paired o ≡ true → P o
unfolding found paired
at_opcode P f o e =
    let t = picked (paired o) _ (every_opcode found all_found o) e in
    subst P (opcodes_apart _ _ (eqb-true _ _ (so _ t))) (f (seat pairs o) (ltb-true _ _ e))

-- and, where it is shown at both widths, of each first byte
module _ (P : ℕ → Type 0) where
  at_widths : (ps : List Pair) → ((k : ℕ) → k < length ps → P (get_or ps k first).even × P ((get_or ps k first).even + 1)) → EachFirst P (both_widths ps [])
  unfolding both_widths
  at_widths [] f = tt
  at_widths (p ∷ ps) f = let x = f 0 (omega arith) in (x.0, (x.1, at_widths ps (λ k l. f (suc k) (omega arith))))

  pub at_bytes : ((k : ℕ) → k < 10 → (w : Width) → Sided w → P (even k + word w)) → EachFirst P (both_widths pairs [])
  at_bytes f = at_widths pairs (λ k l. (subst P (add-zero (even k)) (f k l B tt), f k l W tt))

-- the row is one for all
pub rows : (w : Width) → Sided w → (k : ℕ) → k < 10 → rows_of (even k + word w) ≡ two (opcode k) w
unfolding rows_of two
rows B t = agree _ _ 10 refl
rows W t = agree _ _ 10 refl
rows None t = absurd t

-- the first byte is one, and is known
bytes : (w : Width) → Sided w → (k : ℕ) → k < 10 → both (ltb (even k + word w) 256) (known (even k + word w)) ≡ true
unfolding known
bytes B t = agree _ (λ k. true) 10 refl
bytes W t = agree _ (λ k. true) 10 refl
bytes None t = absurd t

-- the opcode carries a size, and drops a displacement of 0
carrying : (k : ℕ) → k < 10 → carries (form_of (opcode k)) ≡ true
unfolding form_of
carrying = agree _ (λ k. true) 10 refl

pub dropping : (k : ℕ) → k < 10 → drops_zero (opcode k) ≡ true
unfolding drops_zero
dropping = agree _ (λ k. true) 10 refl

-- its form has the names of General for both operands
takes : Width → ℕ → Operand → Bool
takes w k x = both (among (names (form_of (opcode k)) w).first x) (among (names (form_of (opcode k)) w).second x)

taking : (w : Width) → Sided w → (k : ℕ) → k < 10 → every (λ i x. takes w k x) 0 (general w) ≡ true
unfolding takes form_of among
taking B t = agree _ (λ k. true) 10 refl
taking W t = agree _ (λ k. true) 10 refl
taking None t = absurd t

own_size : (w : Width) → Sided w → {b : Bool} → b ≡ true → size_of w ≡ pick b (carried w) size.None
own_size B t e = ap (λ b. pick b size.B size.None) (sym e)
own_size W t e = ap (λ b. pick b size.W size.None) (sym e)
own_size None t e = absurd t

module _ (k : ℕ) (l : k < 10) where
  -- names of General on both sides are chosen by their codes
  pub chosen : (q : Asked) → among (general q.width) q.op0 ≡ true → among (general q.width) q.op1 ≡ true → choose_by (opcode k) q ≡ twice (even k) q
  unfolding choose_by
  chosen q m0 m1 =
      each (λ k. choose_by (opcode k) q ≡ twice (even k) q) 10
      ((((((((((tt, mov), plain _ _), plain _ _), plain _ _), plain _ _), add), plain _ _), plain _ _), plain _ _), plain _ _) k l
    where
      plain : (x y : Choice) → on_field (field_of q.op0) x y ≡ y
      plain x y = sym (on_field_lem (field_of q.op0) x y) ∙ ap (λ b. pick b x y) (general_name q.width q.op0 m0).narrow

      mov : choose_by (opcode 0) q ≡ twice (even 0) q
      mov = rw (general_name q.width q.op0 m0).no_stack (plain _ _)

      add : choose_by (opcode 5) q ≡ twice (even 5) q
      add = rw (general_name q.width q.op1 m1).no_pointer (plain _ _)

  module _ (w : Width) (t : Sided w) where
    pub size_is : size_of w ≡ size_for (form_of (opcode k)) w
    size_is = own_size w t (carrying k l)

    pub taken : (x : Operand) → among (general w) x ≡ true → (among (names (form_of (opcode k)) w).first x ≡ true) × (among (names (form_of (opcode k)) w).second x ≡ true)
    unfolding takes
    taken x m = both_true _ _ (so _ (at_among (takes w k) (general w) 0 (subst T (sym (taking w t k l)) tt) x m))

    module _ (h n : ℕ) (hl : h < 16) (nl : n < 16) where
      pub row_at_lem : document01.row_at (even k + word w) (16 * h + n) ≡ two (opcode k) w h n
      row_at_lem =
          let e : (16 * h + n) / 16 ≡ h = omega arith in
          let f : (16 * h + n) % 16 ≡ n = omega arith in
          λ i. rows w t k l i (e i) (f i)

      pub is_there : there document01 (even k + word w) (16 * h + n) ≡ true
      is_there = let p = both_true (ltb (even k + word w) 256) _ (bytes w t k l) in both_so p.0 (both_so (lt-ltb (16 * h + n) 256 (omega arith)) p.1)
