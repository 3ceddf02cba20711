-- The row at a code that is chosen by the names of changed rows is one of them, and has these names.
-- Assumes nothing.
use Prim.Native.Nat.{ℕ, ◌<◌}
use mathlib.Core.Path.{◌≡◌, refl, sym, subst, ◌∙◌}
use mathlib.Core.Bool.{Bool, true, false, false≢true, not}
use lib.Dec.{T}
use borrow.Author.Tests.{eqb-true, ltb-true}
use Rattle.laws.specs.Choice.{pick, both}
use Rattle.laws.specs.Table.{every}
use Rattle.laws.proofs.Choice.{both_left, both_right}
use Rattle.record.specs.declared.Opcode.{Opcode}
use Rattle.record.specs.declared.Width.{Width}
use Rattle.record.specs.declared.Width.TheVariants.{None, B, W}
use Rattle.record.specs.declared.Operand.{Operand}
use Rattle.record.specs.Same.{same_name, among, field_of, base_of}
use Rattle.record.proofs.Apart.{opcodes, sizes_apart}
use Rattle.record.proofs.Arms.{every_opcode}
use Rattle.rows.specs.Codes.{cond_of}
use Rattle.rows.specs.Rows.{row}
use Rattle.rows.specs.Groups.{known}
use Rattle.by_manual.specs.Changed.{change_at}
use Rattle.encode_rules.specs.steps.Search.{cond_byte, imms, conds}
use Rattle.encode_rules.specs.steps.Direct.{code}
use Rattle.encode_rules.proofs.Bools.{so, both_true}
use Rattle.encode_choice.specs.declared.Asked.{Asked}
use Rattle.encode_choice.specs.steps.Choose.{place}
use Rattle.encode_choice.specs.steps.Coarse.{whole}
use Rattle.encode_choice.specs.steps.Forms.{number_limit}
use Rattle.encode_choice.proofs.Among.{at_among}
use Rattle.encode_choice.proofs.Formed.{has_at, Formed, from_test}
use Rattle.encode_added.specs.steps.Entries.{Codes, named, below8, nibble, entry_of, names_of, size_of, goes_as, goes}
use Rattle.encode_added.specs.steps.Choose.{code_by, is_numbered}
use Rattle.encode_added.proofs.Added.{added, by_names}

abbrev ask : Opcode → Width → Operand → Operand → Asked
ask o w x y = record { size = size_of o w; width = w; op0 = x; op1 = y; number = 0 }

-- and no number is part of the code
abbrev names_test : Width → Opcode → Operand → Operand → Bool
names_test w o x y = pick (is_numbered (entry_of o).codes) true (both (not (whole w x)) (has_at added (by_names (entry_of o).codes (ask o w x y)) o (ask o w x y)))

entry_test : Width → Opcode → Bool
entry_test w o = every (λ i x. every (λ j y. names_test w o x y) 0 (names_of o w).second) 0 (names_of o w).first

all_tested : (w : Width) → T (every (λ i o. entry_test w o) 0 opcodes)
unfolding entry_test entry_of change_at known row place same_name among cond_of cond_byte imms conds field_of base_of whole
all_tested B = tt
all_tested W = tt
all_tested None = tt

by_names_lem : (c : Codes) (q : Asked) (n : ℕ) → is_numbered c ≡ false → code_by c q n ≡ by_names c q
by_names_lem (named f) q n e = refl
by_names_lem (below8 a b step) q n e = absurd (false≢true (sym e))
by_names_lem nibble q n e = absurd (false≢true (sym e))

unless : (b c : Bool) → b ≡ false → T (pick b true c) → T c
unless false c e t = t
unless true c e t = absurd (false≢true (sym e))

is_not : (b : Bool) → T (not b) → b ≡ false
is_not false t = refl
is_not true t = absurd t

pub formed_added : (o : Opcode) (q : Asked) (n a b : ℕ) → goes o q ≡ true → is_numbered (entry_of o).codes ≡ false → (whole q.width q.op0 ≡ false → q.number ≡ 0)
    → code_by (entry_of o).codes q n ≡ code a b → Formed added a b o q
unfolding goes_as entry_test
formed_added o q n a b g m z e =
    let w = q.width in
    let x = both_true (among (names_of o w).first q.op0) _ g in
    let y = both_true (among (names_of o w).second q.op1) _ x.1 in
    let t0 = at_among _ (names_of o w).first 0 (every_opcode (entry_test w) (all_tested w) o) q.op0 x.0 in
    let t1 = unless (is_numbered (entry_of o).codes) _ m (at_among _ (names_of o w).second 0 t0 q.op1 y.0) in
    let free : whole w q.op0 ≡ false = is_not (whole w q.op0) (both_left (not (whole w q.op0)) _ t1) in
    let size : q.size ≡ size_of o w = sizes_apart _ _ (eqb-true _ _ y.1) in
    let same : ask o w q.op0 q.op1 ≡ q = λ i. record { size = sym size i; width = w; op0 = q.op0; op1 = q.op1; number = sym (z free) i } in
    let has : has_at added (by_names (entry_of o).codes q) o q ≡ true = subst (λ q. has_at added (by_names (entry_of o).codes q) o q ≡ true) same (so _ (both_right (not (whole w q.op0)) _ t1)) in
    from_test added a b o q (small free) (subst (λ c. has_at added c o q ≡ true) (sym (by_names_lem (entry_of o).codes q n m) ∙ e) has)
  where
    small : whole q.width q.op0 ≡ false → q.number < pick (whole q.width q.op0) (number_limit q.op0) 1
    small f = subst (λ b. q.number < pick b (number_limit q.op0) 1) (sym f) (subst (λ v. v < 1) (sym (z f)) (ltb-true 0 1 refl))
