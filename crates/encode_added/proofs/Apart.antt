-- No names are those of a changed row and of an unmarked row of document 01.
-- Assumes nothing.
use mathlib.Core.Path.{◌≡◌, sym, subst, ◌∙◌}
use mathlib.Core.Bool.{Bool, true, not}
use mathlib.Core.List.{List}
use lib.Dec.{T, eqb}
use borrow.Author.Tests.{eqb-true, eq-eqb}
use Rattle.laws.specs.Choice.{both, either}
use Rattle.laws.specs.Table.{every}
use Rattle.laws.proofs.Choice.{one_of}
use Rattle.record.specs.declared.Opcode.{Opcode}
use Rattle.record.specs.declared.Width.{Width}
use Rattle.record.specs.declared.Width.TheVariants.{None, B, W}
use Rattle.record.specs.declared.Operand.{Operand}
use Rattle.record.specs.Numbers.{size_no}
use Rattle.record.specs.Same.{among}
use Rattle.record.proofs.Apart.{opcodes}
use Rattle.record.proofs.Arms.{every_opcode}
use Rattle.encode_rules.proofs.Bools.{both_true}
use Rattle.encode_choice.specs.declared.Asked.{Asked}
use Rattle.encode_choice.specs.steps.Forms.{form_of, names, size_for, goes_with}
use Rattle.encode_choice.proofs.Among.{at_among}
use Rattle.encode_added.specs.steps.Entries.{entry_of, names_of, size_of, goes_as, goes}

-- no name of one list is in the other
abbrev none_of : List Operand → List Operand → Bool
none_of xs ys = every (λ i x. not (among ys x)) 0 xs

-- sizes differ, or names of operand 0, or of operand 1
differ : Width → Opcode → Bool
differ w o =
    either (not (eqb (size_no (size_of o w)) (size_no (size_for (form_of o) w))))
    (either (none_of (names_of o w).first (names (form_of o) w).first) (none_of (names_of o w).second (names (form_of o) w).second))

all_differ : (w : Width) → T (every (λ i o. differ w o) 0 opcodes)
unfolding differ entry_of form_of among
all_differ B = tt
all_differ W = tt
all_differ None = tt

not_both : {b : Bool} → b ≡ true → T (not b) → ⊥
not_both e t = subst (λ b. T (not b)) e t

pub apart : (o : Opcode) (q : Asked) → goes o q ≡ true → goes_with (form_of o) q ≡ true → ⊥
unfolding goes_as goes_with differ
apart o q g h =
    let w = q.width in
    let x = both_true (among (names_of o w).first q.op0) _ g in
    let y = both_true (among (names_of o w).second q.op1) _ x.1 in
    let u = both_true (eqb (size_no q.size) (size_no (size_for (form_of o) w))) _ h in
    let v = both_true (among (names (form_of o) w).first q.op0) _ (both_true (both (among (names (form_of o) w).first q.op0) (among (names (form_of o) w).second q.op1)) _ u.1).0 in
    one_of (not (eqb (size_no (size_of o w)) (size_no (size_for (form_of o) w)))) _ (every_opcode (differ w) (all_differ w) o)
    (λ t. not_both (eq-eqb (size_no (size_of o w)) (size_no (size_for (form_of o) w)) (sym (eqb-true (size_no q.size) _ y.1) ∙ eqb-true (size_no q.size) _ u.0)) t)
    (λ t. one_of (none_of (names_of o w).first (names (form_of o) w).first) _ t
    (λ t. not_both v.0 (at_among (λ x. not (among (names (form_of o) w).first x)) (names_of o w).first 0 t q.op0 x.0))
    (λ t. not_both v.1 (at_among (λ x. not (among (names (form_of o) w).second x)) (names_of o w).second 0 t q.op1 y.0)))
