-- `encode_choice::forms::goes_with` meets its contract: at the width that an arm is told.
-- Assumes nothing.
use Prim.Native.Nat.{ℕ}
use mathlib.Core.Path.{◌≡◌, sym, ap, subst, ◌∙◌}
use mathlib.Core.Bool.{Bool, true, false}
use lib.Dec.{ltb}
use Rattle.laws.specs.Choice.{both}
use Rattle.record.specs.declared.Opcode.{Opcode}
use Rattle.record.specs.declared.Width.{Width}
use Rattle.encode_choice.specs.declared.Asked.{Asked}
use Rattle.encode_choice.specs.declared.name_sets.Form.{Form}
use Rattle.encode_choice.specs.steps.Forms.{at, form_of, number_limit, goes_with}
use Rattle.encode_choice.specs.steps.NameSet.{AreSets, all_in}
use Rattle.encode_rules.proofs.Bools.{both_last}
use Rattle.encode_choice.proofs.SetBits.{sized, named, in_sets}
use Rattle.encode_choice.proofs.forms.goes_with.Goals as goal

-- whether the number goes, at a width
abbrev numbered : Asked → Width → Bool
numbered q w = at w true true (ltb q.number (number_limit q.op0))

joined : (a b c d : Bool) → both a b ≡ d → both d c ≡ both a (both b c)
joined true b c d e = ap (λ d. both d c) (sym e)
joined false b c d e = ap (λ d. both d c) (sym e)

told : (o : Opcode) (q : Asked) {f : Form} {w : Width} {m n : ℕ} {b : Bool} → f ≡ form_of o → q.width ≡ w → AreSets m n f w
    → b ≡ both (all_in m n q) (numbered q w) → b ≡ goes_with (form_of o) q
unfolding goes_with
told o q {f} {w} {m} {n} {b} i e h g =
    let at-form : AreSets m n (form_of o) w = subst (λ f. AreSets m n f w) i h in
    let sets : AreSets m n (form_of o) q.width = subst (λ w. AreSets m n (form_of o) w) (sym e) at-form in
    g ∙ ap (λ w. both (all_in m n q) (numbered q w)) (sym e) ∙ joined (sized o q) (named o q) (numbered q q.width) (all_in m n q) (sym (in_sets o q sets))

pub returns-in-B : goal.returns-in-B
returns-in-B c = told c.args.o c.args.q c.form_of-form.ensures c.in-B.is c.at_b.ensures (c.all_in.ensures ∙ sym (both_last _))

pub returns-in-W : goal.returns-in-W
returns-in-W c = told c.args.o c.args.q c.form_of-form.ensures c.in-W.is c.at_w.ensures (c.all_in-in-W.ensures ∙ sym (both_last _))

pub returns-in-None : goal.returns-in-None
returns-in-None c = told c.args.o c.args.q c.form_of-form.ensures c.in-None.is c.at_none.ensures c.none_goes.ensures
