-- `encode::find` meets its contract.
-- Assumes nothing.
use mathlib.Core.Path.{◌≡◌, refl, sym, ap, ap₂, ◌∙◌}
use mathlib.Core.Bool.{Bool, true, false, not, false≢true}
use mathlib.Core.List.{◌∷◌}
use Rattle.std.specs.Prelude.{Option}
use Rattle.laws.specs.Choice.{pick}
use Rattle.record.specs.declared.Key.{Key}
use Rattle.record.specs.declared.Record.{Record}
use Rattle.record.specs.declared.Operand.TheVariants.{Nothing}
use Rattle.record.specs.Same.{key}
use Rattle.record.proofs.Equal.{equal}
use Rattle.by_manual.specs.Table.{table_by}
use Rattle.encode_rules.specs.Says.{bytes, none}
use Rattle.encode_choice.specs.declared.Asked.{Asked}
use Rattle.encode_choice.specs.steps.Choose as choice
use Rattle.encode_choice.specs.steps.Coded.{coded}
use Rattle.encode_choice.specs.declared.Code.{Code}
use Rattle.encode_added.specs.steps.Choose.{choose_by, is_whole, choice_of}
use Rattle.encode.specs.steps.Faced as faced
use Rattle.encode.specs.steps.Plan.{found_by}
use Rattle.encode.specs.steps.Slots as slots
use Rattle.encode.proofs.Taken.{coded_as, uncoded, none_taken, third}
use Rattle.encode.proofs.Readings.{follows, alone, second}
use Rattle.encode.proofs.find.Goals as goal

not_false : (b : Bool) → not b ≡ true → b ≡ false
not_false true e = absurd (false≢true e)
not_false false e = refl

not_true : (b : Bool) → not b ≡ false → b ≡ true
not_true true e = refl
not_true false e = absurd (false≢true (sym e))

-- what was chosen is the reading's choice for the record's key
module _ (r : Record) (d : Bool) {k : Key} {q : Asked} (key_is : k ≡ key r) (asked_is : q ≡ choice.asked k) where
  asked_by : q ≡ choice.asked (key r)
  asked_by = asked_is ∙ ap choice.asked key_is

  chosen_is : {x : Option Code} → x ≡ coded (choose_by d k.opcode q k.number0) → x ≡ coded (choice_of d (key r))
  chosen_is e = e ∙ ap₂ (λ k q. coded (choose_by d k.opcode q k.number0)) key_is asked_by

  whole_is : {b : Bool} → b ≡ is_whole d k.opcode q → b ≡ is_whole d r.opcode (choice.asked (key r))
  whole_is e = e ∙ ap₂ (λ k q. is_whole d k.opcode q) key_is asked_by

pub returns-then-ne : goal.returns-then-ne
returns-then-ne c =
    let d = c.args.manual in
    let r = c.args.r in
    third (table_by d) r (sym (equal r.op2 Nothing) ∙ not_false _ (sym c.ne.ensures ∙ c.if-ne.true)) (choice_of d (key r))

pub returns-in_err-code : goal.returns-in_err-code
returns-in_err-code c =
    let d = c.args.manual in
    let r = c.args.r in
    let e = sym (chosen_is r d c.key_of-k.ensures c.asked-q.ensures c.choose-chosen.ensures.0) ∙ c.in_err-code.was in
    ap found_by c.from_residual.ensures ∙ none_taken (table_by d) (uncoded (choice_of d (key r)) e) (key r)

pub overflow_cast-b : goal.overflow_cast-b
overflow_cast-b c =
    let d = c.args.manual in
    let r = c.args.r in
    let op2 = sym (equal r.op2 Nothing) ∙ not_true _ (sym c.ne.ensures ∙ c.if-ne.false) in
    let x = coded_as (choice_of d (key r)) (sym (chosen_is r d c.key_of-k.ensures c.asked-q.ensures c.choose-chosen.ensures.0) ∙ c.in_ok-code.was) in
    record { fits = second r op2 _ _ d x }

pub returns-then-chosen : goal.returns-then-chosen
returns-then-chosen c =
    let d = c.args.manual in
    let r = c.args.r in
    let op2 = sym (equal r.op2 Nothing) ∙ not_true _ (sym c.ne.ensures ∙ c.if-ne.false) in
    let x = coded_as (choice_of d (key r)) (sym (chosen_is r d c.key_of-k.ensures c.asked-q.ensures c.choose-chosen.ensures.0) ∙ c.in_ok-code.was) in
    let w = whole_is r d c.key_of-k.ensures c.asked-q.ensures c.choose-chosen.ensures.1 in
    (alone r op2 _ _ d x (sym w ∙ c.if-chosen.true)).1

pub returns : goal.returns
returns c =
    let d = c.args.manual in
    let r = c.args.r in
    let op2 = sym (equal r.op2 Nothing) ∙ not_true _ (sym c.ne.ensures ∙ c.if-ne.false) in
    let a = c.in_ok-code.code.first in
    let b = c.in_ok-code.code.second in
    let x = coded_as (choice_of d (key r)) (sym (chosen_is r d c.key_of-k.ensures c.asked-q.ensures c.choose-chosen.ensures.0) ∙ c.in_ok-code.was) in
    let w = whole_is r d c.key_of-k.ensures c.asked-q.ensures c.choose-chosen.ensures.1 in
    let q = asked_by r d c.key_of-k.ensures c.asked-q.ensures in
    c.plan_of.ensures
    ∙ (λ j. pick (slots.fitting (faced.face_by (q j)) (c.key_of-k.ensures j)) (bytes (a ∷ b ∷ slots.slots (faced.face_by (q j)) (faced.conditions a b) (c.key_of-k.ensures j))) none)
    ∙ (follows r op2 a b d x (sym w ∙ c.if-chosen.false)).1
