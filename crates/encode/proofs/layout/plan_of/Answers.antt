-- `encode::layout::plan_of` meets its contract.
-- Assumes nothing.
use Prim.Native.Nat.{ℕ}
use mathlib.Core.Path.{◌≡◌, refl, sym, ap, ap₂, ◌∙◌}
use mathlib.Core.Bool.{Bool, true, false, ◌&&◌}
use mathlib.Core.List.{◌∷◌, ◌++◌}
use lib.Dec.{eqb, ltb}
use Rattle.laws.specs.Choice.{pick, both}
use Rattle.record.specs.declared.Key.{Key}
use Rattle.encode_rules.specs.Says.{Found, bytes, none}
use Rattle.encode_rules.specs.steps.Digits.{digits}
use Rattle.encode_choice.specs.declared.Asked.{Asked}
use Rattle.encode_choice.specs.steps.Coarse.{whole_row}
use Rattle.encode.specs.steps.Faced as faced
use Rattle.encode.specs.steps.Faced.{face_by}
use Rattle.encode.specs.steps.Slots as slots
use Rattle.encode.proofs.layout.plan_of.Goals as goal

and_both : (a b : Bool) → both a b ≡ (a && b)
and_both true b = refl
and_both false b = refl

-- the test of both numbers
fit : (q : Asked) (k : Key) {l m : ℕ} {b : Bool} → l ≡ slots.limit_of q.op0 → m ≡ slots.limit_of q.op1
    → (ltb k.number0 l && ltb k.number1 m) ≡ b → slots.fitting (face_by q) k ≡ b
unfolding slots.fitting
fit q k {l} {m} x y e = sym (ap₂ both (ap (ltb k.number0) x) (ap (ltb k.number1) y)) ∙ and_both (ltb k.number0 l) (ltb k.number1 m) ∙ e

-- what is found, as the numbers fit or not
abbrev told : (a b : ℕ) (q : Asked) (k : Key) → Bool → Found
told a b q k fits = pick fits (bytes (a ∷ b ∷ slots.slots (face_by q) (faced.conditions a b) k)) none

pub returns-then-k-slot0 : goal.returns-then-k-slot0
unfolding slots.slots
returns-then-k-slot0 c =
    let a = c.args.a in
    let b = c.args.b in
    let k = c.args.k in
    let q = c.args.q in
    let n = c.number0-n.ensures.0 ∙ ap (pick (whole_row (face_by q)) 0) c.slot_of-slot0.ensures.0 in
    let v = c.number0-n.ensures.1 in
    let m = c.number1-m.ensures.0 ∙ ap (λ n. pick (eqb (faced.conditions a b) 0) n 1) c.slot_of-slot1.ensures.0 in
    let w = c.number1-m.ensures.1 in
    ap bytes
    (c.in_order.ensures ∙ (λ j. a ∷ b ∷ pick (c.turns.ensures j) (digits (m j) (w j) ++ digits (n j) (v j)) (digits (n j) (v j) ++ digits (m j) (w j))))
    ∙ ap (told a b q k) (sym (fit q k c.slot_of-slot0.ensures.1 c.slot_of-slot1.ensures.1 c.if-k-slot0.true))

pub returns : goal.returns
returns c = ap (told c.args.a c.args.b c.args.q c.args.k) (sym (fit c.args.q c.args.k c.slot_of-slot0.ensures.1 c.slot_of-slot1.ensures.1 c.if-k-slot0.false))
