-- The last arm of a lookup by number: no form behind those that have an arm has a row.
-- Assumes nothing.
use Prim.Native.Nat.{ℕ, ◌<◌}
use mathlib.Core.Path.{◌≡◌, sym, ap, ◌∙◌}
use mathlib.Core.Bool.{true}
use mathlib.Core.List.{List}
use lib.ListN.{length}
use Rattle.laws.specs.Choice.{pick}
use Rattle.laws.proofs.Agree.{listed, among, Rest, agree_past}
use Rattle.record.specs.declared.Width.{Width}
use Rattle.encode_choice.specs.declared.name_sets.Form.{Form}
use Rattle.encode_choice.specs.steps.Forms.{rowless, forms, form_at}
use Rattle.encode_choice.specs.steps.NameSet.{first, second, AreSets}

-- every form that is none of these has no row
pub no_rows : (w : Width) (ks : List ℕ) → listed (λ k. pick (among ks k) true (rowless (form_at k) w)) (length forms) ≡ listed (λ k. pick (among ks k) true true) (length forms)
    → {f : Form} {n : ℕ} → (form_at n ≡ f) × (n < length forms) → Rest ks n → AreSets 0 0 f w
no_rows w ks t {f} {n} (e, l) r =
    let z = ap (λ f. rowless f w) (sym e) ∙ agree_past ks true (λ k. rowless (form_at k) w) (λ k. true) (length forms) t n l r in
    (ap (λ b. pick b 0 (first f w)) (sym z), ap (λ b. pick b 0 (second f w)) (sym z))
