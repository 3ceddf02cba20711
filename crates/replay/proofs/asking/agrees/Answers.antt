-- What was asked is what the line says, so what is told is the line's refusal and number exactly if the line is right.
use Rattle.std.proofs.Common.{◌≡◌, ℕ, List, ℤ, sym, ◌∙◌, w64, to_z-of_z}
use Rattle.std.proofs.lemmas.Bool.Decides.{Decides-at, Decides-and, Decides-eqb, Decides-int_eq, Decides-like}
use Rattle.m16c_operand_number.specs.Told.{TellsNumber}
use Rattle.replay.specs.Encoding.{record_in}
use Rattle.replay.specs.Hex.{digit_at}
use Rattle.replay.proofs.Asked.{kept}
use Rattle.replay.proofs.asking.agrees.Goals as goal

here : (s : List ℕ) {ns : List ℕ} {k r : ℕ} {n : ℤ} → ns ≡ record_in s → k ≡ digit_at s 30 → TellsNumber ns k r n → TellsNumber (record_in s) (digit_at s 30) r n
here s e f t = rw (e, f) at t

pub returns : goal.returns
returns c =
    let line = c.args.line.now in
    let told = here line c.record_in-numbers.ensures (c.from-asked.ensures ∙ c.digit_at.ensures.0) c.m16c_operand_number-refusal.ensures in
    let refusal = c.from.ensures ∙ c.digit_at-2.ensures.0 in
    let left = kept line (digit_at line 30) told.left in
    let said = to_z-of_z {w = w64} (record { sfits = c.number_in.type_inv }) ∙ c.number_in.ensures in
    Decides-at _ _ c.eq.ensures
    (Decides-like _
    (λ e. record { returned = sym (e.0 ∙ refusal) ∙ told.returned; left = sym (sym left ∙ e.1 ∙ said) ∙ told.left })
    (λ h. (told.returned ∙ sym (refusal ∙ h.returned), left ∙ told.left ∙ sym (said ∙ h.left)))
    (Decides-and _ _ (Decides-eqb _ _) (Decides-int_eq _ _)))
