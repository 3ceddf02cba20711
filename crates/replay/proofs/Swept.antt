-- A line's image is swept, and the line is right if the sweep did what it says, and only then.
-- Assumes nothing.
use Rattle.std.proofs.Common.{◌≡◌, ℕ, ◌≤◌, List, length, replicate, refl, sym, ap, ◌∙◌, subst, arith, length-take, length-take-le}
use Rattle.record.specs.declared.refusal.Refusal.{Refusal}
use Rattle.record.specs.Answer.{number_of}
use Rattle.record.proofs.Refusals.{refused}
use Rattle.rows.specs.Groups.{document01}
use Rattle.rows.specs.Run.{decode_by}
use Rattle.sweep.specs.Step.{Step}
use Rattle.sweep.specs.Step.{End, Accepted, Refused}
use Rattle.sweep.specs.Sweep.{Sweeps, last_step, refusal_of, total, taken}
use Rattle.sweep.specs.declared.Rule.{Rule}
use Rattle.sweep.specs.Swept.{Swept, not_swept}
use Rattle.sweep.specs.Walk.{step_at, walk}
use Rattle.sweep.proofs.Answers.{walked}
use Rattle.sweep.proofs.Outcomes.{sweeps_once}
use Rattle.sweep.proofs.Took.{took}
use Rattle.sweep.proofs.Walk.{along, by_table}
use Rattle.replay.specs.Hex.{byte_at, bytes_at}
use Rattle.replay.specs.Sweeping.{image_in, swept_in, starts_in, Begins, Right}

-- a walk that stops at a refusal has read a byte
reads : (rule : Rule) (bs : List ℕ) (p : ℕ) → (refusal_of (last_step (walk (decode_by document01) rule bs p)) ≡ 0 → ⊥) → 1 ≤ total taken (walk (decode_by document01) rule bs p)
reads rule bs =
    along (by_table document01) bs rule (λ p w. (refusal_of (last_step w) ≡ 0 → ⊥) → 1 ≤ total taken w) (λ p s e o. here p s e)
    (λ p q s w u e o h z. let some = h z in omega (arith, some))
  where
    here : (p : ℕ) (s : Step) → s ≡ step_at (decode_by document01) bs p → (refusal_of s ≡ 0 → ⊥) → 1 ≤ taken s
    here p End e z = absurd (z refl)
    here p (Accepted r t) e z = absurd (z refl)
    here p (Refused x t) e z = (took document01 bs p x t e).some z

-- sixteen bytes at most are not too long, and sixteen starts are enough: no sweep is refused before it begins
pub begun_always : (rule : Rule) (s : List ℕ) {starts : List ℕ} (e : Refusal) → Sweeps document01 rule (image_in s) (replicate 16 0) (not_swept (number_of e)) starts → ⊥
begun_always rule s e h =
    let few : length (image_in s) ≤ 16 = omega (arith, length-take (byte_at s 1) (bytes_at 16 s 3)) in
    let swept = h.returned ∙ ap (λ o. o.swept) (walked document01 (image_in s) (replicate 16 0) (omega arith) few rule) in
    let some = reads rule (image_in s) 0 (λ z. refused e (ap (λ r. r.refusal) swept ∙ z)) in
    omega (arith, some, ap (λ r. r.read) swept)

-- entries that begin with these are as many
begun : {n : ℕ} {entries these : List ℕ} → Begins n entries these → n ≡ length these
begun {n} {entries} b = sym (length-take-le n entries b.enough) ∙ ap length b.same

module _ (rule : Rule) (s : List ℕ) {r : Swept} {starts : List ℕ} (done : Sweeps document01 rule (image_in s) (replicate 16 0) r starts) where
  pub right : r ≡ swept_in rule s r.count → Begins r.count starts (starts_in s) → Right rule s
  right e b =
      let many = begun b in
      record {
        after = starts;
        sweeps = subst (λ x. Sweeps document01 rule (image_in s) (replicate 16 0) x starts) (e ∙ ap (swept_in rule s) many) done;
        starts = subst (λ n. Begins n starts (starts_in s)) many b;
      }

  pub returned : Right rule s → r ≡ swept_in rule s r.count
  returned h = let once = (sweeps_once done h.sweeps).0 in once ∙ ap (swept_in rule s) (sym (ap (λ x. x.count) once))

  pub begins : Right rule s → Begins r.count starts (starts_in s)
  begins h =
      let once = sweeps_once h.sweeps done in
      subst (λ x. Begins x.count starts (starts_in s)) once.0
      (subst (λ z. Begins (length (starts_in s)) z (starts_in s)) once.1 h.starts)
