-- A line is right if the encoder did what it says, and only then.
-- Assumes nothing.
use Rattle.std.proofs.Common.{◌≡◌, ℕ, Bool, eqb, ◌&&◌, List, replicate, bytes_eq, ap, subst}
use Rattle.std.proofs.lemmas.Bool.Decides.{Decides-and, Decides-eqb, Decides-like}
use Rattle.std.proofs.lemmas.Slice.Eq.{bytes_eq-Decides}
use Rattle.by_manual.specs.Table.{table_by}
use Rattle.encode_rules.specs.Written.{outcome}
use Rattle.m16c_encode.specs.Numbers.{EncodesNumbers}
use Rattle.m16c_encode.proofs.Outcomes.{encodes_numbers_once}
use Rattle.replay.specs.Encoding.{record_in, outcome_in, Right}
use Rattle.replay.specs.Hex.{digit_at, bytes_at}
use Rattle.replay.specs.Verdict.{Tells}

module _ (manual : Bool) (s : List ℕ) {ns buffer : List ℕ} {refusal length : ℕ} (read : ns ≡ record_in s) (done : EncodesNumbers (table_by manual) ns (replicate 7 0) 0 (outcome refusal length buffer)) where
  here : EncodesNumbers (table_by manual) (record_in s) (replicate 7 0) 0 (outcome refusal length buffer)
  here = subst (λ x. EncodesNumbers (table_by manual) x (replicate 7 0) 0 (outcome refusal length buffer)) read done

  right : ((refusal ≡ digit_at s 30) × (length ≡ digit_at s 32)) × (buffer ≡ bytes_at 7 s 34) → Right manual s
  right e = let same : outcome refusal length buffer ≡ outcome_in s = cc in subst (EncodesNumbers (table_by manual) (record_in s) (replicate 7 0) 0) same here

  said : Right manual s → ((refusal ≡ digit_at s 30) × (length ≡ digit_at s 32)) × (buffer ≡ bytes_at 7 s 34)
  said h =
      let once = encodes_numbers_once (table_by manual) (record_in s) (replicate 7 0) 0 (outcome refusal length buffer) (outcome_in s) here h in
      ((ap (λ o. o.no) once, ap (λ o. o.length) once), ap (λ o. o.buffer) once)

  pub told : {r n : ℕ} {bs : List ℕ} → r ≡ digit_at s 30 → n ≡ digit_at s 32 → bs ≡ bytes_at 7 s 34 → Tells ((eqb refusal r && eqb length n) && bytes_eq buffer bs) (Right manual s)
  told e f g =
      rw (e, f, g)
      (Decides-like _ right said (Decides-and _ _ (Decides-and _ _ (Decides-eqb refusal (digit_at s 30)) (Decides-eqb length (digit_at s 32))) (bytes_eq-Decides buffer (bytes_at 7 s 34))))
