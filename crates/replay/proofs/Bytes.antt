-- Bytes read one by one, each by a call with its number, are those of the text.
-- Assumes nothing.
use Rattle.std.proofs.Common.{◌≡◌, ℕ, zero, suc, ◌+◌, ◌*◌, List, ◌∷◌, length, drop, refl, ap, ap₂, ◌∙◌, arith}
use Rattle.std.proofs.lemmas.List.{drop_more, drop_all}
use Rattle.std.specs.Array.{IsFromFnResultFrom}
use Rattle.std.specs.Fn.{Called}
use Rattle.replay.specs.Hex.{byte_at, bytes_at}
use denote.Param.Members.{Mut}

module _ {F : Type 0} (g : Mut F (ℕ × Unit {0}) ℕ) (s : List ℕ) (at : ℕ) (f : F) (told : (k b : ℕ) (q : F) → Called g f (k, tt) b q → (q ≡ f) × (b ≡ byte_at s (at + 2 * k))) where
  from : (n k : ℕ) (p : F) (out : List ℕ) → p ≡ f → length out ≡ k + n → IsFromFnResultFrom g p out k n → drop k out ≡ bytes_at n s (at + 2 * k)
  from zero k p out e long calls = drop_all k out (omega arith)
  from (suc n) k p out e long calls =
      let here = told k calls.1 calls.0 (rw e at calls.3) in
      let further : at + 2 * (k + 1) ≡ at + 2 * k + 2 = omega arith in
      drop_more out k 0 (omega arith) ∙ ap₂ (λ b rest. b ∷ rest) (calls.2.1 0 ∙ here.1) (from n (k + 1) calls.0 out here.0 (omega arith) calls.4 ∙ ap (bytes_at n s) further)

  pub read : (n : ℕ) (out : List ℕ) → length out ≡ n → IsFromFnResultFrom g f out 0 n → out ≡ bytes_at n s at
  read n out long calls = let here : at + 2 * 0 ≡ at = omega arith in from n 0 f out refl (omega arith) calls ∙ ap (bytes_at n s) here
