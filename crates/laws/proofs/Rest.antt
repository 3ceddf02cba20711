-- What is left of a list from a place on, as code passes it on, and the list once that was given back.
-- Assumes nothing.
use Prim.Native.Nat.{ℕ, ◌-◌, ◌≤◌}
use mathlib.Core.Path.{◌≡◌, sym, ap, ◌∙◌}
use mathlib.Core.List.{List, ◌++◌, append-nil}
use lib.ListN.{length, take, drop, length-drop}
use lib.Seq.{drop-length, take-length}
use borrow.Rule.Slice.PartMut.{put_mid, Post-is}

module _ (k : ℕ) (l : List ℕ) where
  pub rest : take (length l - k) (drop k l) ≡ drop k l
  rest = ap (λ n. take n (drop k l)) (sym (length-drop k l)) ∙ take-length (drop k l)

  pub given_back : k ≤ length l → (ys : List ℕ) → put_mid k (length l - k) l ys ≡ take k l ++ ys
  given_back h ys = ap (λ z. take k l ++ (ys ++ z)) (Post-is k (length l) l h ∙ drop-length l) ∙ ap (λ z. take k l ++ z) (append-nil ys)
