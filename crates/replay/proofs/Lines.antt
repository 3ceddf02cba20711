-- A text cut into lines, each taken off what is left of it.
-- Assumes nothing.
use Rattle.std.proofs.Common.{◌≡◌, ℕ, ◌+◌, ◌-◌, min, Bool, true, false, ltb, List, ◌++◌, length, take, drop, refl, sym, ap, ◌∙◌, subst, arith, length-append, length-drop, ltb-true, ltb-false}
use Rattle.std.proofs.lemmas.List.{take_at, drop_at, drop-drop}
use Rattle.laws.specs.Choice.{pick}
use Rattle.replay.specs.declared.tally.Tally.{Tally}
use Rattle.replay.specs.Tally.{Counted, line_end, Tallied, none, more}

-- what is left of a text is its end, and begins with a line
module _ (text line rest left : List ℕ) (cut : left ≡ line ++ rest) (end : left ≡ drop (length text - length left) text) where
  many : (length left ≡ length line + length rest) × (length left ≡ length text - (length text - length left))
  many = (ap length cut ∙ length-append line rest, ap length end ∙ length-drop (length text - length left) text)

  pub behind : rest ≡ drop (length text - length rest) text
  behind =
      let there : length text - length left + length line ≡ length text - length rest = omega (arith, many) in
      sym (drop_at line rest (length line) refl) ∙ ap (drop (length line)) (sym cut ∙ end) ∙ drop-drop (length line) (length text - length left) text
      ∙ ap (λ n. drop n text) there

  first : line ≡ take (length text - length rest - (length text - length left)) (drop (length text - length left) text)
  first =
      let long : length text - length rest - (length text - length left) ≡ length line = omega (arith, many) in
      rw long (sym (take_at line rest (length line) refl) ∙ ap (take (length line)) (sym cut ∙ end))

  module _ {size : ℕ} (each : size ≡ 49) (fits : length line ≡ min size (length left)) where
    long : length line ≡ min 49 (length left)
    long = fits ∙ ap (λ n. min n (length left)) each

    ends : length text - length rest ≡ line_end (length text - length left) (length text)
    ends = by (ltb (length text - (length text - length left)) 49) refl
      where
        by : (b : Bool) → ltb (length text - (length text - length left)) 49 ≡ b → length text - length rest ≡ pick b (length text) (length text - length left + 49)
        by true e = omega (arith, many, long, ltb-true _ _ e)
        by false e = omega (arith, many, long, ltb-false _ _ e)

    pub counted : {t m r : Tally} → Tallied text (length text - length left) t m → Counted line m r → Tallied text (length text - length rest) t r
    counted {m = m} {r = r} h c = more h ends (subst (λ l. Counted l m r) first c)

-- before the first line all is left, and behind the last nothing
pub at_start : (text left : List ℕ) (t : Tally) → left ≡ text → (left ≡ drop (length text - length left) text) × Tallied text (length text - length left) t t
at_start text left t e =
    let none_passed : length text - length left ≡ 0 = omega (arith, ap length e) in
    rw none_passed (e, none)

pub at_end : (text left : List ℕ) {t r : Tally} → length left ≡ 0 → Tallied text (length text - length left) t r → Tallied text (length text) t r
at_end text left {t} {r} e h = let all : length text - length left ≡ length text = omega (arith, e) in rw all at h
