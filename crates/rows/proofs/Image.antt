-- Request A5, the patcher's law at a place of an image, by document 01's rows: whatever bytes are put over those of a part.
-- Assumes nothing.
use Prim.Native.Nat.{ℕ, ◌+◌, ◌-◌, ◌≤◌, ◌<◌}
use mathlib.Core.Path.{◌≡◌, refl, sym, ap, ◌∙◌, subst}
use mathlib.Core.Bool.{Bool, true, false}
use mathlib.Core.List.{List}
use native.Mathlib.Omega.{arith}
use lib.Dec.{ltb}
use lib.ListN.{length, get_or, drop, length-drop}
use lib.Seq.{get_or-drop}
use borrow.Author.Tests.{ltb-true, ltb-false}
use Rattle.laws.specs.Over.{put}
use Rattle.laws.proofs.Over.{put_length, put_within, put_before, put_behind}
use Rattle.record.specs.declared.Part.{Part}
use Rattle.record.specs.declared.fields.Field.{Field}
use Rattle.record.specs.Parts.{part_of, Within}
use Rattle.rows.specs.Bytes.{Bytes}
use Rattle.rows.specs.Parts.{DifferIn, holding}
use Rattle.rows.specs.Groups.{document01}
use Rattle.rows.specs.Run.{bytes, decode_rows}
use Rattle.rows.specs.Spans.{number_in}
use Rattle.rows.proofs.Bytes.{bytes_alike, drop_bytes, put_bytes}
use Rattle.rows.proofs.Plain.{plain_at_lem}
use Rattle.rows.proofs.Taken.{counted}
use Rattle.rows.proofs.Parts.{inside}
use Rattle.rows.proofs.Patch.{answer, patched}

-- xs stand there then
module _ (f : Field) (image xs : List ℕ) (at : ℕ) (small : Bytes image) (new : Bytes xs) (z : (decode_rows (drop at image)).refusal ≡ 0) where
  abbrev its : Part
  its = part_of f (decode_rows (drop at image)).inst.parts

  module _ (l : 0 < its.width) (e : length xs ≡ its.width) where
    abbrev then : List ℕ
    then = put (at + its.offset) xs image

    room : at + its.offset + length xs ≤ length image
    room =
        omega (
          arith,
          e,
          l,
          inside document01 (drop at image) f,
          (counted document01 (drop at image)).short,
          (counted document01 (drop at image)).within,
          length-drop at image,
        )

    elsewhere : (i : ℕ) → (Within its i → ⊥) → get_or then (at + i) 0 ≡ get_or image (at + i) 0
    elsewhere i n = by (ltb i its.offset) refl (ltb i (its.offset + its.width)) refl
      where
        by : (x : Bool) → ltb i its.offset ≡ x → (y : Bool) → ltb i (its.offset + its.width) ≡ y → get_or then (at + i) 0 ≡ get_or image (at + i) 0
        by true p y q = put_before (at + its.offset) image xs room (at + i) (omega (arith, ltb-true i its.offset p))
        by false p true q = absurd (n (ltb-false i its.offset p, ltb-true i (its.offset + its.width) q))
        by false p false q = put_behind (at + its.offset) image xs room (at + i) (omega (arith, ltb-false i (its.offset + its.width) q, e))

    differ_there : DifferIn its (drop at image) (drop at then)
    differ_there = record {
      long = length-drop at then ∙ ap (λ n. n - at) (put_length (at + its.offset) image xs room) ∙ sym (length-drop at image);
      elsewhere = λ i n. get_or-drop at then i 0 ∙ elsewhere i n ∙ sym (get_or-drop at image i 0);
    }

    number_there : number_in (drop at then) its ≡ bytes xs 0 its.width
    number_there =
        bytes_alike xs (drop at then) its.width its.offset 0
        (λ k m.
        let i : at + (its.offset + k) ≡ at + its.offset + k = omega arith in
        let j : k ≡ 0 + k = omega arith in
        get_or-drop at then (its.offset + k) 0 ∙ ap (λ n. get_or then n 0) i ∙ put_within (at + its.offset) image xs room k (omega arith) ∙ ap (λ n. get_or xs n 0) j)

    pub in_an_image : decode_rows (drop at then) ≡ answer (holding f (bytes xs 0 its.width) (decode_rows (drop at image)).inst) (decode_rows (drop at image)).taken
    in_an_image =
        subst (λ v. decode_rows (drop at then) ≡ answer (holding f v (decode_rows (drop at image)).inst) (decode_rows (drop at image)).taken) number_there
        (patched document01 plain_at_lem f (drop at image) (drop at then) (drop_bytes at then (put_bytes (at + its.offset) image xs room small new)) z l differ_there)
