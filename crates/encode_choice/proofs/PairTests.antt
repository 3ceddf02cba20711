-- The test of a code of request A7's pairs comes to the same for all ten: it asks neither for the opcode nor for the first byte.
-- Assumes nothing.
use Prim.Native.Nat.{ℕ, zero, suc, ◌+◌, ◌*◌, ◌^◌, ◌/◌, ◌%◌, ◌<◌}
use mathlib.Core.Path.{◌≡◌, refl, ap, ap₂, ◌∙◌}
use mathlib.Core.Bool.{Bool, true, false}
use mathlib.Core.List.{List, [], ◌∷◌}
use native.Mathlib.Omega.{arith}
use native.Mathlib.Nat.{le_refl}
use lib.Dec.{T, eqb, ltb}
use borrow.Author.Tests.{eq-eqb, le-ltb}
use Rattle.laws.specs.Choice.{pick, both}
use Rattle.laws.specs.Range.{upto}
use Rattle.laws.proofs.Agree.{agree}
use Rattle.laws.proofs.Range.{upto_at}
use Rattle.record.specs.declared.Record.{Record}
use Rattle.record.specs.declared.Opcode.{Opcode}
use Rattle.record.specs.declared.Opcode.TheVariants.{NOP}
use Rattle.record.specs.declared.Width.{Width}
use Rattle.record.specs.declared.Width.TheVariants.{None, B, W}
use Rattle.record.specs.declared.Operand.{Operand}
use Rattle.record.specs.declared.Operand.TheVariants.{Nothing, Disp8_SP}
use Rattle.record.specs.declared.Key.{Key}
use Rattle.record.specs.Numbers.{opcode_no, size_no}
use Rattle.record.specs.Same.{same_name, among, field_of, base_of}
use Rattle.rows.specs.Codes.{name_G, size_G}
use Rattle.rows.specs.Row.{Row, num, disp}
use Rattle.rows.specs.Rows.{row, size_of}
use Rattle.rows.specs.Pairs.{two}
use Rattle.rows.specs.Groups.{document01}
use Rattle.encode_rules.specs.steps.Search.{disps, imms, conds, aim, firstb}
use Rattle.encode_rules.specs.steps.Can.{fits, can}
use Rattle.encode_rules.specs.steps.Direct.{nothing, rank}
use Rattle.encode_choice.specs.declared.Asked.{Asked}
use Rattle.encode_choice.specs.steps.Forms.{form_of, at, general, goes_with}
use Rattle.encode_choice.specs.steps.Coarse.{rep, whole, key_at, span, beatsb, ifb, good, row_test, code_test}
use Rattle.encode_choice.specs.steps.Choose.{asked, narrow, place, code_of, word, twice, choose_by, choose_named, choose}
use Rattle.encode_rules.proofs.Bools.{so, both_so}
use Rattle.encode_choice.proofs.Fields.{of_disp, of_first}
use Rattle.encode_choice.proofs.Pairs.{even, opcode, Sided, rows, dropping, chosen, size_is, taken, row_at_lem, is_there}

-- a key of the row at h and n, by the classes of its numbers
abbrev two_key : Opcode → Width → ℕ → ℕ → ℕ → ℕ → Key
two_key o w h n i j = record {
  opcode = o;
  size = size_of w;
  width = w;
  base0 = base_of (name_G w h);
  base1 = base_of (name_G w n);
  base2 = base_of Nothing;
  number0 = rep i;
  number1 = rep j;
  number2 = 0;
}

-- (at the widths of a pair no number is part of the code)
key_is : (o : Opcode) (w : Width) → Sided w → (h n i j : ℕ) → key_at (two o w h n) o i j ≡ two_key o w h n i j
unfolding two row whole
key_is o B t h n i j = refl
key_is o W t h n i j = refl
key_is o None t h n i j = absurd t

-- the name that is chosen for the base of a name of General is one too
abbrev chosen_name : Width → ℕ → ℕ → Operand
chosen_name w h i = narrow (base_of (name_G w h)) (eqb (rep i) 0) (ltb (rep i) 256)

narrowed : (w : Width) → Sided w → (z s : Bool) (h : ℕ) → h < 16 → among (general w) (narrow (base_of (name_G w h)) z s) ≡ true
unfolding among same_name base_of
narrowed B t true true = agree _ (λ h. true) 16 refl
narrowed B t true false = agree _ (λ h. true) 16 refl
narrowed B t false true = agree _ (λ h. true) 16 refl
narrowed B t false false = agree _ (λ h. true) 16 refl
narrowed W t true true = agree _ (λ h. true) 16 refl
narrowed W t true false = agree _ (λ h. true) 16 refl
narrowed W t false true = agree _ (λ h. true) 16 refl
narrowed W t false false = agree _ (λ h. true) 16 refl
narrowed None t z s = absurd t

chosen_general : (w : Width) → Sided w → (h : ℕ) → h < 16 → (i : ℕ) → among (general w) (chosen_name w h i) ≡ true
chosen_general w t h l i = narrowed w t (eqb (rep i) 0) (ltb (rep i) 256) h l

-- whether numbers fit where they are read hangs on these two alone
fits_same : (a b : ℕ) (s t : Record) → s.dispabs ≡ t.dispabs → s.first ≡ t.first → fits (num (disp a) ∷ num (disp b) ∷ []) s ≡ fits (num (disp a) ∷ num (disp b) ∷ []) t
unfolding fits disps
fits_same zero zero s t e f = refl
fits_same zero (suc b) s t e f = ap (λ v. both (ltb v (256 ^ suc b)) true) e
fits_same (suc a) zero s t e f = ap (λ v. both (ltb v (256 ^ suc a)) true) e
fits_same (suc a) (suc b) s t e f = ap₂ (λ u v. both (ltb u (256 ^ suc a)) (both (ltb v (256 ^ suc b)) true)) f e

-- whether a row can encode a key does not hang on their opcode, if they have one
module _ (o p : Opcode) (w : Width) (h n i j : ℕ) where
  can_any : (c d : ℕ) → can (two o w c d) (two_key o w h n i j) ≡ can (two p w c d) (two_key p w h n i j)
  unfolding two row can aim conds imms
  can_any c d =
      let k = two_key o w h n i j in
      let l = two_key p w h n i j in
      let at-sp = same_name (name_G w c) Disp8_SP in
      let s = fits_same (size_G c) (size_G d) (aim (two o w c d).face k) (aim (two p w c d).face l)
      (of_disp ◌≡◌ k l refl refl (field_of (name_G w c)) (field_of (name_G w d)) at-sp) (of_first ◌≡◌ k l refl refl at-sp) in
      rw (eq-eqb (opcode_no o) (opcode_no o) refl, eq-eqb (opcode_no p) (opcode_no p) refl, s) refl

-- so it is tested with one opcode for all, which no pair has
abbrev can_two : Width → ℕ → ℕ → ℕ → ℕ → ℕ → ℕ → Bool
can_two w h n i j c d = can (two NOP w c d) (two_key NOP w h n i j)

-- what is compared of two codes with one first byte
abbrev rank_two : ℕ → ℕ → ℕ → List ℕ
rank_two c d b = (size_G c + (size_G d + 0)) ∷ b ∷ []

-- the row at c and d can encode the key, and comes no later than the row at b
abbrev beats_two : Width → ℕ → ℕ → ℕ → ℕ → ℕ → Bool
beats_two w b i j c d =
    both (can_two w (b / 16) (b % 16) i j c d) (firstb (rank_two c d (16 * c + d)) (rank_two (b / 16) (b % 16) b))

-- that holds of the row that is chosen, if the row at b can encode the key
abbrev good_two : Width → ℕ → ℕ → ℕ → Bool
good_two w b i j =
    pick (can_two w (b / 16) (b % 16) i j (b / 16) (b % 16))
    (beats_two w b i j (code_of (chosen_name w (b / 16) i)) (code_of (chosen_name w (b % 16) j))) true

unfoldable two_test : Width → ℕ → Bool
two_test w b = upto (λ i. upto (λ j. good_two w b i j) (span (field_of (name_G w (b % 16))))) (span (field_of (name_G w (b / 16))))

-- two codes with one first byte are compared by what is read and by the second byte
rank_same : (a : ℕ) (o : Opcode) (w : Width) (c d x h n y : ℕ) → firstb (rank (two o w c d) a x) (rank (two o w h n) a y) ≡ firstb (rank_two c d x) (rank_two h n y)
unfolding two row
rank_same a o w c d x h n y = rw (le-ltb a a (le_refl a)) refl

any_number : (w : Width) → Sided w → (c : Bool) → at w true true c ≡ true
any_number B t c = refl
any_number W t c = refl
any_number None t c = absurd t

only_if : (g : Bool) (r : Row) (a b : ℕ) (k : Key) → ifb document01 choose g r a b k ≡ pick g (beatsb document01 choose (choose k) r a b k) true
only_if true r a b k = refl
only_if false r a b k = refl

-- the test of a pair's code comes to that
module _ (k : ℕ) (l : k < 10) (w : Width) (t : Sided w) (b : ℕ) (bl : b < 256) where
  abbrev o : Opcode
  o = opcode k

  abbrev a : ℕ
  a = even k + word w

  abbrev h : ℕ
  h = b / 16

  abbrev n : ℕ
  n = b % 16

  module _ (i j : ℕ) where
    abbrev key : Key
    key = two_key o w h n i j

    abbrev x : Operand
    x = chosen_name w h i

    abbrev y : Operand
    y = chosen_name w n j

    abbrev q : Asked
    q = record { size = size_of w; width = w; op0 = x; op1 = y; number = pick (whole w (base_of (name_G w h))) (rep i) 0 }

    general0 : among (general w) x ≡ true
    general0 = chosen_general w t h (omega arith) i

    general1 : among (general w) y ≡ true
    general1 = chosen_general w t n (omega arith) j

    asked_is : asked key ≡ q
    asked_is = λ r. record {
      size = size_of w;
      width = w;
      op0 = narrow (base_of (name_G w h)) (both (dropping k l r) (eqb (rep i) 0)) (ltb (rep i) 256);
      op1 = y;
      number = q.number;
    }

    goes : goes_with (form_of o) q ≡ true
    unfolding goes_with
    goes =
        both_so (eq-eqb _ _ (ap size_no (size_is k l w t)))
        (both_so (both_so (taken k l w t x general0).0 (taken k l w t y general1).1) (any_number w t _))

    chosen_is : choose key ≡ twice (even k) q
    unfolding choose_named
    chosen_is = ap (choose_named o) asked_is ∙ ap (λ g. pick g (choose_by o q) nothing) goes ∙ chosen k l q general0 general1

    beats_is : beatsb document01 choose (choose key) (two o w h n) a b key ≡ beats_two w b i j (code_of x) (code_of y)
    beats_is =
        let c = code_of x in
        let d = code_of y in
        let e = row_at_lem k l w t c d (omega arith) (omega arith) in
        let f = is_there k l w t c d (omega arith) (omega arith) in
        ap (λ v. beatsb document01 choose v (two o w h n) a b key) chosen_is
        ∙ (λ r. both (both (f r) (can (e r) key)) (firstb (rank (e r) a (16 * c + d)) (rank (two o w h n) a b)))
        ∙ ap₂ both (can_any o NOP w h n i j c d) (rank_same a o w c d (16 * c + d) h n b)

    good_is : good document01 choose (two o w h n) a b (key_at (two o w h n) o i j) ≡ good_two w b i j
    good_is =
        ap (good document01 choose (two o w h n) a b) (key_is o w t h n i j) ∙ only_if (can (two o w h n) key) (two o w h n) a b key
        ∙ ap₂ (λ u v. pick u v true) (can_any o NOP w h n i j h n) beats_is

  test_is : code_test document01 choose a b ≡ two_test w b
  unfolding code_test two_test two row conds
  test_is =
      ap (λ r. row_test document01 choose a b (r h n)) (rows w t k l)
      ∙ (λ r. upto (λ i. upto (λ j. good_is i j r) (span (field_of (name_G w n)))) (span (field_of (name_G w h))))

-- every code of a pair at a width (to unfold this is to unfold all that it takes to compute it)
unfoldable passed : Width → Bool
unfolding upto two_test two row can fits aim disps imms conds place among same_name field_of base_of
passed w = upto (two_test w) 256

passed_B : T (passed B)
unfolding passed
passed_B = tt

passed_W : T (passed W)
unfolding passed
passed_W = tt

each_passed : (w : Width) → Sided w → T (passed w)
each_passed B t = passed_B
each_passed W t = passed_W
each_passed None t = absurd t

pub pair_tested : (k : ℕ) → k < 10 → (w : Width) → Sided w → (b : ℕ) → b < 256 → code_test document01 choose (even k + word w) b ≡ true
unfolding passed
pair_tested k l w t b bl = test_is k l w t b bl ∙ so _ (upto_at (two_test w) 256 (each_passed w t) b bl)
