-- The row that takes a code's place, told by how its first byte chooses it.
-- Assumes nothing.
use Prim.Native.Nat.{ℕ, ◌/◌, ◌%◌, ◌-◌, ◌≤◌, ◌<◌}
use mathlib.Core.Path.{◌≡◌, refl, sym, ap, subst, ◌∙◌}
use mathlib.Core.Logic.{◌⊎◌, inl, inr}
use mathlib.Core.Bool.{Bool, true, false, false≢true}
use mathlib.Core.List.{[], ◌∷◌}
use native.Mathlib.Omega.{arith}
use lib.Dec.{eqb, leb, ltb}
use borrow.Author.Tests.{eqb-true, leb-true, lt-leb, le-ltb}
use Rattle.laws.specs.Choice.{pick}
use Rattle.laws.proofs.Agree.{Rest, agree_past}
use Rattle.record.specs.declared.Opcode.{Opcode}
use Rattle.record.specs.declared.Opcode.TheVariants.{ADCF, BMGE, BMLT, BMNO, DIVU, DIVX, FCLR, FSET, JMPI, JSRI, MUL, MULU}
use Rattle.record.specs.declared.Size.TheVariants as size
use Rattle.record.specs.declared.Width.{Width}
use Rattle.record.specs.declared.Width.TheVariants.{B, W}
use Rattle.rows.specs.Row.{Row}
use Rattle.rows.specs.Codes.{name_G, name_I, G, I, refuse}
use Rattle.rows.specs.Rows.{row, size_of, bad_mul, flagged}
use Rattle.readers.proofs.Nibble.{upper}
use Rattle.by_manual.specs.Changed.{Change, stays, becomes, to_stack, alone, mulu, mul, ldc, word_jump, flag, change76, change_7A, change_7C, change_7D, change_EB, change_at}
use Rattle.by_manual.specs.Lists.{is_changed}
use Rattle.by_manual.specs.Table.{changed, by_manual}
use Rattle.decode_changed.specs.steps.Rows.{new_row, alone_opcode, mul_at, flag_opcode, row_7D, row_of}

new_row_lem : (c : Change) (r : Row) → is_changed c ≡ true → new_row c ≡ changed c r
new_row_lem stays r e = absurd (false≢true e)
new_row_lem (becomes w) r e = refl

-- one row, or one of two or three rows that differ in their opcode, is chosen, if any is
pub only : (x : Bool) (w : Row) → is_changed (pick x (becomes w) stays) ≡ true → w ≡ new_row (pick x (becomes w) stays)
only true w e = refl
only false w e = absurd (false≢true e)

module _ (f : Opcode → Row) (p q : Opcode) where
  pub one_of_two : (x y : Bool) → let c : Change = pick x (becomes (f p)) (pick y (becomes (f q)) stays) in is_changed c ≡ true → f (pick x p q) ≡ new_row c
  one_of_two true y e = refl
  one_of_two false true e = refl
  one_of_two false false e = absurd (false≢true e)

  pub one_of_three : (r : Opcode) (x y z : Bool) → let c : Change = pick x (becomes (f p)) (pick y (becomes (f q)) (pick z (becomes (f r)) stays)) in
      is_changed c ≡ true → f (pick x p (pick y q r)) ≡ new_row c
  one_of_three r true y z e = refl
  one_of_three r false true z e = refl
  one_of_three r false false true e = refl
  one_of_three r false false false e = absurd (false≢true e)

-- the rows of 7C, and of 7D too; of 7A; of EB
pub mul_new : (w : Width) (h n : ℕ) → is_changed (change_7C w h n) ≡ true → mul_at w h n ≡ new_row (change_7C w h n)
unfolding row
mul_new w h n = by (eqb h 4) (eqb h 5)
  where
    by : (x y : Bool) → is_changed (pick x (becomes (mulu w n)) (pick y (becomes (mul w n)) stays)) ≡ true
        → row (pick x MULU MUL) (pick x (size_of w) size.None) w (name_I w) (name_G w n) 0 (refuse (bad_mul w n) (G n ∷ I w ∷ []))
        ≡ new_row (pick x (becomes (mulu w n)) (pick y (becomes (mul w n)) stays))
    by true y e = refl
    by false true e = refl
    by false false e = absurd (false≢true e)

pub ldc_new : (b : ℕ) → b < 256 → is_changed (change_7A (b / 16) (b % 16)) ≡ true → ldc (b / 16 % 8) (b % 16) ≡ new_row (change_7A (b / 16) (b % 16))
ldc_new b l = by (leb 8 (b / 16)) refl
  where
    by : (x : Bool) → leb 8 (b / 16) ≡ x → let c : Change = pick x (becomes (ldc (b / 16 - 8) (b % 16))) stays in is_changed c ≡ true → ldc (b / 16 % 8) (b % 16) ≡ new_row c
    by true p e = ap (λ k. ldc k (b % 16)) (upper b l (omega (arith, leb-true 8 (b / 16) p)))
    by false p e = absurd (false≢true e)

pub flag_new : (h n : ℕ) → is_changed (change_EB h n) ≡ true → flag (flag_opcode n) h ≡ new_row (change_EB h n)
flag_new h n = by (ltb h 8)
  where
    by : (x : Bool) → let c : Change = pick x (pick (eqb n 4) (becomes (flag FSET h)) (pick (eqb n 5) (becomes (flag FCLR h)) stays)) stays in
        is_changed c ≡ true → flag (flag_opcode n) h ≡ new_row c
    by true e = one_of_two (λ o. flag o h) FSET FCLR (eqb n 4) (eqb n 5) e
    by false e = absurd (false≢true e)

-- told by one value of a nibble, or of a first byte, after the other
key : (P : ℕ → Type 0) (h k : ℕ) → P k → (eqb h k ≡ false → P h) → P h
key P h k p q = by (eqb h k) refl
  where
    by : (x : Bool) → eqb h k ≡ x → P h
    by true e = subst P (sym (eqb-true h k e)) p
    by false e = q e

-- the rows of 7D
module _ (n : ℕ) where
  Decoded7D : ℕ → Type 0
  Decoded7D h = is_changed (change_7D h n) ≡ true → row_7D h n ≡ new_row (change_7D h n)

  jumps : (h : ℕ) → eqb h 4 ≡ false → eqb h 5 ≡ false → eqb h 10 ≡ false → eqb h 11 ≡ false → eqb h 13 ≡ false → Decoded7D h
  unfolding Decoded7D
  jumps h e4 e5 e10 e11 e13 = rw (e4, e5, e10, e11, e13) (one_of_two (λ o. word_jump o n) JMPI JSRI (eqb h 2) (eqb h 3))

  decoded_7D : (h : ℕ) → Decoded7D h
  unfolding Decoded7D
  decoded_7D h =
      key Decoded7D h 4 (mul_new W 4 n) (λ e4. key Decoded7D h 5 (mul_new W 5 n) (λ e5. key Decoded7D h 10 (λ e. refl) (λ e10. key Decoded7D h 11 (λ e. refl) (λ e11.
      key Decoded7D h 13 (one_of_three flagged BMGE BMNO BMLT (eqb n 10) (eqb n 13) (eqb n 14)) (jumps h e4 e5 e10 e11)))))

pub new_7D : (h n : ℕ) → is_changed (change_7D h n) ≡ true → row_7D h n ≡ new_row (change_7D h n)
unfolding Decoded7D
new_7D h n = decoded_7D n h

-- the rows of all first bytes
module _ (b : ℕ) (l : b < 256) where
  Decoded : ℕ → Type 0
  Decoded a = is_changed (change_at a (b / 16) (b % 16)) ≡ true → row_of a (b / 16) (b % 16) ≡ new_row (change_at a (b / 16) (b % 16))

  divided : (w : Width) → is_changed (change76 w (b / 16) (b % 16)) ≡ true → alone (alone_opcode (b / 16)) w (b % 16) ≡ new_row (change76 w (b / 16) (b % 16))
  divided w = one_of_three (λ o. alone o w (b % 16)) DIVX DIVU ADCF (eqb (b / 16) 9) (eqb (b / 16) 12) (eqb (b / 16) 14)

  none : (a : ℕ) → eqb a 0x74 ≡ false → eqb a 0x75 ≡ false → eqb a 0x76 ≡ false → eqb a 0x77 ≡ false → eqb a 0x7A ≡ false → eqb a 0x7C ≡ false → eqb a 0x7D ≡ false
      → eqb a 0xEB ≡ false → Decoded a
  unfolding Decoded change_at
  none a e4 e5 e6 e7 eA eC eD eB = rw (e4, e5, e6, e7, eA, eC, eD, eB) (λ e. absurd (false≢true e))

  decoded : (a : ℕ) → Decoded a
  unfolding Decoded change_at
  decoded a =
      key Decoded a 0x74 (only (eqb (b / 16) 3) (to_stack B (b % 16))) (λ e4. key Decoded a 0x75 (only (eqb (b / 16) 3) (to_stack W (b % 16))) (λ e5.
      key Decoded a 0x76 (divided B) (λ e6. key Decoded a 0x77 (divided W) (λ e7. key Decoded a 0x7A (ldc_new b l) (λ eA. key Decoded a 0x7C (mul_new B (b / 16) (b % 16)) (λ eC.
      key Decoded a 0x7D (new_7D (b / 16) (b % 16)) (λ eD. key Decoded a 0xEB (flag_new (b / 16) (b % 16)) (none a e4 e5 e6 e7 eA eC eD))))))))

-- what is decoded at a changed code is the manual's
pub in_place : (a b : ℕ) → b < 256 → is_changed (change_at a (b / 16) (b % 16)) ≡ true → row_of a (b / 16) (b % 16) ≡ by_manual.row_at a b
unfolding Decoded
in_place a b l new = decoded b l a new ∙ new_row_lem (change_at a (b / 16) (b % 16)) _ new

-- other first bytes than these have none (the keys of a match are listed last first, and 74 to 77 are told by their bounds)
module _ (h n : ℕ) where
  in_pairs : ℕ → Bool
  in_pairs a = pick (leb 0x74 a) (pick (ltb a 0x78) (is_changed (change_at a h n)) false) false

  no_others : (a : ℕ) → a < 256 → Rest (0xEB ∷ 0x7D ∷ 0x7C ∷ 0x7A ∷ []) a → is_changed (change_at a h n) ≡ in_pairs a
  unfolding change_at in_pairs
  no_others = agree_past (0xEB ∷ 0x7D ∷ 0x7C ∷ 0x7A ∷ []) false (λ a. is_changed (change_at a h n)) in_pairs 256 refl

  outside : (a : ℕ) → (a < 0x74) ⊎ (0x78 ≤ a) → in_pairs a ≡ false
  unfolding in_pairs
  outside a (inl l) = rw (lt-leb 0x74 a l) refl
  outside a (inr l) = by (leb 0x74 a)
    where
      by : (x : Bool) → pick x (pick (ltb a 0x78) (is_changed (change_at a h n)) false) false ≡ false
      by true = rw (le-ltb a 0x78 l) refl
      by false = refl

  pub none_outside : (a : ℕ) → a < 256 → Rest (0xEB ∷ 0x7D ∷ 0x7C ∷ 0x7A ∷ []) a → (a < 0x74) ⊎ (0x78 ≤ a) → is_changed (change_at a h n) ≡ false
  none_outside a l r o = no_others a l r ∙ outside a o
