-- The numbers that a row reads, by where in a key they come from: as many bytes of each, or what each must be below.
-- Assumes nothing.
use Prim.Native.Nat.{ℕ, zero, suc, ◌^◌}
use mathlib.Core.Path.{◌≡◌, refl, sym, ap, ap₂, ◌∙◌}
use mathlib.Core.Bool.{Bool, true, false, false≢true}
use mathlib.Core.List.{List, [], ◌∷◌, ◌++◌}
use native.Mathlib.Omega.{arith}
use lib.Dec.{T, eqb, ltb}
use borrow.Author.Tests.{eqb-true, eq-eqb, lt-ltb, ltb-true}
use Rattle.laws.specs.Choice.{both}
use Rattle.laws.proofs.Choice.{both_left, both_right}
use Rattle.record.specs.declared.Key.{Key}
use Rattle.record.specs.declared.Opcode.{Opcode}
use Rattle.record.specs.declared.Operand.TheVariants.{Disp8_SP}
use Rattle.record.specs.declared.Record.{Record}
use Rattle.record.specs.declared.fields.Field.{Field}
use Rattle.record.specs.declared.fields.Field.TheVariants.{Nowhere as nowhere, Wide as wide, Short as short, Early as early}
use Rattle.record.specs.Same.{same_name, field_of}
use Rattle.rows.specs.Codes.{cond_of}
use Rattle.rows.specs.Row.{Num, disp, imm, imm20, Read, num, cond, stop, Face}
use Rattle.rows.specs.Run.{twenty_bits}
use Rattle.encode_rules.specs.steps.Can.{exact, fits}
use Rattle.encode_rules.specs.steps.Digits.{digits}
use Rattle.encode_rules.specs.steps.Search.{means, cond_byte, disps, conds, nth, spell, wide_for, disp_for, first_for, aim}
use Rattle.encode_rules.proofs.Bools.{so, both_true, level}
use Rattle.encode_choice.specs.steps.Coded.{is_wide}
use Rattle.encode_choice.proofs.Formed.{meant}

-- by its source: the number of operand 0, that of operand 1, or the condition's byte
abbrev pub value : Key → ℕ → ℕ
value k zero = k.number0
value k (suc zero) = k.number1
value k (suc (suc n)) = cond_byte k.opcode

-- so many bytes of a number, or what it must be below
pub record Tag : Type 0 where
  pub amount : ℕ
  pub source : ℕ

abbrev pub tag : ℕ → ℕ → Tag
tag n s = record { amount = n; source = s }

unfoldable pub spell_out : List Tag → Key → List ℕ
spell_out [] k = []
spell_out (t ∷ ts) k = digits t.amount (value k t.source) ++ spell_out ts k

unfoldable pub hold : List Tag → Key → Bool
hold [] k = true
hold (t ∷ ts) k = both (ltb (value k t.source) t.amount) (hold ts k)

-- without those of no byte
abbrev pub keep : ℕ → ℕ → List Tag → List Tag
keep zero s ts = ts
keep (suc n) s ts = tag (suc n) s ∷ ts

unfoldable pub some : List Tag → List Tag
some [] = []
some (t ∷ ts) = keep t.amount t.source (some ts)

kept : (n s : ℕ) (ts : List Tag) (k : Key) → spell_out (keep n s ts) k ≡ digits n (value k s) ++ spell_out ts k
unfolding spell_out
kept zero s ts k = refl
kept (suc n) s ts k = refl

spell_some : (ts : List Tag) (k : Key) → spell_out (some ts) k ≡ spell_out ts k
unfolding spell_out some
spell_some [] k = refl
spell_some (t ∷ ts) k = kept t.amount t.source (some ts) k ∙ ap (λ xs. digits t.amount (value k t.source) ++ xs) (spell_some ts k)

-- two lists of tags that are one, as a test
abbrev same_tag : Tag → Tag → Bool
same_tag t u = both (eqb t.amount u.amount) (eqb t.source u.source)

unfoldable pub same : List Tag → List Tag → Bool
same [] [] = true
same [] (u ∷ us) = false
same (t ∷ ts) [] = false
same (t ∷ ts) (u ∷ us) = both (same_tag t u) (same ts us)

one_tag : (t u : Tag) → same_tag t u ≡ true → t ≡ u
one_tag t u e = let x = both_true (eqb t.amount u.amount) _ e in ap₂ tag (eqb-true _ _ x.0) (eqb-true _ _ x.1)

pub one_list : (ts us : List Tag) → T (same ts us) → ts ≡ us
unfolding same
one_list [] [] e = refl
one_list [] (u ∷ us) e = absurd e
one_list (t ∷ ts) [] e = absurd e
one_list (t ∷ ts) (u ∷ us) e = ap₂ ◌∷◌ (one_tag t u (so _ (both_left (same_tag t u) _ e))) (one_list ts us (both_right (same_tag t u) _ e))

pub spell_alike : (ts us : List Tag) → T (same (some ts) (some us)) → (k : Key) → spell_out ts k ≡ spell_out us k
spell_alike ts us e k = sym (spell_some ts k) ∙ ap (λ ts. spell_out ts k) (one_list (some ts) (some us) e) ∙ spell_some us k

-- a record whose fields are the sources of those that a row must find: it is aimed at a key whose numbers are 0 and 1
abbrev sought : Face → Key
sought f = record { opcode = f.opcode; size = f.size; width = f.width; base0 = f.op0; base1 = f.op1; base2 = f.op0; number0 = 0; number1 = 1; number2 = 2 }

abbrev pub sources : Face → Record
sources f = aim f (sought f)

-- the numbers that are read, each with an amount, and what stands for a condition
unfoldable pub tags_by : (Num → ℕ) → List Tag → Record → List Read → List Tag
tags_by g c s [] = []
tags_by g c s (num (disp zero) ∷ rs) = tags_by g c s rs
tags_by g c s (num (disp (suc n)) ∷ rs) = tag (g (disp (suc n))) (nth (disps rs) s) ∷ tags_by g c s rs
tags_by g c s (num (imm n) ∷ rs) = tag (g (imm n)) s.imm_wide ∷ tags_by g c s rs
tags_by g c s (num imm20 ∷ rs) = tag (g imm20) s.imm_wide ∷ tags_by g c s rs
tags_by g c s (cond ∷ rs) = c ++ tags_by g c s rs
tags_by g c s (stop e ∷ rs) = []

abbrev bytes_of : Num → ℕ
bytes_of (disp n) = n
bytes_of (imm n) = n
bytes_of imm20 = 3

abbrev below : Num → ℕ
below (disp n) = 256 ^ n
below (imm n) = 256 ^ n
below imm20 = twenty_bits

abbrev pub read_tags : Face → List Read → List Tag
read_tags f rs = tags_by bytes_of (tag 1 2 ∷ []) (sources f) rs

abbrev pub fit_tags : Face → List Read → List Tag
fit_tags f rs = tags_by below [] (sources f) rs

-- a number that is not read is 0, or part of the code and below a limit
abbrev pub exact_tags : Bool → ℕ → Field → ℕ → List Tag → List Tag
exact_tags part l nowhere s ts = tag 1 s ∷ ts
exact_tags true l wide s ts = tag l s ∷ ts
exact_tags false l wide s ts = ts
exact_tags part l short s ts = ts
exact_tags part l early s ts = ts

below_one : (v : ℕ) → eqb v 0 ≡ ltb v 1
below_one v = level _ _ (λ e. lt-ltb v 1 (let z = eqb-true v 0 e in omega arith)) (λ e. eq-eqb v 0 (let z = ltb-true v 1 e in omega arith))

still_meant : (n : ℕ) (o : Opcode) → means (cond_of (cond_byte o)) o ≡ true → meant n o ≡ true
still_meant zero o e = refl
still_meant (suc n) o e = e

module _ (k : Key) where
  disp_value : (x y : Field) (b : Bool) (p : Key) → p.number0 ≡ 0 → p.number1 ≡ 1 → disp_for x y b k ≡ value k (disp_for x y b p)
  disp_value short short true p z o = ap (value k) (sym z)
  disp_value short short false p z o = ap (value k) (sym o)
  disp_value short nowhere b p z o = ap (value k) (sym z)
  disp_value short wide b p z o = ap (value k) (sym z)
  disp_value short early b p z o = ap (value k) (sym z)
  disp_value nowhere y b p z o = ap (value k) (sym o)
  disp_value wide y b p z o = ap (value k) (sym o)
  disp_value early y b p z o = ap (value k) (sym o)

  first_value : (b : Bool) (p : Key) → p.number0 ≡ 0 → p.number1 ≡ 1 → first_for b k ≡ value k (first_for b p)
  first_value true p z o = ap (value k) (sym o)
  first_value false p z o = ap (value k) (sym z)

  wide_value : (x : Field) (p : Key) → p.number0 ≡ 0 → p.number1 ≡ 1 → wide_for x k ≡ value k (wide_for x p)
  wide_value wide p z o = ap (value k) (sym z)
  wide_value nowhere p z o = ap (value k) (sym o)
  wide_value short p z o = ap (value k) (sym o)
  wide_value early p z o = ap (value k) (sym o)

  module _ (f : Face) where
    nth_value : (d : ℕ) → nth d (aim f k) ≡ value k (nth d (sources f))
    unfolding aim
    nth_value zero = disp_value (field_of f.op0) (field_of f.op1) (same_name f.op0 Disp8_SP) (sought f) refl refl
    nth_value (suc d) = first_value (same_name f.op0 Disp8_SP) (sought f) refl refl

    imm_value : (aim f k).imm_wide ≡ value k (sources f).imm_wide
    unfolding aim
    imm_value = wide_value (field_of f.op0) (sought f) refl refl

    pub read_out : (rs : List Read) → spell rs (aim f k) ≡ spell_out (read_tags f rs) k
    unfolding spell spell_out tags_by aim
    read_out [] = refl
    read_out (num (disp zero) ∷ rs) = read_out rs
    read_out (num (disp (suc n)) ∷ rs) = ap₂ (λ v xs. digits (suc n) v ++ xs) (nth_value (disps rs)) (read_out rs)
    read_out (num (imm n) ∷ rs) = ap₂ (λ v xs. digits n v ++ xs) imm_value (read_out rs)
    read_out (num imm20 ∷ rs) = ap₂ (λ v xs. digits 3 v ++ xs) imm_value (read_out rs)
    read_out (cond ∷ rs) = ap (λ xs. digits 1 (cond_byte k.opcode) ++ xs) (read_out rs)
    read_out (stop e ∷ rs) = refl

    pub fits_held : (rs : List Read) → meant (conds rs) k.opcode ≡ true → fits rs (aim f k) ≡ hold (fit_tags f rs) k
    unfolding fits hold tags_by aim conds
    fits_held [] m = refl
    fits_held (num (disp zero) ∷ rs) m = fits_held rs m
    fits_held (num (disp (suc n)) ∷ rs) m = ap₂ (λ v x. both (ltb v (256 ^ suc n)) x) (nth_value (disps rs)) (fits_held rs m)
    fits_held (num (imm n) ∷ rs) m = ap₂ (λ v x. both (ltb v (256 ^ n)) x) imm_value (fits_held rs m)
    fits_held (num imm20 ∷ rs) m = ap₂ (λ v x. both (ltb v twenty_bits) x) imm_value (fits_held rs m)
    fits_held (cond ∷ rs) m = ap₂ both m (fits_held rs (still_meant (conds rs) k.opcode m))
    fits_held (stop e ∷ rs) m = refl

  -- a number in imm_wide is read, or part of the code
  module _ (l s own : ℕ) {rest : Bool} (ts : List Tag) (e : rest ≡ hold ts k) where
    pub exact_held : (part : Bool) (x : Field) (n : ℕ) → (is_wide x ≡ true → n ≡ 0 → part ≡ true) → (part ≡ true → (own ≡ value k s) × (ltb (value k s) l ≡ true))
        → both (exact x n own (value k s)) rest ≡ hold (exact_tags part l x s ts) k
    unfolding hold
    exact_held part nowhere n h g = ap₂ both (below_one (value k s)) e
    exact_held true wide zero h g = ap₂ both (eq-eqb _ _ (sym (g refl).0) ∙ sym (g refl).1) e
    exact_held true wide (suc n) h g = ap₂ both (sym (g refl).1) e
    exact_held false wide zero h g = absurd (false≢true (h refl refl))
    exact_held false wide (suc n) h g = e
    exact_held part short n h g = e
    exact_held part early n h g = e
