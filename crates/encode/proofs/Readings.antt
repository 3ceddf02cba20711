-- The code that a reading chooses for a record: whether it encodes the record, and by which bytes.
-- Assumes nothing.
use Prim.Native.Nat.{ℕ, ◌<◌}
use mathlib.Core.Path.{◌≡◌, refl, sym, ap, ◌∙◌}
use mathlib.Core.Bool.{Bool, true, false, false≢true}
use mathlib.Core.List.{[], ◌∷◌}
use native.Mathlib.Omega.{arith}
use lib.Dec.{T, ltb}
use Rattle.laws.specs.Choice.{pick, both}
use Rattle.record.specs.declared.Record.{Record}
use Rattle.record.specs.declared.Operand.TheVariants.{Nothing}
use Rattle.record.specs.Same.{same_name, key}
use Rattle.rows.specs.Row.{Table}
use Rattle.rows.specs.Groups.{document01}
use Rattle.by_manual.specs.Table.{by_manual, table_by}
use Rattle.encode_rules.specs.Says.{Found, bytes, none}
use Rattle.encode_rules.specs.steps.Search.{live}
use Rattle.encode_rules.specs.steps.Direct.{Choice, code, nothing, taken}
use Rattle.encode_rules.proofs.Bools.{both_true}
use Rattle.encode_choice.specs.declared.Asked.{Asked}
use Rattle.encode_choice.specs.steps.Forms.{form_of, goes_with}
use Rattle.encode_choice.specs.steps.Choose as choice
use Rattle.encode_choice.specs.steps.Choose.{asked, choose_named}
use Rattle.encode_choice.proofs.Formed.{Formed, formed}
use Rattle.encode_added.specs.steps.Entries.{entry_of, goes}
use Rattle.encode_added.specs.steps.Choose.{code_by, is_numbered, choose_by, is_whole, choice_of, encoded_by}
use Rattle.encode_added.proofs.Parts.{taken_in}
use Rattle.encode_added.proofs.Added.{added, added_within}
use Rattle.encode_added.proofs.Right.{stays_within}
use Rattle.encode_added.proofs.Formed.{formed_added}
use Rattle.encode.specs.steps.Faced.{face_by, conditions}
use Rattle.encode.specs.steps.Slots as slots
use Rattle.encode.proofs.Ordered.{row_named, document_named, added_named}
use Rattle.encode.proofs.Found.{in_code_lem, second_below, said_by}
use Rattle.encode.proofs.Wholly.{wholly_there, wholly_taken}

-- a code is chosen only for names that go together
both_chosen : (g : Bool) (x : Choice) (a b : ℕ) → pick g x nothing ≡ code a b → (g ≡ true) × (x ≡ code a b)
both_chosen true x a b e = (refl, e)
both_chosen false x a b e = let z : ◌≡◌ {A = ℕ} 0 1 = cc in absurd (omega arith)

module _ (r : Record) (third : same_name r.op2 Nothing ≡ true) (a b : ℕ) where
  abbrev q : Asked
  q = asked (key r)

  -- what is found is the code and the numbers behind it, if each fits
  abbrev pub Follows : Found → Type 0
  Follows found = pick (slots.fitting (face_by q) (key r)) (bytes (a ∷ b ∷ slots.slots (face_by q) (conditions a b) (key r))) none ≡ found

  -- or the code alone
  abbrev pub Alone : Found → Type 0
  Alone found = bytes (a ∷ b ∷ []) ≡ found

  -- by a table of which every live row stands in the reading's
  follows_in : (s t : Table) → s.known ≡ t.known
      → ((a b : ℕ) → s.known a ≡ true → b < 256 → T (row_named (s.row_at a b) (conditions a b)))
      → ((a b : ℕ) → s.known a ≡ true → b < 256 → live (s.row_at a b) ≡ true → s.row_at a b ≡ t.row_at a b)
      → Formed s a b r.opcode q → (b < 256) × Follows (taken t (code a b) (key r))
  follows_in s t same named within w =
      let below = second_below r third s named a b w in
      let x = both_true (ltb b 256) (s.known a) (both_true (ltb a 256) _ w.there).1 in
      (below, said_by r third s named a b w ∙ taken_in s t same a b (key r) (within a b x.1 below w.lives))

  document_row : choose_named r.opcode q ≡ code a b → Formed document01 a b r.opcode q
  unfolding choose_named
  document_row e =
      let x = both_chosen (goes_with (form_of r.opcode) q) (choice.choose_by r.opcode q) a b e in
      formed r.opcode q a b x.0 (in_code_lem r) x.1

  -- by the manual, of names that go with a changed row, and of others
  abbrev by_names : Bool → Choice
  by_names g = pick g (code_by (entry_of r.opcode).codes q (key r).number0) (choose_named r.opcode q)

  manual_follows : (g : Bool) → goes r.opcode q ≡ g → by_names g ≡ code a b → both g (is_numbered (entry_of r.opcode).codes) ≡ false → (b < 256) × Follows (taken by_manual (code a b) (key r))
  manual_follows true f e n = follows_in added by_manual refl added_named added_within (formed_added r.opcode q (key r).number0 a b f n (in_code_lem r) e)
  manual_follows false f e n = follows_in document01 by_manual refl document_named stays_within (document_row e)

  manual_alone : (g : Bool) → goes r.opcode q ≡ g → by_names g ≡ code a b → both g (is_numbered (entry_of r.opcode).codes) ≡ true → (b < 256) × Alone (taken by_manual (code a b) (key r))
  manual_alone true f e n =
      ((wholly_there r third f n a b e).0, wholly_taken r third f n a b e)
  manual_alone false f e n = absurd (false≢true n)

  -- what the reading's encoder finds
  found_by_lem : (d : Bool) → choice_of d (key r) ≡ code a b → taken (table_by d) (code a b) (key r) ≡ encoded_by d r
  found_by_lem d e = ap (λ c. taken (table_by d) c (key r)) (sym e)

  pub follows : (d : Bool) → choice_of d (key r) ≡ code a b → is_whole d r.opcode q ≡ false → (b < 256) × Follows (encoded_by d r)
  unfolding choose_by is_whole
  follows false e n = let x = follows_in document01 document01 refl document_named (λ a b k l v. refl) (document_row e) in (x.0, x.1 ∙ found_by_lem false e)
  follows true e n = let x = manual_follows (goes r.opcode q) refl e n in (x.0, x.1 ∙ found_by_lem true e)

  pub alone : (d : Bool) → choice_of d (key r) ≡ code a b → is_whole d r.opcode q ≡ true → (b < 256) × Alone (encoded_by d r)
  unfolding choose_by is_whole
  alone false e n = absurd (false≢true n)
  alone true e n = let x = manual_alone (goes r.opcode q) refl e n in (x.0, x.1 ∙ found_by_lem true e)

  pub second : (d : Bool) → choice_of d (key r) ≡ code a b → b < 256
  second d e = by (is_whole d r.opcode q) refl
    where
      by : (n : Bool) → is_whole d r.opcode q ≡ n → b < 256
      by true n = (alone d e n).0
      by false n = (follows d e n).0
