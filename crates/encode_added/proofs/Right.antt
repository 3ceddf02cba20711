-- The choice of each reading is right by its table.
-- Assumes nothing.
use Prim.Native.Nat.{ℕ, ◌/◌, ◌%◌, ◌<◌}
use mathlib.Core.Path.{◌≡◌, refl, sym, ap, subst, ◌∙◌}
use mathlib.Core.Bool.{Bool, true, false, false≢true}
use lib.Dec.{ltb}
use borrow.Author.Tests.{ltb-true}
use Rattle.laws.specs.Choice.{pick}
use Rattle.record.specs.declared.Record.{Record}
use Rattle.record.specs.declared.Key.{Key}
use Rattle.rows.specs.Lists.{listed_in}
use Rattle.rows.specs.Row.{Table}
use Rattle.rows.specs.Groups.{known, document01}
use Rattle.by_manual.specs.Changed.{Change, stays, becomes, change_at}
use Rattle.by_manual.specs.Lists.{named_code}
use Rattle.by_manual.specs.Table.{changed, by_manual, table_by}
use Rattle.by_manual.proofs.Changes.{named_changed, others_kept}
use Rattle.encode_rules.specs.Says.{Right}
use Rattle.encode_rules.specs.steps.Search.{live}
use Rattle.encode_rules.specs.steps.Can.{can}
use Rattle.encode_rules.specs.steps.Direct.{Choice, code, nothing, rank, there, able, Beats}
use Rattle.encode_rules.proofs.Bools.{both_true}
use Rattle.encode_rules.proofs.Direct.{direct}
use Rattle.encode_rules.proofs.Here.{plains_by}
use Rattle.encode_rules.proofs.Order.{first_refl}
use Rattle.encode_rules.proofs.Plain.{live_is}
use Rattle.encode_choice.specs.steps.Forms.{form_of, goes_with}
use Rattle.encode_choice.specs.steps.Choose.{asked, choose_named, choose}
use Rattle.encode_choice.specs.steps.Choose as choice
use Rattle.encode_choice.proofs.Chosen.{chosen, chosen_beats}
use Rattle.encode_added.specs.steps.Entries.{Codes, named, below8, nibble, entry_of, goes}
use Rattle.encode_added.specs.steps.Choose.{code_by, choose_by, choice_of, encoded_by}
use Rattle.encode_added.proofs.Parts.{able_in, beats_in}
use Rattle.encode_added.proofs.Apart.{apart}
use Rattle.encode_added.proofs.Added.{outside, number_in_code, row_by, added, added_within, by_names, added_by, choose_added, added_beats}
use Rattle.encode_added.proofs.Numbered.{own_chosen}

-- document 01's unmarked rows stay
pub stays_within : (a b : ℕ) → known a ≡ true → b < 256 → live (document01.row_at a b) ≡ true → document01.row_at a b ≡ by_manual.row_at a b
stays_within a b k l v = by (listed_in named_code a b) refl
  where
    by : (x : Bool) → listed_in named_code a b ≡ x → document01.row_at a b ≡ by_manual.row_at a b
    by true e = absurd (false≢true (sym (live_is (document01.row_at a b) v).0 ∙ (named_changed a b k l e).1))
    by false e = sym (others_kept a b k l e)

-- a choice that beats a code is one
abbrev Coded : Choice → Type 0
Coded (code x y) = Unit {0}
Coded nothing = ⊥

a_code : (t : Table) (c : Choice) (a b : ℕ) (k : Key) → Beats t c a b k → Coded c
a_code t (code x y) a b k h = tt
a_code t nothing a b k h = h

module _ (k : Key) where
  -- document 01's choice, where there is one
  still : Coded (choose k) → choice_of true k ≡ choose k
  unfolding choose_by choose_named
  still h = by (goes k.opcode (asked k)) refl (goes_with (form_of k.opcode) (asked k)) refl h
    where
      by : (g : Bool) → goes k.opcode (asked k) ≡ g → (f : Bool) → goes_with (form_of k.opcode) (asked k) ≡ f → Coded (pick f (choice.choose_by k.opcode (asked k)) nothing)
          → pick g (code_by (entry_of k.opcode).codes (asked k) k.number0) (pick f (choice.choose_by k.opcode (asked k)) nothing) ≡ pick f (choice.choose_by k.opcode (asked k)) nothing
      by true p true q h = absurd (apart k.opcode (asked k) p q)
      by true p false q h = absurd h
      by false p f q h = refl

  -- the changed rows' choice by names, where there is one
  anew : Coded (choose_added k) → choice_of true k ≡ choose_added k
  unfolding choose_by added_by
  anew h = by (goes k.opcode (asked k)) (entry_of k.opcode).codes h
    where
      by : (g : Bool) (c : Codes) → Coded (pick g (by_names c (asked k)) nothing) → pick g (code_by c (asked k) k.number0) (choose_named k.opcode (asked k)) ≡ pick g (by_names c (asked k)) nothing
      by true (named f) h = refl
      by true (below8 a b step) h = absurd h
      by true nibble h = absurd h
      by false c h = absurd h

-- by the manual: a code that can encode the key is document 01's still, or is found by its number, or by its names
manual_beats : (a b : ℕ) (k : Key) → able by_manual a b k ≡ true → Beats by_manual (choice_of true k) a b k
unfolding able
manual_beats a b k u = by (change_at a (b / 16) (b % 16)) refl
  where
    here : (there by_manual a b ≡ true) × (can (by_manual.row_at a b) k ≡ true)
    here = both_true (there by_manual a b) _ u

    second : b < 256
    second = ltb-true _ _ (both_true (ltb b 256) _ (both_true (ltb a 256) _ here.0).1).0

    by : (c : Change) → change_at a (b / 16) (b % 16) ≡ c → Beats by_manual (choice_of true k) a b k
    by stays e =
        let same : document01.row_at a b ≡ by_manual.row_at a b = ap (λ c. changed c (document01.row_at a b)) (sym e) in
        let h = chosen_beats a b k (able_in document01 by_manual refl a b k same ∙ u) in
        subst (λ c. Beats by_manual c a b k) (sym (still k (a_code document01 (choose k) a b k h))) (beats_in document01 by_manual refl stays_within (choose k) a b k same h)
    by (becomes w) e = sub (number_in_code w) refl
      where
        there_is : by_manual.row_at a b ≡ w
        there_is = ap (λ c. changed c (document01.row_at a b)) e

        sub : (n : Bool) → number_in_code w ≡ n → Beats by_manual (choice_of true k) a b k
        sub true n =
            subst (λ c. Beats by_manual c a b k) (sym (own_chosen a b w k second e n (subst (λ w. can w k ≡ true) there_is here.1)))
            (u, first_refl (rank (by_manual.row_at a b) a b))
        sub false n =
            let same : added.row_at a b ≡ by_manual.row_at a b = ap row_by e ∙ ap (λ n. pick n outside w) n ∙ sym there_is in
            let h = added_beats a b k (able_in added by_manual refl a b k same ∙ u) in
            subst (λ c. Beats by_manual c a b k) (sym (anew k (a_code added (choose_added k) a b k h))) (beats_in added by_manual refl added_within (choose_added k) a b k same h)

-- demand 3, of either reading
pub right_by : (r : Bool) (x : Record) → Right (table_by r) x (encoded_by r x)
unfolding choose_by
right_by false x = chosen x
right_by true x = direct by_manual (plains_by true) (choice_of true) manual_beats x
