-- If a choice beats every code that can encode the key, its bytes are the right answer.
-- Assumes nothing.
use Prim.Native.Nat.{ℕ, zero, suc, ◌+◌, ◌<◌}
use mathlib.Core.Path.{◌≡◌, refl, ap₂, ◌∙◌, subst}
use mathlib.Core.Bool.{Bool, true, false}
use mathlib.Core.List.{List, [], ◌∷◌, ◌++◌}
use native.Mathlib.Omega.{arith}
use lib.ListN.{length, length-append}
use borrow.Author.Tests.{ltb-true, lt-ltb}
use Rattle.laws.specs.Choice.{pick}
use Rattle.record.specs.declared.Record.{Record}
use Rattle.record.specs.declared.Key.{Key}
use Rattle.record.specs.Same.{key}
use Rattle.rows.specs.Bytes.{Bytes}
use Rattle.rows.specs.Row.{disp, imm, imm20, Read, num, cond, stop, Row, Table}
use Rattle.rows.specs.Fate.{fate, reach}
use Rattle.rows.specs.Run.{decode_by}
use Rattle.encode_rules.specs.steps.Digits.{digits}
use Rattle.encode_rules.specs.Says.{First, Ahead, Says, bytes, none, Right}
use Rattle.encode_rules.specs.steps.Search.{cond_byte, spell, aim, plain, agrees, bytes_by}
use Rattle.encode_rules.specs.steps.Can.{can}
use Rattle.encode_rules.specs.steps.Direct.{Choice, code, nothing, rank, able, taken, Beats}
use Rattle.encode_rules.proofs.Bools.{both_true, both_so, level}
use Rattle.encode_rules.proofs.Runs.{digits_length, own}
use Rattle.encode_rules.proofs.Plain.{live_is}
use Rattle.encode_rules.proofs.Order.{ahead_trans, first_refl}
use Rattle.encode_rules.proofs.Optimal.{spell_bytes, ran, back, says_so, so_says, says_two, by_code}
use Rattle.encode_rules.proofs.Can.{says_can, can_says, parts}

long : (n v m : ℕ) (xs : List ℕ) → length xs ≡ m → length (digits n v ++ xs) ≡ n + m
long n v m xs e = length-append (digits n v) xs ∙ ap₂ (λ a b. a + b) (digits_length n v) e

-- the bytes that are spelled are those that the reads take
pub spell_length : (rs : List Read) (a : Record) → fate rs ≡ 0 → length (spell rs a) ≡ reach rs
unfolding spell
spell_length [] a h = refl
spell_length (num (disp zero) ∷ rs) a h = spell_length rs a h ∙ omega arith
spell_length (num (disp (suc n)) ∷ rs) a h = long (suc n) _ _ (spell rs a) (spell_length rs a h)
spell_length (num (imm n) ∷ rs) a h = long n _ _ (spell rs a) (spell_length rs a h)
spell_length (num imm20 ∷ rs) a h = long 3 a.imm_wide _ (spell rs a) (spell_length rs a h)
spell_length (cond ∷ rs) a h = long 1 (cond_byte a.opcode) _ (spell rs a) (spell_length rs a h)
spell_length (stop e ∷ rs) a h = absurd (own e h)

module _ (t : Table) (plains : (a b : ℕ) → t.known a ≡ true → b < 256 → plain (t.row_at a b) ≡ true) where
  record Able (a b : ℕ) (k : Key) : Type 0 where
    first : a < 256
    second : b < 256
    here : t.known a ≡ true
    does : can (t.row_at a b) k ≡ true

  able_is : (a b : ℕ) (k : Key) → able t a b k ≡ true → Able a b k
  unfolding able
  able_is a b k e =
      let p = both_true _ _ e in
      let q = both_true _ _ p.0 in
      let s = both_true _ _ q.1 in
      record { first = ltb-true _ _ q.0; second = ltb-true _ _ s.0; here = s.1; does = p.1 }

  -- bytes that encode r have a code that can
  code_can : (a b : ℕ) (xs : List ℕ) (r : Record) → Bytes (a ∷ b ∷ xs) → Says t (a ∷ b ∷ xs) r → able t a b (key r) ≡ true
  unfolding able
  code_can a b xs r h s =
      let q = ran t a b xs r h s in
      both_so (both_so (lt-ltb _ _ h.0) (both_so (lt-ltb _ _ h.1.0) q.known))
      (says_can (t.row_at a b) xs q.into (key r) (plains a b q.known h.1.0) q.runs q.unmarked q.same)

  -- a code that can has bytes that encode r
  can_code : (a b : ℕ) (r : Record) → Able a b (key r) → Says t (bytes_by t a b (key r)) r
  unfolding bytes_by
  can_code a b r h =
      let s = can_says (t.row_at a b) (key r) (plains a b h.here h.second) h.does in
      back t a b _ r (record { into = s.into; known = h.here; runs = s.runs; unmarked = s.unmarked; same = s.same })

  -- so whether a code can is told by decoding the bytes made for it
  pub able_agrees : (a b : ℕ) (r : Record) → a < 256 → b < 256 → able t a b (key r) ≡ agrees (decode_by t (bytes_by t a b (key r))) (key r)
  unfolding bytes_by
  able_agrees a b r ha hb =
      level _ _ (λ e. says_so t (bytes_by t a b (key r)) r (can_code a b r (able_is a b (key r) e)))
      (λ e. code_can a b _ r (ha, (hb, spell_bytes (t.row_at a b).reads (aim (t.row_at a b).face (key r)))) (so_says t (bytes_by t a b (key r)) r e))

  no_refusal : (w : Row) (k : Key) → can w k ≡ true → fate w.reads ≡ 0
  no_refusal w k e = (live_is w (parts w k e).lives).1

  ranked : (x y a b : ℕ) (k : Key) → Able x y k → Able a b k → First (rank (t.row_at x y) x y) (rank (t.row_at a b) a b) → Ahead (bytes_by t x y k) (bytes_by t a b k)
  unfolding bytes_by
  ranked x y a b k p q f =
      let l = spell_length (t.row_at x y).reads (aim (t.row_at x y).face k) (no_refusal (t.row_at x y) k p.does) in
      let m = spell_length (t.row_at a b).reads (aim (t.row_at a b).face k) (no_refusal (t.row_at a b) k q.does) in
      let spelled : ℕ → ℕ → List ℕ = λ c d. spell (t.row_at c d).reads (aim (t.row_at c d).face k) in
      record {
        short = omega (arith, f.0);
        first = λ e.
            let g = f.1 (omega arith) in (
              g.0,
              λ i. let h = g.1 i in (
                h.0,
                λ j. subst (λ z. First (spelled x y) (spelled z b)) i (subst (λ z. First (spelled x y) (spelled x z)) j (first_refl (spelled x y))),
              ),
            );
      }

  module _ (choose : Key → Choice) (beats : (a b : ℕ) (k : Key) → able t a b k ≡ true → Beats t (choose k) a b k) where
    -- bytes that encode r come after the choice's
    abbrev After : Choice → Record → List ℕ → Type 0
    After c r xs = (x : ℕ) × (y : ℕ) × (c ≡ code x y) × (able t x y (key r) ≡ true) × Ahead (bytes_by t x y (key r)) xs

    after : (c : Choice) (r : Record) (xs : List ℕ) → ((a b : ℕ) → able t a b (key r) ≡ true → Beats t c a b (key r)) → Bytes xs → Says t xs r → After c r xs
    after c r xs f h s = says_two t (λ xs. Bytes xs → After c r xs) r (λ a b xs s h. at c f a b xs s h) xs s h
      where
        at : (c : Choice) → ((a b : ℕ) → able t a b (key r) ≡ true → Beats t c a b (key r))
            → (a b : ℕ) (xs : List ℕ) → Says t (a ∷ b ∷ xs) r → Bytes (a ∷ b ∷ xs) → After c r (a ∷ b ∷ xs)
        at (code x y) f a b xs s h =
            let q = code_can a b xs r h s in
            let g = f a b q in
            (x, y, refl, g.0, ahead_trans (ranked x y a b (key r) (able_is x y (key r) g.0) (able_is a b (key r) q) g.1) (by_code t plains a b xs r h s).ahead)
        at nothing f a b xs s h = absurd (f a b (code_can a b xs r h s))

    pub direct : (r : Record) → Right t r (taken t (choose (key r)) (key r))
    unfolding taken bytes_by
    direct r = by (choose (key r)) (λ a b e. beats a b (key r) e)
      where
        by : (c : Choice) → ((a b : ℕ) → able t a b (key r) ≡ true → Beats t c a b (key r)) → Right t r (taken t c (key r))
        by nothing f = λ xs h s. let g = after nothing r xs f h s in let q = g.2 in let z : ◌≡◌ {A = ℕ} 0 1 = cc in absurd (omega arith)
        by (code x y) f = sub (able t x y (key r)) refl
          where
            sub : (b : Bool) → able t x y (key r) ≡ b → Right t r (pick b (bytes (bytes_by t x y (key r))) none)
            sub true e =
                let a = able_is x y (key r) e in
                record {
                  bytes = (a.first, (a.second, spell_bytes (t.row_at x y).reads (aim (t.row_at x y).face (key r))));
                  says = can_code x y r a;
                  least = λ ys h s.
                      let g = after (code x y) r ys f h s in
                      let i : g.0 ≡ x = cc g.2 in
                      let j : g.1 ≡ y = cc g.2 in
                      subst (λ z. Ahead (bytes_by t z y (key r)) ys) i (subst (λ z. Ahead (bytes_by t g.0 z (key r)) ys) j g.4);
                }
            sub false e = λ ys h s.
                let g = after (code x y) r ys f h s in
                let i : g.0 ≡ x = cc g.2 in
                let j : g.1 ≡ y = cc g.2 in
                let u : able t x y (key r) ≡ true = subst (λ z. able t z y (key r) ≡ true) i (subst (λ z. able t g.0 z (key r) ≡ true) j g.3) in
                let z : ◌≡◌ {A = ℕ} 0 1 = cc in
                absurd (omega arith)
