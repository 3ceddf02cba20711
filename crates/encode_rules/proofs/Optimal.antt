-- Over any table of plain rows: `best` is right for every record, and nothing else is.
-- Assumes nothing.
use Prim.Native.Nat.{ℕ, zero, suc, ◌+◌, ◌*◌, ◌/◌, ◌%◌, ◌<◌}
use mathlib.Core.Path.{◌≡◌, refl, sym, ap, ap₂, ◌∙◌, subst}
use mathlib.Core.Bool.{Bool, true, false}
use mathlib.Core.List.{List, [], ◌∷◌, ◌++◌}
use native.Mathlib.Omega.{arith}
use native.Mathlib.Nat.{le_refl}
use native.Mathlib.Decide.{ℕ_discrete}
use borrow.Author.Tests.{eqb-true, eq-eqb}
use Rattle.laws.specs.Choice.{pick}
use Rattle.record.specs.declared.Record.{Record}
use Rattle.record.specs.Answer.{Answer}
use Rattle.record.specs.Numbers.{opcode_no, size_no, width_no, operand_no}
use Rattle.record.specs.declared.Key.{Key}
use Rattle.record.specs.Same.{key}
use Rattle.record.proofs.Same.{dropping, same_dropping}
use Rattle.record.proofs.Apart.{opcodes_apart, sizes_apart, widths_apart, operands_apart}
use Rattle.rows.specs.Bytes.{Bytes}
use Rattle.rows.specs.Row.{disp, imm, imm20, Read, num, cond, stop, Table}
use Rattle.rows.specs.Run.{run_row, begun, decode_by, refusal}
use Rattle.encode_rules.specs.steps.Digits.{digits}
use Rattle.encode_rules.specs.Says.{Ahead, Says, Best, Found, bytes, none, Right}
use Rattle.encode_rules.specs.steps.Search.{spell, aim, other, plain, alike, agrees, aheadb, better, bytes_by, least_of, try, best}
use Rattle.encode_rules.proofs.Bools.{both_true, both_so}
use Rattle.encode_rules.proofs.Runs.{good, Runs, from_run, to_run}
use Rattle.encode_rules.proofs.Spell.{least, kept}
use Rattle.encode_rules.proofs.Aim.{aimed}
use Rattle.encode_rules.proofs.Plain.{plain_is, unmarked, lives}
use Rattle.encode_rules.proofs.Order.{ahead_trans, ahead_refl, ahead_same, ahead_true, ahead_false, Below, below_ahead}

same_so : (k l : Key) → k ≡ l → alike k l ≡ true
unfolding alike
same_so k l h =
    both_so (eq-eqb _ _ (ap (λ x. opcode_no x.opcode) h))
    (both_so (eq-eqb _ _ (ap (λ x. size_no x.size) h))
    (both_so (eq-eqb _ _ (ap (λ x. width_no x.width) h))
    (both_so (eq-eqb _ _ (ap (λ x. operand_no x.base0) h))
    (both_so (eq-eqb _ _ (ap (λ x. operand_no x.base1) h))
    (both_so (eq-eqb _ _ (ap (λ x. operand_no x.base2) h))
    (both_so (eq-eqb _ _ (ap (λ x. x.number0) h)) (both_so (eq-eqb _ _ (ap (λ x. x.number1) h)) (eq-eqb _ _ (ap (λ x. x.number2) h)))))))))

so_same : (k l : Key) → alike k l ≡ true → k ≡ l
unfolding alike
so_same k l e =
    let a = both_true _ _ e in
    let b = both_true _ _ a.1 in
    let c = both_true _ _ b.1 in
    let d = both_true _ _ c.1 in
    let f = both_true _ _ d.1 in
    let g = both_true _ _ f.1 in
    let h = both_true _ _ g.1 in
    let j = both_true _ _ h.1 in
    let opcode : k.opcode ≡ l.opcode = opcodes_apart _ _ (eqb-true _ _ a.0) in
    let size : k.size ≡ l.size = sizes_apart _ _ (eqb-true _ _ b.0) in
    let width : k.width ≡ l.width = widths_apart _ _ (eqb-true _ _ c.0) in
    let base0 : k.base0 ≡ l.base0 = operands_apart _ _ (eqb-true _ _ d.0) in
    let base1 : k.base1 ≡ l.base1 = operands_apart _ _ (eqb-true _ _ f.0) in
    let base2 : k.base2 ≡ l.base2 = operands_apart _ _ (eqb-true _ _ g.0) in
    let number0 : k.number0 ≡ l.number0 = eqb-true _ _ h.0 in
    let number1 : k.number1 ≡ l.number1 = eqb-true _ _ j.0 in
    let number2 : k.number2 ≡ l.number2 = eqb-true _ _ j.1 in
    λ i. record {
      opcode = opcode i;
      size = size i;
      width = width i;
      base0 = base0 i;
      base1 = base1 i;
      base2 = base2 i;
      number0 = number0 i;
      number1 = number1 i;
      number2 = number2 i;
    }

digits_bytes : (n v : ℕ) (xs : List ℕ) → Bytes xs → Bytes (digits n v ++ xs)
digits_bytes zero v xs h = h
digits_bytes (suc n) v xs h = (omega arith, digits_bytes n (v / 256) xs h)

pub spell_bytes : (rs : List Read) (t : Record) → Bytes (spell rs t)
unfolding spell
spell_bytes [] t = tt
spell_bytes (num (disp zero) ∷ rs) t = spell_bytes rs t
spell_bytes (num (disp (suc n)) ∷ rs) t = digits_bytes (suc n) _ (spell rs t) (spell_bytes rs t)
spell_bytes (num (imm n) ∷ rs) t = digits_bytes n _ (spell rs t) (spell_bytes rs t)
spell_bytes (num imm20 ∷ rs) t = digits_bytes 3 _ (spell rs t) (spell_bytes rs t)
spell_bytes (cond ∷ rs) t = digits_bytes 1 _ (spell rs t) (spell_bytes rs t)
spell_bytes (stop e ∷ rs) t = tt

-- the least of many answers
module _ (f : ℕ → Found) where
  abbrev Judged : ℕ → Found → Type 0
  Judged k none = (j : ℕ) → j < k → f j ≡ none
  Judged k (bytes xs) = ((j : ℕ) × (j < k) × (f j ≡ bytes xs)) × ((j : ℕ) → j < k → (ys : List ℕ) → f j ≡ bytes ys → Ahead xs ys)

  more : (P : ℕ → Type 0) (k : ℕ) → ((j : ℕ) → j < k → P j) → P k → (j : ℕ) → j < suc k → P j
  more P k h q j l = by (ℕ_discrete j k)
    where
      by : Dec (j ≡ k) → P j
      by (yes e) = subst P (sym e) q
      by (no e) = h j (omega arith)

  judge_step : (k : ℕ) (x : Found) → f k ≡ x → (y : Found) → Judged k y → Judged (suc k) (better x y)
  judge_step k none e none h = more (λ j. f j ≡ none) k h e
  judge_step k none e (bytes ys) h = (
    (h.0.0, omega (arith, h.0.1), h.0.2),
    more (λ j. (zs : List ℕ) → f j ≡ bytes zs → Ahead ys zs) k h.1 (λ zs q. let z : ◌≡◌ {A = ℕ} 0 1 = cc in absurd (omega arith)),
  )
  judge_step k (bytes xs) e none h = (
    (k, omega arith, e),
    more (λ j. (zs : List ℕ) → f j ≡ bytes zs → Ahead xs zs) k (λ j l zs q. let g : f j ≡ none = h j l in let z : ◌≡◌ {A = ℕ} 0 1 = cc in absurd (omega arith))
        (λ zs q. let g : xs ≡ zs = cc in subst (Ahead xs) g (ahead_refl xs)),
  )
  judge_step k (bytes xs) e (bytes ys) h = by (aheadb xs ys) refl
    where
      by : (b : Bool) → aheadb xs ys ≡ b → Judged (suc k) (pick b (bytes xs) (bytes ys))
      by true q = (
        (k, omega arith, e),
        more (λ j. (zs : List ℕ) → f j ≡ bytes zs → Ahead xs zs) k (λ j l zs g. ahead_trans (ahead_true xs ys q) (h.1 j l zs g))
            (λ zs p. let g : xs ≡ zs = cc in subst (Ahead xs) g (ahead_refl xs)),
      )
      by false q = (
        (h.0.0, omega (arith, h.0.1), h.0.2),
        more (λ j. (zs : List ℕ) → f j ≡ bytes zs → Ahead ys zs) k h.1
            (λ zs p. let g : xs ≡ zs = cc in subst (Ahead ys) g (ahead_false xs ys q)),
      )

  judge : (k : ℕ) → Judged k (least_of f k)
  unfolding least_of
  judge zero = λ j l. absurd (omega arith)
  judge (suc k) = judge_step k (f k) refl (least_of f k) (judge k)

-- a passed test of a first byte
passed : (b : Bool) (y : Answer) (n : ℕ) → (pick b y (refusal 4 n)).refusal ≡ 0 → b ≡ true
passed true y n z = refl
passed false y n z = absurd (omega arith)

module _ (t : Table) where
  -- no two answers are right
  pub unique : (r : Record) (x y : Found) → Right t r x → Right t r y → x ≡ y
  unique r (bytes xs) (bytes ys) p q = ap bytes (ahead_same xs ys (p.least ys q.bytes q.says) (q.least xs p.bytes p.says))
  unique r (bytes xs) none p q = absurd (q xs p.bytes p.says)
  unique r none (bytes ys) p q = absurd (p ys q.bytes q.says)
  unique r none none p q = refl

  -- bytes that encode r have two bytes at least, a known first one, and a row that runs to the record
  pub record Ran (a b : ℕ) (xs : List ℕ) (r : Record) : Type 0 where
    pub into : Record
    pub known : t.known a ≡ true
    pub runs : Runs (t.row_at a b).reads xs (t.row_at a b).face (begun (t.row_at a b).number) into
    pub unmarked : into.marked ≡ false
    pub same : key into ≡ key r

  pub ran : (a b : ℕ) (xs : List ℕ) (r : Record) → Bytes (a ∷ b ∷ xs) → Says t (a ∷ b ∷ xs) r → Ran a b xs r
  unfolding decode_by run_row
  ran a b xs r h s =
      let w = t.row_at a b in
      let k : t.known a ≡ true = passed (t.known a) (run_row w (a ∷ b ∷ xs)) 1 s.accepted in
      let e : decode_by t (a ∷ b ∷ xs) ≡ run_row w (a ∷ b ∷ xs) = ap (λ x. pick x (run_row w (a ∷ b ∷ xs)) (refusal 4 1)) k in
      record {
        into = (decode_by t (a ∷ b ∷ xs)).inst;
        known = k;
        runs = from_run w.reads (a ∷ b ∷ xs) w.face (begun w.number) (decode_by t (a ∷ b ∷ xs)) h (sym e) s.accepted;
        unmarked = s.unmarked;
        same = s.same;
      }

  -- and bytes whose row runs to such a record decode to it, and encode r
  run_to : (a b : ℕ) (xs : List ℕ) (r : Record) (h : Ran a b xs r) → decode_by t (a ∷ b ∷ xs) ≡ good h.into
  unfolding decode_by run_row
  run_to a b xs r h =
      let w = t.row_at a b in
      ap (λ x. pick x (run_row w (a ∷ b ∷ xs)) (refusal 4 1)) h.known
      ∙ to_run w.reads xs (a ∷ b ∷ xs) w.face (begun w.number) h.into (omega arith) refl h.runs

  pub back : (a b : ℕ) (xs : List ℕ) (r : Record) → Ran a b xs r → Says t (a ∷ b ∷ xs) r
  back a b xs r h =
      let e = run_to a b xs r h in
      record { accepted = ap (λ x. x.refusal) e; unmarked = ap (λ x. x.inst.marked) e ∙ h.unmarked; same = ap (λ x. key x.inst) e ∙ h.same }

  -- fewer than two bytes encode nothing
  pub says_two : (P : List ℕ → Type 0) (r : Record) → ((a b : ℕ) (xs : List ℕ) → Says t (a ∷ b ∷ xs) r → P (a ∷ b ∷ xs)) → (xs : List ℕ) → Says t xs r → P xs
  unfolding decode_by
  says_two P r f [] s = absurd (omega (arith, s.accepted))
  says_two P r f (a ∷ []) s = absurd (no (t.known a) s.accepted)
    where
      no : (k : Bool) → (pick k (refusal 1 1) (refusal 4 1)).refusal ≡ 0 → ⊥
      no true z = omega arith
      no false z = omega arith
  says_two P r f (a ∷ b ∷ xs) s = f a b xs s

  -- the search's test passes if the bytes encode r, and only then
  pub says_so : (xs : List ℕ) (r : Record) → Says t xs r → agrees (decode_by t xs) (key r) ≡ true
  says_so xs r s = both_so (eq-eqb _ _ s.accepted) (both_so (ap other s.unmarked) (same_so _ (key r) s.same))

  pub so_says : (xs : List ℕ) (r : Record) → agrees (decode_by t xs) (key r) ≡ true → Says t xs r
  so_says xs r e =
      let p = both_true _ _ e in
      let q = both_true _ _ p.1 in
      record { accepted = eqb-true _ _ p.0; unmarked = unmarked _ q.0; same = so_same _ (key r) q.1 }

  -- so it takes the bytes it makes for a code if they encode r
  taken_so : (a b : ℕ) (r : Record) → Says t (bytes_by t a b (key r)) r → try t a b (key r) ≡ bytes (bytes_by t a b (key r))
  unfolding try
  taken_so a b r s = ap (λ x. pick x (bytes (bytes_by t a b (key r))) none) (says_so (bytes_by t a b (key r)) r s)

  made_bytes : (a b : ℕ) (r : Record) → a < 256 → b < 256 → Bytes (bytes_by t a b (key r))
  unfolding bytes_by
  made_bytes a b r ha hb = (ha, (hb, spell_bytes (t.row_at a b).reads (aim (t.row_at a b).face (key r))))

  -- and only then
  so_taken : (a b : ℕ) (r : Record) (xs : List ℕ) → a < 256 → b < 256 → try t a b (key r) ≡ bytes xs → Bytes xs × Says t xs r
  unfolding try
  so_taken a b r xs ha hb = by (agrees (decode_by t (bytes_by t a b (key r))) (key r)) refl
    where
      by : (g : Bool) → agrees (decode_by t (bytes_by t a b (key r))) (key r) ≡ g → pick g (bytes (bytes_by t a b (key r))) none ≡ bytes xs → Bytes xs × Says t xs r
      by true k f =
          let e : bytes_by t a b (key r) ≡ xs = cc in
          subst (λ ys. Bytes ys × Says t ys r) e (made_bytes a b r ha hb, so_says (bytes_by t a b (key r)) r k)
      by false k f = let z : ◌≡◌ {A = ℕ} 0 1 = cc in absurd (omega arith)

  module _ (plains : (a b : ℕ) → t.known a ≡ true → b < 256 → plain (t.row_at a b) ≡ true) where
    -- if any bytes with a code encode r, then so do those that the search makes for this code, they are ahead, and none of their bits is dropped
    pub record Spelled (a b : ℕ) (xs : List ℕ) (r : Record) : Type 0 where
      pub says : Says t (bytes_by t a b (key r)) r
      pub ahead : Ahead (bytes_by t a b (key r)) (a ∷ b ∷ xs)
      pub kept : (decode_by t (bytes_by t a b (key r))).inst.dropped ≡ false

    pub by_code : (a b : ℕ) (xs : List ℕ) (r : Record) → Bytes (a ∷ b ∷ xs) → Says t (a ∷ b ∷ xs) r → Spelled a b xs r
    unfolding bytes_by
    by_code a b xs r h s =
        let w = t.row_at a b in
        let q = ran a b xs r h s in
        let f = kept w.reads xs w.face (begun w.number) q.into q.runs in
        let p = plain_is w (plains a b q.known h.1.0) (lives w xs q.into q.runs q.unmarked) in
        let l = least w.reads xs w.face (begun w.number) q.into p.tidy q.runs in
        let e : spell w.reads q.into ≡ spell w.reads (aim w.face (key r)) =
        aimed w.face q.into (key r) f.faced.op0 f.faced.op1 q.same w.reads (omega (arith, p.disps)) p.imms p.once in
        let again : Ran a b (spell w.reads (aim w.face (key r))) r =
        record {
          into = dropping false q.into;
          known = q.known;
          runs = subst (λ ys. Runs w.reads ys w.face (begun w.number) (dropping false q.into)) e l.again;
          unmarked = q.unmarked;
          same = same_dropping false q.into ∙ q.same;
        } in
        record {
          says = back a b (spell w.reads (aim w.face (key r))) r again;
          ahead = below_ahead (bytes_by t a b (key r)) l.more (a ∷ b ∷ xs) (le_refl a, (le_refl b, subst (λ ys. Below (ys ++ l.more) xs) e l.below));
          kept = ap (λ x. x.inst.dropped) (run_to a b (spell w.reads (aim w.face (key r))) r again);
        }

    -- request A6: the right bytes drop nothing, since a zero nibble comes before any other
    pub none_dropped : (r : Record) (xs : List ℕ) → Best t r xs → (decode_by t xs).inst.dropped ≡ false
    none_dropped r xs h = says_two (λ xs. Best t r xs → (decode_by t xs).inst.dropped ≡ false) r at xs h.says h
      where
        at : (a b : ℕ) (xs : List ℕ) → Says t (a ∷ b ∷ xs) r → Best t r (a ∷ b ∷ xs) → (decode_by t (a ∷ b ∷ xs)).inst.dropped ≡ false
        at a b xs s h =
            let c = by_code a b xs r h.bytes s in
            let e : bytes_by t a b (key r) ≡ a ∷ b ∷ xs = ahead_same _ _ c.ahead (h.least _ (made_bytes a b r h.bytes.0 h.bytes.1.0) c.says) in
            subst (λ ys. (decode_by t ys).inst.dropped ≡ false) e c.kept

    -- the pair of bytes that any bytes begin with is one of the search's
    abbrev Met : Record → List ℕ → Type 0
    Met r xs = (k : ℕ) × (k < 65536) × (ys : List ℕ) × (try t (k / 256) (k % 256) (key r) ≡ bytes ys) × Ahead ys xs

    begins : (r : Record) (xs : List ℕ) → Bytes xs → Says t xs r → Met r xs
    begins r xs h s = says_two (λ xs. Bytes xs → Met r xs) r at xs s h
      where
        at : (a b : ℕ) (xs : List ℕ) → Says t (a ∷ b ∷ xs) r → Bytes (a ∷ b ∷ xs) → Met r (a ∷ b ∷ xs)
        at a b xs s h =
            let c = by_code a b xs r h s in
            let hi : (256 * a + b) / 256 ≡ a = omega (arith, h.1.0) in
            let lo : (256 * a + b) % 256 ≡ b = omega (arith, h.1.0) in
            (256 * a + b, omega (arith, h.0, h.1.0), bytes_by t a b (key r), ap₂ (λ x y. try t x y (key r)) hi lo ∙ taken_so a b r c.says, c.ahead)

    pub optimal : (r : Record) → Right t r (best t (key r))
    unfolding best
    optimal r = by (least_of (λ i. try t (i / 256) (i % 256) (key r)) 65536) (judge (λ i. try t (i / 256) (i % 256) (key r)) 65536)
      where
        by : (x : Found) → Judged (λ i. try t (i / 256) (i % 256) (key r)) 65536 x → Right t r x
        by none h = λ xs b s. let g = begins r xs b s in let q = h g.0 g.1 in let p = g.3 in let z : ◌≡◌ {A = ℕ} 0 1 = cc in absurd (omega arith)
        by (bytes xs) h =
            let l = h.0.1 in
            let s = so_taken (h.0.0 / 256) (h.0.0 % 256) r xs (omega arith) (omega arith) h.0.2 in
            record {
              bytes = s.0;
              says = s.1;
              least = λ ys b q. let g = begins r ys b q in ahead_trans (h.1 g.0 g.1 g.2 g.3) g.4;
            }
