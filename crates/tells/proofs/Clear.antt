-- What is known of bytes that an unmarked row accepts, and of which it drops nothing.
-- Assumes nothing.
use Prim.Native.Nat.{ℕ, suc, ◌<◌}
use mathlib.Core.Path.{◌≡◌, refl, sym, ap, ap₂, ◌∙◌}
use mathlib.Core.Bool.{true}
use mathlib.Core.List.{List, ◌∷◌}
use native.Mathlib.Omega.{arith}
use lib.Dec.{T}
use lib.ListN.{length, take}
use lib.Seq.{take_at}
use Rattle.laws.specs.Choice.{pick}
use Rattle.record.specs.declared.Key.{Key}
use Rattle.record.specs.declared.Record.{Record}
use Rattle.record.specs.Same.{key}
use Rattle.rows.specs.Row.{Row}
use Rattle.rows.specs.Groups.{document01}
use Rattle.rows.specs.Run.{begun, refusal, run_row, decode_by, decode_rows}
use Rattle.rows.proofs.Spans.{Accepted, accepted}
use Rattle.rows.proofs.Taken.{counted}
use Rattle.encode_rules.specs.steps.Search.{spell, aim, live}
use Rattle.encode_rules.proofs.Aim.{aimed}
use Rattle.encode_rules.proofs.Direct.{spell_length}
use Rattle.encode_rules.proofs.Here.{plains}
use Rattle.encode_rules.proofs.Plain.{Plain, plain_is, lives}
use Rattle.encode_rules.proofs.Runs.{Runs, from_run}
use Rattle.encode_rules.proofs.Spell.{Faced, kept}
use Rattle.tells.specs.Tells.{folded, standing, instruction, Clear}
use Rattle.tells.specs.steps.Stamp.{stamp_of, code_stamp}
use Rattle.tells.proofs.Limits.{fullb, full}
use Rattle.tells.proofs.Line.{Led}
use Rattle.tells.proofs.Shown.{Shown, shown}
use Rattle.tells.proofs.Spelled.{spelled, took}
use Rattle.tells.proofs.Stamped.{stamped}

-- what is known of clear bytes: their row, how it ran, and what the record has of it
module _ (a b : ℕ) (xs : List ℕ) (c : Clear (a ∷ b ∷ xs)) where
  abbrev pub row : Row
  row = document01.row_at a b

  abbrev pub made : Record
  made = (decode_rows (a ∷ b ∷ xs)).inst

  pub by_row : Accepted document01 a b xs made
  by_row = accepted document01 a b xs c.accepted

  pub second : b < 256
  second = c.bytes.1.0

  runs : Runs row.reads xs row.face (begun row.number) made
  unfolding decode_by run_row
  runs =
      let e : decode_rows (a ∷ b ∷ xs) ≡ run_row row (a ∷ b ∷ xs) = ap (λ x. pick x (run_row row (a ∷ b ∷ xs)) (refusal 4 1)) by_row.known in
      from_run row.reads (a ∷ b ∷ xs) row.face (begun row.number) (decode_rows (a ∷ b ∷ xs)) c.bytes (sym e) c.accepted

  pub lively : live row ≡ true
  lively = lives row xs made runs c.unmarked

  plainly : Plain row
  plainly = plain_is row (plains a b by_row.known second) lively

  as_shown : Shown row
  as_shown = shown a b by_row.known second lively

  pub face : Faced row.face made
  face = (kept row.reads xs row.face (begun row.number) made runs).faced

  pub led : Led made
  led = record { no_third = face.op2; in_order = λ e. face.op1 ∙ as_shown.order (sym face.op0 ∙ e) }

  pub stamp_is : stamp_of made ≡ code_stamp a b
  unfolding code_stamp
  stamp_is = stamped row xs made plainly.tidy as_shown runs

  pub fully : T (fullb row)
  fully = full a b by_row.known second lively

  -- the bytes of the instruction are the code's and those that `spell` gives
  pub bytes_are : instruction (a ∷ b ∷ xs) ≡ a ∷ folded a b ∷ spell row.reads made
  bytes_are =
      let e = spelled row.reads xs row.face (begun row.number) made plainly.tidy c.undropped runs in
      let n : (decode_rows (a ∷ b ∷ xs)).taken ≡ suc (suc (length (spell row.reads made))) =
      omega (
        arith,
        (counted document01 (a ∷ b ∷ xs)).accepted c.accepted,
        took row.reads xs row.face (begun row.number) made runs,
        spell_length row.reads made by_row.alive,
      ) in
      ap₂ (λ m ys. standing (take m (a ∷ b ∷ ys))) n e.1 ∙ ap (λ ys. a ∷ folded a b ∷ ys) (take_at (spell row.reads made) e.0 _ refl)

  -- they are told by what counts of the record
  pub by_key : (k : Key) → key made ≡ k → spell row.reads made ≡ spell row.reads (aim row.face k)
  by_key k e = aimed row.face made k face.op0 face.op1 e row.reads (omega (arith, plainly.disps)) plainly.imms plainly.once
