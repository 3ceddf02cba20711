-- `m16c_decode::fill_code` meets its contract: what each arm's function answers is what stands at the code.
-- Assumes nothing.
use Prim.Native.Nat.{◌/◌, ◌%◌}
use mathlib.Core.Path.{refl, sym, ◌∙◌}
use mathlib.Core.Logic.{inl, inr}
use native.Mathlib.Omega.{arith}
use borrow.Author.Rules.{rules}
use borrow.Author.Tests.{ne_eqb}
use Rattle.record.specs.declared.Width.TheVariants.{B}
use Rattle.rows.specs.Rows.{row74, row76, row_7C}
use Rattle.rows.specs.Run.{run_row}
use Rattle.rows.specs.Groups.{known, rows_of}
use Rattle.by_manual.specs.Changed.{change74, change76, change_at}
use Rattle.m16c_decode.proofs.Small.{same_small, same_filled}
use Rattle.m16c_decode.proofs.There.{pair_changed, pair, key_changed, alone, by_change, a_list, a_pair, outside}
use Rattle.m16c_decode.proofs.fill_code.Goals.{in_default-via-then-a-lt116, in_default-via-else-a-lt116+else-a-lt118+else-a-lt120+else-a-lt122}
use Rattle.m16c_decode.proofs.fill_code.Goals.{else-this-ne0-5-via-then-this-ne0-5+else-in_74, else-this-ne0-5-via-else-this-ne0-5}
use Rattle.m16c_decode.proofs.fill_code.Goals.{else-this-ne0-6-via-then-this-ne0-6+else-in_76, else-this-ne0-6-via-else-this-ne0-6}
use Rattle.m16c_decode.proofs.fill_code.Goals.{else-this-ne0-2-via-then-this-ne0-2+else-in_7C, else-this-ne0-2-via-else-this-ne0-2}
use Rattle.m16c_decode.proofs.fill_code.Goals as goal

pub fill_changed-requires-then-in_74 : goal.fill_changed-requires-then-in_74
unfolding change_at
fill_changed-requires-then-in_74 g c =
    let new = pair_changed c.args.a c.args.b 0x74 (omega arith) (omega arith) change74 ((tt, refl), refl) c.in_74.ensures ∙ c.if-in_74.true in
    (new, same_small (by_change _ c.args.a c.args.b c.args.bs.now (rw (ne_eqb _ 0 c.if-this-ne0-5.true) refl) (omega (arith, c.ranges.a)) new) c.requires)

pub fill_74-requires : goal.fill_74-requires
unfolding known rows_of change_at
fill_74-requires g c =
    same_small (
    pair c.args.a c.args.b 0x74 (omega arith) (omega arith) c.args.bs.now row74 _ change74 ((tt, refl), refl) ((tt, refl), refl) (
    elim c.else-this-ne0-5.branch [
      | else-this-ne0-5-via-then-this-ne0-5+else-in_74 w ↦ inr (λ k. sym w.if-in_74.false ∙ w.in_74.ensures k)
      | else-this-ne0-5-via-else-this-ne0-5 w ↦ inl (rw w.if-this-ne0-5.false refl)
    ]
    )
    ) c.requires

pub returns-else-this-ne0-5 : goal.returns-else-this-ne0-5
unfolding known rows_of change_at
returns-else-this-ne0-5 g c =
    same_filled (
    pair c.args.a c.args.b 0x74 (omega arith) (omega arith) c.args.bs.now row74 _ change74 ((tt, refl), refl) ((tt, refl), refl) (
    elim c.else-this-ne0-5.branch [
      | else-this-ne0-5-via-then-this-ne0-5+else-in_74 w ↦ inr (λ k. sym w.if-in_74.false ∙ w.in_74.ensures k)
      | else-this-ne0-5-via-else-this-ne0-5 w ↦ inl (rw w.if-this-ne0-5.false refl)
    ]
    )
    ) c.fill_74.ensures

pub fill_changed-requires-then-in_76 : goal.fill_changed-requires-then-in_76
unfolding change_at
fill_changed-requires-then-in_76 g c =
    let new = pair_changed c.args.a c.args.b 0x76 (omega arith) (omega arith) change76 ((tt, refl), refl) c.in_76.ensures ∙ c.if-in_76.true in
    (new, same_small (by_change _ c.args.a c.args.b c.args.bs.now (rw (ne_eqb _ 0 c.if-this-ne0-6.true) refl) (omega (arith, c.ranges.a)) new) c.requires)

pub fill_76-requires : goal.fill_76-requires
unfolding known rows_of change_at
fill_76-requires g c =
    same_small (
    pair c.args.a c.args.b 0x76 (omega arith) (omega arith) c.args.bs.now row76 _ change76 ((tt, refl), refl) ((tt, refl), refl) (
    elim c.else-this-ne0-6.branch [
      | else-this-ne0-6-via-then-this-ne0-6+else-in_76 w ↦ inr (λ k. sym w.if-in_76.false ∙ w.in_76.ensures k)
      | else-this-ne0-6-via-else-this-ne0-6 w ↦ inl (rw w.if-this-ne0-6.false refl)
    ]
    )
    ) c.requires

pub returns-else-this-ne0-6 : goal.returns-else-this-ne0-6
unfolding known rows_of change_at
returns-else-this-ne0-6 g c =
    same_filled (
    pair c.args.a c.args.b 0x76 (omega arith) (omega arith) c.args.bs.now row76 _ change76 ((tt, refl), refl) ((tt, refl), refl) (
    elim c.else-this-ne0-6.branch [
      | else-this-ne0-6-via-then-this-ne0-6+else-in_76 w ↦ inr (λ k. sym w.if-in_76.false ∙ w.in_76.ensures k)
      | else-this-ne0-6-via-else-this-ne0-6 w ↦ inl (rw w.if-this-ne0-6.false refl)
    ]
    )
    ) c.fill_76.ensures

pub fill_changed-requires-then-in_7C : goal.fill_changed-requires-then-in_7C
unfolding change_at
fill_changed-requires-then-in_7C g c =
    let new = key_changed c.in-124.is c.args.b (sym (c.in_7C.ensures B) ∙ c.if-in_7C.true) in
    (new, same_small (by_change _ c.args.a c.args.b c.args.bs.now (rw (ne_eqb _ 0 c.if-this-ne0-2.true) refl) (omega (arith, c.ranges.a)) new) c.requires)

pub fill_7C-requires : goal.fill_7C-requires
unfolding known rows_of change_at
fill_7C-requires g c =
    same_small {x = run_row (row_7C (c.args.b / 16) (c.args.b % 16)) c.args.bs.now} (
    alone c.in-124.is c.args.b _ c.args.bs.now refl (
    elim c.else-this-ne0-2.branch [
      | else-this-ne0-2-via-then-this-ne0-2+else-in_7C w ↦ inr (sym (w.in_7C.ensures B) ∙ w.if-in_7C.false)
      | else-this-ne0-2-via-else-this-ne0-2 w ↦ inl (rw w.if-this-ne0-2.false refl)
    ]
    )
    ) c.requires

pub returns-else-this-ne0-2 : goal.returns-else-this-ne0-2
unfolding known rows_of change_at
returns-else-this-ne0-2 g c =
    same_filled (
    alone c.in-124.is c.args.b _ c.args.bs.now refl (
    elim c.else-this-ne0-2.branch [
      | else-this-ne0-2-via-then-this-ne0-2+else-in_7C w ↦ inr (sym (w.in_7C.ensures B) ∙ w.if-in_7C.false)
      | else-this-ne0-2-via-else-this-ne0-2 w ↦ inl (rw w.if-this-ne0-2.false refl)
    ]
    )
    ) c.fill_7C.ensures

-- a first byte of none of these: below the pairs, or past them
pub fill_list-requires : goal.fill_list-requires
fill_list-requires g c =
    same_small (a_list _ c.args.a c.args.b c.args.bs.now (omega (arith, c.ranges.a)) (search rules) (elim c.in_default.branch [ in_default-via-then-a-lt116 w ↦ inl (omega arith) | in_default-via-else-a-lt116+else-a-lt118+else-a-lt120+else-a-lt122 w ↦ inr (omega arith) ]) c.if-a-gt193.true) c.requires

pub returns-then-a-gt193 : goal.returns-then-a-gt193
returns-then-a-gt193 g c =
    same_filled (a_list _ c.args.a c.args.b c.args.bs.now (omega (arith, c.ranges.a)) (search rules) (elim c.in_default.branch [ in_default-via-then-a-lt116 w ↦ inl (omega arith) | in_default-via-else-a-lt116+else-a-lt118+else-a-lt120+else-a-lt122 w ↦ inr (omega arith) ]) c.if-a-gt193.true) c.fill_list.ensures

pub fill_two-requires : goal.fill_two-requires
fill_two-requires g c =
    same_small (a_pair _ c.args.a c.args.b c.args.bs.now (omega (arith, c.ranges.a)) (search rules) (elim c.in_default.branch [ in_default-via-then-a-lt116 w ↦ inl (omega arith) | in_default-via-else-a-lt116+else-a-lt118+else-a-lt120+else-a-lt122 w ↦ inr (omega arith) ]) (sym c.is_two.ensures ∙ c.if-is_two.true)) c.requires

pub returns-then-is_two : goal.returns-then-is_two
returns-then-is_two g c =
    same_filled (a_pair _ c.args.a c.args.b c.args.bs.now (omega (arith, c.ranges.a)) (search rules) (elim c.in_default.branch [ in_default-via-then-a-lt116 w ↦ inl (omega arith) | in_default-via-else-a-lt116+else-a-lt118+else-a-lt120+else-a-lt122 w ↦ inr (omega arith) ]) (sym c.is_two.ensures ∙ c.if-is_two.true)) c.fill_two.ensures

pub returns-else-is_two : goal.returns-else-is_two
returns-else-is_two g c =
    same_filled (outside _ c.args.a c.args.b c.args.bs.now (omega (arith, c.ranges.a)) (search rules) (elim c.in_default.branch [ in_default-via-then-a-lt116 w ↦ inl (omega arith) | in_default-via-else-a-lt116+else-a-lt118+else-a-lt120+else-a-lt122 w ↦ inr (omega arith) ]) c.if-a-gt193.false (sym c.is_two.ensures ∙ c.if-is_two.false)) c.fill_outside.ensures
