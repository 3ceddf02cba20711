-- A place that a set bit names has to be the last start that is left; a bit that is not set changes nothing.
use Rattle.std.proofs.Common.{◌≡◌, ℕ, suc, ◌-◌, ◌<◌, sym, ◌∙◌, arith}
use Rattle.std.proofs.lemmas.Bool.Decides.{Decides-at, Decides-like}
use Rattle.replay.proofs.Answer.{refuted}
use Rattle.replay.proofs.Places.{none_left, unset, down, up, at_end}
use Rattle.replay.proofs.sweeping.are_places.Goals.{then-rest-eq1+in-Some+else-last-place, else-rest-eq1}
use Rattle.replay.proofs.sweeping.are_places.Goals as goal

-- the place that a turn passes
passed : (place : ℕ) → 0 < place → place ≡ suc (place - 1)
passed place h = omega arith

pub returns-in_default : goal.returns-in_default
returns-in_default c =
    let l = c.loop-place in
    refuted (λ h. none_left l.rest (passed l.place c.loop-place-test.true) c.if-rest-eq1.true c.in_default.ensures.cases (l.invariant.down h))

pub returns-then-last-place : goal.returns-then-last-place
returns-then-last-place c =
    let l = c.loop-place in
    refuted (λ h. c.if-last-place.true (down l.rest (passed l.place c.loop-place-test.true) c.if-rest-eq1.true c.in-Some.ensures.cases.0 (l.invariant.down h)).1)

pub loop-place-preserved : goal.loop-place-preserved
loop-place-preserved c =
    let l = c.loop-place in
    let p = passed l.place c.loop-place-test.true in
    elim c.if-rest-eq1.branch [
      | then-rest-eq1+in-Some+else-last-place w ↦
          let odd = w.if-rest-eq1.true in
          let cut = w.in-Some.ensures.cases.0 in
          rw w.left-is
          (record {
            down = λ h. (down l.rest p odd cut (l.invariant.down h)).0;
            up = λ b. l.invariant.up (up l.rest p odd cut w.if-last-place.false b);
          })
      | else-rest-eq1 w ↦
          let same = unset l.rest p w.if-rest-eq1.false in
          rw w.left-is (record { down = λ h. l.invariant.down h ∙ same; up = λ b. l.invariant.up (b ∙ sym same) })
    ]

pub returns : goal.returns
returns c =
    let l = c.loop-place in
    Decides-like _ l.invariant.up l.invariant.down (Decides-at _ _ c.is_empty.ensures (at_end l.left.now l.rest (omega arith)))
