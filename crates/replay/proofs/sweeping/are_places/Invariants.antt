-- What is asked of the starts that are left holds exactly if what was asked of all does.
use Rattle.std.proofs.Common.{◌≡◌}
use Rattle.replay.specs.Sweeping.{places}
use Rattle.replay.proofs.sweeping.are_places.Given as goal

abbrev pub invariant-loop-place : goal.invariant-loop-place
invariant-loop-place l = record {
  down : l.fn.starts ≡ places 16 l.fn.bits → l.left ≡ places l.place l.rest;
  up : l.left ≡ places l.place l.rest → l.fn.starts ≡ places 16 l.fn.bits;
}
