-- `encode::write::write_number` meets its contract: a byte at a time.
-- Assumes nothing.
use Prim.Native.Nat.{ℕ, suc, ◌+◌, ◌-◌, ◌/◌, ◌%◌, ◌<◌}
use mathlib.Core.Path.{◌≡◌, sym, ap, ap₂, ◌∙◌}
use mathlib.Core.List.{List}
use native.Mathlib.Omega.{arith}
use lib.ListN.{length, set}
use Rattle.laws.specs.Over.{put}
use Rattle.laws.proofs.Over.{put_none, put_one}
use Rattle.encode_rules.specs.steps.Digits.{digits}
use Rattle.encode.proofs.write.write_number.Goals as goal

step : (l : List ℕ) (at n v : ℕ) {m next : ℕ} → n ≡ suc m → next ≡ at + 1 → at < length l → put next (digits m (v / 256)) (set l at (v % 256)) ≡ put at (digits n v) l
step l at n v {m} {next} e f h =
    ap (λ a. put a (digits m (v / 256)) (set l at (v % 256))) f
    ∙ sym (put_one at l (v % 256) (digits m (v / 256)) h)
    ∙ ap (λ n. put at (digits n v) l) (sym e)

pub loop-k-init : goal.loop-k-init
loop-k-init c = ap₂ (λ at n. put at (digits n c.args.number.value) c.args.out.now) (omega arith) (omega arith)

pub loop-k-preserved : goal.loop-k-preserved
loop-k-preserved c =
    let n = c.from-k-end.ensures in
    step c.loop-k.out (c.args.at + c.loop-k.k) (c.args.number.count - c.loop-k.k) c.loop-k.rest (omega (arith, n, c.loop-k-test.true)) (omega arith)
    (omega (arith, n, c.loop-k-test.true, c.loop-k.auto.out, c.requires))
    ∙ c.loop-k.invariant

pub returns : goal.returns
returns c =
    let none : c.args.number.count - c.loop-k.k ≡ 0 = omega (arith, c.from-k-end.ensures, c.loop-k-test.false) in
    sym (ap (λ n. put (c.args.at + c.loop-k.k) (digits n c.loop-k.rest) c.loop-k.out) none ∙ put_none (c.args.at + c.loop-k.k) c.loop-k.out) ∙ c.loop-k.invariant
