-- `decode::decode_by` meets its contract.
-- Assumes nothing.
use Prim.Native.Nat.{◌-◌}
use mathlib.Core.Path.{ap, ◌∙◌}
use lib.ListN.{length, get_or, take, drop}
use Rattle.laws.proofs.Rest.{rest}
use Rattle.laws.specs.Choice.{pick}
use Rattle.rows.specs.Groups.{known}
use Rattle.rows.specs.Run.{decode_by, refusal, run_row}
use Rattle.by_manual.specs.Table.{table_by}
use Rattle.decode.proofs.Bytes.{two}
use Rattle.decode.proofs.Readings.{known_by, row_by_lem}
use Rattle.decode.proofs.decode_by.Goals as goal

pub returns : goal.returns
returns c =
    let t = table_by c.args.manual in
    let image = c.args.image.now in
    let bs = take (length image - c.args.at) (drop c.args.at image) in
    c.decode_code.ensures
    ∙ ap (λ r. pick (known (get_or bs 0 0)) (run_row r bs) (refusal 4 1)) (row_by_lem c.args.manual (get_or bs 0 0) (get_or bs 1 0))
    ∙ ap (λ k. pick k (run_row (t.row_at (get_or bs 0 0) (get_or bs 1 0)) bs) (refusal 4 1)) (known_by c.args.manual (get_or bs 0 0))
    ∙ two t bs c.if-bs-lt2.false ∙ ap (decode_by t) (rest c.args.at image)
