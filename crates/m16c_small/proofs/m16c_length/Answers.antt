-- `m16c_small::m16c_length` meets its contract.
-- Assumes nothing.
use mathlib.Core.Path.{◌≡◌, refl, ap, ◌∙◌}
use native.Mathlib.Omega.{arith}
use Rattle.record.specs.Answer.{answer_of, refusal_in, length_in}
use Rattle.rows.specs.Groups.{document01}
use Rattle.lengths.specs.Length.{LengthOf}
use Rattle.lengths.proofs.Zeros.{more}
use Rattle.m16c_small.proofs.Few.{fewer}
use Rattle.m16c_small.proofs.m16c_length.Goals.{in_default, in-len2-up, in-Ok, in-Err}
use Rattle.m16c_small.proofs.m16c_length.Goals as goal

pub returns : goal.returns
returns c =
    let a = answer_of c.if-bytes-lt2.decoded in
    let bytes = c.args.bytes.now in
    let right : LengthOf document01 bytes a.refusal a.inst.length =
    elim c.if-bytes-lt2.branch [
      | in_default w ↦ fewer bytes w.in_default.len_below (ap answer_of w.decoded-is ∙ w.decode-decoded.ensures)
      | in-len2-up w ↦ more bytes w.in-len2-up.len_at_least (omega (arith, c.type_inv.bytes 1)) (ap answer_of w.decoded-is ∙ w.decode-decoded-in-len2-up.ensures)
    ]
    in
    let told : (refusal_in c.match-decoded.told ≡ a.refusal) × (length_in c.match-decoded.told ≡ a.inst.length) =
    elim c.match-decoded.branch [ in-Ok w ↦ rw (w.told-is, w.in-Ok.is) (refl, refl) | in-Err w ↦ rw (w.told-is, w.in-Err.is) (refl, refl) ]
    in
    rw (c.leave.ensures.0 ∙ told.0, c.leave.ensures.1 ∙ told.1) right
