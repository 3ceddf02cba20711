-- The P lines, and the line of request A6, hold of the definitions.
-- Assumes nothing.
use mathlib.Core.Path.{refl}
use Rattle.record.specs.Same.{same_name, among, field_of, base_of}
use Rattle.rows.specs.Codes.{cond_of}
use Rattle.rows.specs.Groups.{known, rows_of}
use Rattle.rows.specs.Run.{decode_by, run_row, run, read_disp, read_into}
use Rattle.encode_rules.specs.steps.Search.{cond_byte, disps, imms, conds, spell, aim, bytes_by}
use Rattle.encode_rules.specs.steps.Can.{fits, can}
use Rattle.encode_rules.specs.steps.Direct.{able, taken}
use Rattle.encode_choice.specs.steps.Coarse.{whole}
use Rattle.encode_choice.specs.steps.Forms.{form_of, goes_with}
use Rattle.encode_choice.specs.steps.Choose.{choose_named, choose_by, drops_zero, place}
use Rattle.encode_rules.specs.Bench.{lines, Hold}
use Rattle.encode_choice.proofs.Encoded.{right_bytes}

pub bench : Hold lines
unfolding decode_by run_row run read_disp read_into cond_of known rows_of taken able can fits bytes_by spell aim
    choose_named drops_zero goes_with form_of among same_name choose_by place cond_byte disps imms conds field_of base_of whole
bench =
    (refl, (refl, (refl, (refl, (refl, (refl, (refl, (refl, (refl, (refl, (refl, (refl, (refl, (refl, (right_bytes _ _ refl, (right_bytes _ _ refl, (right_bytes _ _ refl, tt)))))))))))))))))
