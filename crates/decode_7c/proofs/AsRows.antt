-- The laws by which the check finds that the code's rows are document 01's.
-- Assumes nothing.
use Rattle.readers.proofs.RowSteps.{first_read, second_read, last, exits, stopped, unread}
use Rattle.decode_7c.proofs.Table7C.{meant, no_exts_lem}
use Rattle.decode_7c.proofs.Table7D.{conditional_jumps, conditions}
use Rattle.decode_7c.proofs.Table7C7D.{tables_E}

pub ruleset as_rows = (first_read, second_read, last, exits, stopped, unread, meant, no_exts_lem, conditional_jumps, conditions, tables_E)
