-- What was written, and what is still to be listed, are the listing; each page leaves fewer.
use Rattle.std.proofs.Common.{◌≡◌, List, ℕ, ◌++◌}
use Rattle.std.specs.Io.KnownBytes.{Appends}
use Rattle.by_manual.specs.Table.{table_by}
use Rattle.listing.specs.Listing.{listing}
use Rattle.listing.specs.steps.Page.{to_list, pages_left}
use Rattle.listing.proofs.list.Given as goal

abbrev pub invariant-loop-next : goal.invariant-loop-next
invariant-loop-next g l = (text : List ℕ) × Appends (g.W.Write.contents l.initial.out) (g.W.Write.contents l.out) text
    × (text ++ to_list (table_by l.manual) l.rule l.image l.next ≡ listing (table_by l.manual) l.rule l.image)

abbrev pub decreases-loop-next : goal.decreases-loop-next
decreases-loop-next g l = pages_left l.image l.next
