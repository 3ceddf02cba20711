-- What is filled, and what is listed from the place on, are what was asked for.
use Rattle.std.proofs.Common.{◌≡◌, ◌+◌, ◌*◌, ◌-◌, ◌≤◌, ◌++◌, length, take}
use Rattle.by_manual.specs.Table.{table_by}
use Rattle.listing.specs.Listing.{listed}
use Rattle.listing.proofs.page.fill_lines.Given as goal

abbrev pub invariant-loop-out : goal.invariant-loop-out
invariant-loop-out l = record {
  inside : l.at ≤ length l.out;
  same_length : length l.out ≡ length l.initial.out;
  on : l.from ≤ l.place;
  within : l.place ≤ l.from + (length l.image - l.from);
  short : l.at ≤ 121 * (l.place - l.from);
  same : take l.at l.out ++ listed (table_by l.manual) l.rule l.image l.place ≡ listed (table_by l.manual) l.rule l.image l.from;
}

abbrev pub decreases-loop-out : goal.decreases-loop-out
decreases-loop-out l = length l.image - l.place
