-- A listing of one line goes by no table, rule or image.
use Rattle.listing.proofs.page.fill.Goals as goal

pub returns-in-TooLong : goal.returns-in-TooLong
returns-in-TooLong c = rw c.in-TooLong.is (c.fill_too_long.ensures c.args.manual _ _)
