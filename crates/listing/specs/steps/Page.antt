-- A listing in pages: what is still to be listed, and what a page says of it.
use Rattle.std.specs.Prelude.{ℕ, suc, ◌-◌, ◌≤◌, ◌<◌, ◌≡◌, List, [], ◌++◌, length, take, Option, Some, None}
use Rattle.rows.specs.Row.{Table}
use Rattle.sweep.specs.declared.Rule.{Rule}
use Rattle.sweep.specs.Walk.{Onward, stop, on}
use Rattle.listing.specs.declared.page.Page.{Page}
use Rattle.listing.specs.declared.page.Next.{Next}
use Rattle.listing.specs.declared.page.Next.TheVariants.{TooLong, From}
use Rattle.listing.specs.Listing.{too_long_text, listed}

-- the text that is still to be listed of an image
abbrev pub to_list : Table → Rule → List ℕ → Option Next → List ℕ
to_list t rule bs None = []
to_list t rule bs (Some TooLong) = too_long_text
to_list t rule bs (Some (From p)) = listed t rule bs p

-- where a walk leads
abbrev pub next_of : Onward → Option ℕ
next_of stop = None
next_of (on p) = Some p

-- no more pages than that are left, if each has room for a line
abbrev pub pages_left : List ℕ → Option Next → ℕ
pages_left bs None = 0
pages_left bs (Some TooLong) = 1
pages_left bs (Some (From p)) = suc (length bs - p)

-- a page's bytes, and what is to be listed behind them, are what was to be listed
pub record Filled (t : Table) (rule : Rule) (bs : List ℕ) (next : Next) (room : ℕ) (r : Page) (out : List ℕ) : Type 0 where
  pub same : take r.length out ++ to_list t rule bs r.next ≡ to_list t rule bs (Some next)
  pub inside : r.length ≤ room
  pub onward : 121 ≤ room → pages_left bs r.next < pages_left bs (Some next)

-- a text made of pages, one after the other until nothing is to be listed
pub data Paged : Table → Rule → List ℕ → Option Next → List ℕ → Type 0 where
  none : {t : Table} {rule : Rule} {bs : List ℕ} → Paged t rule bs None []
  more : {t : Table} {rule : Rule} {bs : List ℕ} {next : Next} {room : ℕ} {r : Page} {out text : List ℕ} → Filled t rule bs next room r out → Paged t rule bs r.next text
      → Paged t rule bs (Some next) (take r.length out ++ text)
