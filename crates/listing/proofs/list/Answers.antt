-- What is written of a page joins what was written before.
use Rattle.std.proofs.Common.{◌++◌, take, sym, ap, ◌∙◌, append_assoc}
use Rattle.std.proofs.KnownBytes.{Appends-trans}
use Rattle.by_manual.specs.Table.{table_by}
use Rattle.listing.specs.steps.Page.{to_list}
use Rattle.listing.proofs.list.Goals as goal

pub loop-next-preserved : goal.loop-next-preserved
loop-next-preserved g c =
    let (text, appended, all) = c.loop-next.invariant in
    let page = take c.fill-p.result.length c.fill-p.new.out in (
      text ++ page,
      Appends-trans _ _ _ _ _ appended c.in_ok-write_all.ensures.bytes,
      append_assoc text page _ ∙ ap (λ z. text ++ z) (c.fill-p.ensures.same ∙ ap (to_list (table_by c.args.manual) c.args.rule c.args.image.now) (sym c.in-Some.is)) ∙ all,
    )
