use Rattle.std.proofs.Common.{[], ◌∷◌, ◌++◌, List, ap, ◌∙◌}
use Rattle.aft_keeper.specs.declared.keeper.Pair.{Pair}
use Rattle.aft_model.specs.ScanRun.{next_after}
use Rattle.aft_audit.specs.Scans.{page_entry}
use Rattle.aft_audit.proofs.pages.read_page.Goals as goal

pub returns-clause-ok : goal.returns-clause-ok
returns-clause-ok g c = record {
  page = c.in_ok-page.page;
  history = c.in_ok-page.ensures.ok ∙ ap (λ after. c.args.door.now.history ++ page_entry c.args.prefix.now after c.in_ok-page.page ∷ []) c.as_str.ensures;
  added = c.in_ok-add_page.ensures.ok;
  goes = c.in_ok-next.ensures.ok c.args.after.now ∙ ap (λ (pairs : List Pair). next_after (record { after = c.args.after.now; listed = pairs })) c.as_slice.ensures;
}
