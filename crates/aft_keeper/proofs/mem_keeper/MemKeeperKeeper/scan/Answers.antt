use Rattle.std.proofs.Common.{◌≡◌, ◌∙◌, ap, sym, subst, List}
use Rattle.std.specs.Prelude.{unwrap_or}
use Rattle.aft_keeper.specs.Contents.{IsPage, page_of}
use Rattle.aft_keeper.specs.MemKeeper.{contents_of}
use Rattle.aft_keeper.specs.declared.keeper.Pair.{Pair}
use Rattle.aft_keeper.proofs.Contents.{IsPage-page_of}
use Rattle.aft_keeper.proofs.mem_keeper.MemKeeperKeeper.scan.Goals as goal

pub returns-clause-shape : goal.returns-clause-shape
returns-clause-shape c =
    let held : c.index.new.self.pairs ≡ contents_of c.args.self.now = ap (λ given. unwrap_or given c.index.new.self.pairs) (sym c.in_ok-index.ensures.indexed) ∙ c.in_ok-index.ensures.contents in
    let page : c.from_vec.result ≡ page_of c.args.prefix.now c.args.after.now c.args.limit (contents_of c.args.self.now) =
    c.from_vec.ensures ∙ c.in_ok-page.ensures ∙ ap (page_of c.args.prefix.now c.args.after.now c.args.limit) held in
    let P : List Pair → Type 0 = IsPage c.args.prefix.now c.args.after.now c.args.limit in
    subst P (sym page) (IsPage-page_of c.args.prefix.now c.args.after.now c.args.limit (contents_of c.args.self.now) c.args.self.now.in_order)
