use Rattle.std.proofs.Common.{ap, subst, ◌∙◌, arith}
use Rattle.aft_fields.specs.Gives.{Gives}
use Rattle.aft_fields.specs.Reading.{row_of}
use Rattle.aft_fields.proofs.Found.{found_by, row_found}
use Rattle.aft_fields.proofs.Rows.{row_written}
use Rattle.aft_fields.proofs.table.Layout.read.Goals as goal

pub returns-clause-found : goal.returns-clause-found
returns-clause-found g c = found_by (λ x. x) _ (row_of c.args.self.now.tag c.args.self.now.kinds c.args.bytes.now) c.row_from.result (λ row e. row_found c.args.self.now.tag c.args.self.now.kinds c.args.bytes.now row (λ i. omega (arith, c.type_inv.bytes i)) e) c.row_from.ensures

pub returns-clause-only : goal.returns-clause-only
returns-clause-only g c = λ cells fits e. subst (λ read. Gives (λ x. x) c.row_from.result read) (ap (row_of c.args.self.now.tag c.args.self.now.kinds) e ∙ row_written c.args.self.now.tag c.args.self.now.kinds cells (omega arith) fits) c.row_from.ensures
