use Rattle.aft_boot.proofs.Leading.{read_so}
use Rattle.aft_boot.proofs.pages.read.Goals as goal

pub returns-in-Ok : goal.returns-in-Ok
returns-in-Ok c = read_so c.args.page c.as_slice-shown.result.now c.args.inc c.args.listed c.args.commits c.in-Ok.commits c.in-Ok.next c.go_on.result c.as_slice-shown.ensures c.in-Ok.ensures.ok c.go_on.ensures
