use Rattle.std.proofs.Common.{rules, subst}
use Rattle.aft_audit.specs.Scans.{IsScanning}
use Rattle.aft_audit.proofs.Runs.{scans_on}
use Rattle.aft_audit.proofs.pages.scan.Goals as goal

pub loop-from-preserved : goal.loop-from-preserved
loop-from-preserved g c = record {
  runs = scans_on c.args.prefix.now c.in-Some.after c.in_ok-from.from c.args.pairs.now.items c.loop-from.pairs.items c.read_page.new.pairs.items c.args.door.now.history c.loop-from.door.history c.read_page.new.door.history
      (subst (λ from. IsScanning c.args.prefix.now from c.args.pairs.now.items c.loop-from.pairs.items c.args.door.now.history c.loop-from.door.history) c.in-Some.is c.loop-from.invariant.runs)
      c.in_ok-from.ensures.ok;
  few = search rules;
  known = c.loop-from.invariant.known;
  store = search rules;
  falls = search rules;
}
