use Rattle.std.proofs.Common.{[]}
use Rattle.law_scans.proofs.Runs.{covered_from, lists_from}
use Rattle.law_scans.proofs.laws.runs_cover.Goals as goal

pub returns-clause-covers : goal.returns-clause-covers
returns-clause-covers c prefix name pages answered whole scanned = covered_from prefix name pages answered [] whole scanned

pub returns-clause-once : goal.returns-clause-once
returns-clause-once c prefix pages answered whole = (lists_from prefix pages answered [] whole).up
