use Rattle.law_losses.proofs.Faults.{counts_no_fault, never_in_doubt, no_store_fault, none_at_fault}
use Rattle.law_losses.proofs.laws.no_fault_without_a_fault.Goals as goal

pub returns-clause-store_fault : goal.returns-clause-store_fault
returns-clause-store_fault x asked ran line legal unfailed listed among = no_store_fault asked ran legal unfailed line listed among

pub returns-clause-in_doubt : goal.returns-clause-in_doubt
returns-clause-in_doubt x asked ran line legal unfailed listed among = never_in_doubt asked ran legal unfailed line listed among

pub returns-clause-verdict : goal.returns-clause-verdict
returns-clause-verdict x asked ran line judged one legal unfailed listed among there = none_at_fault asked ran legal unfailed line listed judged one among there

pub returns-clause-orphans : goal.returns-clause-orphans
returns-clause-orphans x asked ran line deleted kept held fault legal unfailed listed among = counts_no_fault asked ran legal unfailed line listed deleted kept held fault among
