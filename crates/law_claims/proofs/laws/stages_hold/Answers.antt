use Rattle.aft_model.specs.Claims.{claimant}
use Rattle.aft_model.proofs.Turns.{held_up}
use Rattle.law_claims.proofs.Fenced.{fenced_down}
use Rattle.law_claims.proofs.Idle.{busy_holds, busy_uuid, claimed_busy}
use Rattle.law_claims.proofs.laws.stages_hold.Goals as goal

pub returns-clause-fenced : goal.returns-clause-fenced
returns-clause-fenced c = fenced_down

pub returns-clause-busy : goal.returns-clause-busy
returns-clause-busy c = busy_holds

pub returns-clause-held : goal.returns-clause-held
returns-clause-held c who uuid history held = claimed_busy who uuid history (held_up who history (claimant uuid history) held).0

pub returns-clause-uuid : goal.returns-clause-uuid
returns-clause-uuid c = busy_uuid
