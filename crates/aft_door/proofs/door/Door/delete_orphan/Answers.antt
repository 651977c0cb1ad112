use Rattle.std.proofs.Common.{List, ap, ◌∙◌, ℕ, subst, sym}
use Rattle.std.specs.Prelude.{IsTrue, Option}
use Rattle.std.proofs.lemmas.Bool.{and_from, or_right}
use Rattle.aft_model.specs.Claims.{holds}
use Rattle.aft_model.specs.DoorRules.{is_looked_at}
use Rattle.aft_model.specs.Membership.{Incarnation}
use Rattle.aft_model.specs.Readings.{version_name}
use Rattle.aft_records.specs.Limits.{IsKey}
use Rattle.aft_records.specs.declared.name.Name.TheVariants.{VersionOf}
use Rattle.aft_model.specs.declared.door.DoorEntry.{DoorEntry}
use Rattle.aft_door.specs.Calls.{DoorView, told_done}
use Rattle.aft_door.specs.Entries.{who_calls}
use Rattle.aft_door.specs.Refusals.{as_result, if_not_by_claim}
use Rattle.aft_door.proofs.Puts.{asks_delete, behind, claim_if, delete_may, is_office, passed, up_holds}
use Rattle.aft_door.proofs.door.Door.delete_orphan.Goals as goal

pub delete-requires-clause-up : goal.delete-requires-clause-up
delete-requires-clause-up g c =
    let h = ap (λ (v : DoorView). v.history) c.self.view_is in
    let by = passed c.in_ok-test_claim.field-0 (if_not_by_claim c.args.who c.args.id.uuid c.args.claimed c.args.self.now.history) (c.in_ok-test_claim.ensures ∙ ap (λ (x : List DoorEntry). as_result (if_not_by_claim c.args.who c.args.id.uuid c.args.claimed x)) h) in
    up_holds (who_calls c.args.who) c.args.id.uuid c.args.self.now.history (claim_if c.args.who c.args.id.uuid c.args.claimed c.args.self.now.history by).held

pub delete-requires-clause-may : goal.delete-requires-clause-may
delete-requires-clause-may g c =
    let h = ap (λ (v : DoorView). v.history) c.self.view_is in
    let by = passed c.in_ok-test_claim.field-0 (if_not_by_claim c.args.who c.args.id.uuid c.args.claimed c.args.self.now.history) (c.in_ok-test_claim.ensures ∙ ap (λ (x : List DoorEntry). as_result (if_not_by_claim c.args.who c.args.id.uuid c.args.claimed x)) h) in
    let claim = claim_if c.args.who c.args.id.uuid c.args.claimed c.args.self.now.history by in
    let looked = subst (λ (o : Option ℕ). IsTrue (is_looked_at c.args.id c.args.self.now.history o)) (sym claim.at) c.requires.orphan in
    let held = subst (λ (w : Incarnation). IsTrue (holds w c.args.id.uuid c.args.self.now.history)) c.requires.office claim.held in
    delete_may c.args.self.now.history (who_calls c.args.who) c.in_ok-name.name (VersionOf c.args.key.now c.args.id) c.in_ok-name.ensures.ok (((subst IsKey c.bytes.ensures.value c.bytes.ensures.limits), c.id_fits.ensures), c.requires.timely) (and_from _ _ (is_office (who_calls c.args.who) c.requires.office) (or_right _ _ (and_from _ _ held looked)))

pub returns-clause-refused : goal.returns-clause-refused
returns-clause-refused g c =
    let h = ap (λ (v : DoorView). v.history) c.self.view_is in
    let by = passed c.in_ok-test_claim.field-0 (if_not_by_claim c.args.who c.args.id.uuid c.args.claimed c.args.self.now.history) (c.in_ok-test_claim.ensures ∙ ap (λ (x : List DoorEntry). as_result (if_not_by_claim c.args.who c.args.id.uuid c.args.claimed x)) h) in
    behind (if_not_by_claim c.args.who c.args.id.uuid c.args.claimed c.args.self.now.history) c.delete.result by c.delete.ensures.refused

pub returns-clause-asks : goal.returns-clause-asks
returns-clause-asks g c = asks_delete c.args.self.now _ c.args.who c.in_ok-name.name (version_name c.args.key.now c.args.id) (told_done c.delete.result) c.in_ok-name.ensures.ok c.delete.ensures.asks
