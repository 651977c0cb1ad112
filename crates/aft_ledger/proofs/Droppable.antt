-- The ids that are dropped, found among the known ids.
use Rattle.std.proofs.Common.{◌≡◌, Bool, true, false, ◌&&◌, not, List, [], ◌∷◌, refl, sym, ap, subst, ◌∙◌, inl, inr}
use Rattle.std.specs.Prelude.{IsTrue, filter, if◌then◌else◌, is_some}
use Rattle.std.proofs.lemmas.Bool.{and_parts, and_from}
use Rattle.aft_id.specs.TxnId.{same_id}
use Rattle.aft_id.specs.declared.txn_id.TxnId.{TxnId}
use Rattle.aft_records.specs.declared.stored.Commit.{Commit}
use Rattle.aft_records.specs.Commits.{ids_ascend, ids_of}
use Rattle.aft_records.specs.Superseded.{is_superseded}
use Rattle.aft_meta.specs.KnownCommits.{supersedes_id}
use Rattle.aft_model.specs.declared.node.NodeEntry.{NodeEntry}
use Rattle.aft_model.specs.Attempts.{is_pinned}
use Rattle.aft_model.specs.Known.{known_in}
use Rattle.aft_model.specs.NodeState.{NodeState, part, service, service_in}
use Rattle.aft_model.proofs.Histories.{In, any_found, any_from}
use Rattle.aft_model.proofs.Ids.{same_id-refl, same_ids}
use Rattle.aft_model.proofs.Incarnations.{known-at, part-at}
use Rattle.aft_model.proofs.Knowledge.{known_ascends}
use Rattle.aft_model.proofs.Lists.{in_filter}
use Rattle.law_attempts.proofs.Tables.{pinned_in_rows}
use Rattle.aft_ledger.specs.Knowing.{dropped_ids, droppable_in}
use Rattle.aft_ledger.specs.Ledger.{Held, IsLedger}
use Rattle.aft_ledger.proofs.Dropped.{AllIn, one_each, superseded_one}
use Rattle.aft_ledger.proofs.Rounds.{serving_inc}
use Rattle.aft_txn.specs.Rows.{Table, is_pinned_in}

-- ---- ids and their commits

filter-ids : (f : TxnId → Bool) (g : Commit → Bool) (xs : List Commit) → ((c : Commit) → In c xs → f c.id ≡ g c) → filter f (ids_of xs) ≡ ids_of (filter g xs)
filter-ids f g [] same = refl
filter-ids f g (c ∷ xs) same = ap (λ t. if t then c.id ∷ filter f (ids_of xs) else filter f (ids_of xs)) (same c (inl refl)) ∙ cases (g c) (filter-ids f g xs (λ d among. same d (inr among)))
  where
    cases : (t : Bool) → filter f (ids_of xs) ≡ ids_of (filter g xs) → (if t then c.id ∷ filter f (ids_of xs) else filter f (ids_of xs)) ≡ ids_of (if t then c ∷ filter g xs else filter g xs)
    cases true rest = ap (λ (ids : List TxnId). c.id ∷ ids) rest
    cases false rest = rest

both : (a b : Bool) → (IsTrue a → IsTrue b) → (IsTrue b → IsTrue a) → a ≡ b
both true b there back = sym (there refl)
both false true there back = back refl
both false false there back = refl

-- the id of a known commit is superseded where the commit is
id-superseded : (all : List Commit) → IsTrue (ids_ascend all) → (c : Commit) → In c all → supersedes_id c.id all ≡ is_superseded c all
id-superseded all up c among = both (supersedes_id c.id all) (is_superseded c all)
    (λ sup. let d = superseded_one c.id all sup in subst (λ (e : Commit). IsTrue (is_superseded e all)) (sym (one_each all up c d.0 among d.1 d.2)) d.3)
    (λ sup. any_from (λ (d : Commit). same_id c.id d.id && is_superseded d all) c all among (and_from _ _ (same_id-refl c.id) sup))

-- all that pass are superseded
pub passed_all : (all : List Commit) (pinned : TxnId → Bool) → AllIn (filter (λ id. supersedes_id id all && not (pinned id)) (ids_of all)) all
passed_all all pinned id listed =
    let found = any_found (same_id id) (filter (λ i. supersedes_id i all && not (pinned i)) (ids_of all)) listed in
    let passed = in_filter (λ i. supersedes_id i all && not (pinned i)) found.0 (ids_of all) found.1 in
    subst (λ (i : TxnId). IsTrue (supersedes_id i all)) (sym (same_ids id found.0 found.2)) (and_parts (supersedes_id found.0 all) (not (pinned found.0)) passed.1).0

module _ (h : Held) (l : IsLedger h) where
  pub known_up : IsTrue (ids_ascend h.commits)
  known_up = subst (λ (k : List Commit). IsTrue (ids_ascend k)) (sym l.knows) (known_ascends h.history)

  pinned_is : (id : TxnId) → is_pinned_in id h.table.rows ≡ is_pinned id (part h.history)
  pinned_is id = ap (λ (t : Table). is_pinned_in id t.rows) l.tabled ∙ sym (pinned_in_rows id (part h.history))

  -- those that pass are those that are dropped
  pub dropped_is : IsTrue (is_some (service h.history)) → filter (λ id. supersedes_id id h.commits && not (is_pinned_in id h.table.rows)) (ids_of h.commits) ≡ dropped_ids h.history
  dropped_is in_one =
      let at = serving_inc h.history in_one in
      let s = at.0 in
      filter-ids (λ id. supersedes_id id h.commits && not (is_pinned_in id h.table.rows)) (λ c. is_superseded c h.commits && not (is_pinned c.id (part h.history))) h.commits
      (λ c among. ap (λ t. t && not (is_pinned_in c.id h.table.rows)) (id-superseded h.commits known_up c among) ∙ ap (λ t. is_superseded c h.commits && not t) (pinned_is c.id))
      ∙ (ap (λ (k : List Commit). ids_of (filter (λ c. is_superseded c k && not (is_pinned c.id (part h.history))) k)) (l.knows ∙ known-at h.history s at.1)
      ∙ (ap (λ (p : List NodeEntry). ids_of (filter (λ c. is_superseded c (known_in s) && not (is_pinned c.id p)) (known_in s))) (part-at h.history s at.1)
      ∙ sym (ap (λ (state : NodeState). ids_of (droppable_in (service_in state))) at.1)))
