-- Entries that tell of what is learned, dropped, given up and announced.
use Rattle.std.proofs.Common.{◌≡◌, ℕ, ◌+◌, ◌-◌, ◌≤◌, Bool, true, false, ◌||◌, not, List, [], ◌∷◌, refl, sym, ap, subst, ◌∙◌, eq-eqb, length}
use Rattle.std.specs.Prelude.{IsTrue, IsFalse, None, Some, filter, is_some, suc}
use Rattle.std.specs.List.{list_all}
use Rattle.std.specs.Cmp.Lexicographic.{pointwise}
use Rattle.std.proofs.lemmas.Bool.{and_from, false≢true}
use Rattle.aft_id.specs.TxnId.{same_id}
use Rattle.aft_id.specs.declared.txn_id.TxnId.{TxnId}
use Rattle.aft_records.specs.declared.stored.Commit.{Commit}
use Rattle.aft_records.specs.Commits.{has_id, ids_of, is_listed, same_commit}
use Rattle.aft_records.specs.Superseded.{is_superseded}
use Rattle.aft_model.specs.declared.caller.By.{By}
use Rattle.aft_model.specs.declared.node.NodeAct.TheVariants as acts
use Rattle.aft_model.specs.declared.node.NodeEntry.{NodeEntry}
use Rattle.aft_model.specs.declared.reply.Reply.{Reply}
use Rattle.aft_model.specs.declared.reply.Reply.TheVariants as replies
use Rattle.aft_model.specs.Known.{droppable, holds_id, known, known_in, unannounced}
use Rattle.aft_model.specs.LegalNode.{may_serve}
use Rattle.aft_model.specs.NodeRules.{are_ids_of, is_learned}
use Rattle.aft_model.specs.NodeState.{IsBooting, IsDown, IsServing, NodeState, Service, in_service, node_state, part, serves, service, service_in}
use Rattle.aft_model.proofs.Ids.{same_id-refl}
use Rattle.aft_model.proofs.Incarnations.{known-at}
use Rattle.aft_ledger.specs.Knowing.{dropped_ids, droppable_in, kept_apart, pruned_away, tally}
use Rattle.aft_ledger.specs.Ledger.{Held, IsLedger}
use Rattle.aft_ledger.proofs.Acts.{keys-refl}
use Rattle.aft_ledger.proofs.Entries.{goes, in_now, with_entry}

-- ---- a service

served : (state : NodeState) → IsTrue (is_some (service_in state)) → (s : Service) × (state ≡ IsServing s)
served IsDown is = absurd (false≢true is)
served (IsBooting inc running) is = absurd (false≢true is)
served (IsServing s) is = (s, refl)

-- a node that is in a service serves an incarnation
pub serving_inc : (history : List NodeEntry) → IsTrue (is_some (service history)) → (s : Service) × (node_state history ≡ IsServing s) × IsTrue (serves s.inc (node_state history))
serving_inc history is =
    let at = served (node_state history) is in
    (at.0, at.1, subst (λ (state : NodeState). IsTrue (serves at.0.inc state)) (sym at.1) (eq-eqb at.0.inc at.0.inc refl))

-- ---- ids

has_more : (id : TxnId) (c : Commit) (commits : List Commit) → IsTrue (has_id id commits) → IsTrue (has_id id (c ∷ commits))
has_more id c commits has = either (same_id id c.id) (has_id id commits) has
  where
    either : (a b : Bool) → IsTrue b → IsTrue (a || b)
    either true b is = refl
    either false b is = is

all_had : (commits all : List Commit) → ((c : Commit) → IsTrue (has_id c.id commits) → IsTrue (has_id c.id all)) → IsTrue (list_all (λ id. has_id id all) (ids_of commits))
all_had [] all within = refl
all_had (c ∷ commits) all within =
    and_from _ _ (within c (first (has_id c.id commits) (same_id-refl c.id))) (all_had commits all (λ d has. within d (has_more d.id c commits has)))
  where
    first : (b : Bool) → IsTrue (same_id c.id c.id) → IsTrue (same_id c.id c.id || b)
    first b is = ap (λ t. t || b) is

listed_more : (id other : TxnId) (ids : List TxnId) → IsTrue (is_listed id ids) → IsTrue (is_listed id (other ∷ ids))
listed_more id other ids listed = either (same_id id other) (is_listed id ids) listed
  where
    either : (a b : Bool) → IsTrue b → IsTrue (a || b)
    either true b is = refl
    either false b is = is

all_listed : (commits : List Commit) (all : List TxnId) → ((id : TxnId) → IsTrue (is_listed id (ids_of commits)) → IsTrue (is_listed id all)) → IsTrue (list_all (λ (c : Commit). is_listed c.id all) commits)
all_listed [] all within = refl
all_listed (c ∷ commits) all within =
    and_from _ _ (within c.id (ap (λ t. t || is_listed c.id (ids_of commits)) (same_id-refl c.id))) (all_listed commits all (λ id listed. within id (listed_more id c.id (ids_of commits) listed)))

length-ids : (commits : List Commit) → length (ids_of commits) ≡ length commits
length-ids [] = refl
length-ids (c ∷ commits) = ap suc (length-ids commits)

own_ids : (commits : List Commit) → IsTrue (are_ids_of commits (ids_of commits))
own_ids commits = and_from _ _ (and_from _ _ (eq-eqb (length (ids_of commits)) (length commits) (length-ids commits)) (all_had commits commits (λ c has. has))) (all_listed commits (ids_of commits) (λ id listed. listed))

commits-refl : (commits : List Commit) → IsTrue (pointwise same_commit commits commits)
commits-refl [] = refl
commits-refl (c ∷ commits) = and_from _ _ (and_from _ _ (same_id-refl c.id) (keys-refl c.keys)) (commits-refl commits)

-- ---- entries

module _ (h : Held) (l : IsLedger h) (handed : ℕ) (by : By) (space : ℕ) (in_one : IsTrue (is_some (service h.history))) where
  -- commits are learned
  pub learns : (commits : List Commit) (reply : Reply) → IsTrue (is_learned (tally (known h.history) commits) (Some reply)) → length h.history + 1 + (h.room - 1) ≤ space
      → IsLedger (with_entry h handed by (acts.Learn commits) (Some reply) space)
  learns commits reply may fits =
      let at = serving_inc h.history in_one in
      goes h l handed by (acts.Learn commits) (Some reply)
      (in_now (may_serve h.number h.capacity (acts.Learn commits) (Some reply)) h.history at.0.inc at.2 (λ s is of in_part. subst (λ (k : List Commit). IsTrue (is_learned (tally k commits) (Some reply))) (known-at h.history s is) may))
      refl at.0.inc at.2 (λ s e. refl) (λ n. refl) space fits

  -- commits are dropped
  pub drops : length h.history + 1 + (h.room - 1) ≤ space → IsLedger (with_entry h handed by (acts.Drop (dropped_ids h.history)) (Some (replies.Dropped (length (dropped_ids h.history)))) space)
  drops fits =
      let at = serving_inc h.history in_one in
      goes h l handed by (acts.Drop (dropped_ids h.history)) (Some (replies.Dropped (length (dropped_ids h.history))))
      (in_now (may_serve h.number h.capacity (acts.Drop (dropped_ids h.history)) (Some (replies.Dropped (length (dropped_ids h.history))))) h.history at.0.inc at.2
      (λ s is of in_part. and_from _ _ (subst (λ (ids : List TxnId). IsTrue (are_ids_of (droppable s) ids)) (sym (ap (λ (state : NodeState). ids_of (droppable_in (service_in state))) is)) (own_ids (droppable s))) (eq-eqb (length (dropped_ids h.history)) (length (dropped_ids h.history)) refl)))
      refl at.0.inc at.2 (λ s e. refl) (λ n. refl) space fits

  -- the commit of an id is given up
  pub gives_up : (id : TxnId) → IsFalse (in_service (holds_id id) (service h.history)) → length h.history + 1 + h.room ≤ space → IsLedger (with_entry h handed by (acts.GiveUp id) None space)
  gives_up id free fits =
      let at = serving_inc h.history in_one in
      goes h l handed by (acts.GiveUp id) None
      (in_now (may_serve h.number h.capacity (acts.GiveUp id) None) h.history at.0.inc at.2
      (λ s is of in_part. and_from _ _ (ap not (sym (ap (λ (state : NodeState). in_service (holds_id id) (service_in state)) is) ∙ free)) refl))
      refl at.0.inc at.2 (λ s e. refl) (λ n. refl) space fits

  -- commits are announced
  pub announces : length h.history + 1 + h.room ≤ space → IsLedger (with_entry h handed by (acts.Announce (kept_apart h.history) (pruned_away h.history)) None space)
  announces fits =
      let at = serving_inc h.history in_one in
      goes h l handed by (acts.Announce (kept_apart h.history) (pruned_away h.history)) None
      (in_now (may_serve h.number h.capacity (acts.Announce (kept_apart h.history) (pruned_away h.history)) None) h.history at.0.inc at.2
      (λ s is of in_part. and_from _ _
      (and_from _ _
      (subst (λ (p : List NodeEntry). IsTrue (pointwise same_commit (kept_apart h.history) (filter (λ c. not (is_superseded c (known_in s))) (unannounced p)))) in_part
      (subst (λ (k : List Commit). IsTrue (pointwise same_commit (kept_apart h.history) (filter (λ c. not (is_superseded c k)) (unannounced (part h.history))))) (known-at h.history s is) (commits-refl (kept_apart h.history))))
      (subst (λ (p : List NodeEntry). IsTrue (pointwise same_commit (pruned_away h.history) (filter (λ c. is_superseded c (known_in s)) (unannounced p)))) in_part
      (subst (λ (k : List Commit). IsTrue (pointwise same_commit (pruned_away h.history) (filter (λ c. is_superseded c k) (unannounced (part h.history))))) (known-at h.history s is) (commits-refl (pruned_away h.history)))))
      refl))
      refl at.0.inc at.2 (λ s e. refl) (λ n. refl) space fits
