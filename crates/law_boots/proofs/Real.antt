-- Two commits of one UUID that a node knows, or that are committed, are equal; and no node is told of one of the id of absent keys.
use Rattle.std.proofs.Common.{◌≡◌, ◌≤◌, ℕ, zero, suc, not, List, [], ◌∷◌, ◌++◌, refl, sym, ap, subst, ◌⊎◌, inl, inr, take, eqb, leb, arith}
use Rattle.std.specs.Prelude.{IsTrue, ◌^◌, nat_lt}
use Rattle.std.specs.Str.{bytes_eq}
use Rattle.std.proofs.lemmas.Bool.{and_parts, eqb-true, false_from_ne_true, leb-true}
use Rattle.aft_id.specs.TxnId.{same_id, zero_id}
use Rattle.aft_records.specs.Commits.{is_among, same_commit}
use Rattle.aft_records.specs.declared.stored.Commit.{Commit}
use Rattle.aft_model.specs.declared.door.DoorEntry.{DoorEntry}
use Rattle.aft_model.specs.declared.node.NodeEntry.{NodeEntry}
use Rattle.aft_model.specs.Bytes.{HasBytes}
use Rattle.aft_model.specs.Committed.{Committed, committed}
use Rattle.aft_model.specs.Known.{known}
use Rattle.aft_model.specs.LegalNode.{front}
use Rattle.aft_model.proofs.Growth.{committed_grows}
use Rattle.aft_model.proofs.Histories.{In, any_found, any_from}
use Rattle.aft_model.proofs.Ids.{same_commits}
use Rattle.aft_model.proofs.Lists.{all_from}
use Rattle.aft_model.proofs.Turns.{all_snoc}
use Rattle.law_kept.specs.Kept.{Lawful}
use Rattle.law_kept.proofs.Gives.{committed_among}
use Rattle.law_kept.proofs.PutMarker.{same_commit_itself}
use Rattle.law_names.proofs.Proven.{committed_limits}
use Rattle.law_reads.specs.Brings.{are_real, brings, brings_real, is_real}
use Rattle.law_whole.proofs.Throughout.{one_each}
use Rattle.law_boots.specs.Beside.{Beside}
use Rattle.law_boots.proofs.Known.{brought, known_seen}
use Rattle.law_boots.proofs.Nodes.{kept}

pub taken : {A : Type 0} (n : ℕ) (xs : List A) → (more : List A) × (xs ≡ take n xs ++ more)
taken zero xs = (xs, refl)
taken (suc n) [] = ([], refl)
taken {A} (suc n) (x ∷ xs) = let rest = taken n xs in (rest.0, ap (λ (l : List A). x ∷ l) rest.1)

pub is_committed : (c : Commit) (history : List DoorEntry) → In c (committed history) → Committed c history
is_committed c history among = any_from (same_commit c) c (committed history) among (same_commit_itself c)

-- what is committed in a part of the door's history is committed in it
pub in_whole : (c : Commit) (n : ℕ) (door : List DoorEntry) → In c (committed (take n door)) → In c (committed door)
in_whole c n door among =
    let more = taken n door in
    committed_among c door (subst (λ (h : List DoorEntry). IsTrue (is_among c (committed h))) (sym more.1)
    (committed_grows c (take n door) more.0 (is_committed c (take n door) among)))

pub real_commit : (c : Commit) (door : List DoorEntry) → HasBytes door → In c (committed door) → IsTrue (is_real c)
real_commit c door made among =
    let limits = committed_limits c door made (is_committed c door among) in
    let some : 1 ≤ c.id.time = leb-true 1 c.id.time (and_parts (leb 1 c.id.time) (nat_lt c.id.time (2 ^ 48)) limits.1).0 in
    ap not (false_from_ne_true (same_id zero_id c.id) (λ same.
    let zero_time : 0 ≡ c.id.time = eqb-true 0 c.id.time (and_parts (eqb 0 c.id.time) (bytes_eq zero_id.uuid c.id.uuid) same).0 in
    omega arith))

module _ (node capacity : ℕ) (door : List DoorEntry) where
  -- what a node knows is committed at the door
  pub known_committed : (history : List NodeEntry) → Beside node capacity door history → (c : Commit) → In c (known history) → In c (committed door)
  known_committed history beside c among = in_whole c (front history) door (known_seen node capacity door history beside c among)

  pub one_commit : Lawful door → (history : List NodeEntry) → Beside node capacity door history → (c d : Commit) → In c (known history) ⊎ In c (committed door) → In d (known history) ⊎ In d (committed door) → c.id.uuid ≡ d.id.uuid → c ≡ d
  one_commit lawful history beside c d one other same = one_each door lawful c d (at_door c one) (at_door d other) same
    where
      at_door : (e : Commit) → In e (known history) ⊎ In e (committed door) → In e (committed door)
      at_door e (inl knows) = known_committed history beside e knows
      at_door e (inr is) = is

  pub each_real : HasBytes door → (history : List NodeEntry) → Beside node capacity door history → IsTrue (are_real history)
  each_real made history beside =
      kept node capacity door (λ (h : List NodeEntry). IsTrue (are_real h)) refl (λ h entry its real.
      all_snoc (λ (e : NodeEntry). brings_real e.act) h entry real
      (all_from is_real (brings entry.act) (λ c among. real_commit c door made (in_whole c entry.front door (brought node capacity door h entry its c among))))) history beside

  -- what is among commits is one of them
  pub found : (c : Commit) (commits : List Commit) → IsTrue (is_among c commits) → In c commits
  found c commits among = (let at = any_found (same_commit c) commits among in subst (λ (d : Commit). In d commits) (sym (same_commits c at.0 at.2)) at.1)
