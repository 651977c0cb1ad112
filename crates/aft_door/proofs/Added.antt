-- One more entry keeps the ledger, where the maps are changed with it.
use Rattle.std.proofs.Common.{◌≡◌, ℕ, ◌+◌, ◌≤◌, Bool, true, false, cond, List, [], ◌∷◌, ◌++◌, length, refl, sym, ap, subst, ◌∙◌, eqb}
use Rattle.std.specs.Prelude.{IsTrue, Option, Some, None, ◌==◌, ◌||◌, ◌&&◌, if◌then◌else◌}
use Rattle.std.specs.List.{flat_map, list_any}
use Rattle.std.specs.Map.{lookup}
use Rattle.std.specs.Str.{bytes_eq}
use Rattle.std.proofs.Math.Bool.{or-true}
use Rattle.std.specs.Cmp.Lexicographic.{bytes_decides}
use Rattle.std.proofs.lemmas.Bool.{and_parts, not-true}
use Rattle.aft_id.specs.TxnId.{IsUuid, same_id}
use Rattle.aft_id.specs.declared.txn_id.TxnId.{TxnId}
use Rattle.aft_keeper.specs.declared.keeper.KeeperCall.TheVariants.{Delete, Put}
use Rattle.aft_model.specs.declared.caller.By.{By}
use Rattle.aft_keeper.specs.declared.keeper.KeeperAnswer.{KeeperAnswer}
use Rattle.aft_keeper.specs.declared.keeper.KeeperCall.{KeeperCall}
use Rattle.aft_model.specs.declared.caller.Caller.{Caller}
use Rattle.aft_model.specs.declared.door.DoorEntry.{DoorEntry}
use Rattle.aft_model.specs.Bytes.{acts_bytes}
use Rattle.aft_model.specs.Claims.{claimant, gives_up, is_claim_of, is_held_by, tries_delete}
use Rattle.aft_model.specs.Cut.{tries_put}
use Rattle.aft_model.specs.History.{last_place}
use Rattle.aft_model.specs.LegalDoor.{may_follow}
use Rattle.aft_model.specs.Membership.{Incarnation, fenced as history_fenced, inc_at, incarnation}
use Rattle.aft_model.specs.Opening.{opening}
use Rattle.aft_model.specs.ScanRun.{same_line}
use Rattle.aft_model.specs.Readings.{marker_name, record_name}
use Rattle.aft_door.specs.declared.index.Claimed.{Claimed}
use Rattle.aft_door.specs.declared.index.GivenUp.{GivenUp}
use Rattle.aft_door.specs.Entries.{called, came_up, claimed, door_opened, gave_up, released, was_fenced, who_calls}
use Rattle.aft_door.specs.Ledger.{IsLedger}
use Rattle.aft_model.proofs.OneCommit.{claimant-snoc}
use Rattle.aft_door.specs.Index.{IsPlaced, claimant_in, greater, greatest, last_put, same_given}
use Rattle.aft_door.proofs.Changed.{and_false, and_nested, bytes_symm, fenced_with, given_symm, holds_claim, markers_apart, open_rule, records_apart, ups_with, ups_without, uuid_passes}
use Rattle.aft_door.proofs.Kept.{UpsIn, placed_kept, claims_kept, fenced_kept, forgotten_kept, given_kept, puts_kept, up_kept}
use Rattle.aft_door.proofs.Standing.{standing_is}
use Rattle.aft_door.proofs.Snocs.{any_act, bytes_more, fenced_more, last_more, legal_more, ups_more}

module _ (history : List DoorEntry) (ups fenced : List (ℕ × ℕ)) (claims : List (List ℕ × Claimed)) (forgotten : List (List ℕ)) (puts : List (List ℕ × ℕ)) (given : List GivenUp) (capacity spare : ℕ)
    (l : IsLedger history ups fenced claims forgotten puts given capacity spare) where
  -- a call that puts no record and deletes no marker
  pub call_added : (after : ℕ) (who : Caller) (call : KeeperCall) (answer : KeeperAnswer) → let e = called who call answer in IsTrue (may_follow history e) → IsTrue (acts_bytes e.act)
      → ((uuid : List ℕ) → tries_delete (marker_name uuid) e.act ≡ false) → ((uuid : List ℕ) → tries_put (record_name uuid) e.act ≡ false)
      → length ups + length claims + length (history ++ e ∷ []) ≤ after → IsLedger (history ++ e ∷ []) ups fenced claims forgotten puts given after spare
  call_added after who call answer legal bytes no_marker no_record room = let e = called who call answer in record {
    legal = legal_more history e l.legal legal;
    bytes = bytes_more history e l.bytes bytes;
    ups_agree = up_kept history e (λ xs. refl) ups l.ups_agree;
    fenced_agree = fenced_kept history e refl fenced l.fenced_agree;
    claims_agree = claims_kept history e (λ uuid o. refl) (λ uuid. refl) claims l.claims_agree;
    forgotten_agree = forgotten_kept history e no_marker forgotten l.forgotten_agree;
    puts_agree = puts_kept history e no_record puts l.puts_agree;
    given_agree = given_kept history e (λ who id. refl) given l.given_agree;
    room = room;
    fence_room = l.fence_room;
  }

  -- a put of a record of a UUID: the map has its place
  pub record_added : (after place : ℕ) (who : Caller) (uuid name bytes : List ℕ) (answer : KeeperAnswer) (more : List (List ℕ × ℕ)) → let e = called who (Put name bytes) answer in
      IsTrue (may_follow history e) → IsTrue (acts_bytes e.act) → IsUuid uuid → name ≡ record_name uuid → place ≡ length history
      → ((q : List ℕ) → lookup (bytes_eq q) more ≡ cond (bytes_eq uuid q) (Some place) (lookup (bytes_eq q) puts))
      → length ups + length claims + length (history ++ e ∷ []) ≤ after → IsLedger (history ++ e ∷ []) ups fenced claims forgotten more given after spare
  record_added after place who uuid name bytes answer more legal made_of is named at updates room = let e = called who (Put name bytes) answer in record {
    legal = legal_more history e l.legal legal;
    bytes = bytes_more history e l.bytes made_of;
    ups_agree = up_kept history e (λ xs. refl) ups l.ups_agree;
    fenced_agree = fenced_kept history e refl fenced l.fenced_agree;
    claims_agree = claims_kept history e (λ uuid o. refl) (λ uuid. refl) claims l.claims_agree;
    forgotten_agree = forgotten_kept history e (λ u. refl) forgotten l.forgotten_agree;
    puts_agree = λ q is_q. updates q ∙ ap (λ n. cond (bytes_eq uuid q) (Some n) (lookup (bytes_eq q) puts)) at ∙ ap (λ o. cond (bytes_eq uuid q) (Some (length history)) o) (l.puts_agree q is_q)
        ∙ ap (λ t. if t then Some (length history) else last_put q history) (sym (ap (bytes_eq (record_name q)) named ∙ records_apart q uuid is_q is))
        ∙ sym (last_more (λ (x : DoorEntry). tries_put (record_name q) x.act) history e);
    given_agree = given_kept history e (λ who id. refl) given l.given_agree;
    room = room;
    fence_room = l.fence_room;
  }

  -- a delete of the marker of a UUID: the set has it
  pub marker_added : (after : ℕ) (who : Caller) (uuid name : List ℕ) (answer : KeeperAnswer) (more : List (List ℕ)) → let e = called who (Delete name) answer in
      IsTrue (may_follow history e) → IsTrue (acts_bytes e.act) → IsUuid uuid → name ≡ marker_name uuid
      → ((q : List ℕ) → list_any (bytes_eq q) more ≡ cond (bytes_eq uuid q) true (list_any (bytes_eq q) forgotten))
      → length ups + length claims + length (history ++ e ∷ []) ≤ after → IsLedger (history ++ e ∷ []) ups fenced claims more puts given after spare
  marker_added after who uuid name answer more legal made_of is named updates room = let e = called who (Delete name) answer in record {
    legal = legal_more history e l.legal legal;
    bytes = bytes_more history e l.bytes made_of;
    ups_agree = up_kept history e (λ xs. refl) ups l.ups_agree;
    fenced_agree = fenced_kept history e refl fenced l.fenced_agree;
    claims_agree = claims_kept history e (λ uuid o. refl) (λ uuid. refl) claims l.claims_agree;
    forgotten_agree = λ q is_q. updates q ∙ either (bytes_eq uuid q) (list_any (bytes_eq q) forgotten) ∙ ap (λ t. t || bytes_eq uuid q) (l.forgotten_agree q is_q)
        ∙ ap (λ t. is_forgotten q || t) (sym (ap (bytes_eq (marker_name q)) named ∙ markers_apart q uuid is_q is))
        ∙ sym (any_act (tries_delete (marker_name q)) history e);
    puts_agree = puts_kept history e (λ u. refl) puts l.puts_agree;
    given_agree = given_kept history e (λ who id. refl) given l.given_agree;
    room = room;
    fence_room = l.fence_room;
  }
    where
      is_forgotten : List ℕ → Bool
      is_forgotten q = list_any (λ (x : DoorEntry). tries_delete (marker_name q) x.act) history

      either : (t u : Bool) → cond t true u ≡ (u || t)
      either true u = sym (or-true u)
      either false true = refl
      either false false = refl

  -- the opening ends
  pub opened_added : (after : ℕ) (by : By) → let e = door_opened by in IsTrue (may_follow history e)
      → length ups + length claims + length (history ++ e ∷ []) ≤ after → IsLedger (history ++ e ∷ []) ups fenced claims forgotten puts given after spare
  opened_added after by legal room = let e = door_opened by in record {
    legal = legal_more history e l.legal legal;
    bytes = bytes_more history e l.bytes refl;
    ups_agree = up_kept history e (λ xs. refl) ups l.ups_agree;
    fenced_agree = fenced_kept history e refl fenced l.fenced_agree;
    claims_agree = claims_kept history e (λ uuid o. refl) (λ uuid. refl) claims l.claims_agree;
    forgotten_agree = forgotten_kept history e (λ u. refl) forgotten l.forgotten_agree;
    puts_agree = puts_kept history e (λ u. refl) puts l.puts_agree;
    given_agree = given_kept history e (λ who id. refl) given l.given_agree;
    room = room;
    fence_room = l.fence_room;
  }

  -- an incarnation comes up
  pub up_added : (after : ℕ) (by : By) (node inc : ℕ) (more : List (ℕ × ℕ)) → let e = came_up by node inc in IsTrue (may_follow history e)
      → ((q : ℕ) → lookup (λ key. q == key) more ≡ cond (eqb node q) (Some inc) (lookup (λ key. q == key) ups))
      → length more + length claims + length (history ++ e ∷ []) ≤ after → length more ≤ spare → IsLedger (history ++ e ∷ []) more fenced claims forgotten puts given after spare
  up_added after by node inc more legal updates room fences = let e = came_up by node inc in
      let comes = open_rule history e (and_false (same_line opening by)) legal in record {
        legal = legal_more history e l.legal legal;
        bytes = bytes_more history e l.bytes refl;
        ups_agree = subst (UpsIn more) (sym (ups_more history e)) (ups_with node inc _ ups more updates l.ups_agree);
        fenced_agree = fenced_kept history e refl fenced l.fenced_agree;
        claims_agree = claims_kept history e (λ uuid o. refl) (λ uuid. refl) claims l.claims_agree;
        forgotten_agree = forgotten_kept history e (λ u. refl) forgotten l.forgotten_agree;
        puts_agree = puts_kept history e (λ u. refl) puts l.puts_agree;
        given_agree = given_kept history e (λ who id. refl) given l.given_agree;
        room = room;
        fence_room = fences;
      }

  -- an incarnation is fenced
  pub fence_added : (after spare_after : ℕ) (by : By) (node inc : ℕ) (less_ups more : List (ℕ × ℕ)) (most : ℕ) → let e = was_fenced by node inc in IsTrue (may_follow history e)
      → ((q : ℕ) → lookup (λ key. q == key) less_ups ≡ cond (eqb node q) None (lookup (λ key. q == key) ups))
      → greater (lookup (λ key. node == key) fenced) inc ≡ Some most → ((q : ℕ) → lookup (λ key. q == key) more ≡ cond (eqb node q) (Some most) (lookup (λ key. q == key) fenced))
      → length less_ups + length claims + length (history ++ e ∷ []) ≤ after → length less_ups ≤ spare_after
      → IsLedger (history ++ e ∷ []) less_ups more claims forgotten puts given after spare_after
  fence_added after spare_after by node inc less_ups more most legal gone is updates room fences = let e = was_fenced by node inc in
      let comes = and_parts _ _ (open_rule history e (and_false (same_line opening by)) legal) in
      let who : Incarnation = incarnation node inc in record {
        legal = legal_more history e l.legal legal;
        bytes = bytes_more history e l.bytes refl;
        ups_agree = subst (UpsIn less_ups) (sym (ups_more history e)) (ups_without who _ (standing_is history l.legal).one comes.0 ups less_ups (not-true (node == 0) comes.1) gone l.ups_agree);
        fenced_agree = λ q. fenced_with node inc (history_fenced history) fenced more most is updates l.fenced_agree q ∙ ap (λ xs. greatest (flat_map (inc_at q) xs)) (sym (fenced_more history e));
        claims_agree = claims_kept history e (λ uuid o. refl) (λ uuid. refl) claims l.claims_agree;
        forgotten_agree = forgotten_kept history e (λ u. refl) forgotten l.forgotten_agree;
        puts_agree = puts_kept history e (λ u. refl) puts l.puts_agree;
        given_agree = given_kept history e (λ who id. refl) given l.given_agree;
        room = room;
        fence_room = fences;
      }

  -- an incarnation claims a UUID
  pub claim_added : (after place : ℕ) (who : Caller) (uuid : List ℕ) (more : List (List ℕ × Claimed)) → let e = claimed who uuid in IsTrue (may_follow history e) → IsUuid uuid → place ≡ length history
      → ((q : List ℕ) → lookup (bytes_eq q) more ≡ cond (bytes_eq uuid q) (Some (record { node = who.node; inc = who.inc; place = place })) (lookup (bytes_eq q) claims))
      → length ups + length more + length (history ++ e ∷ []) ≤ after → IsLedger (history ++ e ∷ []) ups fenced more forgotten puts given after spare
  claim_added after place who uuid more legal is at updates room = let e = claimed who uuid in record {
    legal = legal_more history e l.legal legal;
    bytes = bytes_more history e l.bytes (uuid_passes uuid is);
    ups_agree = up_kept history e (λ xs. refl) ups l.ups_agree;
    fenced_agree = fenced_kept history e refl fenced l.fenced_agree;
    claims_agree = record {
      claimant = λ q. ap claimant_in (updates q) ∙ whose (bytes_eq uuid q) (lookup (bytes_eq q) claims) (claimant q history) (l.claims_agree.claimant q)
          ∙ ap (λ t. if t then Some (who_calls who) else claimant q history) (bytes_symm uuid q) ∙ sym (claimant-snoc q history e);
      place = λ q. subst (IsPlaced q (history ++ e ∷ [])) (sym (updates q)) (placed q (bytes_eq uuid q) refl);
    };
    forgotten_agree = forgotten_kept history e (λ u. refl) forgotten l.forgotten_agree;
    puts_agree = puts_kept history e (λ u. refl) puts l.puts_agree;
    given_agree = given_kept history e (λ who id. refl) given l.given_agree;
    room = room;
    fence_room = l.fence_room;
  }
    where
      whose : (t : Bool) (o : Option Claimed) (w : Option Incarnation) → claimant_in o ≡ w → claimant_in (cond t (Some (record { node = who.node; inc = who.inc; place = place })) o) ≡ (if t then Some (who_calls who) else w)
      whose true o w e = refl
      whose false o w e = e

      placed : (q : List ℕ) (t : Bool) → bytes_eq uuid q ≡ t → IsPlaced q (history ++ claimed who uuid ∷ []) (cond t (Some (record { node = who.node; inc = who.inc; place = place })) (lookup (bytes_eq q) claims))
      placed q true same =
          last_more (λ (x : DoorEntry). is_claim_of q x.act) history (claimed who uuid)
          ∙ ap (λ t. if t then Some (length history) else last_place (λ (x : DoorEntry). is_claim_of q x.act) history) (bytes_symm q uuid ∙ same) ∙ ap (λ n. Some n) (sym at)
      placed q false other = placed_kept history (claimed who uuid) q (lookup (bytes_eq q) claims) (bytes_symm q uuid ∙ other) (l.claims_agree.place q)

  -- an incarnation lets a UUID go
  pub release_added : (after : ℕ) (who : Caller) (uuid : List ℕ) (less_claims : List (List ℕ × Claimed)) → let e = released who uuid in IsTrue (may_follow history e) → IsUuid uuid
      → ((q : List ℕ) → lookup (bytes_eq q) less_claims ≡ cond (bytes_eq uuid q) None (lookup (bytes_eq q) claims))
      → length ups + length less_claims + length (history ++ e ∷ []) ≤ after → IsLedger (history ++ e ∷ []) ups fenced less_claims forgotten puts given after spare
  release_added after who uuid less_claims legal is updates room = let e = released who uuid in
      let held = holds_claim (who_calls who) uuid history (and_parts _ _ (open_rule history e (and_false (same_line opening who.by)) legal)).1 in record {
        legal = legal_more history e l.legal legal;
        bytes = bytes_more history e l.bytes (uuid_passes uuid is);
        ups_agree = up_kept history e (λ xs. refl) ups l.ups_agree;
        fenced_agree = fenced_kept history e refl fenced l.fenced_agree;
        claims_agree = record {
          claimant = λ q. ap claimant_in (updates q) ∙ whose q (bytes_eq uuid q) refl held ∙ sym (claimant-snoc q history e);
          place = λ q. subst (IsPlaced q (history ++ e ∷ [])) (sym (updates q)) (placed q (bytes_eq uuid q));
        };
        forgotten_agree = forgotten_kept history e (λ u. refl) forgotten l.forgotten_agree;
        puts_agree = puts_kept history e (λ u. refl) puts l.puts_agree;
        given_agree = given_kept history e (λ who id. refl) given l.given_agree;
        room = room;
        fence_room = l.fence_room;
      }
    where
      whose : (q : List ℕ) (t : Bool) → bytes_eq uuid q ≡ t → IsTrue (is_held_by (who_calls who) (claimant uuid history))
          → claimant_in (cond t None (lookup (bytes_eq q) claims)) ≡ (if bytes_eq q uuid && is_held_by (who_calls who) (claimant q history) then None else claimant q history)
      whose q true same held =
          let at : bytes_eq q uuid ≡ true = bytes_symm q uuid ∙ same in
          let his : is_held_by (who_calls who) (claimant q history) ≡ true = subst (λ u. IsTrue (is_held_by (who_calls who) (claimant u history))) ((bytes_decides uuid q).0 same) held in
          sym (ap (λ t. if t && is_held_by (who_calls who) (claimant q history) then None else claimant q history) at ∙ ap (λ t. if t then None else claimant q history) his)
      whose q false other held = l.claims_agree.claimant q ∙ sym (ap (λ t. if t && is_held_by (who_calls who) (claimant q history) then None else claimant q history) (bytes_symm q uuid ∙ other))

      placed : (q : List ℕ) (t : Bool) → IsPlaced q (history ++ released who uuid ∷ []) (cond t None (lookup (bytes_eq q) claims))
      placed q true = tt
      placed q false = placed_kept history (released who uuid) q (lookup (bytes_eq q) claims) refl (l.claims_agree.place q)

  -- an incarnation gives the commit of an id up
  pub give_up_added : (after : ℕ) (who : Caller) (id : TxnId) (more : List GivenUp) → let e = gave_up who id in IsTrue (may_follow history e) → IsUuid id.uuid
      → ((q : GivenUp) → list_any (same_given q) more ≡ cond (same_given (record { node = who.node; inc = who.inc; id = id }) q) true (list_any (same_given q) given))
      → length ups + length claims + length (history ++ e ∷ []) ≤ after → IsLedger (history ++ e ∷ []) ups fenced claims forgotten puts more after spare
  give_up_added after who id more legal is updates room = let e = gave_up who id in record {
    legal = legal_more history e l.legal legal;
    bytes = bytes_more history e l.bytes (uuid_passes id.uuid is);
    ups_agree = up_kept history e (λ xs. refl) ups l.ups_agree;
    fenced_agree = fenced_kept history e refl fenced l.fenced_agree;
    claims_agree = claims_kept history e (λ uuid o. refl) (λ uuid. refl) claims l.claims_agree;
    forgotten_agree = forgotten_kept history e (λ u. refl) forgotten l.forgotten_agree;
    puts_agree = puts_kept history e (λ u. refl) puts l.puts_agree;
    given_agree = λ w i. updates (record { node = w.node; inc = w.inc; id = i })
        ∙ ap (λ t. cond t true (list_any (same_given (record { node = w.node; inc = w.inc; id = i })) given)) (given_symm (record { node = who.node; inc = who.inc; id = id }) (record { node = w.node; inc = w.inc; id = i }))
        ∙ ap (λ t. cond t true (list_any (same_given (record { node = w.node; inc = w.inc; id = i })) given)) (and_nested (w.node == who.node) (w.inc == who.inc) (same_id i id))
        ∙ either (gives_up w i e.act) _ ∙ ap (λ t. t || gives_up w i e.act) (l.given_agree w i) ∙ sym (any_act (gives_up w i) history e);
    room = room;
    fence_room = l.fence_room;
  }
    where
      either : (t u : Bool) → cond t true u ≡ (u || t)
      either true u = sym (or-true u)
      either false true = refl
      either false false = refl
