-- What stands where there is no world.
use Rattle.std.proofs.Common.{◌≡◌, ◌+◌, ◌-◌, ◌≤◌, ℕ, zero, suc, Bool, true, ◌&&◌, ◌||◌, List, [], ◌++◌, eqb, length, refl, sym, ap, subst, ◌∙◌, inl, inr, append_assoc, arith}
use Rattle.std.specs.Prelude.{IsFalse, IsTrue, map, replicate}
use Rattle.std.specs.List.{flat_map, list_all, range_with_len}
use Rattle.std.proofs.lemmas.Bool.{and_from, eq-eqb, or_left}
use Rattle.std.proofs.lemmas.List.{length-replicate}
use Rattle.std.proofs.lemmas.List.Folds.{list_all-append, list_any-append}
use Rattle.aft_audit.specs.Audit.{IsRefusedFor}
use Rattle.aft_audit.specs.declared.fault.AuditFault.{AuditFault}
use Rattle.aft_audit.specs.declared.fault.AuditFault.TheVariants as faults
use Rattle.aft_keeper.specs.Cause.{HasCause}
use Rattle.aft_model.specs.declared.door.DoorEntry.{DoorEntry}
use Rattle.aft_model.specs.declared.node.NodeEntry.{NodeEntry}
use Rattle.aft_model.specs.Bytes.{HasBytes}
use Rattle.aft_model.specs.DoorKnowledge.{is_open, opens}
use Rattle.aft_model.specs.LegalDoor.{Legal, may_follow}
use Rattle.aft_model.specs.Opening.{has_failed, is_failure, opening}
use Rattle.aft_model.specs.ScanRun.{same_line}
use Rattle.aft_model.proofs.Histories.{each_after_split}
use Rattle.aft_lines.specs.Asked.{Asked, Settings, are_settings}
use Rattle.aft_lines.specs.Lines.{node_numbers}
use Rattle.aft_lines.specs.OpeningCourse.{boots_so_far, opens_so_far}
use Rattle.aft_lines.specs.RefusedTrace.{RefusedTrace, are_empty}
use Rattle.aft_lines.specs.Turns.{Turn, door_turns, nodes_turns, turns}
use Rattle.aft_boot.specs.FirstBoots.{boot_entries}
use Rattle.aft_boot.specs.World.{IsStopped, NoWorldFor, StopsBehind, StopsBoot, is_store, last_boot, refused_run}
use Rattle.aft_boot.proofs.Audited.{its_reads, opened_alone, reads_alone, reads_of_opening, ready_first, works}
use Rattle.aft_boot.proofs.Courses.{behind_audit, boots_on, on_audit}
use Rattle.aft_boot.proofs.MadeTurns.{boot_door_turns, boots_turns_at_door, door_append, refused_turns}
use Rattle.aft_boot.proofs.Refusals.{Behind, behind_so, tail_begins, tail_fails, tail_own, tail_why}
use Rattle.aft_boot.proofs.Worlds.{boots_own, boots_work, door_own}

-- ---- by the audit

still_closed : (fault : AuditFault) (door : List DoorEntry) → IsRefusedFor fault door → IsFalse (is_open door)
still_closed faults.Store door refused = refused.closed
still_closed faults.TooMany door refused = refused.reading.closed
still_closed (faults.Damaged name) door refused = refused.reading.closed
still_closed faults.Memory door refused = refused.closed

audit_fails : (fault : AuditFault) (door : List DoorEntry) → IsRefusedFor fault door → has_failed door ≡ is_store fault
audit_fails faults.Store door refused = refused.failed
audit_fails faults.TooMany door refused = refused.reading.works
audit_fails (faults.Damaged name) door refused = refused.reading.works
audit_fails faults.Memory door refused = refused.works

-- ---- behind it

module _ (settings : Settings) (fault : AuditFault) (door : List DoorEntry) (stopped : StopsBehind settings fault door) (legal : Legal door) where
  abbrev behind : Behind settings fault stopped.audited door
  behind = behind_so settings fault stopped.audited door stopped.stopped

  abbrev at_boots : List DoorEntry
  at_boots = flat_map boot_entries behind.boots

  audited_legal : Legal stopped.audited
  audited_legal = (each_after_split may_follow [] stopped.audited (at_boots ++ behind.tail) (subst Legal (behind.door_is ∙ append_assoc stopped.audited at_boots behind.tail) legal)).0

  abbrev reach : ℕ
  reach = length stopped.audited + length at_boots

  -- its turns
  door_line : door_turns opening 0 door ≡ door_turns opening 0 stopped.audited ++ (flat_map boot_door_turns behind.boots ++ door_turns opening reach behind.tail)
  door_line =
      ap (door_turns opening 0) (behind.door_is ∙ append_assoc stopped.audited at_boots behind.tail)
      ∙ door_append opening 0 stopped.audited (at_boots ++ behind.tail)
      ∙ ap (λ (p : ℕ). door_turns opening 0 stopped.audited ++ door_turns opening p (at_boots ++ behind.tail)) (let it : 0 + length stopped.audited ≡ length stopped.audited = omega arith in it)
      ∙ ap (λ (ts : List Turn). door_turns opening 0 stopped.audited ++ ts) (boots_turns_at_door (length stopped.audited) behind.boots behind.tail behind.follow)

  begins : IsTrue (opens_so_far (node_numbers settings) (door_turns opening 0 door))
  begins =
      subst (λ (ts : List Turn). IsTrue (opens_so_far (node_numbers settings) ts)) (sym door_line)
      (subst (λ (h : List DoorEntry). IsTrue (opens_so_far (node_numbers settings) (door_turns opening 0 h ++ (flat_map boot_door_turns behind.boots ++ door_turns opening reach behind.tail)))) (sym stopped.opened.ends)
      (behind_audit (opens_so_far (node_numbers settings)) (boots_so_far (node_numbers settings)) (λ place act line. refl) 0 stopped.opened.before (flat_map boot_door_turns behind.boots ++ door_turns opening reach behind.tail) (its_reads stopped.commits stopped.audited stopped.opened audited_legal)
      ∙ subst (λ (n : ℕ). IsTrue (boots_so_far (range_with_len 1 n) (flat_map boot_door_turns behind.boots ++ door_turns opening reach behind.tail))) (both behind.count settings.nodes behind.few)
      (boots_on 1 behind.count (settings.nodes - behind.count) (length stopped.audited) behind.boots (door_turns opening reach behind.tail) behind.numbers behind.follow
      (tail_begins settings.nodes fault behind.count reach behind.tail behind.its))))
    where
      both : (m n : ℕ) → m ≤ n → m + (n - m) ≡ n
      both m n le = omega arith

  own : IsTrue (list_all (λ entry. same_line opening entry.by) door)
  own =
      subst (λ (h : List DoorEntry). IsTrue (list_all (λ entry. same_line opening entry.by) h)) (sym behind.door_is)
      (list_all-append (λ (e : DoorEntry). same_line opening e.by) (stopped.audited ++ at_boots) behind.tail
      ∙ and_from _ _ (list_all-append (λ (e : DoorEntry). same_line opening e.by) stopped.audited at_boots ∙ and_from _ _ (opened_alone stopped.commits stopped.audited stopped.opened audited_legal) (boots_own behind.boots))
      (tail_own settings.nodes fault behind.count reach behind.tail behind.its))

  fails : has_failed door ≡ is_store fault
  fails =
      ap has_failed behind.door_is
      ∙ list_any-append (λ (e : DoorEntry). is_failure e.act) (stopped.audited ++ at_boots) behind.tail
      ∙ ap (λ (t : Bool). t || has_failed behind.tail)
      (list_any-append (λ (e : DoorEntry). is_failure e.act) stopped.audited at_boots
      ∙ ap (λ (t : Bool). t || has_failed at_boots) (works stopped.commits stopped.audited stopped.opened audited_legal)
      ∙ boots_work behind.boots)
      ∙ tail_fails settings.nodes fault behind.count reach behind.tail behind.its

  is_open_now : IsTrue (is_open door)
  is_open_now =
      subst (λ (h : List DoorEntry). IsTrue (is_open h)) (sym (behind.door_is ∙ append_assoc stopped.audited at_boots behind.tail))
      (list_any-append (λ (e : DoorEntry). opens e.act) stopped.audited (at_boots ++ behind.tail) ∙ or_left _ _ (ready_first stopped.commits stopped.audited stopped.opened audited_legal).opened)

  no_world : NoWorldFor fault door
  no_world = inr (record {
    opened = is_open_now;
    stops = subst (λ (h : List DoorEntry). StopsBoot fault (last_boot h)) (sym behind.door_is) (tail_why settings.nodes fault behind.count reach (stopped.audited ++ at_boots) behind.tail behind.its);
  })

-- ---- by either

pub why : (settings : Settings) (fault : AuditFault) (door : List DoorEntry) → IsStopped settings fault door → Legal door → NoWorldFor fault door
why settings fault door (inl refused) legal = inl refused
why settings fault door (inr stopped) legal = no_world settings fault door stopped legal

pub failed : (settings : Settings) (fault : AuditFault) (door : List DoorEntry) → IsStopped settings fault door → Legal door → has_failed door ≡ is_store fault
failed settings fault door (inl refused) legal = audit_fails fault door refused
failed settings fault door (inr stopped) legal = fails settings fault door stopped legal

own_door : (settings : Settings) (fault : AuditFault) (door : List DoorEntry) → IsStopped settings fault door → Legal door → IsTrue (list_all (λ entry. same_line opening entry.by) door)
own_door settings fault door (inl refused) legal = reads_of_opening door (reads_alone door legal (still_closed fault door refused))
own_door settings fault door (inr stopped) legal = own settings fault door stopped legal

so_far : (settings : Settings) (fault : AuditFault) (door : List DoorEntry) → IsStopped settings fault door → Legal door → IsTrue (opens_so_far (node_numbers settings) (door_turns opening 0 door))
so_far settings fault door (inl refused) legal = on_audit (node_numbers settings) 0 door (reads_alone door legal (still_closed fault door refused))
so_far settings fault door (inr stopped) legal = begins settings fault door stopped legal

-- ---- the run

no_turns : (from n : ℕ) → nodes_turns opening from (replicate n []) ≡ []
no_turns from zero = refl
no_turns from (suc n) = no_turns (suc from) n

no_entries : (n : ℕ) → IsTrue (are_empty (replicate {A = List NodeEntry} n []))
no_entries zero = refl
no_entries (suc n) = and_from _ _ refl (no_entries n)

nobody : (n : ℕ) → IsTrue (list_all (list_all (same_line opening)) (map (map (λ (entry : NodeEntry). entry.by)) (replicate n []) ++ []))
nobody zero = refl
nobody (suc n) = and_from _ _ refl (nobody n)

pub refused_so : (settings : Settings) (fault : AuditFault) (door : List DoorEntry) → IsStopped settings fault door → Legal door → HasBytes door → IsTrue (are_settings settings) → (asked : Asked) → asked.settings ≡ settings → RefusedTrace asked (refused_run settings door)
refused_so settings fault door stopped legal bytes fits asked same = record {
  settings = subst (λ (s : Settings). IsTrue (are_settings s)) (sym same) fits;
  bytes = bytes;
  door = legal;
  no_line = and_from _ _ (door_own door (own_door settings fault door stopped legal)) (and_from _ _ refl (nobody settings.nodes));
  others = or_left _ _ (subst (λ (s : Settings). IsTrue (are_empty (replicate {A = List NodeEntry} settings.nodes []) && eqb (length (replicate {A = List NodeEntry} settings.nodes [])) s.nodes && true && true && opens_so_far (node_numbers s) (turns opening (refused_run settings door).trace))) (sym same)
      (and_from _ _ (and_from _ _ (and_from _ _ (and_from _ _ (no_entries settings.nodes) (eq-eqb (length (replicate {A = List NodeEntry} settings.nodes [])) settings.nodes (length-replicate {A = List NodeEntry} settings.nodes []))) refl) refl)
      (subst (λ (ts : List Turn). IsTrue (opens_so_far (node_numbers settings) ts)) (sym (refused_turns door (replicate settings.nodes []) (no_turns 1 settings.nodes))) (so_far settings fault door stopped legal))));
}

-- a fault of the store is told only where the count of failures rose
pub cause_of : (settings : Settings) (fault : AuditFault) (door : List DoorEntry) (before now : ℕ) → IsStopped settings fault door → Legal door → HasCause (IsTrue (has_failed door)) before now → HasCause (fault ≡ faults.Store) before now
cause_of settings fault door before now stopped legal cause = record {
  never_falls = cause.never_falls;
  rose = λ is. cause.rose (failed settings fault door stopped legal ∙ ap is_store is);
}
