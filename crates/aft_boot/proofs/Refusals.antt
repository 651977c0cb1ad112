-- What an opening that was refused did at the door, and why it was refused.
use Rattle.std.proofs.Common.{◌≡◌, ◌+◌, ◌-◌, ◌≤◌, ◌<◌, ℕ, suc, Bool, false, ◌||◌, List, [], ◌∷◌, ◌++◌, length, length-append, refl, sym, ap, subst, ◌∙◌, ◌⊎◌, inl, inr, append-nil, append_assoc, arith}
use Rattle.std.specs.Prelude.{IsTrue, None, if◌then◌else◌, map}
use Rattle.std.specs.List.{flat_map, fold, list_all, list_any, range_with_len}
use Rattle.std.proofs.lemmas.Bool.{and_from, or_parts}
use Rattle.std.proofs.lemmas.List.Concat.{flat_map-append}
use Rattle.std.proofs.lemmas.List.Sums.{fold-append}
use Rattle.aft_audit.specs.declared.fault.AuditFault.{AuditFault}
use Rattle.aft_audit.specs.declared.fault.AuditFault.TheVariants as faults
use Rattle.aft_keeper.specs.declared.keeper.KeeperAnswer.{KeeperAnswer}
use Rattle.aft_keeper.specs.declared.keeper.KeeperAnswer.TheVariants as answers
use Rattle.aft_keeper.specs.declared.keeper.Pair.{Pair}
use Rattle.aft_model.specs.declared.caller.By.{By}
use Rattle.aft_model.specs.declared.door.DoorAct.TheVariants.{Up}
use Rattle.aft_model.specs.declared.door.DoorEntry.{DoorEntry}
use Rattle.aft_model.specs.declared.reply.Reply.{Reply}
use Rattle.aft_model.specs.declared.reply.Reply.TheVariants as replies
use Rattle.aft_model.specs.DoorKnowledge.{is_up_act}
use Rattle.aft_model.specs.History.{first_of}
use Rattle.aft_model.specs.Membership.{incarnation}
use Rattle.aft_model.specs.Opening.{has_failed, is_failure, opening}
use Rattle.aft_model.specs.ScanRun.{same_line}
use Rattle.aft_model.specs.Sound.{records_prefix}
use Rattle.aft_lines.specs.Asked.{Settings}
use Rattle.aft_lines.specs.CausesScans.{damage_in, listed_in}
use Rattle.aft_lines.specs.CourseWords.{is_over}
use Rattle.aft_lines.specs.LineView.{door_entry_in}
use Rattle.aft_lines.specs.OpeningCourse.{boots_so_far}
use Rattle.aft_lines.specs.ScanCourse.{Scanned, names_limit, scanned}
use Rattle.aft_lines.specs.Turns.{AtDoor, AtNode, AtOffice, Turn, door_turns, turns}
use Rattle.aft_boot.specs.Booted.{AreRead, PageAt, listed_on, page_act, page_turn}
use Rattle.aft_boot.specs.FirstBoots.{FirstBoot, FollowFrom, HasStopped, HaveStopped, Stops, StopsBehind, TellsFault, boot_entries}
use Rattle.aft_boot.specs.Pages.{StopsCall, damage}
use Rattle.aft_boot.specs.World.{StopsBoot, is_store, last_boot, names_shown}
use Rattle.aft_boot.proofs.Courses.{nothing_behind, over_so_far, stopped_on, stopped_pages, whole_pages}
use Rattle.aft_boot.proofs.Drives.{done_at_door}
use Rattle.aft_boot.proofs.Entries.{fails, lists_records, page_entry, pages_entries, shows_damage}
use Rattle.aft_boot.proofs.MadeTurns.{pages_turns}
use Rattle.aft_boot.proofs.PageRuns.{fine_all}
use Rattle.aft_boot.proofs.Worlds.{pages_work}

-- ---- a boot that stopped behind its coming up

-- what it did at the door
stopped_entries : (node place : ℕ) (pages : List PageAt) (more : List Turn) → done_at_door (AtDoor place (Up node 1) ∷ map (page_turn node 1) pages ++ more) ≡ record { by = opening; act = Up node 1 } ∷ (map (page_entry opening node 1) pages ++ done_at_door more)
stopped_entries node place pages more =
    ap (λ (es : List DoorEntry). record { by = opening; act = Up node 1 } ∷ es)
    (flat_map-append (door_entry_in opening) (map (page_turn node 1) pages) more ∙ ap (λ (es : List DoorEntry). es ++ done_at_door more) (pages_entries opening node 1 pages))

-- its scan is over behind that
scan_over : (node place : ℕ) (pages : List PageAt) (more : List Turn) (fault : AuditFault) → AreRead pages → StopsBehind node pages more fault → IsTrue (is_over (scanned names_limit (incarnation node 1) records_prefix (map (page_turn node 1) pages ++ door_turns opening place (done_at_door more))).behind)
scan_over node place pages more fault read (inl (none, memory, inl (after, goes))) =
    subst (λ (ts : List Turn). IsTrue (is_over (scanned names_limit (incarnation node 1) records_prefix (map (page_turn node 1) pages ++ door_turns opening place (done_at_door ts))).behind)) (sym none)
    (stopped_pages node pages [] after [] [] goes (fine_all pages read) (λ l. refl))
scan_over node place pages more fault read (inl (none, memory, inr whole)) =
    subst (λ (ts : List Turn). IsTrue (is_over (scanned names_limit (incarnation node 1) records_prefix (map (page_turn node 1) pages ++ door_turns opening place (done_at_door ts))).behind)) (sym none)
    (subst (λ (s : Scanned). IsTrue (is_over s.behind)) (sym (whole_pages node pages [] whole read)) refl)
scan_over node place pages more fault read (inr (at, after, answer, reply, goes, one, stops, tells)) =
    subst (λ (ts : List Turn). IsTrue (is_over (scanned names_limit (incarnation node 1) records_prefix (map (page_turn node 1) pages ++ door_turns opening place (done_at_door ts))).behind)) (sym one)
    (stopped_pages node pages [] after [] (AtDoor place (page_act node 1 after answer) ∷ []) goes (fine_all pages read) (λ l. nothing_behind node place after l answer))

stopped_begins : (node place : ℕ) (fault : AuditFault) (turns : List Turn) (others : List ℕ) → HasStopped node fault place turns → IsTrue (boots_so_far (node ∷ others) (door_turns opening place (done_at_door turns)))
stopped_begins node place fault turns others has =
    subst (λ (es : List DoorEntry). IsTrue (boots_so_far (node ∷ others) (door_turns opening place es))) (sym (ap done_at_door has.turns_are ∙ stopped_entries node place has.pages has.more))
    (subst (λ (ts : List Turn). IsTrue (boots_so_far (node ∷ others) (AtDoor place (Up node 1) ∷ ts))) (sym (pages_turns node (suc place) has.pages (done_at_door has.more) has.placed))
    (stopped_on node place has.pages (door_turns opening (suc place + length has.pages) (done_at_door has.more)) others
    (scan_over node (suc place + length has.pages) has.pages has.more fault has.read has.stops)))

-- ---- its turns at the door

turns_own : (turns : List Turn) → IsTrue (list_all (λ entry. same_line opening entry.by) (done_at_door turns))
turns_own [] = refl
turns_own (AtDoor place act ∷ turns) = and_from _ _ refl (turns_own turns)
turns_own (AtNode node before entry ∷ turns) = turns_own turns
turns_own (AtOffice before entry ∷ turns) = turns_own turns

-- what is behind some boots: nothing, or what one did that stopped
abbrev pub IsTail : ℕ → AuditFault → ℕ → ℕ → List DoorEntry → Type 0
IsTail most fault count place tail =
    ((tail ≡ []) × (fault ≡ faults.Memory))
    ⊎ ((count < most) × ((turns : List Turn) × HasStopped (suc count) fault place turns × (tail ≡ done_at_door turns)))

pub tail_own : (most : ℕ) (fault : AuditFault) (count place : ℕ) (tail : List DoorEntry) → IsTail most fault count place tail → IsTrue (list_all (λ entry. same_line opening entry.by) tail)
tail_own most fault count place tail (inl (none, memory)) = subst (λ (es : List DoorEntry). IsTrue (list_all (λ entry. same_line opening entry.by) es)) (sym none) refl
tail_own most fault count place tail (inr (lt, (turns, has, is))) = subst (λ (es : List DoorEntry). IsTrue (list_all (λ entry. same_line opening entry.by) es)) (sym is) (turns_own turns)

pub tail_begins : (most : ℕ) (fault : AuditFault) (count place : ℕ) (tail : List DoorEntry) → IsTail most fault count place tail → IsTrue (boots_so_far (range_with_len (1 + count) (most - count)) (door_turns opening place tail))
tail_begins most fault count place tail (inl (none, memory)) =
    subst (λ (es : List DoorEntry). IsTrue (boots_so_far (range_with_len (1 + count) (most - count)) (door_turns opening place es))) (sym none) (over_so_far (range_with_len (1 + count) (most - count)))
tail_begins most fault count place tail (inr (lt, (turns, has, is))) =
    subst (λ (es : List DoorEntry). IsTrue (boots_so_far (range_with_len (1 + count) (most - count)) (door_turns opening place es))) (sym is)
    (subst (λ (n : ℕ). IsTrue (boots_so_far (range_with_len (1 + count) n) (door_turns opening place (done_at_door turns)))) left
    (subst (λ (n : ℕ). IsTrue (boots_so_far (n ∷ range_with_len (1 + count + 1) (most - suc count)) (door_turns opening place (done_at_door turns)))) next
    (stopped_begins (suc count) place fault turns (range_with_len (1 + count + 1) (most - suc count)) has)))
  where
    left : suc (most - suc count) ≡ most - count
    left = let it = lt in omega arith

    next : suc count ≡ 1 + count
    next = omega arith

-- ---- whether a call failed

memory_is_not : (fault : AuditFault) → fault ≡ faults.Memory → false ≡ is_store fault
memory_is_not fault is = sym (ap is_store is)

-- a call that stops a boot failed where the fault is the store's
call_fails : (node : ℕ) (after : List ℕ) (answer : KeeperAnswer) (listed : ℕ) (reply : Reply) (fault : AuditFault) → StopsCall answer listed reply → TellsFault reply fault → (is_failure (page_act node 1 after answer) || false) ≡ is_store fault
call_fails node after answers.Failed listed reply fault is tells = sym (ap is_store (subst (λ (r : Reply). TellsFault r fault) is tells))
call_fails node after (answers.Page page) listed replies.TooManyRecords fault stops tells = sym (ap is_store tells)
call_fails node after (answers.Page page) listed (replies.Damaged name) fault stops (inl is) = sym (ap is_store is)
call_fails node after (answers.Page page) listed (replies.Damaged name) fault stops (inr memory) = memory_is_not fault memory
call_fails node after (answers.Page page) listed replies.NoMemory fault stops tells = memory_is_not fault tells
call_fails node after (answers.Page page) listed reply fault stops tells = absurd stops
call_fails node after (answers.Found bytes) listed replies.NoMemory fault stops tells = memory_is_not fault tells
call_fails node after (answers.Found bytes) listed reply fault stops tells = absurd stops
call_fails node after answers.Absent listed replies.NoMemory fault stops tells = memory_is_not fault tells
call_fails node after answers.Absent listed reply fault stops tells = absurd stops
call_fails node after answers.Done listed replies.NoMemory fault stops tells = memory_is_not fault tells
call_fails node after answers.Done listed reply fault stops tells = absurd stops

more_fails : (node : ℕ) (pages : List PageAt) (more : List Turn) (fault : AuditFault) → StopsBehind node pages more fault → has_failed (done_at_door more) ≡ is_store fault
more_fails node pages more fault (inl (none, memory, chain)) = ap (λ (ts : List Turn). has_failed (done_at_door ts)) none ∙ memory_is_not fault memory
more_fails node pages more fault (inr (at, after, answer, reply, goes, one, stops, tells)) =
    ap (λ (ts : List Turn). has_failed (done_at_door ts)) one ∙ call_fails node after answer (length (listed_on pages)) reply fault stops tells

pub tail_fails : (most : ℕ) (fault : AuditFault) (count place : ℕ) (tail : List DoorEntry) → IsTail most fault count place tail → has_failed tail ≡ is_store fault
tail_fails most fault count place tail (inl (none, memory)) = ap has_failed none ∙ memory_is_not fault memory
tail_fails most fault count place tail (inr (lt, (turns, has, is))) =
    ap has_failed (is ∙ ap done_at_door has.turns_are ∙ stopped_entries (suc count) place has.pages has.more)
    ∙ pages_work (suc count) has.pages (done_at_door has.more)
    ∙ more_fails (suc count) has.pages has.more fault has.stops

-- ---- why it stopped

-- a history with nobody's coming up at its end
since_more : (since rest : List DoorEntry) → list_any (λ entry. is_up_act entry.act) rest ≡ false → fold (λ (before : List DoorEntry) (entry : DoorEntry). if is_up_act entry.act then [] else before ++ entry ∷ []) since rest ≡ since ++ rest
since_more since [] none = sym (append-nil since)
since_more since (entry ∷ rest) none =
    let parts = or_parts (is_up_act entry.act) (list_any (λ (e : DoorEntry). is_up_act e.act) rest) none in
    ap (λ (t : Bool). fold (λ (before : List DoorEntry) (e : DoorEntry). if is_up_act e.act then [] else before ++ e ∷ []) (if t then [] else since ++ entry ∷ []) rest) parts.0
    ∙ since_more (since ++ entry ∷ []) rest parts.1
    ∙ append_assoc since (entry ∷ []) rest

last_behind : (xs rest : List DoorEntry) (by : By) (node : ℕ) → list_any (λ entry. is_up_act entry.act) rest ≡ false → last_boot (xs ++ (record { by = by; act = Up node 1 } ∷ rest)) ≡ rest
last_behind xs rest by node none =
    fold-append (λ (before : List DoorEntry) (entry : DoorEntry). if is_up_act entry.act then [] else before ++ entry ∷ []) [] xs (record { by = by; act = Up node 1 } ∷ rest)
    ∙ since_more [] rest none

no_ups : (node : ℕ) (pages : List PageAt) (rest : List DoorEntry) → list_any (λ entry. is_up_act entry.act) rest ≡ false → list_any (λ entry. is_up_act entry.act) (map (page_entry opening node 1) pages ++ rest) ≡ false
no_ups node [] rest none = none
no_ups node (page ∷ pages) rest none = no_ups node pages rest none

module _ (node : ℕ) (pages : List PageAt) (read : AreRead pages) (after : List ℕ) where
  abbrev boot_of : KeeperAnswer → List DoorEntry
  boot_of answer = map (page_entry opening node 1) pages ++ record { by = opening; act = page_act node 1 after answer } ∷ []

  names_so : (answer : KeeperAnswer) → flat_map (λ (e : DoorEntry). listed_in records_prefix e.act) (boot_of answer) ≡ listed_on pages ++ flat_map (λ (e : DoorEntry). listed_in records_prefix e.act) (record { by = opening; act = page_act node 1 after answer } ∷ [])
  names_so answer = lists_records opening node 1 None pages (record { by = opening; act = page_act node 1 after answer } ∷ [])

  count_so : (page : List Pair) → names_shown (boot_of (answers.Page page)) ≡ length (listed_on pages) + length page
  count_so page =
      ap (λ (ps : List Pair). length ps) (names_so (answers.Page page))
      ∙ (let l = length-append (listed_on pages) (page ++ []) in let m = length-append page [] in omega arith)

  damage_so : (page : List Pair) → flat_map (damage_in None) (boot_of (answers.Page page)) ≡ damage page
  damage_so page = shows_damage opening node 1 None pages (record { by = opening; act = page_act node 1 after (answers.Page page) } ∷ []) read.readable ∙ append-nil (damage page)

  as_memory : (answer : KeeperAnswer) (fault : AuditFault) → fault ≡ faults.Memory → StopsBoot fault (boot_of answer)
  as_memory answer fault is = subst (λ (f : AuditFault). StopsBoot f (boot_of answer)) (sym is) tt

  why_call : (answer : KeeperAnswer) (reply : Reply) (fault : AuditFault) → StopsCall answer (length (listed_on pages)) reply → TellsFault reply fault → StopsBoot fault (boot_of answer)
  why_call answers.Failed reply fault is tells =
      subst (λ (f : AuditFault). StopsBoot f (boot_of answers.Failed)) (sym (subst (λ (r : Reply). TellsFault r fault) is tells))
      (fails opening node 1 None pages (λ (entry : DoorEntry). is_failure entry.act) (record { by = opening; act = page_act node 1 after answers.Failed }) refl)
  why_call (answers.Page page) replies.TooManyRecords fault past tells =
      subst (λ (f : AuditFault). StopsBoot f (boot_of (answers.Page page))) (sym tells) (let c = count_so page in omega arith)
  why_call (answers.Page page) (replies.Damaged written) fault (few, shown) (inl is) =
      subst (λ (f : AuditFault). StopsBoot f (boot_of (answers.Page page))) (sym is)
      ((let c = count_so page in omega arith), (shown.0, ap (λ (names : List (List ℕ)). first_of names) (damage_so page) ∙ shown.1, shown.2))
  why_call (answers.Page page) (replies.Damaged written) fault stops (inr memory) = as_memory (answers.Page page) fault memory
  why_call (answers.Page page) replies.NoMemory fault stops tells = as_memory (answers.Page page) fault tells
  why_call (answers.Page page) reply fault stops tells = absurd stops
  why_call (answers.Found bytes) replies.NoMemory fault stops tells = as_memory (answers.Found bytes) fault tells
  why_call (answers.Found bytes) reply fault stops tells = absurd stops
  why_call answers.Absent replies.NoMemory fault stops tells = as_memory answers.Absent fault tells
  why_call answers.Absent reply fault stops tells = absurd stops
  why_call answers.Done replies.NoMemory fault stops tells = as_memory answers.Done fault tells
  why_call answers.Done reply fault stops tells = absurd stops

any_memory : (fault : AuditFault) (boot : List DoorEntry) → fault ≡ faults.Memory → StopsBoot fault boot
any_memory fault boot is = subst (λ (f : AuditFault). StopsBoot f boot) (sym is) tt

pub tail_why : (most : ℕ) (fault : AuditFault) (count place : ℕ) (before tail : List DoorEntry) → IsTail most fault count place tail → StopsBoot fault (last_boot (before ++ tail))
tail_why most fault count place before tail (inl (none, memory)) = any_memory fault (last_boot (before ++ tail)) memory
tail_why most fault count place before tail (inr (lt, (turns, has, is))) =
    subst (λ (es : List DoorEntry). StopsBoot fault (last_boot (before ++ es))) (sym (is ∙ ap done_at_door has.turns_are ∙ stopped_entries (suc count) place has.pages has.more)) (by_stop has.stops)
  where
    by_stop : StopsBehind (suc count) has.pages has.more fault → StopsBoot fault (last_boot (before ++ (record { by = opening; act = Up (suc count) 1 } ∷ (map (page_entry opening (suc count) 1) has.pages ++ done_at_door has.more))))
    by_stop (inl (none, memory, chain)) = any_memory fault _ memory
    by_stop (inr (at, after, answer, reply, goes, one, stops, tells)) =
        subst (λ (ts : List Turn). StopsBoot fault (last_boot (before ++ (record { by = opening; act = Up (suc count) 1 } ∷ (map (page_entry opening (suc count) 1) has.pages ++ done_at_door ts))))) (sym one)
        (subst (StopsBoot fault) (sym (last_behind before (boot_of (suc count) has.pages has.read after answer) opening (suc count) (no_ups (suc count) has.pages (record { by = opening; act = page_act (suc count) 1 after answer } ∷ []) refl)))
        (why_call (suc count) has.pages has.read after answer reply fault stops tells))

-- ---- all that it did

-- what stands behind the audit
pub record Behind (settings : Settings) (fault : AuditFault) (audited door : List DoorEntry) : Type 0 where
  pub count : ℕ
  pub boots : List FirstBoot
  pub tail : List DoorEntry
  pub few : count ≤ settings.nodes
  pub numbers : map (λ boot. boot.node) boots ≡ range_with_len 1 count
  pub follow : FollowFrom (length audited) boots
  pub door_is : door ≡ (audited ++ flat_map boot_entries boots) ++ tail
  pub its : IsTail settings.nodes fault count (length audited + length (flat_map boot_entries boots)) tail

pub behind_so : (settings : Settings) (fault : AuditFault) (audited door : List DoorEntry) → HaveStopped settings.nodes fault audited door → Behind settings fault audited door
behind_so settings fault audited door stopped = by_stop stopped.stops
  where
    reaches : length stopped.between ≡ length audited + length (flat_map boot_entries stopped.served.boots)
    reaches = ap (λ (h : List DoorEntry). length h) stopped.served.door ∙ length-append audited (flat_map boot_entries stopped.served.boots)

    with_tail : (tail : List DoorEntry) → door ≡ stopped.between ++ tail → IsTail settings.nodes fault stopped.count (length audited + length (flat_map boot_entries stopped.served.boots)) tail → Behind settings fault audited door
    with_tail tail is its = record {
      count = stopped.count;
      boots = stopped.served.boots;
      tail = tail;
      few = stopped.few;
      numbers = stopped.served.numbers;
      follow = stopped.served.follow;
      door_is = is ∙ ap (λ (h : List DoorEntry). h ++ tail) stopped.served.door;
      its = its;
    }

    by_stop : ((stopped.between ≡ door) × (fault ≡ faults.Memory)) ⊎ ((stopped.count < settings.nodes) × Stops (suc stopped.count) fault stopped.between door) → Behind settings fault audited door
    by_stop (inl (same, memory)) = with_tail [] (sym same ∙ sym (append-nil stopped.between)) (inl (refl, memory))
    by_stop (inr (lt, inl (same, memory))) = with_tail [] (same ∙ sym (append-nil stopped.between)) (inl (refl, memory))
    by_stop (inr (lt, inr (turns, has, is))) = with_tail (done_at_door turns) is (inr (lt, (turns, subst (λ (n : ℕ). HasStopped (suc stopped.count) fault n turns) reaches has, refl)))
