-- Who made the entries of a run with one more: lines that the run asks, each client's in turn, and where lines run whole in their order.
use Rattle.std.proofs.Common.{◌≡◌, ◌<◌, ℕ, zero, suc, Bool, false, ◌&&◌, ◌||◌, not, List, [], ◌∷◌, ◌++◌, drop, refl, sym, subst, ap, ◌∙◌, ◌⊎◌, inl, inr, eqb, leb, arith}
use Rattle.std.specs.Prelude.{IsFalse, IsTrue, None, Option, Some, map, nat_le}
use Rattle.std.specs.List.{list_all, list_any}
use Rattle.std.proofs.lemmas.Bool.{and_from, and_parts, cases_Bool, eqb-false, eqb-true, le-leb, not-true, or_cases, or_left, or_right, true≢false}
use Rattle.std.proofs.lemmas.List.Folds.{list_all-append}
use Rattle.aft_model.specs.declared.caller.By.{By}
use Rattle.aft_model.specs.declared.door.DoorEntry.{DoorEntry}
use Rattle.aft_model.specs.declared.mail.MailEntry.{MailEntry}
use Rattle.aft_model.specs.declared.node.NodeEntry.{NodeEntry}
use Rattle.aft_model.specs.declared.office.OfficeEntry.{OfficeEntry}
use Rattle.aft_model.specs.declared.script.Line.{Line}
use Rattle.aft_model.proofs.Histories.{In, all_at, any_found, any_from, in_back, in_front}
use Rattle.aft_model.proofs.Lists.{all_from}
use Rattle.aft_model.specs.History.{each_after}
use Rattle.aft_model.specs.Opening.{opening}
use Rattle.aft_model.specs.ScanRun.{same_line}
use Rattle.aft_lines.specs.Asked.{Asked, Ran}
use Rattle.aft_lines.specs.FinishedText.{line_of}
use Rattle.aft_lines.specs.LegalTrace.{are_asks, asked_last, begin_behind_opening, clients_in_order, has_seen_earlier, in_rank_order, is_after_own, is_of_lines, makers, opens_as_asked, opens_first, ran_as_ordered, ran_whole, rank}
use Rattle.aft_lines.specs.Lines.{lines, node_numbers}
use Rattle.aft_lines.specs.OpeningCourse.{opening_course}
use Rattle.aft_lines.specs.Turns.{Turn, end_front, turns}
use Rattle.law_accounts.proofs.Lists.{all_more, each_more, each_with_more, map_more, maps_with}
use Rattle.law_accounts.proofs.Others.{turns_same}
use Rattle.law_accounts.specs.Account.{Account, IsDone, MayGoOn, Runs, Stand, Waits}
use Rattle.law_accounts.specs.Adding.{AddsAtBox, AddsAtDoor, AddsAtNode, AddsAtOffice, Added, ComesInOrder, Follows, comes_in, maker_of, with_added, with_entry_in}
use Rattle.law_claims.proofs.Scenes.{by_itself}

-- what holds of the makers of each history holds with one more, if it does behind each of them
pub makers_so : (test : List By → Bool) (ran : Ran) (added : Added) → IsTrue (list_all test (makers ran)) → ((xs : List By) → In xs (makers ran) → IsTrue (test xs) → IsTrue (test (xs ++ maker_of added ∷ []))) → IsTrue (list_all test (makers (with_added added ran)))
makers_so test ran added all more = by_kind added all more
  where
    door : List By
    door = map (λ (e : DoorEntry). e.by) ran.trace.door

    office : List By
    office = map (λ (e : OfficeEntry). e.by) ran.trace.office

    nodes : List (List By)
    nodes = map (map (λ (e : NodeEntry). e.by)) ran.trace.nodes

    mail : List (List By)
    mail = map (map (λ (e : MailEntry). e.by)) ran.mail

    whole : (d o : List By) (n m : List (List By)) → IsTrue (test d) → IsTrue (test o) → IsTrue (list_all test n) → IsTrue (list_all test m) → IsTrue (list_all test (d ∷ o ∷ n ++ m))
    whole d o n m td to tn tm = and_from _ _ td (and_from _ _ to (list_all-append test n m ∙ and_from _ _ tn tm))

    by_kind : (added : Added) → IsTrue (list_all test (makers ran)) → ((xs : List By) → In xs (makers ran) → IsTrue (test xs) → IsTrue (test (xs ++ maker_of added ∷ []))) → IsTrue (list_all test (makers (with_added added ran)))
    by_kind added all more =
        let first = and_parts (test door) (test office && list_all test (nodes ++ mail)) all in
        let second = and_parts (test office) (list_all test (nodes ++ mail)) first.1 in
        let third = and_parts (list_all test nodes) (list_all test mail) (sym (list_all-append test nodes mail) ∙ second.1) in
        cases added first.0 second.0 third.0 third.1 more
      where
        cases : (added : Added) → IsTrue (test door) → IsTrue (test office) → IsTrue (list_all test nodes) → IsTrue (list_all test mail) → ((xs : List By) → In xs (makers ran) → IsTrue (test xs) → IsTrue (test (xs ++ maker_of added ∷ []))) → IsTrue (list_all test (makers (with_added added ran)))
        cases (AddsAtDoor entry) d o n m more =
            whole (map (λ (e : DoorEntry). e.by) (ran.trace.door ++ entry ∷ [])) office nodes mail (subst (λ (xs : List By). IsTrue (test xs)) (sym (map_more (λ (e : DoorEntry). e.by) ran.trace.door entry)) (more door (inl refl) d)) o n m
        cases (AddsAtNode node entry) d o n m more =
            whole door office (map (map (λ (e : NodeEntry). e.by)) (with_entry_in node entry 1 ran.trace.nodes)) mail d o
            (subst (λ (xs : List (List By)). IsTrue (list_all test xs)) (sym (maps_with (λ (e : NodeEntry). e.by) node entry 1 ran.trace.nodes))
            (each_with_more test node entry.by 1 nodes n (λ xs among is. more xs (inr (inr (in_front xs nodes mail among))) is))) m
        cases (AddsAtOffice entry) d o n m more =
            whole door (map (λ (e : OfficeEntry). e.by) (ran.trace.office ++ entry ∷ [])) nodes mail d (subst (λ (xs : List By). IsTrue (test xs)) (sym (map_more (λ (e : OfficeEntry). e.by) ran.trace.office entry)) (more office (inr (inl refl)) o)) n m
        cases (AddsAtBox box entry) d o n m more =
            whole door office nodes (map (map (λ (e : MailEntry). e.by)) (with_entry_in box entry 0 ran.mail)) d o n
            (subst (λ (xs : List (List By)). IsTrue (list_all test xs)) (sym (maps_with (λ (e : MailEntry). e.by) box entry 0 ran.mail))
            (each_with_more test box entry.by 0 mail m (λ xs among is. more xs (inr (inr (in_back xs nodes mail among))) is)))

-- ---- the opening

-- what the opening of a run is made of
pub opening_parts : (asked : Asked) (ran : Ran) → IsTrue (opens_as_asked asked ran)
    → IsTrue (list_all (list_all (is_of_lines (lines asked))) (makers ran)) × IsTrue (opening_course (node_numbers asked.settings) (turns opening ran.trace)) × IsTrue (list_all opens_first (makers ran)) × IsTrue (begin_behind_opening ran.trace)
    × IsTrue (list_all (list_all (λ (e : MailEntry). not (same_line opening e.by))) ran.mail)
opening_parts asked ran so =
    let of : Bool = list_all (list_all (is_of_lines (lines asked))) (makers ran) in
    let course : Bool = opening_course (node_numbers asked.settings) (turns opening ran.trace) in
    let first : Bool = list_all opens_first (makers ran) in
    let four = and_parts (of && course && first && begin_behind_opening ran.trace) (list_all (list_all (λ (e : MailEntry). not (same_line opening e.by))) ran.mail) so in
    let three = and_parts (of && course && first) (begin_behind_opening ran.trace) four.0 in
    let two = and_parts (of && course) first three.0 in
    let one = and_parts of course two.0 in
    (one.0, one.1, two.1, three.1, four.1)

module _ (asked : Asked) (ran : Ran) (added : Added) (line : Line) (among : In line (lines asked)) (by : maker_of added ≡ line_of line) (stranger : IsFalse (same_line opening (maker_of added))) where
  abbrev new : Ran
  new = with_added added ran

  its_line : IsTrue (is_of_lines (lines asked) (maker_of added))
  its_line = or_right _ _ (any_from (λ (l : Line). same_line (line_of l) (maker_of added)) line (lines asked) among (subst (λ (b : By). IsTrue (same_line (line_of line) b)) (sym by) (by_itself (line_of line))))

  -- each turn has seen the opening
  abbrev behind : ℕ → List (List NodeEntry) → List OfficeEntry → Bool
  behind front nodes office =
      list_all (list_all (λ (e : NodeEntry). same_line opening e.by || nat_le front e.front)) nodes && list_all (λ (e : OfficeEntry). same_line opening e.by || nat_le front e.front) office

  behind_so : Follows asked ran added → IsTrue (behind (end_front (turns opening ran.trace)) ran.trace.nodes ran.trace.office) → IsTrue (behind (end_front (turns opening ran.trace)) new.trace.nodes new.trace.office)
  behind_so follows so = cases added follows
    where
      front : ℕ
      front = end_front (turns opening ran.trace)

      parts : IsTrue (list_all (list_all (λ (e : NodeEntry). same_line opening e.by || nat_le front e.front)) ran.trace.nodes) × IsTrue (list_all (λ (e : OfficeEntry). same_line opening e.by || nat_le front e.front) ran.trace.office)
      parts = and_parts _ _ so

      cases : (one : Added) → Follows asked ran one → IsTrue (behind front (with_added one ran).trace.nodes (with_added one ran).trace.office)
      cases (AddsAtDoor entry) follows = so
      cases (AddsAtNode node entry) follows =
          and_from _ _
          (each_with_more (list_all (λ (e : NodeEntry). same_line opening e.by || nat_le front e.front)) node entry 1 ran.trace.nodes parts.0
          (λ history inside is. all_more (λ (e : NodeEntry). same_line opening e.by || nat_le front e.front) history entry is (or_right _ _ (le-leb front entry.front follows.3))))
          parts.1
      cases (AddsAtOffice entry) follows = and_from _ _ parts.0 (all_more (λ (e : OfficeEntry). same_line opening e.by || nat_le front e.front) ran.trace.office entry parts.1 (or_right _ _ (le-leb front entry.front follows.1)))
      cases (AddsAtBox box entry) follows = so

  mail_so : IsTrue (list_all (list_all (λ (e : MailEntry). not (same_line opening e.by))) ran.mail) → IsTrue (list_all (list_all (λ (e : MailEntry). not (same_line opening e.by))) new.mail)
  mail_so so = cases added stranger
    where
      cases : (one : Added) → IsFalse (same_line opening (maker_of one)) → IsTrue (list_all (list_all (λ (e : MailEntry). not (same_line opening e.by))) (with_added one ran).mail)
      cases (AddsAtDoor entry) other = so
      cases (AddsAtNode node entry) other = so
      cases (AddsAtOffice entry) other = so
      cases (AddsAtBox box entry) other =
          each_with_more (list_all (λ (e : MailEntry). not (same_line opening e.by))) box entry 0 ran.mail so (λ history inside is. all_more (λ (e : MailEntry). not (same_line opening e.by)) history entry is (ap not other))

  pub opens_so : Follows asked ran added → IsTrue (opens_as_asked asked ran) → IsTrue (opens_as_asked asked new)
  opens_so follows so =
      let parts = opening_parts asked ran so in
      let its : turns opening new.trace ≡ turns opening ran.trace = turns_same opening ran added stranger in
      and_from _ _
      (and_from _ _
      (and_from _ _
      (and_from _ _
      (makers_so (list_all (is_of_lines (lines asked))) ran added parts.0 (λ xs inside is. all_more (is_of_lines (lines asked)) xs (maker_of added) is its_line))
      (subst (λ (l : List Turn). IsTrue (opening_course (node_numbers asked.settings) l)) (sym its) parts.1))
      (makers_so opens_first ran added parts.2 (λ xs inside is. each_more (λ (before : List By) (b : By). not (same_line opening b) || list_all (same_line opening) before) xs (maker_of added) is (or_left _ _ (ap not stranger)))))
      (subst (λ (l : List Turn). IsTrue (behind (end_front l) new.trace.nodes new.trace.office)) (sym its) (behind_so follows parts.3)))
      (mail_so parts.4)

-- ---- clients

pub clients_so : (asked : Asked) (ran : Ran) (stand : Line → Stand) (line : Line) (added : Added) → Account asked ran stand → MayGoOn asked stand line → maker_of added ≡ line_of line → IsTrue (list_all (list_all (is_of_lines (lines asked))) (makers ran))
    → IsTrue (clients_in_order (with_added added ran))
clients_so asked ran stand line added account may by of = makers_so (λ xs. each_after is_after_own [] xs) ran added account.clients (λ xs inside is. each_more is_after_own xs (maker_of added) is (subst (λ (b : By). IsTrue (is_after_own xs b)) (sym by) (after xs inside)))
  where
    -- an earlier entry of the client is of a line that is not later
    low : (xs : List By) (other : By) → In xs (makers ran) → In other xs → other.client ≡ line.client → (line.client ≡ 0 → ⊥) → IsTrue (nat_le other.line line.number)
    low xs other inside it same counts =
        elim (or_cases (same_line opening other) (list_any (λ (l : Line). same_line (line_of l) other) (lines asked)) (all_at (is_of_lines (lines asked)) other xs it (all_at (list_all (is_of_lines (lines asked))) xs (makers ran) inside of))) [
          | inl opens ↦ absurd (counts (sym same ∙ sym (eqb-true 0 other.client (and_parts (eqb 0 other.client) (eqb 0 other.line) opens).0)))
          | inr lists ↦
              let found = any_found (λ (l : Line). same_line (line_of l) other) (lines asked) lists in
              let its = and_parts (eqb found.0.client other.client) (eqb found.0.number other.line) found.2 in
              elim (cases_Bool (leb other.line line.number)) [
                | inl le ↦ le
                | inr gt ↦ absurd (later found.0 found.1 (eqb-true found.0.client other.client its.0 ∙ same) (eqb-true found.0.number other.line its.1) gt found.2)
              ]
        ]
      where
        above : (a b c : ℕ) → c ≡ a → leb a b ≡ false → b < c
        above a b c is gt = grind arith

        never : (stand line ≡ Waits) ⊎ (stand line ≡ Runs) → stand line ≡ IsDone → ⊥
        never (inl waits) done = cc
        never (inr runs) done = cc

        later : (l : Line) → In l (lines asked) → l.client ≡ line.client → l.number ≡ other.line → leb other.line line.number ≡ false → IsTrue (same_line (line_of l) other) → ⊥
        later l listed client number gt own = elim (account.in_turn line l may.among listed client (above other.line line.number l.number number gt)) [
          | inl waits ↦
              let none = all_at (λ (b : By). not (same_line (line_of l) b)) other xs it (all_at (list_all (λ (b : By). not (same_line (line_of l) b))) xs (makers ran) inside (account.waiting l listed waits)) in
              true≢false (sym own ∙ not-true (same_line (line_of l) other) none)
          | inr done ↦ never may.unless_over done
        ]

    after : (xs : List By) → In xs (makers ran) → IsTrue (is_after_own xs (line_of line))
    after xs inside = elim (cases_Bool (eqb line.client 0)) [
      | inl zero_client ↦ or_left _ _ zero_client
      | inr counts ↦ or_right _ _ (all_from (λ (other : By). not (eqb other.client line.client) || nat_le other.line line.number) xs (λ other it. elim (cases_Bool (eqb other.client line.client)) [
        | inl same ↦ or_right _ _ (low xs other inside it (eqb-true other.client line.client same) (eqb-false line.client 0 counts))
        | inr differs ↦ or_left _ _ (ap not differs)
      ]))
    ]

-- ---- lines that run whole

drop_more : {A : Type 0} (test : A → Bool) (front : ℕ) (xs : List A) (x : A) → IsTrue (list_all test (drop front xs)) → IsTrue (test x) → IsTrue (list_all test (drop front (xs ++ x ∷ [])))
drop_more test zero xs x all last = all_more test xs x all last
drop_more test (suc front) [] x all last = none front
  where
    none : (n : ℕ) → IsTrue (list_all test (drop n []))
    none zero = refl
    none (suc n) = refl
drop_more test (suc front) (y ∷ xs) x all last = drop_more test front xs x all last

module _ (ran : Ran) (order : List Line) where
  abbrev seen : List DoorEntry → ℕ → By → Bool
  seen door front by = has_seen_earlier order door front by

  -- what a list's entries have seen is so too with an entry of a line that comes behind them all
  all_seen : {E : Type 0} (front : E → ℕ) (by : E → By) (entry : DoorEntry) (history : List E) → IsTrue (list_all (λ e. seen ran.trace.door (front e) (by e)) history) → IsTrue (list_all (λ other. nat_le (rank order other) (rank order entry.by)) (map by history))
      → IsTrue (list_all (λ e. seen (ran.trace.door ++ entry ∷ []) (front e) (by e)) history)
  all_seen front by entry [] all low = refl
  all_seen front by entry (e ∷ history) all low =
      let own = and_parts (seen ran.trace.door (front e) (by e)) (list_all (λ x. seen ran.trace.door (front x) (by x)) history) all in
      let its = and_parts (nat_le (rank order (by e)) (rank order entry.by)) (list_all (λ other. nat_le (rank order other) (rank order entry.by)) (map by history)) low in
      and_from _ _ (drop_more (λ (d : DoorEntry). nat_le (rank order (by e)) (rank order d.by)) (front e) ran.trace.door entry own.0 its.0) (all_seen front by entry history own.1 its.1)

  nodes_seen : (entry : DoorEntry) (nodes : List (List NodeEntry)) → IsTrue (list_all (list_all (λ (e : NodeEntry). seen ran.trace.door e.front e.by)) nodes)
      → IsTrue (list_all (list_all (λ other. nat_le (rank order other) (rank order entry.by))) (map (map (λ (e : NodeEntry). e.by)) nodes)) → IsTrue (list_all (list_all (λ (e : NodeEntry). seen (ran.trace.door ++ entry ∷ []) e.front e.by)) nodes)
  nodes_seen entry [] all low = refl
  nodes_seen entry (history ∷ nodes) all low =
      let own = and_parts (list_all (λ (e : NodeEntry). seen ran.trace.door e.front e.by) history) (list_all (list_all (λ (e : NodeEntry). seen ran.trace.door e.front e.by)) nodes) all in
      let its = and_parts (list_all (λ other. nat_le (rank order other) (rank order entry.by)) (map (λ (e : NodeEntry). e.by) history)) (list_all (list_all (λ other. nat_le (rank order other) (rank order entry.by))) (map (map (λ (e : NodeEntry). e.by)) nodes)) low in
      and_from _ _ (all_seen (λ (e : NodeEntry). e.front) (λ (e : NodeEntry). e.by) entry history own.0 its.0) (nodes_seen entry nodes own.1 its.1)

  pub whole_so : (added : Added) → IsTrue (ran_whole ran order) → ComesInOrder order ran added → IsTrue (ran_whole (with_added added ran) order)
  whole_so added so comes =
      let two = and_parts (list_all (in_rank_order order) (makers ran) && list_all (list_all (λ (e : NodeEntry). seen ran.trace.door e.front e.by)) ran.trace.nodes) (list_all (λ (e : OfficeEntry). seen ran.trace.door e.front e.by) ran.trace.office) so in
      let one = and_parts (list_all (in_rank_order order) (makers ran)) (list_all (list_all (λ (e : NodeEntry). seen ran.trace.door e.front e.by)) ran.trace.nodes) two.0 in
      let ranked = makers_so (in_rank_order order) ran added one.0 (λ xs inside is.
      each_more (λ (before : List By) (b : By). list_all (λ other. nat_le (rank order other) (rank order b)) before) xs (maker_of added) is
      (all_at (list_all (λ other. nat_le (rank order other) (rank order (maker_of added)))) xs (makers ran) inside comes.0)) in
      let rest = cases added comes one.1 two.1 in
      and_from _ _ (and_from _ _ ranked rest.0) rest.1
    where
      cases : (one : Added) → ComesInOrder order ran one → IsTrue (list_all (list_all (λ (e : NodeEntry). seen ran.trace.door e.front e.by)) ran.trace.nodes) → IsTrue (list_all (λ (e : OfficeEntry). seen ran.trace.door e.front e.by) ran.trace.office)
          → IsTrue (list_all (list_all (λ (e : NodeEntry). seen (with_added one ran).trace.door e.front e.by)) (with_added one ran).trace.nodes) × IsTrue (list_all (λ (e : OfficeEntry). seen (with_added one ran).trace.door e.front e.by) (with_added one ran).trace.office)
      cases (AddsAtDoor entry) comes nodes office =
          let low = list_all (λ other. nat_le (rank order other) (rank order entry.by)) in
          let first = and_parts (low (map (λ (e : DoorEntry). e.by) ran.trace.door)) (low (map (λ (e : OfficeEntry). e.by) ran.trace.office) && list_all low (map (map (λ (e : NodeEntry). e.by)) ran.trace.nodes ++ map (map (λ (e : MailEntry). e.by)) ran.mail)) comes.0 in
          let second = and_parts (low (map (λ (e : OfficeEntry). e.by) ran.trace.office)) (list_all low (map (map (λ (e : NodeEntry). e.by)) ran.trace.nodes ++ map (map (λ (e : MailEntry). e.by)) ran.mail)) first.1 in
          let third = and_parts (list_all low (map (map (λ (e : NodeEntry). e.by)) ran.trace.nodes)) (list_all low (map (map (λ (e : MailEntry). e.by)) ran.mail)) (sym (list_all-append low (map (map (λ (e : NodeEntry). e.by)) ran.trace.nodes) (map (map (λ (e : MailEntry). e.by)) ran.mail)) ∙ second.1) in
          (nodes_seen entry ran.trace.nodes nodes third.0, all_seen (λ (e : OfficeEntry). e.front) (λ (e : OfficeEntry). e.by) entry ran.trace.office office second.0)
      cases (AddsAtNode node entry) comes nodes office =
          (each_with_more (list_all (λ (e : NodeEntry). seen ran.trace.door e.front e.by)) node entry 1 ran.trace.nodes nodes (λ history inside is. all_more (λ (e : NodeEntry). seen ran.trace.door e.front e.by) history entry is comes.1), office)
      cases (AddsAtOffice entry) comes nodes office = (nodes, all_more (λ (e : OfficeEntry). seen ran.trace.door e.front e.by) ran.trace.office entry office comes.1)
      cases (AddsAtBox box entry) comes nodes office = (nodes, office)

pub as_ordered : (ran : Ran) (added : Added) (order : Option (List Line)) → IsTrue (ran_as_ordered ran order) → comes_in ran added order → IsTrue (ran_as_ordered (with_added added ran) order)
as_ordered ran added None so comes = refl
as_ordered ran added (Some order) so comes = whole_so ran order added so comes

pub asks_so : (asked : Asked) (ran : Ran) (added : Added) → IsTrue (asked_last asked ran) → ComesInOrder asked.asks ran added → IsTrue (asked_last asked (with_added added ran))
asks_so asked ran added so comes = (let parts = and_parts (are_asks asked) (ran_whole ran asked.asks) so in and_from _ _ parts.0 (whole_so ran asked.asks added parts.1 comes))
