-- The turns of an opening in the order in which they were made: those of the audit at the door, and then those of each first boot.
use Rattle.std.proofs.Common.{◌≡◌, ◌+◌, ◌≤◌, ℕ, zero, suc, Bool, true, false, List, [], ◌∷◌, ◌++◌, eqb, length, length-append, refl, sym, ap, subst, ◌∙◌, append-nil, append_assoc, arith}
use Rattle.std.specs.Prelude.{IsTrue, filter, if◌then◌else◌, is_none, map}
use Rattle.std.specs.List.{flat_map, range_with_len}
use Rattle.std.proofs.lemmas.Bool.{and_from, and_parts, eqb-true, le-leb}
use Rattle.std.proofs.lemmas.List.{length-map}
use Rattle.std.proofs.lemmas.List.Elements.{filter-append}
use Rattle.std.proofs.lemmas.List.Folds.{list_all-append}
use Rattle.aft_model.specs.declared.caller.By.{By}
use Rattle.aft_model.specs.declared.door.DoorAct.TheVariants.{Up}
use Rattle.aft_model.specs.declared.door.DoorEntry.{DoorEntry}
use Rattle.aft_model.specs.declared.node.NodeEntry.{NodeEntry}
use Rattle.aft_model.specs.Opening.{opening}
use Rattle.aft_model.specs.ScanRun.{same_line}
use Rattle.aft_lines.specs.Turns.{AtDoor, AtNode, Turn, door_turns, given_in, moment, nodes_turns, turns}
use Rattle.law_turns.specs.Order.{give_nothing_up, is_at_door, moments_ascend}
use Rattle.aft_boot.specs.Booted.{PageAt, page_turn}
use Rattle.aft_boot.specs.FirstBoots.{FirstBoot, FollowFrom, StandsSo, are_placed, boot_entries, boot_turns, first_entry, last_entry, node_behind}
use Rattle.aft_boot.specs.World.{histories}
use Rattle.aft_boot.proofs.Entries.{page_entry}
use Rattle.aft_boot.proofs.Order.{in_order, is_elsewhere}
use Rattle.aft_boot.proofs.Served.{boot_at_door}

-- ---- turns at the door

pub door_append : (by : By) (place : ℕ) (xs ys : List DoorEntry) → door_turns by place (xs ++ ys) ≡ door_turns by place xs ++ door_turns by (place + length xs) ys
door_append by place [] ys = ap (λ (p : ℕ). door_turns by p ys) (let it : place ≡ place + 0 = omega arith in it)
door_append by place (entry ∷ xs) ys =
    ap (λ (ts : List Turn). (if same_line by entry.by then AtDoor place entry.act ∷ [] else []) ++ ts)
    (door_append by (suc place) xs ys ∙ ap (λ (p : ℕ). door_turns by (suc place) xs ++ door_turns by p ys) (let it : suc place + length xs ≡ place + suc (length xs) = omega arith in it))
    ∙ sym (append_assoc (if same_line by entry.by then AtDoor place entry.act ∷ [] else []) (door_turns by (suc place) xs) (door_turns by (place + length (entry ∷ xs)) ys))

doors_only : (by : By) (place : ℕ) (xs : List DoorEntry) → filter is_at_door (door_turns by place xs) ≡ door_turns by place xs
doors_only by place [] = refl
doors_only by place (entry ∷ xs) = by_line (same_line by entry.by) (doors_only by (suc place) xs)
  where
    by_line : (t : Bool) → filter is_at_door (door_turns by (suc place) xs) ≡ door_turns by (suc place) xs → filter is_at_door ((if t then AtDoor place entry.act ∷ [] else []) ++ door_turns by (suc place) xs) ≡ (if t then AtDoor place entry.act ∷ [] else []) ++ door_turns by (suc place) xs
    by_line true rest = ap (λ (ts : List Turn). AtDoor place entry.act ∷ ts) rest
    by_line false rest = rest

none_elsewhere : (by : By) (place : ℕ) (xs : List DoorEntry) → filter is_elsewhere (door_turns by place xs) ≡ []
none_elsewhere by place [] = refl
none_elsewhere by place (entry ∷ xs) = by_line (same_line by entry.by) (none_elsewhere by (suc place) xs)
  where
    by_line : (t : Bool) → filter is_elsewhere (door_turns by (suc place) xs) ≡ [] → filter is_elsewhere ((if t then AtDoor place entry.act ∷ [] else []) ++ door_turns by (suc place) xs) ≡ []
    by_line true rest = rest
    by_line false rest = rest

doors_quiet : (by : By) (place : ℕ) (xs : List DoorEntry) → IsTrue (give_nothing_up (door_turns by place xs))
doors_quiet by place [] = refl
doors_quiet by place (entry ∷ xs) = by_line (same_line by entry.by) (doors_quiet by (suc place) xs)
  where
    by_line : (t : Bool) → IsTrue (give_nothing_up (door_turns by (suc place) xs)) → IsTrue (give_nothing_up ((if t then AtDoor place entry.act ∷ [] else []) ++ door_turns by (suc place) xs))
    by_line true rest = and_from _ _ refl rest
    by_line false rest = rest

-- those of pages, and of a first boot
pub pages_turns : (node place : ℕ) (pages : List PageAt) (rest : List DoorEntry) → IsTrue (are_placed place pages) → door_turns opening place (map (page_entry opening node 1) pages ++ rest) ≡ map (page_turn node 1) pages ++ door_turns opening (place + length pages) rest
pages_turns node place [] rest placed = ap (λ (p : ℕ). door_turns opening p rest) (let it : place ≡ place + 0 = omega arith in it)
pages_turns node place (page ∷ pages) rest placed =
    let parts = and_parts (eqb page.place place) (are_placed (suc place) pages) placed in
    ap (λ (p : ℕ). AtDoor p (page_entry opening node 1 page).act ∷ door_turns opening (suc place) (map (page_entry opening node 1) pages ++ rest)) (sym (eqb-true page.place place parts.0))
    ∙ ap (λ (ts : List Turn). page_turn node 1 page ∷ ts)
    (pages_turns node (suc place) pages rest parts.1 ∙ ap (λ (p : ℕ). map (page_turn node 1) pages ++ door_turns opening p rest) (let it : suc place + length pages ≡ place + suc (length pages) = omega arith in it))

abbrev pub boot_door_turns : FirstBoot → List Turn
boot_door_turns boot = AtDoor boot.front (Up boot.node 1) ∷ map (page_turn boot.node 1) boot.pages

pub boot_length : (boot : FirstBoot) → length (boot_entries boot) ≡ suc (length boot.pages)
boot_length boot =
    ap (λ (es : List DoorEntry). length es) (boot_at_door boot)
    ∙ (let l = length-append (map (page_entry opening boot.node 1) boot.pages) [] in let m = length-map boot.pages (page_entry opening boot.node 1) in omega arith)

pub boot_turns_at_door : (boot : FirstBoot) (rest : List DoorEntry) → StandsSo boot → door_turns opening boot.front (boot_entries boot ++ rest) ≡ boot_door_turns boot ++ door_turns opening (boot.front + length (boot_entries boot)) rest
boot_turns_at_door boot rest stands =
    ap (λ (es : List DoorEntry). door_turns opening boot.front (es ++ rest)) (boot_at_door boot ∙ ap (λ (es : List DoorEntry). record { by = opening; act = Up boot.node 1 } ∷ es) (append-nil (map (page_entry opening boot.node 1) boot.pages)))
    ∙ ap (λ (ts : List Turn). AtDoor boot.front (Up boot.node 1) ∷ ts) (pages_turns boot.node (suc boot.front) boot.pages rest stands.placed)
    ∙ ap (λ (p : ℕ). boot_door_turns boot ++ door_turns opening p rest) (let l = boot_length boot in let it : suc boot.front + length boot.pages ≡ boot.front + length (boot_entries boot) = omega arith in it)

pub boots_turns_at_door : (place : ℕ) (boots : List FirstBoot) (rest : List DoorEntry) → FollowFrom place boots → door_turns opening place (flat_map boot_entries boots ++ rest) ≡ flat_map boot_door_turns boots ++ door_turns opening (place + length (flat_map boot_entries boots)) rest
boots_turns_at_door place [] rest follow = ap (λ (p : ℕ). door_turns opening p rest) (let it : place ≡ place + 0 = omega arith in it)
boots_turns_at_door place (boot ∷ boots) rest (begins, stands, follow) =
    ap (λ (p : ℕ). door_turns opening p ((boot_entries boot ++ flat_map boot_entries boots) ++ rest)) (sym begins)
    ∙ ap (door_turns opening boot.front) (append_assoc (boot_entries boot) (flat_map boot_entries boots) rest)
    ∙ boot_turns_at_door boot (flat_map boot_entries boots ++ rest) stands
    ∙ ap (λ (p : ℕ). boot_door_turns boot ++ door_turns opening (p + length (boot_entries boot)) (flat_map boot_entries boots ++ rest)) begins
    ∙ ap (λ (ts : List Turn). boot_door_turns boot ++ ts)
    (boots_turns_at_door (place + length (boot_entries boot)) boots rest follow
    ∙ ap (λ (p : ℕ). flat_map boot_door_turns boots ++ door_turns opening p rest)
    (let l = length-append (boot_entries boot) (flat_map boot_entries boots) in let it : place + length (boot_entries boot) + length (flat_map boot_entries boots) ≡ place + length (boot_entries boot ++ flat_map boot_entries boots) = omega arith in it))
    ∙ sym (append_assoc (boot_door_turns boot) (flat_map boot_door_turns boots) (door_turns opening (place + length (flat_map boot_entries (boot ∷ boots))) rest))

-- ---- the parts of the list

pages_filtered : (test : Turn → Bool) (node : ℕ) (pages : List PageAt) (last : Turn) (kept : List Turn) → ((page : PageAt) → test (page_turn node 1 page) ≡ true) → filter test (last ∷ []) ≡ kept → filter test (map (page_turn node 1) pages ++ last ∷ []) ≡ map (page_turn node 1) pages ++ kept
pages_filtered test node [] last kept takes is = is
pages_filtered test node (page ∷ pages) last kept takes is =
    ap (λ (t : Bool). if t then page_turn node 1 page ∷ filter test (map (page_turn node 1) pages ++ last ∷ []) else filter test (map (page_turn node 1) pages ++ last ∷ [])) (takes page)
    ∙ ap (λ (ts : List Turn). page_turn node 1 page ∷ ts) (pages_filtered test node pages last kept takes is)

pages_dropped : (node : ℕ) (pages : List PageAt) (rest : List Turn) → filter is_elsewhere (map (page_turn node 1) pages ++ rest) ≡ filter is_elsewhere rest
pages_dropped node [] rest = refl
pages_dropped node (page ∷ pages) rest = pages_dropped node pages rest

boot_doors : (boot : FirstBoot) → filter is_at_door (boot_turns boot) ≡ boot_door_turns boot
boot_doors boot =
    ap (λ (ts : List Turn). AtDoor boot.front (Up boot.node 1) ∷ ts)
    (pages_filtered is_at_door boot.node boot.pages (AtNode boot.node (first_entry boot ∷ []) (last_entry boot)) [] (λ page. refl) refl ∙ append-nil (map (page_turn boot.node 1) boot.pages))

boot_elsewhere : (boot : FirstBoot) → filter is_elsewhere (boot_turns boot) ≡ AtNode boot.node [] (first_entry boot) ∷ AtNode boot.node (first_entry boot ∷ []) (last_entry boot) ∷ []
boot_elsewhere boot =
    ap (λ (ts : List Turn). AtNode boot.node [] (first_entry boot) ∷ ts)
    (pages_dropped boot.node boot.pages (AtNode boot.node (first_entry boot ∷ []) (last_entry boot) ∷ []))

boots_doors : (boots : List FirstBoot) → filter is_at_door (flat_map boot_turns boots) ≡ flat_map boot_door_turns boots
boots_doors [] = refl
boots_doors (boot ∷ boots) =
    filter-append is_at_door (boot_turns boot) (flat_map boot_turns boots)
    ∙ ap (λ (ts : List Turn). ts ++ filter is_at_door (flat_map boot_turns boots)) (boot_doors boot)
    ∙ ap (λ (ts : List Turn). boot_door_turns boot ++ ts) (boots_doors boots)

boots_elsewhere : (capacity lines from count : ℕ) (boots : List FirstBoot) → map (λ (boot : FirstBoot). boot.node) boots ≡ range_with_len from count → filter is_elsewhere (flat_map boot_turns boots) ≡ nodes_turns opening from (histories (map (node_behind capacity lines) boots))
boots_elsewhere capacity lines from count [] numbers = refl
boots_elsewhere capacity lines from zero (boot ∷ boots) numbers = absurd (cc)
boots_elsewhere capacity lines from (suc count) (boot ∷ boots) numbers =
    let here : boot.node ≡ from = cc in
    filter-append is_elsewhere (boot_turns boot) (flat_map boot_turns boots)
    ∙ ap (λ (ts : List Turn). ts ++ filter is_elsewhere (flat_map boot_turns boots)) (boot_elsewhere boot)
    ∙ ap (λ (n : ℕ). (AtNode n [] (first_entry boot) ∷ AtNode n (first_entry boot ∷ []) (last_entry boot) ∷ []) ++ filter is_elsewhere (flat_map boot_turns boots)) here
    ∙ ap (λ (ts : List Turn). (AtNode from [] (first_entry boot) ∷ AtNode from (first_entry boot ∷ []) (last_entry boot) ∷ []) ++ ts)
    (boots_elsewhere capacity lines (from + 1) count boots (cc) ∙ ap (λ (n : ℕ). nodes_turns opening n (histories (map (node_behind capacity lines) boots))) (let it : from + 1 ≡ suc from = omega arith in it))

pages_quiet : (node : ℕ) (pages : List PageAt) (rest : List Turn) → IsTrue (give_nothing_up rest) → IsTrue (give_nothing_up (map (page_turn node 1) pages ++ rest))
pages_quiet node [] rest quiet = quiet
pages_quiet node (page ∷ pages) rest quiet = and_from _ _ refl (pages_quiet node pages rest quiet)

boots_quiet : (boots : List FirstBoot) → IsTrue (give_nothing_up (flat_map boot_turns boots))
boots_quiet [] = refl
boots_quiet (boot ∷ boots) =
    list_all-append (λ (t : Turn). is_none (given_in t)) (boot_turns boot) (flat_map boot_turns boots)
    ∙ and_from _ _ (pages_quiet boot.node boot.pages (AtNode boot.node (first_entry boot ∷ []) (last_entry boot) ∷ []) refl) (boots_quiet boots)

-- ---- their moments

-- no moment falls, from one on and up to another
abbrev Along : ℕ → List Turn → ℕ → Type 0
Along low [] high = low ≤ high
Along low (turn ∷ line) high = (low ≤ moment turn) × Along (moment turn) line high

lower : (least low : ℕ) (line : List Turn) (high : ℕ) → least ≤ low → Along low line high → Along least line high
lower least low [] high le up = omega arith
lower least low (turn ∷ line) high le (first, up) = (omega arith, up)

along_append : (low mid high : ℕ) (xs ys : List Turn) → Along low xs mid → Along mid ys high → Along low (xs ++ ys) high
along_append low mid high [] ys one other = lower low mid ys high one other
along_append low mid high (turn ∷ xs) ys (first, one) other = (first, along_append (moment turn) mid high xs ys one other)

ascends : (low high : ℕ) (line : List Turn) → Along low line high → IsTrue (moments_ascend line)
ascends low high [] up = refl
ascends low high (turn ∷ []) up = refl
ascends low high (turn ∷ next ∷ line) (first, (second, up)) = and_from _ _ (le-leb (moment turn) (moment next) second) (ascends (moment turn) high (next ∷ line) (second, up))

along_door : (by : By) (place : ℕ) (xs : List DoorEntry) → Along (place + place) (door_turns by place xs) (place + length xs + (place + length xs))
along_door by place [] = omega arith
along_door by place (entry ∷ xs) =
    by_line (same_line by entry.by)
    (let it : suc place + length xs + (suc place + length xs) ≡ place + suc (length xs) + (place + suc (length xs)) = omega arith in
    subst (λ (high : ℕ). Along (suc place + suc place) (door_turns by (suc place) xs) high) it (along_door by (suc place) xs))
  where
    by_line : (t : Bool) → Along (suc place + suc place) (door_turns by (suc place) xs) (place + suc (length xs) + (place + suc (length xs))) → Along (place + place) ((if t then AtDoor place entry.act ∷ [] else []) ++ door_turns by (suc place) xs) (place + suc (length xs) + (place + suc (length xs)))
    by_line true rest = (omega arith, lower (place + place + 1) (suc place + suc place) (door_turns by (suc place) xs) (place + suc (length xs) + (place + suc (length xs))) (omega arith) rest)
    by_line false rest = lower (place + place) (suc place + suc place) (door_turns by (suc place) xs) (place + suc (length xs) + (place + suc (length xs))) (omega arith) rest

along_pages : (node low place : ℕ) (pages : List PageAt) (last : Turn) → low ≤ place + place → IsTrue (are_placed place pages) → moment last ≡ place + length pages + (place + length pages) → Along low (map (page_turn node 1) pages ++ last ∷ []) (moment last)
along_pages node low place [] last le placed is = (omega arith, omega arith)
along_pages node low place (page ∷ pages) last le placed is =
    let parts = and_parts (eqb page.place place) (are_placed (suc place) pages) placed in
    let here = eqb-true page.place place parts.0 in
    (omega arith, along_pages node (page.place + page.place + 1) (suc place) pages last (omega arith) parts.1 (omega arith))

along_boot : (boot : FirstBoot) → StandsSo boot → Along (boot.front + boot.front) (boot_turns boot) (boot.front + length (boot_entries boot) + (boot.front + length (boot_entries boot)))
along_boot boot stands =
    let l = boot_length boot in
    let it : moment (AtNode boot.node (first_entry boot ∷ []) (last_entry boot)) ≡ boot.front + length (boot_entries boot) + (boot.front + length (boot_entries boot)) = omega arith in
    subst (λ (high : ℕ). Along (boot.front + boot.front) (boot_turns boot) high) it
    (omega arith, (omega arith, along_pages boot.node (boot.front + boot.front + 1) (suc boot.front) boot.pages (AtNode boot.node (first_entry boot ∷ []) (last_entry boot)) (omega arith) stands.placed (omega arith)))

along_boots : (place : ℕ) (boots : List FirstBoot) → FollowFrom place boots → Along (place + place) (flat_map boot_turns boots) (place + length (flat_map boot_entries boots) + (place + length (flat_map boot_entries boots)))
along_boots place [] follow = omega arith
along_boots place (boot ∷ boots) (begins, stands, follow) =
    let l = length-append (boot_entries boot) (flat_map boot_entries boots) in
    let it : place + length (boot_entries boot) + length (flat_map boot_entries boots) + (place + length (boot_entries boot) + length (flat_map boot_entries boots)) ≡ place + length (boot_entries boot ++ flat_map boot_entries boots) + (place + length (boot_entries boot ++ flat_map boot_entries boots)) = omega arith in
    subst (λ (high : ℕ). Along (place + place) (flat_map boot_turns (boot ∷ boots)) high) it
    (along_append (place + place) (place + length (boot_entries boot) + (place + length (boot_entries boot))) _ (boot_turns boot) (flat_map boot_turns boots)
    (subst (λ (p : ℕ). Along (p + p) (boot_turns boot) (p + length (boot_entries boot) + (p + length (boot_entries boot)))) begins (along_boot boot stands))
    (along_boots (place + length (boot_entries boot)) boots follow))

-- ---- all of them

-- an opening's turns are the list in which they were made
pub opening_turns : (capacity lines count : ℕ) (audited : List DoorEntry) (boots : List FirstBoot) → map (λ (boot : FirstBoot). boot.node) boots ≡ range_with_len 1 count → FollowFrom (length audited) boots
    → turns opening (record { door = audited ++ flat_map boot_entries boots; nodes = histories (map (node_behind capacity lines) boots); office = [] }) ≡ door_turns opening 0 audited ++ flat_map boot_turns boots
opening_turns capacity lines count audited boots numbers follow =
    in_order opening (audited ++ flat_map boot_entries boots) (histories (map (node_behind capacity lines) boots)) (door_turns opening 0 audited ++ flat_map boot_turns boots) at_door at_nodes up quiet
  where
    reach : 0 + length audited ≡ length audited
    reach = omega arith

    at_door : filter is_at_door (door_turns opening 0 audited ++ flat_map boot_turns boots) ≡ door_turns opening 0 (audited ++ flat_map boot_entries boots)
    at_door =
        filter-append is_at_door (door_turns opening 0 audited) (flat_map boot_turns boots)
        ∙ ap (λ (ts : List Turn). ts ++ filter is_at_door (flat_map boot_turns boots)) (doors_only opening 0 audited)
        ∙ ap (λ (ts : List Turn). door_turns opening 0 audited ++ ts) (boots_doors boots ∙ sym (append-nil (flat_map boot_door_turns boots)) ∙ sym (boots_turns_at_door (length audited) boots [] follow))
        ∙ ap (λ (es : List DoorEntry). door_turns opening 0 audited ++ door_turns opening (length audited) es) (append-nil (flat_map boot_entries boots))
        ∙ ap (λ (p : ℕ). door_turns opening 0 audited ++ door_turns opening p (flat_map boot_entries boots)) (sym reach)
        ∙ sym (door_append opening 0 audited (flat_map boot_entries boots))

    at_nodes : filter is_elsewhere (door_turns opening 0 audited ++ flat_map boot_turns boots) ≡ nodes_turns opening 1 (histories (map (node_behind capacity lines) boots))
    at_nodes =
        filter-append is_elsewhere (door_turns opening 0 audited) (flat_map boot_turns boots)
        ∙ ap (λ (ts : List Turn). ts ++ filter is_elsewhere (flat_map boot_turns boots)) (none_elsewhere opening 0 audited)
        ∙ boots_elsewhere capacity lines 1 count boots numbers

    up : IsTrue (moments_ascend (door_turns opening 0 audited ++ flat_map boot_turns boots))
    up =
        ascends (0 + 0) _ (door_turns opening 0 audited ++ flat_map boot_turns boots)
        (along_append (0 + 0) (length audited + length audited) _ (door_turns opening 0 audited) (flat_map boot_turns boots)
        (subst (λ (n : ℕ). Along (0 + 0) (door_turns opening 0 audited) (n + n)) reach (along_door opening 0 audited))
        (along_boots (length audited) boots follow))

    quiet : IsTrue (give_nothing_up (door_turns opening 0 audited ++ flat_map boot_turns boots))
    quiet = list_all-append (λ (t : Turn). is_none (given_in t)) (door_turns opening 0 audited) (flat_map boot_turns boots) ∙ and_from _ _ (doors_quiet opening 0 audited) (boots_quiet boots)

-- those of an opening at the door alone
pub refused_turns : (door : List DoorEntry) (nodes : List (List NodeEntry)) → nodes_turns opening 1 nodes ≡ [] → turns opening (record { door = door; nodes = nodes; office = [] }) ≡ door_turns opening 0 door
refused_turns door nodes none =
    in_order opening door nodes (door_turns opening 0 door) (doors_only opening 0 door) (none_elsewhere opening 0 door ∙ sym none) (ascends (0 + 0) _ (door_turns opening 0 door) (along_door opening 0 door)) (doors_quiet opening 0 door)
