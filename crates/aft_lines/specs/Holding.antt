-- Who holds the UUID of an attempt, and what stands open: what a run keeps at each of its moments.
use Rattle.std.specs.Prelude.{Bool, IsTrue, List, None, Option, Some, [], false, filter, if◌then◌else◌, map, nat_eq, not, suc, true, ℕ, ◌&&◌, ◌++◌, ◌||◌, ◌∷◌}
use Rattle.std.specs.Cmp.Lexicographic.{pointwise}
use Rattle.std.specs.List.{flat_map, list_all, list_any}
use Rattle.std.specs.Str.{bytes_eq}
use Rattle.aft_id.specs.declared.txn_id.TxnId.{TxnId}
use Rattle.aft_id.specs.TxnId.{same_id}
use Rattle.aft_model.specs.declared.caller.Attempt.{Attempt}
use Rattle.aft_model.specs.declared.caller.By.{By}
use Rattle.aft_model.specs.declared.door.DoorAct.{DoorAct}
use Rattle.aft_model.specs.declared.door.DoorEntry.{DoorEntry}
use Rattle.aft_model.specs.declared.node.NodeAct.{NodeAct}
use Rattle.aft_model.specs.declared.node.NodeEntry.{NodeEntry}
use Rattle.aft_model.specs.declared.trace.Trace.{Trace}
use Rattle.aft_model.specs.Attempts.{attempt_state, is_committing, is_in_doubt, is_leaving, is_read, is_running, owner, present, reads, same_attempt, uuid_of}
use Rattle.aft_model.specs.Claims.{claim_place, holds}
use Rattle.aft_model.specs.Course.{releases}
use Rattle.aft_model.specs.History.{each_after, each_prefix}
use Rattle.aft_model.specs.Membership.{Incarnation, incarnation, is_up, same_incarnation, the_office}
use Rattle.aft_model.specs.NodeSights.{own_entries}
use Rattle.aft_model.specs.NodeState.{part}
use Rattle.aft_model.specs.ScanRun.{same_line}
use Rattle.aft_lines.specs.Asked.{Asked, Ran}
use Rattle.aft_lines.specs.Headline.{seen_at}
use Rattle.aft_lines.specs.Lines.{lines}
use Rattle.aft_lines.specs.Progress.{AtDesk, InRound, Progress}
use Rattle.aft_lines.specs.RunsSoFar.{position_of}
use Rattle.aft_lines.specs.Views.{view_of}
use Rattle.aft_model.specs.declared.node.NodeAct.TheVariants as acts
use Rattle.aft_model.specs.declared.door.DoorAct.TheVariants as doors
use Rattle.aft_model.specs.declared.choice.Picked.TheVariants as picked

-- whether an attempt of a part still needs its claim: it runs or is in doubt, or it commits or leaves by a line that hasn't released it
abbrev pub is_released_by : Incarnation → List ℕ → List DoorEntry → Option By → Bool
is_released_by who uuid seen None = false
is_released_by who uuid seen (Some by) = list_any (λ entry. releases who uuid entry.act) (own_entries by seen)

abbrev pub needs_claim : Incarnation → List DoorEntry → List NodeEntry → Attempt → Bool
needs_claim who seen part a =
    is_running (attempt_state a part) || is_in_doubt (attempt_state a part)
    || (is_committing (attempt_state a part) || is_leaving (attempt_state a part)) && not (is_released_by who (uuid_of a part) seen (owner a part))

-- whether an attempt holds its UUID, if it needs it and its incarnation is up
abbrev pub is_held_for : Incarnation → List DoorEntry → List NodeEntry → Attempt → Bool
is_held_for who seen part a = not (needs_claim who seen part a && is_up who seen) || holds who (uuid_of a part) seen

-- whether after an entry of a node each attempt that needs its claim holds it
abbrev pub holds_after : ℕ → Trace → List NodeEntry → NodeEntry → Bool
holds_after node trace before entry =
    list_all (λ a. is_held_for (incarnation node a.inc) (seen_at trace entry) (part (before ++ entry ∷ [])) a) (present (part (before ++ entry ∷ [])))

-- the same of each node from a number on
abbrev pub all_hold : ℕ → Trace → List (List NodeEntry) → Bool
all_hold node trace [] = true
all_hold node trace (history ∷ histories) = each_after (holds_after node trace) [] history && all_hold (suc node) trace histories

-- whether at each moment each attempt that needs its claim holds it
abbrev pub claims_held : Trace → Bool
claims_held trace = all_hold 1 trace trace.nodes

abbrev pub ClaimsHeld : Trace → Type 0
ClaimsHeld trace = IsTrue (claims_held trace)

-- ---- open fetches

-- whether an act picks this version to fetch, for this attempt
abbrev pub picks_fetch : Attempt → List ℕ → TxnId → NodeAct → Bool
picks_fetch a key id (acts.Select b got (picked.Fetch at)) = same_attempt a b && bytes_eq key got && same_id id at
picks_fetch a key id act = false

-- whether behind a part an attempt runs and has read a version
abbrev pub has_it_open : Attempt → List ℕ → TxnId → List NodeEntry → Bool
has_it_open a key id part = is_running (attempt_state a part) && is_read (record { key = key; id = id }) (reads a part)

-- whether from a line's pick of a version on, its attempt runs and has read it, at each moment of a part, which begins behind another
abbrev pub is_open_since : By → Attempt → List ℕ → TxnId → List NodeEntry → List NodeEntry → Bool
is_open_since by a key id before [] = false
is_open_since by a key id before (entry ∷ entries) =
    same_line by entry.by && picks_fetch a key id entry.act && each_prefix (has_it_open a key id) (before ++ entry ∷ []) entries
    || is_open_since by a key id (before ++ entry ∷ []) entries

-- whether an act that ends a fetch ends one that its line began, and that stood open since
abbrev pub ends_open_fetch : List NodeEntry → By → NodeAct → Bool
ends_open_fetch part by (acts.Value a key id place kept) = is_open_since by a key id [] part
ends_open_fetch part by (acts.Lost a key id) = is_open_since by a key id [] part
ends_open_fetch part by act = true

-- whether each fetch that ended stood open since its line's pick
abbrev pub fetches_stay_open : Trace → Bool
fetches_stay_open trace = list_all (each_after (λ before entry. ends_open_fetch (part before) entry.by entry.act) []) trace.nodes

abbrev pub FetchesStayOpen : Trace → Type 0
FetchesStayOpen trace = IsTrue (fetches_stay_open trace)

-- ---- the desk of the office

-- what a line's position holds for the office
abbrev pub held_at : Progress → Option AtDesk
held_at (InRound desk standings) = desk
held_at position = None

abbrev pub held_at_position : Option Progress → Option AtDesk
held_at_position None = None
held_at_position (Some position) = held_at position

-- an element that may be there, as a list
abbrev pub option_list : {A : Type 0} → Option A → List A
option_list None = []
option_list (Some a) = a ∷ []

-- what the lines of a run so far hold for the office
abbrev pub held_by_lines : Asked → Ran → List AtDesk
held_by_lines asked ran = flat_map (λ line. option_list (held_at_position (position_of (view_of asked ran line)))) (lines asked)

-- the UUIDs that the office has claimed
abbrev pub claimed_for_office : DoorAct → List (List ℕ)
claimed_for_office (doors.Claim uuid node inc) = if same_incarnation the_office (incarnation node inc) then uuid ∷ [] else []
claimed_for_office act = []

-- the places by which lines hold a UUID for the office
abbrev pub places_of : List ℕ → List AtDesk → List ℕ
places_of uuid desk = map (λ held. held.place) (filter (λ held. bytes_eq uuid held.uuid) desk)

-- the places by which the office holds a UUID: one, or none
abbrev pub office_places : List ℕ → List DoorEntry → List ℕ
office_places uuid history = if holds the_office uuid history then option_list (claim_place uuid history) else []

-- whether the office holds each UUID that it has claimed by just the place of the one line that holds it
abbrev pub desk_held : Asked → Ran → Bool
desk_held asked ran =
    list_all (λ uuid. pointwise nat_eq (places_of uuid (held_by_lines asked ran)) (office_places uuid ran.trace.door)) (flat_map (λ entry. claimed_for_office entry.act) ran.trace.door)

abbrev pub DeskHeld : Asked → Ran → Type 0
DeskHeld asked ran = IsTrue (desk_held asked ran)
