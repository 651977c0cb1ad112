-- The causes of what a collection answers: a verdict for each commit of its work list, by how the turns for it ended. A commit is held where its full marker was refused: then an incarnation had not given it up, and this is what may be said of that.
use Rattle.std.specs.Prelude.{Bool, List, None, Option, [], false, nat_lt, not, true, unwrap_or, ℕ, ◌&&◌, ◌∷◌}
use Rattle.std.specs.Cmp.Lexicographic.{pointwise}
use Rattle.std.specs.List.{flat_map, last_or, list_all}
use Rattle.aft_id.specs.declared.txn_id.TxnId.{TxnId}
use Rattle.aft_id.specs.TxnId.{same_id}
use Rattle.aft_records.specs.declared.stored.Commit.{Commit}
use Rattle.aft_model.specs.declared.door.DoorEntry.{DoorEntry}
use Rattle.aft_model.specs.declared.office.OfficeAct.{OfficeAct}
use Rattle.aft_model.specs.declared.reply.Judged.{Judged}
use Rattle.aft_model.specs.declared.reply.Reply.{Reply}
use Rattle.aft_model.specs.declared.reply.Verdict.{Verdict}
use Rattle.aft_model.specs.Claims.{has_kept}
use Rattle.aft_model.specs.History.{first_of}
use Rattle.aft_model.specs.Membership.{Incarnation, incarnation, is_up, ups}
use Rattle.aft_lines.specs.CausesRounds.{is_collect}
use Rattle.aft_lines.specs.CollectCourse.{Collection, Ended, IsFaulted, IsHeld, IsRetired, WorkEnd, collection, is_scanned_whole, was_cut}
use Rattle.aft_lines.specs.CourseWords.{ends_at_office}
use Rattle.aft_lines.specs.LineView.{LineView, ends_of, history_at, some_prefix}
use Rattle.aft_lines.specs.Lines.{node_numbers}
use Rattle.aft_lines.specs.Partings.{Span, at_some_time, need_not_give_up_as}
use Rattle.aft_lines.specs.Turns.{AtOffice, Turn}
use Rattle.aft_model.specs.declared.office.OfficeAct.TheVariants as office_acts
use Rattle.aft_model.specs.declared.reply.Verdict.TheVariants as verdicts

-- ---- who may hold a commit

-- how much of the door's history a line's turns at the office had seen
abbrev pub office_front_in : Turn → List ℕ
office_front_in (AtOffice before entry) = entry.front ∷ []
office_front_in turn = []

abbrev pub office_fronts : LineView → List ℕ
office_fronts view = flat_map office_front_in view.turns

-- how much of it had been seen where a collection began, and where it ended
abbrev pub front_begun : LineView → ℕ
front_begun view = unwrap_or (first_of (office_fronts view)) 0

abbrev pub front_ended : LineView → ℕ
front_ended view = unwrap_or (last_or None (office_fronts view)) 0

-- whether an incarnation is up and has not given an id up, and none of a lesser node is and hasn't
abbrev pub is_first_to_keep : Incarnation → TxnId → List DoorEntry → Bool
is_first_to_keep who id history =
    is_up who history && has_kept id history who && list_all (λ other. not (nat_lt other.node who.node && has_kept id history other)) (ups history)

-- the span of a collection, from its beginning to its end
abbrev pub collection_span : LineView → Span
collection_span view = record { by = view.by; before = view.before; from = front_begun view; till = front_ended view }

-- whether an incarnation may hold a commit in a collection: at some time within it, it was the first that was up and had not given the commit up, and at some time within it its node need not have
abbrev pub could_hold : Incarnation → Commit → LineView → Bool
could_hold who c view =
    some_prefix (is_first_to_keep who c.id) (front_begun view) (front_ended view) view.seen
    && list_all (at_some_time (collection_span view) (need_not_give_up_as who.inc c)) (history_at who.node view.nodes)

-- ---- verdicts

-- whether a verdict is of the end of a commit's turns: it is retired where its short marker was acknowledged, at fault where a call failed, and held where its full marker was refused
abbrev pub is_verdict_of : WorkEnd → Verdict → Commit → LineView → Bool
is_verdict_of IsRetired verdicts.Retired c view = true
is_verdict_of IsFaulted verdicts.Fault c view = true
is_verdict_of IsHeld (verdicts.Held node inc) c view = could_hold (incarnation node inc) c view
is_verdict_of end verdict c view = false

-- whether a commit was judged by the end of its turns
abbrev pub is_judged : LineView → Judged → Ended → Bool
is_judged view judged one = same_id judged.id one.commit.id && is_verdict_of one.end judged.verdict one.commit view

-- whether an act begins a collection, or ends one
abbrev pub begins_collection : OfficeAct → Bool
begins_collection office_acts.Collecting = true
begins_collection act = false

abbrev pub ends_collection : OfficeAct → Option Reply → Bool
ends_collection office_acts.Collected answer = true
ends_collection act answer = false

-- whether the work of a collection came to its end, with these verdicts, and the line's last turn ends it
abbrev pub is_worked_through : List Judged → LineView → Collection → Bool
is_worked_through judged view work = not (was_cut work.ended) && pointwise (is_judged view) judged work.ended && ends_at_office ends_collection work.behind

-- whether turns are those of a collection that began, was shown all records and all markers, and came to its end with these verdicts
abbrev pub is_collected_by : List Judged → LineView → List Turn → Bool
is_collected_by judged view (AtOffice before entry ∷ line) =
    begins_collection entry.act && is_scanned_whole line && is_worked_through judged view (collection (ends_of view) (node_numbers view.settings) line)
is_collected_by judged view line = false

-- collected: the line's scan runs were whole, and each commit of its work list has its verdict, in id order
abbrev pub is_collected_caused : List Judged → LineView → Bool
is_collected_caused judged view = is_collect view.command && is_collected_by judged view view.turns
