-- The time of a commit that an attempt has fixed is in range.
use Rattle.std.proofs.Common.{◌≡◌, ℕ, List, [], sym, ap, subst, ◌∙◌}
use Rattle.std.specs.Prelude.{IsTrue, None, Some}
use Rattle.std.proofs.lemmas.Bool.{and_parts}
use Rattle.aft_records.specs.declared.stored.Commit.{Commit}
use Rattle.aft_records.specs.Limits.{is_time}
use Rattle.aft_model.specs.declared.caller.Attempt.{Attempt}
use Rattle.aft_model.specs.declared.node.NodeAct.{NodeAct}
use Rattle.aft_model.specs.declared.node.NodeAct.TheVariants.{Start}
use Rattle.aft_model.specs.declared.node.NodeEntry.{NodeEntry}
use Rattle.aft_model.specs.Attempts.{IsGone, IsLeaving, IsOpening, IsRunning, attempt_after, attempt_state, fixed_commit}
use Rattle.aft_model.specs.LegalNode.{LegalNode, may_serve}
use Rattle.aft_model.specs.NodeRules.{may_start}
use Rattle.aft_model.specs.NodeState.{Service, extended, node_state, part}
use Rattle.aft_model.proofs.Incarnations.{part-at}
use Rattle.aft_model.proofs.Pins.{attempt_state-snoc}
use Rattle.aft_model.proofs.Services.{serving}
use Rattle.law_attempts.proofs.Services.{kept_in}
use Rattle.law_attempts.proofs.States.{Doubts, Ends, Fixes, Goes, Leaves, Opens, Runs, Settles, Stays, Withdraws, goes}
use Rattle.law_accounts.proofs.StopsSeen.{there_serves}
use Rattle.law_driven_commits.proofs.Stays.{fixed_there}

-- what the attempts of a service have fixed is of a time in range
abbrev Timely : Service → Type 0
Timely s = (a : Attempt) (c : Commit) → fixed_commit (attempt_state a s.part) ≡ Some c → IsTrue (is_time c.id.time)

timely_at_first : (inc : ℕ) (booted : List Commit) → Timely (record { inc = inc; booted = booted; part = [] })
timely_at_first inc booted a c is = absurd (let no : None ≡ Some c = is in cc)

module _ (node capacity : ℕ) (s : Service) (entry : NodeEntry) (rule : IsTrue (may_serve node capacity entry.act entry.answer s)) (before : Timely s) where
  started : (a : Attempt) (now : ℕ) (c : Commit) → entry.act ≡ Start a now c → IsTrue (is_time c.id.time)
  started a now c is =
      let may = (and_parts (may_start s a now c) _ (subst (λ (x : NodeAct). IsTrue (may_serve node capacity x entry.answer s)) is rule)).0 in
      (and_parts _ (is_time c.id.time) may).1

  timely_extended : Timely (extended s entry)
  timely_extended a c fixed = cases (goes node capacity s a entry.act entry.answer rule) (ap fixed_commit (sym (attempt_state-snoc a s.part entry)) ∙ fixed)
    where
      cases : Goes a entry.act (attempt_state a s.part) (attempt_after a (attempt_state a s.part) entry.act) → fixed_commit (attempt_after a (attempt_state a s.part) entry.act) ≡ Some c → IsTrue (is_time c.id.time)
      cases (Stays is counts) now = before a c (ap fixed_commit (sym is) ∙ now)
      cases (Opens new is counts) now = absurd (let no : fixed_commit IsOpening ≡ Some c = ap fixed_commit (sym is) ∙ now in cc)
      cases (Runs was is counts) now = absurd (let no : fixed_commit IsRunning ≡ Some c = ap fixed_commit (sym is) ∙ now in cc)
      cases (Withdraws was is counts) now = absurd (let no : fixed_commit IsGone ≡ Some c = ap fixed_commit (sym is) ∙ now in cc)
      cases (Fixes time d by was is counts) now =
          let same : Some d ≡ Some c = ap fixed_commit (sym is) ∙ now in
          let one : d ≡ c = cc in
          subst (λ (x : Commit). IsTrue (is_time x.id.time)) one (started a time d by)
      cases (Settles d was is counts) now = before a c (ap fixed_commit was ∙ (ap fixed_commit (sym is) ∙ now))
      cases (Leaves by was is counts) now = absurd (let no : fixed_commit IsLeaving ≡ Some c = ap fixed_commit (sym is) ∙ now in cc)
      cases (Doubts d was is counts) now = before a c (ap fixed_commit was ∙ (ap fixed_commit (sym is) ∙ now))
      cases (Ends idle is counts) now = absurd (let no : fixed_commit IsGone ≡ Some c = ap fixed_commit (sym is) ∙ now in cc)

pub timely : (node capacity : ℕ) (h : List NodeEntry) → LegalNode node capacity h → (a : Attempt) (c : Commit) → fixed_commit (attempt_state a (part h)) ≡ Some c → IsTrue (is_time c.id.time)
timely node capacity h legal a c fixed =
    let at = serving a.inc (node_state h) (there_serves node capacity h a legal (fixed_there (attempt_state a (part h)) c fixed)) in
    kept_in node capacity Timely timely_at_first (timely_extended node capacity) h at.0 legal at.1 a c (subst (λ (p : List NodeEntry). fixed_commit (attempt_state a p) ≡ Some c) (part-at h at.0 at.1) fixed)
