-- One entry more, at the door or at a node, keeps who owns the attempts that commit or leave, and which claims were let go.
use Rattle.std.proofs.Common.{◌≡◌, ℕ, List, [], ◌∷◌, ◌++◌, refl, sym, ap, subst, ◌∙◌, ◌⊎◌, inl, inr}
use Rattle.std.specs.Prelude.{IsTrue, IsFalse, Some}
use Rattle.std.specs.Str.{bytes_eq}
use Rattle.std.proofs.lemmas.Bool.{cases_Bool, false≢true, true≢false}
use Rattle.aft_records.specs.declared.stored.Commit.{Commit}
use Rattle.aft_model.specs.declared.caller.Attempt.{Attempt}
use Rattle.aft_model.specs.declared.caller.By.{By}
use Rattle.aft_model.specs.declared.door.DoorAct.{DoorAct}
use Rattle.aft_model.specs.declared.door.DoorEntry.{DoorEntry}
use Rattle.aft_model.specs.declared.node.NodeEntry.{NodeEntry}
use Rattle.aft_model.specs.Attempts.{AttemptState, IsCommitting, IsGone, IsLeaving, IsOpening, is_gone, is_leaving, is_opening}
use Rattle.aft_model.specs.Course.{releases}
use Rattle.aft_model.specs.LegalNode.{LegalNode}
use Rattle.aft_model.specs.Membership.{Incarnation}
use Rattle.aft_model.specs.NodeRules.{is_storing}
use Rattle.aft_model.specs.NodeSights.{is_fenced, own_entries}
use Rattle.aft_model.specs.NodeState.{node_state}
use Rattle.aft_model.specs.ScanRun.{same_line}
use Rattle.aft_model.specs.Stages.{Stage}
use Rattle.aft_model.proofs.Histories.{any_found, any_from, in_back, in_front}
use Rattle.aft_model.proofs.Lists.{filter_in, in_filter}
use Rattle.aft_model.proofs.Sights.{same_bytes}
use Rattle.aft_lines.specs.CourseWords.{caller_of}
use Rattle.aft_lines.specs.Holding.{is_released_by}
use Rattle.aft_lines.specs.Progress.{Admitted, EndsAborted, EndsCommitted, EndsLeft, FoundAborted, FoundNoRecord, FoundShort, FoundUnused, HasClaim, HasFailed, HasForgotten, HasReleased, IsNodeStored, IsRecorded, IsStoring, MustDoubt, MustEnd, MustLeave, MustRelease, Outcome, Progress, Settling}
use Rattle.law_holders.specs.Rows.{uuid_at}
use Rattle.law_claims.specs.Doing.{attempt_at, has_claim_at, is_doing, is_the, names_uuid, rests}
use Rattle.law_claims.specs.Scenes.{DoorStep, IsAtRest, IsMoved, IsShut, Keeps, NodeStep, Scene, Stands, doing, doing_in, named, named_in, puts_of, stage_of}
use Rattle.law_claims.proofs.Fenced.{fenced_more}
use Rattle.law_claims.proofs.Scenes.{by_itself, is_itself, moves_it, same_by, the_is}
use Rattle.law_held.specs.Owning.{Owns, has_let_go, is_finishing, owned, owner_in}
use Rattle.law_held.proofs.Owners.{Passes, passes}

-- ---- states

-- whoever commits or leaves doesn't rest
no_rest : (state : AttemptState) (stage : Stage) (puts : List Commit) → IsTrue (is_finishing state) → IsTrue (rests state stage puts) → ⊥
no_rest (IsCommitting c) stage puts is rest = false≢true rest
no_rest IsLeaving stage puts is rest = false≢true rest
no_rest state stage puts is rest = false≢true is

finishing_there : (state : AttemptState) → IsTrue (is_finishing state) → IsFalse (is_gone state)
finishing_there IsGone is = absurd (false≢true is)
finishing_there state is = refl

-- whoever is to be ended commits or leaves
ending : (a : Attempt) (outcome : Outcome) (state : AttemptState) → IsTrue (is_doing (MustEnd a outcome) state) → IsTrue (is_finishing state)
ending a EndsCommitted (IsCommitting c) does = refl
ending a EndsCommitted state does = absurd (false≢true does)
ending a EndsAborted (IsCommitting c) does = refl
ending a EndsAborted state does = absurd (false≢true does)
ending a (EndsLeft aborts) IsLeaving does = refl
ending a (EndsLeft aborts) state does = absurd (false≢true does)

-- what an attempt does while its line is at a position: it opens, or it commits or leaves
opening_not : (state : AttemptState) → IsTrue (is_opening state) → IsTrue (is_finishing state) → ⊥
opening_not IsOpening opens is = false≢true is
opening_not state opens is = false≢true opens

storing_finishes : (c : Commit) (state : AttemptState) → IsTrue (is_storing c state) → IsTrue (is_finishing state)
storing_finishes c (IsCommitting d) is = refl
storing_finishes c state is = absurd (false≢true is)

leaving_finishes : (state : AttemptState) → IsTrue (is_leaving state) → IsTrue (is_finishing state)
leaving_finishes IsLeaving is = refl
leaving_finishes state is = absurd (false≢true is)

position_fixes : (position : Progress) (state other : AttemptState) → IsTrue (is_doing position state) → IsTrue (is_doing position other) → IsTrue (is_finishing other) → IsTrue (is_finishing state)
position_fixes (Admitted begun) state other does also is = absurd (opening_not other also is)
position_fixes (HasClaim begun) state other does also is = absurd (opening_not other also is)
position_fixes (FoundNoRecord begun) state other does also is = absurd (opening_not other also is)
position_fixes (FoundUnused begun) state other does also is = absurd (opening_not other also is)
position_fixes (FoundShort begun) state other does also is = absurd (opening_not other also is)
position_fixes (HasForgotten begun) state other does also is = absurd (opening_not other also is)
position_fixes (MustRelease begun) state other does also is = absurd (opening_not other also is)
position_fixes (HasReleased begun reason) state other does also is = absurd (opening_not other also is)
position_fixes (Settling aborts storing) state other does also is = storing_finishes storing.written.commit state does
position_fixes (IsStoring storing left) state other does also is = storing_finishes storing.written.commit state does
position_fixes (HasFailed storing) state other does also is = storing_finishes storing.written.commit state does
position_fixes (IsRecorded storing) state other does also is = storing_finishes storing.written.commit state does
position_fixes (IsNodeStored storing) state other does also is = storing_finishes storing.written.commit state does
position_fixes (FoundAborted storing) state other does also is = storing_finishes storing.written.commit state does
position_fixes (MustDoubt storing) state other does also is = storing_finishes storing.written.commit state does
position_fixes (MustLeave aborts a uuid) state other does also is = leaving_finishes state does
position_fixes (MustEnd a outcome) state other does also is = ending a outcome state does
position_fixes position state other does also is = absurd (false≢true does)

-- one that has no claim left has only to end its attempt
pub unclaimed_ends : (position : Progress) (state : AttemptState) (a : Attempt) → attempt_at position ≡ Some a → IsTrue (is_doing position state) → IsTrue (is_finishing state) → IsFalse (has_claim_at position) → (outcome : Outcome) × (position ≡ MustEnd a outcome)
unclaimed_ends (Admitted begun) state a at does is free = absurd (opening_not state does is)
unclaimed_ends (HasReleased begun reason) state a at does is free = absurd (opening_not state does is)
unclaimed_ends (MustEnd b outcome) state a at does is free = (outcome, ap (λ (x : Attempt). MustEnd x outcome) (let e : Some b ≡ Some a = at in cc))
unclaimed_ends (HasClaim begun) state a at does is free = absurd (true≢false free)
unclaimed_ends (FoundNoRecord begun) state a at does is free = absurd (true≢false free)
unclaimed_ends (FoundUnused begun) state a at does is free = absurd (true≢false free)
unclaimed_ends (FoundShort begun) state a at does is free = absurd (true≢false free)
unclaimed_ends (HasForgotten begun) state a at does is free = absurd (true≢false free)
unclaimed_ends (MustRelease begun) state a at does is free = absurd (true≢false free)
unclaimed_ends (Settling aborts storing) state a at does is free = absurd (true≢false free)
unclaimed_ends (IsStoring storing left) state a at does is free = absurd (true≢false free)
unclaimed_ends (HasFailed storing) state a at does is free = absurd (true≢false free)
unclaimed_ends (IsRecorded storing) state a at does is free = absurd (true≢false free)
unclaimed_ends (IsNodeStored storing) state a at does is free = absurd (true≢false free)
unclaimed_ends (FoundAborted storing) state a at does is free = absurd (true≢false free)
unclaimed_ends (MustDoubt storing) state a at does is free = absurd (true≢false free)
unclaimed_ends (MustLeave aborts b uuid) state a at does is free = absurd (true≢false free)
unclaimed_ends position state a at does is free = absurd (false≢true does)

-- ---- who moves an attempt

-- an attempt that commits or leaves, and isn't shut out, is moved by just one line
abbrev pub MovedBy : Scene → Attempt → By → Type 0
MovedBy scene a by =
    IsTrue (is_the a (attempt_at (scene.at by))) × IsTrue (is_doing (scene.at by) (doing scene a)) × IsTrue (names_uuid (scene.at by) (named scene a)) × ((other : By) → IsFalse (same_line by other) → IsFalse (is_the a (attempt_at (scene.at other))))

pub finishing_moved : (scene : Scene) (a : Attempt) → IsTrue (is_finishing (doing scene a)) → Stands scene a → IsTrue (is_fenced (caller_of a) scene.door) ⊎ ((by : By) × MovedBy scene a by)
finishing_moved scene a is (IsShut gone) = inl gone
finishing_moved scene a is (IsAtRest none rest) = absurd (no_rest (doing scene a) (stage_of scene a) (puts_of scene a) is (rest (finishing_there (doing scene a) is)))
finishing_moved scene a is (IsMoved by moved row only) = (let its = moves_it (scene.at by) a (doing scene a) (named scene a) moved in inr (by, (its.0, its.1, its.2, only)))

-- and whoever moves an attempt is that line
pub moved_by : (scene : Scene) (a : Attempt) (by : By) → attempt_at (scene.at by) ≡ Some a → Stands scene a → IsTrue (is_fenced (caller_of a) scene.door) ⊎ MovedBy scene a by
moved_by scene a by is (IsShut gone) = inl gone
moved_by scene a by is (IsAtRest none rest) = absurd (true≢false (sym (is_itself a (attempt_at (scene.at by)) is) ∙ none by))
moved_by scene a by is (IsMoved its moved row only) = elim (cases_Bool (same_line its by)) [
  | inl same ↦ (let parts = moves_it (scene.at its) a (doing scene a) (named scene a) moved in inr (subst (MovedBy scene a) (same_by its by same) (parts.0, parts.1, parts.2, only)))
  | inr differs ↦ absurd (true≢false (sym (is_itself a (attempt_at (scene.at by)) is) ∙ only by differs))
]

-- two lines that move an attempt are one
one_mover : (scene : Scene) (a : Attempt) (by other : By) → ((x : By) → IsFalse (same_line by x) → IsFalse (is_the a (attempt_at (scene.at x)))) → attempt_at (scene.at other) ≡ Some a → by ≡ other
one_mover scene a by other only is = elim (cases_Bool (same_line by other)) [
  | inl same ↦ same_by by other same
  | inr differs ↦ absurd (true≢false (sym (is_itself a (attempt_at (scene.at other)) is) ∙ only other differs))
]

-- ---- releases

-- a release that a line made stays among its entries
released_more : (who : Incarnation) (uuid : List ℕ) (by : By) (door more : List DoorEntry) → IsTrue (is_released_by who uuid door (Some by)) → IsTrue (is_released_by who uuid (door ++ more) (Some by))
released_more who uuid by door more is =
    let found = any_found (λ (e : DoorEntry). releases who uuid e.act) (own_entries by door) is in
    let its = in_filter (λ (e : DoorEntry). same_line by e.by) found.0 door found.1 in
    any_from (λ (e : DoorEntry). releases who uuid e.act) found.0 (own_entries by (door ++ more)) (filter_in (λ (e : DoorEntry). same_line by e.by) found.0 (door ++ more) (in_front found.0 door more its.0) its.1) found.2

released_now : (who : Incarnation) (uuid : List ℕ) (door : List DoorEntry) (entry : DoorEntry) → IsTrue (releases who uuid entry.act) → IsTrue (is_released_by who uuid (door ++ entry ∷ []) (Some entry.by))
released_now who uuid door entry is =
    any_from (λ (e : DoorEntry). releases who uuid e.act) entry (own_entries entry.by (door ++ entry ∷ []))
    (filter_in (λ (e : DoorEntry). same_line entry.by e.by) entry (door ++ entry ∷ []) (in_back entry door (entry ∷ []) (inl refl)) (by_itself entry.by)) is

release_of : (who : Incarnation) (uuid other : List ℕ) (act : DoorAct) → IsTrue (bytes_eq uuid other) → IsTrue (releases who uuid act) → IsTrue (releases who other act)
release_of who uuid other act same is = subst (λ (u : List ℕ). IsTrue (releases who u act)) (same_bytes uuid other same) is

-- ---- at the door

module _ (entry : DoorEntry) (before after : Scene) (step : DoorStep entry before after) (keeps : Keeps before) (owns : Owns before)
    (mine : (a : Attempt) → attempt_at (after.at entry.by) ≡ Some a → attempt_at (before.at entry.by) ≡ Some a)
    (lets : (a : Attempt) (outcome : Outcome) → after.at entry.by ≡ MustEnd a outcome → IsTrue (releases (caller_of a) (uuid_at (before.at entry.by)) entry.act) × ((uuid : List ℕ) → IsTrue (names_uuid (before.at entry.by) uuid) → IsTrue (bytes_eq (uuid_at (before.at entry.by)) uuid))) where
  fenced_still : (who : Incarnation) → IsTrue (is_fenced who before.door) → IsTrue (is_fenced who after.door)
  fenced_still who is = subst (λ (h : List DoorEntry). IsTrue (is_fenced who h)) (sym step.door) (fenced_more who before.door (entry ∷ []) is)

  doing_same : (a : Attempt) → doing after a ≡ doing before a
  doing_same a = ap (λ (h : List NodeEntry). doing_in a (node_state h)) (step.node a.node)

  named_still : (a : Attempt) → named after a ≡ named before a
  named_still a = ap (λ (h : List NodeEntry). named_in a (node_state h)) (step.node a.node)

  owned_same : (a : Attempt) → owned after a ≡ owned before a
  owned_same a = ap (λ (h : List NodeEntry). owner_in a (node_state h)) (step.node a.node)

  attempt_was : (by : By) (a : Attempt) → attempt_at (after.at by) ≡ Some a → attempt_at (before.at by) ≡ Some a
  attempt_was by a is = elim (cases_Bool (same_line entry.by by)) [
    | inl its ↦ (let e = same_by entry.by by its in subst (λ (x : By). attempt_at (before.at x) ≡ Some a) e (mine a (subst (λ (x : By). attempt_at (after.at x) ≡ Some a) (sym e) is)))
    | inr differs ↦ sym (ap attempt_at (step.others by differs)) ∙ is
  ]

  owner_kept : (by : By) (a : Attempt) → attempt_at (after.at by) ≡ Some a → IsTrue (is_finishing (doing after a)) → IsTrue (is_fenced (caller_of a) after.door) ⊎ (owned after a ≡ Some by)
  owner_kept by a is does = elim (owns.owners by a (attempt_was by a is) (subst (λ (t : AttemptState). IsTrue (is_finishing t)) (doing_same a) does)) [
    | inl gone ↦ inl (fenced_still (caller_of a) gone)
    | inr owner ↦ inr (owned_same a ∙ owner)
  ]

  abbrev LetGo : By → Attempt → Type 0
  LetGo by a = IsTrue (is_fenced (caller_of a) after.door) ⊎ IsTrue (has_let_go after by a)

  -- in what stands behind the entry
  behind : (by : By) (a : Attempt) (door : List DoorEntry) → after.door ≡ door → IsTrue (is_released_by (caller_of a) (named before a) door (Some by)) → IsTrue (has_let_go after by a)
  behind by a door is released =
      subst (λ (d : List DoorEntry). IsTrue (is_released_by (caller_of a) (named after a) d (Some by))) (sym is)
      (subst (λ (u : List ℕ). IsTrue (is_released_by (caller_of a) u door (Some by))) (sym (named_still a)) released)

  its_release : (a : Attempt) (outcome : Outcome) → after.at entry.by ≡ MustEnd a outcome → LetGo entry.by a
  its_release a outcome is =
      let at : attempt_at (before.at entry.by) ≡ Some a = mine a (ap attempt_at is) in
      let its = lets a outcome is in
      elim (moved_by before a entry.by at (keeps.attempts a (keeps.movers entry.by a at))) [
        | inl gone ↦ inl (fenced_still (caller_of a) gone)
        | inr moved ↦ inr (behind entry.by a (before.door ++ entry ∷ []) step.door (released_now (caller_of a) (named before a) before.door entry (release_of (caller_of a) (uuid_at (before.at entry.by)) (named before a) entry.act (its.1 (named before a) moved.2) its.0)))
      ]

  other_release : (by : By) (a : Attempt) (outcome : Outcome) → before.at by ≡ MustEnd a outcome → LetGo by a
  other_release by a outcome is = elim (owns.releases by a outcome is) [
    | inl gone ↦ inl (fenced_still (caller_of a) gone)
    | inr released ↦ inr (behind by a (before.door ++ entry ∷ []) step.door (released_more (caller_of a) (named before a) by before.door (entry ∷ []) released))
  ]

  release_kept : (by : By) (a : Attempt) (outcome : Outcome) → after.at by ≡ MustEnd a outcome → LetGo by a
  release_kept by a outcome is = elim (cases_Bool (same_line entry.by by)) [
    | inl its ↦ (let e = same_by entry.by by its in subst (λ (x : By). LetGo x a) e (its_release a outcome (subst (λ (x : By). after.at x ≡ MustEnd a outcome) (sym e) is)))
    | inr differs ↦ other_release by a outcome (sym (step.others by differs) ∙ is)
  ]

  pub door_owns : Owns after
  door_owns = record { owners = owner_kept; releases = release_kept }

-- ---- at a node

module _ (node capacity : ℕ) (entry : NodeEntry) (before after : Scene) (step : NodeStep node entry before after) (legal : LegalNode node capacity (before.node node ++ entry ∷ [])) (keeps : Keeps before) (kept : Keeps after) (owns : Owns before)
    (never : (a : Attempt) (outcome : Outcome) → after.at entry.by ≡ MustEnd a outcome → ⊥) where
  fenced_there : (who : Incarnation) → IsTrue (is_fenced who before.door) → IsTrue (is_fenced who after.door)
  fenced_there who is = subst (λ (h : List DoorEntry). IsTrue (is_fenced who h)) (sym step.door) is

  -- whoever moves an attempt behind the entry, and isn't its line, did so before
  moved_before : (by : By) (a : Attempt) → IsFalse (same_line entry.by by) → attempt_at (after.at by) ≡ Some a → attempt_at (before.at by) ≡ Some a
  moved_before by a differs is = sym (ap attempt_at (step.others by differs)) ∙ is

  module _ (by : By) (a : Attempt) (is : attempt_at (after.at by) ≡ Some a) (does : IsTrue (is_finishing (doing after a)))
      (its_doing : IsTrue (is_doing (after.at by) (doing after a))) (only : (other : By) → IsFalse (same_line by other) → IsFalse (is_the a (attempt_at (after.at other)))) where
    abbrev Owned : Type 0
    Owned = IsTrue (is_fenced (caller_of a) after.door) ⊎ (owned after a ≡ Some by)

    passed : Passes entry before after a
    passed = passes node capacity entry before after step legal a does

    -- the line that moved it before moves it still
    same_mover : (first : By) → attempt_at (before.at first) ≡ Some a → ((other : By) → IsFalse (same_line first other) → IsFalse (is_the a (attempt_at (before.at other)))) → first ≡ by
    same_mover first at alone = elim (cases_Bool (same_line entry.by by)) [
      | inr other ↦ one_mover before a first by alone (moved_before by a other is)
      | inl its ↦ elim (cases_Bool (same_line entry.by first)) [
        | inl also ↦ sym (same_by entry.by first also) ∙ same_by entry.by by its
        | inr apart ↦ sym (one_mover after a by first only (ap attempt_at (step.others first apart) ∙ at))
      ]
    ]

    -- one that did so before
    goes_on : IsTrue (is_finishing (doing before a)) → Owned
    goes_on did = elim (finishing_moved before a did (keeps.attempts a (kept.movers by a is))) [
      | inl gone ↦ inl (fenced_there (caller_of a) gone)
      | inr moved ↦
          let at : attempt_at (before.at moved.0) ≡ Some a = the_is a (attempt_at (before.at moved.0)) moved.1.0 in
          elim (owns.owners moved.0 a at did) [
            | inl gone ↦ inl (fenced_there (caller_of a) gone)
            | inr owner ↦ inr (passed.kept did ∙ (owner ∙ ap (λ (x : By). Some x) (same_mover moved.0 at moved.1.3)))
          ]
    ]

    -- one that the entry's line takes
    begins : IsFalse (is_finishing (doing before a)) → Owned
    begins rested = elim (cases_Bool (same_line entry.by by)) [
      | inl its ↦ inr (passed.taken rested ∙ ap (λ (x : By). Some x) (same_by entry.by by its))
      | inr differs ↦ by_mover differs
    ]
      where
        -- another line moved it before, and so it did what it does now
        by_mover : IsFalse (same_line entry.by by) → Owned
        by_mover differs = elim (moved_by before a by (moved_before by a differs is) (keeps.attempts a (kept.movers by a is))) [
          | inl gone ↦ inl (fenced_there (caller_of a) gone)
          | inr moved ↦ absurd (true≢false (sym (position_fixes (before.at by) (doing before a) (doing after a) moved.1 does_there does) ∙ rested))
        ]
          where
            does_there : IsTrue (is_doing (before.at by) (doing after a))
            does_there = subst (λ (p : Progress). IsTrue (is_doing p (doing after a))) (step.others by differs) its_doing

    owner_kept_there : Owned
    owner_kept_there = elim (cases_Bool (is_finishing (doing before a))) [ inl did ↦ goes_on did | inr rested ↦ begins rested ]

  owners_there : (by : By) (a : Attempt) → attempt_at (after.at by) ≡ Some a → IsTrue (is_finishing (doing after a)) → IsTrue (is_fenced (caller_of a) after.door) ⊎ (owned after a ≡ Some by)
  owners_there by a is does = elim (moved_by after a by is (kept.attempts a (kept.movers by a is))) [
    | inl gone ↦ inl gone
    | inr moved ↦ owner_kept_there by a is does moved.1 moved.3
  ]

  release_there : (by : By) (a : Attempt) (outcome : Outcome) → before.at by ≡ MustEnd a outcome → named after a ≡ named before a → IsTrue (is_fenced (caller_of a) after.door) ⊎ IsTrue (has_let_go after by a)
  release_there by a outcome is name = elim (owns.releases by a outcome is) [
    | inl gone ↦ inl (fenced_there (caller_of a) gone)
    | inr released ↦
        inr (subst (λ (d : List DoorEntry). IsTrue (is_released_by (caller_of a) (named after a) d (Some by))) (sym step.door)
        (subst (λ (u : List ℕ). IsTrue (is_released_by (caller_of a) u before.door (Some by))) (sym name) released))
  ]

  releases_there : (by : By) (a : Attempt) (outcome : Outcome) → after.at by ≡ MustEnd a outcome → IsTrue (is_fenced (caller_of a) after.door) ⊎ IsTrue (has_let_go after by a)
  releases_there by a outcome is = elim (moved_by after a by (ap attempt_at is) (kept.attempts a (kept.movers by a (ap attempt_at is)))) [
    | inl gone ↦ inl gone
    | inr moved ↦ elim (cases_Bool (same_line entry.by by)) [
      | inl its ↦ absurd (never a outcome (ap after.at (same_by entry.by by its) ∙ is))
      | inr differs ↦ release_there by a outcome (sym (step.others by differs) ∙ is) (passes node capacity entry before after step legal a (ending a outcome (doing after a) (subst (λ (p : Progress). IsTrue (is_doing p (doing after a))) is moved.1))).name
    ]
  ]

  pub node_owns : Owns after
  node_owns = record { owners = owners_there; releases = releases_there }
