-- The life of each attempt of a service, and that each entry keeps it.
use Rattle.std.proofs.Common.{◌≡◌, ℕ, ◌≤◌, List, [], ◌∷◌, ◌++◌, length, refl, sym, ap, subst, ◌∙◌, arith}
use Rattle.std.specs.Prelude.{IsTrue, IsFalse, Some, None}
use Rattle.std.proofs.lemmas.Bool.{and_parts, false≢true}
use Rattle.aft_records.specs.declared.stored.Commit.{Commit}
use Rattle.aft_model.specs.declared.caller.Attempt.{Attempt}
use Rattle.aft_model.specs.declared.node.NodeAct.{NodeAct}
use Rattle.aft_model.specs.declared.node.NodeAct.TheVariants.{Start}
use Rattle.aft_model.specs.declared.node.NodeEntry.{NodeEntry}
use Rattle.aft_model.specs.Attempts.{AttemptState, IsGone, IsLeaving, IsOpening, IsRunning, attempt_after, attempt_state, buffer, buffer_after, fixed_commit, is_of, is_running, uuid_after, uuid_of, written_keys}
use Rattle.aft_model.specs.LegalNode.{LegalNode, may_serve}
use Rattle.aft_model.specs.NodeRules.{may_start}
use Rattle.aft_model.specs.NodeState.{IsServing, Service, extended, node_state}
use Rattle.aft_model.proofs.Pins.{There, attempt_state-snoc}
use Rattle.law_attempts.specs.Acts.{times_begun, times_started}
use Rattle.law_attempts.proofs.Acts.{buffer-snoc, uuid-snoc}
use Rattle.law_attempts.proofs.Buffers.{buffer_kept, few_extended}
use Rattle.law_attempts.proofs.Fetches.{Fetching, fetching_extended}
use Rattle.law_attempts.proofs.RowsFollow.{start_keys}
use Rattle.law_attempts.proofs.Services.{kept_in}
use Rattle.law_attempts.proofs.Standing.{Standing, not_again, standing_at_first, standing_extended, uuid_kept}
use Rattle.law_attempts.proofs.States.{Counted, Doubts, Ends, Fixes, Goes, Leaves, Opens, Runs, Settles, Stays, Withdraws, counts_extended, goes}

-- a commit is of an attempt: it has the keys of its buffer, and its UUID
pub record Fixed (c : Commit) (a : Attempt) (part : List NodeEntry) : Type 0 where
  pub keys : c.keys ≡ written_keys (buffer a part)
  pub uuid : c.id.uuid ≡ uuid_of a part

pub record Lives (node : ℕ) (s : Service) : Type 0 where
  pub stands : Standing node s
  pub counts : (a : Attempt) → Counted (attempt_state a s.part) (times_begun a s.part) (times_started a s.part)
  pub runs : (a : Attempt) → Fetching a s.part → attempt_state a s.part ≡ IsRunning
  pub few : (a : Attempt) → length (buffer a s.part) ≤ 32
  pub fixes : (a : Attempt) (c : Commit) → fixed_commit (attempt_state a s.part) ≡ Some c → Fixed c a s.part

module _ (node capacity : ℕ) (s : Service) (entry : NodeEntry) (rule : IsTrue (may_serve node capacity entry.act entry.answer s)) (before : Lives node s) where
  abbrev after : List NodeEntry
  after = s.part ++ entry ∷ []

  -- a fixed commit stays of its attempt, which doesn't run
  fixed_on : (a : Attempt) (c : Commit) → fixed_commit (attempt_state a s.part) ≡ Some c → There (attempt_state a s.part) → IsFalse (is_running (attempt_state a s.part)) → Fixed c a after
  fixed_on a c was there idle =
      let fixed = before.fixes a c was in record {
        keys = fixed.keys ∙ ap written_keys (sym (buffer-snoc a s.part entry ∙ buffer_kept node capacity s a entry.act entry.answer rule idle));
        uuid = fixed.uuid ∙ sym (uuid-snoc a s.part entry ∙ uuid_kept a (uuid_of a s.part) entry.act (not_again node capacity s entry rule before.stands a (before.stands.listed a there)));
      }

  fixed_there : (state : AttemptState) (c : Commit) → fixed_commit state ≡ Some c → There state
  fixed_there IsGone c is = absurd cc
  fixed_there state c is = refl

  fixed_idle : (state : AttemptState) (c : Commit) → fixed_commit state ≡ Some c → IsFalse (is_running state)
  fixed_idle IsRunning c is = absurd cc
  fixed_idle state c is = refl

  fixed_now : (a : Attempt) (now : ℕ) (c : Commit) → entry.act ≡ Start a now c → Fixed c a after
  fixed_now a now c is =
      let may = (and_parts (may_start s a now c) _ (subst (λ (x : NodeAct). IsTrue (may_serve node capacity x entry.answer s)) is rule)).0 in
      let of : IsTrue (is_of c.id.uuid s.part a) = (and_parts _ (is_of c.id.uuid s.part a) (and_parts _ _ (and_parts _ _ may).0).0).1 in record {
        keys = ap (λ (d : Commit). d.keys) (start_keys s a now c may) ∙ ap written_keys (sym (buffer-snoc a s.part entry ∙ ap (buffer_after a (buffer a s.part)) is));
        uuid = sym (uuid-snoc a s.part entry ∙ (ap (uuid_after a (uuid_of a s.part)) is ∙ before.stands.named a c.id.uuid of));
      }

  fixed_extended : (a : Attempt) (c : Commit) → fixed_commit (attempt_state a after) ≡ Some c → Fixed c a after
  fixed_extended a c fixed = cases (goes node capacity s a entry.act entry.answer rule) (ap fixed_commit (sym (attempt_state-snoc a s.part entry)) ∙ fixed)
    where
      kept : fixed_commit (attempt_state a s.part) ≡ Some c → Fixed c a after
      kept was = fixed_on a c was (fixed_there (attempt_state a s.part) c was) (fixed_idle (attempt_state a s.part) c was)

      cases : Goes a entry.act (attempt_state a s.part) (attempt_after a (attempt_state a s.part) entry.act) → fixed_commit (attempt_after a (attempt_state a s.part) entry.act) ≡ Some c → Fixed c a after
      cases (Stays is counts) now = kept (ap fixed_commit (sym is) ∙ now)
      cases (Opens new is counts) now = absurd (let no : fixed_commit IsOpening ≡ Some c = ap fixed_commit (sym is) ∙ now in cc)
      cases (Runs was is counts) now = absurd (let no : fixed_commit IsRunning ≡ Some c = ap fixed_commit (sym is) ∙ now in cc)
      cases (Withdraws was is counts) now = absurd (let no : fixed_commit IsGone ≡ Some c = ap fixed_commit (sym is) ∙ now in cc)
      cases (Fixes time d by was is counts) now =
          let same : Some d ≡ Some c = ap fixed_commit (sym is) ∙ now in
          let one : d ≡ c = cc in
          subst (λ (e : Commit). Fixed e a after) one (fixed_now a time d by)
      cases (Settles d was is counts) now = kept (ap fixed_commit was ∙ (ap fixed_commit (sym is) ∙ now))
      cases (Leaves by was is counts) now = absurd (let no : fixed_commit IsLeaving ≡ Some c = ap fixed_commit (sym is) ∙ now in cc)
      cases (Doubts d was is counts) now = kept (ap fixed_commit was ∙ (ap fixed_commit (sym is) ∙ now))
      cases (Ends idle is counts) now = absurd (let no : fixed_commit IsGone ≡ Some c = ap fixed_commit (sym is) ∙ now in cc)

  pub lives_extended : Lives node (extended s entry)
  lives_extended = record {
    stands = standing_extended node capacity s entry rule before.stands;
    counts = counts_extended node capacity s entry rule before.stands before.counts;
    runs = fetching_extended node capacity s entry rule before.stands before.runs;
    few = few_extended node capacity s entry rule before.few;
    fixes = fixed_extended;
  }

pub lives_at_first : (node inc : ℕ) (booted : List Commit) → Lives node (record { inc = inc; booted = booted; part = [] })
lives_at_first node inc booted = record {
  stands = standing_at_first node inc booted;
  counts = λ a. (omega arith, omega arith);
  runs = λ a some. absurd (false≢true some);
  few = λ a. omega arith;
  fixes = λ a c is. absurd (let no : None ≡ Some c = is in cc);
}

pub lives : (node capacity : ℕ) (history : List NodeEntry) (s : Service) → LegalNode node capacity history → node_state history ≡ IsServing s → Lives node s
lives node capacity = kept_in node capacity (Lives node) (lives_at_first node) (lives_extended node capacity)
