-- Each entry of a service keeps what its attempts have read.
use Rattle.std.proofs.Common.{◌≡◌, ℕ, Bool, true, false, ◌&&◌, ◌||◌, not, List, [], ◌∷◌, ◌++◌, refl, sym, ap, subst, ◌∙◌, ◌⊎◌, inl, inr}
use Rattle.std.specs.Prelude.{IsTrue, Option, Some, None, if◌then◌else◌}
use Rattle.std.specs.List.{fold, list_all, list_any}
use Rattle.std.proofs.lemmas.Bool.{and_parts, cases_Bool, not-true, or_left, or_right, true≢false}
use Rattle.aft_id.specs.TxnId.{same_id, zero_id}
use Rattle.aft_id.specs.declared.txn_id.TxnId.{TxnId}
use Rattle.aft_records.specs.Commits.{is_listed}
use Rattle.aft_records.specs.Superseded.{wrote}
use Rattle.aft_records.specs.Kept.{Kept, kept_value}
use Rattle.aft_records.specs.declared.stored.Commit.{Commit}
use Rattle.aft_model.specs.declared.caller.Attempt.{Attempt}
use Rattle.aft_model.specs.declared.choice.Choice.{Choice}
use Rattle.aft_model.specs.declared.choice.Choice.TheVariants as choices
use Rattle.aft_model.specs.declared.node.NodeAct.{NodeAct}
use Rattle.aft_model.specs.declared.node.NodeAct.TheVariants.{Admit, Boot, Drop, Learn, Select, Stored}
use Rattle.aft_model.specs.declared.node.NodeEntry.{NodeEntry}
use Rattle.aft_model.specs.declared.read_set.ReadPair.{ReadPair}
use Rattle.aft_model.specs.declared.reply.Reply.{Reply}
use Rattle.aft_model.specs.Attempts.{admitted_by, attempt_state, attempts, buffer, buffered, is_gone, is_pinned, is_read, is_running, present, read_by, reads, reads_after, same_attempt, with_read}
use Rattle.aft_model.specs.AtomicReads.{Atomic, is_read_whole}
use Rattle.aft_model.specs.Cache.{cache}
use Rattle.aft_model.specs.Choice.{choice}
use Rattle.aft_model.specs.Known.{known_after, known_in}
use Rattle.aft_model.specs.LegalNode.{LegalNode, may_serve}
use Rattle.aft_model.specs.NodeRules.{kept_or_fetched, own_or, pick, picked_by, same_picked}
use Rattle.aft_model.specs.NodeState.{IsServing, Service, extended, node_state}
use Rattle.aft_model.specs.ReadSet.{HasEachKeyOnce}
use Rattle.aft_model.proofs.Choices.{whole_at}
use Rattle.aft_model.proofs.Histories.{In, all_at, any_found, any_from}
use Rattle.aft_model.proofs.Ids.{same_id-refl, same_ids}
use Rattle.aft_model.proofs.Knowledge.{OneEach, known_in-extended, one_each_in, pinned_after}
use Rattle.aft_model.proofs.Lists.{all_from, filter_in}
use Rattle.aft_model.proofs.Pins.{There, attempt_state-snoc, reads-snoc, running_there, same_attempts, same_read, there_before}
use Rattle.law_attempts.proofs.Lives.{Lives, lives_at_first, lives_extended}
use Rattle.law_attempts.proofs.Standing.{not_again}
use Rattle.law_reads.specs.Brings.{are_real, brings_real, is_real}
use Rattle.law_reads.proofs.Gets.{Adds, AreReal, One, Same, Written, atomic_more, filtered_real, first_real, learned_real, once_more, with_real, written_more}
use Rattle.law_reads.proofs.Services.{booted_as, kept_while}

-- what the attempts of a service have read
pub record Reading (node : ℕ) (s : Service) : Type 0 where
  pub lives : Lives node s
  pub real : AreReal (known_in s)
  pub once : (a : Attempt) → HasEachKeyOnce (reads a s.part)
  pub written : (a : Attempt) → There (attempt_state a s.part) → Written (reads a s.part) (known_in s)
  pub atomic : (a : Attempt) → There (attempt_state a s.part) → Atomic (reads a s.part) (known_in s)

-- what a get picks adds what the choice says
by_choice : (key : List ℕ) (own : Option (List ℕ)) (kept : List Kept) (ch : Choice) (before : List ReadPair) (known : List Commit) → ch ≡ choice key before known
    → Adds key before known (fold (λ (pairs : List ReadPair) (id : TxnId). with_read (record { key = key; id = id }) pairs) before (read_by (own_or own (picked_by key kept ch))))
by_choice key (Some value) kept ch before known is = Same refl
by_choice key None kept (choices.Version id) before known is = by_kept (kept_value key id kept)
  where
    new : (t : Bool) → is_read (record { key = key; id = id }) before ≡ t → Adds key before known (if t then before else before ++ record { key = key; id = id } ∷ [])
    new true read = Same refl
    new false unread = One id refl unread (inl (sym is))

    by_kept : (o : Option (List ℕ)) → Adds key before known (fold (λ (pairs : List ReadPair) (i : TxnId). with_read (record { key = key; id = i }) pairs) before (read_by (kept_or_fetched id o)))
    by_kept (Some value) = new (is_read (record { key = key; id = id }) before) refl
    by_kept None = new (is_read (record { key = key; id = id }) before) refl
by_choice key None kept choices.Absent before known is = new (is_read (record { key = key; id = zero_id }) before) refl
  where
    new : (t : Bool) → is_read (record { key = key; id = zero_id }) before ≡ t → Adds key before known (if t then before else before ++ record { key = key; id = zero_id } ∷ [])
    new true read = Same refl
    new false unread = One zero_id refl unread (inr (sym is, refl))
by_choice key None kept (choices.NoneFits blocked) before known is = Same refl

real_after : (known : List Commit) (act : NodeAct) → AreReal known → IsTrue (brings_real act) → AreReal (known_after known act)
real_after known (Learn commits) real new = learned_real known commits real new
real_after known (Stored a c) real new = with_real known c real (and_parts (is_real c) true new).0
real_after known (Drop ids) real new = filtered_real (λ c. not (is_listed c.id ids)) known real
real_after known act real new = real

-- an act leaves what is known, or what an attempt has read
one_stays : (a : Attempt) (known : List Commit) (act : NodeAct) → (known_after known act ≡ known) ⊎ ((before : List ReadPair) → reads_after a before act ≡ before)
one_stays a known (Select b key pick) = inl refl
one_stays a known act = inr (λ before. refl)

admitted_reads : (a : Attempt) (before : List ReadPair) (act : NodeAct) → In a (admitted_by act) → reads_after a before act ≡ before
admitted_reads a before (Admit b uuid) among = refl
admitted_reads a before act among = absurd among

module _ (node capacity : ℕ) (s : Service) (a : Attempt) where
  -- what an act adds to what an attempt has read
  adds : (act : NodeAct) (answer : Option Reply) → IsTrue (may_serve node capacity act answer s) → (key : List ℕ) × Adds key (reads a s.part) (known_in s) (reads_after a (reads a s.part) act)
  adds (Select b key p) answer rule = (key, cases (same_attempt a b) refl)
    where
      picks : IsTrue (same_picked (pick capacity s b key) p)
      picks = (and_parts (is_running (attempt_state b s.part)) (same_picked (pick capacity s b key) p) (and_parts (is_running (attempt_state b s.part) && same_picked (pick capacity s b key) p) _ rule).0).1

      cases : (t : Bool) → same_attempt a b ≡ t
          → Adds key (reads a s.part) (known_in s) (if t then fold (λ (pairs : List ReadPair) (id : TxnId). with_read (record { key = key; id = id }) pairs) (reads a s.part) (read_by p) else reads a s.part)
      cases true same =
          subst (λ (ids : List TxnId). Adds key (reads a s.part) (known_in s) (fold (λ (pairs : List ReadPair) (id : TxnId). with_read (record { key = key; id = id }) pairs) (reads a s.part) ids)) (same_read (pick capacity s b key) p picks)
          (subst (λ (x : Attempt). Adds key (reads a s.part) (known_in s) (fold (λ (pairs : List ReadPair) (id : TxnId). with_read (record { key = key; id = id }) pairs) (reads a s.part) (read_by (pick capacity s x key)))) (same_attempts a b same)
          (by_choice key (buffered key (buffer a s.part)) (cache capacity s.part) (choice key (reads a s.part) (known_in s)) (reads a s.part) (known_in s) refl))
      cases false other = Same refl
  adds act answer rule = ([], Same refl)

  -- an attempt that isn't there reads nothing
  idle_reads : (act : NodeAct) (answer : Option Reply) → IsTrue (may_serve node capacity act answer s) → IsTrue (is_gone (attempt_state a s.part)) → reads_after a (reads a s.part) act ≡ reads a s.part
  idle_reads (Select b key p) answer rule gone = cases (same_attempt a b) refl
    where
      runs : There (attempt_state b s.part)
      runs = running_there (attempt_state b s.part) (and_parts (is_running (attempt_state b s.part)) (same_picked (pick capacity s b key) p) (and_parts (is_running (attempt_state b s.part) && same_picked (pick capacity s b key) p) _ rule).0).0

      cases : (t : Bool) → same_attempt a b ≡ t → (if t then fold (λ (pairs : List ReadPair) (id : TxnId). with_read (record { key = key; id = id }) pairs) (reads a s.part) (read_by p) else reads a s.part) ≡ reads a s.part
      cases true same = absurd (true≢false (sym gone ∙ subst (λ (x : Attempt). There (attempt_state x s.part)) (sym (same_attempts a b same)) runs))
      cases false other = refl
  idle_reads act answer rule gone = refl

module _ (node capacity : ℕ) (s : Service) (entry : NodeEntry) (brought : IsTrue (brings_real entry.act)) (rule : IsTrue (may_serve node capacity entry.act entry.answer s)) (before : Reading node s) where
  abbrev after : List NodeEntry
  after = s.part ++ entry ∷ []

  abbrev knows : List Commit
  knows = known_after (known_in s) entry.act

  real_now : AreReal knows
  real_now = real_after (known_in s) entry.act before.real brought

  one_each : OneEach knows
  one_each = subst OneEach (known_in-extended s entry) (one_each_in (extended s entry))

  module _ (a : Attempt) (there : There (attempt_state a s.part)) where
    -- the commit of what it has read stays known
    stays : (pair : ReadPair) (c : Commit) → In pair (reads a s.part) → pair.id ≡ c.id → In c (known_in s) → In c knows
    stays pair c read is among =
        let present_there : In a (present s.part) = filter_in (λ (x : Attempt). not (is_gone (attempt_state x s.part))) a (attempts s.part) (before.lives.stands.listed a there) (ap not there) in
        let pinned : IsTrue (is_pinned c.id s.part) =
        any_from (λ (x : Attempt). list_any (λ (p : ReadPair). same_id c.id p.id) (reads x s.part)) a (present s.part) present_there
        (any_from (λ (p : ReadPair). same_id c.id p.id) pair (reads a s.part) read (subst (λ (i : TxnId). IsTrue (same_id c.id i)) (sym is) (same_id-refl c.id))) in
        pinned_after node capacity s entry.act entry.answer c rule pinned among

    written_kept : Written (reads a s.part) knows
    written_kept pair read =
        elim (before.written a there pair read) [
          | inl zero ↦ inl zero
          | inr wrote_it ↦ (let found = any_found (λ (c : Commit). same_id pair.id c.id && wrote pair.key c) (known_in s) wrote_it in
              let parts = and_parts (same_id pair.id found.0.id) (wrote pair.key found.0) found.2 in
              inr (any_from (λ (c : Commit). same_id pair.id c.id && wrote pair.key c) found.0 knows (stays pair found.0 read (same_ids pair.id found.0.id parts.0) found.1) found.2))
        ]

    atomic_kept : Atomic (reads a s.part) knows
    atomic_kept =
        all_from (λ (p : ReadPair). list_all (λ (c : Commit). not (same_id p.id c.id) || is_read_whole (reads a s.part) c) knows) (reads a s.part) (λ p read.
        all_from (λ (c : Commit). not (same_id p.id c.id) || is_read_whole (reads a s.part) c) knows (λ c known.
        elim (cases_Bool (same_id p.id c.id)) [
          | inl same ↦ or_right _ _ (whole p c read known (same_ids p.id c.id same))
          | inr differs ↦ or_left _ _ (ap not differs)
        ]))
      where
        whole : (p : ReadPair) (c : Commit) → In p (reads a s.part) → In c knows → p.id ≡ c.id → IsTrue (is_read_whole (reads a s.part) c)
        whole p c read known is =
            elim (before.written a there p read) [
              | inl zero ↦ absurd (true≢false (sym (subst (λ (i : TxnId). IsTrue (same_id zero_id i)) (sym zero ∙ is) (same_id-refl zero_id)) ∙ not-true (same_id zero_id c.id) (all_at is_real c knows known real_now)))
              | inr wrote_it ↦ (let found = any_found (λ (d : Commit). same_id p.id d.id && wrote p.key d) (known_in s) wrote_it in
                  let of : p.id ≡ found.0.id = same_ids p.id found.0.id (and_parts (same_id p.id found.0.id) (wrote p.key found.0) found.2).0 in
                  let one : c ≡ found.0 = one_each c found.0 known (stays p found.0 read of found.1) (sym is ∙ of) in
                  whole_at (reads a s.part) (known_in s) (before.atomic a there) p c read (subst (λ (d : Commit). In d (known_in s)) (sym one) found.1) is)
            ]

    abbrev now_read : List ReadPair
    now_read = reads_after a (reads a s.part) entry.act

    added : (key : List ℕ) × Adds key (reads a s.part) (known_in s) now_read
    added = adds node capacity s a entry.act entry.answer rule

    written_now : Written now_read knows
    written_now =
        elim (one_stays a (known_in s) entry.act) [
          | inl same ↦ subst (Written now_read) (sym same) (written_more added.0 (reads a s.part) (known_in s) (before.atomic a there) (before.written a there) (before.once a) before.real now_read added.1)
          | inr same ↦ subst (λ (r : List ReadPair). Written r knows) (sym (same (reads a s.part))) written_kept
        ]

    atomic_now : Atomic now_read knows
    atomic_now =
        elim (one_stays a (known_in s) entry.act) [
          | inl same ↦ subst (Atomic now_read) (sym same) (atomic_more added.0 (reads a s.part) (known_in s) (before.atomic a there) (before.written a there) (before.once a) before.real now_read added.1)
          | inr same ↦ subst (λ (r : List ReadPair). Atomic r knows) (sym (same (reads a s.part))) atomic_kept
        ]

    once_now : HasEachKeyOnce now_read
    once_now = once_more added.0 (reads a s.part) (known_in s) (before.atomic a there) (before.written a there) (before.once a) before.real now_read added.1

  once_after : (a : Attempt) → HasEachKeyOnce (reads a after)
  once_after a =
      subst HasEachKeyOnce (sym (reads-snoc a s.part entry)) (elim (cases_Bool (is_gone (attempt_state a s.part))) [
        | inl gone ↦ subst HasEachKeyOnce (sym (idle_reads node capacity s a entry.act entry.answer rule gone)) (before.once a)
        | inr there ↦ once_now a there
      ])

  -- an attempt that is admitted has read nothing
  none_read : (a : Attempt) → In a (admitted_by entry.act) → reads a after ≡ []
  none_read a new =
      reads-snoc a s.part entry ∙ (admitted_reads a (reads a s.part) entry.act new
      ∙ (before.lives.stands.fresh a (λ was. not_again node capacity s entry rule before.lives.stands a was new)).reads_none)

  written_after : (a : Attempt) → There (attempt_state a after) → Written (reads a after) (known_in (extended s entry))
  written_after a there =
      subst (Written (reads a after)) (sym (known_in-extended s entry)) (elim (there_before node capacity s entry.act entry.answer a rule (subst There (attempt_state-snoc a s.part entry) there)) [
        | inl was ↦ subst (λ (r : List ReadPair). Written r knows) (sym (reads-snoc a s.part entry)) (written_now a was)
        | inr new ↦ subst (λ (r : List ReadPair). Written r knows) (sym (none_read a new)) (λ pair among. absurd among)
      ])

  atomic_after : (a : Attempt) → There (attempt_state a after) → Atomic (reads a after) (known_in (extended s entry))
  atomic_after a there =
      subst (Atomic (reads a after)) (sym (known_in-extended s entry)) (elim (there_before node capacity s entry.act entry.answer a rule (subst There (attempt_state-snoc a s.part entry) there)) [
        | inl was ↦ subst (λ (r : List ReadPair). Atomic r knows) (sym (reads-snoc a s.part entry)) (atomic_now a was)
        | inr new ↦ subst (λ (r : List ReadPair). Atomic r knows) (sym (none_read a new)) refl
      ])

  reading_extended : Reading node (extended s entry)
  reading_extended = record {
    lives = lives_extended node capacity s entry rule before.lives;
    real = subst AreReal (sym (known_in-extended s entry)) real_now;
    once = once_after;
    written = written_after;
    atomic = atomic_after;
  }

reading_at_first : (node inc : ℕ) (commits : List Commit) (entry : NodeEntry) → entry.act ≡ Boot inc commits → IsTrue (brings_real entry.act) → Reading node (booted_as inc commits)
reading_at_first node inc commits entry is brought = record {
  lives = lives_at_first node inc commits;
  real = first_real commits (subst (λ (act : NodeAct). IsTrue (brings_real act)) is brought);
  once = λ a. tt;
  written = λ a there. absurd (true≢false there);
  atomic = λ a there. absurd (true≢false there);
}

pub reading : (node capacity : ℕ) (history : List NodeEntry) (s : Service) → LegalNode node capacity history → IsTrue (are_real history) → node_state history ≡ IsServing s → Reading node s
reading node capacity = kept_while node capacity (λ (entry : NodeEntry). brings_real entry.act) (Reading node) (reading_at_first node) (reading_extended node capacity)
