-- What a service tells an attempt of a key is at the id at which the attempt reads it.
use Rattle.std.proofs.Common.{◌≡◌, ℕ, Bool, true, false, ◌&&◌, List, [], ◌∷◌, ◌++◌, refl, sym, ap, subst, ◌∙◌, inl, inr}
use Rattle.std.specs.Prelude.{IsTrue, IsFalse, Option, Some, None, if◌then◌else◌}
use Rattle.std.specs.List.{fold}
use Rattle.std.specs.Str.{bytes_eq}
use Rattle.std.proofs.lemmas.Bool.{and_parts, false≢true, not-true, or_cases, true≢false}
use Rattle.std.proofs.lemmas.List.Sums.{fold-append}
use Rattle.aft_id.specs.TxnId.{same_id, zero_id}
use Rattle.aft_id.specs.declared.txn_id.TxnId.{TxnId}
use Rattle.aft_records.specs.Kept.{Kept, kept_value}
use Rattle.aft_records.specs.Superseded.{wrote}
use Rattle.aft_records.specs.declared.stored.Commit.{Commit}
use Rattle.aft_model.specs.declared.caller.Attempt.{Attempt}
use Rattle.aft_model.specs.declared.caller.By.{By}
use Rattle.aft_model.specs.declared.choice.Choice.{Choice}
use Rattle.aft_model.specs.declared.choice.Choice.TheVariants as choices
use Rattle.aft_model.specs.declared.choice.Picked.{Picked}
use Rattle.aft_model.specs.declared.choice.Picked.TheVariants as picked
use Rattle.aft_model.specs.declared.node.NodeAct.{NodeAct}
use Rattle.aft_model.specs.declared.node.NodeAct.TheVariants.{Select, Value}
use Rattle.aft_model.specs.declared.node.NodeEntry.{NodeEntry}
use Rattle.aft_model.specs.declared.read_set.ReadPair.{ReadPair}
use Rattle.aft_model.specs.declared.reply.Reply.{Reply}
use Rattle.aft_model.specs.declared.reply.Reply.TheVariants as replies
use Rattle.aft_model.specs.Attempts.{attempt_state, buffer, buffered, is_read, is_running, read_by, reads, reads_after, same_attempt, with_read}
use Rattle.aft_model.specs.Cache.{cache}
use Rattle.aft_model.specs.Choice.{choice}
use Rattle.aft_model.specs.Known.{known_in}
use Rattle.aft_model.specs.LegalNode.{may_serve}
use Rattle.aft_model.specs.NodeRules.{answers_pick, is_value_of, kept_or_fetched, own_or, pick, picked_by, same_picked}
use Rattle.aft_model.specs.NodeState.{Service, extended}
use Rattle.aft_model.specs.ReadSet.{HasEachKeyOnce}
use Rattle.aft_model.specs.ScanRun.{same_line}
use Rattle.aft_model.proofs.Histories.{In, all_at, any_found, in_append, in_back, in_front}
use Rattle.aft_model.proofs.Ids.{same_id-refl, same_ids}
use Rattle.aft_model.proofs.Lists.{in_snoc}
use Rattle.aft_model.proofs.Pins.{reads-snoc, same_attempts, same_read}
use Rattle.aft_model.proofs.Sights.{same_bytes}
use Rattle.aft_lines.specs.Headline.{got_in, put_by, told, told_after, told_by, told_since}
use Rattle.aft_lines.specs.Holding.{ends_open_fetch, has_it_open, is_open_since, picks_fetch}
use Rattle.aft_model.specs.History.{each_prefix}
use Rattle.law_reads.specs.Brings.{is_real}
use Rattle.law_reads.proofs.Gets.{AreReal, chosen_written}
use Rattle.law_reads.proofs.Repeats.{pair_read, read_at_in}
use Rattle.law_boots.specs.Gets.{same_version}

-- ---- reads with more

with_read_has : (p : ReadPair) (before : List ReadPair) → In p (with_read p before)
with_read_has p before = cases (is_read p before) refl
  where
    cases : (t : Bool) → is_read p before ≡ t → In p (if t then before else before ++ p ∷ [])
    cases true read = pair_read p.key p.id before read
    cases false new = in_back p before (p ∷ []) (inl refl)

with_read_keeps : (q p : ReadPair) (before : List ReadPair) → In q before → In q (with_read p before)
with_read_keeps q p before among = cases (is_read p before)
  where
    cases : (t : Bool) → In q (if t then before else before ++ p ∷ [])
    cases true = among
    cases false = in_front q before (p ∷ []) among

all_keep : (q : ReadPair) (key : List ℕ) (ids : List TxnId) (before : List ReadPair) → In q before → In q (fold (λ (pairs : List ReadPair) (id : TxnId). with_read (record { key = key; id = id }) pairs) before ids)
all_keep q key [] before among = among
all_keep q key (id ∷ ids) before among = all_keep q key ids (with_read (record { key = key; id = id }) before) (with_read_keeps q (record { key = key; id = id }) before among)

reads_keep : (q : ReadPair) (a : Attempt) (before : List ReadPair) (act : NodeAct) → In q before → In q (reads_after a before act)
reads_keep q a before (Select b key p) among = cases (same_attempt a b)
  where
    cases : (t : Bool) → In q (if t then fold (λ (pairs : List ReadPair) (id : TxnId). with_read (record { key = key; id = id }) pairs) before (read_by p) else before)
    cases true = all_keep q key (read_by p) before among
    cases false = among
reads_keep q a before act among = among

-- a get reads its key at the id that it picks
reads_picked : (a b : Attempt) (key : List ℕ) (p : Picked) (id : TxnId) (before : List ReadPair) → IsTrue (same_attempt a b) → read_by p ≡ id ∷ [] → In (record { key = key; id = id }) (reads_after a before (Select b key p))
reads_picked a b key p id before same is =
    subst (λ (t : Bool). In (record { key = key; id = id }) (if t then fold (λ (pairs : List ReadPair) (i : TxnId). with_read (record { key = key; id = i }) pairs) before (read_by p) else before)) (sym same)
    (subst (λ (ids : List TxnId). In (record { key = key; id = id }) (fold (λ (pairs : List ReadPair) (i : TxnId). with_read (record { key = key; id = i }) pairs) before ids)) (sym is)
    (with_read_has (record { key = key; id = id }) before))

-- ---- a version that is picked was chosen

one_id : (i id : TxnId) → i ∷ [] ≡ id ∷ [] → i ≡ id
one_id i id is = cc

pub from_read : (own : Option (List ℕ)) (key : List ℕ) (kept : List Kept) (ch : Choice) (id : TxnId) → read_by (own_or own (picked_by key kept ch)) ≡ id ∷ [] → (own_or own (picked_by key kept ch) ≡ picked.Absent → ⊥) → ch ≡ choices.Version id
from_read (Some value) key kept ch id is other = absurd (let no : [] ≡ id ∷ [] = is in cc)
from_read None key kept (choices.Version i) id is other = ap choices.Version (by_kept (kept_value key i kept) is)
  where
    by_kept : (o : Option (List ℕ)) → read_by (kept_or_fetched i o) ≡ id ∷ [] → i ≡ id
    by_kept (Some value) is = one_id i id is
    by_kept None is = one_id i id is
from_read None key kept choices.Absent id is other = absurd (other refl)
from_read None key kept (choices.NoneFits blocked) id is other = absurd (let no : [] ≡ id ∷ [] = is in cc)

pub not_absent : (q p : Picked) → IsTrue (same_picked q p) → (p ≡ picked.Absent → ⊥) → q ≡ picked.Absent → ⊥
not_absent q p same other is = none p (subst (λ (x : Picked). IsTrue (same_picked x p)) is same) other
  where
    none : (p : Picked) → IsTrue (same_picked picked.Absent p) → (p ≡ picked.Absent → ⊥) → ⊥
    none picked.Absent same other = other refl
    none p same other = false≢true same

-- whether an id isn't that of absent keys
abbrev pub Real : TxnId → Type 0
Real id = IsFalse (same_id zero_id id)

module _ (capacity : ℕ) (s : Service) (real : AreReal (known_in s)) where
  -- a version that is picked is of a known commit, so its id isn't that of absent keys
  picked_real : (a : Attempt) (key : List ℕ) (p : Picked) (id : TxnId) → IsTrue (same_picked (pick capacity s a key) p) → read_by p ≡ id ∷ [] → (p ≡ picked.Absent → ⊥) → Real id
  picked_real a key p id same is other =
      let chosen = from_read (buffered key (buffer a s.part)) key (cache capacity s.part) (choice key (reads a s.part) (known_in s)) id (same_read (pick capacity s a key) p same ∙ is) (not_absent (pick capacity s a key) p same other) in
      let by = any_found (λ (c : Commit). same_id id c.id && wrote key c) (known_in s) (chosen_written key (reads a s.part) (known_in s) id chosen) in
      subst Real (sym (same_ids id by.0.id (and_parts (same_id id by.0.id) (wrote key by.0) by.2).0)) (not-true (same_id zero_id by.0.id) (all_at is_real by.0 (known_in s) by.1 real))

-- ---- what is told

-- what a reply says of a key, beside what was read
abbrev pub Said : List ℕ → List ReadPair → Reply → Type 0
Said key pairs (replies.Value id value) = In (record { key = key; id = id }) pairs × Real id
Said key pairs replies.Absent = In (record { key = key; id = zero_id }) pairs
Said key pairs reply = ⊥

said_keeps : (key : List ℕ) (before after : List ReadPair) (reply : Reply) → ((q : ReadPair) → In q before → In q after) → Said key before reply → Said key after reply
said_keeps key before after (replies.Value id value) keeps (read, real) = (keeps (record { key = key; id = id }) read, real)
said_keeps key before after replies.Absent keeps read = keeps (record { key = key; id = zero_id }) read
said_keeps key before after reply keeps said = absurd said

at_one : (i id : TxnId) → Some i ≡ Some id → i ≡ id
at_one i id is = cc

one_read : (key : List ℕ) (pairs : List ReadPair) (i id : TxnId) → HasEachKeyOnce pairs → In (record { key = key; id = i }) pairs → In (record { key = key; id = id }) pairs → i ≡ id
one_read key pairs i id once one other = at_one i id (sym (read_at_in (record { key = key; id = i }) pairs once one) ∙ read_at_in (record { key = key; id = id }) pairs once other)

zero_real : (id : TxnId) → id ≡ zero_id → Real id → ⊥
zero_real id is real = true≢false (sym (same_id-refl zero_id) ∙ subst Real is real)

-- two replies that say what was read of a key, where each key is read once, are of one version
pub same_said : (key : List ℕ) (pairs : List ReadPair) (one other : Reply) → HasEachKeyOnce pairs → Said key pairs one → Said key pairs other → IsTrue (same_version one other)
same_said key pairs (replies.Value id value) (replies.Value i v) once (read, real) (too, also) = subst (λ (x : TxnId). IsTrue (same_id id x)) (one_read key pairs id i once read too) (same_id-refl id)
same_said key pairs (replies.Value id value) replies.Absent once (read, real) too = absurd (zero_real id (one_read key pairs id zero_id once read too) real)
same_said key pairs replies.Absent (replies.Value id value) once read (too, real) = absurd (zero_real id (one_read key pairs id zero_id once too read) real)
same_said key pairs replies.Absent replies.Absent once read too = refl
same_said key pairs (replies.Value id value) other once said too = absurd too
same_said key pairs replies.Absent other once said too = absurd too
same_said key pairs one other once said too = absurd said

-- what a service fetched was read, at an id that isn't that of absent keys; and what it told is what was read
pub record Tells (s : Service) : Type 0 where
  pub fetched : (e : NodeEntry) → In e s.part → (a : Attempt) (key : List ℕ) (id : TxnId) → IsTrue (picks_fetch a key id e.act) → In (record { key = key; id = id }) (reads a s.part) × Real id
  pub said : (a : Attempt) (key : List ℕ) (reply : Reply) → In reply (told a key s.part) → Said key (reads a s.part) reply

opened : (by : By) (a : Attempt) (key : List ℕ) (id : TxnId) (before entries : List NodeEntry) → IsTrue (is_open_since by a key id before entries) → (e : NodeEntry) × In e entries × IsTrue (picks_fetch a key id e.act)
opened by a key id before [] is = absurd (false≢true is)
opened by a key id before (entry ∷ entries) is =
    elim (or_cases (same_line by entry.by && picks_fetch a key id entry.act && each_prefix (has_it_open a key id) (before ++ entry ∷ []) entries) (is_open_since by a key id (before ++ entry ∷ []) entries) is) [
      | inl here ↦ (let parts = and_parts (same_line by entry.by && picks_fetch a key id entry.act) (each_prefix (has_it_open a key id) (before ++ entry ∷ []) entries) here in
          (entry, inl refl, (and_parts (same_line by entry.by) (picks_fetch a key id entry.act) parts.0).1))
      | inr later ↦ (let found = opened by a key id (before ++ entry ∷ []) entries later in (found.0, inr found.1, found.2))
    ]

module _ (node capacity : ℕ) (s : Service) (real : AreReal (known_in s)) (before : Tells s) where
  module _ (a : Attempt) (key : List ℕ) where
    abbrev now_read : NodeAct → List ReadPair
    now_read act = reads_after a (reads a s.part) act

    -- what a get answers
    got_said : (p : Picked) (reply : Reply) (answer : Option Reply) (b : Attempt) → IsTrue (same_attempt a b) → IsTrue (same_picked (pick capacity s b key) p) → IsTrue (answers_pick p answer) → In reply (got_in answer) → Said key (now_read (Select b key p)) reply
    got_said p reply (Some (replies.Value id value)) b same picks answers among =
        elim among [
          | inl is ↦ subst (Said key (now_read (Select b key p))) (sym is) (of_value p picks answers)
          | inr nowhere ↦ absurd nowhere
        ]
      where
        of_value : (q : Picked) → IsTrue (same_picked (pick capacity s b key) q) → IsTrue (answers_pick q (Some (replies.Value id value))) → Said key (now_read (Select b key q)) (replies.Value id value)
        of_value (picked.Cached i v) picks answers =
            let is : i ≡ id = same_ids i id (and_parts (same_id i id) (bytes_eq v value) answers).0 in (
              reads_picked a b key (picked.Cached i v) id (reads a s.part) same (ap (λ (x : TxnId). x ∷ []) is),
              picked_real capacity s real b key (picked.Cached i v) id picks (ap (λ (x : TxnId). x ∷ []) is) (λ no. let other : picked.Cached i v ≡ picked.Absent = no in cc),
            )
        of_value (picked.Own v) picks answers = absurd (false≢true answers)
        of_value (picked.Fetch i) picks answers = absurd (false≢true answers)
        of_value picked.Absent picks answers = absurd (false≢true answers)
        of_value (picked.NoneFits blocked) picks answers = absurd (false≢true answers)
    got_said p reply (Some replies.Absent) b same picks answers among =
        elim among [
          | inl is ↦ subst (Said key (now_read (Select b key p))) (sym is) (of_absent p answers)
          | inr nowhere ↦ absurd nowhere
        ]
      where
        of_absent : (q : Picked) → IsTrue (answers_pick q (Some replies.Absent)) → Said key (now_read (Select b key q)) replies.Absent
        of_absent picked.Absent answers = reads_picked a b key picked.Absent zero_id (reads a s.part) same refl
        of_absent (picked.Own v) answers = absurd (false≢true answers)
        of_absent (picked.Cached i v) answers = absurd (false≢true answers)
        of_absent (picked.Fetch i) answers = absurd (false≢true answers)
        of_absent (picked.NoneFits blocked) answers = absurd (false≢true answers)
    got_said p reply answer b same picks answers among = absurd among

    -- what a fetch answers
    fetched_said : (id : TxnId) (reply : Reply) (answer : Option Reply) → In (record { key = key; id = id }) (reads a s.part) × Real id → IsTrue (is_value_of id answer) → In reply (got_in answer) → Said key (reads a s.part) reply
    fetched_said id reply (Some (replies.Value i value)) read is among =
        elim among [
          | inl here ↦ subst (Said key (reads a s.part)) (sym here) (subst (λ (x : TxnId). In (record { key = key; id = x }) (reads a s.part) × Real x) (same_ids id i is) read)
          | inr nowhere ↦ absurd nowhere
        ]
    fetched_said id reply answer read is among = absurd (false≢true is)

    -- what an act tells
    pub tells_now : (act : NodeAct) (answer : Option Reply) (by : By) → IsTrue (may_serve node capacity act answer s) → IsTrue (ends_open_fetch s.part by act) → (reply : Reply) → In reply (told_by a key act answer) → Said key (now_read act) reply
    tells_now (Select b got p) answer by may open_now reply among = cases (same_attempt a b && bytes_eq key got) refl among
      where
        cases : (t : Bool) → (same_attempt a b && bytes_eq key got) ≡ t → In reply (if t then got_in answer else []) → Said key (now_read (Select b got p)) reply
        cases false other among = absurd among
        cases true same among =
            let parts = and_parts (same_attempt a b) (bytes_eq key got) same in
            let its_key : key ≡ got = same_bytes key got parts.1 in
            let rule = and_parts (is_running (attempt_state b s.part) && same_picked (pick capacity s b got) p) (answers_pick p answer) may in
            let picks = (and_parts (is_running (attempt_state b s.part)) (same_picked (pick capacity s b got) p) rule.0).1 in
            subst (λ (k : List ℕ). Said key (now_read (Select b k p)) reply) its_key
            (got_said p reply answer b parts.0 (subst (λ (k : List ℕ). IsTrue (same_picked (pick capacity s b k) p)) (sym its_key) picks) rule.1 among)
    tells_now (Value b got id place kept) answer by may open_now reply among = cases (same_attempt a b && bytes_eq key got) refl among
      where
        cases : (t : Bool) → (same_attempt a b && bytes_eq key got) ≡ t → In reply (if t then got_in answer else []) → Said key (reads a s.part) reply
        cases false other among = absurd among
        cases true same among =
            let parts = and_parts (same_attempt a b) (bytes_eq key got) same in
            let pick_entry = opened by b got id [] s.part open_now in
            let read = before.fetched pick_entry.0 pick_entry.1 b got id pick_entry.2 in
            fetched_said id reply answer
            (subst (λ (k : List ℕ). In (record { key = k; id = id }) (reads a s.part) × Real id) (sym (same_bytes key got parts.1)) (subst (λ (x : Attempt). In (record { key = got; id = id }) (reads x s.part) × Real id) (sym (same_attempts a b parts.0)) read))
            (and_parts _ (is_value_of id answer) may).1 among
    tells_now act answer by may open_now reply among = absurd among

  module _ (entry : NodeEntry) (may : IsTrue (may_serve node capacity entry.act entry.answer s)) (open_now : IsTrue (ends_open_fetch s.part entry.by entry.act)) where
    keeps : (a : Attempt) (q : ReadPair) → In q (reads a s.part) → In q (reads a (s.part ++ entry ∷ []))
    keeps a q among = subst (In q) (sym (reads-snoc a s.part entry)) (reads_keep q a (reads a s.part) entry.act among)

    picks_now : (act : NodeAct) (answer : Option Reply) → IsTrue (may_serve node capacity act answer s) → (a : Attempt) (key : List ℕ) (id : TxnId) → IsTrue (picks_fetch a key id act) → In (record { key = key; id = id }) (reads_after a (reads a s.part) act) × Real id
    picks_now (Select b got (picked.Fetch i)) answer rule a key id is =
        let parts = and_parts (same_attempt a b && bytes_eq key got) (same_id id i) is in
        let both = and_parts (same_attempt a b) (bytes_eq key got) parts.0 in
        let its_id : id ≡ i = same_ids id i parts.1 in
        let its_key : key ≡ got = same_bytes key got both.1 in
        let ids : read_by (picked.Fetch i) ≡ id ∷ [] = ap (λ (x : TxnId). x ∷ []) (sym its_id) in
        let by_rule = and_parts (is_running (attempt_state b s.part) && same_picked (pick capacity s b got) (picked.Fetch i)) (answers_pick (picked.Fetch i) answer) rule in
        let picks = (and_parts (is_running (attempt_state b s.part)) (same_picked (pick capacity s b got) (picked.Fetch i)) by_rule.0).1 in (
          subst (λ (k : List ℕ). In (record { key = k; id = id }) (reads_after a (reads a s.part) (Select b got (picked.Fetch i)))) (sym its_key) (reads_picked a b got (picked.Fetch i) id (reads a s.part) both.0 ids),
          picked_real capacity s real b got (picked.Fetch i) id picks ids (λ no. let other : picked.Fetch i ≡ picked.Absent = no in cc),
        )
    picks_now act answer rule a key id is = absurd (false≢true is)

    fetched_next : (e : NodeEntry) → In e (s.part ++ entry ∷ []) → (a : Attempt) (key : List ℕ) (id : TxnId) → IsTrue (picks_fetch a key id e.act) → In (record { key = key; id = id }) (reads a (s.part ++ entry ∷ [])) × Real id
    fetched_next e among a key id is =
        elim (in_snoc e s.part entry among) [
          | inl was ↦ (let read = before.fetched e was a key id is in (keeps a (record { key = key; id = id }) read.0, read.1))
          | inr here ↦ (let read = picks_now entry.act entry.answer may a key id (subst (λ (x : NodeEntry). IsTrue (picks_fetch a key id x.act)) here is) in
              (subst (In (record { key = key; id = id })) (sym (reads-snoc a s.part entry)) read.0, read.1))
        ]

    -- what an entry tells
    pub said_now : (a : Attempt) (key : List ℕ) (reply : Reply) → In reply (told_by a key entry.act entry.answer) → Said key (reads a (s.part ++ entry ∷ [])) reply
    said_now a key reply among = subst (λ (r : List ReadPair). Said key r reply) (sym (reads-snoc a s.part entry)) (tells_now a key entry.act entry.answer entry.by may open_now reply among)

    -- what was told
    pub said_still : (a : Attempt) (key : List ℕ) (reply : Reply) → In reply (told a key s.part) → Said key (reads a (s.part ++ entry ∷ [])) reply
    said_still a key reply among = said_keeps key (reads a s.part) (reads a (s.part ++ entry ∷ [])) reply (keeps a) (before.said a key reply among)

    since : (values : List (List ℕ)) (all : List Reply) (reply : Reply) → In reply (told_since values all) → In reply all
    since [] all reply among = among
    since (value ∷ values) all reply among = absurd among

    said_next : (a : Attempt) (key : List ℕ) (reply : Reply) → In reply (told a key (s.part ++ entry ∷ [])) → Said key (reads a (s.part ++ entry ∷ [])) reply
    said_next a key reply among =
        let after : In reply (told_after a key (told a key s.part) entry) = subst (In reply) (fold-append (told_after a key) [] s.part (entry ∷ [])) among in
        elim (in_append reply (told a key s.part) (told_by a key entry.act entry.answer) (since (put_by a key entry.act) (told a key s.part ++ told_by a key entry.act entry.answer) reply after)) [
          | inl was ↦ said_still a key reply was
          | inr now ↦ said_now a key reply now
        ]

    pub tells_next : Tells (extended s entry)
    tells_next = record { fetched = fetched_next; said = said_next }
