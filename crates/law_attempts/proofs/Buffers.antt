-- What an attempt has buffered: under each key its last put, in key order, and from its start on for good.
use Rattle.std.proofs.Common.{◌≡◌, ℕ, ◌≤◌, ◌<◌, Bool, true, false, ◌&&◌, List, [], ◌∷◌, ◌++◌, length, refl, sym, ap, subst, ◌∙◌, inl, inr, arith}
use Rattle.std.specs.Prelude.{IsTrue, IsFalse, Option, Some, None, if◌then◌else◌, is_some, nat_lt, suc}
use Rattle.std.specs.Str.{bytes_eq}
use Rattle.std.specs.List.{fold}
use Rattle.std.proofs.lemmas.Bool.{and_from, and_parts, or_cases, false≢true, ltb-true, true≢false}
use Rattle.aft_fields.specs.Order.{ascend, ascend_after, follows}
use Rattle.aft_keeper.specs.Contents.{name_lt}
use Rattle.aft_keeper.proofs.Names.{Greater-from_tests, Less-from_name_lt, Less-trans, bytes_eq-Less, name_lt-from_Less}
use Rattle.aft_model.specs.declared.caller.Attempt.{Attempt}
use Rattle.aft_model.specs.declared.node.NodeAct.{NodeAct}
use Rattle.aft_model.specs.declared.node.NodeAct.TheVariants.{Put}
use Rattle.aft_model.specs.declared.node.NodeEntry.{NodeEntry}
use Rattle.aft_model.specs.declared.reply.Reply.{Reply}
use Rattle.aft_model.specs.Attempts.{Write, attempt_state, buffer, buffer_after, buffered, is_running, same_attempt, with_write, written_keys}
use Rattle.aft_model.specs.LegalNode.{may_serve}
use Rattle.aft_model.specs.NodeRules.{may_put_key, most_keys}
use Rattle.aft_model.specs.NodeState.{Service}
use Rattle.aft_model.proofs.Lists.{fold_kept}
use Rattle.aft_model.proofs.Pins.{same_attempts}
use Rattle.aft_model.proofs.Sights.{same_bytes, bytes_eq-refl}
use Rattle.law_attempts.specs.Acts.{last_value, value_after}
use Rattle.law_attempts.proofs.Acts.{buffer-snoc}

-- ---- under each key the last put

-- a key has the value of a write of it, and else the one that it had
pub buffered_with : (key : List ℕ) (write : Write) (writes : List Write) → buffered key (with_write write writes) ≡ (if bytes_eq key write.key then Some write.value else buffered key writes)
buffered_with key write [] = refl
buffered_with key write (other ∷ writes) = cases (bytes_eq write.key other.key) (name_lt write.key other.key) refl (buffered_with key write writes)
  where
    both : (t u : Bool) (v w : List ℕ) (rest : Option (List ℕ)) → (IsTrue t → IsTrue u → ⊥) → (if u then Some w else (if t then Some v else rest)) ≡ (if t then Some v else (if u then Some w else rest))
    both true true v w rest apart = absurd (apart refl refl)
    both true false v w rest apart = refl
    both false u v w rest apart = refl

    shadow : (t u : Bool) (v w : List ℕ) (rest : Option (List ℕ)) → (u ≡ t) → (if t then Some v else rest) ≡ (if t then Some v else (if u then Some w else rest))
    shadow true u v w rest same = refl
    shadow false true v w rest same = absurd (true≢false same)
    shadow false false v w rest same = refl

    cases : (e l : Bool) → bytes_eq write.key other.key ≡ e → buffered key (with_write write writes) ≡ (if bytes_eq key write.key then Some write.value else buffered key writes)
        → buffered key (if e then write ∷ writes else if l then write ∷ other ∷ writes else other ∷ with_write write writes) ≡ (if bytes_eq key write.key then Some write.value else buffered key (other ∷ writes))
    cases true l same rest =
        shadow (bytes_eq key write.key) (bytes_eq key other.key) write.value other.value (buffered key writes) (ap (bytes_eq key) (sym (same_bytes write.key other.key same)))
    cases false true differs rest = refl
    cases false false differs rest =
        ap (λ (o : Option (List ℕ)). if bytes_eq key other.key then Some other.value else o) rest
        ∙ both (bytes_eq key write.key) (bytes_eq key other.key) write.value other.value (buffered key writes) (λ one two.
        true≢false (sym (subst (λ (k : List ℕ). IsTrue (bytes_eq write.key k)) (same_bytes key other.key two) (subst (λ (k : List ℕ). IsTrue (bytes_eq write.key k)) (sym (same_bytes key write.key one)) (bytes_eq-refl write.key))) ∙ differs))

buffered_after : (a : Attempt) (key : List ℕ) (writes : List Write) (act : NodeAct) → buffered key (buffer_after a writes act) ≡ value_after a key (buffered key writes) act
buffered_after a key writes (Put b put value) = cases (same_attempt a b)
  where
    cases : (t : Bool) → buffered key (if t then with_write (record { key = put; value = value }) writes else writes) ≡ (if t && bytes_eq key put then Some value else buffered key writes)
    cases true = buffered_with key (record { key = put; value = value }) writes
    cases false = refl
buffered_after a key writes act = refl

pub buffered_last : (a : Attempt) (key : List ℕ) (part : List NodeEntry) → buffered key (buffer a part) ≡ last_value a key part
buffered_last a key part = go [] part
  where
    go : (writes : List Write) (entries : List NodeEntry)
        → buffered key (fold (λ (before : List Write) (e : NodeEntry). buffer_after a before e.act) writes entries) ≡ fold (λ (before : Option (List ℕ)) (e : NodeEntry). value_after a key before e.act) (buffered key writes) entries
    go writes [] = refl
    go writes (e ∷ entries) =
        go (buffer_after a writes e.act) entries
        ∙ ap (λ (o : Option (List ℕ)). fold (λ (before : Option (List ℕ)) (x : NodeEntry). value_after a key before x.act) o entries) (buffered_after a key writes e.act)

-- ---- an attempt that doesn't run puts nothing

pub buffer_kept : (node capacity : ℕ) (s : Service) (a : Attempt) (act : NodeAct) (answer : Option Reply) → IsTrue (may_serve node capacity act answer s) → IsFalse (is_running (attempt_state a s.part))
    → buffer_after a (buffer a s.part) act ≡ buffer a s.part
buffer_kept node capacity s a (Put b key value) answer rule idle = cases (same_attempt a b) refl
  where
    runs : IsTrue (is_running (attempt_state b s.part))
    runs = (and_parts (is_running (attempt_state b s.part)) (may_put_key s b key) (and_parts (is_running (attempt_state b s.part) && may_put_key s b key) _ rule).0).0

    cases : (t : Bool) → same_attempt a b ≡ t → (if t then with_write (record { key = key; value = value }) (buffer a s.part) else buffer a s.part) ≡ buffer a s.part
    cases true same = absurd (true≢false (sym (subst (λ (x : Attempt). IsTrue (is_running (attempt_state x s.part))) (sym (same_attempts a b same)) runs) ∙ idle))
    cases false other = refl
buffer_kept node capacity s a act answer rule idle = refl

-- ---- in key order

-- the keys ascend behind a text, if there is one
abbrev Ascend : Option (List ℕ) → List Write → Type 0
Ascend before writes = IsTrue (ascend_after before (written_keys writes))

with_ascends : (before : Option (List ℕ)) (write : Write) (writes : List Write) → Ascend before writes → IsTrue (follows before write.key) → Ascend before (with_write write writes)
with_ascends before write [] up later = and_from _ _ later refl
with_ascends before write (other ∷ writes) up later =
    let parts = and_parts (follows before other.key) (ascend_after (Some other.key) (written_keys writes)) up in
    cases (bytes_eq write.key other.key) (name_lt write.key other.key) refl refl parts.0 parts.1 (λ less. with_ascends (Some other.key) write writes parts.1 less)
  where
    cases : (e l : Bool) → bytes_eq write.key other.key ≡ e → name_lt write.key other.key ≡ l → IsTrue (follows before other.key) → Ascend (Some other.key) writes
        → (IsTrue (name_lt other.key write.key) → Ascend (Some other.key) (with_write write writes))
        → Ascend before (if e then write ∷ writes else if l then write ∷ other ∷ writes else other ∷ with_write write writes)
    cases true l same less first rest next = and_from _ _ later (subst (λ (k : List ℕ). Ascend (Some k) writes) (sym (same_bytes write.key other.key same)) rest)
    cases false true differs less first rest next = and_from _ _ later (and_from _ _ less rest)
    cases false false differs more first rest next = and_from _ _ first (next (name_lt-from_Less other.key write.key (Greater-from_tests write.key other.key differs more)))

ascends_after : (a : Attempt) (writes : List Write) (act : NodeAct) → Ascend None writes → Ascend None (buffer_after a writes act)
ascends_after a writes (Put b put value) up = cases (same_attempt a b)
  where
    cases : (t : Bool) → Ascend None (if t then with_write (record { key = put; value = value }) writes else writes)
    cases true = with_ascends None (record { key = put; value = value }) writes up refl
    cases false = up
ascends_after a writes act up = up

pub buffer_ascends : (a : Attempt) (part : List NodeEntry) → IsTrue (ascend (written_keys (buffer a part)))
buffer_ascends a part = fold_kept (λ (before : List Write) (e : NodeEntry). buffer_after a before e.act) (Ascend None) (λ before e up. ascends_after a before e.act up) [] part refl

-- ---- at most so many keys

-- a key below those that ascend isn't there
none_below : (key before : List ℕ) (writes : List Write) → Ascend (Some before) writes → IsTrue (name_lt key before) → buffered key writes ≡ None
none_below key before [] up less = refl
none_below key before (write ∷ writes) up less =
    let parts = and_parts (name_lt before write.key) (ascend_after (Some write.key) (written_keys writes)) up in
    let below = Less-trans key before write.key (Less-from_name_lt key before less) (Less-from_name_lt before write.key parts.0) in
    ap (λ t. if t then Some write.value else buffered key writes) (bytes_eq-Less key write.key below) ∙ none_below key write.key writes parts.1 (name_lt-from_Less key write.key below)

none_some : (o : Option (List ℕ)) → o ≡ None → IsTrue (is_some o) → ⊥
none_some o none some = false≢true (sym (ap (λ (x : Option (List ℕ)). is_some x) none) ∙ some)

-- a write of a key that is there takes its place
with_there : (before : Option (List ℕ)) (write : Write) (writes : List Write) → Ascend before writes → IsTrue (is_some (buffered write.key writes)) → length (with_write write writes) ≡ length writes
with_there before write [] up some = absurd (false≢true some)
with_there before write (other ∷ writes) up some =
    let parts = and_parts (follows before other.key) (ascend_after (Some other.key) (written_keys writes)) up in
    cases (bytes_eq write.key other.key) (name_lt write.key other.key) refl some (none_below write.key other.key writes parts.1) (with_there (Some other.key) write writes parts.1)
  where
    cases : (e l : Bool) → name_lt write.key other.key ≡ l → IsTrue (is_some (if e then Some other.value else buffered write.key writes)) → (IsTrue (name_lt write.key other.key) → buffered write.key writes ≡ None)
        → (IsTrue (is_some (buffered write.key writes)) → length (with_write write writes) ≡ length writes)
        → length (if e then write ∷ writes else if l then write ∷ other ∷ writes else other ∷ with_write write writes) ≡ suc (length writes)
    cases true l less some none rest = refl
    cases false true less some none rest = absurd (none_some (buffered write.key writes) (none less) some)
    cases false false more some none rest = ap suc (rest some)

with_length : (write : Write) (writes : List Write) → length (with_write write writes) ≤ suc (length writes)
with_length write [] = omega arith
with_length write (other ∷ writes) = cases (bytes_eq write.key other.key) (name_lt write.key other.key) (with_length write writes)
  where
    cases : (e l : Bool) → length (with_write write writes) ≤ suc (length writes)
        → length (if e then write ∷ writes else if l then write ∷ other ∷ writes else other ∷ with_write write writes) ≤ suc (suc (length writes))
    cases true l rest = omega arith
    cases false true rest = omega arith
    cases false false rest = omega arith

few_after : (node capacity : ℕ) (s : Service) (a : Attempt) (act : NodeAct) (answer : Option Reply) → IsTrue (may_serve node capacity act answer s) → length (buffer a s.part) ≤ 32 → length (buffer_after a (buffer a s.part) act) ≤ 32
few_after node capacity s a (Put b key value) answer rule few = cases (same_attempt a b) refl
  where
    may : IsTrue (may_put_key s b key)
    may = (and_parts (is_running (attempt_state b s.part)) (may_put_key s b key) (and_parts (is_running (attempt_state b s.part) && may_put_key s b key) _ rule).0).1

    cases : (t : Bool) → same_attempt a b ≡ t → length (if t then with_write (record { key = key; value = value }) (buffer a s.part) else buffer a s.part) ≤ 32
    cases true same =
        elim (or_cases (is_some (buffered key (buffer a s.part))) (nat_lt (length (buffer a s.part)) most_keys) (subst (λ (x : Attempt). IsTrue (may_put_key s x key)) (sym (same_attempts a b same)) may)) [
          | inl there ↦ (let e = with_there None (record { key = key; value = value }) (buffer a s.part) (buffer_ascends a s.part) there in omega arith)
          | inr less ↦ (let below : length (buffer a s.part) < 32 = ltb-true (length (buffer a s.part)) 32 less in
              let most = with_length (record { key = key; value = value }) (buffer a s.part) in omega arith)
        ]
    cases false other = few
few_after node capacity s a act answer rule few = few

pub few_extended : (node capacity : ℕ) (s : Service) (entry : NodeEntry) → IsTrue (may_serve node capacity entry.act entry.answer s) → ((a : Attempt) → length (buffer a s.part) ≤ 32)
    → (a : Attempt) → length (buffer a (s.part ++ entry ∷ [])) ≤ 32
few_extended node capacity s entry rule few a = subst (λ (w : List Write). length w ≤ 32) (sym (buffer-snoc a s.part entry)) (few_after node capacity s a entry.act entry.answer rule (few a))
