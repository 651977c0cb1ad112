-- What the first turn of a line makes of the attempt that it takes.
use Rattle.std.proofs.Common.{◌≡◌, ℕ, Bool, true, false, ◌||◌, List, [], ◌∷◌, ◌++◌, refl, sym, ap, subst, ◌∙◌, inl, append_assoc}
use Rattle.std.specs.Cmp.Lexicographic.{pointwise}
use Rattle.std.specs.Prelude.{IsTrue, IsFalse, Option, Some, None, if◌then◌else◌}
use Rattle.std.specs.List.{list_all, list_any}
use Rattle.std.specs.Str.{bytes_eq}
use Rattle.std.proofs.lemmas.Bool.{and_from, and_parts, false≢true, or_left, or_right}
use Rattle.aft_records.specs.declared.stored.Commit.{Commit}
use Rattle.aft_records.specs.Commits.{same_commit}
use Rattle.aft_model.specs.declared.caller.Attempt.{Attempt}
use Rattle.aft_model.specs.declared.node.NodeAct.{NodeAct}
use Rattle.aft_model.specs.declared.node.NodeAct.TheVariants as acts
use Rattle.aft_model.specs.declared.node.NodeEntry.{NodeEntry}
use Rattle.aft_model.specs.declared.reply.Reply.{Reply}
use Rattle.aft_model.specs.declared.script.Command.{Command}
use Rattle.aft_model.specs.declared.script.Command.TheVariants as commands
use Rattle.aft_model.specs.Attempts.{AttemptState, IsCommitting, IsGone, IsInDoubt, IsLeaving, IsOpening, IsRunning, Write, attempt_after, attempt_state, buffer, fixed_commit, is_gone, is_in_doubt, is_leaving, is_of, is_opening, is_running, tried_again, uuid_after, uuid_of, written_keys}
use Rattle.aft_model.specs.LegalNode.{LegalNode, may_serve}
use Rattle.aft_model.specs.NodeRules.{is_storing, may_leave, may_start}
use Rattle.aft_model.specs.NodeState.{Service, extended, node_state, part, serves}
use Rattle.aft_model.specs.Readings.{version_name}
use Rattle.aft_model.specs.Stages.{IsClear, Stage, is_clear}
use Rattle.aft_model.proofs.Ids.{same_id-refl}
use Rattle.aft_model.proofs.Incarnations.{part-at}
use Rattle.aft_model.proofs.Pins.{attempt_state-snoc, start_runs}
use Rattle.aft_model.proofs.Sights.{bytes_eq-refl}
use Rattle.aft_lines.specs.Advance.{advance, begun_with, finished_with, settled_with}
use Rattle.aft_lines.specs.CommitCourse.{leaves, storing_of}
use Rattle.aft_lines.specs.CourseWords.{Ends}
use Rattle.aft_lines.specs.Progress.{Admitted, IsOver, IsStoring, MustLeave, NotBegun, Progress, Settling}
use Rattle.aft_lines.specs.Turns.{AtNode}
use Rattle.law_attempts.proofs.Acts.{uuid-snoc}
use Rattle.law_attempts.proofs.Attempts.{in_part}
use Rattle.law_attempts.proofs.Lives.{Lives, lives}
use Rattle.law_attempts.proofs.RowsFollow.{start_keys}
use Rattle.law_attempts.proofs.Standing.{not_again, same_itself}
use Rattle.law_attempts.proofs.States.{running_is}
use Rattle.law_holders.specs.Rows.{are_put_but, is_of_attempt, may_have_put, writes_key}
use Rattle.law_claims.specs.Doing.{are_rest_puts, attempt_at, keeps_row, moves, rests}

-- ---- small facts

pub same_commit-refl : (c : Commit) → IsTrue (same_commit c c)
same_commit-refl c = and_from _ _ (same_id-refl c.id) (same_keys c.keys)
  where
    same_keys : (keys : List (List ℕ)) → IsTrue (pointwise bytes_eq keys keys)
    same_keys [] = refl
    same_keys (key ∷ keys) = and_from _ _ (bytes_eq-refl key) (same_keys keys)

-- a buffer writes each of its keys
found_in : (write : Write) (writes front : List Write) → IsTrue (writes_key write.key (front ++ write ∷ writes))
found_in write writes [] = or_left _ _ (bytes_eq-refl write.key)
found_in write writes (x ∷ front) = or_right (bytes_eq x.key write.key) _ (found_in write writes front)

its_keys : (other : List ℕ → Bool) (all : List Write) (before writes : List Write) → all ≡ before ++ writes → IsTrue (list_all (λ key. writes_key key all || other key) (written_keys writes))
its_keys other all before [] is = refl
its_keys other all before (write ∷ writes) is =
    and_from _ _ (or_left _ _ (subst (λ (w : List Write). IsTrue (writes_key write.key w)) (sym is) (found_in write writes before)))
    (its_keys other all (before ++ write ∷ []) writes (is ∙ sym (append_assoc before (write ∷ []) writes)))

all_its : (all before writes : List Write) → all ≡ before ++ writes → IsTrue (list_all (λ key. writes_key key all) (written_keys writes))
all_its all before [] is = refl
all_its all before (write ∷ writes) is =
    and_from _ _ (subst (λ (w : List Write). IsTrue (writes_key write.key w)) (sym is) (found_in write writes before))
    (all_its all (before ++ write ∷ []) writes (is ∙ sym (append_assoc before (write ∷ []) writes)))

-- what passes a test that nothing passes is empty
none_pass : {A : Type 0} (test : A → Bool) (xs : List A) → IsTrue (list_all (λ x. false) xs) → IsTrue (list_all test xs)
none_pass test [] so = refl
none_pass test (x ∷ xs) so = absurd (false≢true so)

pub gone_is : (state : AttemptState) → (IsFalse (is_gone state) → ⊥) → state ≡ IsGone
gone_is IsGone out = refl
gone_is state out = absurd (out refl)

-- ---- each first turn

module _ (node capacity : ℕ) (s : Service) (lives : Lives node s) (stage : Stage) (puts : List Commit) where
  -- what a line takes, if it takes an attempt
  record Taken (act : NodeAct) (next : Progress) (a : Attempt) : Type 0 where
    pub moved : IsTrue (moves next a (attempt_after a (attempt_state a s.part) act) (uuid_after a (uuid_of a s.part) act))
    pub row : IsTrue (keeps_row next stage puts)

  abbrev Takes : NodeAct → Option Progress → Type 0
  Takes act None = Unit {0}
  Takes act (Some next) = (a : Attempt) → attempt_at next ≡ Some a → IsTrue (rests (attempt_state a s.part) stage puts) → Taken act next a

  takes_if : (act : NodeAct) (passed : Bool) (next : Progress) → Takes act (Some next) → Takes act (if passed then Some next else None)
  takes_if act true next so = so
  takes_if act false next so = tt

  none_taken : (act : NodeAct) → Takes act (Some IsOver)
  none_taken act a is rest = absurd (let no : None ≡ Some a = is in cc)

  -- it is enough to show it of the attempt that the position names
  as_named : (act : NodeAct) (next : Progress) (b : Attempt) → attempt_at next ≡ Some b → (IsTrue (rests (attempt_state b s.part) stage puts) → Taken act next b) → Takes act (Some next)
  as_named act next b named so a is rest =
      let both : Some b ≡ Some a = sym named ∙ is in
      let one : b ≡ a = cc in
      subst (λ (x : Attempt). Taken act next x) one (so (subst (λ (x : Attempt). IsTrue (rests (attempt_state x s.part) stage puts)) (sym one) rest))

  admit_taken : (b : Attempt) (uuid : List ℕ) (answer : Option Reply) → IsTrue (may_serve node capacity (acts.Admit b uuid) answer s) → IsTrue (rests (attempt_state b s.part) stage puts) → Taken (acts.Admit b uuid) (Admitted (record { attempt = b; uuid = uuid })) b
  admit_taken b uuid answer rule rest =
      let new : attempt_state b s.part ≡ IsGone = gone_is (attempt_state b s.part) (λ there. not_again node capacity s (record { front = 0; by = record { client = 0; line = 0 }; act = acts.Admit b uuid; answer = answer }) rule lives.stands b (lives.stands.listed b there) (inl refl)) in record {
        moved = and_from _ _ (and_from _ _ (same_itself b) (ap (λ (t : Bool). is_opening (if t then IsOpening else attempt_state b s.part)) (same_itself b))) (ap (λ (t : Bool). bytes_eq uuid (if t then uuid else uuid_of b s.part)) (same_itself b) ∙ bytes_eq-refl uuid);
        row = subst (λ (state : AttemptState). IsTrue (rests state stage puts)) new rest;
      }

  begun_taken : (act : NodeAct) (answer : Option Reply) → IsTrue (may_serve node capacity act answer s) → Takes act (begun_with act)
  begun_taken acts.Nothing answer rule = none_taken acts.Nothing
  begun_taken (acts.Admit b uuid) answer rule = as_named (acts.Admit b uuid) (Admitted (record { attempt = b; uuid = uuid })) b refl (admit_taken b uuid answer rule)
  begun_taken act answer rule = tt

  start_taken : (b : Attempt) (now : ℕ) (c : Commit) (answer : Option Reply) → IsTrue (may_serve node capacity (acts.Start b now c) answer s) → IsTrue (rests (attempt_state b s.part) stage puts) → Taken (acts.Start b now c) (IsStoring (storing_of b s.part c) (buffer b s.part)) b
  start_taken b now c answer rule rest =
      let may = (and_parts (may_start s b now c) _ rule).0 in
      let runs : attempt_state b s.part ≡ IsRunning = running_is (attempt_state b s.part) (start_runs s b now c may) in
      let was = and_parts (is_clear (λ names. true) stage) (are_rest_puts IsRunning puts) (subst (λ (state : AttemptState). IsTrue (rests state stage puts)) runs rest) in
      let of : IsTrue (is_of c.id.uuid s.part b) = (and_parts _ (is_of c.id.uuid s.part b) (and_parts _ _ (and_parts _ _ may).0).0).1 in
      let keys : c.keys ≡ written_keys (buffer b s.part) = ap (λ (d : Commit). d.keys) (start_keys s b now c may) in record {
        moved = and_from _ _ (and_from _ _ (same_itself b) (ap (λ (t : Bool). is_storing c (if t then IsCommitting c else attempt_state b s.part)) (same_itself b) ∙ same_commit-refl c)) (subst (λ (u : List ℕ). IsTrue (bytes_eq c.id.uuid u)) (sym (lives.stands.named b c.id.uuid of)) (bytes_eq-refl c.id.uuid));
        row = and_from _ _ (clear stage was.0 keys) (none_pass (λ d. list_any (λ e. same_commit e d) (c ∷ [])) puts was.1);
      }
    where
      clear : (now_is : Stage) → IsTrue (is_clear (λ names. true) now_is) → c.keys ≡ written_keys (buffer b s.part) → IsTrue (is_clear (are_put_but (buffer b s.part) c) now_is)
      clear (IsClear names) so keys = subst (λ (ks : List (List ℕ)). IsTrue (list_all (λ key. writes_key key (buffer b s.part) || list_any (bytes_eq (version_name key c.id)) names) ks)) (sym keys) (its_keys (λ key. list_any (bytes_eq (version_name key c.id)) names) (buffer b s.part) [] (buffer b s.part) refl)
      clear other so keys = absurd (false≢true so)

  settle_taken : (aborts : Bool) (b : Attempt) (answer : Option Reply) → IsTrue (may_serve node capacity (acts.Settle b) answer s) → Takes (acts.Settle b) (settled_with aborts b s.part (fixed_commit (attempt_state b s.part)))
  settle_taken aborts b answer rule = cases (attempt_state b s.part) refl (and_parts (is_in_doubt (attempt_state b s.part)) _ rule).0
    where
      cases : (state : AttemptState) → attempt_state b s.part ≡ state → IsTrue (is_in_doubt state) → Takes (acts.Settle b) (settled_with aborts b s.part (fixed_commit state))
      cases (IsInDoubt c) was doubt =
          as_named (acts.Settle b) (Settling aborts (storing_of b s.part c)) b refl (λ rest.
          let parts = and_parts (may_have_put c stage) (are_rest_puts (IsInDoubt c) puts) (subst (λ (state : AttemptState). IsTrue (rests state stage puts)) was rest) in
          let fixed = lives.fixes b c (ap fixed_commit was) in record {
            moved = and_from _ _ (and_from _ _ (same_itself b) (ap (λ (t : Bool). is_storing c (if t then tried_again (attempt_state b s.part) else attempt_state b s.part)) (same_itself b) ∙ (ap (λ (state : AttemptState). is_storing c (tried_again state)) was ∙ same_commit-refl c))) (subst (λ (u : List ℕ). IsTrue (bytes_eq c.id.uuid u)) fixed.uuid (bytes_eq-refl c.id.uuid));
            row = and_from _ _ (and_from _ _ parts.0 (subst (λ (ks : List (List ℕ)). IsTrue (list_all (λ key. writes_key key (buffer b s.part)) ks)) (sym fixed.keys) (all_its (buffer b s.part) [] (buffer b s.part) refl))) parts.1;
          })
      cases state was doubt = absurd (false≢true doubt)

  leave_taken : (aborts : Bool) (b : Attempt) (answer : Option Reply) → IsTrue (may_serve node capacity (acts.Leave b) answer s) → IsTrue (rests (attempt_state b s.part) stage puts) → Taken (acts.Leave b) (MustLeave aborts b (uuid_of b s.part)) b
  leave_taken aborts b answer rule rest =
      let may = (and_parts (may_leave s b) _ rule).0 in
      let runs : attempt_state b s.part ≡ IsRunning = running_is (attempt_state b s.part) (and_parts (is_running (attempt_state b s.part)) _ may).0 in record {
        moved = and_from _ _ (and_from _ _ (same_itself b) (ap (λ (t : Bool). is_leaving (if t then IsLeaving else attempt_state b s.part)) (same_itself b))) (bytes_eq-refl (uuid_of b s.part));
        row = subst (λ (state : AttemptState). IsTrue (rests state stage puts)) runs rest;
      }

  finish_taken : (aborts : Bool) (act : NodeAct) (answer : Option Reply) → IsTrue (may_serve node capacity act answer s) → Takes act (finished_with aborts s.part act)
  finish_taken aborts acts.Nothing answer rule = none_taken acts.Nothing
  finish_taken aborts (acts.Leave b) answer rule = takes_if (acts.Leave b) (leaves aborts (buffer b s.part)) (MustLeave aborts b (uuid_of b s.part)) (as_named (acts.Leave b) (MustLeave aborts b (uuid_of b s.part)) b refl (leave_taken aborts b answer rule))
  finish_taken false (acts.Start b now c) answer rule = as_named (acts.Start b now c) (IsStoring (storing_of b s.part c) (buffer b s.part)) b refl (start_taken b now c answer rule)
  finish_taken true (acts.Start b now c) answer rule = tt
  finish_taken aborts (acts.Settle b) answer rule = settle_taken aborts b answer rule
  finish_taken aborts act answer rule = tt

  line_taken : (command : Command) (nodes : List ℕ) (ends : Ends) (before : List NodeEntry) (entry : NodeEntry) → part before ≡ s.part → IsTrue (is_of_attempt command) → IsTrue (may_serve node capacity entry.act entry.answer s) → Takes entry.act (advance command nodes ends NotBegun (AtNode node before entry))
  line_taken (commands.Begin uuid home) nodes ends before entry is of rule = begun_taken entry.act entry.answer rule
  line_taken (commands.Forget uuid home) nodes ends before entry is of rule = begun_taken entry.act entry.answer rule
  line_taken commands.Commit nodes ends before entry is of rule = subst (λ (p : List NodeEntry). Takes entry.act (finished_with false p entry.act)) (sym is) (finish_taken false entry.act entry.answer rule)
  line_taken commands.Abort nodes ends before entry is of rule = subst (λ (p : List NodeEntry). Takes entry.act (finished_with true p entry.act)) (sym is) (finish_taken true entry.act entry.answer rule)
  line_taken command nodes ends before entry is of rule = absurd (false≢true of)

-- ---- as histories

pub attempts_go_along : (command : Command) (nodes : List ℕ) (ends : Ends) (node capacity inc : ℕ) (before : List NodeEntry) (entry : NodeEntry) (next : Progress) (a : Attempt) (stage : Stage) (puts : List Commit) → IsTrue (is_of_attempt command)
    → LegalNode node capacity (before ++ entry ∷ []) → IsTrue (serves inc (node_state before)) → IsTrue (serves inc (node_state (before ++ entry ∷ []))) → advance command nodes ends NotBegun (AtNode node before entry) ≡ Some next → attempt_at next ≡ Some a
    → IsTrue (rests (attempt_state a (part before)) stage puts) → IsTrue (moves next a (attempt_state a (part (before ++ entry ∷ []))) (uuid_of a (part (before ++ entry ∷ [])))) × IsTrue (keeps_row next stage puts)
attempts_go_along command nodes ends node capacity inc before entry next a stage puts of legal serve still e named rest =
    let at = in_part node capacity inc before entry legal serve still in
    let is : part before ≡ at.0.part = part-at before at.0 at.2 in
    let living = lives node capacity before at.0 at.1 at.2 in
    let takes : Takes node capacity at.0 living stage puts entry.act (Some next) = subst (Takes node capacity at.0 living stage puts entry.act) e (line_taken node capacity at.0 living stage puts command nodes ends before entry is of at.4) in
    let taken = takes a named (subst (λ (p : List NodeEntry). IsTrue (rests (attempt_state a p) stage puts)) is rest) in
    let ends_at : part (before ++ entry ∷ []) ≡ at.0.part ++ entry ∷ [] = part-at (before ++ entry ∷ []) (extended at.0 entry) at.5 in (
      subst (λ (p : List NodeEntry). IsTrue (moves next a (attempt_state a p) (uuid_of a p))) (sym ends_at)
          (subst (λ (state : AttemptState). IsTrue (moves next a state (uuid_of a (at.0.part ++ entry ∷ [])))) (sym (attempt_state-snoc a at.0.part entry))
          (subst (λ (u : List ℕ). IsTrue (moves next a (attempt_after a (attempt_state a at.0.part) entry.act) u)) (sym (uuid-snoc a at.0.part entry)) taken.moved)),
      taken.row,
    )
