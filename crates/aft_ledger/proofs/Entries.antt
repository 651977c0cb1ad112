-- A ledger with one more entry.
use Rattle.std.proofs.Common.{◌≡◌, ℕ, ◌+◌, ◌-◌, ◌^◌, ◌≤◌, Bool, true, false, List, [], ◌∷◌, ◌++◌, refl, sym, ap, subst, ◌∙◌, append_assoc, append-nil, eq-eqb, length, length-append, max, arith}
use Rattle.std.specs.Prelude.{IsTrue, None, Option, Some, if◌then◌else◌, nat_le}
use Rattle.std.specs.List.{fold, list_all}
use Rattle.std.proofs.lemmas.Bool.{and_parts, and_from}
use Rattle.aft_records.specs.declared.stored.Commit.{Commit}
use Rattle.aft_records.specs.Kept.{Kept}
use Rattle.aft_model.specs.declared.caller.Attempt.{Attempt}
use Rattle.aft_model.specs.declared.caller.By.{By}
use Rattle.aft_model.specs.declared.node.NodeAct.{NodeAct}
use Rattle.aft_model.specs.declared.node.NodeAct.TheVariants.{Admit, Nothing}
use Rattle.aft_model.specs.declared.node.NodeEntry.{NodeEntry}
use Rattle.aft_model.specs.declared.reply.Reply.{Reply}
use Rattle.aft_model.specs.Attempts.{admitted_by, attempts, rows}
use Rattle.aft_model.specs.Cache.{cache, cache_after}
use Rattle.aft_model.specs.History.{each_after}
use Rattle.aft_model.specs.Known.{known, known_after, known_of, unannounced, unannounced_after}
use Rattle.aft_model.specs.LegalNode.{LegalNode, front, may_be_done, may_follow_at}
use Rattle.aft_model.specs.NodeRules.{is_own_end, may_answer_alone}
use Rattle.aft_model.specs.NodeState.{IsBooting, IsDown, IsServing, NodeState, Service, extended, in_service, newest, newest_after, node_state, part, part_in, serves, service, service_in, state_after}
use Rattle.aft_model.specs.Replies.{is_silent}
use Rattle.std.proofs.lemmas.List.Sums.{fold-append}
use Rattle.aft_model.proofs.Incarnations.{known-at, part-at}
use Rattle.aft_model.proofs.Knowledge.{known_in-extended}
use Rattle.aft_model.proofs.Services.{newest-snoc, node_state-snoc, serving}
use Rattle.law_attempts.specs.Rows.{rows_after}
use Rattle.law_attempts.proofs.Attempts.{attempts_more, part_more, rows_more}
use Rattle.aft_ledger.specs.declared.stage.Stage.{Stage}
use Rattle.aft_ledger.specs.Ledger.{FrontsWithin, Held, IsLedger, ended_by, stage_of, table_of}
use Rattle.aft_txn.specs.Rows.{Table}

-- ---- histories with one more entry

each_after-from : {A : Type 0} (rule : List A → A → Bool) (before xs : List A) (x : A) → IsTrue (each_after rule before xs) → IsTrue (rule (before ++ xs) x) → IsTrue (each_after rule before (xs ++ x ∷ []))
each_after-from rule before [] x passed last = and_from _ _ (subst (λ h. IsTrue (rule h x)) (append-nil before) last) refl
each_after-from rule before (y ∷ ys) x passed last =
    let parts = and_parts (rule before y) (each_after rule (before ++ y ∷ []) ys) passed in
    and_from _ _ parts.0 (each_after-from rule (before ++ y ∷ []) ys x parts.1 (subst (λ h. IsTrue (rule h x)) (sym (append_assoc before (y ∷ []) ys)) last))

pub raised : (history : List NodeEntry) (most more : ℕ) → most ≤ more → FrontsWithin most history → FrontsWithin more history
raised [] most more below within = refl
raised (e ∷ history) most more below within =
    let parts = and_parts (nat_le e.front most) (list_all (λ (x : NodeEntry). nat_le x.front most) history) within in
    and_from _ _ (grind (arith, below, parts.0)) (raised history most more below parts.1)

within-more : (history : List NodeEntry) (most : ℕ) (e : NodeEntry) → FrontsWithin most history → IsTrue (nat_le e.front most) → FrontsWithin most (history ++ e ∷ [])
within-more [] most e within last = and_from _ _ last refl
within-more (x ∷ history) most e within last =
    let parts = and_parts (nat_le x.front most) (list_all (λ (y : NodeEntry). nat_le y.front most) history) within in
    and_from _ _ parts.0 (within-more history most e parts.1 last)

front_within : (history : List NodeEntry) (most before : ℕ) → before ≤ most → FrontsWithin most history → fold (λ (b : ℕ) (e : NodeEntry). e.front) before history ≤ most
front_within [] most before below within = below
front_within (e ∷ history) most before below within =
    let parts = and_parts (nat_le e.front most) (list_all (λ (x : NodeEntry). nat_le x.front most) history) within in
    front_within history most e.front (grind (arith, parts.0)) parts.1

-- what passes a test of the service is allowed
pub in_now : (test : Service → Bool) (history : List NodeEntry) (inc : ℕ) → IsTrue (serves inc (node_state history))
    → ((s : Service) → node_state history ≡ IsServing s → s.inc ≡ inc → part history ≡ s.part → IsTrue (test s)) → IsTrue (in_service test (service history))
in_now test history inc serve passes =
    let at = serving inc (node_state history) serve in
    subst (λ (state : NodeState). IsTrue (in_service test (service_in state))) (sym at.1) (passes at.0 at.1 at.2 (part-at history at.0 at.1))

-- ---- ledgers with one more entry

-- how many attempts were begun after an act
abbrev pub begun_after : NodeAct → ℕ → ℕ
begun_after (Admit a uuid) begun = begun + 1
begun_after act begun = begun

begun_is : (xs : List Attempt) (act : NodeAct) → begun_after act (length xs) ≡ length (xs ++ admitted_by act)
begun_is xs (Admit a uuid) = let e = length-append xs (a ∷ []) in omega arith
begun_is xs act = ap length (sym (append-nil xs))

-- the entry that a turn adds
abbrev pub next_entry : Held → ℕ → By → NodeAct → Option Reply → NodeEntry
next_entry h handed by act answer = record { front = max h.front handed; by = by; act = act; answer = answer }

-- a ledger after an entry that leaves the node in its service
abbrev pub with_entry : Held → ℕ → By → NodeAct → Option Reply → ℕ → Held
with_entry h handed by act answer space = record {
  number = h.number;
  capacity = h.capacity;
  history = h.history ++ record { front = max h.front handed; by = by; act = act; answer = answer } ∷ [];
  front = max h.front handed;
  room = if is_silent answer then h.room else h.room - 1;
  stage = h.stage;
  newest = h.newest;
  commits = known_after h.commits act;
  table = record { begun = begun_after act h.table.begun; rows = rows_after act h.table.rows };
  kept = cache_after h.capacity h.kept act answer;
  fresh = unannounced_after h.fresh act;
  space = space;
}

module _ (h : Held) (l : IsLedger h) (handed : ℕ) (by : By) (act : NodeAct) (answer : Option Reply)
    (may : IsTrue (may_be_done h.number h.capacity h.history act answer)) (own : IsTrue (is_own_end (part h.history) by act answer)) where
  abbrev pub entry : NodeEntry
  entry = record { front = max h.front handed; by = by; act = act; answer = answer }

  abbrev longer : List NodeEntry
  longer = h.history ++ entry ∷ []

  pub legal_more : LegalNode h.number h.capacity longer
  legal_more =
      let below = front_within h.history h.front 0 (omega arith) l.fronts in
      let order : IsTrue (nat_le (front h.history) (max h.front handed)) = grind (arith, below) in
      each_after-from (may_follow_at h.number h.capacity) [] h.history entry l.legal (and_from _ _ (and_from _ _ order may) own)

  pub fronts_more : FrontsWithin (max h.front handed) longer
  fronts_more = within-more h.history (max h.front handed) entry (raised h.history h.front (max h.front handed) (omega arith) l.fronts) (grind arith)

  long : length longer ≡ length h.history + 1
  long = let e = length-append h.history (entry ∷ []) in omega arith

  -- with all else as it follows
  pub more : (room : ℕ) (stage : Stage) (last : ℕ) (commits : List Commit) (table : Table) (kept : List Kept) (fresh : List Commit) (space : ℕ)
      → stage ≡ stage_of (node_state longer) → last ≡ newest longer → commits ≡ known longer → table ≡ table_of longer → kept ≡ cache h.capacity (part longer) → fresh ≡ unannounced (part longer)
      → length h.history + 1 + room ≤ space → last + room ≤ 2 ^ 31 + ended_by stage
      → IsLedger (record { number = h.number; capacity = h.capacity; history = longer; front = max h.front handed; room = room; stage = stage; newest = last; commits = commits; table = table; kept = kept; fresh = fresh; space = space })
  more room stage last commits table kept fresh space staged incs knows tabled keeps told fits few = record {
    legal = legal_more;
    fronts = fronts_more;
    staged = staged;
    incs = incs;
    knows = knows;
    tabled = tabled;
    keeps = keeps;
    told = told;
    fits = omega (arith, long, fits);
    few = few;
  }

  -- in a service, by an act that leaves the node in it
  module _ (inc : ℕ) (serve : IsTrue (serves inc (node_state h.history))) (on : (s : Service) (e : NodeEntry) → state_after (IsServing s) e act ≡ IsServing (extended s e)) (same : (n : ℕ) → newest_after n act ≡ n)
      (space : ℕ) (fits : length h.history + 1 + (if is_silent answer then h.room else h.room - 1) ≤ space) where
    at : (s : Service) × (node_state h.history ≡ IsServing s) × (s.inc ≡ inc)
    at = serving inc (node_state h.history) serve

    on_to : node_state longer ≡ IsServing (extended at.0 entry)
    on_to = node_state-snoc h.history entry ∙ (ap (λ (state : NodeState). state_after state entry act) at.1 ∙ on at.0 entry)

    still : IsTrue (serves inc (node_state longer))
    still = subst (λ (state : NodeState). IsTrue (serves inc state)) (sym on_to) (subst (λ (state : NodeState). IsTrue (serves inc state)) at.1 serve)

    part_on : part longer ≡ part h.history ++ entry ∷ []
    part_on = part_more h.number h.capacity inc h.history entry legal_more serve still

    pub goes : IsLedger (with_entry h handed by act answer space)
    goes =
        more (if is_silent answer then h.room else h.room - 1) h.stage h.newest (known_after h.commits act) (record { begun = begun_after act h.table.begun; rows = rows_after act h.table.rows }) (cache_after h.capacity h.kept act answer) (unannounced_after h.fresh act) space
        (l.staged ∙ (ap stage_of at.1 ∙ sym (ap stage_of on_to)))
        (l.incs ∙ sym (newest-snoc h.history entry ∙ same (newest h.history)))
        (ap (λ (k : List Commit). known_after k act) l.knows ∙ sym (known-at longer (extended at.0 entry) on_to ∙ (known_in-extended at.0 entry ∙ ap (λ (k : List Commit). known_after k act) (sym (known-at h.history at.0 at.1)))))
        (ap (λ (t : Table). let u : Table = record { begun = begun_after act t.begun; rows = rows_after act t.rows } in u) l.tabled
        ∙ (ap (λ n. let u : Table = record { begun = n; rows = rows_after act (rows (part h.history)) } in u) (begun_is (attempts (part h.history)) act ∙ sym (ap length (attempts_more h.number h.capacity inc h.history entry legal_more serve still)))
        ∙ ap (λ rs. let u : Table = record { begun = length (attempts (part longer)); rows = rs } in u) (sym (rows_more h.number h.capacity inc h.history entry legal_more serve still))))
        (ap (λ (k : List Kept). cache_after h.capacity k act answer) l.keeps ∙ sym (ap (cache h.capacity) part_on ∙ fold-append (λ (before : List Kept) (e : NodeEntry). cache_after h.capacity before e.act e.answer) [] (part h.history) (entry ∷ [])))
        (ap (λ (k : List Commit). unannounced_after k act) l.told ∙ sym (ap unannounced part_on ∙ fold-append (λ (before : List Commit) (e : NodeEntry). unannounced_after before e.act) [] (part h.history) (entry ∷ [])))
        fits (less (is_silent answer))
      where
        less : (t : Bool) → h.newest + (if t then h.room else h.room - 1) ≤ 2 ^ 31 + ended_by h.stage
        less true = l.few
        less false = omega (arith, l.few)

  -- where the service stays as it is, and that is none
  pub rests : (room : ℕ) (stage : Stage) (last space : ℕ) → service longer ≡ service h.history → stage ≡ stage_of (node_state longer) → last ≡ newest longer
      → length h.history + 1 + room ≤ space → last + room ≤ 2 ^ 31 + ended_by stage
      → IsLedger (record { number = h.number; capacity = h.capacity; history = longer; front = max h.front handed; room = room; stage = stage; newest = last; commits = h.commits; table = h.table; kept = h.kept; fresh = h.fresh; space = space })
  rests room stage last space same staged incs fits few =
      more room stage last h.commits h.table h.kept h.fresh space staged incs
      (l.knows ∙ sym (ap known_of same))
      (l.tabled ∙ sym (ap (λ (o : Option Service). let t : Table = record { begun = length (attempts (part_in o)); rows = rows (part_in o) } in t) same))
      (l.keeps ∙ sym (ap (λ (o : Option Service). cache h.capacity (part_in o)) same))
      (l.told ∙ sym (ap (λ (o : Option Service). unannounced (part_in o)) same))
      fits few

  -- where the part of the service is empty behind it
  pub afresh : (room : ℕ) (stage : Stage) (last space : ℕ) (after : NodeState) → state_after (node_state h.history) entry act ≡ after → part_in (service_in after) ≡ [] → stage ≡ stage_of after → last ≡ newest longer
      → length h.history + 1 + room ≤ space → last + room ≤ 2 ^ 31 + ended_by stage
      → IsLedger (record { number = h.number; capacity = h.capacity; history = longer; front = max h.front handed; room = room; stage = stage; newest = last; commits = known_of (service_in after); table = record { begun = 0; rows = [] }; kept = []; fresh = []; space = space })
  afresh room stage last space after is empty staged incs fits few =
      let to : node_state longer ≡ after = node_state-snoc h.history entry ∙ is in
      let of : part longer ≡ [] = ap (λ (state : NodeState). part_in (service_in state)) to ∙ empty in
      more room stage last (known_of (service_in after)) (record { begun = 0; rows = [] }) [] [] space
      (staged ∙ sym (ap stage_of to)) incs
      (sym (ap (λ (state : NodeState). known_of (service_in state)) to))
      (sym (ap (λ (p : List NodeEntry). let t : Table = record { begun = length (attempts p); rows = rows p } in t) of))
      (sym (ap (cache h.capacity) of))
      (sym (ap unannounced of))
      fits few

-- a ledger that a greater front was handed to
pub raise_front : (h : Held) → IsLedger h → (to : ℕ) → h.front ≤ to → IsLedger (record h { front = to })
raise_front h l to above = record {
  legal = l.legal;
  fronts = raised h.history h.front to above l.fronts;
  staged = l.staged;
  incs = l.incs;
  knows = l.knows;
  tabled = l.tabled;
  keeps = l.keeps;
  told = l.told;
  fits = l.fits;
  few = l.few;
}

-- a ledger with more space
pub widen : (h : Held) → IsLedger h → (space : ℕ) → length h.history + h.room ≤ space → IsLedger (record h { space = space })
widen h l space fits = record {
  legal = l.legal;
  fronts = l.fronts;
  staged = l.staged;
  incs = l.incs;
  knows = l.knows;
  tabled = l.tabled;
  keeps = l.keeps;
  told = l.told;
  fits = fits;
  few = l.few;
}

-- a ledger that answers, and does nothing else
pub answers : (h : Held) (l : IsLedger h) (handed : ℕ) (by : By) (reply : Reply) (space : ℕ) → IsTrue (may_answer_alone (Some reply)) → length h.history + 1 + (h.room - 1) ≤ space
    → IsLedger (with_entry h handed by Nothing (Some reply) space)
answers h l handed by reply space may fits = cases (node_state h.history) refl
  where
    still : (state : NodeState) → node_state h.history ≡ state → state_after state (next_entry h handed by Nothing (Some reply)) Nothing ≡ state → service_in state ≡ None → IsLedger (with_entry h handed by Nothing (Some reply) space)
    still state is rest none =
        let e = next_entry h handed by Nothing (Some reply) in
        let to : node_state (h.history ++ e ∷ []) ≡ node_state h.history = node_state-snoc h.history e ∙ (ap (λ (st : NodeState). state_after st e Nothing) is ∙ (rest ∙ sym is)) in
        rests h l handed by Nothing (Some reply) may refl (h.room - 1) h.stage h.newest space
        (ap service_in to) (l.staged ∙ sym (ap stage_of to)) (l.incs ∙ sym (newest-snoc h.history e)) fits (omega (arith, l.few))

    cases : (state : NodeState) → node_state h.history ≡ state → IsLedger (with_entry h handed by Nothing (Some reply) space)
    cases IsDown is = still IsDown is refl refl
    cases (IsBooting inc running) is = still (IsBooting inc running) is refl refl
    cases (IsServing s) is = goes h l handed by Nothing (Some reply) may refl s.inc (subst (λ (st : NodeState). IsTrue (serves s.inc st)) (sym is) (eq-eqb s.inc s.inc refl)) (λ t x. refl) (λ n. refl) space fits
