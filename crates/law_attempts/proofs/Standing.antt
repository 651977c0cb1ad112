-- Who the attempts of a service are: they have the next number each, one UUID, and nothing before they are admitted.
use Rattle.std.proofs.Common.{◌≡◌, ℕ, ◌<◌, ◌≤◌, ◌&&◌, not, List, [], ◌∷◌, ◌++◌, length, refl, sym, ap, subst, ◌∙◌, ◌⊎◌, inl, inr, eqb, append-nil, arith, length-append}
use Rattle.std.specs.Prelude.{IsTrue, IsFalse, Option, if◌then◌else◌, nat_lt, suc, zero}
use Rattle.std.specs.Str.{bytes_eq}
use Rattle.std.proofs.lemmas.Bool.{and_parts, and_from, eq-eqb, eqb-true, false_from_ne_true, false≢true, true≢false}
use Rattle.aft_records.specs.declared.stored.Commit.{Commit}
use Rattle.aft_model.specs.declared.caller.Attempt.{Attempt}
use Rattle.aft_model.specs.declared.node.NodeAct.{NodeAct}
use Rattle.aft_model.specs.declared.node.NodeAct.TheVariants.{Admit}
use Rattle.aft_model.specs.declared.node.NodeEntry.{NodeEntry}
use Rattle.aft_model.specs.declared.reply.Reply.{Reply}
use Rattle.aft_model.specs.Attempts.{admits, admitted_by, attempt_state, attempts, buffer, is_gone, is_of, open_reads, present, present_of, reads, same_attempt, uuid_after, uuid_of}
use Rattle.aft_model.specs.LegalNode.{may_serve}
use Rattle.aft_model.specs.NodeRules.{may_admit}
use Rattle.aft_model.specs.NodeState.{Service, extended}
use Rattle.aft_model.proofs.Histories.{In, any_found, any_from, in_append, in_back, in_front}
use Rattle.aft_model.proofs.Lists.{filter_in, in_snoc}
use Rattle.aft_model.proofs.Pins.{There, attempt_state-snoc, attempts-snoc, has_some, reads-snoc, same_attempts, there_before}
use Rattle.aft_model.proofs.Sights.{same_bytes, bytes_eq-refl}
use Rattle.law_attempts.specs.Acts.{acts_on, first_attempts, times_begun, times_started}
use Rattle.law_attempts.proofs.Acts.{acting, begun-snoc, begun_left, buffer-snoc, buffer_left, open-snoc, open_left, reads_left, started-snoc, started_left, uuid-snoc}

-- ---- the first so many attempts

module _ (node inc : ℕ) where
  abbrev numbered_as : ℕ → Attempt
  numbered_as number = record { node = node; inc = inc; number = number }

  first_with : (attempts : List Attempt) (b : Attempt) → attempts ≡ first_attempts node inc (length attempts) → b ≡ numbered_as (suc (length attempts))
      → attempts ++ b ∷ [] ≡ first_attempts node inc (length (attempts ++ b ∷ []))
  first_with attempts b are is =
      let e : length (attempts ++ b ∷ []) ≡ suc (length attempts) = omega (arith, length-append attempts (b ∷ [])) in
      subst (λ (n : ℕ). attempts ++ b ∷ [] ≡ first_attempts node inc n) (sym e)
      (ap (λ (x : Attempt). attempts ++ x ∷ []) is ∙ ap (λ (l : List Attempt). l ++ numbered_as (suc (length attempts)) ∷ []) are)

  pub first_within : (count : ℕ) (a : Attempt) → In a (first_attempts node inc count) → (a.node ≡ node) × (a.inc ≡ inc) × (a.number ≤ count)
  first_within zero a among = absurd among
  first_within (suc count) a among =
      elim (in_snoc a (first_attempts node inc count) (numbered_as (suc count)) among) [
        | inl before ↦ (let w = first_within count a before in let least : a.number ≤ count = w.2 in (w.0, w.1, omega arith))
        | inr is ↦ (ap (λ (x : Attempt). x.node) is, ap (λ (x : Attempt). x.inc) is, let n : a.number ≡ suc count = ap (λ (x : Attempt). x.number) is in omega arith)
      ]

-- ---- what an attempt is that wasn't admitted

pub record Fresh (a : Attempt) (part : List NodeEntry) : Type 0 where
  pub buffers : buffer a part ≡ []
  pub reads_none : reads a part ≡ []
  pub fetches_none : open_reads a part ≡ 0
  pub unbegun : times_begun a part ≡ 0
  pub unstarted : times_started a part ≡ 0

fresh_snoc : (a : Attempt) (part : List NodeEntry) (entry : NodeEntry) → IsFalse (acts_on a entry.act) → Fresh a part → Fresh a (part ++ entry ∷ [])
fresh_snoc a part entry other fresh = record {
  buffers = buffer-snoc a part entry ∙ buffer_left a (buffer a part) entry.act other ∙ fresh.buffers;
  reads_none = reads-snoc a part entry ∙ reads_left a (reads a part) entry.act other ∙ fresh.reads_none;
  fetches_none = open-snoc a part entry ∙ open_left a (open_reads a part) entry.act other ∙ fresh.fetches_none;
  unbegun = begun-snoc a part entry ∙ ap (λ t. if t then suc (times_begun a part) else times_begun a part) (begun_left a entry.act other) ∙ fresh.unbegun;
  unstarted = started-snoc a part entry ∙ ap (λ t. if t then suc (times_started a part) else times_started a part) (started_left a entry.act other) ∙ fresh.unstarted;
}

-- ---- who is there

pub record Standing (node : ℕ) (s : Service) : Type 0 where
  pub numbered : attempts s.part ≡ first_attempts node s.inc (length (attempts s.part))
  pub listed : (a : Attempt) → There (attempt_state a s.part) → In a (attempts s.part)
  pub fresh : (a : Attempt) → (In a (attempts s.part) → ⊥) → Fresh a s.part
  pub named : (a : Attempt) (uuid : List ℕ) → IsTrue (is_of uuid s.part a) → uuid_of a s.part ≡ uuid
  pub has_name : (a : Attempt) → In a (attempts s.part) → IsTrue (is_of (uuid_of a s.part) s.part a)
  pub alone : (a b : Attempt) → There (attempt_state a s.part) → There (attempt_state b s.part) → uuid_of a s.part ≡ uuid_of b s.part → a ≡ b

pub standing_at_first : (node inc : ℕ) (booted : List Commit) → Standing node (record { inc = inc; booted = booted; part = [] })
standing_at_first node inc booted = record {
  numbered = refl;
  listed = λ a there. absurd (true≢false there);
  fresh = λ a out. record { buffers = refl; reads_none = refl; fetches_none = refl; unbegun = refl; unstarted = refl };
  named = λ a uuid is. absurd (false≢true is);
  has_name = λ a among. absurd among;
  alone = λ a b there also same. absurd (true≢false there);
}

-- an attempt that is of a UUID was admitted
of_admitted : (a : Attempt) (uuid : List ℕ) (act : NodeAct) → IsTrue (admits a uuid act) → In a (admitted_by act)
of_admitted a uuid (Admit b admitted) is = inl (same_attempts a b (and_parts (same_attempt a b) (bytes_eq uuid admitted) is).0)
of_admitted a uuid act is = absurd (false≢true is)

in_attempts : (a : Attempt) (part : List NodeEntry) (e : NodeEntry) → In e part → In a (admitted_by e.act) → In a (attempts part)
in_attempts a [] e among of = absurd among
in_attempts a (x ∷ part) e (inl is) of = in_front a (admitted_by x.act) (attempts part) (subst (λ (y : NodeEntry). In a (admitted_by y.act)) is of)
in_attempts a (x ∷ part) e (inr later) of = in_back a (admitted_by x.act) (attempts part) (in_attempts a part e later of)

of_listed : (a : Attempt) (uuid : List ℕ) (part : List NodeEntry) → IsTrue (is_of uuid part a) → In a (attempts part)
of_listed a uuid part is =
    let found = any_found (λ (e : NodeEntry). admits a uuid e.act) part is in
    in_attempts a part found.0 found.1 (of_admitted a uuid found.0.act found.2)

-- the UUID of an attempt that an act doesn't admit, and of one that it does
pub uuid_kept : (a : Attempt) (before : List ℕ) (act : NodeAct) → (In a (admitted_by act) → ⊥) → uuid_after a before act ≡ before
uuid_kept a before (Admit b uuid) out = ap (λ t. if t then uuid else before) (false_from_ne_true (same_attempt a b) (λ same. out (inl (same_attempts a b same))))
uuid_kept a before act out = refl

uuid_new : (a : Attempt) (uuid before : List ℕ) (act : NodeAct) → IsTrue (admits a uuid act) → uuid_after a before act ≡ uuid
uuid_new a uuid before (Admit b admitted) is =
    let parts = and_parts (same_attempt a b) (bytes_eq uuid admitted) is in
    ap (λ t. if t then admitted else before) parts.0 ∙ sym (same_bytes uuid admitted parts.1)
uuid_new a uuid before act is = absurd (false≢true is)

pub same_itself : (a : Attempt) → IsTrue (same_attempt a a)
same_itself a = and_from _ _ (and_from _ _ (eq-eqb a.node a.node refl) (eq-eqb a.inc a.inc refl)) (eq-eqb a.number a.number refl)

-- an attempt that an act admits is of the UUID that it has behind it
named_new : (a : Attempt) (before : List ℕ) (act : NodeAct) → In a (admitted_by act) → IsTrue (admits a (uuid_after a before act) act)
named_new a before (Admit b uuid) (inl is) =
    let same : IsTrue (same_attempt a b) = subst (λ (x : Attempt). IsTrue (same_attempt a x)) is (same_itself a) in
    subst (λ (u : List ℕ). IsTrue (same_attempt a b && bytes_eq u uuid)) (sym (ap (λ t. if t then uuid else before) same)) (and_from _ _ same (bytes_eq-refl uuid))
named_new a before (Admit b uuid) (inr nowhere) = absurd nowhere
named_new a before act among = absurd among

one_new : (a b : Attempt) (act : NodeAct) → In a (admitted_by act) → In b (admitted_by act) → a ≡ b
one_new a b (Admit c uuid) (inl is) (inl was) = is ∙ sym was
one_new a b (Admit c uuid) (inl is) (inr nowhere) = absurd nowhere
one_new a b (Admit c uuid) (inr nowhere) other = absurd nowhere
one_new a b act among other = absurd among

-- an attempt that is admitted is the next one, and none of its UUID is there
pub admitted_next : (node capacity : ℕ) (s : Service) (act : NodeAct) (answer : Option Reply) (a : Attempt) → IsTrue (may_serve node capacity act answer s) → In a (admitted_by act)
    → (a ≡ record { node = node; inc = s.inc; number = suc (length (attempts s.part)) }) × ((before : List ℕ) → length (present_of (uuid_after a before act) s.part) ≡ 0)
admitted_next node capacity s (Admit b uuid) answer a rule (inl is) =
    let all = (and_parts (may_admit node s b uuid) _ rule).0 in
    let alone = and_parts (eqb b.node node && eqb b.inc s.inc && eqb b.number (suc (length (attempts s.part)))) (eqb (length (present_of uuid s.part)) 0) all in
    let number = and_parts (eqb b.node node && eqb b.inc s.inc) (eqb b.number (suc (length (attempts s.part)))) alone.0 in
    let of = and_parts (eqb b.node node) (eqb b.inc s.inc) number.0 in
    let attempt : ℕ → ℕ → ℕ → Attempt = λ n i k. record { node = n; inc = i; number = k } in
    let same : IsTrue (same_attempt a b) = subst (λ (x : Attempt). IsTrue (same_attempt a x)) is (same_itself a) in (
      is ∙ (ap (λ n. attempt n b.inc b.number) (eqb-true b.node node of.0) ∙ (ap (λ i. attempt node i b.number) (eqb-true b.inc s.inc of.1) ∙ ap (λ k. attempt node s.inc k) (eqb-true b.number (suc (length (attempts s.part))) number.1))),
      λ before. ap (λ t. length (present_of (if t then uuid else before) s.part)) same ∙ eqb-true (length (present_of uuid s.part)) 0 alone.1,
    )
admitted_next node capacity s (Admit b uuid) answer a rule (inr nowhere) = absurd nowhere
admitted_next node capacity s act answer a rule among = absurd among

module _ (node capacity : ℕ) (s : Service) (entry : NodeEntry) (rule : IsTrue (may_serve node capacity entry.act entry.answer s)) (before : Standing node s) where
  abbrev after : List NodeEntry
  after = s.part ++ entry ∷ []

  old_in : (a : Attempt) → In a (attempts s.part) → In a (attempts after)
  old_in a among = subst (In a) (sym (attempts-snoc s.part entry)) (in_front a (attempts s.part) (admitted_by entry.act) among)

  new_in : (a : Attempt) → In a (admitted_by entry.act) → In a (attempts after)
  new_in a among = subst (In a) (sym (attempts-snoc s.part entry)) (in_back a (attempts s.part) (admitted_by entry.act) among)

  in_cases : (a : Attempt) → In a (attempts after) → In a (attempts s.part) ⊎ In a (admitted_by entry.act)
  in_cases a among = in_append a (attempts s.part) (admitted_by entry.act) (subst (In a) (attempts-snoc s.part entry) among)

  -- an attempt that was admitted isn't admitted again
  pub not_again : (a : Attempt) → In a (attempts s.part) → In a (admitted_by entry.act) → ⊥
  not_again a was new =
      let within = first_within node s.inc (length (attempts s.part)) a (subst (In a) before.numbered was) in
      let least : a.number ≤ length (attempts s.part) = within.2 in
      let number : a.number ≡ suc (length (attempts s.part)) = ap (λ (x : Attempt). x.number) (admitted_next node capacity s entry.act entry.answer a rule new).0 in
      omega arith

  numbered_snoc : attempts after ≡ first_attempts node s.inc (length (attempts after))
  numbered_snoc =
      subst (λ (l : List Attempt). l ≡ first_attempts node s.inc (length l)) (sym (attempts-snoc s.part entry))
      (cases (admitted_by entry.act) (λ a new. (admitted_next node capacity s entry.act entry.answer a rule new).0) (one_of entry.act))
    where
      AtMostOne : List Attempt → Type 0
      AtMostOne l = (l ≡ []) ⊎ ((b : Attempt) × (l ≡ b ∷ []))

      one_of : (act : NodeAct) → AtMostOne (admitted_by act)
      one_of (Admit b uuid) = inr (b, refl)
      one_of act = inl refl

      cases : (l : List Attempt) → ((a : Attempt) → In a l → a ≡ record { node = node; inc = s.inc; number = suc (length (attempts s.part)) }) → AtMostOne l
          → attempts s.part ++ l ≡ first_attempts node s.inc (length (attempts s.part ++ l))
      cases l next (inl none) =
          subst (λ (l' : List Attempt). l' ≡ first_attempts node s.inc (length l')) (sym (ap (λ (m : List Attempt). attempts s.part ++ m) none ∙ append-nil (attempts s.part))) before.numbered
      cases l next (inr (b, one)) =
          subst (λ (m : List Attempt). attempts s.part ++ m ≡ first_attempts node s.inc (length (attempts s.part ++ m))) (sym one)
          (first_with node s.inc (attempts s.part) b before.numbered (next b (subst (In b) (sym one) (inl refl))))

  listed_snoc : (a : Attempt) → There (attempt_state a after) → In a (attempts after)
  listed_snoc a there =
      elim (there_before node capacity s entry.act entry.answer a rule (subst There (attempt_state-snoc a s.part entry) there)) [
        | inl was ↦ old_in a (before.listed a was)
        | inr new ↦ new_in a new
      ]

  fresh_after : (a : Attempt) → (In a (attempts after) → ⊥) → Fresh a after
  fresh_after a out =
      let was : Fresh a s.part = before.fresh a (λ among. out (old_in a among)) in
      fresh_snoc a s.part entry (false_from_ne_true (acts_on a entry.act) (λ acts.
      elim (acting node capacity s a entry.act entry.answer rule acts) [
        | inl there ↦ out (old_in a (before.listed a there))
        | inr rest ↦ elim rest [
          | inl new ↦ out (new_in a new)
          | inr some ↦ false≢true (sym (ap (λ n. nat_lt 0 n) was.fetches_none) ∙ some)
        ]
      ])) was

  uuid_stays : (a : Attempt) → In a (attempts s.part) → uuid_of a after ≡ uuid_of a s.part
  uuid_stays a was = uuid-snoc a s.part entry ∙ uuid_kept a (uuid_of a s.part) entry.act (not_again a was)

  named_snoc : (a : Attempt) (uuid : List ℕ) → IsTrue (is_of uuid after a) → uuid_of a after ≡ uuid
  named_snoc a uuid is =
      let found = any_found (λ (e : NodeEntry). admits a uuid e.act) after is in
      elim (in_snoc found.0 s.part entry found.1) [
        | inl was ↦ (let of = any_from (λ (e : NodeEntry). admits a uuid e.act) found.0 s.part was found.2 in
            uuid_stays a (of_listed a uuid s.part of) ∙ before.named a uuid of)
        | inr last ↦ uuid-snoc a s.part entry ∙ uuid_new a uuid (uuid_of a s.part) entry.act (subst (λ (e : NodeEntry). IsTrue (admits a uuid e.act)) last found.2)
      ]

  has_name_snoc : (a : Attempt) → In a (attempts after) → IsTrue (is_of (uuid_of a after) after a)
  has_name_snoc a among =
      elim (in_cases a among) [
        | inl was ↦ (let found = any_found (λ (e : NodeEntry). admits a (uuid_of a s.part) e.act) s.part (before.has_name a was) in
            subst (λ (u : List ℕ). IsTrue (is_of u after a)) (sym (uuid_stays a was))
            (any_from (λ (e : NodeEntry). admits a (uuid_of a s.part) e.act) found.0 after (in_front found.0 s.part (entry ∷ []) found.1) found.2))
        | inr new ↦ subst (λ (u : List ℕ). IsTrue (is_of u after a)) (sym (uuid-snoc a s.part entry))
            (any_from (λ (e : NodeEntry). admits a (uuid_after a (uuid_of a s.part) entry.act) e.act) entry after (in_back entry s.part (entry ∷ []) (inl refl)) (named_new a (uuid_of a s.part) entry.act new))
      ]

  -- of two attempts that are there, one that was and one that is admitted, the UUIDs differ
  clash : (a b : Attempt) → There (attempt_state a s.part) → In b (admitted_by entry.act) → uuid_of a after ≡ uuid_of b after → ⊥
  clash a b was new same =
      let listed = before.listed a was in
      let its : uuid_of a s.part ≡ uuid_after b (uuid_of b s.part) entry.act = sym (uuid_stays a listed) ∙ same ∙ uuid-snoc b s.part entry in
      let among : In a (present s.part) = filter_in (λ (x : Attempt). not (is_gone (attempt_state x s.part))) a (attempts s.part) listed (ap not was) in
      let held : In a (present_of (uuid_of a s.part) s.part) = filter_in (is_of (uuid_of a s.part) s.part) a (present s.part) among (before.has_name a listed) in
      let some : 0 < length (present_of (uuid_of a s.part) s.part) = has_some a (present_of (uuid_of a s.part) s.part) held in
      let none : length (present_of (uuid_of a s.part) s.part) ≡ 0 = ap (λ (u : List ℕ). length (present_of u s.part)) its ∙ (admitted_next node capacity s entry.act entry.answer b rule new).1 (uuid_of b s.part) in
      omega arith

  alone_snoc : (a b : Attempt) → There (attempt_state a after) → There (attempt_state b after) → uuid_of a after ≡ uuid_of b after → a ≡ b
  alone_snoc a b of_a of_b same =
      cases (there_before node capacity s entry.act entry.answer a rule (subst There (attempt_state-snoc a s.part entry) of_a))
      (there_before node capacity s entry.act entry.answer b rule (subst There (attempt_state-snoc b s.part entry) of_b))
    where
      cases : There (attempt_state a s.part) ⊎ In a (admitted_by entry.act) → There (attempt_state b s.part) ⊎ In b (admitted_by entry.act) → a ≡ b
      cases (inl was) (inl were) = before.alone a b was were (sym (uuid_stays a (before.listed a was)) ∙ same ∙ uuid_stays b (before.listed b were))
      cases (inl was) (inr new) = absurd (clash a b was new same)
      cases (inr new) (inl were) = absurd (clash b a were new (sym same))
      cases (inr new) (inr other) = one_new a b entry.act new other

  pub standing_extended : Standing node (extended s entry)
  standing_extended = record {
    numbered = numbered_snoc;
    listed = listed_snoc;
    fresh = fresh_after;
    named = named_snoc;
    has_name = has_name_snoc;
    alone = alone_snoc;
  }
