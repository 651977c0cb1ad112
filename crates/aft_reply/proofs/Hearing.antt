-- How what was heard grows, and what is printed of it.
use Rattle.std.proofs.Common.{Bool, List, None, Option, Some, [], ap, append_assoc, arith, cond, eqb, false, get_or, length, refl, sym, take, true, ℕ, ◌+◌, ◌<◌, ◌++◌, ◌==◌, ◌≡◌, ◌∙◌, ◌∷◌}
use Rattle.std.specs.List.{cons_option, filter_map, flat_map}
use Rattle.std.specs.Option.{is_some, option_to_list}
use Rattle.std.proofs.lemmas.Bool.{and_parts, eqb-true}
use Rattle.std.proofs.lemmas.Bool.Decides.{nat_tests}
use Rattle.std.proofs.lemmas.Grind.{flat_map-append}
use Rattle.std.proofs.lemmas.List.{append-nil, take_more}
use Rattle.std.proofs.lemmas.List.Elements.{filter_map-append}
use Rattle.aft_lines.specs.Asked.{Asked, Ran}
use Rattle.aft_lines.specs.FinishedText.{answer_to, line_of, printed, printed_line, the_one}
use Rattle.aft_model.specs.declared.node.NodeEntry.{NodeEntry}
use Rattle.aft_model.specs.declared.office.OfficeEntry.{OfficeEntry}
use Rattle.aft_model.specs.declared.script.Script.{Script}
use Rattle.aft_model.specs.declared.trace.Trace.{Trace}
use Rattle.aft_model.specs.declared.caller.By.{By}
use Rattle.aft_model.specs.declared.reply.Reply.{Reply}
use Rattle.aft_model.specs.declared.script.Line.{Line}
use Rattle.aft_model.specs.ScanRun.{same_line}
use Rattle.aft_reply.specs.Heard.{Answers, Heard, asker_of, node_answers, office_answers, only, same_asker, shown, tally, with_reply}
use Rattle.aft_reply.specs.declared.finished.Asker.{Asker}
use Rattle.aft_reply.specs.declared.finished.Seen.{Seen}
use Rattle.aft_reply.specs.declared.finished.Seen.TheVariants.{Often, Once}

pub heard-same : (seen : Asker → Option Seen) (f g : Answers) → ((line : By) → f line ≡ g line) → Heard seen f → Heard seen g
heard-same seen f g same heard line = heard line ∙ ap tally (same line)

tally-more : (before : List Reply) (reply : Reply) (seen : Option Seen) → shown seen ≡ tally before → tally (before ++ reply ∷ []) ≡ cond (is_some seen) (Some None) (Some (Some reply))
tally-more [] reply None same = refl
tally-more [] reply (Some (Once r)) same = cc
tally-more [] reply (Some Often) same = cc
tally-more (x ∷ []) reply None same = cc
tally-more (x ∷ []) reply (Some s) same = refl
tally-more (x ∷ y ∷ rest) reply None same = cc
tally-more (x ∷ y ∷ rest) reply (Some s) same = refl

one_asker : (a b : Asker) → same_asker a b ≡ true → a ≡ b
one_asker a b same =
    let parts = and_parts (a.client == b.client) (a.line == b.line) same in
    let make : ℕ → ℕ → Asker = λ c l. record { client = c; line = l } in
    ap (λ c. make c a.line) (eqb-true a.client b.client parts.0) ∙ ap (λ l. make b.client l) (eqb-true a.line b.line parts.1)

-- a reply that is heard
pub heard-reply : (old new : Asker → Option Seen) (before : Answers) (asker : Asker) (reply : Reply) (seen : Seen) → Heard old before
    → ((q : Asker) → new q ≡ cond (same_asker asker q) (Some seen) (old q)) → shown (Some seen) ≡ cond (is_some (old asker)) (Some None) (Some (Some reply))
    → Heard new (with_reply before asker reply)
heard-reply old new before asker reply seen heard updates now line = either (same_asker asker (asker_of line)) refl
  where
    either : (b : Bool) → same_asker asker (asker_of line) ≡ b → shown (new (asker_of line)) ≡ tally (with_reply before asker reply line)
    either true test =
        let here : new (asker_of line) ≡ Some seen = updates (asker_of line) ∙ rw test refl in
        let one : asker ≡ asker_of line = one_asker asker (asker_of line) test in
        ap shown here ∙ now ∙ ap (λ a. cond (is_some (old a)) (Some None) (Some (Some reply))) one ∙ sym (tally-more (before line) reply (old (asker_of line)) (heard line)) ∙ rw test refl
    either false test =
        let here : new (asker_of line) ≡ old (asker_of line) = updates (asker_of line) ∙ rw test refl in
        ap shown here ∙ heard line ∙ rw test refl

turned : (a b : ℕ) (ab ba : Bool) → (a == b) ≡ ab → (b == a) ≡ ba → ab ≡ ba
turned a b true true is turned_is = refl
turned a b true false is turned_is = let same : a ≡ b = grind (arith, nat_tests) in let other : (b == a) ≡ true = grind (arith, nat_tests) in sym other ∙ turned_is
turned a b false true is turned_is = let same : b ≡ a = grind (arith, nat_tests) in let other : (a == b) ≡ true = grind (arith, nat_tests) in sym is ∙ other
turned a b false false is turned_is = refl

eqb-symm : (a b : ℕ) → eqb a b ≡ eqb b a
eqb-symm a b = turned a b (a == b) (b == a) refl refl

-- the reply of an entry
pub with_reply-entry : (before : Answers) (by : By) (reply : Reply) (line : By) → with_reply before (asker_of by) reply line ≡ before line ++ option_to_list (answer_to line by (Some reply))
with_reply-entry before by reply line = rw (eqb-symm by.client line.client, eqb-symm by.line line.line) (either (same_line line by))
  where
    either : (b : Bool) → (cond b (before line ++ reply ∷ []) (before line)) ≡ before line ++ option_to_list (cond b (Some reply) None)
    either true = refl
    either false = sym (append-nil (before line))

-- an entry without an answer
pub without_reply-entry : (before : Answers) (by line : By) → before line ≡ before line ++ option_to_list (answer_to line by None)
without_reply-entry before by line = either (same_line line by)
  where
    either : (b : Bool) → before line ≡ before line ++ option_to_list (cond {A = Option Reply} b None None)
    either true = sym (append-nil (before line))
    either false = sym (append-nil (before line))

only-one : (seen : Option Seen) (replies : List Reply) → shown seen ≡ tally replies → only seen ≡ the_one replies
only-one None [] same = refl
only-one None (r ∷ []) same = cc
only-one None (r ∷ next ∷ rest) same = cc
only-one (Some (Once s)) [] same = cc
only-one (Some (Once s)) (r ∷ []) same = cc
only-one (Some (Once s)) (r ∷ next ∷ rest) same = cc
only-one (Some Often) [] same = cc
only-one (Some Often) (r ∷ []) same = cc
only-one (Some Often) (r ∷ next ∷ rest) same = refl

-- what is printed of what was heard
pub printed-heard : (seen : Asker → Option Seen) (heard : Answers) (lines : List Line) → Heard seen heard
    → flat_map (λ line. printed_line line (only (seen (asker_of (line_of line))))) lines ≡ flat_map (λ line. printed_line line (the_one (heard (line_of line)))) lines
printed-heard seen heard [] same = refl
printed-heard seen heard (line ∷ lines) same =
    rw (only-one (seen (asker_of (line_of line))) (heard (line_of line)) (same (line_of line)), printed-heard seen heard lines same) refl

more_pieces : {X : Type 0} (pieces : X → List Reply) (before : List Reply) (xs : List X) (i : ℕ) (x : X) → i < length xs → x ≡ get_or xs i x
    → (before ++ flat_map pieces (take i xs)) ++ pieces x ≡ before ++ flat_map pieces (take (i + 1) xs)
more_pieces pieces before xs i x within at =
    let next : take (i + 1) xs ≡ take i xs ++ x ∷ [] = take_more xs i x within ∙ ap (λ y. take i xs ++ y ∷ []) (sym at) in
    append_assoc before (flat_map pieces (take i xs)) (pieces x)
    ∙ ap (λ ys. before ++ ys) (ap (λ ys. flat_map pieces (take i xs) ++ ys) (sym (append-nil (pieces x))) ∙ sym (flat_map-append pieces (take i xs) (x ∷ [])))
    ∙ ap (λ ys. before ++ flat_map pieces ys) (sym next)

-- the answers of one more list of entries
pub heard-list : {X : Type 0} (old new : Asker → Option Seen) (pieces : By → X → List Reply) (before : Answers) (xs : List X) (i : ℕ) (x : X) → i < length xs → x ≡ get_or xs i x
    → ((f : Answers) → Heard old f → Heard new (λ line. f line ++ pieces line x)) → Heard old (λ line. before line ++ flat_map (pieces line) (take i xs))
    → Heard new (λ line. before line ++ flat_map (pieces line) (take (i + 1) xs))
heard-list old new pieces before xs i x within at step heard =
    heard-same new (λ line. (before line ++ flat_map (pieces line) (take i xs)) ++ pieces line x) (λ line. before line ++ flat_map (pieces line) (take (i + 1) xs))
    (λ line. more_pieces (pieces line) (before line) xs i x within at) (step (λ line. before line ++ flat_map (pieces line) (take i xs)) heard)

one_of : {X : Type 0} (h : X → Option Reply) (x : X) → filter_map h (x ∷ []) ≡ option_to_list (h x)
one_of h x = either (h x)
  where
    either : (o : Option Reply) → cons_option o [] ≡ option_to_list o
    either None = refl
    either (Some reply) = refl

more_found : {X : Type 0} (h : X → Option Reply) (before : List Reply) (xs : List X) (i : ℕ) (x : X) → i < length xs → x ≡ get_or xs i x
    → (before ++ filter_map h (take i xs)) ++ option_to_list (h x) ≡ before ++ filter_map h (take (i + 1) xs)
more_found h before xs i x within at =
    let next : take (i + 1) xs ≡ take i xs ++ x ∷ [] = take_more xs i x within ∙ ap (λ y. take i xs ++ y ∷ []) (sym at) in
    append_assoc before (filter_map h (take i xs)) (option_to_list (h x))
    ∙ ap (λ ys. before ++ ys) (ap (λ ys. filter_map h (take i xs) ++ ys) (sym (one_of h x)) ∙ sym (filter_map-append h (take i xs) (x ∷ [])))
    ∙ ap (λ ys. before ++ filter_map h ys) (sym next)

-- the answer of one more entry
pub heard-entry : {X : Type 0} (old new : Asker → Option Seen) (h : By → X → Option Reply) (before : Answers) (xs : List X) (i : ℕ) (x : X) → i < length xs → x ≡ get_or xs i x
    → ((f : Answers) → Heard old f → Heard new (λ line. f line ++ option_to_list (h line x))) → Heard old (λ line. before line ++ filter_map (h line) (take i xs))
    → Heard new (λ line. before line ++ filter_map (h line) (take (i + 1) xs))
heard-entry old new h before xs i x within at step heard =
    heard-same new (λ line. (before line ++ filter_map (h line) (take i xs)) ++ option_to_list (h line x)) (λ line. before line ++ filter_map (h line) (take (i + 1) xs))
    (λ line. more_found (h line) (before line) xs i x within at) (step (λ line. before line ++ filter_map (h line) (take i xs)) heard)

-- what is printed of all answers of a trace
pub printed-text : (asked : Asked) (ran : Ran) (script : Script) (trace : Trace) (nodes : List (List NodeEntry)) (office : List OfficeEntry) (lines : List Line) → asked.script ≡ script → ran.trace ≡ trace
    → nodes ≡ trace.nodes → office ≡ trace.office → lines ≡ script.lines
    → flat_map (λ line. printed_line line (the_one (flat_map (node_answers (line_of line)) nodes ++ office_answers (line_of line) office))) lines ≡ printed asked ran
printed-text asked ran script trace nodes office lines is_script is_trace is_nodes is_office is_lines = rw (is_nodes, is_office, is_lines, is_script, is_trace) refl
