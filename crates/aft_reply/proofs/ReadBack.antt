-- Each reply is read again from its text.
use Rattle.std.proofs.Common.{All, Err, List, Ok, Result, [], ap, arith, refl, sym, true, ℕ, ◌&&◌, ◌++◌, ◌<◌, ◌^◌, ◌≡◌, ◌∙◌, ◌∷◌}
use Rattle.std.specs.Fmt.{decimal}
use Rattle.std.specs.List.{flat_map, list_all}
use Rattle.std.proofs.lemmas.Bool.{and_parts}
use Rattle.std.proofs.lemmas.List.Elements.{All-head, All-tail}
use Rattle.aft_model.specs.declared.choice.Blocked.{Blocked}
use Rattle.aft_model.specs.declared.reply.Judged.{Judged}
use Rattle.aft_model.specs.declared.reply.Reply.{Reply}
use Rattle.aft_model.specs.declared.reply.Reply.TheVariants.{Aborted, Absent, Announced, Begun, Busy, ClockEnd, Collected, Collecting, Committed, Committing, Copied, Copying, Crashed, Damaged, Dropped, Ended, Forgot, Forgotten, InDoubt, IsBooting, IsUp, Joined, Kept, Learned, Managed, Missing, NoMemory, NoTransaction, NoValidVersion, NodeDown, NotUp, OpenReads, Orphans, Own, Started, StoreFault, Stored, TooManyKeys, TooManyRecords, TooManyVersions, Unknown, Value}
use Rattle.aft_model.specs.declared.reply.Verdict.{Verdict}
use Rattle.aft_model.specs.declared.reply.Verdict.TheVariants.{Fault, Held, Retired}
use Rattle.aft_model.specs.ReplyText.{blocker_words, judged_words, reply_text, reply_words, spaced, verdict_words}
use Rattle.aft_reply.specs.Gives.{Fails}
use Rattle.aft_reply.specs.Limits.{IsBlocker, IsJudged, IsReply, IsVerdict}
use Rattle.aft_reply.specs.Reading.{reply_of_words, take_blocker, take_judged, words_of}
use Rattle.aft_reply.specs.declared.fault.ReplyFault.{ReplyFault}
use Rattle.aft_reply.specs.declared.fault.ReplyFault.TheVariants.{BadReply, Memory}
use Rattle.aft_reply.proofs.Ids.{id_of-word, uuid_of-word}
use Rattle.aft_reply.proofs.Many.{many-all}
use Rattle.aft_reply.proofs.Numbers.{count_of-decimal, node_of-decimal}
use Rattle.aft_reply.proofs.Spaces.{is_word, is_word-decimal, is_word-graphic, is_word-id, is_word-uuid, is_word-value, words_and_words, words_of-spaced}
use Rattle.aft_reply.proofs.WordTexts.{key_of-key, name_of-name, value_of-word}

two_numbers : (node inc : ℕ) → (node < 2 ^ 32) × (inc < 2 ^ 32) → (is_word (decimal node) && (is_word (decimal inc) && true)) ≡ true
two_numbers node inc is = rw (is_word-decimal node (omega (arith, is.0)), is_word-decimal inc (omega (arith, is.1))) refl

-- a blocker
take_blocker-words : (blocked : Blocked) (rest : List (List ℕ)) → IsBlocker blocked → take_blocker (blocker_words blocked ++ rest) ≡ Ok (blocked, rest)
take_blocker-words blocked rest is = rw (id_of-word blocked.id is.0, key_of-key blocked.key is.1, id_of-word blocked.read is.2) refl

blockers_are_words : (blocked : List Blocked) → All IsBlocker blocked → list_all is_word (flat_map blocker_words blocked) ≡ true
blockers_are_words [] all = refl
blockers_are_words (b ∷ blocked) all =
    let is = All-head IsBlocker b blocked all in
    rw (is_word-id b.id is.0.1, is_word-graphic b.key is.1.graphic, is_word-id b.read is.2.1) (blockers_are_words blocked (All-tail IsBlocker b blocked all))

-- a judged commit
take_judged-words : (judged : Judged) (rest : List (List ℕ)) → IsJudged judged → take_judged (judged_words judged ++ rest) ≡ Ok (judged, rest)
take_judged-words judged rest is = by_verdict judged.verdict refl
  where
    by_verdict : (verdict : Verdict) → judged.verdict ≡ verdict → take_judged (judged_words judged ++ rest) ≡ Ok (judged, rest)
    by_verdict Retired same = rw (same, id_of-word judged.id is.0) refl
    by_verdict (Held node inc) same =
        let held : (node < 2 ^ 32) × (inc < 2 ^ 32) = rw same at is.1 in
        rw (same, id_of-word judged.id is.0, node_of-decimal node held.0, node_of-decimal inc held.1) refl
    by_verdict Fault same = rw (same, id_of-word judged.id is.0) refl

verdict_is_words : (verdict : Verdict) → IsVerdict verdict → list_all is_word (verdict_words verdict) ≡ true
verdict_is_words Retired is = refl
verdict_is_words (Held node inc) is = two_numbers node inc is
verdict_is_words Fault is = refl

judged_are_words : (judged : List Judged) → All IsJudged judged → list_all is_word (flat_map judged_words judged) ≡ true
judged_are_words [] all = refl
judged_are_words (j ∷ judged) all =
    let is = All-head IsJudged j judged all in
    words_and_words (judged_words j) (flat_map judged_words judged) (rw (is_word-id j.id is.0.1) (verdict_is_words j.verdict is.1)) (judged_are_words judged (All-tail IsJudged j judged all))

-- the words of a reply have no spaces, and are read as that reply
reads_back : (r : Reply) → IsReply r → (list_all is_word (reply_words r) ≡ true) × (reply_of_words (reply_words r) ≡ Ok r)
reads_back (Begun uuid) is = (rw (is_word-uuid uuid) refl, rw (uuid_of-word uuid is) refl)
reads_back (Joined uuid) is = (rw (is_word-uuid uuid) refl, rw (uuid_of-word uuid is) refl)
reads_back (Committed id) is = (rw (is_word-id id is.1) refl, rw (id_of-word id is) refl)
reads_back (Busy node inc) is = (two_numbers node inc is, rw (node_of-decimal node is.0, node_of-decimal inc is.1) refl)
reads_back Stored is = (refl, refl)
reads_back (Own value) is = (rw (is_word-value value is) refl, rw (value_of-word value is) refl)
reads_back (Value id value) is = (rw (is_word-id id is.0.1, is_word-value value is.1) refl, rw (id_of-word id is.0, value_of-word value is.1) refl)
reads_back Absent is = (refl, refl)
reads_back (NoValidVersion blocked) is = (blockers_are_words blocked is, rw (many-all take_blocker blocker_words IsBlocker blocked (λ b. omega arith) take_blocker-words is) refl)
reads_back (Missing id) is = (rw (is_word-id id is.1) refl, rw (id_of-word id is) refl)
reads_back (Damaged name) is = (rw (is_word-graphic name is.1) refl, rw (name_of-name name is) refl)
reads_back Ended is = (refl, refl)
reads_back Aborted is = (refl, refl)
reads_back StoreFault is = (refl, refl)
reads_back InDoubt is = (refl, refl)
reads_back (NodeDown node inc) is = (two_numbers node inc is, rw (node_of-decimal node is.0, node_of-decimal inc is.1) refl)
reads_back NoTransaction is = (refl, refl)
reads_back Committing is = (refl, refl)
reads_back TooManyKeys is = (refl, refl)
reads_back (OpenReads count) is = (rw (is_word-decimal count is) refl, rw (count_of-decimal count is) refl)
reads_back ClockEnd is = (refl, refl)
reads_back (Crashed node inc) is = (two_numbers node inc is, rw (node_of-decimal node is.0, node_of-decimal inc is.1) refl)
reads_back (NotUp node) is = (rw (is_word-decimal node (omega (arith, is))) refl, rw (node_of-decimal node is) refl)
reads_back (Started node inc) is = (two_numbers node inc is, rw (node_of-decimal node is.0, node_of-decimal inc is.1) refl)
reads_back (IsUp node inc) is = (two_numbers node inc is, rw (node_of-decimal node is.0, node_of-decimal inc is.1) refl)
reads_back (IsBooting node inc) is = (two_numbers node inc is, rw (node_of-decimal node is.0, node_of-decimal inc is.1) refl)
reads_back TooManyRecords is = (refl, refl)
reads_back (Announced kept pruned dropped) is = (rw (is_word-decimal kept is.0, is_word-decimal pruned is.1, is_word-decimal dropped is.2) refl, rw (count_of-decimal kept is.0, count_of-decimal pruned is.1, count_of-decimal dropped is.2) refl)
reads_back (Learned taken superseded known) is = (rw (is_word-decimal taken is.0, is_word-decimal superseded is.1, is_word-decimal known is.2) refl, rw (count_of-decimal taken is.0, count_of-decimal superseded is.1, count_of-decimal known is.2) refl)
reads_back (Dropped count) is = (rw (is_word-decimal count is) refl, rw (count_of-decimal count is) refl)
reads_back (Managed heard missed) is = (rw (is_word-decimal heard is.0, is_word-decimal missed is.1) refl, rw (count_of-decimal heard is.0, count_of-decimal missed is.1) refl)
reads_back (Collected judged) is = (judged_are_words judged is, rw (many-all take_judged judged_words IsJudged judged (λ j. omega arith) take_judged-words is) refl)
reads_back Collecting is = (refl, refl)
reads_back (Forgot id) is = (rw (is_word-id id is.1) refl, rw (id_of-word id is) refl)
reads_back (Kept id) is = (rw (is_word-id id is.1) refl, rw (id_of-word id is) refl)
reads_back (Unknown uuid) is = (rw (is_word-uuid uuid) refl, rw (uuid_of-word uuid is) refl)
reads_back (Forgotten uuid) is = (rw (is_word-uuid uuid) refl, rw (uuid_of-word uuid is) refl)
reads_back (Orphans deleted kept held fault) is = (rw (is_word-decimal deleted is.0, is_word-decimal kept is.1, is_word-decimal held is.2, is_word-decimal fault is.3) refl, rw (count_of-decimal deleted is.0, count_of-decimal kept is.1, count_of-decimal held is.2, count_of-decimal fault is.3) refl)
reads_back TooManyVersions is = (refl, refl)
reads_back (Copied taken marked) is = (rw (is_word-decimal taken is.0, is_word-decimal marked is.1) refl, rw (count_of-decimal taken is.0, count_of-decimal marked is.1) refl)
reads_back Copying is = (refl, refl)
reads_back NoMemory is = (refl, refl)

cut_again : (words : List (List ℕ)) (r : Reply) → list_all is_word words ≡ true → reply_of_words words ≡ Ok r → reply_of_words (words_of (spaced words)) ≡ Ok r
cut_again [] r closed read = cc
cut_again (word ∷ words) r closed read =
    let parts = and_parts (is_word word) (list_all is_word words) closed in
    rw (words_of-spaced word words parts.0 parts.1) read

-- the text of a reply is read as that reply
pub text_read_back : (r : Reply) → IsReply r → reply_of_words (words_of (reply_text r)) ≡ Ok r
text_read_back r is = let back = reads_back r is in cut_again (reply_words r) r back.0 back.1

-- a text that isn't read is no reply's
pub no_reply : (fault : ReplyFault) (r : Reply) (text : List ℕ) → Fails fault (reply_of_words (words_of text)) → ◌≡◌ {A = Result Reply ReplyFault} (Err fault) (Err BadReply) → IsReply r → reply_text r ≡ text → ⊥
no_reply BadReply r text fails same is written =
    let read : reply_of_words (words_of text) ≡ Ok r = ap (λ t. reply_of_words (words_of t)) (sym written) ∙ text_read_back r is in
    cc
no_reply Memory r text fails same is written = cc
