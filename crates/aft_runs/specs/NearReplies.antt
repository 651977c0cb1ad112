-- The runs that forget, delete orphan versions, copy the store or ask for a session, together, and the replies that they may have left out.
use Rattle.std.specs.Prelude.{List, [], ◌∷◌, ◌++◌, IsTrue}
use Rattle.std.specs.List.{flat_map, list_all}
use Rattle.aft_model.specs.declared.reply.Reply.{Reply}
use Rattle.aft_model.specs.declared.reply.Reply.TheVariants as replies
use Rattle.aft_histories.specs.Entries.{u}
use Rattle.aft_runs.specs.Backups.{beside_collection, copying_beside}
use Rattle.aft_runs.specs.Forgets.{forgets}
use Rattle.aft_runs.specs.LeftOut.{answers_all, ids}
use Rattle.aft_runs.specs.OrphanRounds.{deleted_orphan, kept_once_recorded}
use Rattle.aft_runs.specs.Sessions.{session}
use Rattle.aft_runs.specs.Works.{Run}

-- those that name a UUID or an id
abbrev pub of_forgets : List Reply
of_forgets =
    flat_map (λ n. replies.Unknown (u n) ∷ replies.Forgotten (u n) ∷ replies.Busy n 1 ∷ []) (1 ∷ 2 ∷ 3 ∷ 9 ∷ [])
    ++ flat_map (λ id. replies.Forgot id ∷ replies.Kept id ∷ replies.Committed id ∷ []) ids

-- those that count
abbrev pub of_rounds : List Reply
of_rounds =
    replies.Copying ∷ replies.TooManyVersions
    ∷ flat_map (λ n. replies.Copied n 0 ∷ replies.Copied n 1 ∷ replies.Orphans n 0 0 0 ∷ replies.Orphans 0 n 0 0 ∷ replies.Orphans 0 0 n 0 ∷ replies.Orphans 0 0 0 n ∷ []) (0 ∷ 1 ∷ 2 ∷ [])

-- ---- runs

-- those that forget, delete orphan versions, copy the store and ask for a session
abbrev pub of_stores : List Run
of_stores = forgets ∷ kept_once_recorded ∷ deleted_orphan ∷ beside_collection ∷ copying_beside ∷ session ∷ []

-- some runs of which none leaves one of these replies out
abbrev pub AnswerNear : List Run → Type 0
AnswerNear runs = IsTrue (list_all (answers_all (of_forgets ++ of_rounds)) runs)
