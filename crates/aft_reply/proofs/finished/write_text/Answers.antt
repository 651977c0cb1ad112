use Rattle.std.proofs.Common.{[], refl, ◌++◌, ◌∙◌}
use Rattle.std.specs.List.{flat_map}
use Rattle.indexmap.specs.IndexMap.{get}
use Rattle.aft_reply.specs.Heard.{Answers, Heard, node_answers, office_answers, same_asker}
use Rattle.aft_reply.proofs.Hearing.{printed-heard, printed-text}
use Rattle.aft_reply.proofs.finished.write_text.Goals as goal

pub returns : goal.returns
returns c asked ran is_script is_trace =
    let empty : Heard (get same_asker c.new-answers.result) (λ line. []) = λ line. rw c.new-answers.ensures.empty refl in
    let heard : Answers = λ line. flat_map (node_answers line) c.as_slice.result.now ++ office_answers line c.as_slice-2.result.now in
    let hears : Heard (get same_asker c.hear_office.new.answers) heard = c.in_ok-hear_office.ensures (λ line. flat_map (node_answers line) c.as_slice.result.now) (c.in_ok-hear_nodes.ensures (λ line. []) empty) in
    c.from_vec.ensures ∙ c.in_ok-text.ensures ∙ printed-heard (get same_asker c.hear_office.new.answers) heard c.as_slice-3.result.now hears
    ∙ printed-text asked ran c.args.script.now c.args.trace.now c.as_slice.result.now c.as_slice-2.result.now c.as_slice-3.result.now is_script is_trace c.as_slice.ensures c.as_slice-2.ensures c.as_slice-3.ensures
