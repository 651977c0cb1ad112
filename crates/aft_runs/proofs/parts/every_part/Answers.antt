use Rattle.aft_runs.proofs.Filters.{Everywhere, everywhere, none_fails}
use Rattle.aft_runs.specs.Parts.{holds, parts}
use Rattle.aft_runs.proofs.parts.every_part.Goals as goal

pub returns-clause-legal : goal.returns-clause-legal
returns-clause-legal c told none =
    let all : Everywhere (λ part. holds part told.asked told.ran) parts = everywhere (λ part. holds part told.asked told.ran) parts none in
    record {
      settings = all.0;
      bytes = all.1.0;
      door = all.1.1.0;
      nodes = all.1.1.1.0;
      office = all.1.1.1.1.0;
      boxes = all.1.1.1.1.1.0;
      opening = all.1.1.1.1.1.1.0;
      courses = all.1.1.1.1.1.1.1.0;
      posts = all.1.1.1.1.1.1.1.1.0;
      answers = all.1.1.1.1.1.1.1.1.1.0;
      words = all.1.1.1.1.1.1.1.1.1.1.0;
      places = all.1.1.1.1.1.1.1.1.1.1.1.0;
      attempts = all.1.1.1.1.1.1.1.1.1.1.1.1.0;
      clock = all.1.1.1.1.1.1.1.1.1.1.1.1.1.0;
      clients = all.1.1.1.1.1.1.1.1.1.1.1.1.1.1.0;
      whole_lines = all.1.1.1.1.1.1.1.1.1.1.1.1.1.1.1.0;
      asks_last = all.1.1.1.1.1.1.1.1.1.1.1.1.1.1.1.1.0;
      give_ups = all.1.1.1.1.1.1.1.1.1.1.1.1.1.1.1.1.1.0;
      causes = all.1.1.1.1.1.1.1.1.1.1.1.1.1.1.1.1.1.1.0;
    }

pub returns-clause-refused_by_none : goal.returns-clause-refused_by_none
returns-clause-refused_by_none c told legal =
    none_fails (λ part. holds part told.asked told.ran) parts
    (legal.settings, (legal.bytes, (legal.door, (legal.nodes, (legal.office, (legal.boxes, (legal.opening, (legal.courses, (legal.posts, (legal.answers, (legal.words, (legal.places, (legal.attempts, (legal.clock, (legal.clients, (legal.whole_lines, (legal.asks_last, (legal.give_ups, (legal.causes, tt)))))))))))))))))))
