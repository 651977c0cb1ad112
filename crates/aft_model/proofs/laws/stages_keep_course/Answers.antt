use Rattle.aft_model.proofs.StagesCourse.{stages_keep_course}
use Rattle.aft_model.proofs.laws.stages_keep_course.Goals as goal

pub returns : goal.returns
returns c = stages_keep_course
