use Rattle.net_commands.proofs.ServeCourses.{tells_served, tells_unserved}
use Rattle.net_commands.proofs.serve.serve_and_tell.Goals as goal

pub returns-in-Ok-clause-course : goal.returns-in-Ok-clause-course
returns-in-Ok-clause-course g c = λ s prepared.
    tells_served _ s _ _ _ c.tell_end.result _ _ _ _ _ _ c.in-Ok.end (c.in-Ok.ensures.course s tt prepared tt) c.tell_end.ensures

pub returns-in-Err-clause-course : goal.returns-in-Err-clause-course
returns-in-Err-clause-course g c = λ s prepared. tells_unserved _ s _ _ _ c.in-Err.status _ _ _ _ (c.in-Err.ensures.course s tt prepared tt)
