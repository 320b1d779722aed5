use Rattle.core_stage.proofs.stage.hear.Goals as goal

pub returns : goal.returns
returns g c = let s = c.requires in (_, (c.in_ok-replies.ensures.handled s.0 s.1).serves)
