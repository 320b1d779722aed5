use Rattle.images.proofs.record.read_record.Goals as goal

pub returns-in-5-clause-read : goal.returns-in-5-clause-read
returns-in-5-clause-read c size = rw (c.in-Some.ensures.cases.0, c.in-5.is) (c.read_constructor.ensures.read size)
