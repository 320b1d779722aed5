use Rattle.core_stage.proofs.stage.first_version.Goals as goal

pub returns-in-Ok-clause-version : goal.returns-in-Ok-clause-version
returns-in-Ok-clause-version c =
    let root = c.in-Ok.ensures.loads in
    (root.0, rw c.types-types.ensures at root.2)

pub returns-in-Ok-clause-limit : goal.returns-in-Ok-clause-limit
returns-in-Ok-clause-limit c = record { is = (rw c.types-types.ensures at c.in-Ok.ensures.limit).is }
