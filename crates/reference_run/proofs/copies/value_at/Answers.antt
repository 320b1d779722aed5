use Rattle.std.proofs.Common.{◌∙◌}
use Rattle.std.proofs.lemmas.Result.{IfOk-weaker}
use Rattle.reference_run.proofs.Locals.{found, local_past, local_there, past}
use Rattle.reference_run.proofs.ValueViews.{plain-UnitValue}
use Rattle.reference_run.proofs.copies.value_at.Goals as goal

pub returns-in-Some : goal.returns-in-Some
returns-in-Some c =
    let vs = c.args.values.now in
    let i = c.args.place in
    let v = c.in-Some.value.now in
    let lookup = c.in-Some.ensures.lookup in
    IfOk-weaker c.copied.result _ _ (λ copy e. e ∙ local_there vs i v (found vs i v lookup.3.0 lookup.1)) c.copied.ensures

pub returns-in-None : goal.returns-in-None
returns-in-None c =
    let vs = c.args.values.now in
    let i = c.args.place in
    plain-UnitValue ∙ local_past vs i (past vs i c.in-None.ensures.lookup.3)
