use Rattle.std.proofs.Common.{◌∙◌, Some, None}
use Rattle.declared_types.proofs.ScopeLookups.{function_found, number_in}
use Rattle.declared_types.proofs.scope.Scope.function.Goals as goal

pub returns-in-Some-clause-found : goal.returns-in-Some-clause-found
returns-in-Some-clause-found c types =
    function_found types c.args.self.now c.args.name.now (Some c.in-Some.number)
    (c.in-Some.ensures.index ∙ number_in c.args.self.now.function_names.keys c.as_bytes.result c.args.name.now c.as_bytes.ensures.bytes)

pub returns-in-None-clause-found : goal.returns-in-None-clause-found
returns-in-None-clause-found c types =
    function_found types c.args.self.now c.args.name.now None
    (c.in-None.ensures.index ∙ number_in c.args.self.now.function_names.keys c.as_bytes.result c.args.name.now c.as_bytes.ensures.bytes)
