use Rattle.std.proofs.Common.{◌≡◌, ◌∙◌, length, refl, sym, ap, option_map}
use Rattle.auth_types.specs.Elaborators.{scope_of, types_of}
use Rattle.declared_types.specs.Scopes.{function_meant}
use Rattle.auth_types.proofs.CallSteps.{calls_found, calls_miscounted, calls_unknown, none_there, parameters_count}
use Rattle.auth_types.proofs.bodies.elaborator.Elaborator.callee.Goals as goal

pub returns-in_default-clause-found : goal.returns-in_default-clause-found
unfolding scope_of
returns-in_default-clause-found c =
    calls_unknown c.args.at c.args.count _ (function_meant (types_of c.args.self.now) c.args.self.now.scope.now)
    (c.function.ensures.found (types_of c.args.self.now) ∙ ap (option_map (function_meant (types_of c.args.self.now) c.args.self.now.scope.now))
    (none_there c.function.result c.in_default.not-Some))

pub returns-then-count-len-clause-found : goal.returns-then-count-len-clause-found
unfolding scope_of
returns-then-count-len-clause-found c =
    let types = types_of c.args.self.now in
    let meant = function_meant types c.args.self.now.scope.now in
    let ok = c.head.result.now.parameters.ok in
    let count : c.len.result ≡ length c.head.result.now.parameters.items = cc in
    calls_miscounted c.args.at c.args.count _ meant c.in-Some.id (c.function.ensures.found types ∙ ap (option_map meant) c.in-Some.is)
    (λ same. c.if-count-len.true (same ∙ parameters_count types (meant c.in-Some.id).value c.head.result.now (c.head.ensures.signature types)
    ∙ sym count))

pub returns-clause-found : goal.returns-clause-found
unfolding scope_of
returns-clause-found c =
    let types = types_of c.args.self.now in
    let meant = function_meant types c.args.self.now.scope.now in
    let ok = c.head.result.now.parameters.ok in
    let count : c.len.result ≡ length c.head.result.now.parameters.items = cc in
    calls_found c.args.at c.args.count _ meant c.in-Some.id (c.function.ensures.found types ∙ ap (option_map meant) c.in-Some.is) refl
    (c.if-count-len.false ∙ count ∙ sym (parameters_count types (meant c.in-Some.id).value c.head.result.now (c.head.ensures.signature types)))
