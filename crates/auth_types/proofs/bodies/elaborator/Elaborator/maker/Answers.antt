use Rattle.std.proofs.Common.{◌∙◌, sym, ap, option_map}
use Rattle.auth_types.specs.Elaborators.{scope_of, types_of}
use Rattle.declared_types.specs.ScopeNames.{constructor_meant}
use Rattle.auth_types.proofs.CallSteps.{constructs_found, constructs_miscounted, constructs_unknown, none_there, types_count}
use Rattle.auth_types.proofs.bodies.elaborator.Elaborator.maker.Goals as goal

pub returns-in_default-clause-found : goal.returns-in_default-clause-found
unfolding scope_of
returns-in_default-clause-found c =
    constructs_unknown c.args.at c.args.count _ _
    (c.constructor.ensures ∙ ap (option_map constructor_meant) (none_there c.constructor.result c.in_default.not-Some))

pub returns-then-count-fields-clause-found : goal.returns-then-count-fields-clause-found
unfolding scope_of
returns-then-count-fields-clause-found c =
    constructs_miscounted c.args.at c.args.count _ _ c.in-Some.id (c.constructor.ensures ∙ ap (option_map constructor_meant) c.in-Some.is)
    (λ same. c.if-count-fields.true (same
    ∙ sym (types_count (types_of c.args.self.now) c.fields.result.now _ (c.fields.ensures.fields (types_of c.args.self.now)))))

pub returns-clause-found : goal.returns-clause-found
unfolding scope_of
returns-clause-found c =
    constructs_found c.args.at c.args.count _ _ c.in-Some.id (c.constructor.ensures ∙ ap (option_map constructor_meant) c.in-Some.is)
    (c.if-count-fields.false ∙ types_count (types_of c.args.self.now) c.fields.result.now _ (c.fields.ensures.fields (types_of c.args.self.now)))

pub returns-clause-count : goal.returns-clause-count
unfolding scope_of
returns-clause-count c = c.if-count-fields.false ∙ types_count (types_of c.args.self.now) c.fields.result.now
    _ (c.fields.ensures.fields (types_of c.args.self.now))
