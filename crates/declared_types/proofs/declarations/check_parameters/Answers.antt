use Rattle.std.proofs.Common.{sym, ◌∙◌}
use Rattle.declared_types.proofs.ParameterNames.{parameter_again, parameter_too_many, parameter_stands}
use Rattle.declared_types.proofs.declarations.check_parameters.Goals as goal

pub returns-then-is_parameter : goal.returns-then-is_parameter
returns-then-is_parameter c =
    parameter_again c.args.parameters.now c.loop-place.place c.index-parameters-place.result c.loop-place-test.true c.index-parameters-place.is
    c.loop-place.invariant
    (sym c.is_parameter.ensures ∙ c.if-is_parameter.true)

pub returns-then-place-ge-MOST_PARAMETERS : goal.returns-then-place-ge-MOST_PARAMETERS
returns-then-place-ge-MOST_PARAMETERS c =
    parameter_too_many c.args.parameters.now c.loop-place.place c.index-parameters-place.result c.loop-place-test.true c.index-parameters-place.is
    c.loop-place.invariant
    (sym c.is_parameter.ensures ∙ c.if-is_parameter.false) c.if-place-ge-MOST_PARAMETERS.true

pub loop-place-preserved : goal.loop-place-preserved
loop-place-preserved c =
    parameter_stands c.args.parameters.now c.loop-place.place c.index-parameters-place.result c.loop-place-test.true c.index-parameters-place.is
    c.loop-place.invariant
    (sym c.is_parameter.ensures ∙ c.if-is_parameter.false) c.if-place-ge-MOST_PARAMETERS.false
