use Rattle.std.proofs.Common.{◌∙◌, map, sym, ap}
use Rattle.auth_syntax.specs.Trees.{arm_of, arms_in_a_row}
use Rattle.auth_types.specs.Bodies.{arm_names, same_names}
use Rattle.auth_types.specs.Elaborators.{scope_of, types_of}
use Rattle.auth_types.proofs.CallSteps.{arms_same_count, constructors_count, matches_found, matches_wrong}
use Rattle.auth_types.proofs.bodies.elaborator.Elaborator.taken_apart.Goals as goal

pub returns-then-not-are_of-clause-found : goal.returns-then-not-are_of-clause-found
unfolding scope_of
returns-then-not-are_of-clause-found c =
    matches_wrong (scope_of c.args.self.now) c.args.at c.args.subject _ (arm_names (arms_in_a_row (map arm_of c.args.arms.now))) c.in-NamedForm.named
    (sym c.in-NamedForm.ensures.form)
    (ap (same_names (arm_names (arms_in_a_row (map arm_of c.args.arms.now)))) (sym c.constructors.ensures.names) ∙ sym c.are_of.ensures
    ∙ c.if-not-are_of.true)

pub returns-clause-found : goal.returns-clause-found
unfolding scope_of
returns-clause-found c =
    matches_found (scope_of c.args.self.now) c.args.at c.args.subject _ (arm_names (arms_in_a_row (map arm_of c.args.arms.now))) c.in-NamedForm.named
    (sym c.in-NamedForm.ensures.form)
    (ap (same_names (arm_names (arms_in_a_row (map arm_of c.args.arms.now)))) (sym c.constructors.ensures.names) ∙ sym c.are_of.ensures
    ∙ c.if-not-are_of.false)

pub returns-clause-count : goal.returns-clause-count
unfolding scope_of
returns-clause-count c =
    arms_same_count c.args.arms.now c.constructors.result.now (sym c.are_of.ensures ∙ c.if-not-are_of.false)
    ∙ constructors_count (types_of c.args.self.now) c.constructors.result.now _ (c.constructors.ensures.fields (types_of c.args.self.now))
