use Rattle.lexemes.specs.Remaining.{remaining}
use Rattle.auth_syntax.specs.Trees.{constructor_of, constructors_of}
use Rattle.auth_syntax.proofs.Loops.{constructors_by_one}
use Rattle.auth_syntax.proofs.ListTurns.{fewer_left, list_ends, list_goes_on, no_sign, no_thing}
use Rattle.auth_syntax.proofs.parser.declarations.constructor_list.Goals as goal

pub returns-in_err-constructor : goal.returns-in_err-constructor
returns-in_err-constructor c =
    let r = c.from_residual in
    no_thing constructors_by_one constructor_of (remaining c.args.parser.now) c.each.constructors.items (remaining c.each.parser) c.each.invariant
    constructors_of r.result _ (remaining c.constructor.new.parser) r.ensures.1 c.in_err-constructor.ensures

pub returns-in_err-bar : goal.returns-in_err-bar
returns-in_err-bar c =
    let r = c.from_residual-in_err-bar in
    no_sign constructors_by_one constructor_of (remaining c.args.parser.now) c.each.constructors.items (remaining c.each.parser) c.each.invariant
    (remaining c.constructor.new.parser) (remaining c.bar.new.parser) c.in_ok-constructor.field-0 c.in_ok-constructor.ensures constructors_of r.result _ r.ensures.1 c.in_err-bar.ensures

pub returns-then-not-branch : goal.returns-then-not-branch
returns-then-not-branch c =
    list_ends constructors_by_one constructor_of (remaining c.args.parser.now) c.each.constructors.items (remaining c.each.parser) c.each.invariant
    (remaining c.constructor.new.parser) (remaining c.bar.new.parser) c.in_ok-constructor.field-0 c.in_ok-constructor.ensures c.in_ok-bar.field-0 c.in_ok-bar.ensures
    c.push.new.self.items c.in_ok-push.ensures.items c.if-not-branch.true

pub each-smaller : goal.each-smaller
each-smaller c =
    fewer_left constructors_by_one constructor_of (remaining c.args.parser.now) c.each.constructors.items (remaining c.each.parser) c.each.invariant
    (remaining c.constructor.new.parser) (remaining c.bar.new.parser) c.in_ok-constructor.field-0 c.in_ok-constructor.ensures c.in_ok-bar.field-0 c.in_ok-bar.ensures

pub each-preserved : goal.each-preserved
each-preserved c =
    list_goes_on constructors_by_one constructor_of (remaining c.args.parser.now) c.each.constructors.items (remaining c.each.parser) c.each.invariant
    (remaining c.constructor.new.parser) (remaining c.bar.new.parser) c.in_ok-constructor.field-0 c.in_ok-constructor.ensures c.in_ok-bar.field-0 c.in_ok-bar.ensures
    c.push.new.self.items c.in_ok-push.ensures.items c.if-not-branch.false
