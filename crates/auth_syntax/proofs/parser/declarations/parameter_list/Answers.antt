use Rattle.std.proofs.Common.{List}
use Rattle.lexemes.specs.Tokens.{count}
use Rattle.lexemes.specs.Readings.{read_separator}
use Rattle.lexemes.specs.Remaining.{remaining}
use Rattle.auth_syntax.specs.Parsing.{read_list, read_parameter}
use Rattle.auth_syntax.specs.Syntax.{ParameterSyntax}
use Rattle.auth_syntax.specs.Trees.{parameter_of, parameters_of}
use Rattle.auth_syntax.proofs.MadeOfTokens.{parameter_is_tokens}
use Rattle.auth_syntax.proofs.Loops.{IsReadByOne, listed_by_one}
use Rattle.auth_syntax.proofs.ListTurns.{fewer_left, list_ends, list_goes_on, no_sign, no_thing}
use Rattle.auth_syntax.proofs.parser.declarations.parameter_list.Goals as goal

abbrev by_one : IsReadByOne read_separator read_parameter (λ (things : List ParameterSyntax). things) (λ tokens. read_list read_parameter (count tokens) tokens)
by_one = listed_by_one read_parameter parameter_is_tokens

pub returns-in_err-parameter : goal.returns-in_err-parameter
returns-in_err-parameter c =
    let r = c.from_residual in
    no_thing by_one parameter_of (remaining c.args.parser.now) c.each.parameters.items (remaining c.each.parser) c.each.invariant
    parameters_of r.result _ (remaining c.parameter.new.parser) r.ensures.1 c.in_err-parameter.ensures

pub returns-in_err-separator : goal.returns-in_err-separator
returns-in_err-separator c =
    let r = c.from_residual-in_err-separator in
    no_sign by_one parameter_of (remaining c.args.parser.now) c.each.parameters.items (remaining c.each.parser) c.each.invariant
    (remaining c.parameter.new.parser) (remaining c.separator.new.self) c.in_ok-parameter.field-0 c.in_ok-parameter.ensures parameters_of r.result _ r.ensures.1 c.in_err-separator.ensures

pub returns-then-not-branch : goal.returns-then-not-branch
returns-then-not-branch c =
    list_ends by_one parameter_of (remaining c.args.parser.now) c.each.parameters.items (remaining c.each.parser) c.each.invariant
    (remaining c.parameter.new.parser) (remaining c.separator.new.self) c.in_ok-parameter.field-0 c.in_ok-parameter.ensures c.in_ok-separator.field-0 c.in_ok-separator.ensures
    c.push.new.self.items c.in_ok-push.ensures.items c.if-not-branch.true

pub each-smaller : goal.each-smaller
each-smaller c =
    fewer_left by_one parameter_of (remaining c.args.parser.now) c.each.parameters.items (remaining c.each.parser) c.each.invariant
    (remaining c.parameter.new.parser) (remaining c.separator.new.self) c.in_ok-parameter.field-0 c.in_ok-parameter.ensures c.in_ok-separator.field-0 c.in_ok-separator.ensures

pub each-preserved : goal.each-preserved
each-preserved c =
    list_goes_on by_one parameter_of (remaining c.args.parser.now) c.each.parameters.items (remaining c.each.parser) c.each.invariant
    (remaining c.parameter.new.parser) (remaining c.separator.new.self) c.in_ok-parameter.field-0 c.in_ok-parameter.ensures c.in_ok-separator.field-0 c.in_ok-separator.ensures
    c.push.new.self.items c.in_ok-push.ensures.items c.if-not-branch.false
