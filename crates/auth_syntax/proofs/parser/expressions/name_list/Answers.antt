use Rattle.std.proofs.Common.{List}
use Rattle.lexemes.specs.Tokens.{count}
use Rattle.lexemes.specs.Readings.{read_separator}
use Rattle.lexemes.specs.Remaining.{remaining}
use Rattle.auth_syntax.specs.Parsing.{read_list, read_lower}
use Rattle.auth_syntax.specs.Syntax.{NameSyntax}
use Rattle.auth_syntax.specs.Trees.{name_of, names_of}
use Rattle.auth_syntax.proofs.MadeOfTokens.{lower_is_token}
use Rattle.auth_syntax.proofs.Loops.{IsReadByOne, listed_by_one}
use Rattle.auth_syntax.proofs.ListTurns.{fewer_left, list_ends, list_goes_on, no_sign, no_thing}
use Rattle.auth_syntax.proofs.parser.expressions.name_list.Goals as goal

abbrev by_one : IsReadByOne read_separator read_lower (λ (things : List NameSyntax). things) (λ tokens. read_list read_lower (count tokens) tokens)
by_one = listed_by_one read_lower lower_is_token

pub returns-in_err-lower : goal.returns-in_err-lower
returns-in_err-lower c =
    let r = c.from_residual in
    no_thing by_one name_of (remaining c.args.parser.now) c.each.names.items (remaining c.each.parser) c.each.invariant
    names_of r.result _ (remaining c.lower.new.parser) r.ensures.1 c.in_err-lower.ensures

pub returns-in_err-separator : goal.returns-in_err-separator
returns-in_err-separator c =
    let r = c.from_residual-in_err-separator in
    no_sign by_one name_of (remaining c.args.parser.now) c.each.names.items (remaining c.each.parser) c.each.invariant
    (remaining c.lower.new.parser) (remaining c.separator.new.self) c.in_ok-lower.field-0 c.in_ok-lower.ensures names_of r.result _ r.ensures.1 c.in_err-separator.ensures

pub returns-then-not-branch : goal.returns-then-not-branch
returns-then-not-branch c =
    list_ends by_one name_of (remaining c.args.parser.now) c.each.names.items (remaining c.each.parser) c.each.invariant
    (remaining c.lower.new.parser) (remaining c.separator.new.self) c.in_ok-lower.field-0 c.in_ok-lower.ensures c.in_ok-separator.field-0 c.in_ok-separator.ensures
    c.push.new.self.items c.in_ok-push.ensures.items c.if-not-branch.true

pub each-smaller : goal.each-smaller
each-smaller c =
    fewer_left by_one name_of (remaining c.args.parser.now) c.each.names.items (remaining c.each.parser) c.each.invariant
    (remaining c.lower.new.parser) (remaining c.separator.new.self) c.in_ok-lower.field-0 c.in_ok-lower.ensures c.in_ok-separator.field-0 c.in_ok-separator.ensures

pub each-preserved : goal.each-preserved
each-preserved c =
    list_goes_on by_one name_of (remaining c.args.parser.now) c.each.names.items (remaining c.each.parser) c.each.invariant
    (remaining c.lower.new.parser) (remaining c.separator.new.self) c.in_ok-lower.field-0 c.in_ok-lower.ensures c.in_ok-separator.field-0 c.in_ok-separator.ensures
    c.push.new.self.items c.in_ok-push.ensures.items c.if-not-branch.false
