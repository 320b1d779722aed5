use Rattle.std.proofs.Common.{List}
use Rattle.lexemes.specs.Tokens.{count}
use Rattle.lexemes.specs.Readings.{read_separator}
use Rattle.lexemes.specs.Remaining.{remaining}
use Rattle.auth_syntax.specs.Nesting.{nesting_limit}
use Rattle.auth_syntax.specs.Parsing.{read_list, read_whole_type}
use Rattle.auth_syntax.specs.Syntax.{TypeSyntax}
use Rattle.auth_syntax.specs.Trees.{type_of, types_of}
use Rattle.auth_syntax.proofs.MadeOfTokens.{type_is_tokens}
use Rattle.auth_syntax.proofs.Loops.{IsReadByOne, listed_by_one}
use Rattle.auth_syntax.proofs.ListTurns.{fewer_left, list_ends, list_goes_on, no_sign, no_thing}
use Rattle.auth_syntax.proofs.parser.types.type_list.Goals as goal

abbrev by_one : IsReadByOne read_separator read_whole_type (λ (things : List TypeSyntax). things) (λ tokens. read_list read_whole_type (count tokens) tokens)
by_one = listed_by_one read_whole_type (type_is_tokens nesting_limit)

pub returns-in_err-whole_type : goal.returns-in_err-whole_type
returns-in_err-whole_type c =
    let r = c.from_residual in
    no_thing by_one type_of (remaining c.args.parser.now) c.each.types.items (remaining c.each.parser) c.each.invariant
    types_of r.result _ (remaining c.whole_type.new.parser) r.ensures.1 c.in_err-whole_type.ensures

pub returns-in_err-separator : goal.returns-in_err-separator
returns-in_err-separator c =
    let r = c.from_residual-in_err-separator in
    no_sign by_one type_of (remaining c.args.parser.now) c.each.types.items (remaining c.each.parser) c.each.invariant
    (remaining c.whole_type.new.parser) (remaining c.separator.new.self) c.in_ok-whole_type.field-0 c.in_ok-whole_type.ensures types_of r.result _ r.ensures.1 c.in_err-separator.ensures

pub returns-then-not-branch : goal.returns-then-not-branch
returns-then-not-branch c =
    list_ends by_one type_of (remaining c.args.parser.now) c.each.types.items (remaining c.each.parser) c.each.invariant
    (remaining c.whole_type.new.parser) (remaining c.separator.new.self) c.in_ok-whole_type.field-0 c.in_ok-whole_type.ensures c.in_ok-separator.field-0 c.in_ok-separator.ensures
    c.push.new.self.items c.in_ok-push.ensures.items c.if-not-branch.true

pub each-smaller : goal.each-smaller
each-smaller c =
    fewer_left by_one type_of (remaining c.args.parser.now) c.each.types.items (remaining c.each.parser) c.each.invariant
    (remaining c.whole_type.new.parser) (remaining c.separator.new.self) c.in_ok-whole_type.field-0 c.in_ok-whole_type.ensures c.in_ok-separator.field-0 c.in_ok-separator.ensures

pub each-preserved : goal.each-preserved
each-preserved c =
    list_goes_on by_one type_of (remaining c.args.parser.now) c.each.types.items (remaining c.each.parser) c.each.invariant
    (remaining c.whole_type.new.parser) (remaining c.separator.new.self) c.in_ok-whole_type.field-0 c.in_ok-whole_type.ensures c.in_ok-separator.field-0 c.in_ok-separator.ensures
    c.push.new.self.items c.in_ok-push.ensures.items c.if-not-branch.false
