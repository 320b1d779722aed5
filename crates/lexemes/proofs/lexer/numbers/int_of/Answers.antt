use Rattle.std.proofs.Common.{◌∙◌, sym, subst, w64}
use Rattle.std.specs.Str.{IsUtf8}
use Rattle.std.specs.Str.Parse.{ParsesSigned}
use Rattle.lexemes.proofs.NumberLemmas.{digits_are_utf8, minus_is_utf8, plain_read, minus_read}
use Rattle.lexemes.proofs.lexer.numbers.int_of.Goals as goal

pub returns-in_default-clause-plain : goal.returns-in_default-clause-plain
returns-in_default-clause-plain c = λ is. absurd (c.in_default.ensures.cases.0 (digits_are_utf8 c.args.text.now is))

pub returns-in_default-clause-minus : goal.returns-in_default-clause-minus
returns-in_default-clause-minus c = λ digits is e. absurd (c.in_default.ensures.cases.0 (subst IsUtf8 (sym e) (minus_is_utf8 digits is)))

pub returns-clause-plain : goal.returns-clause-plain
returns-clause-plain c = λ is.
    let text = c.args.text.now in
    c.ok.ensures.value ∙ plain_read text c.parse.result (subst (λ bs. ParsesSigned w64 10 bs c.parse.result) c.in-Ok.ensures.cases.0 c.parse.ensures.value.0) is

pub returns-clause-minus : goal.returns-clause-minus
returns-clause-minus c = λ digits is e.
    c.ok.ensures.value ∙ minus_read digits c.parse.result (subst (λ bs. ParsesSigned w64 10 bs c.parse.result) (c.in-Ok.ensures.cases.0 ∙ e) c.parse.ensures.value.0) is
