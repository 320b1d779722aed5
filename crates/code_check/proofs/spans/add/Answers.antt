use Rattle.std.proofs.Common.{◌<◌, ◌++◌, ◌∷◌, [], ◌∙◌, length, ap, subst, sym, arith}
use Rattle.core_terms.specs.Programs.{types_in}
use Rattle.core_terms.specs.TypeTables.{type_of_form}
use Rattle.code_check.specs.Spans.{AreSpans}
use Rattle.code_check.proofs.SpansOfTypes.{added}
use Rattle.code_check.proofs.spans.add.Goals as goal

pub returns-then-len-clause-spans : goal.returns-then-len-clause-spans
returns-then-len-clause-spans c =
    let more : length c.args.spans.now.items < length (types_in c.intern.new.self) = omega (arith, c.if-len.true, c.len.ensures, c.len-2.ensures, c.reserve.ensures.len) in
    subst (AreSpans (types_in c.intern.new.self)) (sym (c.push_reserved.ensures.items ∙ ap (λ spans. spans ++ c.span_of-span.result ∷ []) c.reserve.ensures.items))
    (added (types_in c.args.types.now) (types_in c.intern.new.self) (type_of_form (types_in c.args.types.now) c.args.form) c.args.spans.now.items c.span_of-span.result c.requires.spans
    c.span_of-span.ensures c.intern.ensures.types more)
