use Rattle.std.proofs.Common.{◌≡◌, ◌∙◌, ℕ, List, ap, sym, subst, Err, Result, Vec, Global}
use Rattle.std.proofs.lemmas.Result.{err_from_is_err_and}
use Rattle.core_terms.specs.Programs.{constructor_names, meaning, types_of}
use Rattle.core_terms.specs.TypeTables.{type_at}
use Rattle.core_terms.specs.declared.format.Format.{Format}
use Rattle.core_terms.specs.declared.program.Program.{Program}
use Rattle.lexemes.specs.Tokens.{Tokens, tokens}
use Rattle.printed_syntax.specs.Literals.{written_in}
use Rattle.lexemes.specs.Readings.{SyntaxFault}
use Rattle.printed_syntax.specs.LiteralSteps.{ReadsWhole}
use Rattle.lexemes.specs.Remaining.{remaining}
use Rattle.printed_syntax.proofs.LiteralReadings.{begun-fault, end-fault, whole-read, written_is}
use Rattle.printed_syntax.proofs.literal.whole.Goals as goal

-- the tokens of the program's format
by_format : (program : Program) (format : Format) (text : List ℕ) (read : Tokens) → format ≡ program.types.table.format → read ≡ tokens format text
    → read ≡ tokens (written_in (meaning program).format) text
by_format program format text read is e =
    e ∙ ap (λ f. tokens f text) (is ∙ sym (written_is program))

pub returns-in_err-value : goal.returns-in_err-value
returns-in_err-value c =
    let p = err_from_is_err_and c.from_residual.result c.from_residual.ensures.1 in
    let P = meaning c.args.program.now in
    let t = type_at (types_of c.args.program.now) c.args.ty in
    subst (λ (result : Result (Vec ℕ Global) SyntaxFault). ReadsWhole P (constructor_names c.args.program.now.types.named.items) t c.args.written.now result) (sym (p.1 ∙ ap Err p.2))
    (begun-fault P (constructor_names c.args.program.now.types.named.items) t c.args.written.now (remaining c.new-parser.result) (by_format c.args.program.now c.format.result c.args.written.now (remaining c.new-parser.result) c.format.ensures c.new-parser.ensures) c.new-bytes.result.items c.value.new.bytes.items c.in_err-value.field-0.0
    (remaining c.value.new.parser) c.in_err-value.ensures)

pub returns-in_err-end : goal.returns-in_err-end
returns-in_err-end c =
    let p = err_from_is_err_and c.from_residual-in_err-end.result c.from_residual-in_err-end.ensures.1 in
    let P = meaning c.args.program.now in
    let t = type_at (types_of c.args.program.now) c.args.ty in
    subst (λ (result : Result (Vec ℕ Global) SyntaxFault). ReadsWhole P (constructor_names c.args.program.now.types.named.items) t c.args.written.now result) (sym (p.1 ∙ ap Err p.2))
    (end-fault P (constructor_names c.args.program.now.types.named.items) t c.args.written.now (remaining c.new-parser.result) (by_format c.args.program.now c.format.result c.args.written.now (remaining c.new-parser.result) c.format.ensures c.new-parser.ensures) c.new-bytes.result.items c.value.new.bytes.items
    (remaining c.value.new.parser) (remaining c.end.new.self) c.in_err-end.field-0.0 c.in_ok-value.ensures c.in_err-end.ensures)

pub returns : goal.returns
returns c =
    whole-read (meaning c.args.program.now) (constructor_names c.args.program.now.types.named.items) (type_at (types_of c.args.program.now) c.args.ty) c.args.written.now (remaining c.new-parser.result) (by_format c.args.program.now c.format.result c.args.written.now (remaining c.new-parser.result) c.format.ensures c.new-parser.ensures)
    c.value.new.bytes (remaining c.value.new.parser) (remaining c.end.new.self) (rw c.new-bytes.ensures.items at c.in_ok-value.ensures) c.in_ok-end.ensures
