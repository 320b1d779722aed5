use Rattle.std.proofs.Common.{ℕ, List, subst, Err}
use Rattle.core_terms.specs.Programs.{constructor_names, meaning, types_of}
use Rattle.core_terms.specs.TypeTables.{type_at}
use Rattle.printed_syntax.specs.Literals.{literal_in}
use Rattle.printed_syntax.specs.LiteralAnswers.{ReadsLiteral}
use Rattle.printed_syntax.specs.LiteralSteps.{told_of_literal}
use Rattle.printed_syntax.proofs.LiteralReadings.{told-fault, whole-spelled}
use Rattle.printed_syntax.proofs.literal.parse_literal.Goals as goal

pub returns-in-Ok : goal.returns-in-Ok
returns-in-Ok c =
    let P = meaning c.args.program.now in
    let t = type_at (types_of c.args.program.now) c.args.ty in
    subst (λ (text : List ℕ). ReadsLiteral (literal_in P (constructor_names c.args.program.now.types.named.items) t text) c.within.result) c.as_bytes.ensures.value
    (whole-spelled P (constructor_names c.args.program.now.types.named.items) t c.as_bytes.result.now c.in-Ok.bytes c.spelling_limit.result c.within.result c.in-Ok.ensures c.spelling_limit.ensures c.within.ensures)

pub returns-in-Err : goal.returns-in-Err
returns-in-Err c =
    let P = meaning c.args.program.now in
    let t = type_at (types_of c.args.program.now) c.args.ty in
    rw c.told.ensures (subst (λ (text : List ℕ). ReadsLiteral (literal_in P (constructor_names c.args.program.now.types.named.items) t text) (Err (told_of_literal c.in-Err.fault))) c.as_bytes.ensures.value
    (told-fault P (constructor_names c.args.program.now.types.named.items) t c.as_bytes.result.now c.in-Err.fault c.in-Err.ensures))
