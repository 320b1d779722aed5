use Rattle.core_terms.specs.Programs.{meaning}
use Rattle.auth_syntax.specs.Trees.{program_of}
use Rattle.command_parts.proofs.PassedTrees.{checked_passes, passes}
use Rattle.command_parts.proofs.TextNames.{constructors_of_tree, names_of_text, types_of_text}
use Rattle.command_parts.proofs.programs.read_program.Goals as goal

pub returns-clause-names : goal.returns-clause-names
returns-clause-names c = names_of_text _ c.args.text.now (program_of c.in_ok-ast.ast) c.in_ok-ast.ensures.answer c.in_ok-check.ensures.constructors

pub returns-clause-constructors : goal.returns-clause-constructors
returns-clause-constructors c = constructors_of_tree _ c.args.text.now (program_of c.in_ok-ast.ast) c.in_ok-ast.ensures.answer c.in_ok-check.ensures.constructors

pub returns-clause-types : goal.returns-clause-types
returns-clause-types c =
    let tree = program_of c.in_ok-ast.ast in
    let P = meaning c.in_ok-check.field-0 in
    types_of_text c.in_ok-check.field-0.types c.args.text.now tree c.in_ok-ast.ensures.answer c.in_ok-check.ensures.types c.in_ok-check.ensures.constructors
    (passes tree P (checked_passes tree P c.in_ok-check.ensures.answer)).types
