-- What the answer of parsing says of what is parsed. Where memory ran out nothing is said.
use Rattle.std.specs.Prelude.{◌≡◌, Result, Ok, Err, ⊤}
use Rattle.core_terms.specs.declared.fault.Fault.TheVariants.{At, NoMemory}
use Rattle.lexemes.specs.Readings.{SyntaxFault}
use Rattle.auth_syntax.specs.Parsing.{Parsed, Tree, FirstFault}
use Rattle.auth_syntax.specs.Trees.{program_of}
use Rattle.auth_syntax.specs.declared.tree.Ast.{Ast}

-- Ok gives the tree of the text, a refusal its first fault
abbrev pub Parses : Parsed → Result Ast SyntaxFault → Type 0
Parses found (Ok ast) = found ≡ Tree (program_of ast)
Parses found (Err (At kind at)) = found ≡ FirstFault kind at
Parses found (Err NoMemory) = ⊤
