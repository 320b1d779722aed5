use Rattle.std.proofs.Common.{◌≡◌, ◌++◌, map, take}
use Rattle.printed_syntax.specs.PrintedPrograms.{declarations_text, format_text}
use Rattle.printed_syntax.specs.LineViews.{at_line, line_of}
use Rattle.auth_syntax.specs.Trees.{declaration_of}
use Rattle.printed_syntax.proofs.print.print.Given as goal

-- the format and the declarations so far
abbrev pub invariant-loop-declaration : goal.invariant-loop-declaration
invariant-loop-declaration l =
    line_of l.printer ≡ at_line (format_text l.fn.ast.format ++ declarations_text (map declaration_of (take l.declaration-index l.declaration-items)))
