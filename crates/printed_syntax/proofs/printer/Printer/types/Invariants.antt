use Rattle.std.proofs.Common.{◌≡◌, map, take}
use Rattle.auth_syntax.specs.Grammar.{types_tokens}
use Rattle.printed_syntax.specs.LineViews.{line_of, with_tokens}
use Rattle.auth_syntax.specs.Trees.{type_of}
use Rattle.printed_syntax.proofs.printer.Printer.types.Given as goal

-- the types so far
abbrev pub invariant-loop-index : goal.invariant-loop-index
invariant-loop-index l = line_of l.self ≡ with_tokens (line_of l.fn.self) (types_tokens (map type_of (take l.index l.types)))
