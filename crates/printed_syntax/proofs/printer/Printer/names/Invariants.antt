use Rattle.std.proofs.Common.{◌≡◌, map, take}
use Rattle.auth_syntax.specs.Grammar.{names_tokens}
use Rattle.printed_syntax.specs.LineViews.{line_of, with_tokens}
use Rattle.auth_syntax.specs.Trees.{name_of}
use Rattle.printed_syntax.proofs.printer.Printer.names.Given as goal

-- the names so far
abbrev pub invariant-loop-index : goal.invariant-loop-index
invariant-loop-index l = line_of l.self ≡ with_tokens (line_of l.fn.self) (names_tokens (map name_of (take l.index l.names)))
