use Rattle.std.proofs.Common.{◌≡◌, map, take}
use Rattle.auth_syntax.specs.Grammar.{constructors_tokens}
use Rattle.printed_syntax.specs.LineViews.{line_of, with_tokens}
use Rattle.auth_syntax.specs.Trees.{constructor_of}
use Rattle.printed_syntax.proofs.printer.Printer.constructors.Given as goal

-- the constructors so far
abbrev pub invariant-loop-index : goal.invariant-loop-index
invariant-loop-index l = line_of l.self ≡ with_tokens (line_of l.fn.self) (constructors_tokens (map constructor_of (take l.index l.constructors)))
