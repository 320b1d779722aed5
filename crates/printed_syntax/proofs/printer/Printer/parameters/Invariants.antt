use Rattle.std.proofs.Common.{◌≡◌, map, take}
use Rattle.auth_syntax.specs.Grammar.{parameters_tokens}
use Rattle.printed_syntax.specs.LineViews.{line_of, with_tokens}
use Rattle.auth_syntax.specs.Trees.{parameter_of}
use Rattle.printed_syntax.proofs.printer.Printer.parameters.Given as goal

-- the parameters so far
abbrev pub invariant-loop-index : goal.invariant-loop-index
invariant-loop-index l = line_of l.self ≡ with_tokens (line_of l.fn.self) (parameters_tokens (map parameter_of (take l.index l.parameters)))
