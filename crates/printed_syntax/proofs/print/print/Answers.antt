use Rattle.printed_syntax.specs.LineViews.{line_of}
use Rattle.printed_syntax.specs.PrintedPrograms.{format_text}
use Rattle.printed_syntax.proofs.TreeTokens.{declarations_more}
use Rattle.printed_syntax.proofs.print.print.Goals as goal

-- with a line more
pub loop-declaration-preserved : goal.loop-declaration-preserved
loop-declaration-preserved c =
    declarations_more (format_text c.args.ast.now.format) c.deref-declaration-items.result.now c.loop-declaration.declaration-index c.declaration-item.result
    (line_of c.loop-declaration.printer)
    (line_of c.declaration.new.self) (line_of c.end_line-in-loop-declaration.new.self) c.loop-declaration.invariant c.in_ok-declaration.ensures c.in_ok-end_line-2.ensures
    c.declaration-item.is c.loop-declaration-test.true
