use Rattle.std.proofs.Common.{refl}
use Rattle.lexemes.specs.declared.token.Mark.TheVariants.{Comma}
use Rattle.auth_syntax.specs.Grammar.{type_tokens, types_tokens}
use Rattle.printed_syntax.specs.LineViews.{line_of}
use Rattle.auth_syntax.specs.Trees.{type_of}
use Rattle.printed_syntax.proofs.LineLemmas.{row_more}
use Rattle.printed_syntax.proofs.printer.Printer.types.Goals as goal

-- with a type more
pub loop-index-preserved : goal.loop-index-preserved
loop-index-preserved c =
    row_more Comma type_tokens types_tokens refl (λ t. refl) (λ t next rest. refl) type_of (line_of c.args.self.now) c.args.types.now c.loop-index.index
    c.index-types-index.result (line_of c.loop-index.self) (line_of c.separator.new.self) (line_of c.type_tree.new.self) c.loop-index.invariant
    c.in_ok-separator.ensures c.in_ok-type_tree.ensures c.index-types-index.is c.loop-index-test.true
