use Rattle.std.proofs.Common.{[]}
use Rattle.core_terms.specs.Programs.{types_in}
use Rattle.core_terms.specs.TypeTables.{type_of_form}
use Rattle.code_check.proofs.SteppedFrames.{one_without}
use Rattle.code_check.proofs.operations.without_plain.Goals as goal

pub returns-clause-left : goal.returns-clause-left
returns-clause-left c =
    one_without (types_in c.args.lists.now.types) (types_in c.plain.new.lists.types) (types_in c.without.new.lists.types) c.in_ok-ty.ty (type_of_form [] c.args.form) c.args.operands c.without.result
    c.in_ok-ty.ensures.grows c.in_ok-ty.ensures.ty c.without.ensures.left
