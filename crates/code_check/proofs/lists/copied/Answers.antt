use Rattle.std.proofs.Common.{◌∙◌, arith}
use Rattle.core_terms.specs.Programs.{types_in}
use Rattle.code_check.proofs.CopiedTables.{copied_more}
use Rattle.code_check.proofs.lists.copied.Goals as goal

pub loop-number-preserved : goal.loop-number-preserved
loop-number-preserved c = record {
  types =
      copied_more (types_in c.args.types.now) (types_in c.loop-number.lists.types) (types_in c.interned.new.lists.types) c.loop-number.number c.form.result c.in_ok-interned.field-0.0
      c.args.types.now.one_number (omega (arith, c.loop-number-test.true, c.len-number-end.ensures)) c.form.ensures.parts c.form.ensures.form c.loop-number.invariant.types c.in_ok-interned.ensures.either c.in_ok-interned.ensures.ty;
  format = c.in_ok-interned.ensures.format ∙ c.loop-number.invariant.format;
}
