use Rattle.std.proofs.Common.{[], refl, sym, ap, ◌∙◌}
use Rattle.core_terms.specs.Reading.{BadAt}
use Rattle.ask_core.proofs.Reading.{at_argument, bad_at, role_reads}
use Rattle.ask_core.proofs.checks.spelled_call.Goals as goal

pub returns-in_ok-from_slice-in-Ok : goal.returns-in_ok-from_slice-in-Ok
returns-in_ok-from_slice-in-Ok c =
    let code = c.args.code.now in
    let good = c.in-Ok.ensures in (
      refl,
      c.new-argument.ensures ∙ c.in_ok-from_slice-in-Ok.ensures.items,
      refl,
      role_reads code c.types.result.now c.types.ensures c.args.argument.now c.program.result.now c.program.ensures c.args.role c.in-Some.called.now c.in-Some.ensures.called,
      (
        good.0,
        [],
        good.1,
        at_argument code c.types.result.now c.types.ensures c.args.argument.now c.program.result.now c.program.ensures c.args.role c.in-Some.called.now c.in-Some.ensures.called
            ∙ good.2,
      ),
    )

pub returns-in-Err-Bad : goal.returns-in-Err-Bad
returns-in-Err-Bad c =
    let code = c.args.code.now in (
      role_reads code c.types.result.now c.types.ensures c.args.argument.now c.program.result.now c.program.ensures c.args.role c.in-Some.called.now c.in-Some.ensures.called,
      at_argument code c.types.result.now c.types.ensures c.args.argument.now c.program.result.now c.program.ensures c.args.role c.in-Some.called.now c.in-Some.ensures.called
          ∙ bad_at _ c.in-Err-Bad.field-0 c.in-Err-Bad.offset c.in-Err-Bad.field-0-is c.in-Err-Bad.ensures ∙ ap BadAt (sym c.in-Err-Bad.offset-is),
    )
