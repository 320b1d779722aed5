use Rattle.std.proofs.Common.{◌<◌, ◌∙◌, length, slice_index_or, refl, arith}
use Rattle.core_terms.specs.TypeTables.{type_at}
use Rattle.core_terms.specs.declared.types.TyId.{TyId}
use Rattle.auth_types.specs.Elaborators.{locals_of, types_of}
use Rattle.auth_types.proofs.FunctionSteps.{entered_last, entered_more}
use Rattle.auth_types.proofs.RowSteps.{next_here, next_mapped, none_here}
use Rattle.auth_types.proofs.bodies.elaborator.Elaborator.enter.Goals as goal

pub loop-index-preserved : goal.loop-index-preserved
loop-index-preserved c =
    let d : TyId = record { 0 = 0 } in
    let v : TyId = slice_index_or c.args.types.now c.loop-index.index d in
    let inside : c.loop-index.index < length c.args.types.now = omega (arith, c.requires.count, c.loop-index-test.true) in
    record {
      types = c.in_ok-push.ensures.types ∙ c.loop-index.invariant.types;
      scope = c.in_ok-push.ensures.scope ∙ c.loop-index.invariant.scope;
      locals = entered_more c.args.parameters.now _ c.loop-index.index c.index-parameters-index.result (type_at (types_of c.args.self.now) v)
          (locals_of c.loop-index.self) (locals_of c.push.new.self) _
          (next_here c.args.parameters.now c.loop-index.index c.index-parameters-index.result c.index-parameters-index.result c.loop-index-test.true
          c.index-parameters-index.is)
          (next_mapped (type_at (types_of c.args.self.now)) c.args.types.now c.loop-index.index v d inside refl)
          c.loop-index.invariant.locals (rw c.loop-index.invariant.types at c.in_ok-push.ensures.locals);
    }

pub returns-clause-locals : goal.returns-clause-locals
returns-clause-locals c = λ names none same.
    entered_last _ names c.args.parameters.now _ c.loop-index.index (locals_of c.args.self.now) (locals_of c.loop-index.self)
    (none_here c.args.parameters.now c.loop-index.index c.loop-index-test.false) none same c.loop-index.invariant.locals
