use Rattle.std.proofs.Common.{Ok, Err, sym, ap, ◌∙◌, subst}
use Rattle.core_terms.specs.Programs.{meaning, types_of}
use Rattle.core_terms.specs.Projection.{read_at}
use Rattle.core_terms.specs.TypeTables.{type_at}
use Rattle.value_store.specs.Markings.{HasLimit}
use Rattle.value_store.specs.Stores.{nodes_in}
use Rattle.command_parts.specs.ReadPrograms.{named_of}
use Rattle.command_parts.proofs.PutArguments.{literal_goes_on, literal_refused_for, put_refused, put_stands, read_by_types}
use Rattle.command_parts.proofs.ideal_calls.put_argument.Goals as goal

pub returns-in_err-spelling-clause-goes : goal.returns-in_err-spelling-clause-goes
returns-in_err-spelling-clause-goes c =
    literal_refused_for (named_of c.args.program.now) (type_at (types_of c.args.program.now) c.args.ty) c.args.text.now _ c.in_err-spelling.field-0.0 c.from_residual.result
    c.from_residual.ensures.1 c.in_err-spelling.ensures

pub returns-in-Ok-clause-goes : goal.returns-in-Ok-clause-goes
returns-in-Ok-clause-goes c =
    let p = c.args.program.now in
    let t = type_at (types_of p) c.args.ty in
    let bytes = c.in_ok-spelling.spelling in
    let value = read_by_types p c.types.result.now c.types.ensures (nodes_in c.unspell.new.store) c.args.ty c.as_bytes.result.now (Ok c.in-Ok.value) c.in-Ok.ensures.value in (
      c.in_ok-spelling.ensures.0,
      literal_goes_on p t c.args.text.now bytes c.in_ok-spelling.ensures,
      put_stands p t c.args.text.now bytes c.in_ok-spelling.ensures _ _ value.0 value.1 c.requires.plain
          (ap (λ bs. read_at (meaning p) t bs) (sym c.as_bytes.ensures) ∙ value.2) value.3,
    )

pub unreachable-requires : goal.unreachable-requires
unreachable-requires c =
    let p = c.args.program.now in
    let t = type_at (types_of p) c.args.ty in
    absurd (put_refused p t c.args.text.now c.in_ok-spelling.spelling c.in_ok-spelling.ensures (nodes_in c.unspell.new.store) c.as_bytes.result.now _ _ c.as_bytes.ensures c.in-Err-Bad.field-0-is
    (read_by_types p c.types.result.now c.types.ensures (nodes_in c.unspell.new.store) c.args.ty c.as_bytes.result.now (Err c.in-Err-Bad.field-0) c.in-Err-Bad.ensures.value))

pub returns-in-Ok-clause-limit : goal.returns-in-Ok-clause-limit
returns-in-Ok-clause-limit c = subst (HasLimit (meaning c.args.program.now)) (sym c.unspell.ensures.lent) c.requires.limit

pub returns-clause-limit : goal.returns-clause-limit
returns-clause-limit c = subst (HasLimit (meaning c.args.program.now)) (sym c.unspell.ensures.lent) c.requires.limit
