use Rattle.std.proofs.Common.{refl, slice_index_or, arith}
use Rattle.std.proofs.lemmas.Result.{err_from_is_err_and}
use Rattle.core_terms.specs.ProgramTrees.{types_at}
use Rattle.core_terms.specs.ProgramTypes.{types_by_number}
use Rattle.core_terms.specs.TypeTables.{type_at}
use Rattle.core_terms.specs.declared.types.TyId.{TyId}
use Rattle.object_meaning.specs.WrittenObjects.{with_type, with_types}
use Rattle.object_writer.specs.Numberings.{listed}
use Rattle.object_writer.proofs.ListedParts.{types_grow}
use Rattle.object_writer.proofs.Loops.{lists_on, lists_no_more, lists_all}
use Rattle.object_writer.proofs.walk.list_all.Goals as goal

pub returns-in_err-list : goal.returns-in_err-list
returns-in_err-list c =
    let p = err_from_is_err_and c.from_residual.result c.from_residual.ensures.1 in
    let types = types_by_number c.args.types.now in
    let l = c.loop-ty in
    let ids = c.args.listing.now in
    let ty : TyId = slice_index_or ids l.ty-index (record { 0 = 0 }) in
    rw (p.1, p.2) (lists_no_more (λ list ids. with_types list (types_at types ids)) (λ list ty. with_type list (type_at types ty)) (λ list x xs. refl) (λ list. refl) (λ list xs. types_grow list (types_at types xs))
    ids _ (listed c.args.types.now l.numbering) l.ty-index l.invariant.1 ty (record { 0 = 0 }) _ (omega arith) refl c.in_err-list.ensures)

pub loop-ty-preserved : goal.loop-ty-preserved
loop-ty-preserved c =
    let types = types_by_number c.args.types.now in
    let l = c.loop-ty in
    let ids = c.args.listing.now in
    let ty : TyId = slice_index_or ids l.ty-index (record { 0 = 0 }) in (
      c.in_ok-list.ensures.right,
      lists_on (λ list ids. with_types list (types_at types ids)) (λ list ty. with_type list (type_at types ty)) (λ list x xs. refl) (λ list. refl) (λ list xs. types_grow list (types_at types xs))
          ids _ (listed c.args.types.now l.numbering) l.ty-index l.invariant.1 ty (record { 0 = 0 }) _ (omega arith) refl c.in_ok-list.ensures.all,
    )

pub returns : goal.returns
returns c =
    let types = types_by_number c.args.types.now in
    let l = c.loop-ty in
    record {
      right = l.invariant.0;
      all = lists_all (λ list ids. with_types list (types_at types ids)) (λ list ty. with_type list (type_at types ty)) (λ list x xs. refl) (λ list. refl) (λ list xs. types_grow list (types_at types xs))
          c.args.listing.now _ (listed c.args.types.now l.numbering) l.ty-index l.invariant.1 (omega arith);
    }
