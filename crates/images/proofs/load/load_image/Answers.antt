use Rattle.std.proofs.Common.{◌≡◌, Err}
use Rattle.std.proofs.lemmas.Result.{err_from_is_err_and}
use Rattle.value_store.specs.Stores.{nodes_in}
use Rattle.images.proofs.LoadedImages.{fault_told, header_fault, records_fault, root_fault, root_told, with_header}
use Rattle.images.proofs.load.load_image.Goals as goal

pub returns-in_err-header-clause-loads : goal.returns-in_err-header-clause-loads
returns-in_err-header-clause-loads g c =
    let m = g.M.Marker.marking in
    let types = c.args.types.now in
    let digest = c.args.text_digest.now.0 in
    let bytes = c.args.bytes.now in
    let fault = c.in_err-header.field-0.0 in
    let err = err_from_is_err_and c.from_residual.result c.from_residual.ensures.1 in
    let same : c.from_residual.result ≡ Err fault = cc in
    fault_told m types digest bytes fault c.from_residual.result same (header_fault m types digest bytes fault c.in_err-header.ensures)

pub returns-in_err-records-clause-loads : goal.returns-in_err-records-clause-loads
returns-in_err-records-clause-loads g c =
    let m = g.M.Marker.marking in
    let types = c.args.types.now in
    let digest = c.args.text_digest.now.0 in
    let bytes = c.args.bytes.now in
    let header = c.in_ok-header.header in
    let fault = c.in_err-records.field-0.0 in
    let err = err_from_is_err_and c.from_residual-in_err-records.result c.from_residual-in_err-records.ensures.1 in
    let same : c.from_residual-in_err-records.result ≡ Err fault = cc in
    fault_told m types digest bytes fault c.from_residual-in_err-records.result same
    (records_fault m types digest bytes header.count header.records.now (with_header m types digest bytes header c.in_ok-header.ensures) fault c.in_err-records.ensures.loaded)

pub returns-in_err-root-clause-loads : goal.returns-in_err-root-clause-loads
returns-in_err-root-clause-loads g c =
    let m = g.M.Marker.marking in
    let types = c.args.types.now in
    let digest = c.args.text_digest.now.0 in
    let bytes = c.args.bytes.now in
    let header = c.in_ok-header.header in
    let found = c.in_ok-records.records in
    let records = c.in_ok-records.ensures.loaded in
    let fault = c.in_err-root.field-0.0 in
    let err = err_from_is_err_and c.from_residual-in_err-root.result c.from_residual-in_err-root.ensures.1 in
    let same : c.from_residual-in_err-root.result ≡ Err fault = cc in
    fault_told m types digest bytes fault c.from_residual-in_err-root.result same
    (root_fault m types digest bytes header.count header.records.now (with_header m types digest bytes header c.in_ok-header.ensures) records.0 found.rest.now records.1
    fault (c.in_err-root.ensures m (nodes_in found.store) records.0 records.2))

pub returns-clause-loads : goal.returns-clause-loads
returns-clause-loads g c =
    let m = g.M.Marker.marking in
    let types = c.args.types.now in
    let digest = c.args.text_digest.now.0 in
    let bytes = c.args.bytes.now in
    let header = c.in_ok-header.header in
    let found = c.in_ok-records.records in
    let records = c.in_ok-records.ensures.loaded in
    let root = c.in_ok-root.ensures m (nodes_in found.store) records.0 records.2 in (
      root.0,
      root_told m types digest bytes header.count header.records.now (with_header m types digest bytes header c.in_ok-header.ensures) records.0 found.rest.now records.1 root.0 root.1,
      root.2,
    )
