use Rattle.std.proofs.Common.{◌≡◌, Ok, Err, ap, ◌∙◌, subst}
use Rattle.core_terms.specs.ProgramTypes.{types_meaning}
use Rattle.core_terms.specs.declared.digest.Digest.{Digest}
use Rattle.core_terms.specs.declared.program.Program.{Program}
use Rattle.core_terms.specs.declared.program_types.Types.{Types}
use Rattle.code_gen.specs.Programs.{program_in}
use Rattle.images.specs.Images.{Refused, image_of}
use Rattle.images.specs.LoadedRoots.{LoadsOver}
use Rattle.mode_vm.specs.Meanings.{program_of}
use Rattle.value_store.specs.Markings.{ProverMarking}
use Rattle.version_journal.proofs.Reopening.{refuses_so}
use Rattle.version_journal.proofs.opening.first_version.Goals as goal

pub returns-in-Ok : goal.returns-in-Ok
returns-in-Ok g c =
    let hash = g.H.Hash32.hash in
    let marking = ProverMarking hash in
    let p = program_in c.args.code.now in
    let text = c.text_digest.ensures ∙ ap (λ (q : Program). q.text_digest) c.program.ensures in
    let loaded =
    subst (λ (t : Types). LoadsOver marking (types_meaning t) (image_of (types_meaning t) p.text_digest.0 c.args.image.now) (Ok c.in-Ok.loaded)) c.types-types.ensures
    (subst (λ (d : Digest). LoadsOver marking (types_meaning c.types-types.result.now) (image_of (types_meaning c.types-types.result.now) d.0 c.args.image.now) (Ok c.in-Ok.loaded)) text c.in-Ok.ensures.loads) in
    let limit = subst (λ (t : Types). c.in-Ok.loaded.store.limit ≡ (types_meaning t).format.limit) c.types-types.ensures c.in-Ok.ensures.limit.is in
    (loaded.0, loaded.1, c.in_ok-new-in-Ok.ensures hash (program_of c.args.code.now) loaded.0 (record { is = limit }) loaded.2)

pub returns : goal.returns
returns g c =
    let marking = ProverMarking g.H.Hash32.hash in
    let p = program_in c.args.code.now in
    let text = c.text_digest.ensures ∙ ap (λ (q : Program). q.text_digest) c.program.ensures in
    let loaded =
    subst (λ (t : Types). LoadsOver marking (types_meaning t) (image_of (types_meaning t) p.text_digest.0 c.args.image.now) (Err c.in-Err.fault)) c.types-types.ensures
    (subst (λ (d : Digest). LoadsOver marking (types_meaning c.types-types.result.now) (image_of (types_meaning c.types-types.result.now) d.0 c.args.image.now) (Err c.in-Err.fault)) text c.in-Err.ensures.loads) in
    refuses_so (λ f. image_of (program_of c.args.code.now) p.text_digest.0 c.args.image.now ≡ Refused f) c.in-Err.fault c.image_refused.result loaded c.image_refused.ensures
