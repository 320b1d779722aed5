use Rattle.std.proofs.Common.{List, length, ◌-◌, slice_index_or, ap, ◌∙◌}
use Rattle.value_store.specs.declared.node.Ref.{Ref}
use Rattle.code_gen.specs.Programs.{program_in}
use Rattle.core_terms.specs.declared.program.Program.{Program}
use Rattle.net_commands.specs.Serving.{last_version}
use Rattle.net_commands.proofs.ServePrepared.{last_has_limit, last_is_saved, last_is_state}
use Rattle.net_commands.proofs.last_version.last_image.Goals as goal

pub save_image-requires-clause-limit : goal.save_image-requires-clause-limit
save_image-requires-clause-limit c =
    let of_core = c.program-program.ensures ∙ ap program_in c.code.ensures in
    last_has_limit c.requires.0 c.args.core.now c.requires.1 c.requires.2 c.requires.3 c.types.result.now (c.types.ensures ∙ ap (λ (p : Program). p.types) of_core) c.store.result.now c.store.ensures

pub save_image-requires-clause-state : goal.save_image-requires-clause-state
save_image-requires-clause-state c =
    let s = c.requires.0 in
    let server = c.requires.1 in
    let of_core = c.program-program.ensures ∙ ap program_in c.code.ensures in (
      last_version server,
      last_is_state s c.args.core.now server c.requires.2 c.requires.3 c.types.result.now (c.types.ensures ∙ ap (λ (p : Program). p.types) of_core) (record { 0 = 0 }) _ c.store.result.now
          c.store.ensures (ap (λ (refs : List Ref). slice_index_or refs (length refs - 1) (record { 0 = 0 })) c.versions-versions.ensures),
    )

pub returns : goal.returns
returns c = λ s server holds is.
    let of_core = c.program-program.ensures ∙ ap program_in c.code.ensures in
    let types = c.types.ensures ∙ ap (λ (p : Program). p.types) of_core in
    last_is_saved s c.args.core.now server holds is c.types.result.now types c.text_digest.result.now c.save_image.result (c.text_digest.ensures ∙ ap (λ (p : Program). p.text_digest) of_core)
    (c.save_image.ensures.saved (last_version server)
    (last_is_state s c.args.core.now server holds is c.types.result.now types (record { 0 = 0 }) _ c.store.result.now
    c.store.ensures (ap (λ (refs : List Ref). slice_index_or refs (length refs - 1) (record { 0 = 0 })) c.versions-versions.ensures)))
