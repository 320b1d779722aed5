use Rattle.std.proofs.Common.{ℕ, ◌<◌, ◌≤◌, ◌^◌, length, refl, sym, ◌∙◌, subst}
use Rattle.sha2.specs.Sha256.{sha256}
use Rattle.sha2.proofs.Facts256.{length-sha256}
use Rattle.core_terms.specs.Programs.{meaning, types_of}
use Rattle.core_terms.specs.Projection.{digest_at, projection}
use Rattle.core_terms.specs.TypeTables.{type_at}
use Rattle.core_terms.specs.Values.{Value, size}
use Rattle.core_terms.specs.declared.program_types.Types.{Types}
use Rattle.core_terms.proofs.CodePrograms.{is_format}
use Rattle.value_store.specs.Standing.{ProverNodes, StandsFor, VerifierNodes}
use Rattle.value_store.specs.Stores.{nodes_in}
use Rattle.value_store.proofs.StandingNodes.{within_stands}
use Rattle.value_store.proofs.TypedNodes.{ideal_stands, prover_refers}
use Rattle.shallow_codec.specs.ProgramTypes.{table, ty_of}
use Rattle.command_parts.specs.ReadPrograms.{named_of}
use Rattle.command_parts.proofs.MarkedStates.{projected}
use Rattle.command_parts.proofs.StateOutputs.{state_output}
use Rattle.file_commands.proofs.shallow_state.spell_state.Goals as goal

pub spell-requires : goal.spell-requires
spell-requires c =
    let p = c.args.program.now in
    let P = meaning p in
    let nodes = nodes_in c.args.state.now.store in
    let root = c.args.state.now.root.0 in
    let t = type_at (types_of p) c.state_type-ty.result in
    let stands = subst (λ t. StandsFor (ProverNodes (digest_at sha256 P)) P.types nodes root t c.requires.0) (sym c.state_type-ty.ensures.state) c.requires.1.stands in
    subst (λ (types : Types). (v : Value) × StandsFor VerifierNodes (table types) nodes root (ty_of types c.state_type-ty.result) v) (sym c.types.ensures)
    (projection sha256 P t c.requires.0, projected p nodes t c.requires.0 root stands)

pub returns-clause-output : goal.returns-clause-output
returns-clause-output c = λ name v h.
    let p = c.args.program.now in
    let P = meaning p in
    let kind = ProverNodes (digest_at sha256 P) in
    let nodes = nodes_in c.args.state.now.store in
    let root = c.args.state.now.root.0 in
    let t = type_at (types_of p) c.state_type-ty.result in
    let stands = subst (λ t. StandsFor kind P.types nodes root t v) (sym c.state_type-ty.ensures.state) h.stands in
    let ideal = ideal_stands kind P.types (prover_refers (digest_at sha256 P) P.types) nodes P.state v root h.stands in
    let within = within_stands kind P.types nodes P.state v root c.args.state.now.store.sound h.stands in
    let fits = subst (λ (limit : ℕ). size P.types P.state v ≤ limit) h.limit.is within.size_fits in
    let by_program = rw c.types.ensures at c.in_ok-spelled.ensures.projected in
    state_output (named_of p) (is_format p) t v c.in_ok-spelled.spelled _ c.into_bytes.result ideal fits c.state_type-ty.ensures.state
    (by_program sha256 v length-sha256 stands) refl
    (λ w shallow short is. c.in_ok-text.ensures w shallow (subst (λ bytes. length bytes < 2 ^ 32) (sym c.as_bytes.ensures) short) (c.as_bytes.ensures ∙ is)) refl c.into_bytes.ensures name
