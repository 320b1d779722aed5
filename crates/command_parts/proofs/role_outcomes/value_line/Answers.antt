use Rattle.std.proofs.Common.{◌<◌, ◌^◌, length, sym, ◌∙◌, subst}
use Rattle.std.proofs.lemmas.Result.{IfOk-weaker}
use Rattle.sha2.specs.Sha256.{sha256}
use Rattle.sha2.proofs.Facts256.{length-sha256}
use Rattle.core_terms.specs.Programs.{meaning, types_of}
use Rattle.core_terms.specs.Projection.{projection}
use Rattle.core_terms.specs.TypeTables.{type_at}
use Rattle.core_terms.specs.Values.{Value}
use Rattle.core_terms.specs.declared.program_types.Types.{Types}
use Rattle.value_store.specs.Standing.{StandsFor, VerifierNodes}
use Rattle.value_store.specs.Stores.{nodes_in}
use Rattle.shallow_codec.specs.ProgramTypes.{table, ty_of}
use Rattle.command_parts.proofs.MarkedStates.{projected}
use Rattle.command_parts.proofs.RoleReports.{line_told}
use Rattle.command_parts.proofs.role_outcomes.value_line.Goals as goal

pub spell-requires : goal.spell-requires
spell-requires c =
    let p = c.args.program.now in
    let t = type_at (types_of p) c.args.ty in
    subst (λ (types : Types). (v : Value) × StandsFor VerifierNodes (table types) (nodes_in c.args.store.now) c.args.value.0 (ty_of types c.args.ty) v) (sym c.types.ensures)
    (projection sha256 (meaning p) t c.requires.0, projected p (nodes_in c.args.store.now) t c.requires.0 c.args.value.0 c.requires.1)

pub returns : goal.returns
returns c =
    let p = c.args.program.now in
    let t = type_at (types_of p) c.args.ty in
    let by_program = rw c.types.ensures at c.in_ok-spelled.ensures.projected in
    IfOk-weaker c.named_done_line.result _ _
    (λ line told v h. line_told p c.args.store.now.limit c.args.store.now.greatest (nodes_in c.args.store.now) c.args.store.now.sound t v c.args.value.0 h c.in_ok-spelled.spelled line.items (by_program sha256 v length-sha256 h)
    (λ w shallow short is. told w shallow (subst (λ bytes. length bytes < 2 ^ 32) (sym c.as_bytes.ensures) short) (c.as_bytes.ensures ∙ is))) c.named_done_line.ensures
