use Rattle.std.proofs.Common.{◌≡◌, [], Some, rules, sym, ap, ◌∙◌, subst}
use Rattle.sha2.specs.Sha256.{sha256}
use Rattle.core_terms.specs.Programs.{meaning}
use Rattle.core_terms.specs.ProgramTypes.{types_meaning}
use Rattle.core_terms.specs.Values.{Value}
use Rattle.core_terms.specs.declared.program_types.Types.{Types}
use Rattle.piece_mirror.specs.Filled.{all_added, pieces_in}
use Rattle.piece_mirror.specs.FilledInCode.{IsProverState}
use Rattle.piece_mirror.specs.Tables.{bytes_of}
use Rattle.value_store.specs.Stores.{nodes_in}
use Rattle.command_parts.specs.Answer.{pieces_answer, state_pieces}
use Rattle.command_parts.specs.Halting.{InHand}
use Rattle.command_parts.specs.Storing.{FindsOutput}
use Rattle.file_commands.proofs.file_pieces.file_pieces.Goals as goal

pub fill-requires : goal.fill-requires
fill-requires c =
    let state = c.args.state.now in (
      search rules,
      subst (λ (types : Types). (v : Value) × IsProverState sha256 (types_meaning types) (nodes_in state.store) state.root.0 v) (sym c.types.ensures) (c.requires.0, c.requires.1.stands),
    )

pub returns-clause-finds : goal.returns-clause-finds
unfolding state_pieces
returns-clause-finds c = λ name v is.
    let p = c.args.program.now in
    let state = c.args.state.now in
    let shown = subst (λ (types : Types). IsProverState sha256 (types_meaning types) (nodes_in state.store) state.root.0 v) (sym c.types.ensures) is.stands in
    let filled : bytes_of c.fill.new.self.pieces ≡ all_added [] (pieces_in sha256 (meaning p) v) =
    c.in_ok-fill.ensures.filled v shown
    ∙ ap (λ old. all_added old (pieces_in sha256 (types_meaning c.types.result.now) v)) c.new-mirror.ensures
    ∙ ap (λ (types : Types). all_added [] (pieces_in sha256 (types_meaning types) v)) c.types.ensures in
    subst (λ pieces. InHand (FindsOutput name (Some (pieces_answer pieces name))) c.mirror_output.result) filled (c.mirror_output.ensures.finds name)
