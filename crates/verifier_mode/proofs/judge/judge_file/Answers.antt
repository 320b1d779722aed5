-- The verdict by the header, and behind it that of the frames.
use Rattle.std.proofs.Common.{◌≡◌, ℕ, List, [], drop, Option, Result, Ok, Err, sym, subst}
use Rattle.core_terms.specs.ProgramTypes.{types_meaning}
use Rattle.core_terms.specs.Terms.{function_at}
use Rattle.core_terms.specs.declared.program_types.Types.{Types}
use Rattle.proof_stream.specs.TakenFrames.{TakesHeader}
use Rattle.proof_stream.specs.declared.frame.HeadEnd.{HeadEnd}
use Rattle.ideal_meaning.specs.Checked as checked
use Rattle.ideal_meaning.specs.Frames.{header}
use Rattle.mode_vm.specs.Meanings.{program_of}
use Rattle.verifier_mode.specs.Verdicts.{AnswersVerdict}
use Rattle.verifier_mode.proofs.Given.{behind_header, gives_with, no_header}
use Rattle.verifier_mode.proofs.Pieces.{holds_last}
use Rattle.verifier_mode.proofs.judge.judge_file.Goals as goal

-- a header is taken by the format of these types as by that of the same
takes_by : (t u : Types) → t ≡ u → (bytes : List ℕ) (left : Option (List ℕ)) (result : Result ℕ HeadEnd)
    → TakesHeader (types_meaning t).format.magic (types_meaning t).format.most_kept bytes left result → TakesHeader (types_meaning u).format.magic (types_meaning u).format.most_kept bytes left result
takes_by t u is bytes left result h = subst (λ t. TakesHeader (types_meaning t).format.magic (types_meaning t).format.most_kept bytes left result) is h

pub returns-in_err-size-clause-verdict : goal.returns-in_err-size-clause-verdict
returns-in_err-size-clause-verdict g c vs stand bytes told =
    let P = program_of c.args.code.now in
    gives_with (AnswersVerdict P c.args.role.0 (checked.with_header g.H.Hash32.hash P (header P.format bytes) c.args.role.0 vs c.args.fuel bytes)) _ _ c.from_residual.ensures.1
    (no_header g.H.Hash32.hash P c.args.role.0 vs c.args.fuel bytes (g.S.Source.left c.read_header.new.proof) (function_at P c.args.role.0).result _
    (takes_by _ _ c.types.ensures bytes (g.S.Source.left c.read_header.new.proof) (Err c.in_err-size.field-0.0) (c.in_err-size.ensures.takes bytes told)))

pub returns-in_err-judged-clause-verdict : goal.returns-in_err-judged-clause-verdict
returns-in_err-judged-clause-verdict g c vs stand bytes told =
    let P = program_of c.args.code.now in
    let hash = g.H.Hash32.hash in
    let takes = takes_by _ _ c.types.ensures bytes (g.S.Source.left c.read_header.new.proof) (Ok c.in_ok-size.size) (c.in_ok-size.ensures.takes bytes told) in
    let holds = holds_last c.in_ok-ring.ring c.in_ok-size.size [] c.in_ok-ring.ensures in
    let same = behind_header hash P c.args.role.0 vs c.args.fuel bytes (g.S.Source.left c.read_header.new.proof) c.in_ok-size.size c.in_ok-ring.ring takes c.in_ok-ring.ensures in
    gives_with (AnswersVerdict P c.args.role.0 (checked.with_header hash P (header P.format bytes) c.args.role.0 vs c.args.fuel bytes)) _ _ c.from_residual-in_err-judged.ensures.1
    (subst (λ v. AnswersVerdict P c.args.role.0 v (Err c.in_err-judged.field-0.0)) (sym same) (c.in_err-judged.ensures.verdict vs (drop 6 bytes) [] stand takes.1 holds))

pub returns-clause-verdict : goal.returns-clause-verdict
returns-clause-verdict g c vs stand bytes told =
    let P = program_of c.args.code.now in
    let hash = g.H.Hash32.hash in
    let takes = takes_by _ _ c.types.ensures bytes (g.S.Source.left c.read_header.new.proof) (Ok c.in_ok-size.size) (c.in_ok-size.ensures.takes bytes told) in
    let holds = holds_last c.in_ok-ring.ring c.in_ok-size.size [] c.in_ok-ring.ensures in
    let same = behind_header hash P c.args.role.0 vs c.args.fuel bytes (g.S.Source.left c.read_header.new.proof) c.in_ok-size.size c.in_ok-ring.ring takes c.in_ok-ring.ensures in
    subst (λ v. AnswersVerdict P c.args.role.0 v (Ok c.in_ok-judged.judged.0)) (sym same) (c.in_ok-judged.ensures.verdict vs (drop 6 bytes) [] stand takes.1 holds)

pub returns-clause-end : goal.returns-clause-end
returns-clause-end g c bytes told =
    let takes = takes_by _ _ c.types.ensures bytes (g.S.Source.left c.read_header.new.proof) (Ok c.in_ok-size.size) (c.in_ok-size.ensures.takes bytes told) in
    let holds = holds_last c.in_ok-ring.ring c.in_ok-size.size [] c.in_ok-ring.ensures in
    c.in_ok-judged.ensures.end (drop 6 bytes) [] takes.1 holds
