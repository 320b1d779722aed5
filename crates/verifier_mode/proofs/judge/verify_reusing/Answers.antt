-- What is read before the header, and the verdict behind it.
use Rattle.std.proofs.Common.{Ok, Err, refl, sym, subst}
use Rattle.core_terms.specs.Formats.{IsHash}
use Rattle.core_terms.specs.Roles.{argument_type}
use Rattle.core_terms.specs.Values.{AndV, NoV}
use Rattle.code_gen.specs.Programs.{program_in}
use Rattle.ideal_meaning.specs.Checked.{verdict}
use Rattle.ideal_meaning.specs.Frames.{header}
use Rattle.value_store.specs.Stores.{nodes_in}
use Rattle.mode_vm.specs.Meanings.{program_of}
use Rattle.verifier_mode.specs.Verdicts.{AnswersVerdict, VerdictCause}
use Rattle.verifier_mode.proofs.Given.{gives_with}
use Rattle.verifier_mode.proofs.Judging.{good_call, put_cause, refused}
use Rattle.verifier_mode.proofs.Parameters.{both_stand}
use Rattle.verifier_mode.proofs.SaysTrue.{says_true}
use Rattle.verifier_mode.proofs.TypesAlone.{argument_by, put_by}
use Rattle.verifier_mode.proofs.judge.verify_reusing.Goals as goal

pub returns-in_err-refs-clause-verdict : goal.returns-in_err-refs-clause-verdict
returns-in_err-refs-clause-verdict g c bytes told =
    let P = program_of c.args.code.now in
    let put = put_by (program_in c.args.code.now) c.types-2.result.now c.types-2.ensures (nodes_in c.put_call.new.store) c.argument_of-ty.result _
    (argument_by (program_in c.args.code.now) c.program.result.now c.args.role.0 c.argument_of-ty.result c.program.ensures c.argument_of-ty.ensures)
    c.args.state.now c.args.argument.now (Err c.in_err-refs.field-0.0) c.in_err-refs.ensures.put in
    gives_with (AnswersVerdict P c.args.role.0 (verdict g.H.Hash32.hash P (argument_type P c.args.role.0) c.args.role.0 c.args.state.now c.args.argument.now c.args.fuel bytes))
    _ _ c.from_residual.ensures.1
    (refused g.H.Hash32.hash P c.args.role.0 c.args.state.now c.args.argument.now c.args.fuel bytes (nodes_in c.put_call.new.store) c.in_err-refs.field-0.0 put)

pub returns-in_err-refs-clause-faults : goal.returns-in_err-refs-clause-faults
returns-in_err-refs-clause-faults g c =
    let P = program_of c.args.code.now in
    let before = g.S.Source.faults c.args.proof.now in
    let put = put_by (program_in c.args.code.now) c.types-2.result.now c.types-2.ensures (nodes_in c.put_call.new.store) c.argument_of-ty.result _
    (argument_by (program_in c.args.code.now) c.program.result.now c.args.role.0 c.argument_of-ty.result c.program.ensures c.argument_of-ty.ensures)
    c.args.state.now c.args.argument.now (Err c.in_err-refs.field-0.0) c.in_err-refs.ensures.put in
    gives_with (VerdictCause before before) _ _ c.from_residual.ensures.1
    (put_cause (Unit {0}) P (nodes_in c.put_call.new.store) (argument_type P c.args.role.0) c.args.state.now c.args.argument.now before c.in_err-refs.field-0.0 put)

pub judge_file-requires-clause-stand : goal.judge_file-requires-clause-stand
judge_file-requires-clause-stand g c κs within =
    let P = program_of c.args.code.now in
    let put = put_by (program_in c.args.code.now) c.types-2.result.now c.types-2.ensures (nodes_in c.put_call.new.store) c.argument_of-ty.result _
    (argument_by (program_in c.args.code.now) c.program.result.now c.args.role.0 c.argument_of-ty.result c.program.ensures c.argument_of-ty.ensures)
    c.args.state.now c.args.argument.now (Ok c.in_ok-refs.refs) c.in_ok-refs.ensures.put in
    (AndV put.0 (AndV put.1 NoV), both_stand P c.args.role.0 c.requires.role (nodes_in c.put_call.new.store) _ (AndV put.0 (AndV put.1 NoV)) put.4)

pub returns-clause-verdict : goal.returns-clause-verdict
returns-clause-verdict g c bytes told =
    let P = program_of c.args.code.now in
    let put = put_by (program_in c.args.code.now) c.types-2.result.now c.types-2.ensures (nodes_in c.put_call.new.store) c.argument_of-ty.result _
    (argument_by (program_in c.args.code.now) c.program.result.now c.args.role.0 c.argument_of-ty.result c.program.ensures c.argument_of-ty.ensures)
    c.args.state.now c.args.argument.now (Ok c.in_ok-refs.refs) c.in_ok-refs.ensures.put in
    let stand = both_stand P c.args.role.0 c.requires.role (nodes_in c.put_call.new.store) _ (AndV put.0 (AndV put.1 NoV)) put.4 in
    let same = good_call g.H.Hash32.hash P c.args.role.0 c.args.state.now c.args.argument.now c.args.fuel bytes put.0 put.1 put.2 put.3 (header P.format bytes) refl in
    subst (λ v. AnswersVerdict P c.args.role.0 v c.judge_file.result) (sym same) (c.judge_file.ensures.verdict (AndV put.0 (AndV put.1 NoV)) stand bytes told)

pub returns-clause-headline : goal.returns-clause-headline
returns-clause-headline g c bytes told =
    -- the law of the bound holds in every world like this one, and this one is like itself
    let is_hash : IsHash g.H.Hash32.hash = (g.met.H.Hash32 g.world.𝓛 g.world.𝓜 g.world.𝓡 ((λ s x. x), (λ x. x), (λ x. x), (λ x. x))).digest_length in
    says_true g.H.Hash32.hash is_hash (program_in c.args.code.now) c.args.role.0 c.requires.role c.args.state.now c.args.argument.now c.args.fuel bytes c.judge_file.result
    (returns-clause-verdict g c bytes told)
