-- What is put before the run, and the verdict behind it.
use Rattle.std.proofs.Common.{◌≡◌, ◌∙◌, Ok, Err, refl, ap, subst}
use Rattle.core_terms.specs.Formats.{IsHash}
use Rattle.core_terms.specs.Programs.{meaning, types_of}
use Rattle.core_terms.specs.ProgramTrees.{function_of}
use Rattle.core_terms.specs.ProgramTypes.{types_meaning}
use Rattle.core_terms.specs.Terms.{function_at}
use Rattle.core_terms.specs.Terms as tree
use Rattle.core_terms.specs.TypeTables.{type_at}
use Rattle.core_terms.specs.Values.{AndV, NoV}
use Rattle.core_terms.specs.declared.outcome.Outcome.{Outcome}
use Rattle.code_gen.specs.Programs.{program_in}
use Rattle.value_store.specs.Nodes.{AreSound}
use Rattle.value_store.specs.Stores.{nodes_in}
use Rattle.value_store.specs.declared.node.Ref.{Ref}
use Rattle.mode_vm.specs.Meanings.{program_of}
use Rattle.mode_vm.proofs.Answering.{came_on}
use Rattle.mode_vm.proofs.StateCalls.{is_format, is_typed}
use Rattle.verifier_mode.proofs.Given.{gives_with}
use Rattle.verifier_mode.proofs.Parameters.{both_stand}
use Rattle.verifier_mode.proofs.TypesAlone.{argument_by, put_by, spelled_by, stands_by}
use Rattle.piece_fetch.specs.Answerings.{MayGive, MayStop}
use Rattle.piece_fetch.specs.Faults.{fault_cause}
use Rattle.piece_fetch.specs.Verdicts.{Judges, call_verdict, verdict_of}
use Rattle.piece_fetch.proofs.Completing.{is_complete}
use Rattle.piece_fetch.proofs.Judged.{accepts, not_put, stopped}
use Rattle.piece_fetch.proofs.judge.verify_from.Goals as goal

pub returns-in_err-refs-clause-judges : goal.returns-in_err-refs-clause-judges
returns-in_err-refs-clause-judges g c =
    let P = program_of c.args.code.now in
    let hash = g.H.Hash32.hash in
    let put = put_by (program_in c.args.code.now) c.types-2.result.now c.types-2.ensures (nodes_in c.put_call.new.store) c.argument_of-ty.result _
    (argument_by (program_in c.args.code.now) c.program.result.now c.args.role.0 c.argument_of-ty.result c.program.ensures c.argument_of-ty.ensures)
    c.args.state.now c.args.argument.now (Err c.in_err-refs.field-0.0) c.in_err-refs.ensures.put in
    gives_with (Judges hash g.F.Fetch.gives P c.args.role.0 c.args.state.now c.args.argument.now c.args.fuel c.args.from.now c.args.from.now)
    (call_verdict c.in_err-refs.field-0.0) _ c.from_residual.ensures.1
    (not_put hash g.F.Fetch.gives P c.args.role.0 c.args.state.now c.args.argument.now c.args.fuel c.args.from.now (nodes_in c.put_call.new.store) c.in_err-refs.field-0.0 put)

pub fetched_run-requires-clause-stand : goal.fetched_run-requires-clause-stand
fetched_run-requires-clause-stand g c κs within =
    let P = program_of c.args.code.now in
    let put = put_by (program_in c.args.code.now) c.types-2.result.now c.types-2.ensures (nodes_in c.put_call.new.store) c.argument_of-ty.result _
    (argument_by (program_in c.args.code.now) c.program.result.now c.args.role.0 c.argument_of-ty.result c.program.ensures c.argument_of-ty.ensures)
    c.args.state.now c.args.argument.now (Ok c.in_ok-refs.refs) c.in_ok-refs.ensures.put in
    (AndV put.0 (AndV put.1 NoV), both_stand P c.args.role.0 c.requires.role (nodes_in c.put_call.new.store) _ (AndV put.0 (AndV put.1 NoV)) put.4)

pub returns-in_err-outcome-clause-judges : goal.returns-in_err-outcome-clause-judges
returns-in_err-outcome-clause-judges g c =
    let P = program_of c.args.code.now in
    let hash = g.H.Hash32.hash in
    let gives = g.F.Fetch.gives in
    let put = put_by (program_in c.args.code.now) c.types-2.result.now c.types-2.ensures (nodes_in c.put_call.new.store) c.argument_of-ty.result _
    (argument_by (program_in c.args.code.now) c.program.result.now c.args.role.0 c.argument_of-ty.result c.program.ensures c.argument_of-ty.ensures)
    c.args.state.now c.args.argument.now (Ok c.in_ok-refs.refs) c.in_ok-refs.ensures.put in
    let stand = both_stand P c.args.role.0 c.requires.role (nodes_in c.put_call.new.store) _ (AndV put.0 (AndV put.1 NoV)) put.4 in
    let stop = c.in_err-outcome.field-0.0 in
    let came = came_on (λ v a w. MayGive hash gives v a w) (λ v a f w. MayStop hash gives v a (fault_cause f) w) fault_cause (Outcome Ref) (Err stop) c.args.from.now c.fetched_run.new.from _ _
    c.in_err-outcome.ensures.is (λ got h. h (AndV put.0 (AndV put.1 NoV)) stand) in
    gives_with (Judges hash gives P c.args.role.0 c.args.state.now c.args.argument.now c.args.fuel c.args.from.now c.fetched_run.new.from)
    (verdict_of stop) _ c.from_residual-in_err-outcome.ensures.1
    (stopped hash P c.args.role.0 c.args.state.now c.args.argument.now c.args.fuel put.0 put.1 put.2 put.3 gives c.args.from.now c.fetched_run.new.from
    (nodes_in c.fetched_run.new.store) stop came)

pub spelled-requires : goal.spelled-requires
spelled-requires g c =
    let p = program_in c.args.code.now in
    let z = (function_at (program_of c.args.code.now) c.args.role.0).result in
    let at : type_at (types_of p) c.function.result.now.result ≡ z =
    ap (λ (f : tree.Function). f.result) (subst (λ q. function_of (types_of q) c.function.result.now ≡ function_at (meaning q) c.args.role.0) c.program-2.ensures c.function.ensures.function) in
    stands_by p c.types-3.result.now c.types-3.ensures (nodes_in c.fetched_run.new.store) c.function.result.now.result z at c.in_ok-outcome.outcome c.in_ok-outcome.ensures.stands

pub returns-clause-judges : goal.returns-clause-judges
returns-clause-judges g c =
    let p = program_in c.args.code.now in
    let P = program_of c.args.code.now in
    let z = (function_at P c.args.role.0).result in
    let hash = g.H.Hash32.hash in
    -- the law of the bound holds in every world like this one, and this one is like itself
    let is_hash : IsHash hash = (g.met.H.Hash32 g.world.𝓛 g.world.𝓜 g.world.𝓡 ((λ s x. x), (λ x. x), (λ x. x), (λ x. x))).digest_length in
    let gives = g.F.Fetch.gives in
    let nodes = nodes_in c.fetched_run.new.store in
    let put = put_by p c.types-2.result.now c.types-2.ensures (nodes_in c.put_call.new.store) c.argument_of-ty.result _
    (argument_by p c.program.result.now c.args.role.0 c.argument_of-ty.result c.program.ensures c.argument_of-ty.ensures)
    c.args.state.now c.args.argument.now (Ok c.in_ok-refs.refs) c.in_ok-refs.ensures.put in
    let stand = both_stand P c.args.role.0 c.requires.role (nodes_in c.put_call.new.store) _ (AndV put.0 (AndV put.1 NoV)) put.4 in
    let outcome = c.in_ok-outcome.outcome in
    let came = came_on (λ v a w. MayGive hash gives v a w) (λ v a f w. MayStop hash gives v a (fault_cause f) w) fault_cause (Outcome Ref) (Ok outcome) c.args.from.now c.fetched_run.new.from _ _
    c.in_ok-outcome.ensures.is (λ got h. h (AndV put.0 (AndV put.1 NoV)) stand) in
    let at : type_at (types_of p) c.function.result.now.result ≡ z =
    ap (λ (f : tree.Function). f.result) (subst (λ q. function_of (types_of q) c.function.result.now ≡ function_at (meaning q) c.args.role.0) c.program-2.ensures c.function.ensures.function) in
    let spelled = spelled_by p c.types-3.result.now c.types-3.ensures nodes c.function.result.now.result z at outcome c.in_ok-spelled.field-0 c.in_ok-spelled.ensures in
    let limit : c.fetched_run.new.store.limit ≡ P.format.limit =
    ap (λ l. l.limit) c.in_ok-outcome.ensures.lent ∙ c.in_ok-refs.ensures.limit ∙ c.new-store.ensures.limit ∙ c.spelling_limit.ensures.limit ∙ ap (λ t. (types_meaning t).format.limit) c.types.ensures in
    let sound = subst (λ n. AreSound n nodes) limit c.fetched_run.new.store.sound in
    accepts hash P c.args.role.0 c.args.state.now c.args.argument.now c.args.fuel put.0 put.1 put.2 put.3 gives c.args.from.now c.fetched_run.new.from nodes
    is_hash (is_format p) (is_typed p) (λ t bytes. refl) c.requires.role sound outcome c.in_ok-spelled.field-0 came spelled

pub returns-in_err-refs-clause-complete : goal.returns-in_err-refs-clause-complete
returns-in_err-refs-clause-complete g c =
    let p = program_in c.args.code.now in
    let is_hash : IsHash g.H.Hash32.hash = (g.met.H.Hash32 g.world.𝓛 g.world.𝓜 g.world.𝓡 ((λ s x. x), (λ x. x), (λ x. x), (λ x. x))).digest_length in
    is_complete g.H.Hash32.hash is_hash (program_of c.args.code.now) (is_format p) (is_typed p) (λ t bytes. refl) c.args.role.0 c.requires.role c.args.state.now c.args.argument.now c.args.fuel
    g.F.Fetch.gives c.args.from.now c.args.from.now c.from_residual.result (returns-in_err-refs-clause-judges g c)

pub returns-in_err-outcome-clause-complete : goal.returns-in_err-outcome-clause-complete
returns-in_err-outcome-clause-complete g c =
    let p = program_in c.args.code.now in
    let is_hash : IsHash g.H.Hash32.hash = (g.met.H.Hash32 g.world.𝓛 g.world.𝓜 g.world.𝓡 ((λ s x. x), (λ x. x), (λ x. x), (λ x. x))).digest_length in
    is_complete g.H.Hash32.hash is_hash (program_of c.args.code.now) (is_format p) (is_typed p) (λ t bytes. refl) c.args.role.0 c.requires.role c.args.state.now c.args.argument.now c.args.fuel
    g.F.Fetch.gives c.args.from.now c.fetched_run.new.from c.from_residual-in_err-outcome.result (returns-in_err-outcome-clause-judges g c)

pub returns-clause-complete : goal.returns-clause-complete
returns-clause-complete g c =
    let p = program_in c.args.code.now in
    let is_hash : IsHash g.H.Hash32.hash = (g.met.H.Hash32 g.world.𝓛 g.world.𝓜 g.world.𝓡 ((λ s x. x), (λ x. x), (λ x. x), (λ x. x))).digest_length in
    is_complete g.H.Hash32.hash is_hash (program_of c.args.code.now) (is_format p) (is_typed p) (λ t bytes. refl) c.args.role.0 c.requires.role c.args.state.now c.args.argument.now c.args.fuel
    g.F.Fetch.gives c.args.from.now c.fetched_run.new.from (Ok c.in_ok-spelled.field-0) (returns-clause-judges g c)
