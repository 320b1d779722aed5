-- The verdict is that of the run and of what is left behind it.
use Rattle.std.proofs.Common.{◌≡◌, ◌≢◌, ◌∙◌, ap, subst, arith}
use Rattle.core_terms.specs.Programs.{meaning, types_of}
use Rattle.core_terms.specs.ProgramTrees.{function_of}
use Rattle.core_terms.specs.Terms.{Program, function_at}
use Rattle.core_terms.specs.Terms as tree
use Rattle.core_terms.specs.TypeTables.{type_at}
use Rattle.code_gen.specs.Programs.{program_in}
use Rattle.ideal_meaning.specs.Checked as checked
use Rattle.ideal_meaning.specs.Following.{after_bytes}
use Rattle.value_store.specs.Nodes.{AreSound}
use Rattle.value_store.specs.Stores.{nodes_in}
use Rattle.value_store.specs.declared.store.Store.{Store}
use Rattle.mode_vm.specs.Meanings.{program_of}
use Rattle.verifier_mode.specs.Verdicts.{AnswersWithRing}
use Rattle.verifier_mode.proofs.Given.{gives_with}
use Rattle.verifier_mode.proofs.Judging.{all_kept, all_taken, answered, left_over, stopped, told_as}
use Rattle.verifier_mode.proofs.TypesAlone.{spelled_by, stands_by}
use Rattle.verifier_mode.proofs.judge.judge_call.Goals as goal

-- the nodes of a store with the program's limit
sound_at : (P : Program) (store : Store) → store.limit ≡ P.format.limit → AreSound P.format.limit (nodes_in store)
sound_at P store is = subst (λ n. AreSound n (nodes_in store)) is store.sound

pub returns-in_err-run-clause-verdict : goal.returns-in_err-run-clause-verdict
returns-in_err-run-clause-verdict g c vs bytes recent stand told holds =
    let P = program_of c.args.code.now in
    let z = (function_at P c.args.role.0).result in
    gives_with (AnswersWithRing P c.args.role.0 (checked.judge g.H.Hash32.hash P c.args.role.0 vs c.args.fuel bytes c.args.ring.size recent)) _ _ c.from_residual.ensures.1
    (stopped P (nodes_in c.checked_run.new.store) z z c.args.ring.size (g.S.Source.left c.checked_run.new.source) (after_bytes P.format.limit bytes c.args.ring.size recent) _ _
    (c.in_err-run.ensures.is vs bytes recent stand told holds))

pub returns-then-left-gt0-clause-verdict : goal.returns-then-left-gt0-clause-verdict
returns-then-left-gt0-clause-verdict g c vs bytes recent stand told holds =
    let P = program_of c.args.code.now in
    let z = (function_at P c.args.role.0).result in
    let is = c.in_ok-run.ensures.is vs bytes recent stand told holds in
    let some : c.in_ok-left.left ≢ 0 = omega (arith, c.if-left-gt0.true) in
    left_over P (nodes_in c.checked_run.new.store) (sound_at P c.checked_run.new.store (ap (λ l. l.limit) c.in_ok-run.ensures.lent ∙ c.requires.limit.is)) z (g.S.Source.left c.checked_run.new.source) _ is.2.bytes is.2.told
    c.in_ok-run.run'.0 (g.S.Source.left c.count_rest.new.source) c.in_ok-left.left is.0
    (c.in_ok-left.ensures.counts is.2.bytes is.2.told) some

pub returns-clause-verdict : goal.returns-clause-verdict
returns-clause-verdict g c vs bytes recent stand told holds =
    let p = program_in c.args.code.now in
    let P = program_of c.args.code.now in
    let z = (function_at P c.args.role.0).result in
    let nodes = nodes_in c.checked_run.new.store in
    let is = c.in_ok-run.ensures.is vs bytes recent stand told holds in
    let none : c.in_ok-left.left ≡ 0 = omega (arith, c.if-left-gt0.false) in
    let all = all_taken is.2.bytes (g.S.Source.left c.count_rest.new.source) c.in_ok-left.left none (c.in_ok-left.ensures.counts is.2.bytes is.2.told) in
    let program : c.program.result.now ≡ p = c.program.ensures in
    let at : type_at (types_of p) c.function.result.now.result ≡ z =
    ap (λ (f : tree.Function). f.result) (subst (λ q. function_of (types_of q) c.function.result.now ≡ function_at (meaning q) c.args.role.0) program c.function.ensures.function) in
    let spelled = spelled_by p c.types.result.now c.types.ensures nodes c.function.result.now.result z at c.in_ok-run.run'.0 c.in_ok-told.told c.in_ok-told.ensures in
    answered P nodes (sound_at P c.checked_run.new.store (ap (λ l. l.limit) c.in_ok-run.ensures.lent ∙ c.requires.limit.is)) z (g.S.Source.left c.checked_run.new.source) _ is.2.bytes is.2.told c.in_ok-run.run'.0 c.in_ok-told.told is.0 all.0 spelled

pub returns-clause-ring : goal.returns-clause-ring
returns-clause-ring g c bytes recent told holds =
    let P = program_of c.args.code.now in
    let is = c.in_ok-run.ensures.is c.requires.stand.0 bytes recent c.requires.stand.1 told holds in
    let none : c.in_ok-left.left ≡ 0 = omega (arith, c.if-left-gt0.false) in
    let all = all_taken is.2.bytes (g.S.Source.left c.count_rest.new.source) c.in_ok-left.left none (c.in_ok-left.ensures.counts is.2.bytes is.2.told) in
    all_kept P.format.limit c.args.ring.size c.in_ok-run.run'.1 (g.S.Source.left c.checked_run.new.source) (after_bytes P.format.limit bytes c.args.ring.size recent) is.1 is.2 all.0

pub returns-clause-end : goal.returns-clause-end
returns-clause-end g c bytes recent told holds =
    let is = c.in_ok-run.ensures.is c.requires.stand.0 bytes recent c.requires.stand.1 told holds in
    let none : c.in_ok-left.left ≡ 0 = omega (arith, c.if-left-gt0.false) in
    (all_taken is.2.bytes (g.S.Source.left c.count_rest.new.source) c.in_ok-left.left none (c.in_ok-left.ensures.counts is.2.bytes is.2.told)).1

pub returns-clause-told : goal.returns-clause-told
returns-clause-told g c =
    let p = program_in c.args.code.now in
    let P = program_of c.args.code.now in
    let z = (function_at P c.args.role.0).result in
    let store = c.checked_run.new.store in
    let at : type_at (types_of p) c.function.result.now.result ≡ z =
    ap (λ (f : tree.Function). f.result) (subst (λ q. function_of (types_of q) c.function.result.now ≡ function_at (meaning q) c.args.role.0) c.program.ensures c.function.ensures.function) in
    told_as P (nodes_in store) (sound_at P store (ap (λ l. l.limit) c.in_ok-run.ensures.lent ∙ c.requires.limit.is)) z c.in_ok-run.run'.0 c.in_ok-told.told c.in_ok-run.ensures.stands
    (spelled_by p c.types.result.now c.types.ensures (nodes_in store) c.function.result.now.result z at c.in_ok-run.run'.0 c.in_ok-told.told c.in_ok-told.ensures)

pub spelled-requires : goal.spelled-requires
spelled-requires g c =
    let p = program_in c.args.code.now in
    let z = (function_at (program_of c.args.code.now) c.args.role.0).result in
    let at : type_at (types_of p) c.function.result.now.result ≡ z =
    ap (λ (f : tree.Function). f.result) (subst (λ q. function_of (types_of q) c.function.result.now ≡ function_at (meaning q) c.args.role.0) c.program.ensures c.function.ensures.function) in
    stands_by p c.types.result.now c.types.ensures (nodes_in c.checked_run.new.store) c.function.result.now.result z at c.in_ok-run.run'.0 c.in_ok-run.ensures.stands
