-- A difference is told, or the outcome with its spelling.
use Rattle.std.proofs.Common.{◌≡◌, Ok, map, refl, ap, ◌∙◌, subst}
use Rattle.core_terms.specs.Programs.{meaning, types_of}
use Rattle.core_terms.specs.ProgramTrees.{function_of}
use Rattle.core_terms.specs.ProgramTypes.{types_by_number, types_meaning}
use Rattle.core_terms.specs.Terms.{function_at}
use Rattle.core_terms.specs.Terms as tree
use Rattle.core_terms.specs.TypeTables.{type_at}
use Rattle.code_gen.specs.Programs.{program_in}
use Rattle.ideal_meaning.specs.Frames.{header}
use Rattle.ideal_meaning.specs.Ideal.{honest_piece, outcome_projection}
use Rattle.mode_vm.specs.Meanings.{program_of}
use Rattle.collision_audit.specs.Splits.{rest_behind}
use Rattle.collision_audit.specs.Comparing.{ComparesAll}
use Rattle.collision_audit.specs.PieceAudits.{audit_file, run_audit}
use Rattle.collision_audit.proofs.Audits.{file_told, outcome_told, spells_too, tells_difference}
use Rattle.collision_audit.proofs.auditing.audit_run.Goals as goal

pub returns-in-Some-clause-tells : goal.returns-in-Some-clause-tells
returns-in-Some-clause-tells g c o seen proved h bytes told =
    let hash = g.H.Hash32.hash in
    let p = program_in c.args.code.now in
    let P = program_of c.args.code.now in
    let f = c.args.role.0 in
    let nodes = g.N.Nodes.nodes c.args.store.now in
    let left = g.S.Source.left c.args.proof.now in
    let left' = g.S.Source.left c.compare_file.new.proof in
    let compares = file_told hash nodes left left' (Ok c.in_ok-answer.field-0) c.types-2.result.now p.types c.deref.result.now c.args.run.now.opened.items c.types-2.ensures c.deref.ensures.value
    c.in_ok-answer.ensures.compares in
    let is = subst
    (λ r. ComparesAll (λ o. audit_file hash P.format o (map (honest_piece hash P) seen) (header P.format bytes) bytes) (rest_behind P.format bytes) left' (Ok r)) c.in-Some.is (compares seen h bytes told) in
    tells_difference P f (run_audit hash P f o seen bytes) c.in-Some.answer (is.0 (outcome_projection hash P (function_at P f).result o))

pub returns-clause-tells : goal.returns-clause-tells
returns-clause-tells g c o seen proved h bytes told =
    let hash = g.H.Hash32.hash in
    let p = program_in c.args.code.now in
    let P = program_of c.args.code.now in
    let f = c.args.role.0 in
    let z = (function_at P f).result in
    let nodes = g.N.Nodes.nodes c.args.store.now in
    let left = g.S.Source.left c.args.proof.now in
    let left' = g.S.Source.left c.compare_file.new.proof in
    let compares = file_told hash nodes left left' (Ok c.in_ok-answer.field-0) c.types-2.result.now p.types c.deref.result.now c.args.run.now.opened.items c.types-2.ensures c.deref.ensures.value
    c.in_ok-answer.ensures.compares in
    let is = subst
    (λ r. ComparesAll (λ o. audit_file hash P.format o (map (honest_piece hash P) seen) (header P.format bytes) bytes) (rest_behind P.format bytes) left' (Ok r)) c.in-None.is (compares seen h bytes told) in
    let at : type_at (types_of p) c.function.result.now.result ≡ z =
    ap (λ (f : tree.Function). f.result) (subst (λ q. function_of (types_of q) c.function.result.now ≡ function_at (meaning q) f) c.program.ensures c.function.ensures.function) in
    let spelled = outcome_told hash nodes c.args.run.now.value c.in_ok-outcome-in-None.outcome c.types-in-None.result.now p.types
    (type_at (types_by_number c.types-in-None.result.now) c.function.result.now.result) z c.types-in-None.ensures
    (ap (λ ts. type_at (types_by_number ts) c.function.result.now.result) c.types-in-None.ensures ∙ at) c.in_ok-outcome-in-None.ensures o proved in
    let seen_as = outcome_projection hash P z o in
    (seen_as, is.1 seen_as, spells_too (types_meaning p.types) P z seen_as c.in_ok-outcome-in-None.outcome refl refl spelled)

pub returns-in-Some-clause-stops : goal.returns-in-Some-clause-stops
returns-in-Some-clause-stops g c bytes told =
    let hash = g.H.Hash32.hash in
    let p = program_in c.args.code.now in
    let P = program_of c.args.code.now in
    let nodes = g.N.Nodes.nodes c.args.store.now in
    let left = g.S.Source.left c.args.proof.now in
    let left' = g.S.Source.left c.compare_file.new.proof in
    let seen = c.requires.seen.0 in
    let compares = file_told hash nodes left left' (Ok c.in_ok-answer.field-0) c.types-2.result.now p.types c.deref.result.now c.args.run.now.opened.items c.types-2.ensures c.deref.ensures.value
    c.in_ok-answer.ensures.compares in
    let is = subst
    (λ r. ComparesAll (λ o. audit_file hash P.format o (map (honest_piece hash P) seen) (header P.format bytes) bytes) (rest_behind P.format bytes) left' (Ok r)) c.in-Some.is (compares seen c.requires.seen.1 bytes told) in
    is.1
