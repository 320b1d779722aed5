use Rattle.std.proofs.Common.{◌≡◌, ◌∙◌, List, Err, ap, map, sym, subst}
use Rattle.std.proofs.lemmas.Result.{err_from_is_err_and}
use Rattle.auth_syntax.specs.Syntax.{Program}
use Rattle.auth_syntax.specs.Trees.{declaration_of, program_of}
use Rattle.auth_syntax.specs.declared.tree.Declaration.{Declaration}
use Rattle.declared_types.specs.Checking.{Sound}
use Rattle.declared_types.specs.DeclaredPrograms.{names_of}
use Rattle.declared_types.specs.Declarations.{checked_whole, first_pass}
use Rattle.declared_types.specs.ScopeNames.{names_in}
use Rattle.declared_types.specs.WrittenTypes.{known_declarations}
use Rattle.declared_types.specs.declared.declarations.Declared.{Declared}
use Rattle.declared_types.proofs.NamesOfDeclarations.{types_named}
use Rattle.declared_types.proofs.FirstPasses.{IsRefused, finds_refused, first_fault, second_known}
use Rattle.declared_types.proofs.passes.known_names.Goals as goal

pub returns-in_err-declared-clause-found : goal.returns-in_err-declared-clause-found
returns-in_err-declared-clause-found c =
    let p = err_from_is_err_and c.from_residual.result c.from_residual.ensures.1 in
    let fault = c.in_err-declared.field-0.0 in
    let end = c.args.ast.now.end in
    finds_refused (λ _. tt) _ fault _ (p.1 ∙ ap Err p.2)
    (first_fault (program_of c.args.ast.now) fault
    (subst (λ (ds : List Declaration). IsRefused (checked_whole (map declaration_of ds) end) fault)
    c.deref.ensures.value
    c.in_err-declared.ensures.found))

pub returns-in_err-second_pass-clause-found : goal.returns-in_err-second_pass-clause-found
returns-in_err-second_pass-clause-found c =
    let p = err_from_is_err_and c.from_residual-in_err-second_pass.result c.from_residual-in_err-second_pass.ensures.1 in
    let fault = c.in_err-second_pass.field-0.0 in
    let program : Program = program_of c.args.ast.now in
    let declared = c.in_ok-declared.declared.value in
    let names : names_in declared.types.keys ≡ names_of program =
    types_named declared program.declarations (rw c.deref.ensures.value at c.in_ok-declared.ensures.declared) in
    let first : first_pass program ≡ Sound tt = rw c.deref.ensures.value at c.in_ok-declared.ensures.found in
    finds_refused (λ _. tt) _ fault _ (p.1 ∙ ap Err p.2)
    (subst (λ found. IsRefused found fault) (second_known program first c.format_of.result (names_in declared.types.keys) c.format_of.ensures names)
    (subst (λ (ds : List Declaration). IsRefused (known_declarations c.format_of.result (names_in declared.types.keys) (map declaration_of ds)) fault)
    c.deref-3.ensures.value
    (subst (λ (d : Declared). IsRefused (known_declarations c.format_of.result (names_in d.types.keys) (map declaration_of c.deref-3.result.now)) fault)
    c.deref-2.ensures c.in_err-second_pass.ensures)))

pub returns-clause-found : goal.returns-clause-found
returns-clause-found c =
    let program : Program = program_of c.args.ast.now in
    let declared = c.in_ok-declared.declared.value in
    let names : names_in declared.types.keys ≡ names_of program =
    types_named declared program.declarations (rw c.deref.ensures.value at c.in_ok-declared.ensures.declared) in
    let first : first_pass program ≡ Sound tt = rw c.deref.ensures.value at c.in_ok-declared.ensures.found in
    sym (second_known program first c.format_of.result (names_in declared.types.keys) c.format_of.ensures names)
    ∙ sym (ap (λ (d : Declared). known_declarations c.format_of.result (names_in d.types.keys) program.declarations) c.deref-2.ensures)
    ∙ sym (ap (λ (ds : List Declaration). known_declarations c.format_of.result (names_in c.deref-2.result.now.types.keys) (map declaration_of ds))
    c.deref-3.ensures.value)
    ∙ c.in_ok-second_pass.ensures

pub returns-clause-declared : goal.returns-clause-declared
returns-clause-declared c = rw c.deref.ensures.value at c.in_ok-declared.ensures.declared
