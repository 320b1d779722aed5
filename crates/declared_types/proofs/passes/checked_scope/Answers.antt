use Rattle.std.proofs.Common.{◌≡◌, ◌≢◌, ◌∙◌, ◌<◌, [], List, Err, ap, length, map, sym, subst}
use Rattle.std.proofs.lemmas.Result.{err_from_is_err_and}
use Rattle.core_terms.specs.Programs.{types_in}
use Rattle.core_terms.specs.declared.types.TyTable.{TyTable}
use Rattle.auth_syntax.specs.Syntax.{Program}
use Rattle.auth_syntax.specs.Trees.{declaration_of, program_of, type_of}
use Rattle.auth_syntax.specs.declared.tree.Declaration.{Declaration}
use Rattle.declared_types.specs.Checking.{Sound}
use Rattle.declared_types.specs.DeclaredPrograms.{format_of}
use Rattle.declared_types.specs.Passes.{TableStandsFor}
use Rattle.declared_types.specs.ScopeNames.{names_in}
use Rattle.declared_types.specs.WrittenTypes.{states_in, type_meant}
use Rattle.declared_types.proofs.NamesOfDeclarations.{types_named}
use Rattle.declared_types.proofs.FirstPasses.{IsRefused, finds_refused, first_known, state_declared, scope_stands, state_numbered, third_told}
use Rattle.declared_types.proofs.passes.checked_scope.Goals as goal

pub declared_state-requires : goal.declared_state-requires
declared_state-requires c =
    let program : Program = program_of c.args.ast.now in
    subst (λ (ds : List Declaration). states_in (map declaration_of ds) ≢ []) (sym c.deref-2.ensures.value)
    (state_declared program (first_known program c.requires.known))

pub third_pass-requires-clause-state : goal.third_pass-requires-clause-state
third_pass-requires-clause-state c =
    let program : Program = program_of c.args.ast.now in
    let format = format_of program in
    let names = names_in c.args.declared.value.types.keys in
    let told : c.deref_mut.result.now.format ≡ format_of program =
    ap (λ (table : TyTable). table.format) (c.deref_mut.ensures.value ∙ c.in_ok-types.ensures.ok) ∙ c.new.ensures.format ∙ c.format_of.ensures in
    let state =
    state_numbered program names (types_in c.number.new.types) (types_in c.declared_scope.new.types) c.in_ok-state.state
    (type_meant format names (type_of c.declared_state.result.now))
    (types_named c.args.declared.value program.declarations c.requires.declared) (rw c.deref-2.ensures.value at (c.declared_state.ensures format names))
    (rw c.deref_mut-2.ensures.value at c.declared_scope.ensures.grows) (rw (c.deref.ensures, told) at c.in_ok-state.ensures.found) in
    subst (λ (table : TyTable). c.in_ok-state.state.0 < length (types_in table)) (sym c.deref-4.ensures) state.1

pub returns-in_err-third_pass-clause-found : goal.returns-in_err-third_pass-clause-found
returns-in_err-third_pass-clause-found c =
    let program : Program = program_of c.args.ast.now in
    let format = format_of program in
    let names = names_in c.args.declared.value.types.keys in
    let told : c.deref_mut.result.now.format ≡ format_of program =
    ap (λ (table : TyTable). table.format) (c.deref_mut.ensures.value ∙ c.in_ok-types.ensures.ok) ∙ c.new.ensures.format ∙ c.format_of.ensures in
    let later : c.deref_mut-2.result.now.format ≡ format_of program =
    ap (λ (table : TyTable). table.format) c.deref_mut-2.ensures.value ∙ c.number.ensures.format ∙ told in
    let types = types_in c.declared_scope.new.types in
    let state =
    state_numbered program names (types_in c.number.new.types) types c.in_ok-state.state (type_meant format names (type_of c.declared_state.result.now))
    (types_named c.args.declared.value program.declarations c.requires.declared) (rw c.deref-2.ensures.value at (c.declared_state.ensures format names))
    (rw c.deref_mut-2.ensures.value at c.declared_scope.ensures.grows) (rw (c.deref.ensures, told) at c.in_ok-state.ensures.found) in
    let stands : TableStandsFor program types c.in_ok-scope.scope.value c.in_ok-state.state =
    scope_stands program types c.in_ok-scope.scope.value c.in_ok-state.state
    (rw (c.deref-3.ensures.value, later) at c.in_ok-scope.ensures.scope) (rw c.deref-3.ensures.value at c.in_ok-scope.ensures.functions)
    (rw c.deref-3.ensures.value at c.in_ok-scope.ensures.names) c.in_ok-scope.ensures.within state in
    let p = err_from_is_err_and c.from_residual-in_err-third_pass.result c.from_residual-in_err-third_pass.ensures.1 in
    let fault = c.in_err-third_pass.field-0.0 in
    finds_refused (λ _. tt) _ fault _ (p.1 ∙ ap Err p.2)
    (third_told program types c.in_ok-scope.scope.value c.in_ok-state.state stands (λ found. IsRefused found fault) c.deref-4.result.now
    c.deref-5.result.now
    (ap types_in c.deref-4.ensures) c.deref-5.ensures c.in_err-third_pass.ensures)

pub returns-clause-found : goal.returns-clause-found
returns-clause-found c =
    let program : Program = program_of c.args.ast.now in
    let format = format_of program in
    let names = names_in c.args.declared.value.types.keys in
    let told : c.deref_mut.result.now.format ≡ format_of program =
    ap (λ (table : TyTable). table.format) (c.deref_mut.ensures.value ∙ c.in_ok-types.ensures.ok) ∙ c.new.ensures.format ∙ c.format_of.ensures in
    let later : c.deref_mut-2.result.now.format ≡ format_of program =
    ap (λ (table : TyTable). table.format) c.deref_mut-2.ensures.value ∙ c.number.ensures.format ∙ told in
    let types = types_in c.declared_scope.new.types in
    let state =
    state_numbered program names (types_in c.number.new.types) types c.in_ok-state.state (type_meant format names (type_of c.declared_state.result.now))
    (types_named c.args.declared.value program.declarations c.requires.declared) (rw c.deref-2.ensures.value at (c.declared_state.ensures format names))
    (rw c.deref_mut-2.ensures.value at c.declared_scope.ensures.grows) (rw (c.deref.ensures, told) at c.in_ok-state.ensures.found) in
    let stands : TableStandsFor program types c.in_ok-scope.scope.value c.in_ok-state.state =
    scope_stands program types c.in_ok-scope.scope.value c.in_ok-state.state
    (rw (c.deref-3.ensures.value, later) at c.in_ok-scope.ensures.scope) (rw c.deref-3.ensures.value at c.in_ok-scope.ensures.functions)
    (rw c.deref-3.ensures.value at c.in_ok-scope.ensures.names) c.in_ok-scope.ensures.within state in
    third_told program types c.in_ok-scope.scope.value c.in_ok-state.state stands (λ found. found ≡ Sound tt) c.deref-4.result.now
    c.deref-5.result.now
    (ap types_in c.deref-4.ensures) c.deref-5.ensures c.in_ok-third_pass.ensures

pub returns-clause-shaped : goal.returns-clause-shaped
returns-clause-shaped c =
    let program : Program = program_of c.args.ast.now in
    let format = format_of program in
    let names = names_in c.args.declared.value.types.keys in
    let told : c.deref_mut.result.now.format ≡ format_of program =
    ap (λ (table : TyTable). table.format) (c.deref_mut.ensures.value ∙ c.in_ok-types.ensures.ok) ∙ c.new.ensures.format ∙ c.format_of.ensures in
    let later : c.deref_mut-2.result.now.format ≡ format_of program =
    ap (λ (table : TyTable). table.format) c.deref_mut-2.ensures.value ∙ c.number.ensures.format ∙ told in
    let types = types_in c.declared_scope.new.types in
    let state =
    state_numbered program names (types_in c.number.new.types) types c.in_ok-state.state (type_meant format names (type_of c.declared_state.result.now))
    (types_named c.args.declared.value program.declarations c.requires.declared) (rw c.deref-2.ensures.value at (c.declared_state.ensures format names))
    (rw c.deref_mut-2.ensures.value at c.declared_scope.ensures.grows) (rw (c.deref.ensures, told) at c.in_ok-state.ensures.found) in
    let stands : TableStandsFor program types c.in_ok-scope.scope.value c.in_ok-state.state =
    scope_stands program types c.in_ok-scope.scope.value c.in_ok-state.state
    (rw (c.deref-3.ensures.value, later) at c.in_ok-scope.ensures.scope) (rw c.deref-3.ensures.value at c.in_ok-scope.ensures.functions)
    (rw c.deref-3.ensures.value at c.in_ok-scope.ensures.names) c.in_ok-scope.ensures.within state in
    stands
