use Rattle.std.proofs.Common.{length, map, sym, ap, ◌∙◌, subst}
use Rattle.core_terms.specs.Programs.{type_names, types_in}
use Rattle.auth_syntax.specs.Trees.{declaration_of}
use Rattle.declared_types.specs.OverTypes.{functions_written}
use Rattle.declared_types.specs.ScopeNames.{joined, names_in}
use Rattle.declared_types.specs.Scopes.{IsWithin, functions_meant, scope_meant}
use Rattle.declared_types.specs.declared.declarations.Declared.{Declared}
use Rattle.declared_types.specs.declared.scope.Scope.{Scope}
use Rattle.declared_types.proofs.NamesOfDeclarations.{constructors_named, functions_named, types_named}
use Rattle.declared_types.proofs.NumberedParts.{all_named_grow}
use Rattle.declared_types.proofs.NumberedScopes.{heads_functions, heads_names, named_constructors, named_few, named_names, scope_is, scope_within}
use Rattle.declared_types.proofs.TypeNumbers.{grows_on}
use Rattle.declared_types.proofs.numbering.declared_scope.Goals as goal

pub returns-in_err-heads-clause-grows : goal.returns-in_err-heads-clause-grows
returns-in_err-heads-clause-grows c = grows_on _ _ _ c.named_types.ensures.grows c.heads.ensures.grows

pub returns-in_err-constructor_ids-clause-grows : goal.returns-in_err-constructor_ids-clause-grows
returns-in_err-constructor_ids-clause-grows c = grows_on _ _ _ c.named_types.ensures.grows c.heads.ensures.grows

pub returns-clause-grows : goal.returns-clause-grows
returns-clause-grows c = grows_on _ _ _ c.named_types.ensures.grows c.heads.ensures.grows

pub constructor_ids-requires : goal.constructor_ids-requires
constructor_ids-requires c =
    let format = c.args.types.now.format in
    let names = names_in c.args.declared.value.types.keys in
    let ds = map declaration_of c.args.declarations.now in
    rw c.deref-3.ensures.value
    (named_few format names _ c.args.declared.value ds c.in_ok-named.named.items (rw c.deref.ensures at c.in_ok-named.ensures.found) c.requires)

pub invariant_of-scope-clause-constructors_named : goal.invariant_of-scope-clause-constructors_named
invariant_of-scope-clause-constructors_named c =
    let format = c.args.types.now.format in
    let names = names_in c.args.declared.value.types.keys in
    let ds = map declaration_of c.args.declarations.now in
    ap (λ (d : Declared). names_in d.constructors.keys) c.into_inner-constructor_names.ensures
    ∙ constructors_named c.args.declared.value ds c.requires
    ∙ ap joined (sym (named_constructors format names _ ds c.in_ok-named.named.items (rw c.deref.ensures at c.in_ok-named.ensures.found)))

pub invariant_of-scope-clause-constructors_numbered : goal.invariant_of-scope-clause-constructors_numbered
invariant_of-scope-clause-constructors_numbered c = rw c.deref-3.ensures.value at c.in_ok-constructor_ids.ensures

pub invariant_of-scope-clause-functions_named : goal.invariant_of-scope-clause-functions_named
invariant_of-scope-clause-functions_named c =
    let format = c.args.types.now.format in
    let names = names_in c.args.declared.value.types.keys in
    ap (λ (d : Declared). names_in d.functions.keys) c.into_inner-constructor_names.ensures
    ∙ functions_named c.args.declared.value (map declaration_of c.args.declarations.now) c.requires
    ∙ sym (heads_names format names _ (functions_written c.args.declarations.now) c.in_ok-heads.heads.items
    (rw (c.deref-2.ensures, c.named_types.ensures.format) at c.in_ok-heads.ensures.found))

pub returns-clause-scope : goal.returns-clause-scope
returns-clause-scope c =
    let format = c.args.types.now.format in
    let names = names_in c.args.declared.value.types.keys in
    let ds = map declaration_of c.args.declarations.now in
    let named = c.in_ok-named.named.items in
    ap (scope_meant format _) c.in_ok-new.ensures.ok
    ∙ scope_is format names _ ds named c.in_ok-heads.heads.items (types_named c.args.declared.value ds c.requires)
    (all_named_grow format names _ _ c.heads.ensures.grows ds named (rw c.deref.ensures at c.in_ok-named.ensures.found))
    (rw (c.deref-2.ensures, c.named_types.ensures.format) at c.in_ok-heads.ensures.found)

pub returns-clause-functions : goal.returns-clause-functions
returns-clause-functions c =
    let format = c.args.types.now.format in
    let names = names_in c.args.declared.value.types.keys in
    ap functions_meant c.in_ok-new.ensures.ok
    ∙ heads_functions format names _ (functions_written c.args.declarations.now) c.in_ok-heads.heads.items
    (rw (c.deref-2.ensures, c.named_types.ensures.format) at c.in_ok-heads.ensures.found)

pub returns-clause-names : goal.returns-clause-names
returns-clause-names c =
    let format = c.args.types.now.format in
    let names = names_in c.args.declared.value.types.keys in
    let ds = map declaration_of c.args.declarations.now in
    ap (λ (s : Scope). type_names s.named.items) c.in_ok-new.ensures.ok
    ∙ named_names format names _ ds c.in_ok-named.named.items (rw c.deref.ensures at c.in_ok-named.ensures.found)

pub returns-clause-within : goal.returns-clause-within
returns-clause-within c =
    let format = c.args.types.now.format in
    let names = names_in c.args.declared.value.types.keys in
    let ds = map declaration_of c.args.declarations.now in
    let named = c.in_ok-named.named.items in
    subst (IsWithin (length (types_in c.heads.new.types))) (sym c.in_ok-new.ensures.ok)
    (scope_within format names _ ds _
    (all_named_grow format names _ _ c.heads.ensures.grows ds named (rw c.deref.ensures at c.in_ok-named.ensures.found))
    (rw (c.deref-2.ensures, c.named_types.ensures.format) at c.in_ok-heads.ensures.found))
