use Rattle.std.proofs.Common.{◌≡◌, true, length, Vec, refl, nat_lt}
use Rattle.std.specs.List.{list_all}
use Rattle.std.specs.declared.alloc.Global.{Global}
use Rattle.core_terms.specs.ProgramSizes.{IsWithinLimits}
use Rattle.core_terms.specs.ProgramTrees.{has_fields_below, has_types_below, is_within}
use Rattle.core_terms.specs.ProgramParts.{compiled_program}
use Rattle.core_terms.specs.TypeTables.{types_of_forms}
use Rattle.core_terms.specs.Typing.{is_shaped, is_typed}
use Rattle.core_terms.specs.declared.term.NamedType.{NamedType}
use Rattle.core_terms.specs.declared.types.TyId.{TyId}
use Rattle.core_terms.specs.declared.types.TyTable.{TyTable}
use Rattle.core_terms.proofs.Limited.{limited_tags}
use Rattle.core_terms.proofs.RoleShapes.{arguments_there}
use Rattle.core_terms.proofs.SameTypes.{second_of}
use Rattle.core_terms.proofs.TypeParts.{carried}
use Rattle.core_terms.proofs.program.Program.compiled.Goals as goal

abbrev Names : Type 0
Names = Vec NamedType Global

pub new-requires-clause-tags : goal.new-requires-clause-tags
new-requires-clause-tags c = limited_tags (compiled_program c.args.types c.args.named.items c.args.state c.args.functions.items c.args.code.items) c.requires.limits

pub roles_of-requires : goal.roles_of-requires
roles_of-requires c =
    let functions = c.args.functions.items in
    rw c.deref.ensures.value
    (arguments_there (compiled_program c.args.types c.args.named.items c.args.state functions c.args.code.items) (types_of_forms c.args.types.forms.keys) functions refl c.requires.shaped)

pub invariant_of-result-clause-typed : goal.invariant_of-result-clause-typed
invariant_of-result-clause-typed c =
    let e = c.in_ok-types.ensures in
    carried (λ (table : TyTable) (named : Names) (state : TyId). is_typed (compiled_program table named.items state c.args.functions.items c.args.code.items) ≡ true)
    c.in_ok-types.types c.args.types c.args.named c.args.state e.table e.named e.state c.requires.typed

pub invariant_of-result-clause-shaped : goal.invariant_of-result-clause-shaped
invariant_of-result-clause-shaped c =
    let e = c.in_ok-types.ensures in
    carried (λ (table : TyTable) (named : Names) (state : TyId). is_shaped (compiled_program table named.items state c.args.functions.items c.args.code.items) ≡ true)
    c.in_ok-types.types c.args.types c.args.named c.args.state e.table e.named e.state c.requires.shaped

pub invariant_of-result-clause-limits : goal.invariant_of-result-clause-limits
invariant_of-result-clause-limits c =
    let e = c.in_ok-types.ensures in
    carried (λ (table : TyTable) (named : Names) (state : TyId). IsWithinLimits (compiled_program table named.items state c.args.functions.items c.args.code.items))
    c.in_ok-types.types c.args.types c.args.named c.args.state e.table e.named e.state c.requires.limits

-- all that stands within the table does
within : (table : TyTable) (named : Names) (state : TyId) (functions : _) → is_within table.forms.keys named.items state functions ≡ true
    → list_all (has_types_below (length (types_of_forms table.forms.keys))) functions ≡ true
within table named state functions e =
    let count = length (types_of_forms table.forms.keys) in
    second_of (list_all (has_fields_below count) named.items) _ (second_of (nat_lt state.0 count) _ e)

pub invariant_of-result-clause-within : goal.invariant_of-result-clause-within
invariant_of-result-clause-within c =
    let e = c.in_ok-types.ensures in
    carried (λ (table : TyTable) (named : Names) (state : TyId). list_all (has_types_below (length (types_of_forms table.forms.keys))) c.args.functions.items ≡ true)
    c.in_ok-types.types c.args.types c.args.named c.args.state e.table e.named e.state
    (within c.args.types c.args.named c.args.state c.args.functions.items c.requires.within)

pub invariant_of-result-clause-roles_within : goal.invariant_of-result-clause-roles_within
invariant_of-result-clause-roles_within c =
    let e = c.in_ok-types.ensures in
    let count = length (types_of_forms c.in_ok-types.types.table.forms.keys) in
    let below : list_all (has_types_below count) c.args.functions.items ≡ true =
    carried (λ (table : TyTable) (named : Names) (state : TyId). list_all (has_types_below (length (types_of_forms table.forms.keys))) c.args.functions.items ≡ true)
    c.in_ok-types.types c.args.types c.args.named c.args.state e.table e.named e.state
    (within c.args.types c.args.named c.args.state c.args.functions.items c.requires.within) in
    c.in_ok-roles.ensures.within count (rw c.deref.ensures.value below)

pub returns-clause-meaning : goal.returns-clause-meaning
returns-clause-meaning c =
    let e = c.in_ok-types.ensures in
    carried (λ (table : TyTable) (named : Names) (state : TyId).
    compiled_program table named.items state c.args.functions.items c.args.code.items
    ≡ compiled_program c.args.types c.args.named.items c.args.state c.args.functions.items c.args.code.items)
    c.in_ok-types.types c.args.types c.args.named c.args.state e.table e.named e.state refl
