use Rattle.std.proofs.Common.{◌∙◌, List, ap, length, map, refl}
use Rattle.std.specs.List.{AllZip}
use Rattle.core_terms.specs.Programs.{types_in}
use Rattle.core_terms.specs.declared.types.TyId.{TyId}
use Rattle.object_meaning.specs.ObjectBodies.{trees_of}
use Rattle.object_reader.specs.ObjectViews.{function_of, type_of}
use Rattle.object_reader.specs.declared.object.ListedFunction.{ListedFunction}
use Rattle.object_reader.specs.declared.object.ListedType.{ListedType}
use Rattle.code_check.specs.ListedParts.{AreNamedOf, IsFunctionCode, IsFunctionOf, IsTypeOf}
use Rattle.code_check.proofs.PartsMade.{parts_made}
use Rattle.code_check.proofs.PartsThere.{functions_there, named_there, parts_there}
use Rattle.code_check.proofs.Zips.{under_names}
use Rattle.code_check.proofs.listed.listed_parts.Goals as goal

pub type_numbers-requires : goal.type_numbers-requires
type_numbers-requires c = record { parts = parts_there c.args.object.now c.deref.result.now c.requires c.deref.ensures.value }

pub named_list-requires : goal.named_list-requires
named_list-requires c =
    let many = ap length c.deref-2.ensures.value ∙ c.in_ok-numbers.ensures.each ∙ ap length c.deref.ensures.value in
    named_there c.args.object.now (length c.deref-2.result.now) c.deref-3.result.now c.requires many c.deref-3.ensures.value

pub function_list-requires : goal.function_list-requires
function_list-requires c =
    let many = ap length c.deref-4.ensures.value ∙ c.in_ok-numbers.ensures.each ∙ ap length c.deref.ensures.value in
    functions_there c.args.object.now (length c.deref-4.result.now) c.deref-5.result.now c.requires many c.deref-5.ensures.value

pub code_list-requires-clause-listed : goal.code_list-requires-clause-listed
code_list-requires-clause-listed c =
    let many = ap length c.deref-6.ensures.value ∙ c.in_ok-numbers.ensures.each ∙ ap length c.deref.ensures.value in
    functions_there c.args.object.now (length c.deref-6.result.now) c.deref-7.result.now c.requires many c.deref-7.ensures.value

pub returns-clause-parts : goal.returns-clause-parts
returns-clause-parts c =
    let T = types_in c.type_numbers.new.types in
    let o = c.args.object.now in
    let numbers = c.in_ok-numbers.numbers.items in
    let named = c.in_ok-named.named in
    let functions = c.in_ok-functions.functions in
    let code = c.in_ok-code.code in
    parts_made T o numbers (record { named = named; state = c.type_id.result; functions = functions; code = code }) c.requires
    (c.in_ok-numbers.ensures.trees ∙ ap (λ (l : List ListedType). trees_of (map type_of l)) c.deref.ensures.value)
    c.in_ok-numbers.ensures.within
    (under_names (λ (ids : List TyId) (ts : List ListedType). AreNamedOf ids (map type_of ts) named.items)
    c.deref-2.result.now numbers c.deref-3.result.now o.types.items c.deref-2.ensures.value c.deref-3.ensures.value c.in_ok-named.ensures)
    (under_names (λ (ids : List TyId) n. IsTypeOf ids n c.type_id.result) c.deref-8.result.now numbers o.state o.state c.deref-8.ensures.value refl c.type_id.ensures)
    (under_names (λ (ids : List TyId) (fs : List ListedFunction). AllZip (IsFunctionOf ids) (map function_of fs) functions.items)
    c.deref-4.result.now numbers c.deref-5.result.now o.functions.items c.deref-4.ensures.value c.deref-5.ensures.value c.in_ok-functions.ensures)
    (under_names (λ (ids : List TyId) (fs : List ListedFunction). AllZip (IsFunctionCode T ids) (map function_of fs) code.items)
    c.deref-6.result.now numbers c.deref-7.result.now o.functions.items c.deref-6.ensures.value c.deref-7.ensures.value c.in_ok-code.ensures)
