use Rattle.std.proofs.Common.{◌∙◌, [], length, sym, ap}
use Rattle.std.specs.Prelude.{option_map, unwrap_or}
use Rattle.std.proofs.lemmas.List.{length-map}
use Rattle.core_terms.specs.ProgramTypes.{named_table, types_by_number}
use Rattle.core_terms.specs.TypeTables.{type_at}
use Rattle.shallow_codec.specs.ProgramTypes.{tys_of}
use Rattle.mode_vm.proofs.Constructing.{fields_counted}
use Rattle.mode_vm.proofs.composites.field_count.Goals as goal

pub returns-in-Some : goal.returns-in-Some
returns-in-Some c =
    let t = c.args.types.now in
    fields_counted (named_table t) c.args.named.0 c.args.tag.0 _ _ c.field_types.ensures
    (sym (length-map c.in-Some.fields.now (type_at (types_by_number t))) ∙ sym (ap (λ o. length (unwrap_or (option_map (λ ids. tys_of t ids.now) o) [])) c.in-Some.is))

pub returns-in-None : goal.returns-in-None
returns-in-None c =
    let t = c.args.types.now in
    fields_counted (named_table t) c.args.named.0 c.args.tag.0 _ _ c.field_types.ensures
    (sym (ap (λ o. length (unwrap_or (option_map (λ ids. tys_of t ids.now) o) [])) c.in-None.is))
