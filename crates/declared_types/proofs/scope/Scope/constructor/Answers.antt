use Rattle.std.proofs.Common.{◌∙◌, ap, Some, None, option_map, refl, arith}
use Rattle.std.proofs.lemmas.Option.{slice_get_read}
use Rattle.declared_types.specs.ScopeNames.{constructor_meant}
use Rattle.declared_types.proofs.ScopeLookups.{constructor_found, ids_length, number_in}
use Rattle.declared_types.proofs.scope.Scope.constructor.Goals as goal

pub index-requires : goal.index-requires
index-requires c = omega (arith, ids_length c.args.self.now, c.in-Some.ensures.within)

pub returns-in-Some : goal.returns-in-Some
returns-in-Some c =
    constructor_found c.args.self.now c.args.name.now (Some c.in-Some.number)
    (c.in-Some.ensures.index ∙ number_in c.args.self.now.constructor_names.keys c.as_bytes.result c.args.name.now c.as_bytes.ensures.bytes)
    ∙ ap (option_map constructor_meant) (slice_get_read c.args.self.now.constructor_ids.items _ c.in-Some.number c.index.result.now refl
    (omega (arith, ids_length c.args.self.now, c.in-Some.ensures.within)) c.index.ensures)

pub returns-in-None : goal.returns-in-None
returns-in-None c =
    constructor_found c.args.self.now c.args.name.now None (c.in-None.ensures.index
    ∙ number_in c.args.self.now.constructor_names.keys c.as_bytes.result c.args.name.now c.as_bytes.ensures.bytes)
