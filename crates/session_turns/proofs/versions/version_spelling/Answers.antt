use Rattle.std.proofs.Common.{◌≡◌, ◌∙◌, subst}
use Rattle.std.proofs.lemmas.Result.{IfOk-weaker}
use Rattle.core_terms.specs.Formats.{IsHash}
use Rattle.core_terms.specs.Programs.{meaning, types_of}
use Rattle.core_terms.specs.ProgramTypes.{types_by_number, types_meaning}
use Rattle.core_terms.specs.Projection.{projection}
use Rattle.core_terms.specs.TypeTables.{type_at}
use Rattle.core_terms.specs.declared.program.Program.{Program}
use Rattle.code_gen.specs.Programs.{program_in}
use Rattle.value_store.specs.Stores.{nodes_in}
use Rattle.session_turns.proofs.Spellings.{stands, spelled, shown}
use Rattle.session_turns.proofs.versions.version_spelling.Goals as goal

pub spell-requires : goal.spell-requires
spell-requires g c =
    let hash = g.H.Hash32.hash in
    let is_hash : IsHash hash = (g.met.H.Hash32 g.world.𝓛 g.world.𝓜 g.world.𝓡 ((λ s x. x), (λ x. x), (λ x. x), (λ x. x))).digest_length in
    let p = program_in c.args.code.now in
    let given = c.types.result.now in
    let id = c.state_type-ty.result in
    let at : type_at (types_of p) id ≡ (meaning p).state = subst (λ (q : Program). type_at (types_of q) id ≡ (meaning q).state) c.program.ensures c.state_type-ty.ensures.state in
    let v = c.requires.0 in
    (projection hash (types_meaning given) (type_at (types_by_number given) id) v, shown hash p given c.types.ensures id at (nodes_in c.args.store.now) c.args.version v c.requires.1 is_hash)

pub returns : goal.returns
returns g c =
    let hash = g.H.Hash32.hash in
    let is_hash : IsHash hash = (g.met.H.Hash32 g.world.𝓛 g.world.𝓜 g.world.𝓡 ((λ s x. x), (λ x. x), (λ x. x), (λ x. x))).digest_length in
    let p = program_in c.args.code.now in
    let given = c.types.result.now in
    let id = c.state_type-ty.result in
    let at : type_at (types_of p) id ≡ (meaning p).state = subst (λ (q : Program). type_at (types_of q) id ≡ (meaning q).state) c.program.ensures c.state_type-ty.ensures.state in
    IfOk-weaker c.spell.result _ _
    (λ bytes h v is. h hash v is_hash (stands hash p given c.types.ensures id at (nodes_in c.args.store.now) c.args.version v is)
    ∙ spelled hash p given c.types.ensures id at (nodes_in c.args.store.now) c.args.version v is)
    c.spell.ensures.projected
