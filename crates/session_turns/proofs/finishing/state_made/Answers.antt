use Rattle.std.proofs.Common.{◌≡◌, map, length, subst, refl}
use Rattle.std.specs.List.{All}
use Rattle.std.proofs.lemmas.Option.{slice_get_read}
use Rattle.core_terms.specs.Programs.{meaning, types_of}
use Rattle.core_terms.specs.Projection.{digest_at}
use Rattle.core_terms.specs.RoleViews.{role_of}
use Rattle.core_terms.specs.Roles.{program_roles}
use Rattle.core_terms.specs.RoleTypes.{HasRoleShape}
use Rattle.core_terms.specs.Terms.{function_at}
use Rattle.core_terms.specs.declared.outcome.Outcome.{Outcome}
use Rattle.core_terms.specs.declared.program.Program.{Program}
use Rattle.code_gen.specs.Programs.{program_in}
use Rattle.mode_vm.specs.IdealRuns.{IsOutcome}
use Rattle.session_meaning.specs.Calls.{role_in}
use Rattle.value_store.specs.Standing.{ProverNodes}
use Rattle.value_store.specs.declared.node.Ref.{Ref}
use Rattle.session_turns.proofs.RunEnds.{other_made, pair_stands, update_made}
use Rattle.session_turns.proofs.finishing.state_made.Goals as goal

pub first_component-requires : goal.first_component-requires
first_component-requires g c =
    let p = program_in c.args.code.now in
    let roles = c.roles.result.now in
    let role = c.in-Some.role.now in
    let lookup = c.in-Some.ensures.lookup in
    let at = slice_get_read roles (length roles) c.args.role.0 role refl lookup.3.0 lookup.1 in
    let coded = subst (λ (q : Program). map (role_of (types_of q)) roles ≡ program_roles (meaning q)) c.program.ensures c.roles.ensures.roles in
    let shapes = subst (λ (q : Program). All (HasRoleShape (meaning q)) (program_roles (meaning q))) c.program.ensures c.roles.ensures.shapes in
    let nodes = g.N.Nodes.nodes c.args.store.now in
    let hash = c.requires.0 in
    let kind = ProverNodes (digest_at hash (meaning p)) in
    let ends =
    subst (λ (out : Outcome Ref). IsOutcome kind (meaning p).types nodes (function_at (meaning p) (role_in (meaning p) c.args.role.0).function).result out c.requires.1)
    c.in-Done.is c.requires.2 in
    let pair = pair_stands hash p roles coded shapes role c.args.role.0 at nodes c.in-Done.value c.requires.1 c.in-Update.is ends in
    (kind, (meaning p).types, (meaning p).state, pair.0, pair.1, pair.2)

pub returns-in-Update : goal.returns-in-Update
returns-in-Update g c hash o ended =
    let p = program_in c.args.code.now in
    let roles = c.roles.result.now in
    let role = c.in-Some.role.now in
    let lookup = c.in-Some.ensures.lookup in
    let at = slice_get_read roles (length roles) c.args.role.0 role refl lookup.3.0 lookup.1 in
    let coded = subst (λ (q : Program). map (role_of (types_of q)) roles ≡ program_roles (meaning q)) c.program.ensures c.roles.ensures.roles in
    let shapes = subst (λ (q : Program). All (HasRoleShape (meaning q)) (program_roles (meaning q))) c.program.ensures c.roles.ensures.shapes in
    let nodes = g.N.Nodes.nodes c.args.store.now in
    let kind = ProverNodes (digest_at hash (meaning p)) in
    update_made hash p roles coded shapes role c.args.role.0 at nodes c.in-Done.value c.first_component.result o c.in-Update.is
    (λ a b x y h. c.first_component.ensures kind (meaning p).types a b x y h)
    (subst (λ (out : Outcome Ref). IsOutcome kind (meaning p).types nodes (function_at (meaning p) (role_in (meaning p) c.args.role.0).function).result out o) c.in-Done.is ended)

pub returns-in-Init : goal.returns-in-Init
returns-in-Init g c hash o ended =
    let p = program_in c.args.code.now in
    let roles = c.roles.result.now in
    let role = c.in-Some.role.now in
    let lookup = c.in-Some.ensures.lookup in
    let at = slice_get_read roles (length roles) c.args.role.0 role refl lookup.3.0 lookup.1 in
    let coded = subst (λ (q : Program). map (role_of (types_of q)) roles ≡ program_roles (meaning q)) c.program.ensures c.roles.ensures.roles in
    let shapes = subst (λ (q : Program). All (HasRoleShape (meaning q)) (program_roles (meaning q))) c.program.ensures c.roles.ensures.shapes in
    other_made hash p roles coded shapes role c.args.role.0 at (g.N.Nodes.nodes c.args.store.now) o c.in-Init.is
