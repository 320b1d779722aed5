use Rattle.std.proofs.Common.{◌≡◌, ◌∙◌, None, Some, ap, option_map, sym}
use Rattle.core_terms.specs.RoleViews.{role_kind_of}
use Rattle.session_meaning.specs.Calls.{reads_state}
use Rattle.ask_script.proofs.NamedRoles.{role_argument, reads_either, role_at_place, role_found, role_number_fits, role_refused}
use Rattle.ask_script.proofs.calls.find_role.Goals as goal

pub returns-in_err-number-clause-role : goal.returns-in_err-number-clause-role
returns-in_err-number-clause-role c =
    ap (option_map (λ found. found.0)) c.from_residual.ensures
    ∙ sym (role_at_place c.args.program.now c.roles-roles.result.now c.roles-roles.ensures.roles c.args.name.now None (sym c.in_err-number.was ∙ c.place_of.ensures))

pub overflow_cast-result : goal.overflow_cast-result
overflow_cast-result c =
    let small = role_number_fits c.args.program.now c.roles-roles.result.now c.roles-roles.ensures.roles c.args.name.now c.in_ok-number.number c.index-roles-number.result
    c.index-roles-number.is (sym c.in_ok-number.was ∙ c.place_of.ensures) c.args.program.now.limits in
    record { fits = small }

pub returns-in-Init-clause-role : goal.returns-in-Init-clause-role
returns-in-Init-clause-role c =
    role_refused c.args.program.now c.roles-roles.result.now c.roles-roles.ensures.roles c.args.name.now c.in_ok-number.number c.index-roles-number.result
    c.index-roles-number.is (sym c.in_ok-number.was ∙ c.place_of.ensures) (ap (λ kind. reads_state (role_kind_of kind)) c.in-Init.is)

pub returns-in-Query : goal.returns-in-Query
returns-in-Query c =
    let found : Some c.in_ok-number.number ≡ _ = sym c.in_ok-number.was ∙ c.place_of.ensures in
    record {
      role = role_found c.args.program.now c.roles-roles.result.now c.roles-roles.ensures.roles c.args.name.now c.in_ok-number.number c.index-roles-number.result
          c.index-roles-number.is found (reads_either c.index-roles-number.result.kind c.in-Query.is);
      argument = role_argument c.args.program.now c.roles-roles.result.now c.roles-roles.ensures.roles c.args.name.now c.in_ok-number.number c.index-roles-number.result
          c.index-roles-number.is found;
    }
