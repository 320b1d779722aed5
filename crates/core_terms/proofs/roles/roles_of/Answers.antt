use Rattle.std.proofs.Common.{◌∙◌, sym, ap, option_map}
use Rattle.core_terms.specs.ProgramTrees.{kind_of}
use Rattle.core_terms.specs.RoleViews.{role_kind_of}
use Rattle.core_terms.proofs.FoundRoles.{one_role_more, no_role_more, types_below_more, kind_entered, kind_inner}
use Rattle.core_terms.proofs.roles.roles_of.Goals as goal
use Rattle.core_terms.proofs.roles.roles_of.Goals.{in-Some+in_ok-role+in_ok-push, in_default}

pub loop-number-preserved : goal.loop-number-preserved
loop-number-preserved c =
    let f = c.index-functions-number.result in
    let so_far = c.loop-number.roles.items in
    elim c.match-of_role.branch [
      | in-Some+in_ok-role+in_ok-push w ↦
          let entered = kind_entered (kind_of f.kind) _ (ap (option_map role_kind_of) (sym w.in-Some.is) ∙ c.of_role.ensures) in
          rw w.roles-is (rw w.in_ok-push.ensures.items (
            (λ types.
                one_role_more types c.args.functions.now c.loop-number.number f so_far w.in_ok-role.role (c.loop-number.invariant.0 types)
                c.index-functions-number.is c.loop-number-test.true entered (w.in_ok-role.ensures.role types)),
            (λ count all.
                types_below_more count c.args.functions.now c.loop-number.number f so_far w.in_ok-role.role c.index-functions-number.is c.loop-number-test.true
                all (c.loop-number.invariant.1 count all)
                (w.in_ok-role.ensures.within count)),
          ))
      | in_default w ↦
          let inner = kind_inner (kind_of f.kind) (ap (option_map role_kind_of) (sym w.in_default.is) ∙ c.of_role.ensures) in
          rw w.roles-is (
            (λ types. no_role_more types c.args.functions.now c.loop-number.number f so_far (c.loop-number.invariant.0 types) c.index-functions-number.is c.loop-number-test.true inner),
            c.loop-number.invariant.1,
          )
    ]
