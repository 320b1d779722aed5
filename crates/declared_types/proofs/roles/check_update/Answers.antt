use Rattle.std.proofs.Common.{length, ap, arith}
use Rattle.std.proofs.lemmas.Bool.Decides.{nat_tests}
use Rattle.declared_types.proofs.RolesOfHeads.{update_misshaped}
use Rattle.declared_types.proofs.roles.check_update.Goals as goal
use Rattle.declared_types.proofs.roles.check_update.Goals.{in_default-via-then-as_slice-lt2, in_default-via-else-as_slice-lt2+else-this-lt3}

pub returns-in_default : goal.returns-in_default
returns-in_default c = update_misshaped _ _ _ c.args.head.now (λ two.
    elim c.in_default.branch [
      | in_default-via-then-as_slice-lt2 w ↦ grind (arith, nat_tests, two, ap length c.as_slice.ensures.value)
      | in_default-via-else-as_slice-lt2+else-this-lt3 w ↦ grind (arith, nat_tests, two, ap length c.as_slice.ensures.value)
    ])
