use Rattle.std.proofs.Common.{◌≡◌, ◌⊎◌, ℕ, Option, Some, Vec, inl, inr, sym, ap, ◌∙◌, subst}
use Rattle.std.specs.declared.alloc.Global.{Global}
use Rattle.command_parts.specs.AcceptedAnswers.{spelling_stored}
use Rattle.command_parts.specs.RolesCalled.{role_of}
use Rattle.call_commands.specs.AnswersBehind.{name_of}
use Rattle.command_parts.specs.Storing.{stored_as}
use Rattle.command_parts.specs.declared.roles.Callee.{Callee}
use Rattle.command_parts.specs.declared.roles.Callee.TheVariants.{Init, OfState, Update}
use Rattle.call_commands.proofs.JudgedRoles.{accepted_output, named_alone, none_named}
use Rattle.call_commands.proofs.verify_call.outcome_output.Goals as goal
use Rattle.call_commands.proofs.verify_call.outcome_output.Goals.{in-Update+in_ok-file-in-Update, in-Init}

-- an init, or a role of states, is no update
not_update : (callee : Callee) → (callee ≡ Init) ⊎ (callee ≡ OfState) → callee ≡ Update → ⊥
not_update callee (inl init) update = absurd (cc)
not_update callee (inr of_state) update = absurd (cc)

pub returns-clause-finds : goal.returns-clause-finds
returns-clause-finds c = λ out o is spells.
    let r = role_of c.args.program.now c.args.called.now in
    let file = c.match-callee.file in
    let stored : spelling_stored r out o ≡ stored_as (name_of out) file = elim c.match-callee.branch [
      | in-Update+in_ok-file-in-Update w ↦
          named_alone r o file
          (λ name. subst (λ (file : Option (Vec ℕ Global)). spelling_stored r (Some name) o ≡ stored_as name file) (sym w.file-is) (w.in_ok-file-in-Update.ensures name o spells))
          out (sym w.in-Update.is ∙ is)
      | in-Init w ↦ none_named r o c.args.callee (not_update c.args.callee w.in-Init.is) out is ∙ ap (stored_as (name_of out)) (sym w.file-is)
    ] in
    accepted_output r out o (record { report = c.in_ok-report.report; file = file }) (name_of out) (c.in_ok-report.ensures.tells o spells) stored
