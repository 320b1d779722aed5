use Rattle.std.proofs.Common.{◌∙◌, ap, sym}
use Rattle.core_terms.specs.Programs.{types_in}
use Rattle.core_terms.specs.ProgramTrees.{table_of}
use Rattle.core_terms.specs.Roles.{has_auth}
use Rattle.core_terms.specs.Types.{Ty}
use Rattle.term_stage.proofs.Shaped.{of_two}
use Rattle.term_stage.proofs.judge.Judge.takes_state.Goals as goal

pub returns-then-eq : goal.returns-then-eq
returns-then-eq c = λ yes.
    let j = c.args.self.now in
    let T = types_in j.types.now in
    let named = table_of T j.named.now in
    of_two named T j.state c.args.parameters.now c.in-len2.len_at_least c.in-len2.len_below (sym c.eq.ensures ∙ c.if-eq.true)
    (ap (λ (t : Ty). has_auth named t) (sym c.form.ensures.form) ∙ c.is_leaf.ensures named T yes)
