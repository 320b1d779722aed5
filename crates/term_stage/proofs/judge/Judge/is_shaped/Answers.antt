use Rattle.std.proofs.Common.{◌≡◌, ◌∷◌, [], List, true, false, subst, sym, rules}
use Rattle.core_terms.specs.Programs.{types_in}
use Rattle.core_terms.specs.ProgramTrees.{kind_of, types_at}
use Rattle.core_terms.specs.Roles.{has_auth}
use Rattle.core_terms.specs.TypeTables.{type_at}
use Rattle.core_terms.specs.Types.{Ty}
use Rattle.core_terms.specs.RoleShapes.{shape_test}
use Rattle.core_terms.specs.declared.types.TyId.{TyId}
use Rattle.term_stage.specs.Fitting.{judged}
use Rattle.term_stage.proofs.Shaped.{query_shaped, update_shaped}
use Rattle.term_stage.proofs.judge.Judge.is_shaped.Goals as goal

pub returns-in-Query : goal.returns-in-Query
returns-in-Query c = λ yes.
    let j = c.args.self.now in
    let P = judged j.types.now j.named.now j.state j.functions.now in
    let T = types_in j.types.now in
    let f = c.args.function.now in
    subst (λ kind. shape_test P (kind_of kind) (types_at T f.parameters.items) (type_at T f.result) ≡ true) (sym c.in-Query.is)
    (query_shaped P _ _
    (subst (λ (ids : List TyId). (argument : Ty) × (types_at T ids ≡ P.state ∷ argument ∷ []) × (has_auth P.types argument ≡ false)) c.deref.ensures.value (c.takes_state.ensures yes)))

pub returns-then-takes_state : goal.returns-then-takes_state
returns-then-takes_state c = λ yes.
    let j = c.args.self.now in
    let P = judged j.types.now j.named.now j.state j.functions.now in
    let T = types_in j.types.now in
    let f = c.args.function.now in
    subst (λ kind. shape_test P (kind_of kind) (types_at T f.parameters.items) (type_at T f.result) ≡ true) (sym c.in-Update.is)
    (update_shaped P _ _
    (subst (λ (ids : List TyId). (argument : Ty) × (types_at T ids ≡ P.state ∷ argument ∷ []) × (has_auth P.types argument ≡ false)) c.deref-in-Update.ensures.value
    (c.if-takes_state.ensures (search rules)))
    (c.gives_state.ensures yes))
