-- The shape test and the shapes of roles.
use Rattle.std.proofs.Common.{◌≡◌, ℕ, zero, suc, Bool, true, false, not, List, [], ◌∷◌, Some, slice_get, refl, sym, ap, ◌∙◌, subst}
use Rattle.core_terms.specs.Types.{Ty, UnitTy, PairTy, same_type}
use Rattle.core_terms.specs.Terms.{Kind, Inner, Init, Query, Update, Function, Program}
use Rattle.core_terms.specs.Roles.{has_auth, is_entered}
use Rattle.core_terms.specs.RoleTypes.{IsPlain, IsRole, role_parameters, role_result}
use Rattle.core_terms.specs.Typing.{all_shaped, is_shaped}
use Rattle.core_terms.specs.RoleShapes.{shape_test}
use Rattle.core_terms.proofs.Reach.{plain_by_test}
use Rattle.core_terms.proofs.TypingComplete.{both, same_self}
use Rattle.core_terms.proofs.SameTypes.{first_of, second_of, same_sound}

-- a function's shape, apart from where it stands
record HasShape (P : Program) (kind : Kind) (parameters : List Ty) (result : Ty) : Type 0 where
  argument : Ty
  answer : Ty
  parameters_are : parameters ≡ role_parameters kind P.state argument
  result_is : result ≡ role_result kind P.state answer
  plain : IsPlain P.types argument

-- the negation of a test passes exactly where the test does not
not_true : (b : Bool) → not b ≡ true → b ≡ false
not_true true e = absurd (cc)
not_true false e = refl

not_false : (b : Bool) → b ≡ false → not b ≡ true
not_false true e = absurd (cc)
not_false false e = refl

module _ (P : Program) where
  -- a function that can be entered has the shape of its kind, where the test says yes
  shape_sound : (kind : Kind) (parameters : List Ty) (result : Ty) → is_entered kind ≡ true → shape_test P kind parameters result ≡ true → HasShape P kind parameters result
  shape_sound Init (a ∷ []) r n e =
      record { argument = a; answer = UnitTy; parameters_are = refl; result_is = sym (same_sound P.state r (first_of _ _ e)); plain = plain_by_test P.types a (not_true _ (second_of (same_type P.state r) _ e)) }
  shape_sound Query (s ∷ a ∷ []) r n e =
      record { argument = a; answer = r; parameters_are = ap (λ t. t ∷ a ∷ []) (sym (same_sound P.state s (first_of _ _ e))); result_is = refl; plain = plain_by_test P.types a (not_true _ (second_of (same_type P.state s) _ e)) }
  shape_sound Update (s ∷ a ∷ []) (PairTy new answer) n e =
      let rest = second_of (same_type P.state s) _ e in
      record {
        argument = a;
        answer = answer;
        parameters_are = ap (λ t. t ∷ a ∷ []) (sym (same_sound P.state s (first_of _ _ e)));
        result_is = ap (λ t. PairTy t answer) (sym (same_sound P.state new (first_of _ _ rest)));
        plain = plain_by_test P.types a (not_true _ (second_of (same_type P.state new) _ rest));
      }
  shape_sound Inner ts r n e = absurd (cc)
  shape_sound kind ts r n e = absurd (cc)

  -- and the other way round
  shape_complete : (kind : Kind) (parameters : List Ty) (result a answer : Ty) → parameters ≡ role_parameters kind P.state a
      → result ≡ role_result kind P.state answer → IsPlain P.types a → shape_test P kind parameters result ≡ true
  shape_complete kind ts r a answer p q plain =
      subst (λ ts. shape_test P kind ts r ≡ true) (sym p) (subst (λ r. shape_test P kind (role_parameters kind P.state a) r ≡ true) (sym q) (at kind))
    where
      bare : not (has_auth P.types a) ≡ true
      bare = not_false _ (plain _)

      at : (kind : Kind) → shape_test P kind (role_parameters kind P.state a) (role_result kind P.state answer) ≡ true
      at Inner = refl
      at Init = both _ _ (same_self P.state) bare
      at Query = both _ _ (same_self P.state) bare
      at Update = both _ _ (same_self P.state) (both _ _ (same_self P.state) bare)

  -- the test on a list of functions says yes exactly where it does on each of them
  all_sound : (gs : List Function) → all_shaped P gs ≡ true → (f : ℕ) (g : Function) → slice_get gs f ≡ Some g → shape_test P g.kind g.parameters g.result ≡ true
  all_sound [] e f g at = absurd (cc)
  all_sound (h ∷ gs) e zero g at = let same : h ≡ g = cc in ap (λ (g : Function). shape_test P g.kind g.parameters g.result) (sym same) ∙ first_of _ _ e
  all_sound (h ∷ gs) e (suc f) g at = all_sound gs (second_of (shape_test P h.kind h.parameters h.result) _ e) f g at

  all_complete : (gs : List Function) → ((f : ℕ) (g : Function) → slice_get gs f ≡ Some g → shape_test P g.kind g.parameters g.result ≡ true) → all_shaped P gs ≡ true
  all_complete [] h = refl
  all_complete (g ∷ gs) h = both _ _ (h 0 g refl) (all_complete gs (λ f. h (suc f)))

  -- each function that is entered has the shape of its role, where the test says yes
  pub roles_sound : is_shaped P ≡ true → (f : ℕ) (g : Function) → slice_get P.functions f ≡ Some g → is_entered g.kind ≡ true
      → (argument : Ty) × (answer : Ty) × IsRole P f g.kind argument answer
  roles_sound e f g at n =
      let h = shape_sound g.kind g.parameters g.result n (all_sound P.functions e f g at) in
      (h.argument, h.answer, record { function = g; there = at; entered = n; of_kind = refl; parameters = h.parameters_are; result = h.result_is; plain = h.plain })

  -- and the other way round
  pub roles_complete : ((f : ℕ) (g : Function) → slice_get P.functions f ≡ Some g → is_entered g.kind ≡ true → (argument : Ty) × (answer : Ty) × IsRole P f g.kind argument answer) → is_shaped P ≡ true
  roles_complete h = all_complete P.functions one
    where
      inner : (kind : Kind) (ts : List Ty) (r : Ty) → is_entered kind ≡ false → shape_test P kind ts r ≡ true
      inner Inner ts r n = refl
      inner Init ts r n = absurd (cc)
      inner Query ts r n = absurd (cc)
      inner Update ts r n = absurd (cc)

      one : (f : ℕ) (g : Function) → slice_get P.functions f ≡ Some g → shape_test P g.kind g.parameters g.result ≡ true
      one f g at = by (is_entered g.kind) refl
        where
          by : (b : Bool) → is_entered g.kind ≡ b → shape_test P g.kind g.parameters g.result ≡ true
          by false n = inner g.kind g.parameters g.result n
          by true n =
              let r = h f g at n in
              let same : r.2.function ≡ g = cc (r.2.there, at) in
              shape_complete g.kind g.parameters g.result r.0 r.1
              (sym (ap (λ (g : Function). g.parameters) same) ∙ r.2.parameters)
              (sym (ap (λ (g : Function). g.result) same) ∙ r.2.result)
              r.2.plain
