use Rattle.std.proofs.Common.{◌≡◌, ◌∙◌, Err, length, sym, ap, subst, arith}
use Rattle.std.proofs.lemmas.Result.{err_from_is_err_and}
use Rattle.std.proofs.lemmas.Option.{get_or_from_slice_get}
use Rattle.core_terms.specs.Terms.{CallE, ConE}
use Rattle.core_terms.specs.Types.{NamedTy, UnitTy}
use Rattle.core_terms.specs.TypeTables.{type_at}
use Rattle.core_terms.specs.ProgramTrees.{types_at}
use Rattle.declared_types.specs.Checking.{then_checked}
use Rattle.declared_types.specs.Scopes.{AreWithin, function_meant}
use Rattle.declared_types.proofs.ScopeStays.{grows_length, types_stay_at}
use Rattle.auth_types.specs.Bodies.{typed}
use Rattle.auth_types.specs.Elaborators.{scope_of, types_of}
use Rattle.auth_types.proofs.ApplicationSteps.{call_unfit, called_by, constructor_unfit}
use Rattle.auth_types.proofs.CallSteps.{parameters_count, types_count}
use Rattle.auth_types.proofs.ElaboratorSteps.{keeps_self}
use Rattle.auth_types.proofs.bodies.elaborator.Elaborator.named.Goals as goal

pub returns-in_err-id-in-Functions-clause-found : goal.returns-in_err-id-in-Functions-clause-found
returns-in_err-id-in-Functions-clause-found c =
    let p = err_from_is_err_and c.from_residual.result c.from_residual.ensures.1 in
    rw c.in-Functions.is
    (call_unfit (scope_of c.args.self.now) c.args.at c.args.name.now c.args.count (types_of c.args.self.now) _ _ (p.1 ∙ ap Err p.2)
    (function_meant (types_of c.args.self.now) c.args.self.now.scope.now) c.in_err-id-in-Functions.ensures.found)

pub returns-in_ok-id-in-Functions : goal.returns-in_ok-id-in-Functions
returns-in_ok-id-in-Functions c =
    let types = types_of c.args.self.now in
    let id = c.in_ok-id-in-Functions.id in
    let v = (function_meant types c.args.self.now.scope.now id).value in
    let within = c.head-head.ensures.within (length types) c.args.self.now.scope_within in
    record {
      keeps = keeps_self c.args.self.now;
      found = rw (c.in-Functions.is, c.deref.ensures.value)
          (λ each. called_by types _ each (λ t es. typed (CallE id.0 es) t) v c.head-head.result.now (c.in_ok-id-in-Functions.ensures.found each)
          (c.head-head.ensures.signature types));
      count = c.in_ok-id-in-Functions.ensures.count ∙ parameters_count types v c.head-head.result.now (c.head-head.ensures.signature types)
          ∙ ap length (sym c.deref.ensures.value);
      within = subst (AreWithin (length types)) (sym c.deref.ensures.value) within.parameters;
      inside = within.result;
    }

pub returns-in_err-id-in-Constructors-clause-found : goal.returns-in_err-id-in-Constructors-clause-found
returns-in_err-id-in-Constructors-clause-found c =
    let p = err_from_is_err_and c.from_residual-in_err-id-in-Constructors.result c.from_residual-in_err-id-in-Constructors.ensures.1 in
    rw c.in-Constructors.is
    (constructor_unfit (scope_of c.args.self.now) c.args.at c.args.name.now c.args.count (types_of c.args.self.now) _ _ (p.1 ∙ ap Err p.2)
    c.in_err-id-in-Constructors.ensures.found)

pub returns-in_ok-ty-in-Constructors : goal.returns-in_ok-ty-in-Constructors
unfolding scope_of
returns-in_ok-ty-in-Constructors c =
    let old = types_of c.args.self.now in
    let types = types_of c.intern.new.self in
    let id = c.in_ok-id-in-Constructors.id in
    let ids = c.fields-types.result.now in
    let keeps = c.in_ok-ty-in-Constructors.ensures.keeps in
    let within : AreWithin (length old) ids = c.fields-types.ensures.within (length old) c.args.self.now.scope_within in
    let here = types_stay_at old types keeps.grows ids within ∙ c.fields-types.ensures.fields old in
    let is : type_at types c.in_ok-ty-in-Constructors.ty ≡ NamedTy id.named.0 =
    get_or_from_slice_get types c.in_ok-ty-in-Constructors.ty.0 (NamedTy id.named.0) UnitTy c.in_ok-ty-in-Constructors.ensures.number in
    let longer = grows_length old types keeps.grows in
    record {
      keeps = keeps;
      found = rw c.in-Constructors.is
          (λ each. c.in_ok-id-in-Constructors.ensures.found each
          ∙ ap (λ ts. then_checked (each ts) (λ es. typed (ConE id.named.0 id.tag.0 es) (NamedTy id.named.0))) (sym here)
          ∙ ap (λ t. then_checked (each (types_at types ids)) (λ es. typed (ConE id.named.0 id.tag.0 es) t)) (sym is));
      count = c.in_ok-id-in-Constructors.ensures.count ∙ sym (types_count old ids _ (c.fields-types.ensures.fields old));
      within = λ k d below. let inside = within k d below in omega (arith, inside, longer);
      inside = c.in_ok-ty-in-Constructors.ensures.inside;
    }
