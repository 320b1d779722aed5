use Rattle.std.proofs.Common.{◌≡◌, ◌<◌, ◌≤◌, ◌∙◌, Err, List, length, map, slice_index_or, sym, ap, subst}
use Rattle.std.proofs.lemmas.Result.{err_from_is_err_and}
use Rattle.core_terms.specs.Programs.{types_in}
use Rattle.core_terms.specs.ProgramTrees.{function_of as term_function}
use Rattle.core_terms.specs.Types.{Ty}
use Rattle.core_terms.specs.declared.term.Function.{Function}
use Rattle.auth_syntax.specs.Trees.{function_of}
use Rattle.auth_types.specs.Bodies.{checked_function, checked_functions}
use Rattle.declared_types.specs.Checking.{Sound}
use Rattle.declared_types.specs.OverTypes.{Grows}
use Rattle.declared_types.specs.DeclaredPrograms.{signature_of}
use Rattle.auth_types.specs.Elaborators.{scope_of, types_of}
use Rattle.declared_types.specs.Scopes.{IsHeadWithin, functions_meant, scope_meant, signature_meant}
use Rattle.declared_types.specs.Signatures.{Scope as MeantScope}
use Rattle.declared_types.specs.declared.scope.Head.{Head}
use Rattle.auth_types.proofs.ElaboratorSteps.{keeps_on}
use Rattle.auth_types.proofs.FindingSteps.{finds_by, shows_is}
use Rattle.auth_types.proofs.FunctionSteps.{functions_last, functions_more, functions_refused, head_signature, taken_more}
use Rattle.auth_types.proofs.LiteralSteps.{functions_good, functions_good_last}
use Rattle.auth_types.proofs.RowSteps.{next_mapped, none_mapped}
use Rattle.declared_types.proofs.ScopeStays.{signature_stays}
use Rattle.auth_types.proofs.bodies.functions.fourth_pass.Goals as goal

pub returns-in_err-function-clause-found : goal.returns-in_err-function-clause-found
returns-in_err-function-clause-found c =
    let p = err_from_is_err_and c.from_residual.result c.from_residual.ensures.1 in
    let first = c.new-elaborator.result in
    let e = c.loop-head.elaborator in
    let old = types_in c.args.types in
    let types = types_of e in
    let scope = c.args.scope.now in
    let heads = scope.heads.items in
    let fs = functions_meant scope in
    let format : (scope_of first).format ≡ c.args.types.format = ap (λ (s : MeantScope). s.format) c.new-elaborator.ensures.scope in
    let head = c.head-item.result in
    let f = function_of head.function.now in
    let i = c.loop-head.head-index in
    let inside : i < length heads = rw c.deref-head-items.ensures.value at c.loop-head-test.true in
    let is : head ≡ slice_index_or heads i head = rw c.deref-head-items.ensures.value at c.head-item.is in
    let within : IsHeadWithin (length old) head = subst (IsHeadWithin (length old)) (sym is) (c.requires.within.heads i head inside) in
    let grows : Grows old types = subst (λ (l : List Ty). Grows l types) c.new-elaborator.ensures.types c.loop-head.invariant.keeps.grows in
    let stays : signature_meant types head ≡ signature_meant old head = signature_stays old types grows head within in
    let kept : (scope_of e).format ≡ (scope_of first).format = ap (λ (s : MeantScope). s.format) c.loop-head.invariant.keeps.scope in
    let here = next_mapped (λ (h : Head). function_of h.function.now) heads i head head inside is in
    λ names same.
    let same' : map (signature_meant (types_of first)) heads ≡ map (signature_of (scope_of first).format names) fs =
    subst (λ (l : List Ty). map (signature_meant l) heads ≡ map (signature_of (scope_of first).format names) fs) (sym c.new-elaborator.ensures.types)
    (same ∙ ap (λ f. map (signature_of f names) fs) (sym format)) in
    finds_by (types_of c.function.new.self) term_function _ (checked_function names (scope_of e) f)
    (checked_functions names (scope_meant c.args.types.format old scope) fs) _ _ (p.1 ∙ ap Err p.2)
    (λ kind at refused. ap (λ s. checked_functions names s fs) (sym c.new-elaborator.ensures.scope)
    ∙ functions_refused names (scope_of first) fs i f here c.loop-head.functions.items _ types kind at (c.loop-head.invariant.found names same')
    (ap (λ s. checked_function names s f) (sym c.loop-head.invariant.keeps.scope) ∙ refused))
    (c.in_err-function.ensures.found names (stays ∙ head_signature old (scope_of e).format names heads i head inside is
    (same ∙ ap (λ f. map (signature_of f names) fs) (sym (kept ∙ format)))))

pub loop-head-preserved : goal.loop-head-preserved
loop-head-preserved c =
    let first = c.new-elaborator.result in
    let e = c.loop-head.elaborator in
    let old = types_in c.args.types in
    let types = types_of e in
    let scope = c.args.scope.now in
    let heads = scope.heads.items in
    let fs = functions_meant scope in
    let head = c.head-item.result in
    let f = function_of head.function.now in
    let i = c.loop-head.head-index in
    let inside : i < length heads = rw c.deref-head-items.ensures.value at c.loop-head-test.true in
    let is : head ≡ slice_index_or heads i head = rw c.deref-head-items.ensures.value at c.head-item.is in
    let within : IsHeadWithin (length old) head = subst (IsHeadWithin (length old)) (sym is) (c.requires.within.heads i head inside) in
    let grows : Grows old types = subst (λ (l : List Ty). Grows l types) c.new-elaborator.ensures.types c.loop-head.invariant.keeps.grows in
    let stays : signature_meant types head ≡ signature_meant old head = signature_stays old types grows head within in
    let kept : (scope_of e).format ≡ (scope_of first).format = ap (λ (s : MeantScope). s.format) c.loop-head.invariant.keeps.scope in
    let here = next_mapped (λ (h : Head). function_of h.function.now) heads i head head inside is in
    record {
      keeps = keeps_on c.loop-head.invariant.keeps c.in_ok-function.ensures.keeps;
      found = λ names same'.
          let same : map (signature_meant old) heads ≡ map (signature_of (scope_of e).format names) fs =
          subst (λ (l : List Ty). map (signature_meant l) heads ≡ map (signature_of (scope_of first).format names) fs) c.new-elaborator.ensures.types same'
          ∙ ap (λ f. map (signature_of f names) fs) (sym kept) in
          rw c.in_ok-push.ensures.items
          (functions_more names (scope_of first) fs i f here c.loop-head.functions.items _ types (types_of c.function.new.self)
          c.in_ok-function.field-0 c.in_ok-function.ensures.keeps.grows (c.loop-head.invariant.found names same')
          (shows_is (types_of c.function.new.self) term_function _ _ c.in_ok-function.field-0
          (ap (λ s. checked_function names s f) c.loop-head.invariant.keeps.scope)
          (c.in_ok-function.ensures.found names (stays ∙ head_signature old (scope_of e).format names heads i head inside is same))));
      parameters = rw c.in_ok-push.ensures.items
          (taken_more (λ (g : Function). g.parameters.items) (λ (h : Head). h.parameters.items) c.loop-head.functions.items c.in_ok-function.field-0
          heads i head inside is c.loop-head.invariant.parameters c.in_ok-function.ensures.parameters);
      results = rw c.in_ok-push.ensures.items
          (taken_more (λ (g : Function). g.result) (λ (h : Head). h.result) c.loop-head.functions.items c.in_ok-function.field-0 heads i head inside
          is c.loop-head.invariant.results c.in_ok-function.ensures.gives);
      literals = functions_good fs i f here c.in_ok-function.ensures.literals c.loop-head.invariant.literals;
    }

pub returns-clause-found : goal.returns-clause-found
returns-clause-found c =
    let first = c.new-elaborator.result in
    let e = c.loop-head.elaborator in
    let old = types_in c.args.types in
    let scope = c.args.scope.now in
    let heads = scope.heads.items in
    let fs = functions_meant scope in
    let format : (scope_of first).format ≡ c.args.types.format = ap (λ (s : MeantScope). s.format) c.new-elaborator.ensures.scope in
    let i = c.loop-head.head-index in
    let past : length heads ≤ i = rw c.deref-head-items.ensures.value at c.loop-head-test.false in
    λ names same.
    let same' : map (signature_meant (types_of first)) heads ≡ map (signature_of (scope_of first).format names) fs =
    subst (λ (l : List Ty). map (signature_meant l) heads ≡ map (signature_of (scope_of first).format names) fs) (sym c.new-elaborator.ensures.types)
    (same ∙ ap (λ f. map (signature_of f names) fs) (sym format)) in
    ap (λ s. checked_functions names s fs) (sym c.new-elaborator.ensures.scope)
    ∙ functions_last (types_of e) names (scope_of first) fs i c.loop-head.functions.items
    _ (none_mapped (λ (h : Head). function_of h.function.now) heads i past) (c.loop-head.invariant.found names same')
    ∙ ap (λ l. Sound (map (term_function l) c.loop-head.functions.items)) (sym c.into_types.ensures.types)

pub returns-clause-literals : goal.returns-clause-literals
returns-clause-literals c =
    let heads = c.args.scope.now.heads.items in
    let i = c.loop-head.head-index in
    let past : length heads ≤ i = rw c.deref-head-items.ensures.value at c.loop-head-test.false in
    functions_good_last (functions_meant c.args.scope.now) i (none_mapped (λ (h : Head). function_of h.function.now) heads i past)
    c.loop-head.invariant.literals
