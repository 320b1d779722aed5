use Rattle.std.proofs.Common.{◌≡◌, ◌∙◌, Err, true, ap, sym, subst}
use Rattle.std.specs.Prelude.{All}
use Rattle.std.proofs.lemmas.Result.{err_from_is_err_and}
use Rattle.core_terms.specs.ProgramSizes.{IsWithinLimits}
use Rattle.core_terms.specs.ProgramTrees.{program_of as program_of_forms}
use Rattle.core_terms.specs.Programs.{meaning, types_in}
use Rattle.core_terms.specs.Typing.{is_shaped, is_typed}
use Rattle.core_terms.specs.declared.format.Format.{Format}
use Rattle.core_terms.specs.declared.types.TyTable.{TyTable}
use Rattle.auth_syntax.specs.Syntax.{Program}
use Rattle.auth_syntax.specs.Trees.{program_of}
use Rattle.declared_types.specs.DeclaredPrograms.{format_of, names_of}
use Rattle.declared_types.specs.Checking.{Sound}
use Rattle.declared_types.specs.Scopes.{IsCounted}
use Rattle.declared_types.specs.declared.scope.Scope.{Scope}
use Rattle.auth_types.proofs.PassesOfTrees.{fourth_fault, fourth_told, names_fault}
use Rattle.declared_types.proofs.FirstPasses.{IsRefused, finds_refused, heads_signed}
use Rattle.auth_types.proofs.ProgramOfPasses.{heads_counted, passed_on}
use Rattle.auth_types.proofs.check.all_passes.Goals as goal

pub returns-in_err-declared-clause-answer : goal.returns-in_err-declared-clause-answer
returns-in_err-declared-clause-answer c =
    let p = err_from_is_err_and c.from_residual.result c.from_residual.ensures.1 in
    finds_refused meaning _ _ _ (p.1 ∙ ap Err p.2) (names_fault (program_of c.args.ast.now) c.in_err-declared.field-0.0
    c.in_err-declared.ensures.found)

pub fourth_pass-requires-clause-counts : goal.fourth_pass-requires-clause-counts
fourth_pass-requires-clause-counts c =
    let program : Program = program_of c.args.ast.now in
    let s = c.in_ok-types.field-0 in
    subst (λ (scope : Scope). All IsCounted scope.heads.items) (sym c.deref.ensures)
    (heads_counted (format_of program) (names_of program) _ s.scope.value (heads_signed program _ s.scope.value s.state c.in_ok-types.ensures.shaped))

pub returns-in_err-bodies-clause-answer : goal.returns-in_err-bodies-clause-answer
returns-in_err-bodies-clause-answer c =
    let p = err_from_is_err_and c.from_residual-in_err-bodies.result c.from_residual-in_err-bodies.ensures.1 in
    let program : Program = program_of c.args.ast.now in
    let s = c.in_ok-types.field-0 in
    let fault = c.in_err-bodies.field-0.0 in
    finds_refused meaning _ fault _ (p.1 ∙ ap Err p.2)
    (fourth_fault program c.in_ok-declared.ensures.found c.in_ok-types.ensures.found fault
    (fourth_told program _ s.scope.value s.state c.in_ok-types.ensures.shaped (λ found. IsRefused found fault) c.into_inner.result c.deref.result.now
    (ap (λ (table : TyTable). table.format) c.into_inner.ensures ∙ c.in_ok-types.ensures.format) (ap types_in c.into_inner.ensures) c.deref.ensures c.in_err-bodies.ensures.found))

pub new-requires : goal.new-requires
new-requires c =
    let s = c.in_ok-types.field-0 in
    let p =
    passed_on (program_of c.args.ast.now) s.types.value s.scope.value s.state c.in_ok-types.ensures.shaped c.in_ok-types.ensures.format
    c.into_inner.result c.deref.result.now c.into_inner-named.result c.args.ast.now.within c.into_inner.ensures c.deref.ensures
    c.into_inner-named.ensures c.in_ok-bodies.bodies.types.forms.keys c.in_ok-bodies.bodies.functions.items c.in_ok-bodies.ensures.grows
    c.in_ok-declared.ensures.found c.in_ok-types.ensures.found
    c.in_ok-bodies.ensures.found c.in_ok-bodies.ensures.parameters c.in_ok-bodies.ensures.results c.in_ok-bodies.ensures.literals in
    let b = c.in_ok-bodies.bodies in
    let told = sym (c.in_ok-bodies.ensures.format ∙ ap (λ (table : TyTable). table.format) c.into_inner.ensures ∙ c.in_ok-types.ensures.format) in
    let program = λ (format : Format). program_of_forms format b.types.forms.keys c.into_inner-named.result.named.items s.state b.functions.items in
    record {
      typed = subst (λ (format : Format). is_typed (program format) ≡ true) told p.typed;
      shaped = subst (λ (format : Format). is_shaped (program format) ≡ true) told p.shaped;
      within = p.within;
      names = p.names;
      limits = subst (λ (format : Format). IsWithinLimits (program format)) told p.limits;
    }

pub returns-clause-answer : goal.returns-clause-answer
returns-clause-answer c =
    let s = c.in_ok-types.field-0 in
    let p =
    passed_on (program_of c.args.ast.now) s.types.value s.scope.value s.state c.in_ok-types.ensures.shaped c.in_ok-types.ensures.format
    c.into_inner.result c.deref.result.now c.into_inner-named.result c.args.ast.now.within c.into_inner.ensures c.deref.ensures
    c.into_inner-named.ensures c.in_ok-bodies.bodies.types.forms.keys c.in_ok-bodies.bodies.functions.items c.in_ok-bodies.ensures.grows
    c.in_ok-declared.ensures.found c.in_ok-types.ensures.found
    c.in_ok-bodies.ensures.found c.in_ok-bodies.ensures.parameters c.in_ok-bodies.ensures.results c.in_ok-bodies.ensures.literals in
    let b = c.in_ok-bodies.bodies in
    p.gives
    ∙ ap (λ (format : Format). Sound (program_of_forms format b.types.forms.keys c.into_inner-named.result.named.items s.state b.functions.items)) (sym (c.in_ok-bodies.ensures.format ∙ ap (λ (table : TyTable). table.format) c.into_inner.ensures ∙ c.in_ok-types.ensures.format))
    ∙ ap Sound (sym c.in_ok-new.ensures.meaning)
