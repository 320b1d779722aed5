use Rattle.std.proofs.Common.{◌≡◌, ◌<◌, ◌+◌, ◌-◌, ◌∙◌, Some, Bool, drop, length, refl, slice_get, sym, ap, subst, arith}
use Rattle.std.proofs.lemmas.List.{take_rest}
use Rattle.std.proofs.lemmas.Option.{slice_get-get_or}
use Rattle.core_terms.specs.InstructionViews.{instruction_of, instructions_of}
use Rattle.core_terms.specs.Kinds.{first_fault, ways}
use Rattle.core_terms.specs.Programs.{types_in}
use Rattle.core_terms.specs.TypeTables.{type_at}
use Rattle.code_check.specs.KindSteps.{IsGone}
use Rattle.code_check.specs.KnownTypes.{AreKnown}
use Rattle.code_check.specs.ObjectParts.{body_of_parts}
use Rattle.code_check.specs.declared.known.Known.TheVariants.{Unreached, Reached}
use Rattle.code_check.proofs.FirstFaults.{after_part, fault_later, from_place, reached_within}
use Rattle.code_check.proofs.ListsOfTypes.{grows_on}
use Rattle.code_check.proofs.kinds.first_fault.Goals as goal

pub lead_on-requires-clause-at : goal.lead_on-requires-clause-at
lead_on-requires-clause-at c =
    let place = c.loop-place.place in
    let inside : place < length c.loop-place.known = omega (arith, c.loop-place-test.true, c.loop-place.auto.known, c.requires.length) in
    let there : slice_get c.loop-place.known place ≡ Some (Reached c.in-Reached.at) = slice_get-get_or c.loop-place.known place Unreached inside ∙ ap Some c.in-Reached.is in
    let now = c.loop-place.invariant.fault c.requires.known.0 c.requires.known.1 in
    reached_within (types_in c.loop-place.lists.types) c.in-Reached.at (drop (place + 1) c.loop-place.known) now.0
    (subst (λ known. AreKnown (types_in c.loop-place.lists.types) known now.0) (from_place c.loop-place.known place (Reached c.in-Reached.at) there) now.1)

pub loop-place-preserved : goal.loop-place-preserved
loop-place-preserved c = record {
  fault = λ ks k.
      let types = types_in c.args.parts.now.types in
      let z = type_at (types_in c.args.parts.now.types) c.args.result_type in
      let place = c.loop-place.place in
      let at = c.in-Reached.at in
      let i = c.index-code-place.result in
      let inside : place < length c.loop-place.known = omega (arith, c.loop-place-test.true, c.loop-place.auto.known, c.requires.length) in
      let there : slice_get c.loop-place.known place ≡ Some (Reached c.in-Reached.at) = slice_get-get_or c.loop-place.known place Unreached inside ∙ ap Some c.in-Reached.is in
      let code : slice_get c.args.code.now place ≡ Some i = slice_get-get_or c.args.code.now place i c.loop-place-test.true ∙ ap Some (sym c.index-code-place.is) in
      let now = c.loop-place.invariant.fault ks k in
      let here = subst (λ known. AreKnown (types_in c.loop-place.lists.types) known now.0) (from_place c.loop-place.known place (Reached c.in-Reached.at) there) now.1 in
      let gone =
      subst (λ (fine : Bool). IsGone (types_in c.loop-place.lists.types) at (drop (place + 1) c.loop-place.known)
      (λ s. ways (body_of_parts c.args.parts.now) z (instruction_of types i) s.locals s.operands) (types_in c.lead_on.new.lists.types) c.lead_on.new.behind fine) c.if-not-branch.false
      (rw (take_rest c.loop-place.known (place + 1)) at c.in_ok-lead_on.ensures.behind) in
      let later =
      fault_later (body_of_parts c.args.parts.now) z (types_in c.loop-place.lists.types) (types_in c.lead_on.new.lists.types) (instruction_of types i) (instructions_of types (drop (place + 1) c.args.code.now))
      place at (drop (place + 1) c.loop-place.known) c.lead_on.new.behind now.0 gone here in
      let written = after_part c.loop-place.known c.lead_on.new.behind (place + 1) (length c.loop-place.known - (place + 1)) (omega (arith, inside)) refl in (
        later.0,
        subst (λ known. AreKnown (types_in c.lead_on.new.lists.types) known later.0) (sym written) later.1,
        now.2
            ∙ ap (λ is. first_fault (body_of_parts c.args.parts.now) z (instructions_of types is) place now.0) (from_place c.args.code.now place i code)
            ∙ later.2,
      );
  grows = grows_on (types_in c.args.lists.now.types) (types_in c.loop-place.lists.types) (types_in c.lead_on.new.lists.types) c.loop-place.invariant.grows c.in_ok-lead_on.ensures.grows;
}
