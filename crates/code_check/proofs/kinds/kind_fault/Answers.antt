use Rattle.std.proofs.Common.{◌≡◌, ◌∙◌, ◌≤◌, ◌+◌, Some, drop, length, nat_lt, slice_get, sym, ap, subst, arith, ltb-true, ltb-false}
use Rattle.std.specs.List.{list_all}
use Rattle.std.proofs.lemmas.Option.{slice_get-get_or}
use Rattle.core_terms.proofs.SameTypes.{second_of}
use Rattle.core_terms.specs.Kinds.{function_fault, kind_fault_from}
use Rattle.core_terms.specs.ProgramTrees.{has_fields_below, has_types_below}
use Rattle.core_terms.specs.Programs.{types_in}
use Rattle.code_check.specs.ObjectParts.{body_of_parts, function_with}
use Rattle.code_check.proofs.CalledFunctions.{all_coded, coded_at, past_code, past_functions}
use Rattle.code_check.proofs.FirstFaults.{all_at, from_end, from_place, spot_here, spot_later}
use Rattle.code_check.proofs.ListsOfTypes.{grows_on}
use Rattle.code_check.proofs.kinds.kind_fault.Goals as goal

pub returns-in_default : goal.returns-in_default
returns-in_default c =
    let past : length c.args.parts.now.code.items ≤ c.loop-number.number =
    subst (λ code. length code ≤ c.loop-number.number) c.deref.ensures.value (ltb-false c.loop-number.number (length c.deref.result.now) (sym c.in_default.ensures.lookup.0)) in
    sym (c.loop-number.invariant.fault
    ∙ ap (kind_fault_from (body_of_parts c.args.parts.now) c.loop-number.number)
    (from_end (all_coded (types_in c.args.parts.now.types) c.args.parts.now.functions.items c.args.parts.now.code.items) c.loop-number.number
    (past_code (types_in c.args.parts.now.types) c.args.parts.now.functions.items c.args.parts.now.code.items c.loop-number.number past)))

pub function_fault-requires-clause-function : goal.function_fault-requires-clause-function
function_fault-requires-clause-function c =
    let parts = c.args.parts.now in
    let count = length (types_in c.args.parts.now.types) in
    let there : slice_get parts.functions.items c.loop-number.number ≡ Some c.function-item.result =
    subst (λ l. slice_get l c.loop-number.number ≡ Some c.function-item.result) c.deref-function-items.ensures.value (slice_get-get_or c.deref-function-items.result.now c.loop-number.number c.function-item.result (omega (arith, c.loop-number-test.true)) ∙ ap Some (sym c.function-item.is)) in
    all_at (has_types_below count) parts.functions.items c.loop-number.number c.function-item.result
    (second_of (list_all (has_fields_below count) parts.named.items) _ (second_of (nat_lt parts.state.0 count) _ parts.within)) there

pub returns-in-Some-2 : goal.returns-in-Some-2
returns-in-Some-2 c =
    let parts = c.args.parts.now in
    let types = types_in c.args.parts.now.types in
    let number = c.loop-number.number in
    let all = all_coded (types_in c.args.parts.now.types) c.args.parts.now.functions.items c.args.parts.now.code.items in
    let there : slice_get parts.functions.items number ≡ Some c.function-item.result =
    subst (λ l. slice_get l number ≡ Some c.function-item.result) c.deref-function-items.ensures.value (slice_get-get_or c.deref-function-items.result.now number c.function-item.result (omega (arith, c.loop-number-test.true)) ∙ ap Some (sym c.function-item.is)) in
    let code : slice_get parts.code.items number ≡ Some c.in-Some.code.now =
    subst (λ code. slice_get code number ≡ Some c.in-Some.code.now) c.deref.ensures.value
    (slice_get-get_or c.deref.result.now number c.in-Some.code.now (ltb-true number (length c.deref.result.now) (sym c.in-Some.ensures.lookup.0)) ∙ ap Some (sym c.in-Some.ensures.lookup.1)) in
    let g = function_with types c.function-item.result c.in-Some.code.now.items in
    let fault =
    sym c.in-Some-2.is ∙ c.in_ok-instruction.ensures.fault ∙ ap (λ is. function_fault (body_of_parts parts) (function_with types c.function-item.result is)) c.deref-in-loop-number.ensures.value in
    sym (c.loop-number.invariant.fault
    ∙ ap (kind_fault_from (body_of_parts parts) number) (from_place all number g (coded_at types parts.functions.items parts.code.items number c.function-item.result c.in-Some.code.now there code))
    ∙ spot_here (body_of_parts parts) number c.in-Some-2.instruction g (drop (number + 1) all) fault)

pub loop-number-preserved : goal.loop-number-preserved
loop-number-preserved c = record {
  fault =
      let parts = c.args.parts.now in
      let types = types_in c.args.parts.now.types in
      let number = c.loop-number.number in
      let all = all_coded (types_in c.args.parts.now.types) c.args.parts.now.functions.items c.args.parts.now.code.items in
      let there : slice_get parts.functions.items number ≡ Some c.function-item.result =
      subst (λ l. slice_get l number ≡ Some c.function-item.result) c.deref-function-items.ensures.value (slice_get-get_or c.deref-function-items.result.now number c.function-item.result (omega (arith, c.loop-number-test.true)) ∙ ap Some (sym c.function-item.is)) in
      let code : slice_get parts.code.items number ≡ Some c.in-Some.code.now =
      subst (λ code. slice_get code number ≡ Some c.in-Some.code.now) c.deref.ensures.value
      (slice_get-get_or c.deref.result.now number c.in-Some.code.now (ltb-true number (length c.deref.result.now) (sym c.in-Some.ensures.lookup.0)) ∙ ap Some (sym c.in-Some.ensures.lookup.1)) in
      let g = function_with types c.function-item.result c.in-Some.code.now.items in
      let fault =
      sym c.in_default-2.is ∙ c.in_ok-instruction.ensures.fault ∙ ap (λ is. function_fault (body_of_parts parts) (function_with types c.function-item.result is)) c.deref-in-loop-number.ensures.value in
      c.loop-number.invariant.fault
      ∙ ap (kind_fault_from (body_of_parts parts) number) (from_place all number g (coded_at types parts.functions.items parts.code.items number c.function-item.result c.in-Some.code.now there code))
      ∙ spot_later (body_of_parts parts) number g (drop (number + 1) all) fault;
  table =
      grows_on (types_in c.args.parts.now.types) (types_in c.loop-number.lists.types) (types_in c.function_fault.new.lists.types) c.loop-number.invariant.table c.in_ok-instruction.ensures.grows;
}

pub returns : goal.returns
returns c =
    let past : length c.args.parts.now.functions.items ≤ c.loop-number.number = omega (arith, c.loop-number-test.false, c.deref-function-items.ensures.len) in
    sym (c.loop-number.invariant.fault
    ∙ ap (kind_fault_from (body_of_parts c.args.parts.now) c.loop-number.number)
    (from_end (all_coded (types_in c.args.parts.now.types) c.args.parts.now.functions.items c.args.parts.now.code.items) c.loop-number.number
    (past_functions (types_in c.args.parts.now.types) c.args.parts.now.functions.items c.args.parts.now.code.items c.loop-number.number past)))
