use Rattle.std.proofs.Common.{◌∙◌, [], length, set, ap, subst, sym}
use Rattle.core_terms.proofs.SameTypes.{first_of}
use Rattle.core_terms.specs.CodeShapes.{shape}
use Rattle.core_terms.specs.InstructionViews.{instructions_of}
use Rattle.core_terms.specs.Kinds.{first_fault, function_fault}
use Rattle.core_terms.specs.Programs.{types_in}
use Rattle.core_terms.specs.TypeTables.{type_at}
use Rattle.code_check.specs.KnownTypes.{AreKnown, IsFrame}
use Rattle.code_check.specs.ObjectParts.{body_of_parts, function_with}
use Rattle.code_check.specs.declared.known.Known.TheVariants.{Reached}
use Rattle.code_check.proofs.FirstFaults.{at_first, fault_is, some_code}
use Rattle.code_check.proofs.ListsOfTypes.{below_more, longer_by, types_stay}
use Rattle.code_check.proofs.kinds.function_fault.Goals as goal

pub start_of-requires : goal.start_of-requires
start_of-requires c = record {
  parameters =
      below_more (length (types_in c.args.parts.now.types)) (length (types_in c.args.lists.now.types)) c.args.function.now.parameters.items
      (longer_by (types_in c.args.parts.now.types) (types_in c.args.lists.now.types) c.requires.table) (first_of _ _ c.requires.function);
}

pub first_fault-requires-clause-known : goal.first_fault-requires-clause-known
first_fault-requires-clause-known c =
    let frame =
    subst (λ ts. IsFrame (types_in c.start_of.new.lists.types) c.in_ok-start.start (shape ts []))
    (types_stay (types_in c.args.parts.now.types) (types_in c.args.lists.now.types) c.args.function.now.parameters.items c.requires.table (first_of _ _ c.requires.function)) c.in_ok-start.ensures.frame in
    let start =
    at_first (body_of_parts c.args.parts.now) (types_in c.start_of.new.lists.types) (types_in c.args.parts.now.types) c.args.function.now c.args.code.now c.in_ok-start.start
    (some_code _ (length c.args.code.now) c.in_ok-known.ensures.len c.if-is_empty.ensures) frame in
    let is = c.deref_mut.ensures.value ∙ ap (λ known. set known 0 (Reached c.in_ok-start.start)) (c.in_ok-known.ensures.items_if_clones_equal (λ y e. e)) in
    (start.0, subst (λ known. AreKnown (types_in c.start_of.new.lists.types) known start.0) (sym is) start.1)

pub returns-clause-fault : goal.returns-clause-fault
returns-clause-fault c =
    let frame =
    subst (λ ts. IsFrame (types_in c.start_of.new.lists.types) c.in_ok-start.start (shape ts []))
    (types_stay (types_in c.args.parts.now.types) (types_in c.args.lists.now.types) c.args.function.now.parameters.items c.requires.table (first_of _ _ c.requires.function)) c.in_ok-start.ensures.frame in
    let start =
    at_first (body_of_parts c.args.parts.now) (types_in c.start_of.new.lists.types) (types_in c.args.parts.now.types) c.args.function.now c.args.code.now c.in_ok-start.start
    (some_code _ (length c.args.code.now) c.in_ok-known.ensures.len c.if-is_empty.ensures) frame in
    let is = c.deref_mut.ensures.value ∙ ap (λ known. set known 0 (Reached c.in_ok-start.start)) (c.in_ok-known.ensures.items_if_clones_equal (λ y e. e)) in
    fault_is c.first_fault.result (types_in c.start_of.new.lists.types) c.deref_mut.result.now start.0
    (λ ks. first_fault (body_of_parts c.args.parts.now) (type_at (types_in c.args.parts.now.types) c.args.function.now.result) (instructions_of (types_in c.args.parts.now.types) c.args.code.now) 0 ks)
    (function_fault (body_of_parts c.args.parts.now) (function_with (types_in c.args.parts.now.types) c.args.function.now c.args.code.now)) c.first_fault.ensures.fault
    (subst (λ known. AreKnown (types_in c.start_of.new.lists.types) known start.0) (sym is) start.1) start.2
