use Rattle.std.proofs.Common.{length}
use Rattle.core_terms.specs.InstructionViews.{instruction_of}
use Rattle.core_terms.specs.Kinds.{ways}
use Rattle.core_terms.specs.Programs.{types_in}
use Rattle.core_terms.specs.TypeTables.{type_at}
use Rattle.code_check.specs.ObjectParts.{body_of_parts}
use Rattle.code_check.proofs.GoneWays.{gone_as, is_straight_else, stepped}
use Rattle.code_check.proofs.ways.lead_on.Goals as goal

pub returns-in-Switch-clause-behind : goal.returns-in-Switch-clause-behind
returns-in-Switch-clause-behind c =
    gone_as (body_of_parts c.args.parts.now) (type_at (types_in c.args.parts.now.types) c.args.result_type) (types_in c.args.parts.now.types) (types_in c.args.lists.now.types) (types_in c.switch.new.lists.types)
    c.args.at c.args.behind.now c.switch.new.behind _ _ c.switch.result c.in-Switch.is
    (rw c.deref.ensures.value at (c.switch.ensures.behind (type_at (types_in c.args.parts.now.types) c.args.result_type)))

pub returns-in-Branch-clause-behind : goal.returns-in-Branch-clause-behind
returns-in-Branch-clause-behind c =
    gone_as (body_of_parts c.args.parts.now) (type_at (types_in c.args.parts.now.types) c.args.result_type) (types_in c.args.parts.now.types) (types_in c.args.lists.now.types) (types_in c.fork.new.lists.types)
    c.args.at c.args.behind.now c.fork.new.behind _ _ c.fork.result c.in-Branch.is
    (c.fork.ensures.behind (body_of_parts c.args.parts.now) (type_at (types_in c.args.parts.now.types) c.args.result_type))

pub returns-in-Some : goal.returns-in-Some
returns-in-Some c =
    let z = type_at (types_in c.args.parts.now.types) c.args.result_type in
    let straight =
    is_straight_else (length (types_in c.args.parts.now.types)) c.args.instruction.now c.in_default.not-Switch c.in_default.not-Branch c.in_default.not-Jump c.in_default.not-Return
    c.requires.instruction in
    record {
      behind =
          stepped (types_in c.args.lists.now.types) (types_in c.step.new.lists.types) c.args.at c.in-Some.next c.args.behind.now c.reach-in-Some.new.behind
          (λ s. ways (body_of_parts c.args.parts.now) (type_at (types_in c.args.parts.now.types) c.args.result_type) (instruction_of (types_in c.args.parts.now.types) c.args.instruction.now) s.locals s.operands)
          c.reach-in-Some.result c.in_ok-next-in_default.ensures.grows
          (rw c.in-Some.is at (c.in_ok-next-in_default.ensures.next (type_at (types_in c.args.parts.now.types) c.args.result_type) straight)) c.reach-in-Some.ensures;
      grows = c.in_ok-next-in_default.ensures.grows;
    }
