use Rattle.std.proofs.Common.{Ok}
use Rattle.core_terms.specs.Programs.{types_in}
use Rattle.code_check.specs.ObjectParts.{body_of_parts}
use Rattle.code_check.proofs.SteppedFrames.{arm_next}
use Rattle.code_check.proofs.steps.step.Goals as goal

pub returns-in-Load-clause-next : goal.returns-in-Load-clause-next
returns-in-Load-clause-next c = λ z t.
    arm_next (body_of_parts c.args.parts.now) z (types_in c.args.parts.now.types) (types_in c.args.lists.now.types) (types_in c.loaded.new.lists.types) c.args.at _ _ c.loaded.result c.in-Load.is
    (c.loaded.ensures.next (body_of_parts c.args.parts.now) z)

pub returns-in-Bind-clause-next : goal.returns-in-Bind-clause-next
returns-in-Bind-clause-next c = λ z t.
    arm_next (body_of_parts c.args.parts.now) z (types_in c.args.parts.now.types) (types_in c.args.lists.now.types) (types_in c.bound.new.lists.types) c.args.at _ _ c.bound.result c.in-Bind.is
    (c.bound.ensures.next (body_of_parts c.args.parts.now) z)

pub returns-in-Pair-clause-next : goal.returns-in-Pair-clause-next
returns-in-Pair-clause-next c = λ z t.
    arm_next (body_of_parts c.args.parts.now) z (types_in c.args.parts.now.types) (types_in c.args.lists.now.types) (types_in c.paired.new.lists.types) c.args.at _ _ c.paired.result c.in-Pair.is
    (c.paired.ensures.next (body_of_parts c.args.parts.now) z)

pub returns-in-Fst-clause-next : goal.returns-in-Fst-clause-next
returns-in-Fst-clause-next c = λ z t.
    arm_next (body_of_parts c.args.parts.now) z (types_in c.args.parts.now.types) (types_in c.args.lists.now.types) (types_in c.first_taken.new.lists.types) c.args.at _ _ c.first_taken.result c.in-Fst.is
    (c.first_taken.ensures.next (body_of_parts c.args.parts.now) z)

pub returns-in-Snd-clause-next : goal.returns-in-Snd-clause-next
returns-in-Snd-clause-next c = λ z t.
    arm_next (body_of_parts c.args.parts.now) z (types_in c.args.parts.now.types) (types_in c.args.lists.now.types) (types_in c.second_taken.new.lists.types) c.args.at _ _ c.second_taken.result c.in-Snd.is
    (c.second_taken.ensures.next (body_of_parts c.args.parts.now) z)

pub returns-in-Make-clause-next : goal.returns-in-Make-clause-next
returns-in-Make-clause-next c = λ z t.
    arm_next (body_of_parts c.args.parts.now) z (types_in c.args.parts.now.types) (types_in c.args.lists.now.types) (types_in c.made.new.lists.types) c.args.at _ _ c.made.result c.in-Make.is
    (c.made.ensures.next z)

pub returns-in-Call-clause-next : goal.returns-in-Call-clause-next
returns-in-Call-clause-next c = λ z t.
    arm_next (body_of_parts c.args.parts.now) z (types_in c.args.parts.now.types) (types_in c.args.lists.now.types) (types_in c.called.new.lists.types) c.args.at _ _ c.called.result c.in-Call.is
    (c.called.ensures.next z)

pub returns-in-Unbind-clause-next : goal.returns-in-Unbind-clause-next
returns-in-Unbind-clause-next c = λ z t.
    arm_next (body_of_parts c.args.parts.now) z (types_in c.args.parts.now.types) (types_in c.args.lists.now.types) (types_in c.args.lists.now.types) c.args.at _ _ (Ok c.unbound.result) c.in-Unbind.is
    (c.unbound.ensures (body_of_parts c.args.parts.now) z)
