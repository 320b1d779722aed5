use Rattle.std.proofs.Common.{sym, ◌∙◌}
use Rattle.images.proofs.Roots.{is_none, is_some, left_over, no_root, other_root, root_found}
use Rattle.images.proofs.TypeNumbers.{state_number}
use Rattle.images.proofs.load.root.Goals as goal

pub returns-in_default : goal.returns-in_default
returns-in_default c marking nodes entries stored =
    no_root marking c.args.types.now nodes c.args.loaded.now entries stored c.args.rest.now (sym (sym c.in_default.is ∙ c.last.ensures))

pub returns-then-not-is_of : goal.returns-then-not-is_of
returns-then-not-is_of c marking nodes entries stored =
    other_root marking c.args.types.now nodes c.args.loaded.now entries stored c.args.rest.now c.in-Some.root (sym (sym c.in-Some.is ∙ c.last.ensures))
    c.state_type.result (state_number c.args.types.now c.state_type.result c.state_type.ensures.state c.state_type.ensures.within) c.is_of.result
    c.is_of.ensures c.if-not-is_of.true

pub returns-then-not-is_empty : goal.returns-then-not-is_empty
returns-then-not-is_empty c marking nodes entries stored =
    left_over marking c.args.types.now nodes c.args.loaded.now entries stored c.args.rest.now c.in-Some.root (sym (sym c.in-Some.is ∙ c.last.ensures))
    c.state_type.result (state_number c.args.types.now c.state_type.result c.state_type.ensures.state c.state_type.ensures.within) c.is_of.result
    c.is_of.ensures c.if-not-is_of.false
    (is_some c.args.rest.now c.is_empty.result c.is_empty.ensures c.if-not-is_empty.true)

pub returns : goal.returns
returns c marking nodes entries stored =
    root_found marking c.args.types.now nodes c.args.loaded.now entries stored c.args.rest.now c.in-Some.root (sym (sym c.in-Some.is ∙ c.last.ensures))
    c.state_type.result (state_number c.args.types.now c.state_type.result c.state_type.ensures.state c.state_type.ensures.within) c.is_of.result
    c.is_of.ensures c.if-not-is_of.false
    (is_none c.args.rest.now c.is_empty.result c.is_empty.ensures c.if-not-is_empty.false)
