use Rattle.std.proofs.Common.{refl, sym}
use Rattle.lexemes.specs.Places.{start}
use Rattle.auth_syntax.specs.Trees.{expression_of, name_of}
use Rattle.auth_types.proofs.JoinSteps.{let_is_two, operation_is_two, pair_is_two}
use Rattle.auth_types.proofs.TreeViews.{expression-Pair, expression-Binary, expression-Call, expression-Constructor, expression-Operate, expression-Let}
use Rattle.auth_types.proofs.bodies.parts.parts_of.Goals as goal

pub returns-in-Pair-clause-found : goal.returns-in-Pair-clause-found
returns-in-Pair-clause-found c = λ scope locals.
    rw (c.in-Pair.is, expression-Pair, c.deref.ensures, c.deref-in-Pair.ensures)
    (sym (pair_is_two scope locals (expression_of c.in-Pair.first.value) (expression_of c.in-Pair.second.value)))

pub returns-in-Binary-clause-found : goal.returns-in-Binary-clause-found
returns-in-Binary-clause-found c = λ scope locals.
    rw (c.in-Binary.is, expression-Binary, c.deref-in-Binary.ensures, c.deref-in-Binary-2.ensures)
    (sym (operation_is_two scope locals c.in-Binary.operator (expression_of c.in-Binary.first.value) (expression_of c.in-Binary.second.value)))

pub returns-in-Let-clause-found : goal.returns-in-Let-clause-found
returns-in-Let-clause-found c = λ scope locals.
    rw (c.in-Let.is, expression-Let, c.deref-in-Let.ensures, c.deref-in-Let-2.ensures)
    (sym (let_is_two scope locals start (name_of c.in-Let.name) (expression_of c.in-Let.bound.value) (expression_of c.in-Let.body.value)))

pub returns-in-Call-clause-found : goal.returns-in-Call-clause-found
returns-in-Call-clause-found c = λ scope locals. rw (c.in-Call.is, expression-Call, c.deref-in-Call.ensures.value) refl

pub returns-in-Constructor-clause-found : goal.returns-in-Constructor-clause-found
returns-in-Constructor-clause-found c = λ scope locals. rw (c.in-Constructor.is, expression-Constructor, c.deref-in-Constructor.ensures.value) refl

pub returns-in-Operate-clause-found : goal.returns-in-Operate-clause-found
returns-in-Operate-clause-found c = λ scope locals. rw (c.in-Operate.is, expression-Operate, c.deref-in-Operate.ensures.value) refl
