use Rattle.core_terms.proofs.TermViews.{expression-Call, expression-Constructor}
use Rattle.auth_types.proofs.bodies.calls.applied_term.Goals as goal

pub returns-in-Function : goal.returns-in-Function
returns-in-Function c = λ types. rw c.in-Function.is (expression-Call types c.in-Function.id c.args.terms)

pub returns-in-Constructor : goal.returns-in-Constructor
returns-in-Constructor c = λ types. rw c.in-Constructor.is (expression-Constructor types c.in-Constructor.id.named c.in-Constructor.id.tag c.args.terms)
