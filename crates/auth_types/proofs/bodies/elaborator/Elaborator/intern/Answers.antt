use Rattle.auth_types.specs.Elaborators.{scope_of}
use Rattle.auth_types.proofs.ElaboratorSteps.{keeps_grown}
use Rattle.auth_types.proofs.FindingSteps.{on_ok}
use Rattle.declared_types.proofs.TypeNumbers.{grows_either}
use Rattle.std.proofs.Common.{refl}
use Rattle.auth_types.proofs.bodies.elaborator.Elaborator.intern.Goals as goal

pub returns-clause-keeps : goal.returns-clause-keeps
returns-clause-keeps c = on_ok c.intern.result (keeps_grown c.args.self.now _ c.intern.ensures.format (grows_either _ _ _ c.intern.ensures.types) refl refl
    c.args.self.now.scope_within c.args.self.now.locals_within)

pub intern-requires-clause-format : goal.intern-requires-clause-format
unfolding scope_of
intern-requires-clause-format c = c.requires.format
