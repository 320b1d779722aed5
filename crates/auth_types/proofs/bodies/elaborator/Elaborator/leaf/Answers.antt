use Rattle.std.proofs.Common.{◌∙◌, ap, rules}
use Rattle.std.proofs.lemmas.Str.{IsUtf8-from_is_utf8}
use Rattle.core_terms.specs.Types.{UnitTy, BoolTy}
use Rattle.core_terms.specs.Terms.{UnitE, BoolE}
use Rattle.core_terms.specs.declared.term.Term as term
use Rattle.core_terms.proofs.TermViews as terms
use Rattle.auth_syntax.specs.Trees.{expression_of}
use Rattle.auth_types.specs.Elaborators.{found_at, types_of}
use Rattle.auth_types.proofs.ElaboratorSteps.{keeps_self}
use Rattle.auth_types.proofs.FindingSteps.{on_ok}
use Rattle.auth_types.proofs.LocalSteps.{int_shows, literal_shows}
use Rattle.auth_types.proofs.TreeViews.{expression-UnitLiteral, expression-BoolLiteral, expression-IntLiteral, expression-TextLiteral, expression-Local}
use Rattle.auth_types.proofs.bodies.elaborator.Elaborator.leaf.Goals as goal

pub returns-in-UnitLiteral : goal.returns-in-UnitLiteral
returns-in-UnitLiteral c = record {
  keeps = c.plain.ensures.keeps;
  found = c.plain.ensures.found _
      (λ _. literal_shows (types_of c.plain.new.self) _ term.UnitLiteral UnitE UnitTy
      (ap (found_at c.args.self.now) (ap expression_of c.in-UnitLiteral.is ∙ expression-UnitLiteral _)) (λ types. terms.expression-UnitLiteral types));
  inside = c.plain.ensures.inside;
  literals = rw (c.in-UnitLiteral.is, expression-UnitLiteral) (on_ok c.plain.result tt);
}

pub returns-in-BoolLiteral : goal.returns-in-BoolLiteral
returns-in-BoolLiteral c = record {
  keeps = c.plain-in-BoolLiteral.ensures.keeps;
  found = c.plain-in-BoolLiteral.ensures.found _
      (λ _. literal_shows (types_of c.plain-in-BoolLiteral.new.self) _ (term.BoolLiteral c.in-BoolLiteral.value) (BoolE c.in-BoolLiteral.value) BoolTy
      (ap (found_at c.args.self.now) (ap expression_of c.in-BoolLiteral.is ∙ expression-BoolLiteral _ _))
      (λ types. terms.expression-BoolLiteral types c.in-BoolLiteral.value));
  inside = c.plain-in-BoolLiteral.ensures.inside;
  literals = rw (c.in-BoolLiteral.is, expression-BoolLiteral) (on_ok c.plain-in-BoolLiteral.result tt);
}

pub returns-in-IntLiteral : goal.returns-in-IntLiteral
returns-in-IntLiteral c = record {
  keeps = c.plain-in-IntLiteral.ensures.keeps;
  found = c.plain-in-IntLiteral.ensures.found _
      (λ _. int_shows (types_of c.plain-in-IntLiteral.new.self) _ c.in-IntLiteral.value _
      (ap (found_at c.args.self.now) (ap expression_of c.in-IntLiteral.is ∙ expression-IntLiteral _ _)) (search rules));
  inside = c.plain-in-IntLiteral.ensures.inside;
  literals = rw (c.in-IntLiteral.is, expression-IntLiteral) (on_ok c.plain-in-IntLiteral.result (search rules));
}

pub returns-in-TextLiteral : goal.returns-in-TextLiteral
returns-in-TextLiteral c = record {
  keeps = c.text.ensures.keeps;
  found = rw (c.in-TextLiteral.is, expression-TextLiteral) c.text.ensures.found;
  inside = c.text.ensures.inside;
  literals = rw (c.in-TextLiteral.is, expression-TextLiteral) (on_ok c.text.result
      (IsUtf8-from_is_utf8 c.in-TextLiteral.text.bytes.items c.in-TextLiteral.text.utf8, c.in-TextLiteral.text.fits));
}

pub returns-in-Local : goal.returns-in-Local
returns-in-Local c = record {
  keeps = on_ok c.local.result (keeps_self c.args.self.now);
  found = rw (c.in-Local.is, expression-Local) c.local.ensures.found;
  inside = c.local.ensures.inside;
  literals = rw (c.in-Local.is, expression-Local) (on_ok c.local.result tt);
}
