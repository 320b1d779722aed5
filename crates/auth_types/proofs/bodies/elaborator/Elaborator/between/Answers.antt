use Rattle.std.proofs.Common.{◌≡◌, List, length, take, refl, sym, subst}
use Rattle.core_terms.specs.Types.{Ty}
use Rattle.core_terms.specs.TypeTables.{type_at}
use Rattle.auth_syntax.specs.Trees.{name_of}
use Rattle.declared_types.specs.OverTypes.{Grows}
use Rattle.declared_types.proofs.TypeNumbers.{grows_self}
use Rattle.auth_types.specs.Bodies.{Local}
use Rattle.auth_types.specs.Elaborators.{locals_of, types_of}
use Rattle.auth_types.proofs.FindingSteps.{on_ok}
use Rattle.auth_types.proofs.JoinSteps.{all_taken, bound_outer, operand_compared}
use Rattle.auth_types.proofs.bodies.elaborator.Elaborator.between.Goals as goal

pub returns-in-Pair : goal.returns-in-Pair
returns-in-Pair c = record {
  grows = grows_self (types_of c.args.self.now);
  scope = refl;
  found = rw c.in-Pair.is refl;
  outer = all_taken (locals_of c.args.self.now);
}

pub returns-in_ok-wanted-in-Operation : goal.returns-in_ok-wanted-in-Operation
returns-in_ok-wanted-in-Operation c =
    let before = locals_of c.args.self.now in
    let keeps = c.in_ok-wanted-in-Operation.ensures.keeps in
    record {
      grows = on_ok c.compared.result keeps.grows;
      scope = on_ok c.compared.result keeps.scope;
      found = rw c.in-Operation.is
          (operand_compared c.args.at before c.in-Operation.operator (types_of c.args.self.now) (types_of c.operand_type.new.self)
          (locals_of c.operand_type.new.self) c.args.ty c.in_ok-wanted-in-Operation.wanted c.compared.result keeps.grows c.requires keeps.locals
          c.in_ok-wanted-in-Operation.ensures.found (c.compared.ensures before));
      outer = on_ok c.compared.result
          (subst (λ (ls : List Local). take (length before) ls ≡ before) (sym keeps.locals) (all_taken before));
    }

pub returns-in-Let : goal.returns-in-Let
returns-in-Let c = record {
  grows = on_ok c.bind.result (subst (λ (l : List Ty). Grows (types_of c.args.self.now) l) (sym c.bind.ensures.types) (grows_self (types_of c.args.self.now)));
  scope = on_ok c.bind.result c.bind.ensures.scope;
  found = rw c.in-Let.is c.bind.ensures.found;
  outer = bound_outer (locals_of c.args.self.now) (locals_of c.bind.new.self) (name_of c.in-Let.name.now)
      (type_at (types_of c.args.self.now) c.args.ty) c.bind.result c.bind.ensures.found;
}
