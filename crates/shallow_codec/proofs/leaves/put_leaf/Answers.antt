use Rattle.std.proofs.Common.{suc, sym, subst}
use Rattle.core_terms.specs.Reading.{read_value}
use Rattle.core_terms.specs.TypeTables.{type_at, type_of_form}
use Rattle.core_terms.specs.declared.types.TyForm.{TyForm}
use Rattle.shallow_codec.specs.PutValues.{IsRead}
use Rattle.shallow_codec.proofs.leaves.put_leaf.Goals as goal

pub returns-in-UnitForm-clause-read : goal.returns-in-UnitForm-clause-read
returns-in-UnitForm-clause-read g c = λ types tys levels.
    subst (λ (form : TyForm). IsRead types (g.N.Nodes.nodes c.put_unit.new.store) (suc levels) (type_of_form tys form) c.args.at (read_value types (suc levels) (type_of_form tys form) c.args.at.rest.now c.args.at.offset) c.put_unit.result)
    (sym c.in-UnitForm.is) (c.put_unit.ensures.read types levels)

pub returns-in-BoolForm-clause-read : goal.returns-in-BoolForm-clause-read
returns-in-BoolForm-clause-read g c = λ types tys levels.
    subst (λ (form : TyForm). IsRead types (g.N.Nodes.nodes c.put_bool.new.store) (suc levels) (type_of_form tys form) c.args.at (read_value types (suc levels) (type_of_form tys form) c.args.at.rest.now c.args.at.offset) c.put_bool.result)
    (sym c.in-BoolForm.is) (c.put_bool.ensures.read types levels)

pub returns-in-IntForm-clause-read : goal.returns-in-IntForm-clause-read
returns-in-IntForm-clause-read g c = λ types tys levels.
    subst (λ (form : TyForm). IsRead types (g.N.Nodes.nodes c.put_int.new.store) (suc levels) (type_of_form tys form) c.args.at (read_value types (suc levels) (type_of_form tys form) c.args.at.rest.now c.args.at.offset) c.put_int.result)
    (sym c.in-IntForm.is) (c.put_int.ensures.read types levels)

pub returns-in-TextForm-clause-read : goal.returns-in-TextForm-clause-read
returns-in-TextForm-clause-read g c = λ types tys levels.
    subst (λ (form : TyForm). IsRead types (g.N.Nodes.nodes c.put_text.new.store) (suc levels) (type_of_form tys form) c.args.at (read_value types (suc levels) (type_of_form tys form) c.args.at.rest.now c.args.at.offset) c.put_text.result)
    (sym c.in-TextForm.is) (c.put_text.ensures.read types levels)

pub returns-in-AuthForm-clause-read : goal.returns-in-AuthForm-clause-read
returns-in-AuthForm-clause-read g c = λ types tys levels.
    subst (λ (form : TyForm). IsRead types (g.N.Nodes.nodes c.put_digest.new.store) (suc levels) (type_of_form tys form) c.args.at (read_value types (suc levels) (type_of_form tys form) c.args.at.rest.now c.args.at.offset) c.put_digest.result)
    (sym c.in-AuthForm.is) (c.put_digest.ensures.read types levels (type_at tys c.in-AuthForm.field-0))
