use Rattle.std.proofs.Common.{sym, subst}
use Rattle.core_terms.specs.contracts.types.TyFormPartialEq.TheImpl.{eq-value}
use Rattle.core_terms.specs.TypeTables.{IsWithForm}
use Rattle.core_terms.proofs.TypePushing.{with_form, own_form}
use Rattle.core_terms.proofs.types.add.Goals as goal

pub returns-in-Ok-clause-either : goal.returns-in-Ok-clause-either
returns-in-Ok-clause-either c = subst (IsWithForm c.args.forms.now.keys c.args.form) (sym c.in-Ok.ensures.keys) (with_form eq-value.it own_form c.args.forms.now.keys c.args.form)
