use Rattle.core_terms.proofs.TypeTables.{form_means}
use Rattle.core_terms.proofs.TypePushing.{parts_before}
use Rattle.core_terms.proofs.types.TyTable.form.Goals as goal

pub returns : goal.returns
returns c = record {
  form = rw c.form_at.ensures (form_means c.args.self.now.forms.keys c.args.ty.0 c.args.self.now.in_order);
  parts = rw c.form_at.ensures (parts_before c.args.self.now.forms.keys c.args.ty.0 c.args.self.now.in_order);
}
