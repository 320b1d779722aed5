use Rattle.core_terms.proofs.TypePushing.{form_placed, form_missing}
use Rattle.core_terms.proofs.types.place_of.Goals as goal

pub returns-clause-found : goal.returns-clause-found
returns-clause-found c = form_placed c.args.forms.now.keys c.args.form c.get_index_of.result c.get_index_of.ensures.index

pub returns-clause-none : goal.returns-clause-none
returns-clause-none c = form_missing c.args.forms.now.keys c.args.form c.get_index_of.result c.get_index_of.ensures.found
