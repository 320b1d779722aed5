use Rattle.std.proofs.lemmas.Option.{slice_get_within}
use Rattle.core_terms.specs.Programs.{types_in}
use Rattle.core_terms.proofs.TypePushing.{no_type, type_there}
use Rattle.core_terms.proofs.types.TyTable.number_of.Goals as goal

pub returns-in-Some-clause-found : goal.returns-in-Some-clause-found
returns-in-Some-clause-found c = type_there c.args.self.now.forms.keys c.in-Some.number c.args.form c.args.self.now.in_order c.in-Some.ensures.found

pub returns-in-Some-clause-within : goal.returns-in-Some-clause-within
returns-in-Some-clause-within c =
    slice_get_within (types_in c.args.self.now) c.in-Some.number _ (type_there c.args.self.now.forms.keys c.in-Some.number c.args.form c.args.self.now.in_order c.in-Some.ensures.found)

pub returns-in-None-clause-none : goal.returns-in-None-clause-none
returns-in-None-clause-none c none = no_type c.args.self.now.forms.keys c.args.form c.args.self.now.in_order c.args.self.now.one_number (c.in-None.ensures.none none)
