use Rattle.std.proofs.Common.{◌∙◌, ap, Some}
use Rattle.core_terms.proofs.TypePushing.{format_either, in_order_either, one_number_either, types_either, form_either, grows_either, type_there}
use Rattle.core_terms.specs.TypeTables.{types_of_forms}
use Rattle.std.proofs.lemmas.Option.{slice_get_within}
use Rattle.core_terms.proofs.types.TyTable.intern.Goals as goal

pub invariant_of-self : goal.invariant_of-self
invariant_of-self c = record {
  of_format = format_either c.args.self.now.format c.args.self.now.forms.keys _ c.args.form c.add.ensures.either c.args.self.now.of_format c.requires.format;
  in_order = in_order_either c.args.self.now.forms.keys _ c.args.form c.add.ensures.either c.args.self.now.in_order c.requires.parts;
  one_number = one_number_either c.args.self.now.forms.keys _ c.args.form c.add.ensures.either c.args.self.now.in_order c.args.self.now.one_number c.requires.parts;
}

pub returns-clause-types : goal.returns-clause-types
returns-clause-types c = types_either c.args.self.now.forms.keys _ c.args.form c.add.ensures.either

pub returns-clause-grows : goal.returns-clause-grows
returns-clause-grows c = grows_either c.args.self.now.forms.keys _ c.args.form c.add.ensures.either

pub returns-clause-within : goal.returns-clause-within
returns-clause-within c =
    let order = in_order_either c.args.self.now.forms.keys c.add.new.forms.keys c.args.form c.add.ensures.either c.args.self.now.in_order c.requires.parts in
    slice_get_within (types_of_forms c.add.new.forms.keys) c.in_ok-number.number _
    (type_there c.add.new.forms.keys c.in_ok-number.number c.args.form order c.in_ok-number.ensures.number)

pub returns-clause-number : goal.returns-clause-number
returns-clause-number c =
    let order = in_order_either c.args.self.now.forms.keys c.add.new.forms.keys c.args.form c.add.ensures.either c.args.self.now.in_order c.requires.parts in
    type_there c.add.new.forms.keys c.in_ok-number.number c.args.form order c.in_ok-number.ensures.number
    ∙ ap Some (form_either c.args.self.now.forms.keys c.add.new.forms.keys c.args.form c.add.ensures.either c.requires.parts)
