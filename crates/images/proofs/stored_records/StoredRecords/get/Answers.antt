use Rattle.std.proofs.Common.{◌≡◌, Some, None, length, option_map, slice_get, sym, ap, ◌∙◌, arith}
use Rattle.std.proofs.lemmas.Option.{slice_get_within}
use Rattle.images.specs.KeptRecords.{node_at, record_kept}
use Rattle.images.proofs.KeptRecords.{kept_there}
use Rattle.images.proofs.stored_records.StoredRecords.get.Goals as goal

pub returns-in_default : goal.returns-in_default
returns-in_default c =
    let kept = c.self.inside in
    let none : None ≡ slice_get kept.types c.args.number = sym c.in_default.is ∙ c.get.ensures in
    ap (option_map (λ t. record_kept t (node_at kept.same kept.others.items c.args.number))) none
    ∙ sym (kept_there kept.same kept.others.items kept.types c.args.number)
    ∙ ap (λ records. slice_get records c.args.number) c.self.view_is

pub node-requires : goal.node-requires
node-requires c =
    let kept = c.self.inside in
    let found : Some c.in-Some.ty ≡ slice_get kept.types c.args.number = sym c.in-Some.is ∙ c.get.ensures in
    let low = slice_get_within kept.types c.args.number c.in-Some.ty (sym found) in
    omega (arith, low, c.self.invariant, ap (λ others. length others) c.deref.ensures.value)

pub returns : goal.returns
returns c =
    let kept = c.self.inside in
    let found : Some c.in-Some.ty ≡ slice_get kept.types c.args.number = sym c.in-Some.is ∙ c.get.ensures in
    ap (λ node. Some (record_kept c.in-Some.ty node)) (c.node.ensures ∙ ap (λ others. node_at kept.same others c.args.number) c.deref.ensures.value)
    ∙ ap (option_map (λ t. record_kept t (node_at kept.same kept.others.items c.args.number))) found
    ∙ sym (kept_there kept.same kept.others.items kept.types c.args.number)
    ∙ ap (λ records. slice_get records c.args.number) c.self.view_is
