use Rattle.std.proofs.Common.{◌≡◌, ◌-◌, ◌∙◌, length, take, drop, nat_lt, true, refl, sym, ap, subst, arith, List}
use Rattle.std.specs.List.{list_all}
use Rattle.value_store.specs.CodeNodes.{numbers_of}
use Rattle.value_store.specs.Markings.{kind_of}
use Rattle.value_store.specs.Standing.{AllStandFor}
use Rattle.value_store.specs.declared.node.Ref.{Ref}
use Rattle.mode_vm.specs.Operands.{AllHeld}
use Rattle.mode_vm.specs.Meanings.{program_of}
use Rattle.mode_vm.specs.declared.frame.Frame.{Frame}
use Rattle.mode_vm.proofs.Constructing.{counted_by, fields_there, make_acts, make_enough}
use Rattle.mode_vm.proofs.Topmost.{as_many_on_top, under_top}
use Rattle.mode_vm.proofs.frame.Frame.make.Goals as goal

pub topmost-requires : goal.topmost-requires
topmost-requires g c =
    let P = program_of c.args.code.now in
    let b = c.requires.before in
    let count = counted_by c.types.result.now _ c.args.named.0 c.args.tag.0 _ c.types.ensures c.field_count-count.ensures in
    let enough = make_enough b.0 P (g.N.Nodes.nodes c.args.store.now) c.args.self.now c.args.named.0 c.args.tag.0 b.1 b.2 in
    omega (arith, count, enough)

pub drop_last-requires : goal.drop_last-requires
drop_last-requires g c =
    let P = program_of c.args.code.now in
    let b = c.requires.before in
    let count = counted_by c.types.result.now _ c.args.named.0 c.args.tag.0 _ c.types.ensures c.field_count-count.ensures in
    let enough = make_enough b.0 P (g.N.Nodes.nodes c.args.store.now) c.args.self.now c.args.named.0 c.args.tag.0 b.1 b.2 in
    omega (arith, count, enough)

pub new_constructor-requires : goal.new_constructor-requires
new_constructor-requires g c =
    let P = program_of c.args.code.now in
    let nodes = g.N.Nodes.nodes c.args.store.now in
    let b = c.requires.before in
    let items = c.args.self.now.operands.items in
    let kept = length items - c.field_count-count.result in
    let count = counted_by c.types.result.now _ c.args.named.0 c.args.tag.0 _ c.types.ensures c.field_count-count.ensures in
    let enough = make_enough b.0 P nodes c.args.self.now c.args.named.0 c.args.tag.0 b.1 b.2 in
    let many = as_many_on_top items (length items) c.field_count-count.result refl (omega (arith, count, enough)) in
    let there =
    fields_there b.0 P nodes c.args.self.now c.args.named.0 c.args.tag.0 b.1 b.2 (drop kept items) (take kept items) (many ∙ count) (under_top items kept)
    c.place_all.new.placed.items (g.N.Nodes.nodes c.place_all.new.store)
    (λ ts vs h. c.in_ok-place_all.ensures.stand (kind_of b.0 P) P.types ts vs (subst (λ os. AllHeld (kind_of b.0 P) P.types nodes os ts vs) (sym c.topmost.ensures) h)) in
    record { fields = subst (λ (rs : List Ref). list_all (λ r. nat_lt r (length (g.N.Nodes.nodes c.place_all.new.store))) (numbers_of rs) ≡ true) (sym c.deref.ensures.value) there }

pub returns-clause-does : goal.returns-clause-does
returns-clause-does g c m values b =
    let P = program_of c.args.code.now in
    let nodes = g.N.Nodes.nodes c.args.store.now in
    let items = c.args.self.now.operands.items in
    let kept = length items - c.field_count-count.result in
    let count = counted_by c.types.result.now _ c.args.named.0 c.args.tag.0 _ c.types.ensures c.field_count-count.ensures in
    let enough = make_enough m P nodes c.args.self.now c.args.named.0 c.args.tag.0 values b in
    let many = as_many_on_top items (length items) c.field_count-count.result refl (omega (arith, count, enough)) in
    let popped : Frame = record c.args.self.now { operands = c.drop_last.new.self } in
    make_acts m P nodes c.args.self.now c.args.named.0 c.args.tag.0 values b (drop kept items) (take kept items) (many ∙ count) (under_top items kept)
    (g.N.Nodes.nodes c.new_constructor.new.store) (λ kind types r t v h. c.new_constructor.ensures.keeps kind types r t v (c.in_ok-place_all.ensures.keeps kind types r t v h))
    popped c.finish.new.self
    (record { function = refl; place = refl; locals = refl; operands = c.drop_last.ensures.items; over = record { locals = refl; operands = c.drop_last.ensures.below } }) c.in_ok-made.made
    (λ ts vs at h. c.in_ok-made.ensures.makes P.format.limit (ap (λ l. l.limit) c.in_ok-place_all.ensures.lent ∙ c.requires.limit.is) m (kind_of m P) P.types ts vs at
    (subst (λ (rs : List Ref). AllStandFor (kind_of m P) P.types (g.N.Nodes.nodes c.place_all.new.store) (numbers_of rs) ts vs) (sym c.deref.ensures.value)
    (c.in_ok-place_all.ensures.stand (kind_of m P) P.types ts vs (subst (λ os. AllHeld (kind_of m P) P.types nodes os ts vs) (sym c.topmost.ensures) h))))
    c.finish.result c.finish.ensures
