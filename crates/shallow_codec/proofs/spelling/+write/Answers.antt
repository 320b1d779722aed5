use Rattle.std.proofs.Common.{◌∙◌, arith, rules, sym}
use Rattle.shallow_codec.proofs.SpelledForms.{nothing_behind}
use Rattle.shallow_codec.proofs.SpelledNodes.{con_spelled, first_below, first_shown, field_below, field_shown, item_below, item_shown, items_spelled, more_spelled, none_spelled, second_below, second_shown, shown_below}
use Rattle.shallow_codec.proofs.spelling.+write.Goals as goal

pub shallow_size-requires : goal.shallow_size-requires
shallow_size-requires g t c = shown_below (g.N.Nodes.nodes c.args.store.now) c.args.r.0 c.requires

pub returns-then-shallow_size-eq0 : goal.returns-then-shallow_size-eq0
returns-then-shallow_size-eq0 g t c =
    nothing_behind (g.N.Nodes.nodes c.args.store.now) (g.met.N.Nodes.sound c.args.store.now) c.args.r.0 c.args.bytes.now.items (sym c.shallow_size.ensures.kept ∙ c.if-shallow_size-eq0.true)

pub view-requires : goal.view-requires
view-requires g t c = shown_below (g.N.Nodes.nodes c.args.store.now) c.args.r.0 c.requires

pub write-requires : goal.write-requires
write-requires g t c κs sub =
    let below = first_below c.args.r.0 c.in-Pair.first.0 c.in-Pair.second.0 c.in-Pair.ensures.refers in
    let shown = first_shown (g.N.Nodes.nodes c.args.store.now) c.args.r.0 c.in-Pair.first.0 c.in-Pair.second.0 c.in-Pair.ensures.form c.requires in
    search (rules, below, shown)

pub write-requires-in-Pair : goal.write-requires-in-Pair
write-requires-in-Pair g t c κs sub =
    let below = second_below c.args.r.0 c.in-Pair.first.0 c.in-Pair.second.0 c.in-Pair.ensures.refers in
    let shown = second_shown (g.N.Nodes.nodes c.args.store.now) c.args.r.0 c.in-Pair.first.0 c.in-Pair.second.0 c.in-Pair.ensures.form c.requires in
    search (rules, below, shown)

pub write-requires-in-loop-field : goal.write-requires-in-loop-field
write-requires-in-loop-field g t c κs sub =
    let below =
    field_below (g.N.Nodes.nodes c.args.store.now) c.args.r.0 c.in-Constructor.field-0.0 c.in-Constructor.tag.0 c.in-Constructor.fields.now c.loop-field.field-index
    (record { 0 = 0 }) c.in-Constructor.ensures.refers (omega arith) in
    let shown =
    field_shown (g.N.Nodes.nodes c.args.store.now) c.args.r.0 c.in-Constructor.field-0.0 c.in-Constructor.tag.0 c.in-Constructor.fields.now c.loop-field.field-index
    (record { 0 = 0 }) c.in-Constructor.ensures.form c.requires (omega arith) in
    search (rules, below, shown)

pub loop-field-init : goal.loop-field-init
loop-field-init g t c = none_spelled (g.N.Nodes.nodes c.args.store.now) c.in-Constructor.fields.now _

pub loop-field-preserved : goal.loop-field-preserved
loop-field-preserved g t c =
    more_spelled (g.N.Nodes.nodes c.args.store.now) c.in-Constructor.fields.now c.loop-field.field-index (record { 0 = 0 }) _ c.loop-field.bytes.items _ (omega arith)
    c.loop-field.invariant c.in_ok-write-in-Constructor.ensures

pub returns-after-loop-field : goal.returns-after-loop-field
returns-after-loop-field g t c =
    con_spelled (g.N.Nodes.nodes c.args.store.now) c.args.r.0 c.in-Constructor.field-0.0 c.in-Constructor.tag.0 c.in-Constructor.fields.now c.loop-field.field-index
    c.args.bytes.now.items _ c.loop-field.bytes.items
    c.in-Constructor.ensures.form (omega arith) c.in_ok-push-in-Constructor.ensures.items c.loop-field.invariant

pub write-requires-in-loop-item : goal.write-requires-in-loop-item
write-requires-in-loop-item g t c κs sub =
    let below =
    item_below (g.N.Nodes.nodes c.args.store.now) c.args.r.0 c.in-Items.items.now c.loop-item.item-index
    (record { 0 = 0 }) c.in-Items.ensures.refers (omega arith) in
    let shown =
    item_shown (g.N.Nodes.nodes c.args.store.now) c.args.r.0 c.in-Items.items.now c.loop-item.item-index
    (record { 0 = 0 }) c.in-Items.ensures.form c.requires (omega arith) in
    search (rules, below, shown)

pub loop-item-init : goal.loop-item-init
loop-item-init g t c = none_spelled (g.N.Nodes.nodes c.args.store.now) c.in-Items.items.now _

pub loop-item-preserved : goal.loop-item-preserved
loop-item-preserved g t c =
    more_spelled (g.N.Nodes.nodes c.args.store.now) c.in-Items.items.now c.loop-item.item-index (record { 0 = 0 }) _ c.loop-item.bytes.items _ (omega arith)
    c.loop-item.invariant c.in_ok-write-in-Items.ensures

pub returns-after-loop-item : goal.returns-after-loop-item
returns-after-loop-item g t c =
    items_spelled (g.N.Nodes.nodes c.args.store.now) c.args.r.0 c.in-Items.items.now c.loop-item.item-index c.args.bytes.now.items c.loop-item.bytes.items
    c.in-Items.ensures.form (omega arith) c.loop-item.invariant
