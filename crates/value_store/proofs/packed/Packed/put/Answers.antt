use Rattle.std.proofs.Common.{length, refl, ap, subst, sym}
use Rattle.value_store.specs.CodeNodes.{held_of}
use Rattle.value_store.specs.Nodes.{AuthNode, BoolNode, TextNode, UnitNode}
use Rattle.value_store.specs.Packing.{packed_nodes}
use Rattle.value_store.specs.Placing.{Adds, with_parts}
use Rattle.value_store.specs.Views.{form_shown}
use Rattle.value_store.specs.declared.node.Form.TheVariants as coded
use Rattle.value_store.proofs.PackedPuts.{put_as, told_as}
use Rattle.value_store.proofs.packed.Packed.put.Goals as goal

pub returns-in-Unit : goal.returns-in-Unit
returns-in-Unit c =
    let told = told_as c.args.size c.args.depth (form_shown c.args.form) (UnitNode) (ap form_shown c.in-Unit.is) c.requires.told in
    put_as c.args.self.now.parts.items c.args.self.now.digests.items (length c.args.self.now.parts.items) c.args.size c.args.depth _ (packed_nodes c.args.self.now) (packed_nodes c.add.new.self) c.add.result
    coded.UnitNode UnitNode (form_shown c.args.form) refl c.add.ensures (ap form_shown c.in-Unit.is) refl (sym told.1) (sym told.2)

pub returns-in-Bool : goal.returns-in-Bool
returns-in-Bool c =
    let told = told_as c.args.size c.args.depth (form_shown c.args.form) (BoolNode c.in-Bool.value) (ap form_shown c.in-Bool.is) c.requires.told in
    put_as c.args.self.now.parts.items c.args.self.now.digests.items (length c.args.self.now.parts.items) c.args.size c.args.depth _ (packed_nodes c.args.self.now) (packed_nodes c.add-in-Bool.new.self) c.add-in-Bool.result
    (coded.BoolNode c.in-Bool.value) (BoolNode c.in-Bool.value) (form_shown c.args.form) refl c.add-in-Bool.ensures (ap form_shown c.in-Bool.is) refl (sym told.1) (sym told.2)

pub returns-in-Text : goal.returns-in-Text
returns-in-Text c =
    let told = told_as c.args.size c.args.depth (form_shown c.args.form) (TextNode c.in-Text.text.now) (ap form_shown c.in-Text.is) c.requires.told in
    subst (λ f. Adds (packed_nodes c.args.self.now) (with_parts (form_shown f) c.args.size c.args.depth) c.add_text.result (packed_nodes c.add_text.new.self)) (sym c.in-Text.is)
    (subst (λ n. Adds (packed_nodes c.args.self.now) (with_parts (TextNode c.in-Text.text.now) c.args.size n) c.add_text.result (packed_nodes c.add_text.new.self)) (sym told.2) c.add_text.ensures)

pub returns-in-Pair : goal.returns-in-Pair
returns-in-Pair c =
    subst (λ f. Adds (packed_nodes c.args.self.now) (with_parts (form_shown f) c.args.size c.args.depth) c.add_pair.result (packed_nodes c.add_pair.new.self)) (sym c.in-Pair.is) c.add_pair.ensures

pub returns-in-Constructor : goal.returns-in-Constructor
returns-in-Constructor c =
    subst (λ f. Adds (packed_nodes c.args.self.now) (with_parts (form_shown f) c.args.size c.args.depth) c.add_constructor.result (packed_nodes c.add_constructor.new.self)) (sym c.in-Constructor.is) c.add_constructor.ensures

pub returns-in-Items : goal.returns-in-Items
returns-in-Items c =
    subst (λ f. Adds (packed_nodes c.args.self.now) (with_parts (form_shown f) c.args.size c.args.depth) c.add_array.result (packed_nodes c.add_array.new.self)) (sym c.in-Items.is) c.add_array.ensures

pub returns-in-Auth : goal.returns-in-Auth
returns-in-Auth c =
    let told = told_as c.args.size c.args.depth (form_shown c.args.form) (AuthNode (held_of c.in-Auth.held)) (ap form_shown c.in-Auth.is) c.requires.told in
    subst (λ f. Adds (packed_nodes c.args.self.now) (with_parts (form_shown f) c.args.size c.args.depth) c.add_held.result (packed_nodes c.add_held.new.self)) (sym c.in-Auth.is)
    (subst (λ n. Adds (packed_nodes c.args.self.now) (with_parts (AuthNode (held_of c.in-Auth.held)) n c.args.depth) c.add_held.result (packed_nodes c.add_held.new.self)) (sym told.1)
    (subst (λ n. Adds (packed_nodes c.args.self.now) (with_parts (AuthNode (held_of c.in-Auth.held)) 32 n) c.add_held.result (packed_nodes c.add_held.new.self)) (sym told.2) c.add_held.ensures))
