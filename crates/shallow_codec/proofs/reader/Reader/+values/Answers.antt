use Rattle.std.proofs.Common.{◌∙◌, ℕ, suc, refl, ap, List, Err, arith, rules, subst, sym, add-one, ◌≡◌, length, Ok, true}
use Rattle.core_terms.specs.ProgramTypes.{types_by_number}
use Rattle.core_terms.specs.Reading.{read_each, read_value}
use Rattle.core_terms.specs.TypeTables.{type_of_form}
use Rattle.core_terms.specs.Types.{PairTy, VecTy, is_length, item_types}
use Rattle.value_store.specs.CodeNodes.{numbers_of}
use Rattle.value_store.specs.Nodes.{ConNode, FormFits, Lent, PairNode, VecNode}
use Rattle.value_store.specs.declared.node.Ref.{Ref}
use Rattle.std.proofs.lemmas.Result.{err_from_is_err_and}
use Rattle.shallow_codec.specs.ProgramTypes.{table, ty_of, tys_of}
use Rattle.shallow_codec.proofs.FieldLoops.{IsPutSoFar}
use Rattle.shallow_codec.proofs.GrownNodes.{grows_refl, grows_then}
use Rattle.shallow_codec.specs.PutValues.{AreRead, IsNodeFront, IsRead, VecIsRead}
use Rattle.shallow_codec.proofs.ReadNodes.{array_length, at_form, fields_fault, fields_fit, first_fault, count_items, items_fault, items_fit, leaf_form, length_types, noted_known, not_ok, on_level, pair_fits, same_types, second_fault, so_far_all, so_far_fault, so_far_more, so_far_none, still_known, ty_at}
use Rattle.shallow_codec.proofs.reader.Reader.+values.Goals as goal

-- the limit of what was lent
abbrev limit_of : Lent → ℕ
limit_of l = l.limit

-- a value, by the form of its type
pub value-returns-in-PairForm-clause-read : goal.value-returns-in-PairForm-clause-read
value-returns-in-PairForm-clause-read g t c =
    on_level (table c.args.self.now.types.now) (g.N.Nodes.nodes c.pair.new.store) c.args.levels (ty_of c.args.self.now.types.now c.args.ty) c.args.at
    c.pair.result (omega arith) c.pair.ensures.read

pub value-returns-in-PairForm-clause-known : goal.value-returns-in-PairForm-clause-known
value-returns-in-PairForm-clause-known g t c = c.pair.ensures.known

pub value-returns-in-PairForm-clause-grows : goal.value-returns-in-PairForm-clause-grows
value-returns-in-PairForm-clause-grows g t c = c.pair.ensures.grows

pub value-returns-in-PairForm-clause-lent : goal.value-returns-in-PairForm-clause-lent
value-returns-in-PairForm-clause-lent g t c = c.pair.ensures.lent

pub value-returns-in-NamedForm-clause-read : goal.value-returns-in-NamedForm-clause-read
value-returns-in-NamedForm-clause-read g t c =
    at_form (table c.args.self.now.types.now) (g.N.Nodes.nodes c.constructor.new.store) c.args.levels (ty_of c.args.self.now.types.now c.args.ty) c.args.at c.constructor.result
    (types_by_number c.args.self.now.types.now) c.form-form.result _ c.in-NamedForm.is c.form-form.ensures.form (omega arith) c.constructor.ensures.read

pub value-returns-in-NamedForm-clause-known : goal.value-returns-in-NamedForm-clause-known
value-returns-in-NamedForm-clause-known g t c = c.constructor.ensures.known

pub value-returns-in-NamedForm-clause-grows : goal.value-returns-in-NamedForm-clause-grows
value-returns-in-NamedForm-clause-grows g t c = c.constructor.ensures.grows

pub value-returns-in-NamedForm-clause-lent : goal.value-returns-in-NamedForm-clause-lent
value-returns-in-NamedForm-clause-lent g t c = c.constructor.ensures.lent

pub value-returns-in-VecForm-clause-read : goal.value-returns-in-VecForm-clause-read
value-returns-in-VecForm-clause-read g t c =
    on_level (table c.args.self.now.types.now) (g.N.Nodes.nodes c.array.new.store) c.args.levels (ty_of c.args.self.now.types.now c.args.ty) c.args.at
    c.array.result (omega arith) c.array.ensures.read

pub value-returns-in-VecForm-clause-known : goal.value-returns-in-VecForm-clause-known
value-returns-in-VecForm-clause-known g t c = c.array.ensures.known

pub value-returns-in-VecForm-clause-grows : goal.value-returns-in-VecForm-clause-grows
value-returns-in-VecForm-clause-grows g t c = c.array.ensures.grows

pub value-returns-in-VecForm-clause-lent : goal.value-returns-in-VecForm-clause-lent
value-returns-in-VecForm-clause-lent g t c = c.array.ensures.lent

pub value-put_leaf-requires-clause-leaf : goal.value-put_leaf-requires-clause-leaf
value-put_leaf-requires-clause-leaf g t c = leaf_form c.form-form.result c.in_default.not-PairForm c.in_default.not-NamedForm c.in_default.not-VecForm

pub value-returns-in_default-clause-read : goal.value-returns-in_default-clause-read
value-returns-in_default-clause-read g t c =
    let p = c.args.self.now.types.now in
    at_form (table p) (g.N.Nodes.nodes c.put_leaf.new.store) c.args.levels (ty_of p c.args.ty) c.args.at c.put_leaf.result (types_by_number p)
    c.form-form.result c.form-form.result refl c.form-form.ensures.form (omega arith) (c.put_leaf.ensures.read (table p) (types_by_number p) _)

pub value-returns-in_default-clause-known : goal.value-returns-in_default-clause-known
value-returns-in_default-clause-known g t c =
    still_known c.args.self.now.types.now (g.N.Nodes.nodes c.args.store.now) (g.N.Nodes.nodes c.put_leaf.new.store) c.put_leaf.result
    c.args.nothings.now c.put_leaf.ensures.grows c.requires.known

pub value-returns-in_default-clause-grows : goal.value-returns-in_default-clause-grows
value-returns-in_default-clause-grows g t c = c.put_leaf.ensures.grows

pub value-returns-in_default-clause-lent : goal.value-returns-in_default-clause-lent
value-returns-in_default-clause-lent g t c = c.put_leaf.ensures.lent

-- a pair, which may be known
pub pair-returns-in-Some-clause-read : goal.pair-returns-in-Some-clause-read
pair-returns-in-Some-clause-read g t c =
    let types = table c.args.self.now.types.now in
    let a = ty_of c.args.self.now.types.now c.args.ty in
    subst (λ n. IsRead types (g.N.Nodes.nodes c.args.store.now) n a c.args.at (read_value types n a c.args.at.rest.now c.args.at.offset) c.known_nothing.result) (add-one c.args.levels)
    (c.known_nothing.ensures types a (c.requires.known c.args.ty.0 c.in-Some.value (sym c.get.ensures ∙ c.in-Some.is)))

pub pair-put_noted-requires-clause-fits : goal.pair-put_noted-requires-clause-fits
pair-put_noted-requires-clause-fits g t c =
    let p = c.args.self.now.types.now in
    let a = ty_of p c.args.parts.0 in
    let b = ty_of p c.args.parts.1 in
    let mid = c.in_ok-first.first.behind in
    let form = PairNode c.in_ok-first.first.value.0 c.in_ok-second.second.value.0 in
    subst (λ l. FormFits l.limit (g.N.Nodes.nodes c.value-2.new.store) form) (sym (c.in_ok-second.ensures.lent ∙ c.in_ok-first.ensures.lent)) (pair_fits (table p) c.args.levels c.args.at mid c.in_ok-second.second.behind (g.N.Nodes.nodes c.value.new.store) (g.N.Nodes.nodes c.value-2.new.store)
    c.in_ok-first.first.value.0 c.in_ok-second.second.value.0 a b
    (read_value (table p) c.args.levels a c.args.at.rest.now c.args.at.offset) (read_value (table p) c.args.levels b mid.rest.now mid.offset)
    c.in_ok-second.ensures.grows c.requires.short c.requires.levels c.in_ok-first.ensures.read c.in_ok-second.ensures.read)

pub pair-returns-in_err-first-clause-read : goal.pair-returns-in_err-first-clause-read
pair-returns-in_err-first-clause-read g t c =
    let p = c.args.self.now.types.now in
    let q = err_from_is_err_and c.from_residual.result c.from_residual.ensures.1 in
    let n = suc c.args.levels in
    let at = c.args.at in
    subst (λ t. IsRead (table p) (g.N.Nodes.nodes c.value.new.store) n t at (read_value (table p) n t at.rest.now at.offset) c.from_residual.result) (sym c.requires.ty)
    (rw (q.1, q.2) (first_fault (table p) (g.N.Nodes.nodes c.value.new.store) c.args.levels (ty_of p c.args.parts.0) (ty_of p c.args.parts.1) c.args.at
    c.in_err-first.field-0.0 c.in_err-first.ensures.read))

pub pair-returns-in_err-second-clause-read : goal.pair-returns-in_err-second-clause-read
pair-returns-in_err-second-clause-read g t c =
    let p = c.args.self.now.types.now in
    let q = err_from_is_err_and c.from_residual-in_err-second.result c.from_residual-in_err-second.ensures.1 in
    let read = c.in_ok-first.ensures.read in
    let n = suc c.args.levels in
    let at = c.args.at in
    subst (λ t. IsRead (table p) (g.N.Nodes.nodes c.value-2.new.store) n t at (read_value (table p) n t at.rest.now at.offset) c.from_residual-in_err-second.result) (sym c.requires.ty)
    (rw (q.1, q.2) (second_fault (table p) (g.N.Nodes.nodes c.value-2.new.store) c.args.levels (ty_of p c.args.parts.0) (ty_of p c.args.parts.1) c.args.at
    c.in_ok-first.first.behind read.0 read.1 c.in_err-second.field-0.0 c.in_err-second.ensures.read))

pub pair-returns-clause-read : goal.pair-returns-clause-read
pair-returns-clause-read g t c =
    let p = c.args.self.now.types.now in
    let types = table p in
    let n = suc c.args.levels in
    subst (λ a. IsRead types (g.N.Nodes.nodes c.put_noted.new.store) n a c.args.at (read_value types n a c.args.at.rest.now c.args.at.offset) c.put_noted.result) (sym c.requires.ty)
    (c.put_noted.ensures.read types c.args.levels (ty_of p c.args.parts.0) (ty_of p c.args.parts.1)
    c.args.at (g.N.Nodes.nodes c.value.new.store) c.in_ok-second.ensures.grows c.in_ok-first.ensures.read c.in_ok-second.ensures.read)

pub pair-returns-clause-known : goal.pair-returns-clause-known
pair-returns-clause-known g t c =
    let p = c.args.self.now.types.now in
    noted_known p (g.N.Nodes.nodes c.value-2.new.store) (g.N.Nodes.nodes c.put_noted.new.store) c.value-2.new.nothings c.put_noted.new.nothings c.args.ty
    (PairTy (ty_of p c.args.parts.0) (ty_of p c.args.parts.1)) c.requires.ty c.args.levels c.args.at c.put_noted.result c.put_noted.ensures.known c.in_ok-second.ensures.known
    (c.put_noted.ensures.read (table p) c.args.levels (ty_of p c.args.parts.0) (ty_of p c.args.parts.1)
    c.args.at (g.N.Nodes.nodes c.value.new.store) c.in_ok-second.ensures.grows c.in_ok-first.ensures.read c.in_ok-second.ensures.read)

pub pair-returns-clause-grows : goal.pair-returns-clause-grows
pair-returns-clause-grows g t c =
    grows_then (g.N.Nodes.nodes c.args.store.now) (g.N.Nodes.nodes c.value-2.new.store) (g.N.Nodes.nodes c.put_noted.new.store)
    (grows_then (g.N.Nodes.nodes c.args.store.now) (g.N.Nodes.nodes c.value.new.store) (g.N.Nodes.nodes c.value-2.new.store) c.in_ok-first.ensures.grows c.in_ok-second.ensures.grows)
    c.put_noted.ensures.grows

pub pair-returns-clause-lent : goal.pair-returns-clause-lent
pair-returns-clause-lent g t c = c.put_noted.ensures.lent ∙ (c.in_ok-second.ensures.lent ∙ c.in_ok-first.ensures.lent)

-- an array, which may be known
pub array-returns-in-Some-clause-read : goal.array-returns-in-Some-clause-read
array-returns-in-Some-clause-read g t c =
    let types = table c.args.self.now.types.now in
    let a = ty_of c.args.self.now.types.now c.args.ty in
    subst (λ n. IsRead types (g.N.Nodes.nodes c.args.store.now) n a c.args.at (read_value types n a c.args.at.rest.now c.args.at.offset) c.known_nothing.result) (add-one c.args.levels)
    (c.known_nothing.ensures types a (c.requires.known c.args.ty.0 c.in-Some.value (sym c.get.ensures ∙ c.in-Some.is)))

pub array-returns-in_err-fields-clause-read : goal.array-returns-in_err-fields-clause-read
array-returns-in_err-fields-clause-read g t c =
    let p = c.args.self.now.types.now in
    let at = c.args.at in
    let n = suc c.args.levels in
    let item = ty_of p c.args.items.1 in
    let new = g.N.Nodes.nodes c.fields.new.store in
    let q = err_from_is_err_and c.from_residual-in_err-fields.result c.from_residual-in_err-fields.ensures.1 in
    let same : tys_of p c.deref.result.now ≡ item_types c.args.items.0 item =
    ap (tys_of p) (c.deref.ensures.value ∙ c.in_ok-types.ensures) ∙ same_types (types_by_number p) c.args.items.1 c.args.items.0 in
    let read = subst (λ us. AreRead (table p) new c.args.levels us at (read_each (read_value (table p) c.args.levels) us at.rest.now at.offset) (Err c.in_err-fields.field-0.0)) same c.in_err-fields.ensures.read in
    subst (λ a. IsRead (table p) new n a at (read_value (table p) n a at.rest.now at.offset) c.from_residual-in_err-fields.result) (sym c.requires.ty)
    (rw (q.1, q.2) (items_fault (table p) new c.args.levels c.args.items.0 item at c.in_err-fields.field-0.0 read))

pub array-put_items_noted-requires : goal.array-put_items_noted-requires
array-put_items_noted-requires g t c =
    let p = c.args.self.now.types.now in
    let at = c.args.at in
    let item = ty_of p c.args.items.1 in
    let new = g.N.Nodes.nodes c.fields.new.store in
    let same : tys_of p c.deref.result.now ≡ item_types c.args.items.0 item =
    ap (tys_of p) (c.deref.ensures.value ∙ c.in_ok-types.ensures) ∙ same_types (types_by_number p) c.args.items.1 c.args.items.0 in
    let read = subst (λ us. AreRead (table p) new c.args.levels us at (read_each (read_value (table p) c.args.levels) us at.rest.now at.offset) (Ok c.in_ok-fields.fields)) same c.in_ok-fields.ensures.read in
    let values = c.in_ok-fields.fields.values.items in
    let count : length values ≡ c.args.items.0 = count_items (table p) new item values c.args.items.0 read.0 read.3.stand in
    record {
      items = read.3.below;
      count = subst (λ n. is_length n ≡ true) (sym count) c.requires.count;
      fits = subst (λ l. FormFits l.limit new (VecNode (numbers_of values))) (sym c.in_ok-fields.ensures.lent)
          (items_fit (table p) c.args.levels read.1 (item_types c.args.items.0 item) at c.in_ok-fields.fields.behind new (numbers_of values) read.0 c.requires.short c.requires.levels read.3 read.4);
    }

pub array-returns-clause-read : goal.array-returns-clause-read
array-returns-clause-read g t c =
    let p = c.args.self.now.types.now in
    let at = c.args.at in
    let n = suc c.args.levels in
    let item = ty_of p c.args.items.1 in
    let old = g.N.Nodes.nodes c.fields.new.store in
    let new = g.N.Nodes.nodes c.put_items_noted.new.store in
    let same : tys_of p c.deref.result.now ≡ item_types c.args.items.0 item =
    ap (tys_of p) (c.deref.ensures.value ∙ c.in_ok-types.ensures) ∙ same_types (types_by_number p) c.args.items.1 c.args.items.0 in
    let read = subst (λ us. AreRead (table p) old c.args.levels us at (read_each (read_value (table p) c.args.levels) us at.rest.now at.offset) (Ok c.in_ok-fields.fields)) same c.in_ok-fields.ensures.read in
    let count : length c.in_ok-fields.fields.values.items ≡ c.args.items.0 =
    count_items (table p) old item c.in_ok-fields.fields.values.items c.args.items.0 read.0 read.3.stand in
    subst (λ a. IsRead (table p) new n a at (read_value (table p) n a at.rest.now at.offset) c.put_items_noted.result) (sym c.requires.ty)
    (subst (λ m. VecIsRead old new m c.in_ok-fields.fields c.put_items_noted.result) count c.put_items_noted.ensures.read (table p) c.args.levels item at read)

pub array-returns-clause-known : goal.array-returns-clause-known
array-returns-clause-known g t c =
    let p = c.args.self.now.types.now in
    let at = c.args.at in
    let item = ty_of p c.args.items.1 in
    let old = g.N.Nodes.nodes c.fields.new.store in
    let new = g.N.Nodes.nodes c.put_items_noted.new.store in
    let same : tys_of p c.deref.result.now ≡ item_types c.args.items.0 item =
    ap (tys_of p) (c.deref.ensures.value ∙ c.in_ok-types.ensures) ∙ same_types (types_by_number p) c.args.items.1 c.args.items.0 in
    let read = subst (λ us. AreRead (table p) old c.args.levels us at (read_each (read_value (table p) c.args.levels) us at.rest.now at.offset) (Ok c.in_ok-fields.fields)) same c.in_ok-fields.ensures.read in
    let count : length c.in_ok-fields.fields.values.items ≡ c.args.items.0 =
    count_items (table p) old item c.in_ok-fields.fields.values.items c.args.items.0 read.0 read.3.stand in
    noted_known p old new c.fields.new.nothings c.put_items_noted.new.nothings c.args.ty (VecTy c.args.items.0 item) c.requires.ty c.args.levels at c.put_items_noted.result
    c.put_items_noted.ensures.known c.in_ok-fields.ensures.known
    (subst (λ m. VecIsRead old new m c.in_ok-fields.fields c.put_items_noted.result) count c.put_items_noted.ensures.read (table p) c.args.levels item at read)

pub array-returns-clause-grows : goal.array-returns-clause-grows
array-returns-clause-grows g t c =
    grows_then (g.N.Nodes.nodes c.args.store.now) (g.N.Nodes.nodes c.fields.new.store) (g.N.Nodes.nodes c.put_items_noted.new.store) c.in_ok-fields.ensures.grows c.put_items_noted.ensures.grows

pub array-returns-clause-lent : goal.array-returns-clause-lent
array-returns-clause-lent g t c = c.put_items_noted.ensures.lent ∙ c.in_ok-fields.ensures.lent

pub array-returns-in_err-fields-clause-known : goal.array-returns-in_err-fields-clause-known
array-returns-in_err-fields-clause-known g t c = not_ok _ _ c.from_residual-in_err-fields.result c.from_residual-in_err-fields.ensures.1

pub array-returns-in_err-fields-clause-grows : goal.array-returns-in_err-fields-clause-grows
array-returns-in_err-fields-clause-grows g t c = c.in_err-fields.ensures.grows

pub array-returns-in_err-fields-clause-lent : goal.array-returns-in_err-fields-clause-lent
array-returns-in_err-fields-clause-lent g t c = c.in_err-fields.ensures.lent

-- a constructor, behind its tag
pub constructor-put_fields-requires-clause-fits : goal.constructor-put_fields-requires-clause-fits
constructor-put_fields-requires-clause-fits g t c =
    let p = c.args.self.now.types.now in
    let read = c.in_ok-fields.ensures.read in
    let head = c.in_ok-head.head in
    let opened = c.in_ok-head.ensures in
    let form = ConNode c.args.named.0 head.tag.0 (numbers_of c.in_ok-fields.fields.values.items) in
    subst (λ l. FormFits l.limit (g.N.Nodes.nodes c.fields.new.store) form) (sym c.in_ok-fields.ensures.lent) (fields_fit (table p) c.args.levels c.args.named.0 head.tag.0 read.1 (tys_of p head.types.now) c.args.at head.behind
    c.in_ok-fields.fields.behind (g.N.Nodes.nodes c.fields.new.store) (numbers_of c.in_ok-fields.fields.values.items) read.0
    c.requires.short c.requires.levels opened.2 read.3 read.4)

pub constructor-returns-in_err-head-clause-read : goal.constructor-returns-in_err-head-clause-read
constructor-returns-in_err-head-clause-read g t c =
    let q = err_from_is_err_and c.from_residual.result c.from_residual.ensures.1 in
    rw (q.1, q.2) (c.in_err-head.ensures (g.N.Nodes.nodes c.args.store.now) c.args.levels)

pub constructor-returns-in_err-fields-clause-read : goal.constructor-returns-in_err-fields-clause-read
constructor-returns-in_err-fields-clause-read g t c =
    let p = c.args.self.now.types.now in
    let q = err_from_is_err_and c.from_residual-in_err-fields.result c.from_residual-in_err-fields.ensures.1 in
    let head = c.in_ok-head.head in
    let opened = c.in_ok-head.ensures in
    rw (q.1, q.2) (fields_fault (table p) (g.N.Nodes.nodes c.fields.new.store) c.args.levels c.args.named.0 head.tag.0 (tys_of p head.types.now) c.args.at head.behind
    opened.0 opened.1 opened.2 c.in_err-fields.field-0.0 c.in_err-fields.ensures.read)

pub constructor-returns-clause-read : goal.constructor-returns-clause-read
constructor-returns-clause-read g t c =
    let p = c.args.self.now.types.now in
    let head = c.in_ok-head.head in
    let opened = c.in_ok-head.ensures in
    c.put_fields.ensures.read (table p) c.args.levels (tys_of p head.types.now) c.args.at head.behind opened.0 opened.1 opened.2 c.in_ok-fields.ensures.read

pub constructor-returns-clause-known : goal.constructor-returns-clause-known
constructor-returns-clause-known g t c =
    still_known c.args.self.now.types.now (g.N.Nodes.nodes c.fields.new.store) (g.N.Nodes.nodes c.put_fields.new.store) c.put_fields.result
    c.fields.new.nothings c.put_fields.ensures.grows c.in_ok-fields.ensures.known

pub constructor-returns-clause-grows : goal.constructor-returns-clause-grows
constructor-returns-clause-grows g t c =
    grows_then (g.N.Nodes.nodes c.args.store.now) (g.N.Nodes.nodes c.fields.new.store) (g.N.Nodes.nodes c.put_fields.new.store) c.in_ok-fields.ensures.grows c.put_fields.ensures.grows

pub constructor-returns-clause-lent : goal.constructor-returns-clause-lent
constructor-returns-clause-lent g t c = c.put_fields.ensures.lent ∙ c.in_ok-fields.ensures.lent

-- fields in a row
pub fields-loop-ty-init : goal.fields-loop-ty-init
fields-loop-ty-init g t c = record {
  so_far =
      subst (λ (values : List Ref). IsPutSoFar (table c.args.self.now.types.now) c.args.levels (tys_of c.args.self.now.types.now c.args.types.now) c.args.at 0 (g.N.Nodes.nodes c.args.store.now) values c.args.at) (sym c.new-values.ensures.items)
      (so_far_none (table c.args.self.now.types.now) c.args.levels (tys_of c.args.self.now.types.now c.args.types.now) c.args.at (g.N.Nodes.nodes c.args.store.now));
  known = c.requires.known;
  grows = grows_refl (g.N.Nodes.nodes c.args.store.now);
  lent = refl;
}

pub fields-returns-in_err-front-clause-read : goal.fields-returns-in_err-front-clause-read
fields-returns-in_err-front-clause-read g t c =
    let types = table c.args.self.now.types.now in
    let tys = types_by_number c.args.self.now.types.now in
    let ts = tys_of c.args.self.now.types.now c.args.types.now in
    let mid = c.loop-ty.behind in
    let fault = c.in_err-front.field-0.0 in
    let new = g.N.Nodes.nodes c.value.new.store in
    let p = err_from_is_err_and c.from_residual.result c.from_residual.ensures.1 in
    let at_i = subst (λ a. IsRead types new c.args.levels a mid (read_value types c.args.levels a mid.rest.now mid.offset) (Err fault))
    (ty_at tys c.args.types.now c.loop-ty.ty-index (record { 0 = 0 }) (omega arith)) c.in_err-front.ensures.read in
    rw (p.1, p.2) (so_far_fault types c.args.levels ts c.args.at fault c.loop-ty.ty-index (g.N.Nodes.nodes c.loop-ty.store) new c.loop-ty.values.items mid
    (omega (arith, length_types tys c.args.types.now)) c.loop-ty.invariant.so_far at_i)

pub fields-loop-ty-preserved : goal.fields-loop-ty-preserved
fields-loop-ty-preserved g t c =
    let types = table c.args.self.now.types.now in
    let tys = types_by_number c.args.self.now.types.now in
    let ts = tys_of c.args.self.now.types.now c.args.types.now in
    let mid = c.loop-ty.behind in
    let front = c.in_ok-front.front in
    let new = g.N.Nodes.nodes c.value.new.store in
    let at_i = subst (λ a. IsNodeFront types new c.args.levels a front.value.0 mid front.behind (read_value types c.args.levels a mid.rest.now mid.offset))
    (ty_at tys c.args.types.now c.loop-ty.ty-index (record { 0 = 0 }) (omega arith)) c.in_ok-front.ensures.read in
    record {
      so_far = so_far_more types c.args.levels ts c.args.at c.loop-ty.ty-index (g.N.Nodes.nodes c.loop-ty.store) new c.loop-ty.values.items c.push.new.self.items front.value mid front.behind
          (omega (arith, length_types tys c.args.types.now)) c.in_ok-front.ensures.grows c.in_ok-push.ensures.ok c.loop-ty.invariant.so_far at_i;
      known = c.in_ok-front.ensures.known;
      grows = grows_then (g.N.Nodes.nodes c.args.store.now) (g.N.Nodes.nodes c.loop-ty.store) new c.loop-ty.invariant.grows c.in_ok-front.ensures.grows;
      lent = c.in_ok-front.ensures.lent ∙ c.loop-ty.invariant.lent;
    }

pub fields-returns-clause-read : goal.fields-returns-clause-read
fields-returns-clause-read g t c =
    so_far_all (table c.args.self.now.types.now) c.args.levels (tys_of c.args.self.now.types.now c.args.types.now) c.args.at c.loop-ty.ty-index
    (g.N.Nodes.nodes c.loop-ty.store) c.loop-ty.values.items c.loop-ty.behind
    (omega (arith, length_types (types_by_number c.args.self.now.types.now) c.args.types.now)) c.loop-ty.invariant.so_far

pub fields-returns-clause-known : goal.fields-returns-clause-known
fields-returns-clause-known g t c = c.loop-ty.invariant.known

pub fields-returns-clause-grows : goal.fields-returns-clause-grows
fields-returns-clause-grows g t c = c.loop-ty.invariant.grows

pub fields-returns-clause-lent : goal.fields-returns-clause-lent
fields-returns-clause-lent g t c = c.loop-ty.invariant.lent

-- after a fault nothing is said of what is kept
pub pair-returns-in_err-first-clause-known : goal.pair-returns-in_err-first-clause-known
pair-returns-in_err-first-clause-known g t c = not_ok _ _ c.from_residual.result c.from_residual.ensures.1

pub pair-returns-in_err-second-clause-known : goal.pair-returns-in_err-second-clause-known
pair-returns-in_err-second-clause-known g t c = not_ok _ _ c.from_residual-in_err-second.result c.from_residual-in_err-second.ensures.1

pub constructor-returns-in_err-head-clause-known : goal.constructor-returns-in_err-head-clause-known
constructor-returns-in_err-head-clause-known g t c = not_ok _ _ c.from_residual.result c.from_residual.ensures.1

pub constructor-returns-in_err-fields-clause-known : goal.constructor-returns-in_err-fields-clause-known
constructor-returns-in_err-fields-clause-known g t c = not_ok _ _ c.from_residual-in_err-fields.result c.from_residual-in_err-fields.ensures.1

pub fields-returns-in_err-front-clause-known : goal.fields-returns-in_err-front-clause-known
fields-returns-in_err-front-clause-known g t c = not_ok _ _ c.from_residual.result c.from_residual.ensures.1

pub fields-returns-in_err-push-clause-known : goal.fields-returns-in_err-push-clause-known
fields-returns-in_err-push-clause-known g t c = not_ok _ _ c.from_residual-in_err-push.result c.from_residual-in_err-push.ensures.1

-- the nodes grow, and what was lent stays
pub pair-returns-in_err-first-clause-grows : goal.pair-returns-in_err-first-clause-grows
pair-returns-in_err-first-clause-grows g t c = c.in_err-first.ensures.grows

pub pair-returns-in_err-first-clause-lent : goal.pair-returns-in_err-first-clause-lent
pair-returns-in_err-first-clause-lent g t c = c.in_err-first.ensures.lent

pub pair-returns-in_err-second-clause-grows : goal.pair-returns-in_err-second-clause-grows
pair-returns-in_err-second-clause-grows g t c =
    grows_then (g.N.Nodes.nodes c.args.store.now) (g.N.Nodes.nodes c.value.new.store) (g.N.Nodes.nodes c.value-2.new.store) c.in_ok-first.ensures.grows c.in_err-second.ensures.grows

pub pair-returns-in_err-second-clause-lent : goal.pair-returns-in_err-second-clause-lent
pair-returns-in_err-second-clause-lent g t c = c.in_err-second.ensures.lent ∙ c.in_ok-first.ensures.lent

pub constructor-returns-in_err-fields-clause-grows : goal.constructor-returns-in_err-fields-clause-grows
constructor-returns-in_err-fields-clause-grows g t c = c.in_err-fields.ensures.grows

pub constructor-returns-in_err-fields-clause-lent : goal.constructor-returns-in_err-fields-clause-lent
constructor-returns-in_err-fields-clause-lent g t c = c.in_err-fields.ensures.lent

pub fields-returns-in_err-front-clause-grows : goal.fields-returns-in_err-front-clause-grows
fields-returns-in_err-front-clause-grows g t c =
    grows_then (g.N.Nodes.nodes c.args.store.now) (g.N.Nodes.nodes c.loop-ty.store) (g.N.Nodes.nodes c.value.new.store) c.loop-ty.invariant.grows c.in_err-front.ensures.grows

pub fields-returns-in_err-front-clause-lent : goal.fields-returns-in_err-front-clause-lent
fields-returns-in_err-front-clause-lent g t c = c.in_err-front.ensures.lent ∙ c.loop-ty.invariant.lent

pub fields-returns-in_err-push-clause-grows : goal.fields-returns-in_err-push-clause-grows
fields-returns-in_err-push-clause-grows g t c =
    grows_then (g.N.Nodes.nodes c.args.store.now) (g.N.Nodes.nodes c.loop-ty.store) (g.N.Nodes.nodes c.value.new.store) c.loop-ty.invariant.grows c.in_ok-front.ensures.grows

pub fields-returns-in_err-push-clause-lent : goal.fields-returns-in_err-push-clause-lent
fields-returns-in_err-push-clause-lent g t c = c.in_ok-front.ensures.lent ∙ c.loop-ty.invariant.lent

-- what is read next has fewer levels, or is nearer to them, and stands further on
pub value-pair-requires : goal.value-pair-requires
value-pair-requires g t c κs within =
    let ty = sym c.form-form.ensures.form ∙ ap (type_of_form (types_by_number c.args.self.now.types.now)) c.in-PairForm.is in
    (omega (arith, c.decreases), (search rules, (c.requires.short, (omega (arith, c.requires.levels), (ty, c.requires.known)))))

pub value-constructor-requires : goal.value-constructor-requires
value-constructor-requires g t c κs within =
    (omega (arith, c.decreases), (search rules, (c.requires.short, (omega (arith, c.requires.levels), c.requires.known))))

pub value-array-requires : goal.value-array-requires
value-array-requires g t c κs within =
    let ty = sym c.form-form.ensures.form ∙ ap (type_of_form (types_by_number c.args.self.now.types.now)) c.in-VecForm.is in
    let len = array_length (types_by_number c.args.self.now.types.now) c.args.ty.0 _ _ _ c.in-VecForm.is c.form-form.ensures.parts in
    (omega (arith, c.decreases), (search rules, (c.requires.short, (omega (arith, c.requires.levels), (ty, (len, c.requires.known))))))

pub array-fields-requires : goal.array-fields-requires
array-fields-requires g t c κs within =
    (omega (arith, c.decreases), (search rules, (c.requires.short, (c.requires.levels, c.requires.known))))

pub pair-value-requires : goal.pair-value-requires
pair-value-requires g t c κs within =
    (omega (arith, c.decreases), (search rules, (c.requires.short, (omega (arith, c.requires.levels), c.requires.known))))

pub pair-value-requires-2 : goal.pair-value-requires-2
pair-value-requires-2 g t c κs within =
    let moves = c.in_ok-first.ensures.read.4 in (
      omega (arith, c.decreases),
      (search rules, (omega (arith, moves.offset, moves.left, c.requires.short, ap limit_of c.in_ok-first.ensures.lent), (omega (arith, c.requires.levels), c.in_ok-first.ensures.known))),
    )

pub constructor-fields-requires : goal.constructor-fields-requires
constructor-fields-requires g t c κs within =
    let moves = c.in_ok-head.ensures.2 in
    (omega (arith, c.decreases), (search rules, (omega (arith, moves.offset, moves.left, c.requires.short), (c.requires.levels, c.requires.known))))

pub fields-value-requires : goal.fields-value-requires
fields-value-requires g t c κs within =
    let moves = c.loop-ty.invariant.so_far.moves in (
      omega (arith, c.decreases),
      (search rules, (omega (arith, moves.offset, moves.left, c.requires.short, ap limit_of c.loop-ty.invariant.lent), (omega (arith, c.requires.levels), c.loop-ty.invariant.known))),
    )
