use Rattle.std.proofs.Common.{length, map, inl, inr, refl, sym, ap, ◌∙◌, arith, length-append}
use Rattle.images.specs.FormRecords.{bytes_of, joined}
use Rattle.value_store.specs.declared.node.Ref.{Ref}
use Rattle.images.proofs.SavingLists.{map_push}
use Rattle.images.proofs.SameRecords.{absent, added, joined_push, placed, same_at}
use Rattle.images.proofs.save.records.Records.number_for.Goals as goal

pub returns-in-Some-clause-number : goal.returns-in-Some-clause-number
returns-in-Some-clause-number c = (placed c.args.self.now.records.keys c.args.found c.in-Some.number (sym c.in-Some.ensures.index), inl (refl, λ keeps. (keeps, refl)))

pub returns-then-added-self-clause-long : goal.returns-then-added-self-clause-long
returns-then-added-self-clause-long c = (
  absent c.args.self.now.records.keys c.args.found (sym c.in_default.ensures.found),
  omega (arith, c.if-added-self.true, c.len-added.ensures, c.args.found.0.ok.0, c.args.self.now.counted, c.args.self.now.short),
)

pub returns-clause-number : goal.returns-clause-number
returns-clause-number c =
    let found = c.args.found in
    let keys = c.args.self.now.records.keys in
    let none = sym c.in_default.ensures.found in
    let stored = c.in-Ok-insert_full.ensures.stored in
    let now = ap (map bytes_of) c.in-Ok-insert_full.ensures.keys ∙ added keys found none in (
      same_at c.insert_full.new.self.keys found stored.0 _ stored.1 stored.2,
      inr (
        absent keys found none,
        now,
        λ keeps. (let kept = c.in-Ok.ensures.pushed keeps in
            (kept.0, ap (map (λ (r : Ref). r.0)) kept.1 ∙ map_push (λ (r : Ref). r.0) c.args.self.now.first_nodes.nodes.items c.args.node)),
      ),
    )

pub invariant_of-self-2-clause-counted : goal.invariant_of-self-2-clause-counted
invariant_of-self-2-clause-counted c =
    let found = c.args.found in
    let keys = c.args.self.now.records.keys in
    let now = ap (map bytes_of) c.in-Ok-insert_full.ensures.keys ∙ added keys found (sym c.in_default.ensures.found) in
    let bytes = ap (λ ss. length (joined ss)) now ∙ ap length (joined_push (map bytes_of keys) (bytes_of found)) in
    let parted = length-append (joined (map bytes_of keys)) found.0.items in
    omega (arith, bytes, parted, c.args.self.now.counted, c.len-added.ensures, found.0.ok.0)

pub invariant_of-self-2-clause-within : goal.invariant_of-self-2-clause-within
invariant_of-self-2-clause-within c = λ r n h. let before = c.args.self.now.within r n h in omega (arith, before, c.in-Ok-insert_full.ensures.len)
