use Rattle.std.proofs.Common.{sym, ◌∙◌}
use Rattle.images.proofs.FieldSteps.{fewer_left, next_found, no_record, nothing_found}
use Rattle.images.proofs.fields.field_refs.Goals as goal

pub returns-in_default-get : goal.returns-in_default-get
returns-in_default-get c =
    let bytes = c.in-Some.ensures.cases in
    nothing_found c.args.loaded.now _ c.loop-ty.refs.items _
    (no_record c.args.loaded.now c.args.types.now c.loop-ty.ty-index (record { 0 = 0 }) c.loop-ty-test.true c.loop-ty.rest.now c.in-Some.number.now c.in-Some.behind.now bytes.0 bytes.1 c.from_be_bytes.result c.from_be_bytes.ensures
    (sym c.in_default-get.is ∙ c.get.ensures)) c.loop-ty.invariant.found

pub loop-ty-preserved : goal.loop-ty-preserved
loop-ty-preserved c =
    let bytes = c.in-Some.ensures.cases in
    record {
      left = fewer_left c.args.loaded.now c.args.types.now c.loop-ty.ty-index (record { 0 = 0 }) c.loop-ty-test.true c.loop-ty.rest.now c.in-Some.behind.now c.loop-ty.invariant.left bytes.2;
      found =
          next_found c.args.loaded.now c.args.types.now c.loop-ty.ty-index (record { 0 = 0 }) c.loop-ty-test.true c.loop-ty.rest.now c.in-Some.number.now
          c.in-Some.behind.now bytes.0 bytes.1 c.from_be_bytes.result c.from_be_bytes.ensures
          c.in-Some-get.found (sym c.in-Some-get.is ∙ c.get.ensures) c.is_of.result c.is_of.ensures c.if-not-is_of.false c.loop-ty.refs.items
          c.push.new.self.items _ c.in_ok-push.ensures.items c.loop-ty.invariant.found;
    }
