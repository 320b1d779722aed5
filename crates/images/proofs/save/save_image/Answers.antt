use Rattle.std.proofs.Common.{◌≡◌, ℕ, [], length, Result, Vec, Global, IfOk, sym, ap, ◌∙◌, subst}
use Rattle.core_terms.proofs.CodePrograms.{every_format}
use Rattle.core_terms.specs.ProgramTypes.{types_meaning}
use Rattle.core_terms.specs.Values.{Value}
use Rattle.images.specs.Images.{image_of, Root}
use Rattle.images.specs.declared.fault.SaveFault.{SaveFault}
use Rattle.images.specs.SavedImages.{distinct, saved_image, walk}
use Rattle.images.specs.Saves.{IsSaved}
use Rattle.value_store.specs.Standing.{IdealNodes}
use Rattle.value_store.specs.Stores.{nodes_in}
use Rattle.value_store.proofs.StandingNodes.{there_stands}
use Rattle.images.specs.LoadedRoots.{IsStateAt}
use Rattle.images.specs.FormRecords.{most_bytes}
use Rattle.images.specs.SavedRecords.{AreSaved}
use Rattle.images.proofs.LoopFacts.{same_error}
use Rattle.images.proofs.SavedLoads.{state_loads}
use Rattle.images.proofs.WholeImages.{image_made, image_refused}
use Rattle.images.proofs.save.save_image.Goals as goal

pub records_of-requires : goal.records_of-requires
records_of-requires c =
    let P = types_meaning c.args.types.now in
    there_stands IdealNodes P.types (nodes_in c.args.store.now) P.state c.requires.state.0 c.args.root.0 c.requires.state.1

pub returns-in_err-records : goal.returns-in_err-records
returns-in_err-records c =
    let P = types_meaning c.args.types.now in
    let digest = c.args.text_digest.now.0 in
    let is_digest : c.as_bytes-digest.result.now ≡ digest = c.as_bytes-digest.ensures.bytes in
    let digest_length : length digest ≡ 32 = ap length (sym is_digest) ∙ c.as_bytes-digest.ensures.length in
    record {
      saved = λ (v : Value) h.
          let entries = distinct [] (walk P.types P.state v) in
          let refused = subst (AreSaved most_bytes P.types entries) c.in_err-records.was (c.records_of.ensures.saved P.types P.state v c.args.types.now.numbers h) in
          subst (IsSaved (saved_image P digest v)) (sym (same_error c.from_residual.result c.in_err-records.field-0.0 c.from_residual.ensures))
          (image_refused P (every_format c.args.types.now []).image_magic_length digest digest_length v c.in_err-records.field-0.0 refused);
      loads = λ (v : Value) h.
          subst (λ (r : Result (Vec ℕ Global) SaveFault). IfOk r (λ image. image_of P digest image.items ≡ Root v))
          (sym (same_error c.from_residual.result c.in_err-records.field-0.0 c.from_residual.ensures)) tt;
    }

pub returns : goal.returns
returns c =
    let P = types_meaning c.args.types.now in
    let digest = c.args.text_digest.now.0 in
    let is_digest : c.as_bytes-digest.result.now ≡ digest = c.as_bytes-digest.ensures.bytes in
    let digest_length : length digest ≡ 32 = ap length (sym is_digest) ∙ c.as_bytes-digest.ensures.length in
    let saved = λ (v : Value) (h : IsStateAt P c.args.store.now c.args.root v).
    image_made P (every_format c.args.types.now []).image_magic_length digest digest_length v c.in_ok-records.records c.as_bytes-digest.result.now c.in_ok-image.image.items c.count.result c.write.new.image
    (c.in_ok-records.ensures.saved P.types P.state v c.args.types.now.numbers h) is_digest c.count.ensures.count c.in_ok-image.ensures c.in_ok-write.ensures in
    record {
      saved = saved;
      loads = λ (v : Value) h. state_loads c.args.types.now digest c.args.store.now c.args.root v c.write.new.image digest_length c.requires.limit h (saved v h);
    }
