use Rattle.std.proofs.Common.{◌≡◌, ◌++◌, ℕ, List, length, drop, sym, ap, ap₂, ◌∙◌, subst}
use borrow.Rule.Slice.PartMut.{put_mid}
use Rattle.core_terms.specs.Programs.{meaning}
use Rattle.core_terms.specs.ProgramTypes.{types_meaning}
use Rattle.core_terms.specs.declared.digest.Digest.{Digest}
use Rattle.core_terms.specs.declared.program_types.Types.{Types}
use Rattle.core_terms.proofs.CodePrograms.{is_format}
use Rattle.images.specs.Images.{Root, image_of}
use Rattle.file_commands.proofs.MovedImages.{headed_by, moved_image}
use Rattle.file_commands.proofs.migrate_state.address.Goals as goal

pub returns : goal.returns
returns c = λ P digest v keeps is.
    let q = c.args.to.now in
    let Q = meaning q in
    let bytes = c.args.image.now in
    let four = (is_format q).image_magic_length in
    let magic : c.copy_from_slice.new.self ≡ Q.format.image_magic =
    c.copy_from_slice.ensures.after ∙ c.image_magic-magic.ensures ∙ ap (λ (types : Types). (types_meaning types).format.image_magic) c.types.ensures in
    let text = c.as_bytes.ensures.bytes ∙ ap (λ (digest : Digest). digest.0) c.text_digest.ensures in
    let long : length q.text_digest.0 ≡ 32 = sym (ap length text) ∙ c.as_bytes.ensures.length in
    let image : put_mid 4 32 (c.copy_from_slice.new.self ++ drop 4 bytes) c.copy_from_slice-2.new.self ≡ Q.format.image_magic ++ q.text_digest.0 ++ drop 36 bytes =
    ap₂ (λ (front other : List ℕ). put_mid 4 32 (front ++ drop 4 bytes) other) magic (c.copy_from_slice-2.ensures.after ∙ text)
    ∙ headed_by Q.format.image_magic q.text_digest.0 bytes four in
    subst (λ (bytes : List ℕ). image_of Q q.text_digest.0 bytes ≡ Root v) (sym image) (moved_image P Q keeps four digest q.text_digest.0 bytes v long is)
