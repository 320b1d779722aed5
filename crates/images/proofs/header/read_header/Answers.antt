use Rattle.std.proofs.Common.{◌≡◌, true, ap, sym, ◌∙◌, List, ℕ}
use Rattle.std.specs.Prelude.{bytes_eq}
use Rattle.core_terms.specs.ProgramTypes.{types_meaning}
use Rattle.images.proofs.Headed.{header_is, not_other}
use Rattle.images.proofs.header.read_header.Goals as goal

pub returns : goal.returns
returns c =
    let magic = c.in-Some.ensures.cases in
    let of_text = c.in-Some-split_first_chunk.ensures.cases in
    let count = c.in-Some-split_first_chunk-2.ensures.cases in
    let good : bytes_eq c.in-Some.magic.now (types_meaning c.args.types.now).format.image_magic ≡ true =
    ap (λ (magic : List ℕ). bytes_eq c.in-Some.magic.now magic) (sym c.image_magic.ensures) ∙ not_other _ c.ne.result c.ne.ensures c.if-ne.false in
    let same : bytes_eq c.in-Some-split_first_chunk.of_text.now c.args.digest.now.0 ≡ true = not_other _ c.ne-2.result c.ne-2.ensures c.if-ne-2.false in
    header_is (types_meaning c.args.types.now).format.image_magic c.args.digest.now.0 c.args.bytes.now c.in-Some.magic.now c.in-Some.behind.now _ _ _ _ c.from_be_bytes.result magic.0 magic.1 magic.2 good of_text.0 of_text.1 of_text.2 same count.0 count.1 count.2 c.from_be_bytes.ensures
