use Rattle.std.proofs.Common.{◌≡◌, ◌<◌, ◌∙◌, length, set, ap, sym, subst, refl, arith, None, Some}
use Rattle.std.specs.Vec.{with_item}
use Rattle.core_terms.specs.ProgramTypes.{types_by_number}
use Rattle.core_terms.specs.TypeTables.{type_at}
use Rattle.object_meaning.specs.Objects.{most_listed_types}
use Rattle.object_meaning.specs.WrittenObjects.{once, place_of}
use Rattle.object_writer.specs.Numberings.{HasListedParts, Numbers, listed}
use Rattle.object_writer.specs.declared.numbering.Numbering.{Numbering}
use Rattle.object_writer.proofs.ListedParts.{not_listed}
use Rattle.object_writer.proofs.NumberedTypes.{is_listed}
use Rattle.object_writer.proofs.numbering.Numbering.list_once.Goals as goal

pub returns : goal.returns
returns c =
    let types = c.args.types.now in
    let n = c.args.self.now in
    let listing = listed types n in
    let known = c.known-known.result in
    let same = c.known-known.ensures.same in
    let m : Numbering = record { numbers = with_item n.numbers known.0 (Some c.len-number.result); order = c.push.new.self; unit = n.unit } in
    let new : place_of listing (type_at (types_by_number types) c.args.ty) ≡ None = not_listed listing (type_at (types_by_number types) c.args.ty) (sym c.is_listed.ensures ∙ c.if-is_listed.false) in
    let room : length listing < most_listed_types = omega (arith, c.len-number.ensures, c.if-number-ge-MOST_TYPES.false) in
    subst (λ t. Numbers types (once listing t) m) same
    (is_listed types n m known c.requires.numbering c.known-known.ensures.within (subst (HasListedParts listing) (sym same) c.requires.parts) (ap (place_of listing) same ∙ new)
    (ap (λ k. set n.numbers.items known.0 (Some k)) c.len-number.ensures) c.in_ok-push.ensures.items refl room)
