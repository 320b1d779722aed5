use Rattle.std.proofs.Common.{◌∙◌, ap, subst, sym}
use Rattle.std.specs.Str.{IsUtf8}
use Rattle.std.proofs.lemmas.Str.{IsUtf8-from_is_utf8}
use Rattle.core_terms.specs.Values.{TextV}
use Rattle.core_terms.specs.Texts.{bytes_of}
use Rattle.ideal_meaning.specs.Run.{Gives}
use Rattle.reference_run.proofs.ValueViews.{plain-TextValue}
use Rattle.reference_run.proofs.copies.literal.Goals as goal

pub unreachable-requires : goal.unreachable-requires
unreachable-requires c =
    c.in_default.ensures.cases.0 (subst IsUtf8 (sym c.as_bytes.ensures) (IsUtf8-from_is_utf8 (bytes_of c.args.text.now) c.args.text.now.utf8))

pub returns : goal.returns
returns c = λ k seen.
    (seen, ap (λ v. Gives v k seen) (sym (plain-TextValue c.in_ok-from_str.field-0 ∙ ap TextV (c.in_ok-from_str.ensures.ok ∙ c.in-Ok.ensures.cases.0 ∙ c.as_bytes.ensures))))
