use Rattle.std.proofs.Common.{◌∙◌, ap, arith, refl, sym}
use Rattle.std.specs.Cmp.Lexicographic.{slice_cmp}
use Rattle.std.proofs.lemmas.Bool.Decides.{nat_tests}
use Rattle.std.specs.Ordering.{is_lt, nat_cmp}
use Rattle.std.proofs.lemmas.Cmp.{same_from_slice_cmp}
use Rattle.ideal_meaning.specs.Run.{text_compare_of, text_lt}
use Rattle.reference_run.proofs.texts.compared.Goals as goal

pub returns-in-Lt : goal.returns-in-Lt
returns-in-Lt c =
    c.lt.ensures
    ∙ same_from_slice_cmp nat_cmp is_lt text_lt refl (λ y ys. refl) (λ x xs. refl) (λ x y xs ys o h. grind (arith, nat_tests)) c.args.x.now c.args.y.now
    (slice_cmp nat_cmp c.args.x.now c.args.y.now) refl
    ∙ sym (ap (λ op. text_compare_of op c.args.x.now c.args.y.now) c.in-Lt.is)
