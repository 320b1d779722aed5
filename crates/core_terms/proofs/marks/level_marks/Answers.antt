use Rattle.std.proofs.Common.{◌≡◌, ◌+◌, ◌++◌, ◌∷◌, [], ◌∙◌, ap, length, length-append, sym, subst}
use Rattle.core_terms.specs.AuthMarks.{AreLevelMarks, mark_of_form}
use Rattle.core_terms.specs.Programs.{types_in}
use Rattle.core_terms.proofs.AuthLevels.{one_more}
use Rattle.core_terms.proofs.marks.level_marks.Goals as goal

pub loop-number-preserved : goal.loop-number-preserved
loop-number-preserved c =
    let marks = c.loop-number.marks.items in
    let opened = c.args.opened.now in
    let form = c.form.result in
    let now = c.loop-number.invariant in
    let pushed : c.push.new.self.items ≡ marks ++ mark_of_form marks opened form ∷ [] =
    c.in_ok-push.ensures.items ∙ ap (λ b. marks ++ b ∷ []) (c.form_mark-mark.ensures ∙ ap (λ l. mark_of_form l opened form) c.deref.ensures.value) in (
      ap length pushed ∙ length-append marks (mark_of_form marks opened form ∷ []) ∙ ap (λ n. n + 1) now.0,
      subst (AreLevelMarks (types_in c.args.types.now) opened (c.loop-number.number + 1)) (sym pushed)
          (one_more (types_in c.args.types.now) opened marks form c.loop-number.number now.0 now.1 c.form.ensures.parts c.form.ensures.form),
    )
