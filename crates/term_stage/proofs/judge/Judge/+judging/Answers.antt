use Rattle.std.proofs.Common.{◌≡◌, ◌<◌, ◌≤◌, true, length, refl, subst, arith, rules}
use Rattle.core_terms.specs.Values.{int_fits}
use Rattle.core_terms.specs.Programs.{types_in}
use Rattle.core_terms.specs.ProgramTrees.{types_at}
use Rattle.core_terms.proofs.TermViews.{expression-UnitLiteral, expression-BoolLiteral, expression-IntLiteral, expression-Local, expression-Let}
use Rattle.term_stage.specs.Fitting.{judged}
use Rattle.term_stage.proofs.Fitted.{arms_end, arms_step, as_term, bool_fits, arms_of, few_locals, int_fits_in, kept, let_term, local_fits, put_term, row_end, row_step, unit_fits}
use Rattle.term_stage.proofs.judge.Judge.+judging.Goals as goal

pub is_term-returns-in-UnitLiteral : goal.is_term-returns-in-UnitLiteral
is_term-returns-in-UnitLiteral t c = λ yes.
    let j = c.args.self.now in
    let P = judged j.types.now j.named.now j.state j.functions.now in
    let T = types_in j.types.now in
    let env = types_at T c.args.env.now in
    as_term P env T _ _ _ _ _ _ _ _ c.in-UnitLiteral.is (expression-UnitLiteral T) (c.is_form.ensures yes) (unit_fits P env _ _ _ (few_locals T c.args.env.now c.requires) refl)

pub is_term-returns-in-BoolLiteral : goal.is_term-returns-in-BoolLiteral
is_term-returns-in-BoolLiteral t c = λ yes.
    let j = c.args.self.now in
    let P = judged j.types.now j.named.now j.state j.functions.now in
    let T = types_in j.types.now in
    let env = types_at T c.args.env.now in
    as_term P env T _ _ _ _ _ _ _ _ c.in-BoolLiteral.is (expression-BoolLiteral T _) (c.is_form-in-BoolLiteral.ensures yes)
    (bool_fits P env _ _ _ _ (few_locals T c.args.env.now c.requires) refl)

pub is_term-returns-in-IntLiteral : goal.is_term-returns-in-IntLiteral
is_term-returns-in-IntLiteral t c = λ yes.
    let j = c.args.self.now in
    let P = judged j.types.now j.named.now j.state j.functions.now in
    let T = types_in j.types.now in
    let env = types_at T c.args.env.now in
    as_term P env T _ _ _ _ _ _ _ _ c.in-IntLiteral.is (expression-IntLiteral T _) (c.is_int.ensures.form yes)
    (int_fits_in P env _ _ _ _ (subst (λ z. int_fits z ≡ true) (kept c.in-IntLiteral.value (omega arith)) c.is_int.ensures.fits) (few_locals T c.args.env.now c.requires) refl)

pub is_term-returns-in-Local : goal.is_term-returns-in-Local
is_term-returns-in-Local t c = λ yes.
    let j = c.args.self.now in
    let P = judged j.types.now j.named.now j.state j.functions.now in
    let T = types_in j.types.now in
    let env = types_at T c.args.env.now in
    as_term P env T _ _ _ _ _ _ _ _ c.in-Local.is (expression-Local T _) refl
    (local_fits P env _ _ _ _ _ (c.is_local.ensures yes) (few_locals T c.args.env.now c.requires) refl)

pub is_term-returns-then-fits_at : goal.is_term-returns-then-fits_at
is_term-returns-then-fits_at t c = λ yes.
    let j = c.args.self.now in
    let P = judged j.types.now j.named.now j.state j.functions.now in
    let T = types_in j.types.now in
    let env = types_at T c.args.env.now in
    as_term P env T _ _ _ _ _ _ _ _ c.in-Let.is (expression-Let T _ c.in-Let.bound c.in-Let.body) refl
    (let_term P env _ _ _ T _ _ c.in-Let.bound.value c.deref-in-Let.result.now c.in-Let.body.value c.deref-then-fits_at.result.now c.fits_at-in-Let.new.left
    c.deref-in-Let.ensures c.deref-then-fits_at.ensures (c.if-fits_at.ensures (search rules)) (c.fits_under.ensures yes))

pub operated-returns-else-not-both : goal.operated-returns-else-not-both
operated-returns-else-not-both t c = λ yes.
    let j = c.args.self.now in
    let P = judged j.types.now j.named.now j.state j.functions.now in
    let T = types_in j.types.now in
    put_term P (types_at T c.args.env.now) _ _ _ T c.args.operated.0 c.args.wanted c.in-VecPut-len3.count c.in-VecPut-len3.item c.args.operated.1.now
    c.array-item-then-this-lt4.result c.index-item-then-this-lt4.result c.new-item.result c.both-in-VecPut-len3.new.left c.in-VecPut-len3.is-0
    (c.if-not-is_array.ensures.form (search rules)) c.in-VecPut-len3.len_at_least c.in-VecPut-len3.len_below c.array-item-then-this-lt4.is c.index-item-then-this-lt4.is
    c.new-item.is (c.if-not-is_array.ensures.length (search rules)) (few_locals T c.args.env.now c.requires) (c.if-not-both.ensures (search rules))
    (c.fits_at-in-VecPut-len3.ensures yes)

pub row_fits-loop-place-preserved : goal.row_fits-loop-place-preserved
row_fits-loop-place-preserved t c = λ after rest.
    let j = c.args.self.now in
    let P = judged j.types.now j.named.now j.state j.functions.now in
    let T = types_in j.types.now in
    let env = types_at T c.args.env.now in
    let in_wanted : c.loop-place.place < length c.args.wanted.now = omega (arith, c.if-terms-wanted.false, c.loop-place-test.true) in
    c.loop-place.invariant after
    (row_step P env _ _ after T c.args.terms.now c.args.wanted.now c.loop-place.place c.index-terms-place.result _ _ c.fits_at.new.left
    c.loop-place-test.true in_wanted c.index-terms-place.is refl (c.if-not-fits_at.ensures (search rules)) rest)

pub row_fits-returns : goal.row_fits-returns
row_fits-returns t c = λ yes.
    let j = c.args.self.now in
    let P = judged j.types.now j.named.now j.state j.functions.now in
    let T = types_in j.types.now in
    let past_wanted : length c.args.wanted.now ≤ c.loop-place.place = omega (arith, c.if-terms-wanted.false, c.loop-place-test.false) in
    c.loop-place.invariant c.loop-place.left
    (row_end P (types_at T c.args.env.now) T c.args.terms.now c.args.wanted.now c.loop-place.place _ _ c.loop-place-test.false past_wanted
    (few_locals T c.args.env.now c.if-env-gt-MOST_LOCALS.false))

pub each_arm_fits-loop-place-preserved : goal.each_arm_fits-loop-place-preserved
each_arm_fits-loop-place-preserved t c = λ after rest.
    let j = c.args.self.now in
    let P = judged j.types.now j.named.now j.state j.functions.now in
    let T = types_in j.types.now in
    let env = types_at T c.args.env.now in
    let in_cs : c.loop-place.place < length c.args.constructors.now = omega (arith, c.if-arms-constructors.false, c.loop-place-test.true) in
    c.loop-place.invariant after
    (arms_step P env _ _ after T c.args.constructors.now c.args.arms.0.now _ c.loop-place.place c.index-constructors-place.result c.deref.result.now c.index-arms-place.result
    c.fits_under.new.left in_cs c.loop-place-test.true c.index-constructors-place.is c.deref.ensures.value c.index-arms-place.is (c.if-not-fits_under.ensures (search rules)) rest)

pub each_arm_fits-returns : goal.each_arm_fits-returns
each_arm_fits-returns t c = λ yes.
    let j = c.args.self.now in
    let P = judged j.types.now j.named.now j.state j.functions.now in
    let T = types_in j.types.now in
    let past_cs : length c.args.constructors.now ≤ c.loop-place.place = omega (arith, c.if-arms-constructors.false, c.loop-place-test.false) in
    c.loop-place.invariant c.loop-place.left
    (arms_end P (types_at T c.args.env.now) T c.args.constructors.now c.args.arms.0.now _ c.loop-place.place _ _ past_cs c.loop-place-test.false
    (few_locals T c.args.env.now c.if-env-gt-MOST_LOCALS.false))

pub arms_fit-returns-in-Some : goal.arms_fit-returns-in-Some
arms_fit-returns-in-Some t c = λ yes.
    let j = c.args.self.now in
    let P = judged j.types.now j.named.now j.state j.functions.now in
    let T = types_in j.types.now in
    let lookup = c.in-Some.ensures.lookup in
    arms_of P (types_at T c.args.env.now) _ _ _ T j.named.now c.args.arms.0.0 c.in-Some.named.now _ _ _ lookup.3.0 lookup.1 c.deref.ensures.value (c.each_arm_fits.ensures yes)
