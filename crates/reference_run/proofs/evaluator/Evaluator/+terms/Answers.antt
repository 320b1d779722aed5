use denote.Param.Weighed.{at_most, most}
use Rattle.std.proofs.Common.{◌≡◌, ◌≤◌, ◌+◌, ◌∷◌, ◌∙◌, suc, [], Ok, Err, map, drop, refl, sym, ap, subst, arith}
use Rattle.std.proofs.lemmas.List.{drop_more}
use Rattle.core_terms.specs.Programs.{types_of}
use Rattle.core_terms.specs.ProgramTrees.{arms_in_a_row, in_a_row}
use Rattle.core_terms.specs.Values.{IntV}
use Rattle.core_terms.specs.declared.term.Term.TheViews.{size-Term}
use Rattle.core_terms.proofs.TermViews.{expression-UnitLiteral, expression-BoolLiteral, expression-IntLiteral, expression-TextLiteral, expression-Local, expression-Pair, expression-Fst, expression-Snd, expression-Not, expression-Len, expression-Auth, expression-Unauth, expression-Constructor, expression-Arith, expression-Compare, expression-TextCompare, expression-Cat, expression-Let, expression-If, expression-Match, expression-Call, expression-Operate}
use Rattle.ideal_meaning.specs.Ideal.{ideal_mode}
use Rattle.ideal_meaning.specs.Run as meant
use Rattle.ideal_meaning.specs.Run.{Gives, then_run}
use Rattle.ideal_meaning.specs.Table.{eval, eval_all, eval_arm}
use Rattle.reference_run.specs.Evaluations.{expression, program_of}
use Rattle.reference_run.specs.PlainValues.{plain_of, plains_of}
use Rattle.reference_run.specs.Telling.{Tells, pair_values, row_values}
use Rattle.reference_run.specs.declared.stop.Stop.TheVariants.{Out}
use Rattle.reference_run.specs.declared.values.Plain as plain
use Rattle.reference_run.proofs.Called.{arm_past, arm_there, called, called_out, called_past}
use Rattle.reference_run.proofs.Ended.{authenticated, chosen_first, chosen_other, ended, goes_on, handed_on, opened}
use Rattle.reference_run.proofs.Locals.{found, past}
use Rattle.reference_run.proofs.PassedInts.{kept}
use Rattle.reference_run.proofs.Rows.{ahead, ahead_none, join_none, joined, none_left, one_ahead}
use Rattle.reference_run.proofs.Steps.{as_term, one_part, row_parts, two_parts}
use Rattle.reference_run.proofs.ValueViews.{plain-BoolValue, plain-IntValue, plain-UnitValue}
use Rattle.reference_run.proofs.Weights.{less_fuel, next_call}
use Rattle.reference_run.proofs.evaluator.Evaluator.+terms.Goals as goal

pub eval-returns-in-UnitLiteral-clause-value : goal.eval-returns-in-UnitLiteral-clause-value
eval-returns-in-UnitLiteral-clause-value t c = λ whole nesting seen h.
    let e = c.args.self.now in
    let T = types_of e.program.now in
    let P = program_of e in
    let env = plains_of c.args.locals.now in
    let k = c.args.fuel.now in
    let is = ap (expression e) c.in-UnitLiteral.is ∙ expression-UnitLiteral T in
    (seen, ap (λ E. eval P nesting E env k seen) is ∙ ap (λ v. Gives v k seen) (sym (plain-UnitValue)))

pub eval-returns-in-BoolLiteral-clause-value : goal.eval-returns-in-BoolLiteral-clause-value
eval-returns-in-BoolLiteral-clause-value t c = λ whole nesting seen h.
    let e = c.args.self.now in
    let T = types_of e.program.now in
    let P = program_of e in
    let env = plains_of c.args.locals.now in
    let k = c.args.fuel.now in
    let is = ap (expression e) c.in-BoolLiteral.is ∙ expression-BoolLiteral T c.in-BoolLiteral.value in
    (seen, ap (λ E. eval P nesting E env k seen) is ∙ ap (λ v. Gives v k seen) (sym (plain-BoolValue c.in-BoolLiteral.value)))

pub eval-returns-in-IntLiteral-clause-value : goal.eval-returns-in-IntLiteral-clause-value
eval-returns-in-IntLiteral-clause-value t c = λ whole nesting seen h.
    let e = c.args.self.now in
    let T = types_of e.program.now in
    let P = program_of e in
    let env = plains_of c.args.locals.now in
    let k = c.args.fuel.now in
    let is = ap (expression e) c.in-IntLiteral.is ∙ expression-IntLiteral T c.in-IntLiteral.value in
    (seen, ap (λ E. eval P nesting E env k seen) is ∙ ap (λ v. Gives v k seen) (sym (plain-IntValue _ ∙ ap IntV (kept c.in-IntLiteral.value (omega arith)))))

pub eval-returns-in-TextLiteral-clause-value : goal.eval-returns-in-TextLiteral-clause-value
eval-returns-in-TextLiteral-clause-value t c = λ whole nesting seen h.
    let e = c.args.self.now in
    let k = c.args.fuel.now in
    let is = ap (expression e) c.in-TextLiteral.is ∙ expression-TextLiteral (types_of e.program.now) c.in-TextLiteral.text in
    as_term e (plains_of c.args.locals.now) nesting k k seen c.literal.result c.args.term.now _ is (c.literal.ensures k seen)

pub eval-returns-in-Local-clause-value : goal.eval-returns-in-Local-clause-value
eval-returns-in-Local-clause-value t c = λ whole nesting seen h.
    let e = c.args.self.now in
    let k = c.args.fuel.now in
    let is = ap (expression e) c.in-Local.is ∙ expression-Local (types_of e.program.now) c.in-Local.id in
    as_term e (plains_of c.args.locals.now) nesting k k seen c.local.result c.args.term.now _ is (c.local.ensures k seen)

pub eval-returns-in-Fst-clause-value : goal.eval-returns-in-Fst-clause-value
eval-returns-in-Fst-clause-value t c = λ whole nesting seen h.
    let e = c.args.self.now in
    let T = types_of e.program.now in
    let P = program_of e in
    let env = plains_of c.args.locals.now in
    let k = c.args.fuel.now in
    one_part e env nesting k c.eval.new.fuel seen c.eval.result c.first.result c.deref-in-Fst.result.now c.in-Fst.pair.value c.args.term.now _ _
    c.deref-in-Fst.ensures (ap (expression e) c.in-Fst.is ∙ expression-Fst T _ _ c.in-Fst.pair) c.first.ensures refl (c.eval.ensures.value whole nesting seen h)

pub eval-returns-in-Snd-clause-value : goal.eval-returns-in-Snd-clause-value
eval-returns-in-Snd-clause-value t c = λ whole nesting seen h.
    let e = c.args.self.now in
    let T = types_of e.program.now in
    let P = program_of e in
    let env = plains_of c.args.locals.now in
    let k = c.args.fuel.now in
    one_part e env nesting k c.eval-in-Snd.new.fuel seen c.eval-in-Snd.result c.second.result c.deref-in-Snd.result.now c.in-Snd.pair.value c.args.term.now _ _
    c.deref-in-Snd.ensures (ap (expression e) c.in-Snd.is ∙ expression-Snd T _ _ c.in-Snd.pair) c.second.ensures refl (c.eval-in-Snd.ensures.value whole nesting seen h)

pub eval-returns-in-Not-clause-value : goal.eval-returns-in-Not-clause-value
eval-returns-in-Not-clause-value t c = λ whole nesting seen h.
    let e = c.args.self.now in
    let T = types_of e.program.now in
    let P = program_of e in
    let env = plains_of c.args.locals.now in
    let k = c.args.fuel.now in
    one_part e env nesting k c.eval-in-Not.new.fuel seen c.eval-in-Not.result c.negation.result c.deref-in-Not.result.now c.in-Not.test.value c.args.term.now _ _
    c.deref-in-Not.ensures (ap (expression e) c.in-Not.is ∙ expression-Not T c.in-Not.test) c.negation.ensures refl (c.eval-in-Not.ensures.value whole nesting seen h)

pub eval-returns-in-Len-clause-value : goal.eval-returns-in-Len-clause-value
eval-returns-in-Len-clause-value t c = λ whole nesting seen h.
    let e = c.args.self.now in
    let T = types_of e.program.now in
    let P = program_of e in
    let env = plains_of c.args.locals.now in
    let k = c.args.fuel.now in
    one_part e env nesting k c.eval-in-Len.new.fuel seen c.eval-in-Len.result c.len.result c.deref-in-Len.result.now c.in-Len.text.value c.args.term.now _ _
    c.deref-in-Len.ensures (ap (expression e) c.in-Len.is ∙ expression-Len T c.in-Len.text) c.len.ensures refl (c.eval-in-Len.ensures.value whole nesting seen h)

pub eval-returns-in-Auth-clause-value : goal.eval-returns-in-Auth-clause-value
eval-returns-in-Auth-clause-value t c = λ whole nesting seen h.
    let e = c.args.self.now in
    let T = types_of e.program.now in
    let P = program_of e in
    let env = plains_of c.args.locals.now in
    let k = c.args.fuel.now in
    let is = ap (expression e) c.in-Auth.is ∙ expression-Auth T _ c.in-Auth.x in
    let told = subst (λ x. Tells plain_of c.eval-in-Auth.new.fuel c.eval-in-Auth.result (eval P nesting (expression e x) env k seen))
    c.deref-in-Auth.ensures (c.eval-in-Auth.ensures.value whole nesting seen h) in
    as_term e env nesting k c.eval-in-Auth.new.fuel seen c.eval-in-Auth.result c.args.term.now _ is
    (authenticated c.eval-in-Auth.new.fuel c.eval-in-Auth.result (eval P nesting (expression e c.in-Auth.x.value) env k seen) told)

pub eval-returns-in-Unauth-clause-value : goal.eval-returns-in-Unauth-clause-value
eval-returns-in-Unauth-clause-value t c = λ whole nesting seen h.
    let e = c.args.self.now in
    let T = types_of e.program.now in
    let P = program_of e in
    let env = plains_of c.args.locals.now in
    let k = c.args.fuel.now in
    let is = ap (expression e) c.in-Unauth.is ∙ expression-Unauth T _ c.in-Unauth.x in
    let told = subst (λ x. Tells plain_of c.eval-in-Unauth.new.fuel c.eval-in-Unauth.result (eval P nesting (expression e x) env k seen))
    c.deref-in-Unauth.ensures (c.eval-in-Unauth.ensures.value whole nesting seen h) in
    as_term e env nesting k c.eval-in-Unauth.new.fuel seen c.eval-in-Unauth.result c.args.term.now _ is
    (opened _ c.eval-in-Unauth.new.fuel c.eval-in-Unauth.result (eval P nesting (expression e c.in-Unauth.x.value) env k seen) told)

pub eval-returns-in-Pair-clause-value : goal.eval-returns-in-Pair-clause-value
eval-returns-in-Pair-clause-value t c = λ whole nesting seen h.
    let e = c.args.self.now in
    let T = types_of e.program.now in
    let P = program_of e in
    let env = plains_of c.args.locals.now in
    let k = c.args.fuel.now in
    two_parts e env nesting k c.both-operands.new.fuel seen c.both-operands.result c.new_pair.result c.deref.result.now c.in-Pair.x.value c.deref-in-Pair.result.now c.in-Pair.y.value
    c.args.term.now _ _
    c.deref.ensures c.deref-in-Pair.ensures (ap (expression e) c.in-Pair.is ∙ expression-Pair T _ _ c.in-Pair.x c.in-Pair.y)
    c.new_pair.ensures refl (c.both-operands.ensures.value whole nesting seen h)

pub eval-returns-in-Arith-clause-value : goal.eval-returns-in-Arith-clause-value
eval-returns-in-Arith-clause-value t c = λ whole nesting seen h.
    let e = c.args.self.now in
    let T = types_of e.program.now in
    let P = program_of e in
    let env = plains_of c.args.locals.now in
    let k = c.args.fuel.now in
    two_parts e env nesting k c.both.new.fuel seen c.both.result c.arith.result c.deref-in-Arith.result.now c.in-Arith.x.value c.deref-in-Arith-2.result.now c.in-Arith.y.value c.args.term.now _ _
    c.deref-in-Arith.ensures c.deref-in-Arith-2.ensures (ap (expression e) c.in-Arith.is ∙ expression-Arith T _ c.in-Arith.x c.in-Arith.y)
    c.arith.ensures refl (c.both.ensures.value whole nesting seen h)

pub eval-returns-in-Compare-clause-value : goal.eval-returns-in-Compare-clause-value
eval-returns-in-Compare-clause-value t c = λ whole nesting seen h.
    let e = c.args.self.now in
    let T = types_of e.program.now in
    let P = program_of e in
    let env = plains_of c.args.locals.now in
    let k = c.args.fuel.now in
    two_parts e env nesting k c.both-in-Compare.new.fuel seen c.both-in-Compare.result c.compare.result c.deref-in-Compare.result.now c.in-Compare.x.value
    c.deref-in-Compare-2.result.now c.in-Compare.y.value c.args.term.now _ _
    c.deref-in-Compare.ensures c.deref-in-Compare-2.ensures (ap (expression e) c.in-Compare.is ∙ expression-Compare T _ c.in-Compare.x c.in-Compare.y)
    c.compare.ensures refl (c.both-in-Compare.ensures.value whole nesting seen h)

pub eval-returns-in-TextCompare-clause-value : goal.eval-returns-in-TextCompare-clause-value
eval-returns-in-TextCompare-clause-value t c = λ whole nesting seen h.
    let e = c.args.self.now in
    let T = types_of e.program.now in
    let P = program_of e in
    let env = plains_of c.args.locals.now in
    let k = c.args.fuel.now in
    two_parts e env nesting k c.both-in-TextCompare.new.fuel seen c.both-in-TextCompare.result c.compare_texts.result c.deref-in-TextCompare.result.now c.in-TextCompare.x.value
    c.deref-in-TextCompare-2.result.now c.in-TextCompare.y.value c.args.term.now _ _
    c.deref-in-TextCompare.ensures c.deref-in-TextCompare-2.ensures (ap (expression e) c.in-TextCompare.is ∙ expression-TextCompare T _ c.in-TextCompare.x c.in-TextCompare.y)
    c.compare_texts.ensures refl (c.both-in-TextCompare.ensures.value whole nesting seen h)

pub eval-returns-in-Cat-clause-value : goal.eval-returns-in-Cat-clause-value
eval-returns-in-Cat-clause-value t c = λ whole nesting seen h.
    let e = c.args.self.now in
    let T = types_of e.program.now in
    let P = program_of e in
    let env = plains_of c.args.locals.now in
    let k = c.args.fuel.now in
    two_parts e env nesting k c.both-operands-in-Cat.new.fuel seen c.both-operands-in-Cat.result c.cat.result c.deref-in-Cat.result.now c.in-Cat.x.value c.deref-in-Cat-2.result.now
    c.in-Cat.y.value c.args.term.now _ _
    c.deref-in-Cat.ensures c.deref-in-Cat-2.ensures (ap (expression e) c.in-Cat.is ∙ expression-Cat T c.in-Cat.x c.in-Cat.y)
    c.cat.ensures refl (c.both-operands-in-Cat.ensures.value whole nesting seen h)

pub eval-returns-in-Constructor-clause-value : goal.eval-returns-in-Constructor-clause-value
eval-returns-in-Constructor-clause-value t c = λ whole nesting seen h.
    let e = c.args.self.now in
    let T = types_of e.program.now in
    let P = program_of e in
    let env = plains_of c.args.locals.now in
    let k = c.args.fuel.now in
    row_parts e env nesting k c.row-fields.new.fuel seen c.row-fields.result c.new_constructor.result c.deref-in-Constructor.result.now c.in-Constructor.fields.items c.args.term.now _ _
    c.deref-in-Constructor.ensures.value (ap (expression e) c.in-Constructor.is ∙ expression-Constructor T _ _ c.in-Constructor.fields)
    c.new_constructor.ensures refl (c.row-fields.ensures.value whole nesting seen h)

pub eval-returns-in-Let-clause-value : goal.eval-returns-in-Let-clause-value
eval-returns-in-Let-clause-value t c = λ whole nesting seen h.
    let e = c.args.self.now in
    let T = types_of e.program.now in
    let P = program_of e in
    let env = plains_of c.args.locals.now in
    let k = c.args.fuel.now in
    let told = rw (c.deref-in-Let.ensures, c.deref-in-Let-2.ensures) at (c.bound_in.ensures.value whole nesting seen h) in
    as_term e env nesting k c.bound_in.new.fuel seen c.bound_in.result c.args.term.now _ (ap (expression e) c.in-Let.is ∙ expression-Let T _ c.in-Let.bound c.in-Let.body) told

pub eval-returns-in-If-clause-value : goal.eval-returns-in-If-clause-value
eval-returns-in-If-clause-value t c = λ whole nesting seen h.
    let e = c.args.self.now in
    let T = types_of e.program.now in
    let P = program_of e in
    let env = plains_of c.args.locals.now in
    let k = c.args.fuel.now in
    let told = rw (c.deref-in-If.ensures, c.deref-in-If-2.ensures, c.deref-in-If-3.ensures) at (c.choice.ensures.value whole nesting seen h) in
    as_term e env nesting k c.choice.new.fuel seen c.choice.result c.args.term.now _ (ap (expression e) c.in-If.is ∙ expression-If T c.in-If.test c.in-If.first c.in-If.other) told

pub eval-returns-in-Match-clause-value : goal.eval-returns-in-Match-clause-value
eval-returns-in-Match-clause-value t c = λ whole nesting seen h.
    let e = c.args.self.now in
    let T = types_of e.program.now in
    let P = program_of e in
    let env = plains_of c.args.locals.now in
    let k = c.args.fuel.now in
    let told = rw (c.deref-in-Match.ensures, c.deref-in-Match-2.ensures.value) at (c.arm.ensures.value whole nesting seen h) in
    as_term e env nesting k c.arm.new.fuel seen c.arm.result c.args.term.now _ (ap (expression e) c.in-Match.is ∙ expression-Match T _ c.in-Match.subject c.in-Match.arms) told

pub eval-returns-in-Call-clause-value : goal.eval-returns-in-Call-clause-value
eval-returns-in-Call-clause-value t c = λ whole nesting seen h.
    let e = c.args.self.now in
    let T = types_of e.program.now in
    let P = program_of e in
    let env = plains_of c.args.locals.now in
    let k = c.args.fuel.now in
    let row = rw c.deref-in-Call.ensures.value at (c.row-arguments.ensures.value whole nesting seen h) in
    let le : c.row-arguments.new.fuel ≤ nesting = omega (arith, c.row-arguments.ensures.fuel, h) in
    as_term e env nesting k c.call.new.fuel seen c.call.result c.args.term.now _ (ap (expression e) c.in-Call.is ∙ expression-Call T _ c.in-Call.arguments)
    (c.call.ensures.value whole nesting _ le row)

pub eval-returns-in-Operate-clause-value : goal.eval-returns-in-Operate-clause-value
eval-returns-in-Operate-clause-value t c = λ whole nesting seen h.
    let e = c.args.self.now in
    let T = types_of e.program.now in
    let env = plains_of c.args.locals.now in
    row_parts e env nesting c.args.fuel.now c.row-operands.new.fuel seen c.row-operands.result c.operate.result c.deref-in-Operate.result.now c.in-Operate.operands.items c.args.term.now _ _
    c.deref-in-Operate.ensures.value (ap (expression e) c.in-Operate.is ∙ expression-Operate T _ c.in-Operate.operands)
    c.operate.ensures refl (c.row-operands.ensures.value whole nesting seen h)

pub both-returns-in_err-x-clause-value : goal.both-returns-in_err-x-clause-value
both-returns-in_err-x-clause-value t c = λ whole nesting seen h.
    let e = c.args.self.now in
    let T = types_of e.program.now in
    let P = program_of e in
    let env = plains_of c.args.locals.now in
    let k = c.args.fuel.now in
    handed_on pair_values c.eval.new.fuel c.from_residual.result c.in_err-x.field-0.0 _ c.from_residual.ensures.1
    (ended plain_of pair_values c.eval.new.fuel c.in_err-x.field-0.0 (eval P nesting (expression e c.args.x.now) env k seen) _ (c.in_err-x.ensures.value whole nesting seen h))

pub both-returns-in_err-y-clause-value : goal.both-returns-in_err-y-clause-value
both-returns-in_err-y-clause-value t c = λ whole nesting seen h.
    let e = c.args.self.now in
    let T = types_of e.program.now in
    let P = program_of e in
    let env = plains_of c.args.locals.now in
    let k = c.args.fuel.now in
    let x = c.in_ok-x.ensures.value whole nesting seen h in
    let le : c.eval.new.fuel ≤ nesting = omega (arith, c.eval.ensures.fuel, h) in
    let u = plain_of c.in_ok-x.x in
    handed_on pair_values c.eval-2.new.fuel c.from_residual-in_err-y.result c.in_err-y.field-0.0 _ c.from_residual-in_err-y.ensures.1
    (goes_on pair_values u c.eval.new.fuel c.eval-2.new.fuel x.0 (eval P nesting (expression e c.args.x.now) env k seen)
    (λ u k seen. then_run (eval P nesting (expression e c.args.y.now) env k seen) (λ v k seen. Gives (u, v) k seen)) (Err c.in_err-y.field-0.0) x.1
    (ended plain_of pair_values c.eval-2.new.fuel c.in_err-y.field-0.0 (eval P nesting (expression e c.args.y.now) env c.eval.new.fuel x.0)
    (λ v k seen. Gives (u, v) k seen) (c.in_err-y.ensures.value whole nesting x.0 le)))

pub both-returns-clause-value : goal.both-returns-clause-value
both-returns-clause-value t c = λ whole nesting seen h.
    let e = c.args.self.now in
    let T = types_of e.program.now in
    let P = program_of e in
    let env = plains_of c.args.locals.now in
    let k = c.args.fuel.now in
    let x = c.in_ok-x.ensures.value whole nesting seen h in
    let le : c.eval.new.fuel ≤ nesting = omega (arith, c.eval.ensures.fuel, h) in
    let y = c.in_ok-y.ensures.value whole nesting x.0 le in
    let u = plain_of c.in_ok-x.x in (
      y.0,
      ap (λ run. then_run run (λ u k seen. then_run (eval P nesting (expression e c.args.y.now) env k seen) (λ v k seen. Gives (u, v) k seen))) x.1
          ∙ ap (λ run. then_run run (λ v k seen. Gives (u, v) k seen)) y.1,
    )

pub bound_in-returns-in_err-value-clause-value : goal.bound_in-returns-in_err-value-clause-value
bound_in-returns-in_err-value-clause-value t c = λ whole nesting seen h.
    let e = c.args.self.now in
    let T = types_of e.program.now in
    let P = program_of e in
    let env = plains_of c.args.locals.now in
    let k = c.args.fuel.now in
    handed_on plain_of c.eval.new.fuel c.from_residual.result c.in_err-value.field-0.0 _ c.from_residual.ensures.1
    (ended plain_of plain_of c.eval.new.fuel c.in_err-value.field-0.0 (eval P nesting (expression e c.args.bound.now) env k seen) _ (c.in_err-value.ensures.value whole nesting seen h))

pub bound_in-returns-in_err-inner-clause-value : goal.bound_in-returns-in_err-inner-clause-value
bound_in-returns-in_err-inner-clause-value t c = λ whole nesting seen h.
    let e = c.args.self.now in
    let T = types_of e.program.now in
    let P = program_of e in
    let env = plains_of c.args.locals.now in
    let k = c.args.fuel.now in
    handed_on plain_of c.eval.new.fuel c.from_residual-in_err-inner.result _ _ c.from_residual-in_err-inner.ensures.1 tt

pub bound_in-returns-clause-value : goal.bound_in-returns-clause-value
bound_in-returns-clause-value t c = λ whole nesting seen h.
    let e = c.args.self.now in
    let T = types_of e.program.now in
    let P = program_of e in
    let env = plains_of c.args.locals.now in
    let k = c.args.fuel.now in
    let x = c.in_ok-value.ensures.value whole nesting seen h in
    let le : c.eval.new.fuel ≤ nesting = omega (arith, c.eval.ensures.fuel, h) in
    let inner = ap plains_of c.deref.ensures.value ∙ c.in_ok-inner.ensures in
    goes_on plain_of _ c.eval.new.fuel c.eval-2.new.fuel x.0 (eval P nesting (expression e c.args.bound.now) env k seen) _ c.eval-2.result x.1
    (subst (λ env. Tells plain_of c.eval-2.new.fuel c.eval-2.result (eval P nesting (expression e c.args.body.now) env c.eval.new.fuel x.0)) inner (c.eval-2.ensures.value whole nesting x.0 le))

pub choice-returns-in_err-test-clause-value : goal.choice-returns-in_err-test-clause-value
choice-returns-in_err-test-clause-value t c = λ whole nesting seen h.
    let e = c.args.self.now in
    let T = types_of e.program.now in
    let P = program_of e in
    let env = plains_of c.args.locals.now in
    let k = c.args.fuel.now in
    handed_on plain_of c.eval.new.fuel c.from_residual.result c.in_err-test.field-0.0 _ c.from_residual.ensures.1
    (ended plain_of plain_of c.eval.new.fuel c.in_err-test.field-0.0 (eval P nesting (expression e c.args.test.now) env k seen) _ (c.in_err-test.ensures.value whole nesting seen h))

pub choice-returns-then-bool_in-clause-value : goal.choice-returns-then-bool_in-clause-value
choice-returns-then-bool_in-clause-value t c = λ whole nesting seen h.
    let e = c.args.self.now in
    let T = types_of e.program.now in
    let P = program_of e in
    let env = plains_of c.args.locals.now in
    let k = c.args.fuel.now in
    let x = c.in_ok-test.ensures.value whole nesting seen h in
    let le : c.eval.new.fuel ≤ nesting = omega (arith, c.eval.ensures.fuel, h) in
    goes_on plain_of _ c.eval.new.fuel c.eval-then-bool_in.new.fuel x.0 (eval P nesting (expression e c.args.test.now) env k seen) _ c.eval-then-bool_in.result x.1
    (chosen_first _ (eval P nesting (expression e c.args.first.now)) (eval P nesting (expression e c.args.other.now)) env c.eval.new.fuel c.eval-then-bool_in.new.fuel x.0 c.eval-then-bool_in.result
    (sym c.bool_in.ensures ∙ c.if-bool_in.true) (c.eval-then-bool_in.ensures.value whole nesting x.0 le))

pub choice-returns-clause-value : goal.choice-returns-clause-value
choice-returns-clause-value t c = λ whole nesting seen h.
    let e = c.args.self.now in
    let T = types_of e.program.now in
    let P = program_of e in
    let env = plains_of c.args.locals.now in
    let k = c.args.fuel.now in
    let x = c.in_ok-test.ensures.value whole nesting seen h in
    let le : c.eval.new.fuel ≤ nesting = omega (arith, c.eval.ensures.fuel, h) in
    goes_on plain_of _ c.eval.new.fuel c.eval-else-bool_in.new.fuel x.0 (eval P nesting (expression e c.args.test.now) env k seen) _ c.eval-else-bool_in.result x.1
    (chosen_other _ (eval P nesting (expression e c.args.first.now)) (eval P nesting (expression e c.args.other.now)) env c.eval.new.fuel c.eval-else-bool_in.new.fuel x.0 c.eval-else-bool_in.result
    (sym c.bool_in.ensures ∙ c.if-bool_in.false) (c.eval-else-bool_in.ensures.value whole nesting x.0 le))

pub arm-returns-in_err-subject-clause-value : goal.arm-returns-in_err-subject-clause-value
arm-returns-in_err-subject-clause-value t c = λ whole nesting seen h.
    let e = c.args.self.now in
    let T = types_of e.program.now in
    let P = program_of e in
    let env = plains_of c.args.locals.now in
    let k = c.args.fuel.now in
    handed_on plain_of c.eval.new.fuel c.from_residual.result c.in_err-subject.field-0.0 _ c.from_residual.ensures.1
    (ended plain_of plain_of c.eval.new.fuel c.in_err-subject.field-0.0 (eval P nesting (expression e c.args.subject.now) env k seen) _ (c.in_err-subject.ensures.value whole nesting seen h))

pub arm-returns-in_err-inner-clause-value : goal.arm-returns-in_err-inner-clause-value
arm-returns-in_err-inner-clause-value t c = λ whole nesting seen h.
    let e = c.args.self.now in
    let T = types_of e.program.now in
    let P = program_of e in
    let env = plains_of c.args.locals.now in
    let k = c.args.fuel.now in
    handed_on plain_of c.eval.new.fuel c.from_residual-in_err-inner.result _ _ c.from_residual-in_err-inner.ensures.1 tt

pub arm-returns-in-Some-clause-value : goal.arm-returns-in-Some-clause-value
arm-returns-in-Some-clause-value t c = λ whole nesting seen h.
    let e = c.args.self.now in
    let T = types_of e.program.now in
    let P = program_of e in
    let env = plains_of c.args.locals.now in
    let k = c.args.fuel.now in
    let x = c.in_ok-subject.ensures.value whole nesting seen h in
    let le : c.eval.new.fuel ≤ nesting = omega (arith, c.eval.ensures.fuel, h) in
    let arms = c.args.arms.now in
    let v = plain_of c.in_ok-subject.subject in
    let tag = c.tag_in-tag.result in
    let inner = c.in_ok-inner.ensures ∙ ap (meant.join env) c.fields_in.ensures in
    let lookup = c.in-Some.ensures.lookup in
    let arm = c.in-Some.arm.now in
    let there = arm_there (expression e) P nesting (meant.join env (meant.fields_in v)) c.eval.new.fuel x.0 arms tag arm (found arms tag arm lookup.3.0 lookup.1) in
    let same = ap (λ tag. eval_arm P nesting (arms_in_a_row (map (expression e) arms)) tag (meant.join env (meant.fields_in v)) c.eval.new.fuel x.0) c.tag_in-tag.ensures in
    goes_on plain_of v c.eval.new.fuel c.eval-in-Some.new.fuel x.0 (eval P nesting (expression e c.args.subject.now) env k seen) _ c.eval-in-Some.result x.1
    (subst (λ run. Tells plain_of c.eval-in-Some.new.fuel c.eval-in-Some.result run) (sym there ∙ same)
    (subst (λ env. Tells plain_of c.eval-in-Some.new.fuel c.eval-in-Some.result (eval P nesting (expression e arm) env c.eval.new.fuel x.0)) (ap plains_of c.deref.ensures.value ∙ inner)
    (c.eval-in-Some.ensures.value whole nesting x.0 le)))

pub arm-returns-clause-value : goal.arm-returns-clause-value
arm-returns-clause-value t c = λ whole nesting seen h.
    let e = c.args.self.now in
    let T = types_of e.program.now in
    let P = program_of e in
    let env = plains_of c.args.locals.now in
    let k = c.args.fuel.now in
    let x = c.in_ok-subject.ensures.value whole nesting seen h in
    let le : c.eval.new.fuel ≤ nesting = omega (arith, c.eval.ensures.fuel, h) in
    let arms = c.args.arms.now in
    let v = plain_of c.in_ok-subject.subject in
    let tag = c.tag_in-tag.result in
    let inner = c.in_ok-inner.ensures ∙ ap (meant.join env) c.fields_in.ensures in
    let gone = arm_past (expression e) P nesting (meant.join env (meant.fields_in v)) c.eval.new.fuel x.0 arms tag (past arms tag c.in-None.ensures.lookup.3) in
    let same = ap (λ tag. eval_arm P nesting (arms_in_a_row (map (expression e) arms)) tag (meant.join env (meant.fields_in v)) c.eval.new.fuel x.0) c.tag_in-tag.ensures in (
      x.0,
      ap (λ run. then_run run (λ v k seen. eval_arm P nesting (arms_in_a_row (map (expression e) arms)) (meant.tag_in v) (meant.join env (meant.fields_in v)) k seen)) x.1
          ∙ sym same ∙ gone ∙ ap (λ v. Gives v c.eval.new.fuel x.0) (sym plain-UnitValue),
    )

pub call-returns-in_err-arguments-clause-value : goal.call-returns-in_err-arguments-clause-value
call-returns-in_err-arguments-clause-value t c = λ whole nesting run h told.
    let e = c.args.self.now in
    let P = program_of e in
    let k = c.args.fuel.now in
    let f = c.args.function.0 in
    handed_on plain_of k c.from_residual.result c.in_err-arguments.field-0.0 _ c.from_residual.ensures.1
    (ended row_values plain_of k c.in_err-arguments.field-0.0 run _ (subst (λ o. Tells row_values k o run) c.in_err-arguments.was told))

pub call-returns-in_default-clause-value : goal.call-returns-in_default-clause-value
call-returns-in_default-clause-value t c = λ whole nesting run h told.
    let e = c.args.self.now in
    let P = program_of e in
    let k = c.args.fuel.now in
    let f = c.args.function.0 in
    let given = c.in_ok-arguments.arguments in
    let args : Tells row_values k (Ok given) run = subst (λ o. Tells row_values k o run) c.in_ok-arguments.was told in
    let vs = plains_of given.items in
    goes_on plain_of vs k k args.0 run (meant.call P ideal_mode nesting f) (Err Out) args.1 (args.0, called_out P nesting f vs k args.0 (omega (arith, c.in_default.ensures)))

pub call-returns-in-Some-get-clause-value : goal.call-returns-in-Some-get-clause-value
call-returns-in-Some-get-clause-value t c = λ whole nesting run h told.
    let e = c.args.self.now in
    let P = program_of e in
    let k = c.args.fuel.now in
    let f = c.args.function.0 in
    let given = c.in_ok-arguments.arguments in
    let args : Tells row_values k (Ok given) run = subst (λ o. Tells row_values k o run) c.in_ok-arguments.was told in
    let vs = plains_of given.items in
    let left = c.in-Some.left in
    let lookup = c.in-Some-get.ensures.lookup in
    let g = c.in-Some-get.function.now in
    let body = called e whole f g (found e.functions.now f g lookup.3.0 lookup.1) nesting vs k left args.0 (omega (arith, c.in-Some.ensures)) h in
    goes_on plain_of vs k c.eval.new.fuel args.0 run _ c.eval.result args.1
    (subst (λ run. Tells plain_of c.eval.new.fuel c.eval.result run) (sym body.2)
    (subst (λ env. Tells plain_of c.eval.new.fuel c.eval.result (eval P body.0 (expression e g.body) env left args.0)) (ap plains_of c.deref.ensures.value)
    (c.eval.ensures.value whole body.0 args.0 body.1)))

pub call-returns-clause-value : goal.call-returns-clause-value
call-returns-clause-value t c = λ whole nesting run h told.
    let e = c.args.self.now in
    let P = program_of e in
    let k = c.args.fuel.now in
    let f = c.args.function.0 in
    let given = c.in_ok-arguments.arguments in
    let args : Tells row_values k (Ok given) run = subst (λ o. Tells row_values k o run) c.in_ok-arguments.was told in
    let vs = plains_of given.items in
    let left = c.in-Some.left in
    goes_on plain_of vs k left args.0 run (meant.call P ideal_mode nesting f) (Ok plain.UnitValue) args.1 (
      args.0,
      called_past e whole f (past e.functions.now f c.in-None.ensures.lookup.3) nesting vs k left args.0 (omega (arith, c.in-Some.ensures)) h ∙ ap
          (λ v. Gives v left args.0) (sym plain-UnitValue),
    )

pub row-loop-term-init : goal.row-loop-term-init
row-loop-term-init t c = (
  omega arith,
  λ whole nesting seen h. (
    seen,
    ahead_none (eval_all (program_of c.args.self.now) nesting (in_a_row (map (expression c.args.self.now)
        c.args.terms.now)) (plains_of c.args.locals.now) c.args.fuel.now seen)
        ∙ ap (λ vs. ahead (plains_of vs) (eval_all (program_of c.args.self.now) nesting (in_a_row (map (expression c.args.self.now) c.args.terms.now)) (plains_of c.args.locals.now)
        c.args.fuel.now seen)) (sym c.new-values.ensures.items),
  ),
)

pub row-returns-in_err-value-clause-value : goal.row-returns-in_err-value-clause-value
row-returns-in_err-value-clause-value t c = λ whole nesting seen h.
    let e = c.args.self.now in
    let P = program_of e in
    let env = plains_of c.args.locals.now in
    let terms = c.args.terms.now in
    let i = c.loop-term.term-index in
    let x = c.term-item.result in
    let so_far = c.loop-term.invariant.1 whole nesting seen h in
    let le : c.loop-term.fuel ≤ nesting = omega (arith, c.loop-term.invariant.0, h) in
    let vs = plains_of c.loop-term.values.items in
    let next : drop i terms ≡ x ∷ drop (i + 1) terms = drop_more terms i _ c.loop-term-test.true ∙ ap (λ x. x ∷ drop (i + 1) terms) (sym c.term-item.is) in
    let step = so_far.1 ∙ ap (λ xs. ahead vs (eval_all P nesting (in_a_row (map (expression e) xs)) env c.loop-term.fuel so_far.0)) next in
    let over = c.in_err-value.ensures.value whole nesting so_far.0 le in
    let stop = c.in_err-value.field-0.0 in
    handed_on row_values c.eval.new.fuel c.from_residual.result stop _ c.from_residual.ensures.1
    (subst (λ run. Tells row_values c.eval.new.fuel (Err stop) run) (sym step)
    (ended row_values row_values c.eval.new.fuel stop _ _ (ended plain_of row_values c.eval.new.fuel stop (eval P nesting (expression e x) env c.loop-term.fuel so_far.0) _ over)))

pub row-returns-in_err-push-clause-value : goal.row-returns-in_err-push-clause-value
row-returns-in_err-push-clause-value t c = λ whole nesting seen h.
    handed_on row_values c.eval.new.fuel c.from_residual-in_err-push.result _ _ c.from_residual-in_err-push.ensures.1 tt

pub row-loop-term-preserved : goal.row-loop-term-preserved
row-loop-term-preserved t c = (
  omega (arith, c.eval.ensures.fuel, c.loop-term.invariant.0),
  λ whole nesting seen h.
      let e = c.args.self.now in
      let P = program_of e in
      let env = plains_of c.args.locals.now in
      let terms = c.args.terms.now in
      let i = c.loop-term.term-index in
      let x = c.term-item.result in
      let so_far = c.loop-term.invariant.1 whole nesting seen h in
      let le : c.loop-term.fuel ≤ nesting = omega (arith, c.loop-term.invariant.0, h) in
      let vs = plains_of c.loop-term.values.items in
      let next : drop i terms ≡ x ∷ drop (i + 1) terms = drop_more terms i _ c.loop-term-test.true ∙ ap (λ x. x ∷ drop (i + 1) terms) (sym c.term-item.is) in
      let step = so_far.1 ∙ ap (λ xs. ahead vs (eval_all P nesting (in_a_row (map (expression e) xs)) env c.loop-term.fuel so_far.0)) next in
      let value = c.in_ok-value.ensures.value whole nesting so_far.0 le in
      let more = sym (ap plains_of c.in_ok-push.ensures.items ∙ joined c.loop-term.values.items (c.in_ok-value.value ∷ [])) in (
        value.0,
        step ∙ one_ahead P nesting env vs (expression e x) (map (expression e) (drop (i + 1) terms)) c.loop-term.fuel so_far.0 _ c.eval.new.fuel value.0 value.1
            ∙ ap (λ vs. ahead vs (eval_all P nesting (in_a_row (map (expression e) (drop (i + 1) terms))) env c.eval.new.fuel value.0)) more,
      ),
)

pub row-returns-clause-value : goal.row-returns-clause-value
row-returns-clause-value t c = λ whole nesting seen h.
    let e = c.args.self.now in
    let T = types_of e.program.now in
    let P = program_of e in
    let env = plains_of c.args.locals.now in
    let k = c.args.fuel.now in
    let so_far = c.loop-term.invariant.1 whole nesting seen h in
    let vs = plains_of c.loop-term.values.items in (
      so_far.0,
      so_far.1 ∙ ap (λ xs. ahead vs (eval_all P nesting (in_a_row (map (expression e) xs)) env c.loop-term.fuel so_far.0)) (none_left c.args.terms.now c.loop-term.term-index
          c.loop-term-test.false)
          ∙ ap (λ vs. Gives vs c.loop-term.fuel so_far.0) (join_none vs),
    )

pub both-eval-requires-2 : goal.both-eval-requires-2
both-eval-requires-2 t c = let less = less_fuel c.args.self.now.functions.now c.eval.new.fuel c.args.fuel.now c.eval.ensures.fuel in (omega (arith, less, c.decreases), tt)

pub bound_in-eval-requires-2 : goal.bound_in-eval-requires-2
bound_in-eval-requires-2 t c = let less = less_fuel c.args.self.now.functions.now c.eval.new.fuel c.args.fuel.now c.eval.ensures.fuel in (omega (arith, less, c.decreases), tt)

pub choice-eval-requires-then-bool_in : goal.choice-eval-requires-then-bool_in
choice-eval-requires-then-bool_in t c = let less = less_fuel c.args.self.now.functions.now c.eval.new.fuel c.args.fuel.now c.eval.ensures.fuel in (omega (arith, less, c.decreases), tt)

pub choice-eval-requires-else-bool_in : goal.choice-eval-requires-else-bool_in
choice-eval-requires-else-bool_in t c = let less = less_fuel c.args.self.now.functions.now c.eval.new.fuel c.args.fuel.now c.eval.ensures.fuel in (omega (arith, less, c.decreases), tt)

pub arm-eval-requires-in-Some : goal.arm-eval-requires-in-Some
arm-eval-requires-in-Some t c =
    let arms = c.args.arms.now in
    let arm = c.in-Some.arm.now in
    let lookup = c.in-Some.ensures.lookup in
    let less = less_fuel c.args.self.now.functions.now c.eval.new.fuel c.args.fuel.now c.eval.ensures.fuel in
    let least = subst (λ a. size-Term a ≤ most size-Term arms) (sym lookup.1) (at_most size-Term arms c.tag_in-tag.result arm lookup.3.0) in
    (omega (arith, less, least, c.decreases), tt)

pub row-eval-requires : goal.row-eval-requires
row-eval-requires t c =
    let terms = c.args.terms.now in
    let less = less_fuel c.args.self.now.functions.now c.loop-term.fuel c.args.fuel.now c.loop-term.invariant.0 in
    let least = subst (λ a. size-Term a ≤ most size-Term terms) (sym c.term-item.is) (at_most size-Term terms c.loop-term.term-index _ c.loop-term-test.true) in
    (omega (arith, less, least, c.decreases), tt)

pub call-eval-requires : goal.call-eval-requires
call-eval-requires t c =
    let functions = c.args.self.now.functions.now in
    let f = c.args.function.0 in
    let g = c.in-Some-get.function.now in
    let lookup = c.in-Some-get.ensures.lookup in
    let one : suc c.in-Some.left ≡ c.args.fuel.now = omega (arith, c.in-Some.ensures) in
    (omega (arith, next_call functions c.in-Some.left c.args.fuel.now f g one (found functions f g lookup.3.0 lookup.1), c.decreases), tt)

-- the fuel that a part leaves
pub eval-returns-in-Fst-clause-fuel : goal.eval-returns-in-Fst-clause-fuel
eval-returns-in-Fst-clause-fuel t c = c.eval.ensures.fuel

pub eval-returns-in-Snd-clause-fuel : goal.eval-returns-in-Snd-clause-fuel
eval-returns-in-Snd-clause-fuel t c = c.eval-in-Snd.ensures.fuel

pub eval-returns-in-Not-clause-fuel : goal.eval-returns-in-Not-clause-fuel
eval-returns-in-Not-clause-fuel t c = c.eval-in-Not.ensures.fuel

pub eval-returns-in-Len-clause-fuel : goal.eval-returns-in-Len-clause-fuel
eval-returns-in-Len-clause-fuel t c = c.eval-in-Len.ensures.fuel

pub eval-returns-in-Auth-clause-fuel : goal.eval-returns-in-Auth-clause-fuel
eval-returns-in-Auth-clause-fuel t c = c.eval-in-Auth.ensures.fuel

pub eval-returns-in-Unauth-clause-fuel : goal.eval-returns-in-Unauth-clause-fuel
eval-returns-in-Unauth-clause-fuel t c = c.eval-in-Unauth.ensures.fuel

pub eval-returns-in-Pair-clause-fuel : goal.eval-returns-in-Pair-clause-fuel
eval-returns-in-Pair-clause-fuel t c = c.both-operands.ensures.fuel

pub eval-returns-in-Arith-clause-fuel : goal.eval-returns-in-Arith-clause-fuel
eval-returns-in-Arith-clause-fuel t c = c.both.ensures.fuel

pub eval-returns-in-Compare-clause-fuel : goal.eval-returns-in-Compare-clause-fuel
eval-returns-in-Compare-clause-fuel t c = c.both-in-Compare.ensures.fuel

pub eval-returns-in-TextCompare-clause-fuel : goal.eval-returns-in-TextCompare-clause-fuel
eval-returns-in-TextCompare-clause-fuel t c = c.both-in-TextCompare.ensures.fuel

pub eval-returns-in-Cat-clause-fuel : goal.eval-returns-in-Cat-clause-fuel
eval-returns-in-Cat-clause-fuel t c = c.both-operands-in-Cat.ensures.fuel

pub eval-returns-in-Constructor-clause-fuel : goal.eval-returns-in-Constructor-clause-fuel
eval-returns-in-Constructor-clause-fuel t c = c.row-fields.ensures.fuel

pub eval-returns-in-Let-clause-fuel : goal.eval-returns-in-Let-clause-fuel
eval-returns-in-Let-clause-fuel t c = c.bound_in.ensures.fuel

pub eval-returns-in-If-clause-fuel : goal.eval-returns-in-If-clause-fuel
eval-returns-in-If-clause-fuel t c = c.choice.ensures.fuel

pub eval-returns-in-Match-clause-fuel : goal.eval-returns-in-Match-clause-fuel
eval-returns-in-Match-clause-fuel t c = c.arm.ensures.fuel

pub eval-returns-in-Call-clause-fuel : goal.eval-returns-in-Call-clause-fuel
eval-returns-in-Call-clause-fuel t c = omega (arith, c.row-arguments.ensures.fuel, c.call.ensures.fuel)

pub eval-returns-in-Operate-clause-fuel : goal.eval-returns-in-Operate-clause-fuel
eval-returns-in-Operate-clause-fuel t c = c.row-operands.ensures.fuel

pub both-returns-in_err-x-clause-fuel : goal.both-returns-in_err-x-clause-fuel
both-returns-in_err-x-clause-fuel t c = c.eval.ensures.fuel

pub both-returns-in_err-y-clause-fuel : goal.both-returns-in_err-y-clause-fuel
both-returns-in_err-y-clause-fuel t c = omega (arith, c.eval.ensures.fuel, c.eval-2.ensures.fuel)

pub both-returns-clause-fuel : goal.both-returns-clause-fuel
both-returns-clause-fuel t c = omega (arith, c.eval.ensures.fuel, c.eval-2.ensures.fuel)

pub bound_in-returns-in_err-value-clause-fuel : goal.bound_in-returns-in_err-value-clause-fuel
bound_in-returns-in_err-value-clause-fuel t c = c.eval.ensures.fuel

pub bound_in-returns-in_err-inner-clause-fuel : goal.bound_in-returns-in_err-inner-clause-fuel
bound_in-returns-in_err-inner-clause-fuel t c = c.eval.ensures.fuel

pub bound_in-returns-clause-fuel : goal.bound_in-returns-clause-fuel
bound_in-returns-clause-fuel t c = omega (arith, c.eval.ensures.fuel, c.eval-2.ensures.fuel)

pub choice-returns-in_err-test-clause-fuel : goal.choice-returns-in_err-test-clause-fuel
choice-returns-in_err-test-clause-fuel t c = c.eval.ensures.fuel

pub choice-returns-then-bool_in-clause-fuel : goal.choice-returns-then-bool_in-clause-fuel
choice-returns-then-bool_in-clause-fuel t c = omega (arith, c.eval.ensures.fuel, c.eval-then-bool_in.ensures.fuel)

pub choice-returns-clause-fuel : goal.choice-returns-clause-fuel
choice-returns-clause-fuel t c = omega (arith, c.eval.ensures.fuel, c.eval-else-bool_in.ensures.fuel)

pub arm-returns-in_err-subject-clause-fuel : goal.arm-returns-in_err-subject-clause-fuel
arm-returns-in_err-subject-clause-fuel t c = c.eval.ensures.fuel

pub arm-returns-in_err-inner-clause-fuel : goal.arm-returns-in_err-inner-clause-fuel
arm-returns-in_err-inner-clause-fuel t c = c.eval.ensures.fuel

pub arm-returns-in-Some-clause-fuel : goal.arm-returns-in-Some-clause-fuel
arm-returns-in-Some-clause-fuel t c = omega (arith, c.eval.ensures.fuel, c.eval-in-Some.ensures.fuel)

pub arm-returns-clause-fuel : goal.arm-returns-clause-fuel
arm-returns-clause-fuel t c = c.eval.ensures.fuel

pub row-returns-in_err-value-clause-fuel : goal.row-returns-in_err-value-clause-fuel
row-returns-in_err-value-clause-fuel t c = omega (arith, c.loop-term.invariant.0, c.eval.ensures.fuel)

pub row-returns-in_err-push-clause-fuel : goal.row-returns-in_err-push-clause-fuel
row-returns-in_err-push-clause-fuel t c = omega (arith, c.loop-term.invariant.0, c.eval.ensures.fuel)

pub row-returns-clause-fuel : goal.row-returns-clause-fuel
row-returns-clause-fuel t c = c.loop-term.invariant.0

-- the first part is smaller
pub both-eval-requires : goal.both-eval-requires
both-eval-requires t c = (omega (arith, c.decreases), tt)

pub bound_in-eval-requires : goal.bound_in-eval-requires
bound_in-eval-requires t c = (omega (arith, c.decreases), tt)

pub choice-eval-requires : goal.choice-eval-requires
choice-eval-requires t c = (omega (arith, c.decreases), tt)

pub arm-eval-requires : goal.arm-eval-requires
arm-eval-requires t c = (omega (arith, c.decreases), tt)
