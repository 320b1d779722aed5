use Rattle.std.proofs.Common.{subst, sym, ap, ◌∙◌, append-nil, ◌++◌, ◌∷◌, [], map, slice_get, unwrap_or, OnOk, ◌≡◌}
use Rattle.core_terms.specs.Programs.{meaning, types_of}
use Rattle.core_terms.specs.ProgramTrees.{arms_in_a_row, expression_of, operation_of}
use Rattle.core_terms.proofs.TermViews.{expression-Constructor, expression-Call, expression-Operate}
use Rattle.code_gen.specs.CodeTrees.{all_of}
use Rattle.core_terms.specs.InstructionViews.{instruction_of, instructions_of}
use Rattle.core_terms.specs.Instructions as instruction
use Rattle.core_terms.specs.GeneratedCode.{arm_codes, code_of, operation_code}
use Rattle.code_gen.proofs.Rows.{all_before, one_more, row_then}
use Rattle.code_gen.proofs.ArmRows.{arms_more}
use Rattle.code_gen.proofs.generate.+terms.Goals as goal

pub emit-returns-in-Constructor : goal.emit-returns-in-Constructor
emit-returns-in-Constructor n c =
    let T = types_of c.args.program.now in
    let types = (meaning c.args.program.now).types in
    let i = instruction.Make c.in-Constructor.named.0 c.in-Constructor.tag.0 in
    let old = instructions_of T c.args.code.now.items in
    let new = instructions_of T c.emit_all.new.code.items in
    let row : OnOk c.emit_all.result (new ≡ old ++ (all_of types (map (expression_of T) c.in-Constructor.fields.items) ++ i ∷ [])) =
    subst (λ l. OnOk c.emit_all.result (new ≡ old ++ (all_of types (map (expression_of T) l) ++ i ∷ []))) c.deref-in-Constructor.ensures.value c.emit_all.ensures in
    row_then c.emit_all.result types (map (expression_of T) c.in-Constructor.fields.items) i old new (code_of types (expression_of T c.args.term.now))
    (ap (code_of types) (sym (expression-Constructor T c.in-Constructor.named c.in-Constructor.tag c.in-Constructor.fields) ∙ ap (expression_of T) (sym c.in-Constructor.is))) row

pub emit-returns-in-Call : goal.emit-returns-in-Call
emit-returns-in-Call n c =
    let T = types_of c.args.program.now in
    let types = (meaning c.args.program.now).types in
    let i = instruction.Call c.in-Call.function.0 in
    let old = instructions_of T c.args.code.now.items in
    let new = instructions_of T c.emit_all-in-Call.new.code.items in
    let row : OnOk c.emit_all-in-Call.result (new ≡ old ++ (all_of types (map (expression_of T) c.in-Call.arguments.items) ++ i ∷ [])) =
    subst (λ l. OnOk c.emit_all-in-Call.result (new ≡ old ++ (all_of types (map (expression_of T) l) ++ i ∷ []))) c.deref-in-Call.ensures.value c.emit_all-in-Call.ensures in
    row_then c.emit_all-in-Call.result types (map (expression_of T) c.in-Call.arguments.items) i old new (code_of types (expression_of T c.args.term.now))
    (ap (code_of types) (sym (expression-Call T c.in-Call.function c.in-Call.arguments) ∙ ap (expression_of T) (sym c.in-Call.is))) row

pub emit-returns-in-Operate : goal.emit-returns-in-Operate
emit-returns-in-Operate n c =
    let T = types_of c.args.program.now in
    let types = (meaning c.args.program.now).types in
    let i = operation_code (operation_of T c.in-Operate.operation) in
    let old = instructions_of T c.args.code.now.items in
    let new = instructions_of T c.emit_all-in-Operate.new.code.items in
    let row : OnOk c.emit_all-in-Operate.result (new ≡ old ++ (all_of types (map (expression_of T) c.in-Operate.operands.items) ++ i ∷ [])) =
    subst (λ i. OnOk c.emit_all-in-Operate.result (new ≡ old ++ (all_of types (map (expression_of T) c.in-Operate.operands.items) ++ i ∷ []))) (c.instruction_for.ensures T)
    (subst (λ l. OnOk c.emit_all-in-Operate.result (new ≡ old ++ (all_of types (map (expression_of T) l) ++ instruction_of T c.instruction_for.result ∷ []))) c.deref-in-Operate.ensures.value c.emit_all-in-Operate.ensures) in
    row_then c.emit_all-in-Operate.result types (map (expression_of T) c.in-Operate.operands.items) i old new (code_of types (expression_of T c.args.term.now))
    (ap (code_of types) (sym (expression-Operate T c.in-Operate.operation c.in-Operate.operands) ∙ ap (expression_of T) (sym c.in-Operate.is))) row

pub emit_row-loop-term-init : goal.emit_row-loop-term-init
emit_row-loop-term-init n c = sym (append-nil (instructions_of (types_of c.args.program.now) c.args.code.now.items))

pub emit_row-loop-term-preserved : goal.emit_row-loop-term-preserved
emit_row-loop-term-preserved n c =
    let T = types_of c.args.program.now in
    let types = (meaning c.args.program.now).types in
    let emitted = subst (λ t. instructions_of T c.emit.new.code.items ≡ instructions_of T c.loop-term.code.items ++ code_of types (expression_of T t)) c.term-item.is c.in_ok-emit.ensures in
    one_more types (expression_of T) c.args.terms.now c.loop-term.term-index _ (instructions_of T c.args.code.now.items) (instructions_of T c.loop-term.code.items)
    (instructions_of T c.emit.new.code.items)
    c.loop-term-test.true c.loop-term.invariant emitted

pub emit_row-returns : goal.emit_row-returns
emit_row-returns n c =
    let T = types_of c.args.program.now in
    c.loop-term.invariant ∙ ap (λ l. instructions_of T c.args.code.now.items ++ all_of (meaning c.args.program.now).types (map (expression_of T) l))
    (all_before c.args.terms.now c.loop-term.term-index c.loop-term-test.false)

pub arm_codes-loop-tag-preserved : goal.arm_codes-loop-tag-preserved
arm_codes-loop-tag-preserved n c =
    let T = types_of c.args.program.now in
    arms_more (meaning c.args.program.now).types (expression_of T) (λ v. instructions_of T v.items) c.args.named.0 c.args.arms.now c.loop-tag.tag _ c.index-arms-tag.result
    c.loop-tag.codes.items c.push.new.self.items c.in_ok-code.code c.loop-tag-test.true (sym c.index-arms-tag.is) c.loop-tag.invariant c.in_ok-push.ensures.items c.in_ok-code.ensures

pub arm_codes-returns : goal.arm_codes-returns
arm_codes-returns n c =
    let T = types_of c.args.program.now in
    let types = (meaning c.args.program.now).types in
    c.loop-tag.invariant ∙ ap (λ l. arm_codes types (arms_in_a_row (map (expression_of T) l)) (unwrap_or (slice_get types c.args.named.0) []))
    (all_before c.args.arms.now c.loop-tag.tag c.loop-tag-test.false)
