use Rattle.std.proofs.Common.{◌≡◌, ◌∙◌, ◌+◌, ◌-◌, ℕ, List, Result, Err, ap, sym, subst, drop, slice_index_or, arith}
use Rattle.std.proofs.Math.Numerals.{suc-eq-add-one}
use Rattle.std.proofs.lemmas.List.{drop_all, drop_more}
use Rattle.std.proofs.lemmas.Result.{err_from_is_err_and}
use Rattle.core_terms.specs.Programs.{constructor_names, meaning, types_of}
use Rattle.core_terms.specs.ProgramTrees.{types_at}
use Rattle.core_terms.specs.Spelling.{spelling, spellings}
use Rattle.core_terms.specs.TypeTables.{type_at}
use Rattle.core_terms.specs.Types.{UnitTy, BoolTy, IntTy, TextTy, PairTy, NamedTy, AuthTy, VecTy, item_types}
use Rattle.core_terms.specs.declared.types.TyId.{TyId}
use Rattle.lexemes.specs.declared.token.Mark.TheVariants.{RightParenthesis, RightBracket}
use Rattle.lexemes.specs.Readings.{SyntaxFault}
use Rattle.printed_syntax.specs.Literals.{LiteralReading, array_literal, constructor_literal, fields_literal, mismatch, more_values, unit_literal}
use Rattle.printed_syntax.specs.LiteralSteps.{ReadsPart, literal_on, spelled, values_from}
use Rattle.lexemes.specs.Remaining.{remaining}
use Rattle.lexemes.specs.TokenViews.{token_view}
use Rattle.lexemes.specs.Tokens.{Next, UpperToken}
use Rattle.printed_syntax.proofs.LiteralSpellings.{at_level, constructor_spelled, no_constructor_spelled, fields_read, last_read, value_read, no_comma, no_value, one_left, unit_spelled}
use Rattle.printed_syntax.proofs.literal.+value.Goals as goal

pub value-returns-in-BoolForm : goal.value-returns-in-BoolForm
value-returns-in-BoolForm t c =
    let ty = type_at (types_of c.args.program.now) c.args.ty in
    subst (λ reading. ReadsPart (λ (_ : Unit {0}). c.bool.new.bytes.items) (spelled spelling c.args.bytes.now.items reading) c.bool.result (remaining c.bool.new.parser))
    (at_level c.args.program.now c.args.levels ty BoolTy (remaining c.args.parser.now) c.if-levels-eq0.false c.in-BoolForm.ensures.form) c.bool.ensures

pub value-returns-in-IntForm : goal.value-returns-in-IntForm
value-returns-in-IntForm t c =
    let ty = type_at (types_of c.args.program.now) c.args.ty in
    subst (λ reading. ReadsPart (λ (_ : Unit {0}). c.int.new.bytes.items) (spelled spelling c.args.bytes.now.items reading) c.int.result (remaining c.int.new.parser))
    (at_level c.args.program.now c.args.levels ty IntTy (remaining c.args.parser.now) c.if-levels-eq0.false c.in-IntForm.ensures.form) c.int.ensures

pub value-returns-in-TextForm : goal.value-returns-in-TextForm
value-returns-in-TextForm t c =
    let ty = type_at (types_of c.args.program.now) c.args.ty in
    subst (λ reading. ReadsPart (λ (_ : Unit {0}). c.text.new.bytes.items) (spelled spelling c.args.bytes.now.items reading) c.text.result (remaining c.text.new.parser))
    (at_level c.args.program.now c.args.levels ty TextTy (remaining c.args.parser.now) c.if-levels-eq0.false c.in-TextForm.ensures.form) c.text.ensures

pub value-returns-in-UnitForm : goal.value-returns-in-UnitForm
value-returns-in-UnitForm t c =
    let ty = type_at (types_of c.args.program.now) c.args.ty in
    subst (λ reading. ReadsPart (λ (_ : Unit {0}). c.args.bytes.now.items) (spelled spelling c.args.bytes.now.items reading) c.unit.result (remaining c.unit.new.parser))
    (at_level c.args.program.now c.args.levels ty UnitTy (remaining c.args.parser.now) c.if-levels-eq0.false c.in-UnitForm.ensures.form)
    (unit_spelled c.args.bytes.now.items (unit_literal (remaining c.args.parser.now)) c.unit.result (remaining c.unit.new.parser) c.unit.ensures)

pub value-returns-in-AuthForm : goal.value-returns-in-AuthForm
value-returns-in-AuthForm t c =
    let ty = type_at (types_of c.args.program.now) c.args.ty in
    subst (λ reading. ReadsPart (λ (_ : Unit {0}). c.args.bytes.now.items) (spelled spelling c.args.bytes.now.items reading) c.no_value.result (remaining c.no_value.new.parser))
    (at_level c.args.program.now c.args.levels ty (AuthTy (type_at (types_of c.args.program.now) c.in-AuthForm.field-0)) (remaining c.args.parser.now) c.if-levels-eq0.false c.in-AuthForm.ensures.form)
    (unit_spelled c.args.bytes.now.items (mismatch (remaining c.args.parser.now)) c.no_value.result (remaining c.no_value.new.parser) c.no_value.ensures)

pub value-returns-in-PairForm : goal.value-returns-in-PairForm
value-returns-in-PairForm t c =
    let ty = type_at (types_of c.args.program.now) c.args.ty in
    subst (λ reading. ReadsPart (λ (_ : Unit {0}). c.pair.new.bytes.items) (spelled spelling c.args.bytes.now.items reading) c.pair.result (remaining c.pair.new.parser))
    (at_level c.args.program.now c.args.levels ty (PairTy (type_at (types_of c.args.program.now) c.in-PairForm.first) (type_at (types_of c.args.program.now) c.in-PairForm.second)) (remaining c.args.parser.now) c.if-levels-eq0.false c.in-PairForm.ensures.form) c.pair.ensures

pub value-returns-in-NamedForm : goal.value-returns-in-NamedForm
value-returns-in-NamedForm t c =
    let ty = type_at (types_of c.args.program.now) c.args.ty in
    subst (λ reading. ReadsPart (λ (_ : Unit {0}). c.constructor.new.bytes.items) (spelled spelling c.args.bytes.now.items reading) c.constructor.result (remaining c.constructor.new.parser))
    (at_level c.args.program.now c.args.levels ty (NamedTy c.in-NamedForm.named.0) (remaining c.args.parser.now) c.if-levels-eq0.false c.in-NamedForm.ensures.form) c.constructor.ensures

pub value-returns-in-VecForm : goal.value-returns-in-VecForm
value-returns-in-VecForm t c =
    let ty = type_at (types_of c.args.program.now) c.args.ty in
    subst (λ reading. ReadsPart (λ (_ : Unit {0}). c.array.new.bytes.items) (spelled spelling c.args.bytes.now.items reading) c.array.result (remaining c.array.new.parser))
    (at_level c.args.program.now c.args.levels ty (VecTy c.in-VecForm.count (type_at (types_of c.args.program.now) c.in-VecForm.item)) (remaining c.args.parser.now) c.if-levels-eq0.false c.in-VecForm.ensures.form) c.array.ensures

pub constructor-returns-in_default-constructor : goal.constructor-returns-in_default-constructor
constructor-returns-in_default-constructor t c =
    let program = c.args.program.now in
    let one = literal_on program c.args.levels in
    let names = constructor_names program.types.named.items in
    let head =
    c.in_ok-at.ensures ∙ ap (λ token. Next c.in_ok-at.field-0.at (token_view token) (remaining c.token.new.self)) c.in-Upper.is
    ∙ ap (λ bytes. Next c.in_ok-at.field-0.at (UpperToken bytes) (remaining c.token.new.self)) (sym c.as_bytes.ensures.bytes) in
    ap (λ tokens. spelled spelling c.args.bytes.now.items (constructor_literal (meaning program).types names one c.args.named.0 tokens)) head
    ∙ no_constructor_spelled one (meaning program).types names c.args.named.0 c.args.bytes.now.items c.as_bytes.result.now c.in_ok-at.field-0.at (remaining c.token.new.self) c.in_default-constructor.ensures.tag

pub constructor-returns : goal.constructor-returns
constructor-returns t c =
    let program = c.args.program.now in
    let one = literal_on program c.args.levels in
    let names = constructor_names program.types.named.items in
    let ts = types_at (types_of program) c.in-Some.types.now in
    let rest = remaining c.token.new.self in
    let head =
    c.in_ok-at.ensures ∙ ap (λ token. Next c.in_ok-at.field-0.at (token_view token) rest) c.in-Upper.is
    ∙ ap (λ bytes. Next c.in_ok-at.field-0.at (UpperToken bytes) rest) (sym c.as_bytes.ensures.bytes) in
    let read =
    ap (λ tokens. spelled spelling c.args.bytes.now.items (constructor_literal (meaning program).types names one c.args.named.0 tokens)) head
    ∙ constructor_spelled one (meaning program).types names c.args.named.0 c.in-Some.tag.0 ts c.args.bytes.now.items c.as_bytes.result.now c.in_ok-at.field-0.at rest c.in-Some.ensures.tag c.in-Some.ensures.fields
    ∙ ap (λ bytes. spelled spellings bytes (fields_literal one ts rest)) (sym c.in_ok-push.ensures.items) in
    subst (λ (reading : LiteralReading (List ℕ)). ReadsPart (λ (_ : Unit {0}). c.fields.new.bytes.items) reading c.fields.result (remaining c.fields.new.parser)) (sym read) c.fields.ensures

pub fields-returns : goal.fields-returns
fields-returns t c =
    let program = c.args.program.now in
    let one = literal_on program c.args.levels in
    let tokens = remaining c.args.parser.now in
    let read =
    ap (λ types. spelled spellings c.args.bytes.now.items (fields_literal one (types_at (types_of program) types) tokens)) c.in-Some.ensures.cases.0
    ∙ fields_read one (type_at (types_of program) c.in-Some.first.now) (types_at (types_of program) c.in-Some.others.now) c.args.bytes.now.items c.value.new.bytes.items tokens (remaining c.mark.new.parser) (remaining c.value.new.parser)
    c.in_ok-mark.ensures c.in_ok-value.ensures in
    subst (λ (reading : LiteralReading (List ℕ)). ReadsPart (λ (_ : Unit {0}). c.other_fields.new.bytes.items) reading c.other_fields.result (remaining c.other_fields.new.parser)) (sym read) c.other_fields.ensures

pub other_fields-returns-in_err-mark : goal.other_fields-returns-in_err-mark
other_fields-returns-in_err-mark t c =
    let program = c.args.program.now in
    let one = literal_on program c.args.levels in
    let types = c.args.types.now in
    let i = c.loop-ty.ty-index in
    let bytes = c.loop-ty.bytes.items in
    let tokens = remaining c.loop-ty.parser in
    let rest = remaining c.mark.new.parser in
    let fault = c.in_err-mark.field-0.0 in
    let none : TyId = record { 0 = 0 } in
    let ts = types_at (types_of program) (drop (i + 1) types) in
    let read = c.loop-ty.invariant ∙ ap (λ left. spelled spellings bytes (more_values RightParenthesis one (types_at (types_of program) left) tokens)) (drop_more types i none c.loop-ty-test.true) in
    let p = err_from_is_err_and c.from_residual.result c.from_residual.ensures.1 in
    subst (λ (result : Result (Unit {0}) SyntaxFault). ReadsPart (λ (_ : Unit {0}). bytes) (spelled spellings c.args.bytes.now.items (more_values RightParenthesis one (types_at (types_of program) types) (remaining c.args.parser.now))) result rest)
    (sym (p.1 ∙ ap Err p.2))
    (subst (λ (reading : LiteralReading (List ℕ)). ReadsPart (λ (_ : Unit {0}). bytes) reading (Err fault) rest) (sym read)
    (no_comma RightParenthesis one 1 (type_at (types_of program) (slice_index_or types i none)) ts bytes bytes tokens rest fault c.in_err-mark.ensures))

pub other_fields-returns-in_err-value : goal.other_fields-returns-in_err-value
other_fields-returns-in_err-value t c =
    let program = c.args.program.now in
    let one = literal_on program c.args.levels in
    let types = c.args.types.now in
    let i = c.loop-ty.ty-index in
    let bytes = c.loop-ty.bytes.items in
    let after = c.value.new.bytes.items in
    let tokens = remaining c.loop-ty.parser in
    let rest = remaining c.value.new.parser in
    let fault = c.in_err-value.field-0.0 in
    let ts = types_at (types_of program) (drop (i + 1) types) in
    let read = c.loop-ty.invariant ∙ ap (λ left. spelled spellings bytes (more_values RightParenthesis one (types_at (types_of program) left) tokens)) (drop_more types i _ c.loop-ty-test.true) in
    let p = err_from_is_err_and c.from_residual-in_err-value.result c.from_residual-in_err-value.ensures.1 in
    subst (λ (result : Result (Unit {0}) SyntaxFault). ReadsPart (λ (_ : Unit {0}). after) (spelled spellings c.args.bytes.now.items (more_values RightParenthesis one (types_at (types_of program) types) (remaining c.args.parser.now))) result rest)
    (sym (p.1 ∙ ap Err p.2))
    (subst (λ (reading : LiteralReading (List ℕ)). ReadsPart (λ (_ : Unit {0}). after) reading (Err fault) rest) (sym read)
    (no_value RightParenthesis one 1 _ ts bytes after tokens (remaining c.mark.new.parser) rest fault c.in_ok-mark.ensures c.in_err-value.ensures))

pub other_fields-returns : goal.other_fields-returns
other_fields-returns t c =
    let program = c.args.program.now in
    let one = literal_on program c.args.levels in
    let types = c.args.types.now in
    let read =
    c.loop-ty.invariant
    ∙ ap (λ left. spelled spellings c.loop-ty.bytes.items (more_values RightParenthesis one (types_at (types_of program) left) (remaining c.loop-ty.parser))) (drop_all c.loop-ty.ty-index types (omega (arith, c.loop-ty-test.false))) in
    subst (λ (reading : LiteralReading (List ℕ)). ReadsPart (λ (_ : Unit {0}). c.loop-ty.bytes.items) reading c.mark-2.result (remaining c.mark-2.new.parser)) (sym read)
    (last_read RightParenthesis one 1 c.loop-ty.bytes.items (remaining c.loop-ty.parser) (remaining c.mark-2.new.parser) c.mark-2.result c.mark-2.ensures)

pub other_fields-loop-ty-preserved : goal.other_fields-loop-ty-preserved
other_fields-loop-ty-preserved t c =
    let program = c.args.program.now in
    let one = literal_on program c.args.levels in
    let types = c.args.types.now in
    let i = c.loop-ty.ty-index in
    c.loop-ty.invariant
    ∙ ap (λ left. spelled spellings c.loop-ty.bytes.items (more_values RightParenthesis one (types_at (types_of program) left) (remaining c.loop-ty.parser))) (drop_more types i _ c.loop-ty-test.true)
    ∙ value_read RightParenthesis one 1 _ (types_at (types_of program) (drop (i + 1) types)) c.loop-ty.bytes.items c.value.new.bytes.items (remaining c.loop-ty.parser) (remaining c.mark.new.parser) (remaining c.value.new.parser)
    c.in_ok-mark.ensures c.in_ok-value.ensures

pub array-returns-in_err-comma : goal.array-returns-in_err-comma
array-returns-in_err-comma t c =
    let one = literal_on c.args.program.now c.args.levels in
    let item = type_at (types_of c.args.program.now) c.args.item in
    let i = c.loop-index.index in
    let bytes = c.loop-index.bytes.items in
    let tokens = remaining c.loop-index.parser in
    let rest = remaining c.comma.new.parser in
    let fault = c.in_err-comma.field-0.0 in
    let read = c.loop-index.invariant ∙ ap (λ ts. spelled spellings bytes (values_from i RightBracket one ts tokens)) (one_left c.args.count i item c.loop-index-test.true) in
    let p = err_from_is_err_and c.from_residual-in_err-comma.result c.from_residual-in_err-comma.ensures.1 in
    subst (λ (result : Result (Unit {0}) SyntaxFault). ReadsPart (λ (_ : Unit {0}). bytes) (spelled spelling c.args.bytes.now.items (array_literal one c.args.count item (remaining c.args.parser.now))) result rest)
    (sym (p.1 ∙ ap Err p.2))
    (subst (λ (reading : LiteralReading (List ℕ)). ReadsPart (λ (_ : Unit {0}). bytes) reading (Err fault) rest) (sym read)
    (no_comma RightBracket one i item (item_types (c.args.count - (i + 1)) item) bytes bytes tokens rest fault c.in_err-comma.ensures))

pub array-returns-in_err-value : goal.array-returns-in_err-value
array-returns-in_err-value t c =
    let one = literal_on c.args.program.now c.args.levels in
    let item = type_at (types_of c.args.program.now) c.args.item in
    let i = c.loop-index.index in
    let bytes = c.loop-index.bytes.items in
    let after = c.value.new.bytes.items in
    let tokens = remaining c.loop-index.parser in
    let rest = remaining c.value.new.parser in
    let fault = c.in_err-value.field-0.0 in
    let read = c.loop-index.invariant ∙ ap (λ ts. spelled spellings bytes (values_from i RightBracket one ts tokens)) (one_left c.args.count i item c.loop-index-test.true) in
    let p = err_from_is_err_and c.from_residual-in_err-value.result c.from_residual-in_err-value.ensures.1 in
    subst (λ (result : Result (Unit {0}) SyntaxFault). ReadsPart (λ (_ : Unit {0}). after) (spelled spelling c.args.bytes.now.items (array_literal one c.args.count item (remaining c.args.parser.now))) result rest)
    (sym (p.1 ∙ ap Err p.2))
    (subst (λ (reading : LiteralReading (List ℕ)). ReadsPart (λ (_ : Unit {0}). after) reading (Err fault) rest) (sym read)
    (no_value RightBracket one i item (item_types (c.args.count - (i + 1)) item) bytes after tokens (remaining c.comma.new.parser) rest fault c.in_ok-comma.ensures c.in_err-value.ensures))

pub array-loop-index-preserved : goal.array-loop-index-preserved
array-loop-index-preserved t c =
    let one = literal_on c.args.program.now c.args.levels in
    let item = type_at (types_of c.args.program.now) c.args.item in
    let i = c.loop-index.index in
    let left = item_types (c.args.count - (i + 1)) item in
    let rest = remaining c.value.new.parser in
    c.loop-index.invariant
    ∙ ap (λ ts. spelled spellings c.loop-index.bytes.items (values_from i RightBracket one ts (remaining c.loop-index.parser))) (one_left c.args.count i item c.loop-index-test.true)
    ∙ value_read RightBracket one i item left c.loop-index.bytes.items c.value.new.bytes.items (remaining c.loop-index.parser) (remaining c.comma.new.parser) rest
    c.in_ok-comma.ensures c.in_ok-value.ensures
    ∙ ap (λ n. spelled spellings c.value.new.bytes.items (values_from n RightBracket one left rest)) (suc-eq-add-one i)

pub array-returns : goal.array-returns
array-returns t c =
    let one = literal_on c.args.program.now c.args.levels in
    let item = type_at (types_of c.args.program.now) c.args.item in
    let i = c.loop-index.index in
    let none : c.args.count - i ≡ 0 = omega (arith, c.loop-index-test.false) in
    let read = c.loop-index.invariant ∙ ap (λ n. spelled spellings c.loop-index.bytes.items (values_from i RightBracket one (item_types n item) (remaining c.loop-index.parser))) none in
    subst (λ (reading : LiteralReading (List ℕ)). ReadsPart (λ (_ : Unit {0}). c.loop-index.bytes.items) reading c.mark-2.result (remaining c.mark-2.new.parser)) (sym read)
    (last_read RightBracket one i c.loop-index.bytes.items (remaining c.loop-index.parser) (remaining c.mark-2.new.parser) c.mark-2.result c.mark-2.ensures)
