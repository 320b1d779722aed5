-- The code of a body that is checked in a program without arrays: it names no types but the program's, and each match has an arm.
use Rattle.std.proofs.Common.{◌≡◌, ℕ, zero, suc, ◌<◌, ◌≤◌, Bool, true, false, ◌&&◌, List, [], ◌∷◌, ◌++◌, length, Some, slice_get, unwrap_or, subst, arith}
use Rattle.std.proofs.lemmas.Option.{slice_get_within}
use Rattle.core_terms.specs.ProgramFormats.{arrays_of}
use Rattle.core_terms.specs.declared.term.BinaryOperator.{BinaryOperator}
use Rattle.core_terms.specs.Types.{Ty, Table}
use Rattle.core_terms.specs.Terms.{Arms, Expression, Expressions, Operation}
use Rattle.core_terms.specs.Instructions.{Instruction, Fst, Snd, Pair, Not, Len, Auth, Unauth, Make, Unbind, ArithOp, CompareOp, TextCompareOp, Cat, Call, Bind}
use Rattle.core_terms.specs.GeneratedCode.{arm_codes, code_all, code_of, unbind_code}
use Rattle.auth_syntax.specs.Syntax.{ArmsSyntax, ArrayOperation, ExpSyntax, ExpsSyntax, NameSyntax}
use Rattle.declared_types.specs.Signatures.{Scope, Signature}
use Rattle.auth_types.specs.Bodies.{Local}
use Rattle.auth_types.specs.TypingRules
use Rattle.auth_types.specs.TypingRules.{ElaborateArms, ElaborateEach, Elaborates, Operates, TakesFirst, constructor_fields, with_fields, with_local}
use Rattle.object_meaning.specs.ClosedPrograms.{AreClosed, CodeIsClosed, FieldsAreClosed, IsClosed, IsClosedAt, TableIsClosed}
use Rattle.object_meaning.specs.KindLaws.{AreSomeArms, HasArms, HaveArmsBehind, HaveArmsInRow}
use Rattle.emitted_objects.proofs.ClosedCode.{CodesAreClosed, closed_both, closed_if, closed_last, closed_match, closed_two, closed_unbind}

-- each named type has a constructor
abbrev pub AreFilled : Table → Type 0
AreFilled [] = Unit {0}
AreFilled (rows ∷ types) = (1 ≤ length rows) × AreFilled types

filled_at : (types : Table) (number : ℕ) → AreFilled types → number < length types → 1 ≤ length (unwrap_or (slice_get types number) [])
filled_at [] number h below = absurd (omega (arith, below))
filled_at (rows ∷ types) zero h below = h.0
filled_at (rows ∷ types) (suc number) h below = filled_at types number h.1 (omega (arith, below))

module _ (n : ℕ) where
  fields_at : (types : Table) (number : ℕ) → TableIsClosed n types → FieldsAreClosed n (unwrap_or (slice_get types number) [])
  fields_at [] number h = tt
  fields_at (rows ∷ types) zero h = h.0
  fields_at (rows ∷ types) (suc number) h = fields_at types number h.1

  -- what calls give
  abbrev pub ResultsAreClosed : List Signature → Type 0
  ResultsAreClosed [] = Unit {0}
  ResultsAreClosed (s ∷ signatures) = IsClosed n s.result × ResultsAreClosed signatures

  result_at : (signatures : List Signature) (f : ℕ) (s : Signature) → ResultsAreClosed signatures → slice_get signatures f ≡ Some s → IsClosed n s.result
  result_at [] f s h there = absurd (cc)
  result_at (r ∷ signatures) zero s h there = let same : r ≡ s = cc in subst (λ (s : Signature). IsClosed n s.result) same h.0
  result_at (r ∷ signatures) (suc f) s h there = result_at signatures f s h.1 there

  -- locals, with one more, and with those of a pattern
  abbrev pub LocalsAreClosed : List Local → Type 0
  LocalsAreClosed [] = Unit {0}
  LocalsAreClosed (l ∷ locals) = IsClosed n l.of_type × LocalsAreClosed locals

  local_at : (locals : List Local) (i : ℕ) (l : Local) → LocalsAreClosed locals → slice_get locals i ≡ Some l → IsClosed n l.of_type
  local_at [] i l h there = absurd (cc)
  local_at (k ∷ locals) zero l h there = let same : k ≡ l = cc in subst (λ (l : Local). IsClosed n l.of_type) same h.0
  local_at (k ∷ locals) (suc i) l h there = local_at locals i l h.1 there

  local_pushed : (locals : List Local) (l : Local) → LocalsAreClosed locals → IsClosed n l.of_type → LocalsAreClosed (locals ++ l ∷ [])
  local_pushed [] l h j = (j, tt)
  local_pushed (k ∷ locals) l h j = (h.0, local_pushed locals l h.1 j)

  fields_bound : (locals : List Local) (names : List NameSyntax) (ts : List Ty) → LocalsAreClosed locals → AreClosed n ts → LocalsAreClosed (with_fields locals names ts)
  fields_bound locals [] ts h j = h
  fields_bound locals (name ∷ names) [] h j = h
  fields_bound locals (name ∷ names) (t ∷ ts) h j =
      fields_bound (with_local locals name.name t) names ts (local_pushed locals (record { name = name.name; of_type = t }) h j.0) j.1

-- A scope of a program without arrays: each type that it names is one of the program's, and each named type has a constructor.
pub record IsClosedScope (scope : Scope) : Type 0 where
  pub no_arrays : arrays_of scope.format ≡ false
  pub fields : TableIsClosed (length scope.table) scope.table
  pub filled : AreFilled scope.table
  pub as_many : length scope.constructors ≡ length scope.table
  pub results : ResultsAreClosed (length scope.table) scope.functions

module _ (scope : Scope) (closed : IsClosedScope scope) where
  abbrev count : ℕ
  count = length scope.table

  abbrev code_in : Expression → List Instruction
  code_in x = code_of scope.table x

  abbrev IsClosedCode : List Instruction → Type 0
  IsClosedCode code = CodeIsClosed count code

  -- an expression of a type, expressions in a row, and arms of constructors with these fields
  pub record IsClosedBody (x : Expression) (t : Ty) : Type 0 where
    pub code : CodeIsClosed (length scope.table) (code_of scope.table x)
    pub arms : HasArms x
    pub of_type : IsClosed (length scope.table) t

  record AreClosedInRow (xs : Expressions) : Type 0 where
    code : IsClosedCode (code_all scope.table xs)
    arms : HaveArmsInRow xs

  record AreClosedArms (rows : List (List Ty)) (bodies : Arms) (t : Ty) : Type 0 where
    codes : CodesAreClosed count (arm_codes scope.table bodies rows)
    arms : HaveArmsBehind bodies
    some : 1 ≤ length rows → AreSomeArms bodies
    of_type : 1 ≤ length rows → IsClosed count t

  last : (xs : List Instruction) (i : Instruction) → IsClosedCode xs → IsClosedAt count i → IsClosedCode (xs ++ i ∷ [])
  last = closed_last count

  two : {t u : Ty} (x y : Expression) (i : Instruction) → IsClosedBody x t → IsClosedBody y u → IsClosedAt count i
      → IsClosedCode (code_in x ++ (code_in y ++ i ∷ []))
  two x y i h j k = closed_two count (code_in x) (code_in y) i h.code j.code k

  operated : {operation : BinaryOperator} {t r : Ty} {made : Expression → Expression → Expression} → Operates operation t r made
      → (x y : Expression) → IsClosedBody x t → IsClosedBody y t → IsClosedBody (made x y) r
  operated (TypingRules.Computes op) x y h j = record { code = two x y (ArithOp op) h j tt; arms = (h.arms, j.arms); of_type = tt }
  operated (TypingRules.Compares op) x y h j = record { code = two x y (CompareOp op) h j tt; arms = (h.arms, j.arms); of_type = tt }
  operated (TypingRules.ComparesTexts op) x y h j = record { code = two x y (TextCompareOp op) h j tt; arms = (h.arms, j.arms); of_type = tt }
  operated TypingRules.Joins x y h j = record { code = two x y Cat h j tt; arms = (h.arms, j.arms); of_type = tt }

  -- no operation on arrays is taken
  arrayless : (b c : Bool) → b ≡ false → b && c ≡ true → ⊥
  arrayless true c fails may = cc
  arrayless false c fails may = cc

  none_taken : {operation : ArrayOperation} {t : Ty} {op : Operation} {ts : List Ty} → TakesFirst scope.format operation t op ts → ⊥
  none_taken (TypingRules.Fills may) = arrayless (arrays_of scope.format) _ closed.no_arrays may
  none_taken (TypingRules.Gets may) = arrayless (arrays_of scope.format) _ closed.no_arrays may
  none_taken (TypingRules.Puts may) = arrayless (arrays_of scope.format) _ closed.no_arrays may

  mutual
    pub body_closed : {locals : List Local} {tree : ExpSyntax} {x : Expression} {t : Ty} → Elaborates scope locals tree x t → LocalsAreClosed count locals
        → IsClosedBody x t
    body_closed TypingRules.UnitRule l = record { code = (tt, tt); arms = tt; of_type = tt }
    body_closed TypingRules.BoolRule l = record { code = (tt, tt); arms = tt; of_type = tt }
    body_closed TypingRules.IntRule l = record { code = (tt, tt); arms = tt; of_type = tt }
    body_closed TypingRules.TextRule l = record { code = (tt, tt); arms = tt; of_type = tt }
    body_closed (TypingRules.LocalRule {locals = locals} {i = i} {local = local} named) l =
        record { code = (tt, tt); arms = tt; of_type = local_at count locals i local l named.there }
    body_closed (TypingRules.PairRule {x = x} {y = y} p q) l =
        let h = body_closed p l in
        let j = body_closed q l in
        record { code = two x y Pair h j tt; arms = (h.arms, j.arms); of_type = (h.of_type, j.of_type) }
    body_closed (TypingRules.FstRule {x = x} p) l =
        let h = body_closed p l in record { code = last (code_in x) Fst h.code tt; arms = h.arms; of_type = h.of_type.0 }
    body_closed (TypingRules.SndRule {x = x} p) l =
        let h = body_closed p l in record { code = last (code_in x) Snd h.code tt; arms = h.arms; of_type = h.of_type.1 }
    body_closed (TypingRules.AuthRule {x = x} {t = t} p) l =
        let h = body_closed p l in record { code = last (code_in x) (Auth t) h.code h.of_type; arms = h.arms; of_type = h.of_type }
    body_closed (TypingRules.UnauthRule {x = x} {t = t} p) l =
        let h = body_closed p l in record { code = last (code_in x) (Unauth t) h.code h.of_type; arms = h.arms; of_type = h.of_type }
    body_closed (TypingRules.LenRule {x = x} p) l =
        let h = body_closed p l in record { code = last (code_in x) Len h.code tt; arms = h.arms; of_type = tt }
    body_closed (TypingRules.NotRule {x = x} p) l =
        let h = body_closed p l in record { code = last (code_in x) Not h.code tt; arms = h.arms; of_type = tt }
    body_closed (TypingRules.BinaryRule {x = x} {y = y} op p q) l = operated op x y (body_closed p l) (body_closed q l)
    body_closed (TypingRules.CallRule {xs = xs} {f = f} {signature = signature} named p) l =
        let h = row_closed p l in
        record {
          code = last (code_all scope.table xs) (Call f) h.code tt;
          arms = h.arms;
          of_type = result_at count scope.functions f signature closed.results named.there;
        }
    body_closed (TypingRules.ConstructorRule {xs = xs} {number = number} {tag = tag} named p) l =
        let h = row_closed p l in
        let below : number < count = omega (arith, slice_get_within scope.constructors number named.siblings named.of_type.there, closed.as_many) in
        record { code = last (code_all scope.table xs) (Make number tag) h.code below; arms = h.arms; of_type = below }
    body_closed (TypingRules.OperateRule p takes q) l = absurd (none_taken takes)
    body_closed (TypingRules.LetRule {locals = locals} {name = name} {x = x} {y = y} {a = a} p room q) l =
        let h = body_closed p l in
        let j = body_closed q (local_pushed count locals (record { name = name.name; of_type = a }) l h.of_type) in
        record {
          code = closed_both count (code_in x) (Bind ∷ code_in y ++ Unbind 1 ∷ []) h.code (tt, last (code_in y) (Unbind 1) j.code tt);
          arms = (h.arms, j.arms);
          of_type = j.of_type;
        }
    body_closed (TypingRules.IfRule {c = c} {x = x} {y = y} p q r) l =
        let h = body_closed p l in
        let j = body_closed q l in
        let k = body_closed r l in
        record { code = closed_if count (code_in c) (code_in x) (code_in y) h.code j.code k.code; arms = (h.arms, j.arms, k.arms); of_type = j.of_type }
    body_closed (TypingRules.MatchRule {x = x} {bodies = bodies} {number = number} p same q fits) l =
        let rows = constructor_fields scope number in
        let h = body_closed p l in
        let j = arms_closed q l (fields_at count scope.table number closed.fields) in
        let some : 1 ≤ length rows = filled_at scope.table number closed.filled h.of_type in
        record {
          code = closed_both count (code_in x) _ h.code (closed_match count number (arm_codes scope.table bodies rows) h.of_type j.codes);
          arms = (h.arms, j.some some);
          of_type = j.of_type some;
        }

    row_closed : {locals : List Local} {trees : ExpsSyntax} {xs : Expressions} {ts : List Ty} → ElaborateEach scope locals trees xs ts → LocalsAreClosed count locals
        → AreClosedInRow xs
    row_closed TypingRules.NoRule l = record { code = tt; arms = tt }
    row_closed (TypingRules.AndRule {x = x} {xs = xs} p q) l =
        let h = body_closed p l in
        let j = row_closed q l in
        record { code = closed_both count (code_in x) (code_all scope.table xs) h.code j.code; arms = (h.arms, j.arms) }

    arms_closed : {locals : List Local} {arms : ArmsSyntax} {rows : List (List Ty)} {bodies : Arms} {t : Ty} → ElaborateArms scope locals arms rows bodies t
        → LocalsAreClosed count locals → FieldsAreClosed count rows → AreClosedArms rows bodies t
    arms_closed TypingRules.NoArmRule l f =
        record { codes = tt; arms = tt; some = λ some. absurd (omega (arith, some)); of_type = λ some. absurd (omega (arith, some)) }
    arms_closed (TypingRules.AndArmRule {locals = locals} {fields = fields} {ts = ts} {x = x} many may p q) l f =
        let h = body_closed p (fields_bound count locals fields ts l f.0) in
        let j = arms_closed q l f.1 in
        record {
          codes = (closed_both count (code_in x) (unbind_code (length ts)) h.code (closed_unbind count (length ts)), j.codes);
          arms = (h.arms, j.arms);
          some = λ some. (h.arms, j.arms);
          of_type = λ some. h.of_type;
        }
