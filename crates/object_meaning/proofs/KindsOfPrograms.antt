-- The code of a typed program within the limits has no fault of kinds.
use Rattle.std.proofs.Common.{◌≡◌, ◌≤◌, ℕ, suc, ◌+◌, ◌-◌, true, List, [], ◌∷◌, ◌++◌, length, map, max, take, nat_le, Some, None, unwrap_or, slice_get, refl, sym, ap, ◌∙◌, subst, arith, append_assoc, append-nil, length-append, le-leb, if◌then◌else◌}
use Rattle.std.specs.Option.{option_and_then}
use Rattle.std.proofs.Math.Nat.{le-max_left, le-max_right}
use Rattle.std.proofs.Math.Seq.{take-append_seam}
use Rattle.std.specs.Prelude.{All}
use Rattle.std.proofs.lemmas.List.Elements.{All-head, All-tail}
use Rattle.core_terms.specs.Types.{Ty, UnitTy, BoolTy, IntTy, TextTy, PairTy, NamedTy, AuthTy, VecTy, Table, fields_at}
use Rattle.core_terms.specs.ProgramSizes.{locals_in, locals_in_row, locals_in_arms}
use Rattle.core_terms.specs.Terms.{Expression, UnitE, BoolE, IntE, TextE, LocalE, PairE, FstE, SndE, NotE, LenE, AuthE, UnauthE, ConE, ArithE, CompareE, TextCompareE, CatE, LetE, IfE, MatchE, CallE, OperateE, Operation, VecFill, VecGet, VecPut, operand_types, result_type, Expressions, NoE, AndE, Arms, NoArm, AndArm, Function, Program, function_at}
use Rattle.core_terms.specs.TypingRules.{is_operation, IsWrittenWell, HasType, HaveTypes, HaveArms}
use Rattle.core_terms.proofs.TypingComplete.{same_self}
use Rattle.core_terms.specs.Instructions.{Instruction, PushUnit, PushBool, PushInt, PushText, Load, Bind, Unbind, Pair, Fst, Snd, Make, Switch, Branch, Jump, Call, Return, Auth, Unauth, ArithOp, CompareOp, TextCompareOp, Cat, Len, Not}
use Rattle.core_terms.specs.Bodies.{Body, FunctionCode}
use Rattle.core_terms.specs.GeneratedCode.{unbind_code, operation_code, laid, places, code_of, code_all, arm_codes, function_code, written_body}
use Rattle.core_terms.specs.Accepted.{push_types}
use Rattle.core_terms.specs.CodeShapes.{Shape, shape}
use Rattle.ideal_meaning.proofs.Parts.{on_fields}
use Rattle.code_meaning.proofs.Follows.{on_function, code_found}
use Rattle.core_terms.specs.Kinds.{next, next_if, without_one, without, ways, Unreached, first_fault, fault_in, function_fault, fault_at, kind_fault_from, kind_fault}
use Rattle.object_meaning.specs.KindLaws.{HasArms, HaveArmsInRow, AreSomeArms, IsWritten, ProgramsHaveKinds}
use Rattle.object_meaning.proofs.There.{kinds_pass}
use Rattle.object_meaning.proofs.WrittenThere.{written_there}
use Rattle.object_meaning.proofs.KindsLead.{Filled, filled_behind, filled_front, front, front_append, Leads, single, seq, nothing_behind, choice, AllLead, match_leads, step}

left_of : (a b : ℕ) → max a b ≤ 255 → a ≤ 255
left_of a b h = omega (arith, le-max_left a b, h)

right_of : (a b : ℕ) → max a b ≤ 255 → b ≤ 255
right_of a b h = omega (arith, le-max_right a b, h)

-- an expression's places have at least as many locals as the place where it stands
module _ (types : Table) where
  mutual
    at_least : (n : ℕ) (e : Expression) → n ≤ locals_in types n e
    at_least n UnitE = omega arith
    at_least n (BoolE b) = omega arith
    at_least n (IntE z) = omega arith
    at_least n (TextE b) = omega arith
    at_least n (LocalE i) = omega arith
    at_least n (PairE a b x y) = omega (arith, at_least n x, le-max_left (locals_in types n x) (locals_in types n y))
    at_least n (FstE a b x) = at_least n x
    at_least n (SndE a b x) = at_least n x
    at_least n (NotE x) = at_least n x
    at_least n (LenE x) = at_least n x
    at_least n (AuthE t x) = at_least n x
    at_least n (UnauthE t x) = at_least n x
    at_least n (ConE number tag xs) = at_least_row n xs
    at_least n (ArithE op x y) = omega (arith, at_least n x, le-max_left (locals_in types n x) (locals_in types n y))
    at_least n (CompareE op x y) = omega (arith, at_least n x, le-max_left (locals_in types n x) (locals_in types n y))
    at_least n (TextCompareE op x y) = omega (arith, at_least n x, le-max_left (locals_in types n x) (locals_in types n y))
    at_least n (CatE x y) = omega (arith, at_least n x, le-max_left (locals_in types n x) (locals_in types n y))
    at_least n (LetE a x body) = omega (arith, at_least n x, le-max_left (locals_in types n x) (locals_in types (suc n) body))
    at_least n (IfE test first other) =
        omega (arith, at_least n test, le-max_left (locals_in types n test) (max (locals_in types n first) (locals_in types n other)))
    at_least n (MatchE number x arms) = omega (arith, at_least n x, le-max_left (locals_in types n x) (locals_in_arms types n (unwrap_or (slice_get types number) []) arms))
    at_least n (CallE f args) = at_least_row n args
    at_least n (OperateE op xs) = at_least_row n xs

    at_least_row : (n : ℕ) (xs : Expressions) → n ≤ locals_in_row types n xs
    at_least_row n NoE = omega arith
    at_least_row n (AndE x xs) = omega (arith, at_least n x, le-max_left (locals_in types n x) (locals_in_row types n xs))

-- the operands that a list of types names are taken off
without_pushed : (ts under : List Ty) → without ts (push_types ts under) ≡ Some under
without_pushed [] under = refl
without_pushed (t ∷ ts) under =
    ap (option_and_then (without_one t)) (without_pushed ts (t ∷ under)) ∙ ap (λ b. if b then Some under else None) (same_self t)

-- the last locals are dropped
dropped : (env c os : List Ty) (n : ℕ) → length c ≡ n → next_if (nat_le n (length (env ++ c))) (take (length (env ++ c) - n) (env ++ c)) os ≡ next env os
dropped env c os n e =
    let l = length-append env c in
    let low : n ≤ length (env ++ c) = omega (arith, l, e) in
    let m : length (env ++ c) - n ≡ length env = omega (arith, l, e) in
    ap (λ b. next_if b (take (length (env ++ c) - n) (env ++ c)) os) (le-leb n (length (env ++ c)) low)
    ∙ ap (λ m. next (take m (env ++ c)) os) m
    ∙ ap (λ l. next l os) (take-append_seam env c)

module _ (P : Program) (z : Ty) where
  abbrev B : Body
  B = written_body P

  abbrev To : List Instruction → Shape → Shape → Type 0
  To c s u = Leads B z c s u

  mutual
    filled : (e : Expression) → Filled (code_of P.types e)
    filled UnitE = tt
    filled (BoolE b) = tt
    filled (IntE n) = tt
    filled (TextE b) = tt
    filled (LocalE i) = tt
    filled (PairE a b x y) = filled_front _ _ (filled x)
    filled (FstE a b x) = filled_front _ _ (filled x)
    filled (SndE a b x) = filled_front _ _ (filled x)
    filled (NotE x) = filled_front _ _ (filled x)
    filled (LenE x) = filled_front _ _ (filled x)
    filled (AuthE t x) = filled_front _ _ (filled x)
    filled (UnauthE t x) = filled_front _ _ (filled x)
    filled (ConE number tag xs) = filled_behind (code_all P.types xs) (Make number tag) []
    filled (ArithE op x y) = filled_front _ _ (filled x)
    filled (CompareE op x y) = filled_front _ _ (filled x)
    filled (TextCompareE op x y) = filled_front _ _ (filled x)
    filled (CatE x y) = filled_front _ _ (filled x)
    filled (LetE a x body) = filled_front _ _ (filled x)
    filled (IfE test first other) = filled_front _ _ (filled test)
    filled (MatchE number x arms) = filled_front _ _ (filled x)
    filled (CallE f args) = filled_behind (code_all P.types args) (Call f) []
    filled (OperateE op xs) = filled_behind (code_all P.types xs) (operation_code op) []

  -- two operands from left to right, then the instruction
  two : (env os : List Ty) (x y : Expression) (a b t : Ty) (i : Instruction) → To (code_of P.types x) (shape env os) (shape env (a ∷ os))
      → To (code_of P.types y) (shape env (a ∷ os)) (shape env (b ∷ (a ∷ os))) → ways B z i env (b ∷ (a ∷ os)) ≡ next env (t ∷ os) → length env ≤ 255
      → To (code_of P.types x ++ (code_of P.types y ++ i ∷ [])) (shape env os) (shape env (t ∷ os))
  two env os x y a b t i f g w l =
      seq B z (shape env os) (shape env (a ∷ os)) (shape env (t ∷ os)) (code_of P.types x) (code_of P.types y ++ i ∷ []) (filled x) (filled_behind (code_of P.types y) i []) f
      (seq B z (shape env (a ∷ os)) (shape env (b ∷ (a ∷ os))) (shape env (t ∷ os)) (code_of P.types y) (i ∷ []) (filled y) tt g
      (single B z i (shape env (b ∷ (a ∷ os))) (shape env (t ∷ os)) w l))

  one : (env os : List Ty) (x : Expression) (a t : Ty) (i : Instruction) → To (code_of P.types x) (shape env os) (shape env (a ∷ os))
      → ways B z i env (a ∷ os) ≡ next env (t ∷ os) → length env ≤ 255 → To (code_of P.types x ++ i ∷ []) (shape env os) (shape env (t ∷ os))
  one env os x a t i f w l =
      seq B z (shape env os) (shape env (a ∷ os)) (shape env (t ∷ os)) (code_of P.types x) (i ∷ []) (filled x) tt f (single B z i (shape env (a ∷ os)) (shape env (t ∷ os)) w l)

  abbrev Typed : List Ty → List Ty → Expression → Ty → Type 0
  Typed env os e t = To (code_of P.types e) (shape env os) (shape env (t ∷ os))

  -- the body of an arm, and the end of its fields
  arm_leads : (env c us os : List Ty) (body : List Instruction) → Filled body → length env ≤ 255 → To body (shape (env ++ c) os) (shape (env ++ c) us)
      → To (body ++ unbind_code (length c)) (shape (env ++ c) os) (shape env us)
  arm_leads env [] us os body x l f =
      nothing_behind B z (shape (env ++ []) os) (shape env us) body (subst (λ l. To body (shape (env ++ []) os) (shape l us)) (append-nil env) f)
  arm_leads env (t ∷ c) us os body x l f =
      seq B z (shape (env ++ t ∷ c) os) (shape (env ++ t ∷ c) us) (shape env us) body (Unbind (suc (length c)) ∷ []) x tt f
      (single B z (Unbind (suc (length c))) (shape (env ++ t ∷ c) us) (shape env us) (dropped env (t ∷ c) us (suc (length c)) refl) l)

  -- an arm, by its body
  wide : (env c : List Ty) (body : Expression) → locals_in P.types (length env + length c) body ≤ 255 → locals_in P.types (length (env ++ c)) body ≤ 255
  wide env c body l = subst (λ n. locals_in P.types n body ≤ 255) (sym (length-append env c)) l

  arm : (env c : List Ty) (body : Expression) (t : Ty) (os : List Ty) → To (code_of P.types body) (shape (env ++ c) os) (shape (env ++ c) (t ∷ os))
      → locals_in P.types (length (env ++ c)) body ≤ 255 → length env ≤ 255
      → Filled (code_of P.types body ++ unbind_code (length c)) × To (code_of P.types body ++ unbind_code (length c)) (shape (env ++ c) os) (shape env (t ∷ os)) × (length (env ++ c) ≤ 255)
  arm env c body t os f l base = (
    filled_front (code_of P.types body) (unbind_code (length c)) (filled body),
    arm_leads env c (t ∷ os) os (code_of P.types body) (filled body) base f,
    omega (arith, at_least P.types (length (env ++ c)) body, l),
  )

  -- the way of an operation, by its table
  operation_way : (op : Operation) (env os : List Ty) → is_operation op ≡ true → ways B z (operation_code op) env (push_types (operand_types op) os) ≡ next env (result_type op ∷ os)
  operation_way (VecFill n t) env os e = ap (λ b. next_if b env (VecTy n t ∷ os)) e
  operation_way (VecGet n t) env os e = refl
  operation_way (VecPut n t) env os e = ap (λ b. next_if b env (VecTy n t ∷ os)) (same_self t)

  mutual
    leads : (env : List Ty) (e : Expression) (t : Ty) → HasType P env e t → HasArms e → locals_in P.types (length env) e ≤ 255 → (os : List Ty) → Typed env os e t
    leads env UnitE t h a l os = subst (Typed env os UnitE) h (single B z PushUnit (shape env os) (shape env (UnitTy ∷ os)) refl l)
    leads env (BoolE b) t h a l os = subst (Typed env os (BoolE b)) h (single B z (PushBool b) (shape env os) (shape env (BoolTy ∷ os)) refl l)
    leads env (IntE n) t h a l os = subst (Typed env os (IntE n)) h.0 (single B z (PushInt n) (shape env os) (shape env (IntTy ∷ os)) refl l)
    leads env (TextE b) t h a l os = subst (Typed env os (TextE b)) h.0 (single B z (PushText b) (shape env os) (shape env (TextTy ∷ os)) refl l)
    leads env (LocalE i) t h a l os = single B z (Load i) (shape env os) (shape env (t ∷ os)) (ap (option_and_then (λ t. next env (t ∷ os))) h) l
    leads env (PairE c d x y) t h a l os =
        let m = left_of (locals_in P.types (length env) x) (locals_in P.types (length env) y) l in
        subst (Typed env os (PairE c d x y)) h.0
        (two env os x y c d (PairTy c d) Pair (leads env x c h.1 a.0 m os) (leads env y d h.2 a.1 (right_of (locals_in P.types (length env) x) _ l) (c ∷ os)) refl
        (omega (arith, at_least P.types (length env) x, m)))
    leads env (FstE c d x) t h a l os =
        subst (Typed env os (FstE c d x)) h.0 (one env os x (PairTy c d) c Fst (leads env x (PairTy c d) h.1 a l os) refl (omega (arith, at_least P.types (length env) x, l)))
    leads env (SndE c d x) t h a l os =
        subst (Typed env os (SndE c d x)) h.0 (one env os x (PairTy c d) d Snd (leads env x (PairTy c d) h.1 a l os) refl (omega (arith, at_least P.types (length env) x, l)))
    leads env (NotE x) t h a l os = subst (Typed env os (NotE x)) h.0 (one env os x BoolTy BoolTy Not (leads env x BoolTy h.1 a l os) refl (omega (arith, at_least P.types (length env) x, l)))
    leads env (LenE x) t h a l os = subst (Typed env os (LenE x)) h.0 (one env os x TextTy IntTy Len (leads env x TextTy h.1 a l os) refl (omega (arith, at_least P.types (length env) x, l)))
    leads env (AuthE c x) t h a l os =
        subst (Typed env os (AuthE c x)) h.0
        (one env os x c (AuthTy c) (Auth c) (leads env x c h.1 a l os)
        (ap (λ b. option_and_then (λ under. next env (AuthTy c ∷ under)) (if b then Some os else None)) (same_self c)) (omega (arith, at_least P.types (length env) x, l)))
    leads env (UnauthE c x) t h a l os =
        subst (Typed env os (UnauthE c x)) h.0
        (one env os x (AuthTy c) c (Unauth c) (leads env x (AuthTy c) h.1 a l os)
        (ap (λ b. option_and_then (λ under. next env (c ∷ under)) (if b then Some os else None)) (same_self c)) (omega (arith, at_least P.types (length env) x, l)))
    leads env (ConE number tag xs) t h a l os =
        let r = on_fields P.types (λ t v. true) (fields_at P.types number tag) (λ ts. HaveTypes P env xs ts) h.1 in
        let ts = r.0 in
        subst (Typed env os (ConE number tag xs)) h.0
        (row env xs ts r.2 a l os (Make number tag ∷ []) (shape env (NamedTy number ∷ os)) tt
        (single B z (Make number tag) (shape env (push_types ts os)) (shape env (NamedTy number ∷ os))
        (ap (option_and_then (λ ts. option_and_then (λ under. next env (NamedTy number ∷ under)) (without ts (push_types r.0 os)))) r.1
        ∙ ap (option_and_then (λ under. next env (NamedTy number ∷ under))) (without_pushed ts os))
        (omega (arith, at_least_row P.types (length env) xs, l))))
    leads env (ArithE op x y) t h a l os =
        let m = left_of (locals_in P.types (length env) x) (locals_in P.types (length env) y) l in
        subst (Typed env os (ArithE op x y)) h.0
        (two env os x y IntTy IntTy IntTy (ArithOp op) (leads env x IntTy h.1 a.0 m os) (leads env y IntTy h.2 a.1 (right_of (locals_in P.types (length env) x) _ l) (IntTy ∷ os)) refl
        (omega (arith, at_least P.types (length env) x, m)))
    leads env (CompareE op x y) t h a l os =
        let m = left_of (locals_in P.types (length env) x) (locals_in P.types (length env) y) l in
        subst (Typed env os (CompareE op x y)) h.0
        (two env os x y IntTy IntTy BoolTy (CompareOp op) (leads env x IntTy h.1 a.0 m os) (leads env y IntTy h.2 a.1 (right_of (locals_in P.types (length env) x) _ l) (IntTy ∷ os)) refl
        (omega (arith, at_least P.types (length env) x, m)))
    leads env (TextCompareE op x y) t h a l os =
        let m = left_of (locals_in P.types (length env) x) (locals_in P.types (length env) y) l in
        subst (Typed env os (TextCompareE op x y)) h.0
        (two env os x y TextTy TextTy BoolTy (TextCompareOp op) (leads env x TextTy h.1 a.0 m os) (leads env y TextTy h.2 a.1 (right_of (locals_in P.types (length env) x) _ l) (TextTy ∷ os)) refl
        (omega (arith, at_least P.types (length env) x, m)))
    leads env (CatE x y) t h a l os =
        let m = left_of (locals_in P.types (length env) x) (locals_in P.types (length env) y) l in
        subst (Typed env os (CatE x y)) h.0
        (two env os x y TextTy TextTy TextTy Cat (leads env x TextTy h.1 a.0 m os) (leads env y TextTy h.2 a.1 (right_of (locals_in P.types (length env) x) _ l) (TextTy ∷ os)) refl
        (omega (arith, at_least P.types (length env) x, m)))
    leads env (LetE c x body) t h a l os =
        let m = left_of (locals_in P.types (length env) x) (locals_in P.types (suc (length env)) body) l in
        let n = right_of (locals_in P.types (length env) x) (locals_in P.types (suc (length env)) body) l in
        let more : suc (length env) ≡ length (env ++ c ∷ []) = omega (arith, length-append env (c ∷ [])) in
        let base : length env ≤ 255 = omega (arith, at_least P.types (length env) x, m) in
        let wide : length (env ++ c ∷ []) ≤ 255 = omega (arith, more, at_least P.types (suc (length env)) body, n) in
        let inner = leads (env ++ c ∷ []) body t h.1 a.1 (subst (λ n. locals_in P.types n body ≤ 255) more n) os in
        let tail = code_of P.types body ++ Unbind 1 ∷ [] in
        seq B z (shape env os) (shape env (c ∷ os)) (shape env (t ∷ os)) (code_of P.types x) (Bind ∷ tail) (filled x) tt (leads env x c h.0 a.0 m os)
        (seq B z (shape env (c ∷ os)) (shape (env ++ c ∷ []) os) (shape env (t ∷ os)) (Bind ∷ []) tail tt (filled_front _ _ (filled body))
        (single B z Bind (shape env (c ∷ os)) (shape (env ++ c ∷ []) os) refl wide)
        (arm_leads env (c ∷ []) (t ∷ os) os (code_of P.types body) (filled body) base inner))
    leads env (IfE test first other) t h a l os =
        let n = length env in
        let m = left_of (locals_in P.types n test) (max (locals_in P.types n first) (locals_in P.types n other)) l in
        let r = right_of (locals_in P.types n test) (max (locals_in P.types n first) (locals_in P.types n other)) l in
        let base : length env ≤ 255 = omega (arith, at_least P.types n test, m) in
        let c = code_of P.types first in
        let d = code_of P.types other in
        seq B z (shape env os) (shape env (BoolTy ∷ os)) (shape env (t ∷ os)) (code_of P.types test) (Branch (length c + 1) ∷ (c ++ Jump (length d) ∷ d)) (filled test) tt
        (leads env test BoolTy h.0 a.0 m os)
        (choice B z env os (shape env (t ∷ os)) c d base base (filled first) (filled other)
        (leads env first t h.1 a.1 (left_of (locals_in P.types n first) (locals_in P.types n other) r) os) (leads env other t h.2 a.2 (right_of (locals_in P.types n first) (locals_in P.types n other) r) os))
    leads env (MatchE number x arms) t h a l os =
        let n = length env in
        let cs = unwrap_or (slice_get P.types number) [] in
        let m = left_of (locals_in P.types n x) (locals_in_arms P.types n cs arms) l in
        let r = right_of (locals_in P.types n x) (locals_in_arms P.types n cs arms) l in
        let base : length env ≤ 255 = omega (arith, at_least P.types n x, m) in
        let codes = arm_codes P.types arms cs in
        seq B z (shape env os) (shape env (NamedTy number ∷ os)) (shape env (t ∷ os)) (code_of P.types x) (Switch number (places 0 codes) ∷ laid codes) (filled x) tt
        (leads env x (NamedTy number) h.0 a.0 m os)
        (match_leads B z env os (shape env (t ∷ os)) number codes base (arms_lead env cs arms t h.1 a.1 r base os))
    leads env (CallE f args) t h a l os =
        let h = on_function (slice_get P.functions f) (λ g. (g.result ≡ t) × HaveTypes P env args g.parameters) h in
        let g = function_at P f in
        row env args g.parameters h.1 a l os (Call f ∷ []) (shape env (t ∷ os)) tt
        (single B z (Call f) (shape env (push_types g.parameters os)) (shape env (t ∷ os))
        (ap (λ c. option_and_then (λ under. next env (c.result ∷ under)) (without c.parameters (push_types g.parameters os))) (code_found P f)
        ∙ ap (option_and_then (λ under. next env (g.result ∷ under))) (without_pushed g.parameters os)
        ∙ ap (λ r. next env (r ∷ os)) h.0)
        (omega (arith, at_least_row P.types (length env) args, l)))
    leads env (OperateE op xs) t h a l os =
        subst (Typed env os (OperateE op xs)) h.0
        (row env xs (operand_types op) h.2 a l os (operation_code op ∷ []) (shape env (result_type op ∷ os)) tt
        (single B z (operation_code op) (shape env (push_types (operand_types op) os)) (shape env (result_type op ∷ os)) (operation_way op env os h.1)
        (omega (arith, at_least_row P.types (length env) xs, l))))

    -- operands from left to right, and code behind them
    row : (env : List Ty) (xs : Expressions) (ts : List Ty) → HaveTypes P env xs ts → HaveArmsInRow xs → locals_in_row P.types (length env) xs ≤ 255 → (os : List Ty)
        → (d : List Instruction) (u : Shape) → Filled d → To d (shape env (push_types ts os)) u → To (code_all P.types xs ++ d) (shape env os) u
    row env NoE [] h a l os d u x f = f
    row env NoE (t ∷ ts) h a l os d u x f = elim h [ ]
    row env (AndE e xs) [] h a l os d u x f = elim h [ ]
    row env (AndE e xs) (t ∷ ts) h a l os d u x f =
        let n = length env in
        subst (λ c. To c (shape env os) u) (sym (append_assoc (code_of P.types e) (code_all P.types xs) d))
        (seq B z (shape env os) (shape env (t ∷ os)) u (code_of P.types e) (code_all P.types xs ++ d) (filled e) (filled_last (code_all P.types xs) d x)
        (leads env e t h.0 a.0 (left_of (locals_in P.types n e) (locals_in_row P.types n xs) l) os)
        (row env xs ts h.1 a.1 (right_of (locals_in P.types n e) (locals_in_row P.types n xs) l) (t ∷ os) d u x f))
      where
        filled_last : (c d : List Instruction) → Filled d → Filled (c ++ d)
        filled_last [] d h = h
        filled_last (i ∷ c) d h = tt

    arms_lead : (env : List Ty) (cs : List (List Ty)) (arms : Arms) (t : Ty) → HaveArms P env cs arms t → AreSomeArms arms → locals_in_arms P.types (length env) cs arms ≤ 255 → length env ≤ 255
        → (os : List Ty) → AllLead B z env os (shape env (t ∷ os)) cs (arm_codes P.types arms cs)
    arms_lead env [] NoArm t h a l base os = elim a [ ]
    arms_lead env (c ∷ cs) NoArm t h a l base os = elim a [ ]
    arms_lead env [] (AndArm body arms) t h a l base os = elim h [ ]
    arms_lead env (c ∷ []) (AndArm body NoArm) t h a l base os =
        let l = wide env c body (left_of (locals_in P.types (length env + length c) body) (length env) l) in
        let r = arm env c body t os (leads (env ++ c) body t h.0 a.0 l os) l base in
        (r.0, r.1, r.2, refl)
    arms_lead env (c ∷ (d ∷ cs)) (AndArm body NoArm) t h a l base os = elim h.1 [ ]
    arms_lead env (c ∷ []) (AndArm body (AndArm other arms)) t h a l base os = elim h.1 [ ]
    arms_lead env (c ∷ (d ∷ cs)) (AndArm body (AndArm other arms)) t h a l base os =
        let n = locals_in P.types (length env + length c) body in
        let m = locals_in_arms P.types (length env) (d ∷ cs) (AndArm other arms) in
        let w = wide env c body (left_of n m l) in
        let r = arm env c body t os (leads (env ++ c) body t h.0 a.0 w os) w base in
        (r.0, r.1, r.2, arms_lead env (d ∷ cs) (AndArm other arms) t h.1 (a.1.0, a.1.1) (right_of n m l) base os)

started : (B : Body) (g : FunctionCode) (c : List Instruction) → Filled c → fault_in B g c ≡ first_fault B g.result c 0 (front (shape g.parameters []) c)
started B g [] h = elim h [ ]
started B g (i ∷ is) h = refl

-- a function's body, and the return
function_free : (P : Program) (g : Function) → HasType P g.parameters g.body g.result → IsWritten P g → function_fault (written_body P) (function_code P.types g) ≡ None
function_free P g h w =
    let B = written_body P in
    let c = code_of P.types g.body in
    let s = shape g.parameters [] in
    let u = shape g.parameters (g.result ∷ []) in
    started B (function_code P.types g) (c ++ Return ∷ []) (filled_front c (Return ∷ []) (filled P g.result g.body))
    ∙ ap (first_fault B g.result (c ++ Return ∷ []) 0) (front_append s c (Return ∷ []) (filled P g.result g.body))
    ∙ leads P g.result g.parameters g.body g.result h w.arms w.locals [] (Return ∷ []) Unreached [] refl
    (step B g.result Return [] u [] [] [] (ap (λ b. if b then Some [] else None) (same_self g.result)) refl (λ p. refl)) 0

each_free : (P : Program) (f : ℕ) (gs : List Function) → ((i : ℕ) (g : Function) → slice_get gs i ≡ Some g → HasType P g.parameters g.body g.result) → All (IsWritten P) gs
    → kind_fault_from (written_body P) f (map (function_code P.types) gs) ≡ None
each_free P f [] h w = refl
each_free P f (g ∷ gs) h w =
    ap (λ o. fault_at o f (kind_fault_from (written_body P) (suc f) (map (function_code P.types) gs))) (function_free P g (h 0 g refl) (All-head (IsWritten P) g gs w))
    ∙ each_free P (suc f) gs (λ i g at. h (suc i) g at) (All-tail (IsWritten P) g gs w)

pub no_kind_fault : (P : Program) → IsWrittenWell P → All (IsWritten P) P.functions → kind_fault (written_body P) ≡ None
no_kind_fault P typed written = each_free P 0 P.functions typed written

pub programs_have_kinds : ProgramsHaveKinds
programs_have_kinds P typed written = kinds_pass (written_body P) (written_there P typed) (no_kind_fault P typed written)
