-- The code of a written program has small numbers alone: it is well-typed, and within the limits.
use Rattle.std.proofs.Common.{◌≡◌, ◌≤◌, ℕ, zero, suc, ◌+◌, List, [], ◌∷◌, ◌++◌, length, map, max, Some, None, unwrap_or, slice_get, refl, sym, subst, arith, length-append}
use Rattle.std.specs.Prelude.{All, Option}
use Rattle.std.proofs.Math.Nat.{le-max_left, le-max_right}
use Rattle.std.proofs.lemmas.List.Elements.{All-append, All-cons, All-nil, All-head, All-tail}
use Rattle.std.proofs.lemmas.Option.{slice_get_within}
use Rattle.core_terms.specs.Types.{Ty, BoolTy, IntTy, TextTy, PairTy, NamedTy, AuthTy, Table, fields_at}
use Rattle.core_terms.specs.Terms.{Expression, UnitE, BoolE, IntE, TextE, LocalE, PairE, FstE, SndE, NotE, LenE, AuthE, UnauthE, ConE, ArithE, CompareE, TextCompareE, CatE, LetE, IfE, MatchE, CallE, OperateE, Operation, VecFill, VecGet, VecPut, operand_types, Expressions, NoE, AndE, Arms, NoArm, AndArm, Function, Program}
use Rattle.core_terms.specs.TypingRules.{IsTypedAs, IsWrittenWell, HasType, HaveTypes, HaveArms, OnFunction}
use Rattle.core_terms.specs.Instructions.{Instruction, PushUnit, PushBool, PushInt, PushText, Load, Bind, Unbind, Pair, Fst, Snd, Make, Switch, Branch, Jump, Call, Return, Auth, Unauth, ArithOp, CompareOp, TextCompareOp, Cat, Len, Not}
use Rattle.core_terms.specs.Programs.{meaning}
use Rattle.core_terms.specs.ProgramLimits.{most_fields, most_functions, most_instructions, most_locals}
use Rattle.core_terms.specs.ProgramSizes.{locals_in, locals_in_row, locals_in_arms, IsFunctionWithin, IsBodyWithin, IsWithinLimits}
use Rattle.core_terms.proofs.CodePrograms.{is_typed}
use Rattle.core_terms.proofs.Fields.{on_fields}
use Rattle.core_terms.specs.GeneratedCode.{behind, unbind_code, operation_code, laid, places, code_of, code_all, arm_codes, codes_as, function_code}
use Rattle.code_gen.specs.CodeSizes.{code_size}
use Rattle.code_gen.specs.Programs.{program_in}
use Rattle.code_gen.specs.declared.code.Code.{Code}
use Rattle.code_gen.proofs.CodeSizes.{code_has_a_limit}
use Rattle.object_meaning.specs.WrittenObjects.{codes_in}
use Rattle.object_writer.specs.CodeNumbers.{HasSmallNumbers, IsSmall}

abbrev AreSmall : List Instruction → Type 0
AreSmall = All HasSmallNumbers

both : (c d : List Instruction) → AreSmall c → AreSmall d → AreSmall (c ++ d)
both c d h j = All-append HasSmallNumbers c d h j

first : (i : Instruction) (c : List Instruction) → HasSmallNumbers i → AreSmall c → AreSmall (i ∷ c)
first i c h j = All-cons HasSmallNumbers i c h j

single : (i : Instruction) → HasSmallNumbers i → AreSmall (i ∷ [])
single i h = first i [] h (All-nil HasSmallNumbers)

after : (c : List Instruction) (i : Instruction) → AreSmall c → HasSmallNumbers i → AreSmall (c ++ i ∷ [])
after c i h s = both c (i ∷ []) h (single i s)

front_fits : (c d : List Instruction) (m : ℕ) → length (c ++ d) ≤ m → length c ≤ m
front_fits c d m h = omega (arith, length-append c d, h)

back_fits : (c d : List Instruction) (m : ℕ) → length (c ++ d) ≤ m → length d ≤ m
back_fits c d m h = omega (arith, length-append c d, h)

left_of : (a b : ℕ) → max a b ≤ most_locals → a ≤ most_locals
left_of a b h = omega (arith, le-max_left a b, h)

right_of : (a b : ℕ) → max a b ≤ most_locals → b ≤ most_locals
right_of a b h = omega (arith, le-max_right a b, h)

operation_small : (op : Operation) → HasSmallNumbers (operation_code op)
operation_small (VecFill n t) = tt
operation_small (VecGet n t) = tt
operation_small (VecPut n t) = tt

-- ARMS
unbind_small : (n : ℕ) → n ≤ most_locals → AreSmall (unbind_code n)
unbind_small zero h = All-nil HasSmallNumbers
unbind_small (suc n) h = single (Unbind (suc n)) h

places_small : (start : ℕ) (codes : List (List Instruction)) → start + length (laid codes) ≤ most_instructions → All (λ (n : ℕ). n ≤ most_instructions) (places start codes)
places_small start [] h = All-nil (λ (n : ℕ). n ≤ most_instructions)
places_small start (arm ∷ []) h =
    All-cons (λ (n : ℕ). n ≤ most_instructions) start [] (omega (arith, h)) (All-nil (λ (n : ℕ). n ≤ most_instructions))
places_small start (arm ∷ (other ∷ later)) h =
    let rest = laid (other ∷ later) in
    All-cons (λ (n : ℕ). n ≤ most_instructions) start (places (start + length arm + 1) (other ∷ later)) (omega (arith, h))
    (places_small (start + length arm + 1) (other ∷ later) (omega (arith, length-append arm (Jump (length rest) ∷ rest), h)))

behind_fits : (later : List (List Instruction)) (rest : List Instruction) → length rest ≤ length (behind later rest)
behind_fits [] rest = omega arith
behind_fits (arm ∷ later) rest = omega arith

behind_small : (later : List (List Instruction)) (rest : List Instruction) → AreSmall rest → length rest ≤ most_instructions → AreSmall (behind later rest)
behind_small [] rest h l = h
behind_small (arm ∷ later) rest h l = first (Jump (length rest)) rest l h

module _ (P : Program) (few : length P.functions ≤ most_functions) (fields : All (All (λ (ts : List Ty). length ts ≤ most_fields)) P.types) where
  few_at : (types : Table) (number : ℕ) → All (All (λ (ts : List Ty). length ts ≤ most_fields)) types → All (λ (ts : List Ty). length ts ≤ most_fields) (unwrap_or (slice_get types number) [])
  few_at [] number h = All-nil (λ (ts : List Ty). length ts ≤ most_fields)
  few_at (cs ∷ types) zero h = All-head (All (λ (ts : List Ty). length ts ≤ most_fields)) cs types h
  few_at (cs ∷ types) (suc number) h = few_at types number (All-tail (All (λ (ts : List Ty). length ts ≤ most_fields)) cs types h)

  -- a function that is called is there, and its arguments have types
  called : (o : Option Function) (Q : Function → Type 0) → OnFunction o Q → (g : Function) × (o ≡ Some g)
  called (Some g) Q h = (g, refl)
  called None Q h = elim h [ ]

  call_types : (env : List Ty) (args : Expressions) (o : Option Function) (t : Ty) → OnFunction o (λ g. (g.result ≡ t) × HaveTypes P env args g.parameters) → (ts : List Ty) × HaveTypes P env args ts
  call_types env args (Some g) t h = (g.parameters, h.1)
  call_types env args None t h = elim h [ ]

  mutual
    small : (env : List Ty) (e : Expression) (t : Ty) → HasType P env e t → locals_in P.types (length env) e ≤ most_locals → length (code_of P.types e) ≤ most_instructions → AreSmall (code_of P.types e)
    small env UnitE t h l n = single PushUnit tt
    small env (BoolE b) t h l n = single (PushBool b) tt
    small env (IntE z) t h l n = single (PushInt z) tt
    small env (TextE b) t h l n = single (PushText b) tt
    small env (LocalE i) t h l n = let inside = slice_get_within env i t h in single (Load i) (omega (arith, inside, l))
    small env (PairE a b x y) t h l n =
        let c = code_of P.types x in
        let d = code_of P.types y ++ Pair ∷ [] in
        both c d (small env x a h.1 (left_of (locals_in P.types (length env) x) (locals_in P.types (length env) y) l) (front_fits c d most_instructions n))
        (after (code_of P.types y) Pair
        (small env y b h.2 (right_of (locals_in P.types (length env) x) (locals_in P.types (length env) y) l) (front_fits (code_of P.types y) (Pair ∷ []) most_instructions (back_fits c d most_instructions n))) tt)
    small env (FstE a b x) t h l n = after (code_of P.types x) Fst (small env x (PairTy a b) h.1 l (front_fits (code_of P.types x) (Fst ∷ []) most_instructions n)) tt
    small env (SndE a b x) t h l n = after (code_of P.types x) Snd (small env x (PairTy a b) h.1 l (front_fits (code_of P.types x) (Snd ∷ []) most_instructions n)) tt
    small env (NotE x) t h l n = after (code_of P.types x) Not (small env x BoolTy h.1 l (front_fits (code_of P.types x) (Not ∷ []) most_instructions n)) tt
    small env (LenE x) t h l n = after (code_of P.types x) Len (small env x TextTy h.1 l (front_fits (code_of P.types x) (Len ∷ []) most_instructions n)) tt
    small env (AuthE a x) t h l n = after (code_of P.types x) (Auth a) (small env x a h.1 l (front_fits (code_of P.types x) (Auth a ∷ []) most_instructions n)) tt
    small env (UnauthE a x) t h l n = after (code_of P.types x) (Unauth a) (small env x (AuthTy a) h.1 l (front_fits (code_of P.types x) (Unauth a ∷ []) most_instructions n)) tt
    small env (ConE number tag xs) t h l n =
        let r = on_fields (fields_at P.types number tag) (λ ts. HaveTypes P env xs ts) h.1 in
        both (code_all P.types xs) (Make number tag ∷ []) (row env xs r.0 r.2 l (front_fits (code_all P.types xs) (Make number tag ∷ []) most_instructions n)) (single (Make number tag) tt)
    small env (ArithE op x y) t h l n =
        let c = code_of P.types x in
        let d = code_of P.types y ++ ArithOp op ∷ [] in
        both c d (small env x IntTy h.1 (left_of (locals_in P.types (length env) x) (locals_in P.types (length env) y) l) (front_fits c d most_instructions n))
        (after (code_of P.types y) (ArithOp op)
        (small env y IntTy h.2 (right_of (locals_in P.types (length env) x) (locals_in P.types (length env) y) l) (front_fits (code_of P.types y) (ArithOp op ∷ []) most_instructions (back_fits c d most_instructions n))) tt)
    small env (CompareE op x y) t h l n =
        let c = code_of P.types x in
        let d = code_of P.types y ++ CompareOp op ∷ [] in
        both c d (small env x IntTy h.1 (left_of (locals_in P.types (length env) x) (locals_in P.types (length env) y) l) (front_fits c d most_instructions n))
        (after (code_of P.types y) (CompareOp op)
        (small env y IntTy h.2 (right_of (locals_in P.types (length env) x) (locals_in P.types (length env) y) l) (front_fits (code_of P.types y) (CompareOp op ∷ []) most_instructions (back_fits c d most_instructions n))) tt)
    small env (TextCompareE op x y) t h l n =
        let c = code_of P.types x in
        let d = code_of P.types y ++ TextCompareOp op ∷ [] in
        both c d (small env x TextTy h.1 (left_of (locals_in P.types (length env) x) (locals_in P.types (length env) y) l) (front_fits c d most_instructions n))
        (after (code_of P.types y) (TextCompareOp op)
        (small env y TextTy h.2 (right_of (locals_in P.types (length env) x) (locals_in P.types (length env) y) l) (front_fits (code_of P.types y) (TextCompareOp op ∷ []) most_instructions (back_fits c d most_instructions n))) tt)
    small env (CatE x y) t h l n =
        let c = code_of P.types x in
        let d = code_of P.types y ++ Cat ∷ [] in
        both c d (small env x TextTy h.1 (left_of (locals_in P.types (length env) x) (locals_in P.types (length env) y) l) (front_fits c d most_instructions n))
        (after (code_of P.types y) Cat
        (small env y TextTy h.2 (right_of (locals_in P.types (length env) x) (locals_in P.types (length env) y) l) (front_fits (code_of P.types y) (Cat ∷ []) most_instructions (back_fits c d most_instructions n))) tt)
    small env (LetE a x body) t h l n =
        let c = code_of P.types x in
        let d = code_of P.types body in
        let rest = back_fits c (Bind ∷ (d ++ Unbind 1 ∷ [])) most_instructions n in
        let more : suc (length env) ≡ length (env ++ a ∷ []) = omega (arith, length-append env (a ∷ [])) in
        let inner = right_of (locals_in P.types (length env) x) (locals_in P.types (suc (length env)) body) l in
        both c (Bind ∷ (d ++ Unbind 1 ∷ [])) (small env x a h.0 (left_of (locals_in P.types (length env) x) (locals_in P.types (suc (length env)) body) l) (front_fits c (Bind ∷ (d ++ Unbind 1 ∷ [])) most_instructions n))
        (first Bind (d ++ Unbind 1 ∷ []) tt
        (both d (Unbind 1 ∷ [])
        (small (env ++ a ∷ []) body t h.1 (subst (λ k. locals_in P.types k body ≤ most_locals) more inner) (front_fits d (Unbind 1 ∷ []) most_instructions (omega (arith, rest))))
        (single (Unbind 1) (omega arith))))
    small env (IfE test then_side else_side) t h l n =
        let k = length env in
        let b = code_of P.types test in
        let c = code_of P.types then_side in
        let d = code_of P.types else_side in
        let behind_test = back_fits b (Branch (length c + 1) ∷ (c ++ Jump (length d) ∷ d)) most_instructions n in
        let sides : length (c ++ Jump (length d) ∷ d) ≤ most_instructions = omega (arith, behind_test) in
        let last = back_fits c (Jump (length d) ∷ d) most_instructions sides in
        let e : length d ≤ most_instructions = omega (arith, last) in
        let m = right_of (locals_in P.types k test) (max (locals_in P.types k then_side) (locals_in P.types k else_side)) l in
        both b (Branch (length c + 1) ∷ (c ++ Jump (length d) ∷ d))
        (small env test BoolTy h.0 (left_of (locals_in P.types k test) (max (locals_in P.types k then_side) (locals_in P.types k else_side)) l) (front_fits b (Branch (length c + 1) ∷ (c ++ Jump (length d) ∷ d)) most_instructions n))
        (first (Branch (length c + 1)) (c ++ Jump (length d) ∷ d) (omega (arith, length-append c (Jump (length d) ∷ d), sides))
        (both c (Jump (length d) ∷ d) (small env then_side t h.1 (left_of (locals_in P.types k then_side) (locals_in P.types k else_side) m) (front_fits c (Jump (length d) ∷ d) most_instructions sides))
        (first (Jump (length d)) d e (small env else_side t h.2 (right_of (locals_in P.types k then_side) (locals_in P.types k else_side) m) e))))
    small env (MatchE number x arms) t h l n =
        let k = length env in
        let cs = unwrap_or (slice_get P.types number) [] in
        let c = code_of P.types x in
        let codes = arm_codes P.types arms cs in
        let rest = back_fits c (Switch number (places 0 codes) ∷ laid codes) most_instructions n in
        let fits : length (laid codes) ≤ most_instructions = omega (arith, rest) in
        both c (Switch number (places 0 codes) ∷ laid codes)
        (small env x (NamedTy number) h.0 (left_of (locals_in P.types k x) (locals_in_arms P.types k cs arms) l) (front_fits c (Switch number (places 0 codes) ∷ laid codes) most_instructions n))
        (first (Switch number (places 0 codes)) (laid codes) (places_small 0 codes (omega (arith, fits)))
        (arms_small env cs arms t h.1 (few_at P.types number fields) (right_of (locals_in P.types k x) (locals_in_arms P.types k cs arms) l) fits))
    small env (CallE f args) t h l n =
        let g = called (slice_get P.functions f) (λ g. (g.result ≡ t) × HaveTypes P env args g.parameters) h in
        let inside = slice_get_within P.functions f g.0 g.1 in
        let ts = call_types env args (slice_get P.functions f) t h in
        both (code_all P.types args) (Call f ∷ []) (row env args ts.0 ts.1 l (front_fits (code_all P.types args) (Call f ∷ []) most_instructions n))
        (single (Call f) (omega (arith, inside, few)))
    small env (OperateE op xs) t h l n =
        both (code_all P.types xs) (operation_code op ∷ []) (row env xs (operand_types op) h.2 l (front_fits (code_all P.types xs) (operation_code op ∷ []) most_instructions n))
        (single (operation_code op) (operation_small op))

    row : (env : List Ty) (xs : Expressions) (ts : List Ty) → HaveTypes P env xs ts → locals_in_row P.types (length env) xs ≤ most_locals → length (code_all P.types xs) ≤ most_instructions
        → AreSmall (code_all P.types xs)
    row env NoE ts h l n = All-nil HasSmallNumbers
    row env (AndE x xs) [] h l n = elim h [ ]
    row env (AndE x xs) (t ∷ ts) h l n =
        let c = code_of P.types x in
        let d = code_all P.types xs in
        let k = length env in
        both c d (small env x t h.0 (left_of (locals_in P.types k x) (locals_in_row P.types k xs) l) (front_fits c d most_instructions n))
        (row env xs ts h.1 (right_of (locals_in P.types k x) (locals_in_row P.types k xs) l) (back_fits c d most_instructions n))

    arms_small : (env : List Ty) (cs : List (List Ty)) (arms : Arms) (t : Ty) → HaveArms P env cs arms t → All (λ (ts : List Ty). length ts ≤ most_fields) cs
        → locals_in_arms P.types (length env) cs arms ≤ most_locals → length (laid (arm_codes P.types arms cs)) ≤ most_instructions → AreSmall (laid (arm_codes P.types arms cs))
    arms_small env cs NoArm t h f l n = All-nil HasSmallNumbers
    arms_small env [] (AndArm body arms) t h f l n = elim h [ ]
    arms_small env (c ∷ cs) (AndArm body arms) t h f l n =
        let d = code_of P.types body in
        let u = unbind_code (length c) in
        let later = arm_codes P.types arms cs in
        let k = locals_in P.types (length env + length c) body in
        let arm_fits = front_fits (d ++ u) (behind later (laid later)) most_instructions n in
        let rest = back_fits (d ++ u) (behind later (laid later)) most_instructions n in
        let later_fits : length (laid later) ≤ most_instructions = omega (arith, rest, behind_fits later (laid later)) in
        let wide = subst (λ k. locals_in P.types k body ≤ most_locals) (sym (length-append env c)) (left_of k (locals_in_arms P.types (length env) cs arms) l) in
        let few_fields = All-head (λ (ts : List Ty). length ts ≤ most_fields) c cs f in
        both (d ++ u) (behind later (laid later))
        (both d u (small (env ++ c) body t h.0 wide (front_fits d u most_instructions arm_fits)) (unbind_small (length c) (omega (arith, few_fields))))
        (behind_small later (laid later)
        (arms_small env cs arms t h.1 (All-tail (λ (ts : List Ty). length ts ≤ most_fields) c cs f) (right_of k (locals_in_arms P.types (length env) cs arms) l) later_fits)
        later_fits)

  functions_small : (gs : List Function) → ((i : ℕ) (g : Function) → slice_get gs i ≡ Some g → HasType P g.parameters g.body g.result)
      → All IsFunctionWithin gs → All (IsBodyWithin P.types) gs → code_size (map (function_code P.types) gs) ≤ most_instructions → All IsSmall (map (function_code P.types) gs)
  functions_small [] typed within bodies size = All-nil IsSmall
  functions_small (g ∷ gs) typed within bodies size =
      let c = code_of P.types g.body in
      let b = All-head (IsBodyWithin P.types) g gs bodies in
      let short : length (c ++ Return ∷ []) ≤ most_instructions = omega (arith, size) in
      All-cons IsSmall (function_code P.types g) (map (function_code P.types) gs)
      (record {
        parameters = (All-head IsFunctionWithin g gs within).parameters;
        short = short;
        small = both c (Return ∷ []) (small g.parameters g.body g.result (typed 0 g refl) b.locals (front_fits c (Return ∷ []) most_instructions short)) (single Return tt);
      })
      (functions_small gs (λ i f at. typed (suc i) f at) (All-tail IsFunctionWithin g gs within) (All-tail (IsBodyWithin P.types) g gs bodies) (omega (arith, size)))

pub code_is_small : (code : Code) → (meaning (program_in code)).code ≡ None → All IsSmall (codes_in (meaning (program_in code)))
code_is_small code written =
    let P = meaning (program_in code) in
    let limits : IsWithinLimits P = code.program.limits in
    let bodies = limits.written written in
    let typed : IsWrittenWell P = subst (IsTypedAs P) written (is_typed (program_in code)) in
    let size : code_size (codes_in P) ≤ most_instructions = subst (λ o. code_size (codes_as P o) ≤ most_instructions) written (code_has_a_limit code) in
    functions_small P limits.functions limits.fields P.functions typed limits.each bodies.bodies size
