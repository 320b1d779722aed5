-- Code has at most four instructions an expression. Two fewer in fact: those are for the end of an arm's fields, and for the jump behind it.
use Rattle.std.proofs.Common.{◌≡◌, refl, ℕ, zero, suc, ◌+◌, ◌*◌, ◌≤◌, List, [], ◌∷◌, ◌++◌, length, map, slice_get, unwrap_or, Option, Some, None, arith, length-append}
use Rattle.core_terms.specs.Types.{Ty, Table}
use Rattle.core_terms.specs.Terms.{Expression, UnitE, BoolE, IntE, TextE, LocalE, PairE, FstE, SndE, NotE, LenE, AuthE, UnauthE, ConE, ArithE, CompareE, TextCompareE, CatE, LetE, IfE, MatchE, CallE, OperateE, Expressions, NoE, AndE, Arms, NoArm, AndArm, Function, Program, coded}
use Rattle.core_terms.specs.Programs.{meaning}
use Rattle.core_terms.specs.Instructions.{Instruction, Fst, Snd, Not, Len, Auth, Unauth, Make, Call, Pair, ArithOp, CompareOp, TextCompareOp, Cat, Bind, Unbind, Branch, Jump, Switch, Return}
use Rattle.core_terms.specs.GeneratedCode.{behind, laid, places, match_code, if_code, unbind_code, operation_code, code_of, code_all, arm_codes, function_code, codes_as, generated}
use Rattle.core_terms.specs.ProgramLimits.{most_expressions, most_functions, most_instructions}
use Rattle.core_terms.specs.ProgramSizes.{expressions_in, expressions_in_row, expressions_in_arms, expressions_in_all, instructions_in_all, IsShort, IsWithinLimits}
use Rattle.code_gen.specs.CodeSizes.{code_size, CodeIsShort, CodeHasALimit}

one : (c : List Instruction) (i : Instruction) (n : ℕ) → length c + 2 ≤ 4 * n → length (c ++ i ∷ []) + 2 ≤ 4 * suc n
one c i n h = let l = length-append c (i ∷ []) in omega (arith, h, l)

two : (c d : List Instruction) (i : Instruction) (m n : ℕ) → length c + 2 ≤ 4 * m → length d + 2 ≤ 4 * n → length (c ++ (d ++ i ∷ [])) + 2 ≤ 4 * suc (m + n)
two c d i m n h j =
    let l = length-append c (d ++ i ∷ []) in
    let k = length-append d (i ∷ []) in
    omega (arith, h, j, l, k)

row : (c : List Instruction) (i : Instruction) (n : ℕ) → length c ≤ 4 * n → length (c ++ i ∷ []) + 2 ≤ 4 * suc n
row c i n h = let l = length-append c (i ∷ []) in omega (arith, h, l)

behind_short : (later : List (List Instruction)) → length (behind later (laid later)) ≤ 1 + length (laid later)
behind_short [] = omega arith
behind_short (arm ∷ later) = omega arith

unbind_short : (n : ℕ) → length (unbind_code n) ≤ 1
unbind_short zero = omega arith
unbind_short (suc n) = omega arith

arm_short : (c : List Instruction) (later : List (List Instruction)) (m n : ℕ) → length c + 1 ≤ 4 * m → length (laid later) ≤ 4 * n → length (laid (c ∷ later)) ≤ 4 * (m + n)
arm_short c later m n h j =
    let l = length-append c (behind later (laid later)) in
    let b = behind_short later in
    omega (arith, h, j, l, b)

let_short : (c d : List Instruction) (m n : ℕ) → length c + 2 ≤ 4 * m → length d + 2 ≤ 4 * n → length (c ++ (Bind ∷ (d ++ Unbind 1 ∷ []))) + 2 ≤ 4 * suc (m + n)
let_short c d m n h j =
    let l = length-append c (Bind ∷ (d ++ Unbind 1 ∷ [])) in
    let k = length-append d (Unbind 1 ∷ []) in
    omega (arith, h, j, l, k)

if_short : (c d e : List Instruction) (m n o : ℕ) → length c + 2 ≤ 4 * m → length d + 2 ≤ 4 * n → length e + 2 ≤ 4 * o → length (if_code c d e) + 2 ≤ 4 * suc (m + n + o)
if_short c d e m n o h j i =
    let l = length-append c (Branch (length d + 1) ∷ (d ++ (Jump (length e) ∷ e))) in
    let k = length-append d (Jump (length e) ∷ e) in
    omega (arith, h, j, i, l, k)

match_short : (c : List Instruction) (number : ℕ) (arms : List (List Instruction)) (m n : ℕ) → length c + 2 ≤ 4 * m → length (laid arms) ≤ 4 * n
    → length (c ++ match_code number arms) + 2 ≤ 4 * suc (m + n)
match_short c number arms m n h j =
    let l = length-append c (Switch number (places 0 arms) ∷ laid arms) in
    omega (arith, h, j, l)

module _ (types : Table) where
  mutual
    short : (e : Expression) → length (code_of types e) + 2 ≤ 4 * expressions_in e
    short UnitE = omega arith
    short (BoolE b) = omega arith
    short (IntE z) = omega arith
    short (TextE bytes) = omega arith
    short (LocalE i) = omega arith
    short (PairE a b x y) = two (code_of types x) (code_of types y) Pair (expressions_in x) (expressions_in y) (short x) (short y)
    short (FstE a b x) = one (code_of types x) Fst (expressions_in x) (short x)
    short (SndE a b x) = one (code_of types x) Snd (expressions_in x) (short x)
    short (NotE x) = one (code_of types x) Not (expressions_in x) (short x)
    short (LenE x) = one (code_of types x) Len (expressions_in x) (short x)
    short (AuthE t x) = one (code_of types x) (Auth t) (expressions_in x) (short x)
    short (UnauthE t x) = one (code_of types x) (Unauth t) (expressions_in x) (short x)
    short (ConE number tag xs) = row (code_all types xs) (Make number tag) (expressions_in_row xs) (short_all xs)
    short (ArithE op x y) = two (code_of types x) (code_of types y) (ArithOp op) (expressions_in x) (expressions_in y) (short x) (short y)
    short (CompareE op x y) = two (code_of types x) (code_of types y) (CompareOp op) (expressions_in x) (expressions_in y) (short x) (short y)
    short (TextCompareE op x y) = two (code_of types x) (code_of types y) (TextCompareOp op) (expressions_in x) (expressions_in y) (short x) (short y)
    short (CatE x y) = two (code_of types x) (code_of types y) Cat (expressions_in x) (expressions_in y) (short x) (short y)
    short (LetE a x body) = let_short (code_of types x) (code_of types body) (expressions_in x) (expressions_in body) (short x) (short body)
    short (IfE test first other) =
        if_short (code_of types test) (code_of types first) (code_of types other) (expressions_in test) (expressions_in first) (expressions_in other) (short test) (short first) (short other)
    short (MatchE number x arms) =
        let cs = unwrap_or (slice_get types number) [] in
        match_short (code_of types x) number (arm_codes types arms cs) (expressions_in x) (expressions_in_arms arms) (short x) (short_arms arms cs)
    short (CallE f args) = row (code_all types args) (Call f) (expressions_in_row args) (short_all args)
    short (OperateE op xs) = row (code_all types xs) (operation_code op) (expressions_in_row xs) (short_all xs)

    short_all : (xs : Expressions) → length (code_all types xs) ≤ 4 * expressions_in_row xs
    short_all NoE = omega arith
    short_all (AndE x xs) =
        let l = length-append (code_of types x) (code_all types xs) in
        let h = short x in
        let j = short_all xs in
        omega (arith, l, h, j)

    short_arms : (arms : Arms) (cs : List (List Ty)) → length (laid (arm_codes types arms cs)) ≤ 4 * expressions_in_arms arms
    short_arms NoArm cs = omega arith
    short_arms (AndArm body arms) [] =
        let h = short body in
        arm_short (code_of types body) (arm_codes types arms []) (expressions_in body) (expressions_in_arms arms) (omega (arith, h)) (short_arms arms [])
    short_arms (AndArm body arms) (c ∷ cs) =
        let h = short body in
        let l = length-append (code_of types body) (unbind_code (length c)) in
        let u = unbind_short (length c) in
        arm_short (code_of types body ++ unbind_code (length c)) (arm_codes types arms cs) (expressions_in body) (expressions_in_arms arms) (omega (arith, h, l, u)) (short_arms arms cs)

  short_functions : (fs : List Function) → code_size (map (function_code types) fs) ≤ 4 * expressions_in_all fs + length fs
  short_functions [] = omega arith
  short_functions (f ∷ fs) =
      let l = length-append (code_of types f.body) (Return ∷ []) in
      let h = short f.body in
      let j = short_functions fs in
      omega (arith, l, h, j)

pub code_is_short : CodeIsShort
code_is_short P = short_functions P.types P.functions

own_code : (gs : List Function) (codes : List (List Instruction)) → code_size (coded gs codes) ≤ instructions_in_all codes
own_code [] codes = omega arith
own_code (g ∷ gs) [] = omega arith
own_code (g ∷ gs) (c ∷ codes) = let h = own_code gs codes in omega (arith, h)

-- of a program within the limits
limited : (P : Program) → IsWithinLimits P → code_size (generated P).functions ≤ most_instructions
limited P limits = by P.code refl limits.short
  where
    by : (o : Option (List (List Instruction))) → P.code ≡ o → IsShort o → code_size (codes_as P o) ≤ most_instructions
    by None is h = let short = code_is_short P in omega (arith, short, (limits.written is).expressions, limits.functions)
    by (Some codes) is h = let own = own_code P.functions codes in omega (arith, own, h)

pub code_has_a_limit : CodeHasALimit
code_has_a_limit code = limited (meaning code.program) code.program.limits
