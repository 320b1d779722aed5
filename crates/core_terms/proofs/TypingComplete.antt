-- Where the typing rules hold, the typing test says yes.
use Rattle.std.proofs.Common.{◌≡◌, ℕ, suc, Bool, true, false, ◌&&◌, List, [], ◌∷◌, ◌++◌, length, Option, Some, None, slice_get, unwrap_or, refl, sym, subst, eq-eqb, le-leb}
use Rattle.std.proofs.lemmas.Str.{is_utf8-from_IsUtf8}
use Rattle.core_terms.specs.Types.{Ty, UnitTy, BoolTy, IntTy, TextTy, PairTy, NamedTy, AuthTy, VecTy, fields_at, OnFields, same_type}
use Rattle.core_terms.specs.Terms.{Expression, UnitE, BoolE, IntE, TextE, LocalE, PairE, FstE, SndE, NotE, LenE, AuthE, UnauthE, ConE, ArithE, CompareE, TextCompareE, CatE, LetE, IfE, MatchE, CallE, OperateE, operand_types, result_type, Expressions, NoE, AndE, Arms, NoArm, AndArm, Program, Function}
use Rattle.core_terms.specs.TypingRules.{OnFunction, HasType, HaveTypes, HaveArms, IsTypedAs, IsTyped}
use Rattle.core_terms.specs.Typing.{is_at, fields_test, function_test, has_type, have_types, have_arms, all_typed, is_typed_as, is_typed}

pub both : (a b : Bool) → a ≡ true → b ≡ true → a && b ≡ true
both true b h j = j
both false b h j = h

pub same_self : (t : Ty) → same_type t t ≡ true
same_self UnitTy = refl
same_self BoolTy = refl
same_self IntTy = refl
same_self TextTy = refl
same_self (PairTy a b) = both _ _ (same_self a) (same_self b)
same_self (NamedTy n) = eq-eqb n n refl
same_self (AuthTy t) = same_self t
same_self (VecTy n t) = both _ _ (eq-eqb n n refl) (same_self t)

pub same_complete : (a b : Ty) → a ≡ b → same_type a b ≡ true
same_complete a b e = subst (λ b. same_type a b ≡ true) e (same_self a)

at_complete : (o : Option Ty) (t : Ty) → o ≡ Some t → is_at o t ≡ true
at_complete o t e = subst (λ o. is_at o t ≡ true) (sym e) (same_self t)

on_fields_complete : (o : Option (List Ty)) (test : List Ty → Bool) (Q : List Ty → Type 0) → ((ts : List Ty) → Q ts → test ts ≡ true) → OnFields o Q → fields_test o test ≡ true
on_fields_complete (Some ts) test Q f h = f ts h
on_fields_complete None test Q f h = elim h [ ]

on_function_complete : (o : Option Function) (test : Function → Bool) (Q : Function → Type 0) → ((g : Function) → Q g → test g ≡ true) → OnFunction o Q → function_test o test ≡ true
on_function_complete (Some g) test Q f h = f g h
on_function_complete None test Q f h = elim h [ ]

module _ (P : Program) where
  mutual
    pub type_complete : (env : List Ty) (x : Expression) (t : Ty) → HasType P env x t → has_type P env x t ≡ true
    type_complete env UnitE t h = same_complete UnitTy t h
    type_complete env (BoolE b) t h = same_complete BoolTy t h
    type_complete env (IntE z) t h = both _ _ (same_complete IntTy t h.0) h.1
    type_complete env (TextE bytes) t h = both _ _ (same_complete TextTy t h.0) (both _ _ (is_utf8-from_IsUtf8 bytes h.1) (le-leb (length bytes) 65532 h.2))
    type_complete env (LocalE i) t h = at_complete (slice_get env i) t h
    type_complete env (PairE a b x y) t h = both _ _ (same_complete (PairTy a b) t h.0) (both _ _ (type_complete env x a h.1) (type_complete env y b h.2))
    type_complete env (FstE a b x) t h = both _ _ (same_complete a t h.0) (type_complete env x (PairTy a b) h.1)
    type_complete env (SndE a b x) t h = both _ _ (same_complete b t h.0) (type_complete env x (PairTy a b) h.1)
    type_complete env (NotE x) t h = both _ _ (same_complete BoolTy t h.0) (type_complete env x BoolTy h.1)
    type_complete env (LenE x) t h = both _ _ (same_complete IntTy t h.0) (type_complete env x TextTy h.1)
    type_complete env (AuthE a x) t h = both _ _ (same_complete (AuthTy a) t h.0) (type_complete env x a h.1)
    type_complete env (UnauthE a x) t h = both _ _ (same_complete a t h.0) (type_complete env x (AuthTy a) h.1)
    type_complete env (ConE number tag xs) t h =
        both _ _ (same_complete (NamedTy number) t h.0)
        (on_fields_complete (fields_at P.types number tag) (λ ts. have_types P env xs ts) (λ ts. HaveTypes P env xs ts) (λ ts h. types_complete env xs ts h) h.1)
    type_complete env (ArithE op x y) t h = both _ _ (same_complete IntTy t h.0) (both _ _ (type_complete env x IntTy h.1) (type_complete env y IntTy h.2))
    type_complete env (CompareE op x y) t h = both _ _ (same_complete BoolTy t h.0) (both _ _ (type_complete env x IntTy h.1) (type_complete env y IntTy h.2))
    type_complete env (TextCompareE op x y) t h = both _ _ (same_complete BoolTy t h.0) (both _ _ (type_complete env x TextTy h.1) (type_complete env y TextTy h.2))
    type_complete env (CatE x y) t h = both _ _ (same_complete TextTy t h.0) (both _ _ (type_complete env x TextTy h.1) (type_complete env y TextTy h.2))
    type_complete env (LetE a x body) t h = both _ _ (type_complete env x a h.0) (type_complete (env ++ a ∷ []) body t h.1)
    type_complete env (IfE test x y) t h = both _ _ (type_complete env test BoolTy h.0) (both _ _ (type_complete env x t h.1) (type_complete env y t h.2))
    type_complete env (MatchE number x arms) t h = both _ _ (type_complete env x (NamedTy number) h.0) (arms_complete env (unwrap_or (slice_get P.types number) []) arms t h.1)
    type_complete env (CallE f args) t h =
        on_function_complete (slice_get P.functions f) (λ g. same_type g.result t && have_types P env args g.parameters) (λ g. (g.result ≡ t) × HaveTypes P env args g.parameters)
        (λ g h. both _ _ (same_complete g.result t h.0) (types_complete env args g.parameters h.1)) h
    type_complete env (OperateE op xs) t h = both _ _ (same_complete (result_type op) t h.0) (both _ _ h.1 (types_complete env xs (operand_types op) h.2))

    types_complete : (env : List Ty) (xs : Expressions) (ts : List Ty) → HaveTypes P env xs ts → have_types P env xs ts ≡ true
    types_complete env NoE [] h = refl
    types_complete env NoE (t ∷ ts) h = elim h [ ]
    types_complete env (AndE x xs) [] h = elim h [ ]
    types_complete env (AndE x xs) (t ∷ ts) h = both _ _ (type_complete env x t h.0) (types_complete env xs ts h.1)

    arms_complete : (env : List Ty) (cs : List (List Ty)) (arms : Arms) (t : Ty) → HaveArms P env cs arms t → have_arms P env cs arms t ≡ true
    arms_complete env [] NoArm t h = refl
    arms_complete env (c ∷ cs) NoArm t h = elim h [ ]
    arms_complete env [] (AndArm x arms) t h = elim h [ ]
    arms_complete env (c ∷ cs) (AndArm x arms) t h = both _ _ (type_complete (env ++ c) x t h.0) (arms_complete env cs arms t h.1)

  functions_complete : (gs : List Function) → ((f : ℕ) (g : Function) → slice_get gs f ≡ Some g → HasType P g.parameters g.body g.result) → all_typed P gs ≡ true
  functions_complete [] h = refl
  functions_complete (g ∷ gs) h = both _ _ (type_complete g.parameters g.body g.result (h 0 g refl)) (functions_complete gs (λ f. h (suc f)))

  pub typed_complete : P.code ≡ None → IsTyped P → is_typed P ≡ true
  typed_complete written h =
      subst (λ o. is_typed_as P o ≡ true) (sym written) (functions_complete P.functions (subst (IsTypedAs P) written h))
