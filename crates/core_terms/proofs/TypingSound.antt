-- Where the typing test says yes, the typing rules hold.
use Rattle.std.proofs.Common.{◌≡◌, ℕ, zero, suc, Bool, true, ◌&&◌, List, [], ◌∷◌, ◌++◌, length, Option, Some, None, slice_get, unwrap_or, ap, subst, eqb-true, leb-true, nat_eq}
use Rattle.std.specs.Str.{is_utf8}
use Rattle.std.proofs.lemmas.Str.{IsUtf8-from_is_utf8}
use Rattle.core_terms.specs.Types.{Ty, UnitTy, BoolTy, IntTy, TextTy, PairTy, NamedTy, AuthTy, fields_at, OnFields, same_type}
use Rattle.core_terms.specs.Terms.{Expression, UnitE, BoolE, IntE, TextE, LocalE, PairE, FstE, SndE, NotE, LenE, AuthE, UnauthE, ConE, ArithE, CompareE, TextCompareE, CatE, LetE, IfE, MatchE, CallE, OperateE, operand_types, result_type, Expressions, NoE, AndE, Arms, NoArm, AndArm, Program, Function, body_of}
use Rattle.core_terms.specs.TypingRules.{is_operation, OnFunction, HasType, HaveTypes, HaveArms, IsTypedAs, IsTyped}
use Rattle.core_terms.specs.Instructions.{Instruction}
use Rattle.core_terms.specs.Typing.{is_at, fields_test, function_test, has_type, have_types, have_arms, all_typed, is_typed_as, is_typed}
use Rattle.core_terms.proofs.SameTypes.{first_of, second_of, same_sound}
use Rattle.core_terms.proofs.KindsSound.{kinds_sound}

at_sound : (o : Option Ty) (t : Ty) → is_at o t ≡ true → o ≡ Some t
at_sound (Some a) t e = ap Some (same_sound a t e)
at_sound None t e = cc

on_fields_sound : (o : Option (List Ty)) (test : List Ty → Bool) (Q : List Ty → Type 0) → ((ts : List Ty) → test ts ≡ true → Q ts) → fields_test o test ≡ true → OnFields o Q
on_fields_sound (Some ts) test Q f e = f ts e
on_fields_sound None test Q f e = absurd (cc)

on_function_sound : (o : Option Function) (test : Function → Bool) (Q : Function → Type 0) → ((g : Function) → test g ≡ true → Q g) → function_test o test ≡ true → OnFunction o Q
on_function_sound (Some g) test Q f e = f g e
on_function_sound None test Q f e = absurd (cc)

module _ (P : Program) where
  mutual
    pub type_sound : (env : List Ty) (x : Expression) (t : Ty) → has_type P env x t ≡ true → HasType P env x t
    type_sound env UnitE t e = same_sound UnitTy t e
    type_sound env (BoolE b) t e = same_sound BoolTy t e
    type_sound env (IntE z) t e = (same_sound IntTy t (first_of _ _ e), second_of (same_type IntTy t) _ e)
    type_sound env (TextE bytes) t e =
        let r = second_of (same_type TextTy t) _ e in
        (same_sound TextTy t (first_of _ _ e), IsUtf8-from_is_utf8 bytes (first_of _ _ r), leb-true _ _ (second_of (is_utf8 bytes) _ r))
    type_sound env (LocalE i) t e = at_sound (slice_get env i) t e
    type_sound env (PairE a b x y) t e =
        let r = second_of (same_type (PairTy a b) t) _ e in
        (same_sound (PairTy a b) t (first_of _ _ e), type_sound env x a (first_of _ _ r), type_sound env y b (second_of (has_type P env x a) _ r))
    type_sound env (FstE a b x) t e = (same_sound a t (first_of _ _ e), type_sound env x (PairTy a b) (second_of (same_type a t) _ e))
    type_sound env (SndE a b x) t e = (same_sound b t (first_of _ _ e), type_sound env x (PairTy a b) (second_of (same_type b t) _ e))
    type_sound env (NotE x) t e = (same_sound BoolTy t (first_of _ _ e), type_sound env x BoolTy (second_of (same_type BoolTy t) _ e))
    type_sound env (LenE x) t e = (same_sound IntTy t (first_of _ _ e), type_sound env x TextTy (second_of (same_type IntTy t) _ e))
    type_sound env (AuthE a x) t e = (same_sound (AuthTy a) t (first_of _ _ e), type_sound env x a (second_of (same_type (AuthTy a) t) _ e))
    type_sound env (UnauthE a x) t e = (same_sound a t (first_of _ _ e), type_sound env x (AuthTy a) (second_of (same_type a t) _ e))
    type_sound env (ConE number tag xs) t e =
        (same_sound (NamedTy number) t (first_of _ _ e), on_fields_sound (fields_at P.types number tag) (λ ts. have_types P env xs ts) (λ ts. HaveTypes P env xs ts) (λ ts e. types_sound env xs ts e) (second_of (same_type (NamedTy number) t) _ e))
    type_sound env (ArithE op x y) t e =
        let r = second_of (same_type IntTy t) _ e in
        (same_sound IntTy t (first_of _ _ e), type_sound env x IntTy (first_of _ _ r), type_sound env y IntTy (second_of (has_type P env x IntTy) _ r))
    type_sound env (CompareE op x y) t e =
        let r = second_of (same_type BoolTy t) _ e in
        (same_sound BoolTy t (first_of _ _ e), type_sound env x IntTy (first_of _ _ r), type_sound env y IntTy (second_of (has_type P env x IntTy) _ r))
    type_sound env (TextCompareE op x y) t e =
        let r = second_of (same_type BoolTy t) _ e in
        (same_sound BoolTy t (first_of _ _ e), type_sound env x TextTy (first_of _ _ r), type_sound env y TextTy (second_of (has_type P env x TextTy) _ r))
    type_sound env (CatE x y) t e =
        let r = second_of (same_type TextTy t) _ e in
        (same_sound TextTy t (first_of _ _ e), type_sound env x TextTy (first_of _ _ r), type_sound env y TextTy (second_of (has_type P env x TextTy) _ r))
    type_sound env (LetE a x body) t e = (type_sound env x a (first_of _ _ e), type_sound (env ++ a ∷ []) body t (second_of (has_type P env x a) _ e))
    type_sound env (IfE test x y) t e =
        let r = second_of (has_type P env test BoolTy) _ e in
        (type_sound env test BoolTy (first_of _ _ e), type_sound env x t (first_of _ _ r), type_sound env y t (second_of (has_type P env x t) _ r))
    type_sound env (MatchE number x arms) t e =
        (type_sound env x (NamedTy number) (first_of _ _ e), arms_sound env (unwrap_or (slice_get P.types number) []) arms t (second_of (has_type P env x (NamedTy number)) _ e))
    type_sound env (CallE f args) t e =
        on_function_sound (slice_get P.functions f) (λ g. same_type g.result t && have_types P env args g.parameters) (λ g. (g.result ≡ t) × HaveTypes P env args g.parameters)
        (λ g e. (same_sound g.result t (first_of _ _ e), types_sound env args g.parameters (second_of (same_type g.result t) _ e))) e
    type_sound env (OperateE op xs) t e =
        let r = second_of (same_type (result_type op) t) _ e in
        (same_sound (result_type op) t (first_of _ _ e), first_of _ _ r, types_sound env xs (operand_types op) (second_of (is_operation op) _ r))

    types_sound : (env : List Ty) (xs : Expressions) (ts : List Ty) → have_types P env xs ts ≡ true → HaveTypes P env xs ts
    types_sound env NoE [] e = tt
    types_sound env (AndE x xs) (t ∷ ts) e = (type_sound env x t (first_of _ _ e), types_sound env xs ts (second_of (has_type P env x t) _ e))
    types_sound env xs ts e = absurd (cc)

    arms_sound : (env : List Ty) (cs : List (List Ty)) (arms : Arms) (t : Ty) → have_arms P env cs arms t ≡ true → HaveArms P env cs arms t
    arms_sound env [] NoArm t e = tt
    arms_sound env (c ∷ cs) (AndArm x arms) t e = (type_sound (env ++ c) x t (first_of _ _ e), arms_sound env cs arms t (second_of (has_type P (env ++ c) x t) _ e))
    arms_sound env cs arms t e = absurd (cc)

  funs_sound : (gs : List Function) → all_typed P gs ≡ true → (f : ℕ) (g : Function) → slice_get gs f ≡ Some g → HasType P g.parameters g.body g.result
  funs_sound [] e f g at = absurd (cc)
  funs_sound (g ∷ gs) e zero g' at =
      let same : g ≡ g' = cc in
      let T : Function → Type 0 = λ g. HasType P g.parameters g.body g.result in
      subst T same (type_sound g.parameters g.body g.result (first_of _ _ e))
  funs_sound (g ∷ gs) e (suc f) g' at = funs_sound gs (second_of (has_type P g.parameters g.body g.result) _ e) f g' at

  typed_as_sound : (o : Option (List (List Instruction))) → is_typed_as P o ≡ true → IsTypedAs P o
  typed_as_sound None e = funs_sound P.functions e
  typed_as_sound (Some codes) e =
      record { each = eqb-true _ _ (first_of _ _ e); accepted = kinds_sound (body_of P codes) (second_of (nat_eq (length codes) (length P.functions)) _ e) }

  pub typed_sound : is_typed P ≡ true → IsTyped P
  typed_sound e = typed_as_sound P.code e
