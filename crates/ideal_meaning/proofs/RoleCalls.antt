-- The call of a query or update: its parameters and its result, and an argument without `auth`.
use Rattle.std.proofs.Common.{◌≡◌, ℕ, zero, suc, false, List, [], ◌∷◌, Option, Some, None, unwrap_or, slice_get, refl, sym, ap, ◌∙◌}
use Rattle.core_terms.specs.Types.{Ty, PairTy, NamedTy, AuthTy, VecTy, Table, fields_at, item_types, OnFields}
use Rattle.core_terms.specs.Values.{Value, PairV, ConV, ItemsV, Values, AndV, IsIdeal, AreIdeal, AuthWithin, AuthWithinAll}
use Rattle.core_terms.specs.Terms.{Kind, Inner, Init, Query, Update, no_function, Program, function_at}
use Rattle.core_terms.specs.Roles.{some_passes, has_auth_within}
use Rattle.core_terms.specs.RoleTypes.{IsPlain, role_parameters, role_result, ReadsState, IsRole}
use Rattle.core_terms.proofs.Plain.{first_no, second_no, fields_none, items_plain}

-- a query or update takes the state and an argument
state_first : (kind : Kind) (state t : Ty) → ReadsState kind → role_parameters kind state t ≡ state ∷ t ∷ []
state_first Inner state t h = elim h [ ]
state_first Init state t h = elim h [ ]
state_first Query state t h = refl
state_first Update state t h = refl

pub parameters_are : (P : Program) (f : ℕ) (kind : Kind) (t answer : Ty) → IsRole P f kind t answer → ReadsState kind → (function_at P f).parameters ≡ P.state ∷ t ∷ []
parameters_are P f kind t answer role reads =
    ap (λ o. (unwrap_or o no_function).parameters) role.there ∙ role.parameters ∙ state_first kind P.state t reads

pub result_is : (P : Program) (f : ℕ) (kind : Kind) (t answer : Ty) → IsRole P f kind t answer → (function_at P f).result ≡ role_result kind P.state answer
result_is P f kind t answer role = ap (λ o. (unwrap_or o no_function).result) role.there ∙ role.result

module _ (limit : ℕ) (types : Table) where
  -- nothing is authenticated in a value of a plain type
  mutual
    pub plain_within : (t : Ty) (v : Value) → IsPlain types t → IsIdeal types t v → AuthWithin limit types t v
    plain_within (AuthTy t) v plain h = let e = plain zero in absurd (cc)
    plain_within (PairTy a b) (PairV x y) plain h =
        (plain_within a x (λ n. first_no (has_auth_within types n a) (has_auth_within types n b) (plain n)) h.0, plain_within b y (λ n. second_no (has_auth_within types n a) (has_auth_within types n b) (plain n)) h.1)
    plain_within (NamedTy number) (ConV tag vs) plain h =
        plain_within_all (fields_at types number tag) vs (λ n ts e. fields_none types n tag (slice_get types number) ts (plain (suc n)) e) h
    plain_within (VecTy n t) (ItemsV vs) plain h =
        plain_within_all (Some (item_types n t)) vs (λ opened ts e. let same : item_types n t ≡ ts = cc in ap (some_passes (has_auth_within types opened)) (sym same) ∙ items_plain types t n plain opened) h
    plain_within t v plain h = tt

    plain_within_all : (o : Option (List Ty)) (vs : Values) → ((opened : ℕ) (ts : List Ty) → o ≡ Some ts → some_passes (has_auth_within types opened) ts ≡ false)
        → OnFields o (λ ts. AreIdeal types ts vs) → OnFields o (λ ts. AuthWithinAll limit types ts vs)
    plain_within_all (Some (t ∷ ts)) (AndV v vs) plain h = (
      plain_within t v (λ n. first_no (has_auth_within types n t) (some_passes (has_auth_within types n) ts) (plain n (t ∷ ts) refl)) h.0,
      plain_within_all (Some ts) vs (λ n us e. let same : ts ≡ us = cc in let none = second_no (has_auth_within types n t) (some_passes (has_auth_within types n) ts) (plain n (t ∷ ts) refl) in cc) h.1,
    )
    plain_within_all (Some ts) vs plain h = tt
    plain_within_all None vs plain h = elim h [ ]
