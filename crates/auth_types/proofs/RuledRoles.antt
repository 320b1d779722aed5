-- The third pass is by the rules of roles.
use Rattle.std.proofs.Common.{◌≡◌, ℕ, zero, suc, Bool, true, false, not, ◌&&◌, ◌||◌, List, [], ◌∷◌, ◌++◌, ◌⊎◌, inl, inr, length, Option, Some, None, unwrap_or, slice_get, refl, sym, ap, ◌∙◌, subst, arith}
use Rattle.std.specs.Bool.{Decides}
use Rattle.std.specs.List.{Contains}
use Rattle.std.proofs.lemmas.Bool.Decides.{Decides-and, Decides-not}
use Rattle.core_terms.specs.Types.{Ty, UnitTy, BoolTy, IntTy, TextTy, PairTy, NamedTy, AuthTy, VecTy, Table, same_type}
use Rattle.core_terms.specs.declared.format.Format.{Format}
use Rattle.core_terms.specs.Roles.{some_passes, has_auth, has_auth_within}
use Rattle.core_terms.proofs.Reach.{plain_by_test}
use Rattle.core_terms.proofs.SameTypes.{same_sound}
use Rattle.core_terms.proofs.TypingComplete.{same_complete}
use Rattle.lexemes.specs.declared.place.Place.{Place}
use Rattle.auth_syntax.specs.Syntax.{TypeSyntax, ParameterSyntax, KindSyntax, InnerSyntax, InitSyntax, QuerySyntax, UpdateSyntax, FunctionSyntax, place_of_type}
use Rattle.declared_types.specs.Checking.{Checking, FaultAt, then_checked, unless_fault}
use Rattle.declared_types.specs.RoleRules.{checked_role, checked_roles, is_new_state, plain_argument}
use Rattle.declared_types.specs.WrittenTypes.{type_meant}
use Rattle.auth_types.specs.InOrder.{EachMeets, OneBreaks}
use Rattle.auth_types.specs.RoleShapes.{AuthStandsIn, StandsHere, StandsInFirst, StandsInSecond, StandsInItem, StandsInField, HasShape, InitShape, QueryShape, UpdateShape, MeetsRole, IsInner, IsShaped, BreaksRole, IsMisshapen, PassesAuth}
use Rattle.declared_types.specs.declared.fault.TypeKind.{TypeKind}
use Rattle.declared_types.specs.declared.fault.TypeKind.TheVariants.{RoleShape, AuthInArgument}
use Rattle.auth_types.proofs.Judging.{type_decides}
use Rattle.auth_types.proofs.Ruled.{Ruled, fine, refused, each_checked, each_ruled, nothing_left, ruled_like, ruled_same, ruled_unless}

-- a test that passes at an element
passes_where : {A : Type 0} (test : A → Bool) (xs : List A) (x : A) → Contains xs x → test x ≡ true → some_passes test xs ≡ true
passes_where test [] x (k, inside, is) passes = absurd (omega (arith, inside))
passes_where test (y ∷ ys) x (zero, inside, is) passes = ap (λ b. b || some_passes test ys) (ap test is ∙ passes)
passes_where test (y ∷ ys) x (suc k, inside, is) passes = by (test y) (passes_where test ys x (k, omega (arith, inside), is) passes)
  where
    by : (b : Bool) → some_passes test ys ≡ true → b || some_passes test ys ≡ true
    by true e = refl
    by false e = e

where_passes : {A : Type 0} (test : A → Bool) (xs : List A) → some_passes test xs ≡ true → (x : A) × Contains xs x × (test x ≡ true)
where_passes test [] e = absurd (cc)
where_passes {A} test (y ∷ ys) e = by (test y) refl (λ e. where_passes test ys e) e
  where
    by : (b : Bool) → test y ≡ b → (some_passes test ys ≡ true → (x : A) × Contains ys x × (test x ≡ true)) → b || some_passes test ys ≡ true
        → (x : A) × Contains (y ∷ ys) x × (test x ≡ true)
    by true is rest e = (y, (zero, omega arith, refl), is)
    by false is rest e = let (x, (k, inside, at), passes) = rest e in (x, (suc k, omega (arith, inside), at), passes)

either_true : (a b : Bool) → a || b ≡ true → (a ≡ true) ⊎ (b ≡ true)
either_true true b e = inl refl
either_true false b e = inr e

or_first : (a b : Bool) → a ≡ true → a || b ≡ true
or_first true b e = refl
or_first false b e = absurd (cc)

or_second : (a b : Bool) → b ≡ true → a || b ≡ true
or_second true b e = refl
or_second false b e = e

module _ (table : Table) where
  -- an `auth` that stands in a type is found by opening types often enough
  stands_within : {t : Ty} → AuthStandsIn table t → (n : ℕ) × (has_auth_within table n t ≡ true)
  stands_within StandsHere = (zero, refl)
  stands_within (StandsInFirst {a = a} {b = b} h) = let (n, e) = stands_within h in (n, or_first (has_auth_within table n a) (has_auth_within table n b) e)
  stands_within (StandsInSecond {a = a} {b = b} h) = let (n, e) = stands_within h in (n, or_second (has_auth_within table n a) (has_auth_within table n b) e)
  stands_within (StandsInItem h) = stands_within h
  stands_within (StandsInField {number = number} {constructors = constructors} {fields = fields} {t = t} there in_type in_fields h) =
      let (n, e) = stands_within h in
      let here : some_passes (has_auth_within table n) fields ≡ true = passes_where (has_auth_within table n) fields t in_fields e in
      let all : some_passes (some_passes (has_auth_within table n)) constructors ≡ true = passes_where (some_passes (has_auth_within table n)) constructors fields in_type here in
      (suc n, ap (λ o. some_passes (some_passes (has_auth_within table n)) (unwrap_or o [])) there ∙ all)

  within_stands : (n : ℕ) (t : Ty) → has_auth_within table n t ≡ true → AuthStandsIn table t
  within_stands n (AuthTy t) e = StandsHere
  within_stands n (PairTy a b) e = by (either_true (has_auth_within table n a) (has_auth_within table n b) e) (λ h. within_stands n a h) (λ h. within_stands n b h)
    where
      by : (has_auth_within table n a ≡ true) ⊎ (has_auth_within table n b ≡ true) → (has_auth_within table n a ≡ true → AuthStandsIn table a)
          → (has_auth_within table n b ≡ true → AuthStandsIn table b) → AuthStandsIn table (PairTy a b)
      by (inl h) f g = StandsInFirst (f h)
      by (inr h) f g = StandsInSecond (g h)
  within_stands (suc n) (NamedTy number) e = by (slice_get table number) refl (λ t h. within_stands n t h) e
    where
      by : (o : Option (List (List Ty))) → slice_get table number ≡ o → ((t : Ty) → has_auth_within table n t ≡ true → AuthStandsIn table t)
          → some_passes (some_passes (has_auth_within table n)) (unwrap_or o []) ≡ true → AuthStandsIn table (NamedTy number)
      by None there find e = absurd (cc)
      by (Some constructors) there find e =
          let (fields, in_type, some) = where_passes (some_passes (has_auth_within table n)) constructors e in
          let (t, in_fields, here) = where_passes (has_auth_within table n) fields some in
          StandsInField there in_type in_fields (find t here)
  within_stands zero (NamedTy number) e = absurd (cc)
  within_stands n (VecTy len t) e = StandsInItem (within_stands n t e)
  within_stands n UnitTy e = absurd (cc)
  within_stands n BoolTy e = absurd (cc)
  within_stands n IntTy e = absurd (cc)
  within_stands n TextTy e = absurd (cc)

  pub auth_decides : (t : Ty) → Decides (has_auth table t) (AuthStandsIn table t)
  auth_decides t = (λ e. within_stands (length table) t e, λ h. by (has_auth table t) refl h)
    where
      by : (b : Bool) → has_auth table t ≡ b → AuthStandsIn table t → b ≡ true
      by true is h = refl
      by false is h = let (n, e) = stands_within h in let plain : has_auth_within table n t ≡ false = plain_by_test table t is n in absurd (cc)

-- what is decided stands where it can't fail to
stands_at_last : {P : Type 0} (b : Bool) → Decides b P → ((P → ⊥) → ⊥) → P
stands_at_last true d h = d.0 refl
stands_at_last false d h = absurd (h (λ p. let f : false ≡ true = d.1 p in absurd (cc)))

-- a pair of a new state and an answer
new_decides : (state t : Ty) → Decides (is_new_state state t) ((answer : Ty) × (t ≡ PairTy state answer))
new_decides state (PairTy new answer) = (λ e. (answer, ap (λ n. PairTy n answer) (sym (same_sound state new e))), λ (a, is). same_complete state new (cc))
new_decides state UnitTy = (λ e. absurd (cc), λ (a, is). absurd (cc))
new_decides state BoolTy = (λ e. absurd (cc), λ (a, is). absurd (cc))
new_decides state IntTy = (λ e. absurd (cc), λ (a, is). absurd (cc))
new_decides state TextTy = (λ e. absurd (cc), λ (a, is). absurd (cc))
new_decides state (NamedTy number) = (λ e. absurd (cc), λ (a, is). absurd (cc))
new_decides state (VecTy n t) = (λ e. absurd (cc), λ (a, is). absurd (cc))
new_decides state (AuthTy t) = (λ e. absurd (cc), λ (a, is). absurd (cc))

module _ (format : Format) (names : List (List ℕ)) (table : Table) (state : Ty) where
  -- the type that an argument is written with has `auth` in it
  abbrev HasAuth : TypeSyntax → Type 0
  HasAuth argument = AuthStandsIn table (type_meant format names argument)

  -- the third pass at a function, and what the rules say of it
  abbrev role_step : List FunctionSyntax → FunctionSyntax → Checking (Unit {0})
  role_step before f = checked_role format names table state f f.kind f.parameters

  abbrev Fulfils : List FunctionSyntax → FunctionSyntax → Type 0
  Fulfils = MeetsRole format names table state

  abbrev Violates : List FunctionSyntax → FunctionSyntax → TypeKind → Place → Type 0
  Violates = BreaksRole format names table state

  -- the shapes, by kind
  inner_shape : {parameters : List ParameterSyntax} {result argument : TypeSyntax} → HasShape format names state InnerSyntax parameters result argument → ⊥
  inner_shape h = elim h [ ]

  init_shape : {p : ParameterSyntax} {result argument : TypeSyntax} → HasShape format names state InitSyntax (p ∷ []) result argument → (state ≡ type_meant format names result) × (p.of_type ≡ argument)
  init_shape (InitShape is) = (sym is, refl)

  query_shape : {s p : ParameterSyntax} {result argument : TypeSyntax} → HasShape format names state QuerySyntax (s ∷ p ∷ []) result argument
      → (state ≡ type_meant format names s.of_type) × (p.of_type ≡ argument)
  query_shape (QueryShape is) = (sym is, refl)

  update_shape : {s p : ParameterSyntax} {result argument : TypeSyntax} → HasShape format names state UpdateSyntax (s ∷ p ∷ []) result argument
      → ((state ≡ type_meant format names s.of_type) × ((answer : Ty) × (type_meant format names result ≡ PairTy state answer))) × (p.of_type ≡ argument)
  update_shape (UpdateShape {answer = answer} is gives) = ((sym is, (answer, gives)), refl)

  -- the wrong number of parameters
  init_none : {result argument : TypeSyntax} → HasShape format names state InitSyntax [] result argument → ⊥
  init_none h = elim h [ ]

  init_two : {p q : ParameterSyntax} {rest : List ParameterSyntax} {result argument : TypeSyntax} → HasShape format names state InitSyntax (p ∷ q ∷ rest) result argument → ⊥
  init_two h = elim h [ ]

  query_none : {result argument : TypeSyntax} → HasShape format names state QuerySyntax [] result argument → ⊥
  query_none h = elim h [ ]

  query_one : {p : ParameterSyntax} {result argument : TypeSyntax} → HasShape format names state QuerySyntax (p ∷ []) result argument → ⊥
  query_one h = elim h [ ]

  query_three : {p q r : ParameterSyntax} {rest : List ParameterSyntax} {result argument : TypeSyntax} → HasShape format names state QuerySyntax (p ∷ q ∷ r ∷ rest) result argument → ⊥
  query_three h = elim h [ ]

  update_none : {result argument : TypeSyntax} → HasShape format names state UpdateSyntax [] result argument → ⊥
  update_none h = elim h [ ]

  update_one : {p : ParameterSyntax} {result argument : TypeSyntax} → HasShape format names state UpdateSyntax (p ∷ []) result argument → ⊥
  update_one h = elim h [ ]

  update_three : {p q r : ParameterSyntax} {rest : List ParameterSyntax} {result argument : TypeSyntax} → HasShape format names state UpdateSyntax (p ∷ q ∷ r ∷ rest) result argument → ⊥
  update_three h = elim h [ ]

  module _ (f : FunctionSyntax) where
    abbrev IsShape : KindSyntax → List ParameterSyntax → TypeSyntax → Type 0
    IsShape kind parameters argument = HasShape format names state kind parameters f.result_type argument

    -- a fact on its types fails, or its argument has `auth` in it
    abbrev Misfit : Type 0 → TypeSyntax → TypeKind → Place → Type 0
    Misfit P argument k p =
        ((P → ⊥) × (RoleShape ≡ k) × (f.name.at ≡ p))
        ⊎ (P × ((((HasAuth argument → ⊥) → ⊥) × (AuthInArgument ≡ k) × (place_of_type argument ≡ p)) ⊎ ((HasAuth argument → ⊥) × ⊥)))

    -- a function of this kind and with these parameters
    abbrev Meets : KindSyntax → List ParameterSyntax → Type 0
    Meets kind parameters = (kind ≡ InnerSyntax) ⊎ ((argument : TypeSyntax) × IsShape kind parameters argument × (HasAuth argument → ⊥))

    abbrev Breaks : KindSyntax → List ParameterSyntax → TypeKind → Place → Type 0
    Breaks kind parameters k p =
        ((kind ≡ InnerSyntax → ⊥) × ((argument : TypeSyntax) → IsShape kind parameters argument → ⊥) × (RoleShape ≡ k) × (f.name.at ≡ p))
        ⊎ ((argument : TypeSyntax) × IsShape kind parameters argument × HasAuth argument × (AuthInArgument ≡ k) × (place_of_type argument ≡ p))

    misshapen : (kind : KindSyntax) (parameters : List ParameterSyntax) → (kind ≡ InnerSyntax → ⊥) → ((argument : TypeSyntax) → IsShape kind parameters argument → ⊥)
        → Ruled (refused RoleShape f.name.at) (λ _. Meets kind parameters) (Breaks kind parameters)
    misshapen kind parameters entered never = record { judged = inl (entered, never, refl, refl); passes = λ a h. passed h; tells = λ k p b. told k p b }
      where
        passed : Meets kind parameters → refused RoleShape f.name.at ≡ fine
        passed (inl inner) = absurd (entered inner)
        passed (inr (argument, shape, plain)) = absurd (never argument shape)

        told : (k : TypeKind) (p : Place) → Breaks kind parameters k p → refused RoleShape f.name.at ≡ FaultAt k p
        told k p (inl (entered, never, same, here)) = ap (λ k. FaultAt k f.name.at) same ∙ ap (FaultAt k) here
        told k p (inr (argument, shape, auth, same, here)) = absurd (never argument shape)

    fitting : (kind : KindSyntax) (parameters : List ParameterSyntax) (argument : TypeSyntax) (b : Bool) (P : Type 0) → (kind ≡ InnerSyntax → ⊥) → Decides b P
        → (P → IsShape kind parameters argument) → ((other : TypeSyntax) → IsShape kind parameters other → P × (argument ≡ other))
        → Ruled (plain_argument format names table f b argument) (λ _. Meets kind parameters) (Breaks kind parameters)
    fitting kind parameters argument b P entered d shaped shape =
        let Auth = HasAuth argument in
        let Plain : Type 0 = Auth → ⊥ in
        let G : TypeKind → Place → Type 0 = λ k p. ((Plain → ⊥) × (AuthInArgument ≡ k) × (place_of_type argument ≡ p)) ⊎ (Plain × ⊥) in
        let auth = auth_decides table (type_meant format names argument) in
        ruled_like (plain_argument format names table f b argument) (λ _. P × (Plain × Unit {0})) (λ _. Meets kind parameters)
        (λ k p. ((P → ⊥) × (RoleShape ≡ k) × (f.name.at ≡ p)) ⊎ (P × G k p)) (Breaks kind parameters)
        (λ _ h. inr (argument, shaped h.0, h.1.0)) (λ _ h. met h) breaks broken
        (ruled_unless P (λ _. Plain × Unit {0}) G b RoleShape f.name.at (unless_fault (not (has_auth table (type_meant format names argument))) AuthInArgument (place_of_type argument) fine) d
        (λ _. ruled_unless Plain (λ _. Unit {0}) (λ k p. ⊥) (not (has_auth table (type_meant format names argument))) AuthInArgument (place_of_type argument) fine
        (Decides-not (has_auth table (type_meant format names argument)) auth) (λ _. nothing_left)))
      where
        met : Meets kind parameters → P × ((HasAuth argument → ⊥) × Unit {0})
        met (inl inner) = absurd (entered inner)
        met (inr (other, h, plain)) = let (p, same) = shape other h in (p, (subst (λ t. AuthStandsIn table (type_meant format names t) → ⊥) (sym same) plain, tt))

        breaks : (k : TypeKind) (p : Place)
            → Misfit P argument k p
            → Breaks kind parameters k p
        breaks k p (inl (never, same, here)) = inl (entered, λ other h. never (shape other h).0, same, here)
        breaks k p (inr (holds, inl (auth, same, here))) =
            inr (argument, shaped holds, stands_at_last (has_auth table (type_meant format names argument)) (auth_decides table (type_meant format names argument)) auth, same, here)
        breaks k p (inr (holds, inr (plain, never))) = absurd never

        broken : (k : TypeKind) (p : Place) → Breaks kind parameters k p
            → Misfit P argument k p
        broken k p (inl (entered, never, same, here)) = inl (λ holds. never argument (shaped holds), same, here)
        broken k p (inr (other, h, auth, same, here)) =
            let (holds, is) = shape other h in
            inr (holds, inl (λ plain. plain (subst (λ t. AuthStandsIn table (type_meant format names t)) (sym is) auth), same, ap place_of_type is ∙ here))

    role_judged : (kind : KindSyntax) (parameters : List ParameterSyntax) → Ruled (checked_role format names table state f kind parameters) (λ _. Meets kind parameters) (Breaks kind parameters)
    role_judged InnerSyntax parameters = record { judged = inl refl; passes = λ a h. refl; tells = λ k p b. told k p b }
      where
        told : (k : TypeKind) (p : Place) → Breaks InnerSyntax parameters k p → fine ≡ FaultAt k p
        told k p (inl (entered, never, same, here)) = absurd (entered refl)
        told k p (inr (argument, shape, auth, same, here)) = absurd (inner_shape shape)
    role_judged InitSyntax [] = misshapen InitSyntax [] (λ e. absurd (cc)) (λ argument h. init_none h)
    role_judged InitSyntax (p ∷ []) =
        fitting InitSyntax (p ∷ []) p.of_type (same_type state (type_meant format names f.result_type)) (state ≡ type_meant format names f.result_type) (λ e. absurd (cc))
        (type_decides state (type_meant format names f.result_type))
        (λ is. InitShape (sym is)) (λ other h. init_shape h)
    role_judged InitSyntax (p ∷ q ∷ rest) = misshapen InitSyntax (p ∷ q ∷ rest) (λ e. absurd (cc)) (λ argument h. init_two h)
    role_judged QuerySyntax [] = misshapen QuerySyntax [] (λ e. absurd (cc)) (λ argument h. query_none h)
    role_judged QuerySyntax (s ∷ []) = misshapen QuerySyntax (s ∷ []) (λ e. absurd (cc)) (λ argument h. query_one h)
    role_judged QuerySyntax (s ∷ p ∷ []) =
        fitting QuerySyntax (s ∷ p ∷ []) p.of_type (same_type state (type_meant format names s.of_type)) (state ≡ type_meant format names s.of_type) (λ e. absurd (cc))
        (type_decides state (type_meant format names s.of_type))
        (λ is. QueryShape (sym is)) (λ other h. query_shape h)
    role_judged QuerySyntax (s ∷ p ∷ q ∷ rest) = misshapen QuerySyntax (s ∷ p ∷ q ∷ rest) (λ e. absurd (cc)) (λ argument h. query_three h)
    role_judged UpdateSyntax [] = misshapen UpdateSyntax [] (λ e. absurd (cc)) (λ argument h. update_none h)
    role_judged UpdateSyntax (s ∷ []) = misshapen UpdateSyntax (s ∷ []) (λ e. absurd (cc)) (λ argument h. update_one h)
    role_judged UpdateSyntax (s ∷ p ∷ []) =
        let first = type_meant format names s.of_type in
        let result = type_meant format names f.result_type in
        fitting UpdateSyntax (s ∷ p ∷ []) p.of_type (same_type state first && is_new_state state result)
        ((state ≡ first) × ((answer : Ty) × (result ≡ PairTy state answer))) (λ e. absurd (cc))
        (Decides-and (same_type state first) (is_new_state state result) (type_decides state first) (new_decides state result))
        (λ (is, (answer, gives)). UpdateShape (sym is) gives) (λ other h. update_shape h)
    role_judged UpdateSyntax (s ∷ p ∷ q ∷ rest) = misshapen UpdateSyntax (s ∷ p ∷ q ∷ rest) (λ e. absurd (cc)) (λ argument h. update_three h)

  role_ruled : (before : List FunctionSyntax) (f : FunctionSyntax) → Ruled (role_step before f) (λ _. Fulfils before f) (Violates before f)
  role_ruled before f =
      ruled_like (role_step before f) (λ _. Meets f f.kind f.parameters) (λ _. Fulfils before f) (Breaks f f.kind f.parameters) (Violates before f)
      (λ _ h. meets h) (λ _ h. met h) (λ k p b. breaks k p b) (λ k p b. broken k p b) (role_judged f f.kind f.parameters)
    where
      meets : Meets f f.kind f.parameters → Fulfils before f
      meets (inl inner) = IsInner inner
      meets (inr (argument, shape, plain)) = IsShaped shape plain

      met : Fulfils before f → Meets f f.kind f.parameters
      met (IsInner inner) = inl inner
      met (IsShaped {argument = argument} shape plain) = inr (argument, shape, plain)

      breaks : (k : TypeKind) (p : Place) → Breaks f f.kind f.parameters k p → Violates before f k p
      breaks k p (inl (entered, never, same, here)) =
          subst (λ p. Violates before f k p) here (subst (λ k. Violates before f k f.name.at) same (IsMisshapen entered never))
      breaks k p (inr (argument, shape, auth, same, here)) =
          subst (λ p. Violates before f k p) here (subst (λ k. Violates before f k (place_of_type argument)) same (PassesAuth shape auth))

      broken : (k : TypeKind) (p : Place) → Violates before f k p → Breaks f f.kind f.parameters k p
      broken _ _ (IsMisshapen entered never) = inl (entered, never, refl, refl)
      broken _ _ (PassesAuth {argument = argument} shape auth) = inr (argument, shape, auth, refl, refl)

  roles_each : (before fs : List FunctionSyntax) → checked_roles format names table state fs ≡ each_checked role_step before fs
  roles_each before [] = refl
  roles_each before (f ∷ fs) = ap (λ r. then_checked (role_step before f) (λ _. r)) (roles_each (before ++ f ∷ []) fs)

  pub roles_ruled : (fs : List FunctionSyntax) → Ruled (checked_roles format names table state fs) (λ _. EachMeets Fulfils [] fs) (OneBreaks Fulfils Violates [] fs)
  roles_ruled fs =
      ruled_same (checked_roles format names table state fs) (each_checked role_step [] fs) (λ _. EachMeets Fulfils [] fs)
      (OneBreaks Fulfils Violates [] fs) (roles_each [] fs)
      (each_ruled Fulfils Violates role_step role_ruled [] fs)
