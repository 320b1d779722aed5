-- An expression that passes has the type that it says.
use Rattle.std.proofs.Common.{◌≡◌, inl, inr, ℕ, suc, ◌+◌, ◌<◌, Bool, true, false, List, [], ◌∷◌, ◌++◌, length, map, Option, Some, None, option_map, slice_get, unwrap_or, bytes_eq, if◌then◌else◌, nat_eq, nat_lt, eqb-true, refl, sym, ap, ◌∙◌, subst, append_assoc, arith}
use Rattle.std.proofs.lemmas.Option.{slice_get-get_or, slice_get-map}
use Rattle.std.proofs.lemmas.List.{append-nil, length-map, map-append}
use Rattle.core_terms.specs.declared.term.BinaryOperator.TheVariants.{Arith, Compare, TextCompare, Cat}
use Rattle.core_terms.specs.declared.term.BinaryOperator.{BinaryOperator}
use Rattle.core_terms.specs.Types.{Ty, UnitTy, BoolTy, TextTy, PairTy, NamedTy, AuthTy, Table, OnFields, fields_at, same_type}
use Rattle.core_terms.specs.Terms.{Expression, AndE, AuthE, CallE, ConE, OperateE, Expressions, Function}
use Rattle.core_terms.specs.TypingRules.{HasType, HaveArms, HaveTypes, OnFunction}
use Rattle.core_terms.specs.Terms as tree
use Rattle.core_terms.proofs.SameTypes.{same_sound}
use Rattle.auth_syntax.specs.Syntax.{NameSyntax, ExpSyntax, UnitSyntax, BoolSyntax, IntSyntax, TextSyntax, LocalSyntax, PairSyntax, UnarySyntax, BinarySyntax, CallSyntax, ConstructorSyntax, OperateSyntax, LetSyntax, IfSyntax, MatchSyntax, ExpsSyntax, NoExp, AndExp, ArmsSyntax, NoArmSyntax, AndArmSyntax, UnaryOperation, FstOperation, SndOperation, AuthOperation, UnauthOperation, LenOperation, NotOperation, ArrayOperation, place_of}
use Rattle.auth_syntax.specs.Nesting.{others_of}
use Rattle.lexemes.specs.declared.place.Place.{Place}
use Rattle.declared_types.specs.Checking.{Checking, Sound, FaultAt, is_among, then_checked, unless_fault}
use Rattle.auth_types.specs.Bodies.{Local, Typed, TypedArms, arm_names, binary, binary_expression, bound_names, called, constructed, count_of, elaborated, elaborated_arms, elaborated_each, first_of, last_named, local_at, matched, may_begin, most_locals, opened, operand_type, operated as on_arrays, operated_on, or_else, pair, result_type, same_names, second_of, typed, unary, wanted, wanted_arm}
use Rattle.declared_types.specs.Signatures.{Numbered, Scope, Signature, constructor_named, function_named}
use Rattle.auth_types.specs.CheckedLaws.{ArmsHaveGoodLiterals, ElaboratedHasType, HasGoodLiterals, HaveGoodLiterals, IsScopeOf, signature, types_of_locals}
use Rattle.declared_types.specs.declared.fault.TypeKind.TheVariants.{ArmsWrong, Limit, NotVec, Twice, WrongCount, WrongType}
use Rattle.declared_types.specs.declared.fault.Limited.TheVariants.{Locals}
use Rattle.declared_types.proofs.SoundSteps.{Gives, given, gives_more, gives_then, gives_unless}
use Rattle.auth_types.proofs.TakenArrays.{IsRuled, taken_ruled, takes_count, takes_operands, takes_operation}
use Rattle.declared_types.proofs.SoundNames.{AsMany, as_many_at, constructor_there, function_there}

-- the number of a name is that of one of the locals, which stand behind n others
last_within : (n : ℕ) (locals : List Local) (name : List ℕ) (i : ℕ) → last_named n locals name ≡ Some i → i < n + length locals
last_within n [] name i is = absurd (cc)
last_within n (l ∷ locals) name i is = by (last_named (n + 1) locals name) (bytes_eq l.name name) (λ j e. last_within (n + 1) locals name j e) is
  where
    by : (o : Option ℕ) (b : Bool) → ((j : ℕ) → o ≡ Some j → j < (n + 1) + length locals) → or_else o (if b then Some n else None) ≡ Some i
        → i < n + suc (length locals)
    by (Some j) b inside is = let same : j ≡ i = cc in omega (arith, inside j refl, same)
    by None true inside is = let same : n ≡ i = cc in omega (arith, same)
    by None false inside is = absurd (cc)

-- the names that a pattern binds are locals of these types behind the others
pub bound_types : (before : List (List ℕ)) (locals : List Local) (names : List NameSyntax) (ts : List Ty) → length names ≡ length ts
    → Gives (λ inner. types_of_locals inner ≡ types_of_locals locals ++ ts) (bound_names before locals names ts)
bound_types before locals [] [] same = sym (append-nil (types_of_locals locals))
bound_types before locals [] (t ∷ ts) same = absurd (cc)
bound_types before locals (name ∷ names) [] same = absurd (cc)
bound_types before locals (name ∷ names) (t ∷ ts) same =
    let local : Local = record { name = name.name; of_type = t } in
    by (is_among name.name before) (bound_names (name.name ∷ before) (locals ++ local ∷ []) names ts)
    (bound_types (name.name ∷ before) (locals ++ local ∷ []) names ts (cc))
  where
    by : (b : Bool) (found : Checking (List Local)) → Gives (λ inner. types_of_locals inner ≡ types_of_locals
        (locals ++ record { name = name.name; of_type = t } ∷ []) ++ ts) found
        → Gives (λ inner. types_of_locals inner ≡ types_of_locals locals ++ t ∷ ts)
        (if b then FaultAt Twice name.at else unless_fault (nat_lt (length locals) most_locals) (Limit Locals) name.at found)
    by true found h = tt
    by false found h =
        let local : Local = record { name = name.name; of_type = t } in
        gives_unless (λ inner. types_of_locals inner ≡ types_of_locals locals ++ t ∷ ts) (nat_lt (length locals) most_locals) (Limit Locals) name.at
        found
        (λ _. gives_more (λ inner. types_of_locals inner ≡ types_of_locals (locals ++ local ∷ []) ++ ts)
        (λ inner. types_of_locals inner ≡ types_of_locals locals ++ t ∷ ts) found
        (λ inner is. is ∙ ap (λ l. l ++ ts) (map-append (λ (l : Local). l.of_type) locals (local ∷ []))
        ∙ append_assoc (types_of_locals locals) (t ∷ []) ts) h)

-- as many arms as constructors, where they are the same
same_many : (names others : List (List ℕ)) → same_names names others ≡ true → length names ≡ length others
same_many [] [] same = refl
same_many [] (b ∷ others) same = absurd (cc)
same_many (a ∷ names) [] same = absurd (cc)
same_many (a ∷ names) (b ∷ others) same = by (bytes_eq a b) (λ e. same_many names others e) same
  where
    by : (e : Bool) → (same_names names others ≡ true → length names ≡ length others) → (if e then same_names names others else false) ≡ true
        → suc (length names) ≡ suc (length others)
    by true rest same = ap suc (rest same)
    by false rest same = absurd (cc)

-- the type of the arms is the one that is wanted
abbrev IsWanted : Option Ty → Ty → Type 0
IsWanted (Some t) of_type = t ≡ of_type
IsWanted None of_type = Unit {0}

wanted_last : (want : Option Ty) → IsWanted want (unwrap_or want UnitTy)
wanted_last (Some t) = refl
wanted_last None = tt

module _ (P : tree.Program) where
  -- the expression has its type where these are the locals
  abbrev pub Fits : List Local → Typed → Type 0
  Fits locals e = HasType P (types_of_locals locals) e.expression e.of_type

  -- a part of the type that is wanted has it
  pub wanted_fits : (locals : List Local) (at : Place) (t : Ty) (found : Checking Typed) → Gives (Fits locals) found
      → Gives (λ x. HasType P (types_of_locals locals) x t) (wanted at t found)
  wanted_fits locals at t found fits =
      gives_then (Fits locals) (λ x. HasType P (types_of_locals locals) x t) found
      (λ e. unless_fault (same_type e.of_type t) WrongType at (Sound e.expression)) fits
      (λ e typed. gives_unless (λ x. HasType P (types_of_locals locals) x t) (same_type e.of_type t) WrongType at (Sound e.expression)
      (λ same. subst (HasType P (types_of_locals locals) e.expression) (same_sound e.of_type t same) typed))

  local_fits : (locals : List Local) (at : Place) (name : List ℕ) (found : Option ℕ) → last_named 0 locals name ≡ found
      → Gives (Fits locals) (local_at at locals found)
  local_fits locals at name None is = tt
  local_fits locals at name (Some i) is =
      slice_get-get_or (types_of_locals locals) i UnitTy (omega (arith, last_within 0 locals name i is, length-map locals (λ (l : Local). l.of_type)))

  -- an operation on one operand
  first_fits : (locals : List Local) (at : Place) (e : Expression) (t : Ty) → HasType P (types_of_locals locals) e t
      → Gives (Fits locals) (first_of at e t)
  first_fits locals at e (PairTy a b) h = (refl, h)
  first_fits locals at e t h = tt

  second_fits : (locals : List Local) (at : Place) (e : Expression) (t : Ty) → HasType P (types_of_locals locals) e t
      → Gives (Fits locals) (second_of at e t)
  second_fits locals at e (PairTy a b) h = (refl, h)
  second_fits locals at e t h = tt

  opened_fits : (locals : List Local) (at : Place) (e : Expression) (t : Ty) → HasType P (types_of_locals locals) e t
      → Gives (Fits locals) (opened at e t)
  opened_fits locals at e (AuthTy t) h = (refl, h)
  opened_fits locals at e t h = tt

  unary_fits : (locals : List Local) (operation : UnaryOperation) (at : Place) (operand : Checking Typed) → Gives (Fits locals) operand
      → Gives (Fits locals) (unary operation at operand)
  unary_fits locals FstOperation at operand h =
      gives_then (Fits locals) (Fits locals) operand (λ e. first_of at e.expression e.of_type) h
      (λ e h. first_fits locals at e.expression e.of_type h)
  unary_fits locals SndOperation at operand h =
      gives_then (Fits locals) (Fits locals) operand (λ e. second_of at e.expression e.of_type) h
      (λ e h. second_fits locals at e.expression e.of_type h)
  unary_fits locals AuthOperation at operand h =
      gives_then (Fits locals) (Fits locals) operand (λ e. typed (AuthE e.of_type e.expression) (AuthTy e.of_type)) h (λ e h. (refl, h))
  unary_fits locals UnauthOperation at operand h =
      gives_then (Fits locals) (Fits locals) operand (λ e. opened at e.expression e.of_type) h (λ e h. opened_fits locals at e.expression e.of_type h)
  unary_fits locals LenOperation at operand h =
      gives_then (λ x. HasType P (types_of_locals locals) x TextTy) (Fits locals) (wanted at TextTy operand)
      _ (wanted_fits locals at TextTy operand h) (λ e h. (refl, h))
  unary_fits locals NotOperation at operand h =
      gives_then (λ x. HasType P (types_of_locals locals) x BoolTy) (Fits locals) (wanted at BoolTy operand)
      _ (wanted_fits locals at BoolTy operand h) (λ e h. (refl, h))

  -- an operation on two operands
  operated : (env : List Ty) (operation : BinaryOperator) (x y : Expression) → HasType P env x (operand_type operation)
      → HasType P env y (operand_type operation)
      → HasType P env (binary_expression operation x y) (result_type operation)
  operated env (Arith operation) x y h j = (refl, h, j)
  operated env (Compare operation) x y h j = (refl, h, j)
  operated env (TextCompare operation) x y h j = (refl, h, j)
  operated env Cat x y h j = (refl, h, j)

  binary_fits : (locals : List Local) (operation : BinaryOperator) (at : Place) (first : Checking Typed) (place : Place) (second : Checking Typed)
      → Gives (Fits locals) first → Gives (Fits locals) second → Gives (Fits locals) (binary operation at first place second)
  binary_fits locals operation at first place second h j =
      gives_then (λ x. HasType P (types_of_locals locals) x (operand_type operation)) (Fits locals) (wanted at (operand_type operation) first)
      _ (wanted_fits locals at (operand_type operation) first h)
      (λ x hx. gives_then (λ y. HasType P (types_of_locals locals) y (operand_type operation)) (Fits locals)
      (wanted place (operand_type operation) second) _ (wanted_fits locals place (operand_type operation) second j)
      (λ y hy. operated (types_of_locals locals) operation x y hx hy))

  pair_fits : (locals : List Local) (first second : Checking Typed) → Gives (Fits locals) first → Gives (Fits locals) second
      → Gives (Fits locals) (pair first second)
  pair_fits locals first second h j =
      gives_then (Fits locals) (Fits locals) first _ h (λ x hx. gives_then (Fits locals) (Fits locals) second _ j (λ y hy. (refl, hx, hy)))

  -- the body of an arm has the type that is wanted
  wanted_arm_fits : (locals : List Local) (want : Option Ty) (at : Place) (body : Checking Typed) → Gives (Fits locals) body
      → Gives (λ e. Fits locals e × IsWanted want e.of_type) (wanted_arm want at body)
  wanted_arm_fits locals None at body h = gives_more (Fits locals) (λ e. Fits locals e × IsWanted None e.of_type) body (λ e h. (h, tt)) h
  wanted_arm_fits locals (Some t) at body h =
      gives_then (λ x. HasType P (types_of_locals locals) x t) (λ e. Fits locals e × IsWanted (Some t) e.of_type) (wanted at t body) (λ e. typed e t)
      (wanted_fits locals at t body h) (λ e h. (h, refl))

  -- a function of the program, with its signature
  with_signature : (env : List Ty) (o : Option Function) (s : Signature) (es : Expressions) → option_map signature o ≡ Some s
      → HaveTypes P env es s.parameters
      → OnFunction o (λ g. (g.result ≡ s.result) × HaveTypes P env es g.parameters)
  with_signature env (Some g) s es is h =
      let same : signature g ≡ s = cc in
      (ap (λ (s : Signature). s.result) same, subst (HaveTypes P env es) (sym (ap (λ (s : Signature). s.parameters) same)) h)
  with_signature env None s es is h = absurd (cc)

  -- the fields of a constructor that is there
  with_fields : (env : List Ty) (o : Option (List Ty)) (ts : List Ty) (es : Expressions) → o ≡ Some ts → HaveTypes P env es (unwrap_or o [])
      → OnFields o (λ ts. HaveTypes P env es ts)
  with_fields env (Some ts) _ es is h = h
  with_fields env None ts es is h = absurd (cc)

  module _ (scope : Scope) (is : IsScopeOf scope P) where
    -- what arguments and fields of these types give
    abbrev EachFits : List Local → List Ty → Expressions → Type 0
    EachFits locals ts es = HaveTypes P (types_of_locals locals) es ts

    many : AsMany scope.constructors scope.table
    many = is.constructors ∙ ap (λ (t : Table). map (λ y. length y) t) (sym is.table)

    -- a call of a function that is found
    call_has_type : (locals : List Local) (name : List ℕ) (f : Numbered Signature) (es : Expressions) → function_named 0 scope.functions name ≡ Some f
        → EachFits locals f.value.parameters es
        → HasType P (types_of_locals locals) (CallE f.number es) f.value.result
    call_has_type locals name f es found h =
        let (k, number, there) = function_there 0 scope.functions name f found in
        let same : f.number ≡ k = omega (arith, number) in
        let here : option_map signature (slice_get P.functions k) ≡ Some f.value =
        sym (slice_get-map signature P.functions k) ∙ ap (λ fs. slice_get fs k) (sym is.functions) ∙ there in
        subst (λ k. HasType P (types_of_locals locals) (CallE k es) f.value.result) (sym same)
        (with_signature (types_of_locals locals) (slice_get P.functions k) f.value es here h)

    called_fits : (locals : List Local) (at : Place) (count : ℕ) (name : List ℕ) (found : Option (Numbered Signature))
        (arguments : List Ty → Checking Expressions)
        → function_named 0 scope.functions name ≡ found → ((ts : List Ty) → count ≡ length ts → Gives (EachFits locals ts) (arguments ts))
        → Gives (Fits locals) (called at count found arguments)
    called_fits locals at count name None arguments there each = tt
    called_fits locals at count name (Some f) arguments there each =
        gives_unless (Fits locals) (nat_eq count (length f.value.parameters)) WrongCount at _
        (λ same. gives_then (EachFits locals f.value.parameters) (Fits locals) (arguments f.value.parameters)
        _ (each f.value.parameters (eqb-true count (length f.value.parameters) same))
        (λ es h. call_has_type locals name f es there h))

    -- a constructor that is found
    constructor_has_type : (locals : List Local) (name : List ℕ) (c : Numbered ℕ) (es : Expressions)
        → constructor_named 0 scope.constructors name ≡ Some c → EachFits locals (unwrap_or (fields_at scope.table c.number c.value) []) es
        → HasType P (types_of_locals locals) (ConE c.number c.value es) (NamedTy c.number)
    constructor_has_type locals name c es found h =
        let (k, number, (ts, there)) = constructor_there 0 scope.constructors scope.table name c many found in
        let same : k ≡ c.number = omega (arith, number) in
        let row : fields_at scope.table c.number c.value ≡ Some ts = subst (λ k. fields_at scope.table k c.value ≡ Some ts) same there in (
          refl,
          subst (λ (table : Table). OnFields (fields_at table c.number c.value) (λ ts. HaveTypes P (types_of_locals locals) es ts)) is.table
              (with_fields (types_of_locals locals) (fields_at scope.table c.number c.value) ts es row h),
        )

    constructed_fits : (locals : List Local) (at : Place) (count : ℕ) (name : List ℕ) (found : Option (Numbered ℕ))
        (fields : List Ty → Checking Expressions)
        → constructor_named 0 scope.constructors name ≡ found → ((ts : List Ty) → count ≡ length ts → Gives (EachFits locals ts) (fields ts))
        → Gives (Fits locals) (constructed at count scope.table found fields)
    constructed_fits locals at count name None fields there each = tt
    constructed_fits locals at count name (Some c) fields there each =
        let types = unwrap_or (fields_at scope.table c.number c.value) [] in
        gives_unless (Fits locals) (nat_eq count (length types)) WrongCount at _
        (λ same. gives_then (EachFits locals types) (Fits locals) (fields types) _ (each types (eqb-true count (length types) same))
        (λ es h. constructor_has_type locals name c es there h))

    -- an operation on arrays, behind its first operand
    operated_on_fits : (locals : List Local) (operation : ArrayOperation) (at : Place) (others : List Ty → Checking Expressions) (x : Typed) → Fits locals x
        → ((ts : List Ty) → length ts ≡ others_of operation → Gives (EachFits locals ts) (others ts))
        → IsRuled scope.format operation at x.of_type → Gives (Fits locals) (operated_on scope.format operation at others x)
    operated_on_fits locals operation at others x hx each (inl (op, ts, takes, is)) =
        subst (λ c. Gives (Fits locals) (then_checked c (λ taken. then_checked (others taken.others)
        (λ xs. typed (OperateE taken.operation (AndE x.expression xs)) (tree.result_type taken.operation))))) (sym is)
        (gives_then (EachFits locals ts) (Fits locals) (others ts) _ (each ts (takes_count takes))
        (λ xs hxs. (refl, takes_operation takes, subst (HaveTypes P (types_of_locals locals) (AndE x.expression xs)) (sym (takes_operands takes)) (hx, hxs))))
    operated_on_fits locals operation at others x hx each (inr (none, is)) =
        subst (λ c. Gives (Fits locals) (then_checked c (λ taken. then_checked (others taken.others)
        (λ xs. typed (OperateE taken.operation (AndE x.expression xs)) (tree.result_type taken.operation))))) (sym is) tt

    operated_fits : (locals : List Local) (at : Place) (operation : ArrayOperation) (count : ℕ) (place : Place) (first : Checking Typed)
        (others : List Ty → Checking Expressions) → Gives (Fits locals) first
        → ((ts : List Ty) → count ≡ length ts → Gives (EachFits locals ts) (others ts))
        → Gives (Fits locals) (on_arrays scope.format at operation count place first others)
    operated_fits locals at operation count place first others h each =
        gives_unless (Fits locals) (nat_eq count (others_of operation)) WrongCount at _
        (λ same. gives_unless (Fits locals) (may_begin scope.format operation) NotVec at _
        (λ may. gives_then (Fits locals) (Fits locals) first (operated_on scope.format operation place others) h
        (λ x hx. operated_on_fits locals operation place others x hx (λ ts many. each ts (eqb-true count (others_of operation) same ∙ sym many))
        (taken_ruled scope.format operation place x.of_type may))))

    -- a match, whose arms have the fields of the constructors
    matched_fits : (locals : List Local) (at subject : Place) (e : Expression) (t : Ty) (names : List (List ℕ))
        (arms : List (List Ty) → Checking TypedArms) → HasType P (types_of_locals locals) e t
        → ((rows : List (List Ty)) → length names ≡ length rows → Gives (λ found. HaveArms P (types_of_locals locals) rows found.arms found.of_type)
        (arms rows)) → Gives (Fits locals) (matched scope at subject e t names arms)
    matched_fits locals at subject e (NamedTy number) names arms h each =
        let rows = unwrap_or (slice_get scope.table number) [] in
        gives_unless (Fits locals) (same_names names (unwrap_or (slice_get scope.constructors number) [])) ArmsWrong at _
        (λ same. gives_then (λ found. HaveArms P (types_of_locals locals) rows found.arms found.of_type) (Fits locals) (arms rows) _
        (each rows (same_many names (unwrap_or (slice_get scope.constructors number) []) same
        ∙ as_many_at scope.constructors scope.table number many))
        (λ found have. (
          h,
          subst (λ (table : Table). HaveArms P (types_of_locals locals) (unwrap_or (slice_get table number) []) found.arms
              found.of_type) is.table have,
        )))
    matched_fits locals at subject e t names arms h each = tt

    mutual
      -- an expression
      pub elaborated_fits : (locals : List Local) (x : ExpSyntax) → HasGoodLiterals x → Gives (Fits locals) (elaborated scope locals x)
      elaborated_fits locals (UnitSyntax at) good = refl
      elaborated_fits locals (BoolSyntax at b) good = refl
      elaborated_fits locals (IntSyntax at z) good = (refl, good)
      elaborated_fits locals (TextSyntax at bytes) good = (refl, good.0, good.1)
      elaborated_fits locals (LocalSyntax at name) good = local_fits locals at name (last_named 0 locals name) refl
      elaborated_fits locals (PairSyntax at x y) good =
          pair_fits locals (elaborated scope locals x) (elaborated scope locals y) (elaborated_fits locals x good.0) (elaborated_fits locals y good.1)
      elaborated_fits locals (UnarySyntax at operation x) good =
          unary_fits locals operation (place_of x) (elaborated scope locals x) (elaborated_fits locals x good)
      elaborated_fits locals (BinarySyntax at operation x y) good =
          binary_fits locals operation (place_of x) (elaborated scope locals x) (place_of y) (elaborated scope locals y)
          (elaborated_fits locals x good.0) (elaborated_fits locals y good.1)
      elaborated_fits locals (CallSyntax at name xs) good =
          called_fits locals at (count_of xs) name (function_named 0 scope.functions name) (elaborated_each scope locals xs) refl
          (λ ts same. each_fits locals xs ts good same)
      elaborated_fits locals (ConstructorSyntax at name xs) good =
          constructed_fits locals at (count_of xs) name (constructor_named 0 scope.constructors name) (elaborated_each scope locals xs) refl
          (λ ts same. each_fits locals xs ts good same)
      elaborated_fits locals (OperateSyntax at operation NoExp) good = tt
      elaborated_fits locals (OperateSyntax at operation (AndExp x xs)) good =
          operated_fits locals at operation (count_of xs) (place_of x) (elaborated scope locals x) (elaborated_each scope locals xs)
          (elaborated_fits locals x good.0) (λ ts same. each_fits locals xs ts good.1 same)
      elaborated_fits locals (LetSyntax at name x body) good =
          gives_then (Fits locals) (Fits locals) (elaborated scope locals x) _ (elaborated_fits locals x good.0)
          (λ e he. gives_unless (Fits locals) (nat_lt (length locals) most_locals) (Limit Locals) name.at _
          (λ _. let local : Local = record { name = name.name; of_type = e.of_type } in
          gives_then (Fits (locals ++ local ∷ [])) (Fits locals) (elaborated scope (locals ++ local ∷ []) body)
          _ (elaborated_fits (locals ++ local ∷ []) body good.1)
          (λ b hb. (he, subst (λ env. HasType P env b.expression b.of_type) (map-append (λ (l : Local). l.of_type) locals (local ∷ [])) hb))))
      elaborated_fits locals (IfSyntax at test x y) good =
          gives_then (λ c. HasType P (types_of_locals locals) c BoolTy) (Fits locals) (wanted (place_of test) BoolTy (elaborated scope locals test))
          _ (wanted_fits locals (place_of test) BoolTy (elaborated scope locals test) (elaborated_fits locals test good.0))
          (λ c hc. gives_then (Fits locals) (Fits locals) (elaborated scope locals x) _ (elaborated_fits locals x good.1)
          (λ e he. gives_then (λ f. HasType P (types_of_locals locals) f e.of_type) (Fits locals)
          (wanted (place_of y) e.of_type (elaborated scope locals y))
          _ (wanted_fits locals (place_of y) e.of_type (elaborated scope locals y) (elaborated_fits locals y good.2))
          (λ f hf. (hc, he, hf))))
      elaborated_fits locals (MatchSyntax at x arms) good =
          gives_then (Fits locals) (Fits locals) (elaborated scope locals x) _ (elaborated_fits locals x good.0)
          (λ e he. matched_fits locals at (place_of x) e.expression e.of_type (arm_names arms) (elaborated_arms scope locals arms None) he
          (λ rows same. gives_more (λ found. HaveArms P (types_of_locals locals) rows found.arms found.of_type × IsWanted None found.of_type)
          (λ found. HaveArms P (types_of_locals locals) rows found.arms found.of_type)
          (elaborated_arms scope locals arms None rows) (λ found h. h.0) (arms_fit locals arms None rows good.1 same)))

      -- expressions in a row, as many as their types
      each_fits : (locals : List Local) (xs : ExpsSyntax) (ts : List Ty) → HaveGoodLiterals xs → count_of xs ≡ length ts
          → Gives (EachFits locals ts) (elaborated_each scope locals xs ts)
      each_fits locals NoExp [] good same = tt
      each_fits locals NoExp (t ∷ ts) good same = absurd (cc)
      each_fits locals (AndExp x xs) [] good same = absurd (cc)
      each_fits locals (AndExp x xs) (t ∷ ts) good same =
          gives_then (λ e. HasType P (types_of_locals locals) e t) (EachFits locals (t ∷ ts)) (wanted (place_of x) t (elaborated scope locals x))
          _ (wanted_fits locals (place_of x) t (elaborated scope locals x) (elaborated_fits locals x good.0))
          (λ e he. gives_then (EachFits locals ts) (EachFits locals (t ∷ ts)) (elaborated_each scope locals xs ts)
          _ (each_fits locals xs ts good.1 (cc))
          (λ es hes. (he, hes)))

      -- arms, as many as the constructors
      arms_fit : (locals : List Local) (arms : ArmsSyntax) (want : Option Ty) (rows : List (List Ty)) → ArmsHaveGoodLiterals arms
          → length (arm_names arms) ≡ length rows
          → Gives (λ found. HaveArms P (types_of_locals locals) rows found.arms found.of_type × IsWanted want found.of_type)
          (elaborated_arms scope locals arms want rows)
      arms_fit locals NoArmSyntax want [] good same = (tt, wanted_last want)
      arms_fit locals NoArmSyntax want (ts ∷ rows) good same = absurd (cc)
      arms_fit locals (AndArmSyntax constructor fields body rest) want [] good same = absurd (cc)
      arms_fit locals (AndArmSyntax constructor fields body rest) want (ts ∷ rows) good same =
          let R : TypedArms → Type 0 =
          λ found. HaveArms P (types_of_locals locals) (ts ∷ rows) found.arms found.of_type × IsWanted want found.of_type in
          gives_unless R (nat_eq (length fields) (length ts)) WrongCount constructor.at _
          (λ as_many. gives_then (λ inner. types_of_locals inner ≡ types_of_locals locals ++ ts) R (bound_names [] locals fields ts)
          _ (bound_types [] locals fields ts (eqb-true (length fields) (length ts) as_many))
          (λ inner types. gives_then (λ e. Fits inner e × IsWanted want e.of_type) R (wanted_arm want (place_of body) (elaborated scope inner body))
          _ (wanted_arm_fits inner want (place_of body) (elaborated scope inner body) (elaborated_fits inner body good.0))
          (λ e he. gives_then (λ found. HaveArms P (types_of_locals locals) rows found.arms found.of_type × IsWanted (Some e.of_type) found.of_type) R
          (elaborated_arms scope locals rest (Some e.of_type) rows) _ (arms_fit locals rest (Some e.of_type) rows good.1 (cc))
          (λ found h. (
            (subst (λ env. HasType P env e.expression found.of_type) types (subst (HasType P (types_of_locals inner) e.expression) h.1 he.0), h.0),
            subst (IsWanted want) h.1 he.1,
          )))))

pub elaborated_has_type : ElaboratedHasType
elaborated_has_type P scope is locals x found good sound =
    given (Fits P locals) (elaborated scope locals x) found (elaborated_fits P scope is locals x good) sound
