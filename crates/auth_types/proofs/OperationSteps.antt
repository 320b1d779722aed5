-- Lemmas of the terms of pairs and operations.
use Rattle.std.proofs.Common.{◌≡◌, ◌≢◌, ℕ, ◌<◌, ◌&&◌, nat_lt, Bool, true, false, List, [], ◌++◌, length, Some, Result, Err, slice_get, refl, sym, ap, ◌∙◌, subst, arith}
use borrow.Author.Tests.{ltb-true}
use Rattle.std.specs.declared.alloc.Global.{Global}
use Rattle.std.specs.declared.boxed.Box.{Box}
use Rattle.std.proofs.lemmas.Option.{get_or_from_slice_get}
use Rattle.core_terms.specs.declared.term.BinaryOperator.{BinaryOperator}
use Rattle.core_terms.specs.Types.{Ty, is_length, UnitTy, BoolTy, IntTy, TextTy, PairTy, AuthTy, same_type}
use Rattle.core_terms.specs.Terms.{Expression, LenE, NotE}
use Rattle.core_terms.specs.TypeTables.{is_form_in, type_at, stands_behind, type_of_form}
use Rattle.core_terms.specs.declared.format.Format.{Format}
use Rattle.core_terms.specs.ProgramTrees.{expression_of}
use Rattle.core_terms.specs.declared.types.TyId.{TyId}
use Rattle.core_terms.specs.declared.types.TyForm.{TyForm}
use Rattle.core_terms.specs.declared.types.TyForm.TheVariants.{UnitForm, BoolForm, IntForm, TextForm, AuthForm, PairForm, NamedForm, VecForm}
use Rattle.core_terms.specs.declared.term.Term.{Term}
use Rattle.core_terms.specs.declared.term.Term as term
use Rattle.core_terms.proofs.SameTypes.{same_sound}
use Rattle.core_terms.proofs.TypingComplete.{same_self}
use Rattle.auth_syntax.specs.Syntax.{FstOperation, SndOperation, AuthOperation, UnauthOperation, LenOperation, NotOperation}
use Rattle.lexemes.specs.declared.place.Place.{Place}
use Rattle.declared_types.specs.Checking.{Checking, Sound, FaultAt, unless_fault, then_checked}
use Rattle.auth_types.specs.Bodies.{Typed, binary_expression, first_of, opened, pair, result_type, second_of, typed, unary, wanted}
use Rattle.auth_types.specs.Elaborators.{ShowsTerm, boxed_of, typed_of}
use Rattle.declared_types.specs.OverTypes.{FindsOver, Grows, Shows}
use Rattle.declared_types.specs.declared.fault.TypeKind.TheVariants.{NotAuth, NotPair, WrongType}
use Rattle.auth_types.specs.declared.bodies.Typed.{Typed as TypedTerm}
use Rattle.declared_types.specs.Findings.{TypeFault}
use Rattle.auth_types.proofs.FindingSteps.{fault_first, grown}
use Rattle.declared_types.proofs.ScopeStays.{type_stays_at}
use Rattle.core_terms.proofs.TermViews.{expression-Pair, expression-Fst, expression-Snd, expression-Auth, expression-Unauth, expression-Len, expression-Not, expression-Arith, expression-Compare, expression-TextCompare, expression-Cat}
use Rattle.declared_types.proofs.TypeNumbers.{shows_grow, shows_now, type_stays}

-- a pair
pub paired_shows : (old new : List Ty) (first second : TypedTerm) (ty : TyId) (x y : Checking Typed) → Grows old new
    → slice_get new ty.0 ≡ Some (PairTy (type_at old first.ty) (type_at old second.ty)) → first.ty.0 < length old → second.ty.0 < length old
    → Shows old typed_of x first → Shows old typed_of y second → ShowsTerm new (pair x y) (term.Pair first.ty second.ty first.term second.term) ty
paired_shows old new first second ty x y grows there inside inside' shown shown' = λ more.
    let first_is = shows_grow old new typed_of x first grows shown more in
    let second_is = shows_grow old new typed_of y second grows shown' more in
    let whole : type_at (new ++ more) ty ≡ PairTy (type_at old first.ty) (type_at old second.ty) =
    type_stays new ty.0 (PairTy (type_at old first.ty) (type_at old second.ty)) there more in
    let one = type_stays_at old (new ++ more) (grown old new grows more) first.ty inside in
    let other = type_stays_at old (new ++ more) (grown old new grows more) second.ty inside' in
    let form = expression-Pair (new ++ more) first.ty second.ty first.term second.term in
    ap (λ x. pair x y) first_is ∙ ap (pair (Sound (typed_of (new ++ more) first))) second_is ∙ cc

-- `auth` of a term
pub authenticated_shows : (old new : List Ty) (operand : TypedTerm) (ty : TyId) (at : Place) (found : Checking Typed) → Grows old new
    → slice_get new ty.0 ≡ Some (AuthTy (type_at old operand.ty)) → operand.ty.0 < length old
    → Shows old typed_of found operand → ShowsTerm new (unary AuthOperation at found) (term.Auth operand.ty operand.term) ty
authenticated_shows old new operand ty at found grows there inside shown = λ more.
    let operand_is = shows_grow old new typed_of found operand grows shown more in
    let whole : type_at (new ++ more) ty ≡ AuthTy (type_at old operand.ty) = type_stays new ty.0 (AuthTy (type_at old operand.ty)) there more in
    let one = type_stays_at old (new ++ more) (grown old new grows more) operand.ty inside in
    let form = expression-Auth (new ++ more) operand.ty operand.term in
    ap (unary AuthOperation at) operand_is ∙ cc

module _ (types : List Ty) (operand : TypedTerm) (inside : operand.ty.0 < length types) (at : Place) (found : Checking Typed)
    (shown : Shows types typed_of found operand) where
  -- the type of the operand over more types
  type_is : (t : Ty) → t ≡ type_at types operand.ty → (more : List Ty) → type_at (types ++ more) operand.ty ≡ t
  type_is t is more = type_stays_at types (types ++ more) (more, refl) operand.ty inside ∙ sym is

  -- parts of a pair
  module _ (a b : TyId) (is : PairTy (type_at types a) (type_at types b) ≡ type_at types operand.ty) (a_inside : a.0 < length types)
      (b_inside : b.0 < length types) where
    pair_is : (more : List Ty) → type_at (types ++ more) operand.ty ≡ PairTy (type_at (types ++ more) a) (type_at (types ++ more) b)
    pair_is more =
        let whole = type_is (PairTy (type_at types a) (type_at types b)) is more in
        let one = type_stays_at types (types ++ more) (more, refl) a a_inside in
        let other = type_stays_at types (types ++ more) (more, refl) b b_inside in
        cc

    pub first_shows : ShowsTerm types (unary FstOperation at found) (term.Fst a b operand.term) a
    first_shows = λ more.
        let form = expression-Fst (types ++ more) a b operand.term in
        ap (unary FstOperation at) (shown more) ∙ ap (first_of at (boxed_of (types ++ more) operand.term)) (pair_is more) ∙ cc

    pub second_shows : ShowsTerm types (unary SndOperation at found) (term.Snd a b operand.term) b
    second_shows = λ more.
        let form = expression-Snd (types ++ more) a b operand.term in
        ap (unary SndOperation at) (shown more) ∙ ap (second_of at (boxed_of (types ++ more) operand.term)) (pair_is more) ∙ cc

  pub opened_shows : (a : TyId) → AuthTy (type_at types a) ≡ type_at types operand.ty → a.0 < length types
      → ShowsTerm types (unary UnauthOperation at found) (term.Unauth a operand.term) a
  opened_shows a is a_inside = λ more.
      let whole = type_is (AuthTy (type_at types a)) is more in
      let one = type_stays_at types (types ++ more) (more, refl) a a_inside in
      let auth : type_at (types ++ more) operand.ty ≡ AuthTy (type_at (types ++ more) a) = cc in
      let form = expression-Unauth (types ++ more) a operand.term in
      ap (unary UnauthOperation at) (shown more) ∙ ap (opened at (boxed_of (types ++ more) operand.term)) auth ∙ cc

  module _ (form : TyForm) (is : type_of_form types form ≡ type_at types operand.ty) where
    -- an operand that is no pair
    module _ (other : (a b : TyId) → form ≡ PairForm a b → ⊥) where
      pub first_refused : unary FstOperation at found ≡ FaultAt NotPair at
      first_refused = ap (unary FstOperation at) (shows_now types typed_of found operand shown)
          ∙ ap (first_of at (boxed_of types operand.term)) (sym is) ∙ by form other
        where
          by : (form : TyForm) → ((a b : TyId) → form ≡ PairForm a b → ⊥)
              → first_of at (boxed_of types operand.term) (type_of_form types form) ≡ FaultAt NotPair at
          by (PairForm a b) other = absurd (other a b refl)
          by (AuthForm part) other = refl
          by UnitForm other = refl
          by BoolForm other = refl
          by IntForm other = refl
          by TextForm other = refl
          by (NamedForm named) other = refl
          by (VecForm len part) other = refl

      pub second_refused : unary SndOperation at found ≡ FaultAt NotPair at
      second_refused = ap (unary SndOperation at) (shows_now types typed_of found operand shown)
          ∙ ap (second_of at (boxed_of types operand.term)) (sym is) ∙ by form other
        where
          by : (form : TyForm) → ((a b : TyId) → form ≡ PairForm a b → ⊥)
              → second_of at (boxed_of types operand.term) (type_of_form types form) ≡ FaultAt NotPair at
          by (PairForm a b) other = absurd (other a b refl)
          by (AuthForm part) other = refl
          by UnitForm other = refl
          by BoolForm other = refl
          by IntForm other = refl
          by TextForm other = refl
          by (NamedForm named) other = refl
          by (VecForm len part) other = refl

    -- an operand that is no authenticated value
    pub opened_refused : ((a : TyId) → form ≡ AuthForm a → ⊥) → unary UnauthOperation at found ≡ FaultAt NotAuth at
    opened_refused other = ap (unary UnauthOperation at) (shows_now types typed_of found operand shown)
        ∙ ap (opened at (boxed_of types operand.term)) (sym is) ∙ by form other
      where
        by : (form : TyForm) → ((a : TyId) → form ≡ AuthForm a → ⊥) → opened at (boxed_of types operand.term) (type_of_form types form) ≡ FaultAt
            NotAuth at
        by (AuthForm part) other = absurd (other part refl)
        by (PairForm a b) other = refl
        by UnitForm other = refl
        by BoolForm other = refl
        by IntForm other = refl
        by TextForm other = refl
        by (NamedForm named) other = refl
        by (VecForm len part) other = refl

  -- the type that is wanted, and another one
  module _ (ty : TyId) where
    pub wanted_shows : type_at types operand.ty ≡ type_at types ty → Shows types boxed_of (wanted at (type_at types ty) found) operand.term
    wanted_shows same = λ more.
        let here : type_at (types ++ more) operand.ty ≡ type_at types ty = type_is (type_at types ty) (sym same) more in
        ap (wanted at (type_at types ty)) (shown more)
        ∙ ap (λ b. unless_fault b WrongType at (Sound (boxed_of (types ++ more) operand.term)))
        (ap (λ t. same_type t (type_at types ty)) here ∙ same_self (type_at types ty))

    pub wanted_refused : type_at types operand.ty ≢ type_at types ty → wanted at (type_at types ty) found ≡ FaultAt WrongType at
    wanted_refused other = ap (wanted at (type_at types ty)) (shows_now types typed_of found operand shown)
        ∙ by (same_type (type_at types operand.ty) (type_at types ty)) refl
      where
        by : (b : Bool) → same_type (type_at types operand.ty) (type_at types ty) ≡ b
            → unless_fault b WrongType at (Sound (boxed_of types operand.term)) ≡ FaultAt WrongType at
        by true is = absurd (other (same_sound (type_at types operand.ty) (type_at types ty) is))
        by false is = refl

-- `len` and `not` of a term of the type that they want
pub length_shows : (old new : List Ty) (operand : Box Term Global) (t : Ty) (at : Place) (found : Checking Typed) → Grows old new → t ≡ TextTy
    → Shows old boxed_of (wanted at t found) operand
    → (more : List Ty) → unary LenOperation at found ≡ typed (expression_of (new ++ more) (term.Len operand)) IntTy
length_shows old new operand t at found grows text shown more =
    let form = expression-Len (new ++ more) operand in
    ap (λ t. then_checked (wanted at t found) (λ e. typed (LenE e) IntTy)) (sym text)
    ∙ ap (λ part. then_checked part (λ e. typed (LenE e) IntTy)) (shows_grow old new boxed_of (wanted at t found) operand grows shown more) ∙ cc

pub negated_shows : (types : List Ty) (operand : Box Term Global) (truth : TyId) (at : Place) (found : Checking Typed)
    → slice_get types truth.0 ≡ Some BoolTy
    → Shows types boxed_of (wanted at (type_at types truth) found) operand → ShowsTerm types (unary NotOperation at found) (term.Not operand) truth
negated_shows types operand truth at found there shown = λ more.
    let form = expression-Not (types ++ more) operand in
    let here : type_at (types ++ more) truth ≡ BoolTy = type_stays types truth.0 BoolTy there more in
    let truth_is : type_at types truth ≡ BoolTy = get_or_from_slice_get types truth.0 BoolTy UnitTy there in
    ap (λ t. then_checked (wanted at t found) (λ e. typed (NotE e) BoolTy)) (sym truth_is)
    ∙ ap (λ part. then_checked part (λ e. typed (NotE e) BoolTy)) (shown more) ∙ cc

-- an operation on two terms
pub combined_shows : (operation : BinaryOperator) (old new : List Ty) (first second : Box Term Global) (whole : Term) (t : Ty)
    (x y : Checking Expression) → Grows old new
    → ((types : List Ty) → expression_of types whole ≡ binary_expression operation (boxed_of types first) (boxed_of types second))
    → t ≡ result_type operation
    → Shows old boxed_of x first → Shows old boxed_of y second
    → (more : List Ty) → then_checked x (λ x. then_checked y (λ y. typed (binary_expression operation x y) (result_type operation))) ≡ typed
    (expression_of (new ++ more) whole) t
combined_shows operation old new first second whole t x y grows form is shown shown' more =
    let e = boxed_of (new ++ more) first in
    ap (λ x. then_checked x (λ x. then_checked y (λ y. typed (binary_expression operation x y) (result_type operation))))
    (shows_grow old new boxed_of x first grows shown more)
    ∙ ap (λ y. then_checked y (λ y. typed (binary_expression operation e y) (result_type operation)))
    (shows_grow old new boxed_of y second grows shown' more)
    ∙ ap (λ e. typed e (result_type operation)) (sym (form (new ++ more))) ∙ ap (typed (expression_of (new ++ more) whole)) (sym is)

first_true : (x y : Bool) → (x && y) ≡ true → x ≡ true
first_true true y h = refl
first_true false y h = absurd (cc)

second_true : (x y : Bool) → (x && y) ≡ true → y ≡ true
second_true true y h = h
second_true false y h = absurd (cc)

-- a form with no parts stands for the same type over all types
pub plain_form : (types : List Ty) (form : TyForm) → stands_behind 0 form ≡ true → type_of_form types form ≡ type_of_form [] form
plain_form types UnitForm plain = refl
plain_form types BoolForm plain = refl
plain_form types IntForm plain = refl
plain_form types TextForm plain = refl
plain_form types (NamedForm named) plain = refl
plain_form types (VecForm len a) plain = absurd (omega (arith, ltb-true a.0 0 (first_true (nat_lt a.0 0) (is_length len) plain)))
plain_form types (AuthForm a) plain = absurd (omega (arith, ltb-true a.0 0 plain))
plain_form types (PairForm a b) plain = absurd (omega (arith, ltb-true a.0 0 (first_true (nat_lt a.0 0) (nat_lt b.0 0) plain)))

-- a form without parts is one of each format
pub leaf_in : (format : Format) (form : TyForm) → stands_behind 0 form ≡ true → is_form_in format form ≡ true
leaf_in format (VecForm len part) h = absurd (omega (arith, ltb-true part.0 0 (first_true (nat_lt part.0 0) (is_length len) h)))
leaf_in format form h = refl

-- the parts of a form that stand behind it are in the table
pub pair_inside : (n m : ℕ) (a b : TyId) → stands_behind n (PairForm a b) ≡ true → n < m → (a.0 < m) × (b.0 < m)
pair_inside n m a b is inside =
    let first : nat_lt a.0 n ≡ true = first_true (nat_lt a.0 n) (nat_lt b.0 n) is in
    let second : nat_lt b.0 n ≡ true = second_true (nat_lt a.0 n) (nat_lt b.0 n) is in
    (omega (arith, ltb-true a.0 n first), omega (arith, ltb-true b.0 n second))

pub auth_inside : (n m : ℕ) (a : TyId) → stands_behind n (AuthForm a) ≡ true → n < m → a.0 < m
auth_inside n m a is inside = omega (arith, ltb-true a.0 n is)

-- the operand of `len` or `not` is refused
pub length_refused : (types new : List Ty) (text : TyId) (at : Place) (found : Checking Typed) (fault : TypeFault) (r : Result TypedTerm TypeFault)
    → slice_get types text.0 ≡ Some TextTy → r ≡ Err fault
    → FindsOver types boxed_of (wanted at (type_at types text) found) (Err fault) → FindsOver new typed_of (unary LenOperation at found) r
length_refused types new text at found fault r there is h =
    fault_first types new boxed_of typed_of (wanted at TextTy found) (λ e. typed (LenE e) IntTy) fault r is
    (subst (λ t. FindsOver types boxed_of (wanted at t found) (Err fault)) (get_or_from_slice_get types text.0 TextTy UnitTy there) h)

pub negated_refused : (types new : List Ty) (truth : TyId) (at : Place) (found : Checking Typed) (fault : TypeFault) (r : Result TypedTerm TypeFault)
    → slice_get types truth.0 ≡ Some BoolTy → r ≡ Err fault
    → FindsOver types boxed_of (wanted at (type_at types truth) found) (Err fault) → FindsOver new typed_of (unary NotOperation at found) r
negated_refused types new truth at found fault r there is h =
    fault_first types new boxed_of typed_of (wanted at BoolTy found) (λ e. typed (NotE e) BoolTy) fault r is
    (subst (λ t. FindsOver types boxed_of (wanted at t found) (Err fault)) (get_or_from_slice_get types truth.0 BoolTy UnitTy there) h)

pub ruleset operations_meant = (expression-Arith, expression-Compare, expression-TextCompare, expression-Cat)
