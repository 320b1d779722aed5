-- What passes is no greater than its tree: it has no more expressions and no more levels. No place in it has too many locals.
use Rattle.std.proofs.Common.{◌≡◌, ℕ, suc, ◌+◌, ◌≤◌, Bool, true, false, List, [], ◌∷◌, ◌++◌, length, max, Option, Some, None, slice_get, unwrap_or, if◌then◌else◌, nat_eq, nat_lt, eqb-true, refl, subst, arith}
use Rattle.std.proofs.lemmas.Bool.{ltb-true}
use Rattle.std.proofs.lemmas.List.{length_push}
use Rattle.std.proofs.Math.Nat.{max-le}
use Rattle.core_terms.specs.declared.term.BinaryOperator.TheVariants.{Arith, Compare, TextCompare, Cat}
use Rattle.core_terms.specs.declared.term.BinaryOperator.{BinaryOperator}
use Rattle.core_terms.specs.Types.{Ty, BoolTy, TextTy, PairTy, NamedTy, AuthTy, fields_at, same_type}
use Rattle.core_terms.specs.Terms.{Expression, AuthE, Expressions, Arms}
use Rattle.core_terms.specs.ProgramSizes.{expressions_in, expressions_in_arms, expressions_in_row, levels_of, levels_of_arms, levels_of_row, locals_in, locals_in_arms, locals_in_row}
use Rattle.lexemes.specs.declared.place.Place.{Place}
use Rattle.auth_syntax.specs.Syntax.{NameSyntax, ExpSyntax, UnitSyntax, BoolSyntax, IntSyntax, TextSyntax, LocalSyntax, PairSyntax, UnarySyntax, BinarySyntax, CallSyntax, ConstructorSyntax, OperateSyntax, LetSyntax, IfSyntax, MatchSyntax, ExpsSyntax, NoExp, AndExp, ArmsSyntax, NoArmSyntax, AndArmSyntax, UnaryOperation, FstOperation, SndOperation, AuthOperation, UnauthOperation, LenOperation, NotOperation, ArrayOperation, place_of}
use Rattle.auth_syntax.specs.Grammar.{arms_levels, expression_levels, expressions_levels}
use Rattle.auth_syntax.specs.Nesting.{others_of}
use Rattle.auth_syntax.specs.TreeLimits as written
use Rattle.declared_types.specs.Checking.{Checking, Sound, FaultAt, is_among, unless_fault}
use Rattle.auth_types.specs.Bodies.{Local, Typed, TypedArms, arm_names, binary, binary_expression, bound_names, called, constructed, count_of, elaborated, elaborated_arms, elaborated_each, first_of, last_named, local_at, matched, may_begin, most_locals, opened, operand_type, operated as on_arrays, operated_on, pair, same_names, second_of, taken_by, typed, unary, wanted, wanted_arm}
use Rattle.declared_types.specs.Signatures.{Numbered, Scope, Signature, constructor_named, function_named}
use Rattle.declared_types.specs.declared.fault.TypeKind.TheVariants.{ArmsWrong, Limit, NotVec, Twice, WrongCount, WrongType}
use Rattle.declared_types.specs.declared.fault.Limited.TheVariants.{Locals}
use Rattle.declared_types.proofs.SoundSteps.{Gives, gives_any, gives_more, gives_then, gives_unless}

-- the names that a pattern binds stand behind the other locals, and they are not too many
record IsBound (locals : List Local) (ts : List Ty) (inner : List Local) : Type 0 where
  many : length inner ≡ length locals + length ts
  room : length locals ≤ most_locals → length inner ≤ most_locals

bound_room : (before : List (List ℕ)) (locals : List Local) (names : List NameSyntax) (ts : List Ty) → length names ≡ length ts
    → Gives (IsBound locals ts) (bound_names before locals names ts)
bound_room before locals [] [] same = record { many = omega arith; room = λ h. h }
bound_room before locals [] (t ∷ ts) same = absurd (cc)
bound_room before locals (name ∷ names) [] same = absurd (cc)
bound_room before locals (name ∷ names) (t ∷ ts) same =
    let local : Local = record { name = name.name; of_type = t } in
    by (is_among name.name before) (bound_names (name.name ∷ before) (locals ++ local ∷ []) names ts)
    (bound_room (name.name ∷ before) (locals ++ local ∷ []) names ts (cc))
  where
    by : (b : Bool) (found : Checking (List Local)) → Gives (IsBound (locals ++ record { name = name.name; of_type = t } ∷ []) ts) found
        → Gives (IsBound locals (t ∷ ts)) (if b then FaultAt Twice name.at else unless_fault (nat_lt (length locals) most_locals) (Limit Locals) name.at found)
    by true found h = tt
    by false found h =
        let local : Local = record { name = name.name; of_type = t } in
        let pushed = length_push locals local in
        gives_unless (IsBound locals (t ∷ ts)) (nat_lt (length locals) most_locals) (Limit Locals) name.at found
        (λ less. let below = ltb-true (length locals) most_locals less in
        gives_more (IsBound (locals ++ local ∷ []) ts) (IsBound locals (t ∷ ts)) found
        (λ inner is. record { many = omega (arith, is.many, pushed); room = λ h. is.room (omega (arith, below, pushed)) }) h)

module _ (scope : Scope) where
  -- where so many locals stand: at most so many expressions and levels, and room for the locals
  pub record IsSized (n count levels : ℕ) (x : Expression) : Type 0 where
    pub few : expressions_in x ≤ count
    pub flat : levels_of x ≤ levels
    pub room : n ≤ most_locals → locals_in scope.table n x ≤ most_locals

  -- the same of expressions and arms in a row
  record AreSized (n count levels : ℕ) (xs : Expressions) : Type 0 where
    few : expressions_in_row xs ≤ count
    flat : levels_of_row xs ≤ levels
    room : n ≤ most_locals → locals_in_row scope.table n xs ≤ most_locals

  record AreArmsSized (n count levels : ℕ) (rows : List (List Ty)) (arms : Arms) : Type 0 where
    few : expressions_in_arms arms ≤ count
    flat : levels_of_arms arms ≤ levels
    room : n ≤ most_locals → locals_in_arms scope.table n rows arms ≤ most_locals

  abbrev pub Sized : ℕ → ℕ → ℕ → Typed → Type 0
  Sized n count levels e = IsSized n count levels e.expression

  pub wanted_sized : (n count levels : ℕ) (at : Place) (t : Ty) (found : Checking Typed) → Gives (Sized n count levels) found
      → Gives (IsSized n count levels) (wanted at t found)
  wanted_sized n count levels at t found h =
      gives_then (Sized n count levels) (IsSized n count levels) found (λ e. unless_fault (same_type e.of_type t) WrongType at (Sound e.expression)) h
      (λ e he. gives_unless (IsSized n count levels) (same_type e.of_type t) WrongType at (Sound e.expression) (λ _. he))

  -- an expression around another, and one around two
  record IsAround (x around : Expression) : Type 0 where
    few : expressions_in around ≡ suc (expressions_in x)
    flat : levels_of around ≡ suc (levels_of x)
    room : (n : ℕ) → locals_in scope.table n around ≡ locals_in scope.table n x

  around_sized : (n count levels : ℕ) (x around : Expression) → IsAround x around → IsSized n count levels x → IsSized n (suc count) (suc levels) around
  around_sized n count levels x around is h = record {
    few = omega (arith, is.few, h.few);
    flat = omega (arith, is.flat, h.flat);
    room = λ r. omega (arith, is.room n, h.room r);
  }

  record IsAroundBoth (x y around : Expression) : Type 0 where
    few : expressions_in around ≡ suc (expressions_in x + expressions_in y)
    flat : levels_of around ≡ suc (max (levels_of x) (levels_of y))
    room : (n : ℕ) → locals_in scope.table n around ≡ max (locals_in scope.table n x) (locals_in scope.table n y)

  both_sized : (n c d l m : ℕ) (x y around : Expression) → IsAroundBoth x y around → IsSized n c l x → IsSized n d m y → IsSized n (suc (c + d)) (suc (max l m)) around
  both_sized n c d l m x y around is h j = record {
    few = omega (arith, is.few, h.few, j.few);
    flat = omega (arith, is.flat, h.flat, j.flat);
    room = λ r. omega (arith, is.room n, h.room r, j.room r);
  }

  leaf_sized : (n : ℕ) (x : Expression) → expressions_in x ≡ 1 → levels_of x ≡ 1 → locals_in scope.table n x ≡ n → IsSized n 1 1 x
  leaf_sized n x few flat room = record { few = omega (arith, few); flat = omega (arith, flat); room = λ r. omega (arith, room, r) }

  local_sized : (at : Place) (locals : List Local) (found : Option ℕ) → Gives (Sized (length locals) 1 1) (local_at at locals found)
  local_sized at locals None = tt
  local_sized at locals (Some i) = leaf_sized (length locals) _ refl refl refl

  -- an operation on one operand
  first_sized : (n c l : ℕ) (at : Place) (e : Expression) (t : Ty) → IsSized n c l e → Gives (Sized n (suc c) (suc l)) (first_of at e t)
  first_sized n c l at e (PairTy a b) h = around_sized n c l e _ (record { few = refl; flat = refl; room = λ n. refl }) h
  first_sized n c l at e t h = tt

  second_sized : (n c l : ℕ) (at : Place) (e : Expression) (t : Ty) → IsSized n c l e → Gives (Sized n (suc c) (suc l)) (second_of at e t)
  second_sized n c l at e (PairTy a b) h = around_sized n c l e _ (record { few = refl; flat = refl; room = λ n. refl }) h
  second_sized n c l at e t h = tt

  opened_sized : (n c l : ℕ) (at : Place) (e : Expression) (t : Ty) → IsSized n c l e → Gives (Sized n (suc c) (suc l)) (opened at e t)
  opened_sized n c l at e (AuthTy t) h = around_sized n c l e _ (record { few = refl; flat = refl; room = λ n. refl }) h
  opened_sized n c l at e t h = tt

  unary_sized : (n c l : ℕ) (operation : UnaryOperation) (at : Place) (operand : Checking Typed) → Gives (Sized n c l) operand
      → Gives (Sized n (suc c) (suc l)) (unary operation at operand)
  unary_sized n c l FstOperation at operand h =
      gives_then (Sized n c l) (Sized n (suc c) (suc l)) operand (λ e. first_of at e.expression e.of_type) h
      (λ e he. first_sized n c l at e.expression e.of_type he)
  unary_sized n c l SndOperation at operand h =
      gives_then (Sized n c l) (Sized n (suc c) (suc l)) operand (λ e. second_of at e.expression e.of_type) h
      (λ e he. second_sized n c l at e.expression e.of_type he)
  unary_sized n c l AuthOperation at operand h =
      gives_then (Sized n c l) (Sized n (suc c) (suc l)) operand (λ e. typed (AuthE e.of_type e.expression) (AuthTy e.of_type)) h
      (λ e he. around_sized n c l e.expression _ (record { few = refl; flat = refl; room = λ n. refl }) he)
  unary_sized n c l UnauthOperation at operand h =
      gives_then (Sized n c l) (Sized n (suc c) (suc l)) operand (λ e. opened at e.expression e.of_type) h
      (λ e he. opened_sized n c l at e.expression e.of_type he)
  unary_sized n c l LenOperation at operand h =
      gives_then (IsSized n c l) (Sized n (suc c) (suc l)) (wanted at TextTy operand) _ (wanted_sized n c l at TextTy operand h)
      (λ e he. around_sized n c l e _ (record { few = refl; flat = refl; room = λ n. refl }) he)
  unary_sized n c l NotOperation at operand h =
      gives_then (IsSized n c l) (Sized n (suc c) (suc l)) (wanted at BoolTy operand) _ (wanted_sized n c l at BoolTy operand h)
      (λ e he. around_sized n c l e _ (record { few = refl; flat = refl; room = λ n. refl }) he)

  -- an operation on two operands, and a pair
  operated : (n c d l m : ℕ) (operation : BinaryOperator) (x y : Expression) → IsSized n c l x → IsSized n d m y
      → IsSized n (suc (c + d)) (suc (max l m)) (binary_expression operation x y)
  operated n c d l m (Arith operation) x y h j = both_sized n c d l m x y _ (record { few = refl; flat = refl; room = λ n. refl }) h j
  operated n c d l m (Compare operation) x y h j = both_sized n c d l m x y _ (record { few = refl; flat = refl; room = λ n. refl }) h j
  operated n c d l m (TextCompare operation) x y h j = both_sized n c d l m x y _ (record { few = refl; flat = refl; room = λ n. refl }) h j
  operated n c d l m Cat x y h j = both_sized n c d l m x y _ (record { few = refl; flat = refl; room = λ n. refl }) h j

  binary_sized : (n c d l m : ℕ) (operation : BinaryOperator) (at : Place) (first : Checking Typed) (place : Place) (second : Checking Typed)
      → Gives (Sized n c l) first → Gives (Sized n d m) second → Gives (Sized n (suc (c + d)) (suc (max l m))) (binary operation at first place second)
  binary_sized n c d l m operation at first place second h j =
      gives_then (IsSized n c l) (Sized n (suc (c + d)) (suc (max l m))) (wanted at (operand_type operation) first) _
      (wanted_sized n c l at (operand_type operation) first h)
      (λ x hx. gives_then (IsSized n d m) (Sized n (suc (c + d)) (suc (max l m))) (wanted place (operand_type operation) second) _
      (wanted_sized n d m place (operand_type operation) second j) (λ y hy. operated n c d l m operation x y hx hy))

  pair_sized : (n c d l m : ℕ) (first second : Checking Typed) → Gives (Sized n c l) first → Gives (Sized n d m) second
      → Gives (Sized n (suc (c + d)) (suc (max l m))) (pair first second)
  pair_sized n c d l m first second h j =
      gives_then (Sized n c l) (Sized n (suc (c + d)) (suc (max l m))) first _ h
      (λ x hx. gives_then (Sized n d m) (Sized n (suc (c + d)) (suc (max l m))) second _ j
      (λ y hy. both_sized n c d l m x.expression y.expression _ (record { few = refl; flat = refl; room = λ n. refl }) hx hy))

  -- a call, and a constructor with its fields
  called_sized : (n c l : ℕ) (at : Place) (count : ℕ) (found : Option (Numbered Signature)) (arguments : List Ty → Checking Expressions)
      → ((ts : List Ty) → Gives (AreSized n c l) (arguments ts)) → Gives (Sized n (suc c) (suc l)) (called at count found arguments)
  called_sized n c l at count None arguments each = tt
  called_sized n c l at count (Some f) arguments each =
      gives_unless (Sized n (suc c) (suc l)) (nat_eq count (length f.value.parameters)) WrongCount at _
      (λ _. gives_then (AreSized n c l) (Sized n (suc c) (suc l)) (arguments f.value.parameters) _ (each f.value.parameters)
      (λ es h. record { few = omega (arith, h.few); flat = omega (arith, h.flat); room = λ r. h.room r }))

  constructed_sized : (n c l : ℕ) (at : Place) (count : ℕ) (found : Option (Numbered ℕ)) (fields : List Ty → Checking Expressions)
      → ((ts : List Ty) → Gives (AreSized n c l) (fields ts)) → Gives (Sized n (suc c) (suc l)) (constructed at count scope.table found fields)
  constructed_sized n c l at count None fields each = tt
  constructed_sized n c l at count (Some k) fields each =
      let types = unwrap_or (fields_at scope.table k.number k.value) [] in
      gives_unless (Sized n (suc c) (suc l)) (nat_eq count (length types)) WrongCount at _
      (λ _. gives_then (AreSized n c l) (Sized n (suc c) (suc l)) (fields types) _ (each types)
      (λ es h. record { few = omega (arith, h.few); flat = omega (arith, h.flat); room = λ r. h.room r }))

  -- an operation on arrays
  operated_sized : (n c d l m : ℕ) (at : Place) (operation : ArrayOperation) (count : ℕ) (place : Place) (first : Checking Typed)
      (others : List Ty → Checking Expressions) → Gives (Sized n c l) first → ((ts : List Ty) → Gives (AreSized n d m) (others ts))
      → Gives (Sized n (suc (c + d)) (suc (max l m))) (on_arrays scope.format at operation count place first others)
  operated_sized n c d l m at operation count place first others h each =
      let R : Typed → Type 0 = Sized n (suc (c + d)) (suc (max l m)) in
      gives_unless R (nat_eq count (others_of operation)) WrongCount at _
      (λ _. gives_unless R (may_begin scope.format operation) NotVec at _
      (λ _. gives_then (Sized n c l) R first (operated_on scope.format operation place others) h
      (λ x hx. gives_then (λ _. Unit {0}) R (taken_by scope.format operation place x.of_type) _ (gives_any (taken_by scope.format operation place x.of_type))
      (λ taken _. gives_then (AreSized n d m) R (others taken.others) _ (each taken.others)
      (λ xs hxs. record {
        few = omega (arith, hx.few, hxs.few);
        flat = omega (arith, hx.flat, hxs.flat);
        room = λ r. max-le (hx.room r) (hxs.room r);
      })))))

  -- a match
  matched_sized : (n c d l m : ℕ) (at subject : Place) (e : Expression) (t : Ty) (names : List (List ℕ)) (arms : List (List Ty) → Checking TypedArms)
      → IsSized n c l e → ((rows : List (List Ty)) → Gives (λ found. AreArmsSized n d m rows found.arms) (arms rows))
      → Gives (Sized n (suc (c + d)) (suc (max l m))) (matched scope at subject e t names arms)
  matched_sized n c d l m at subject e (NamedTy number) names arms h each =
      let rows = unwrap_or (slice_get scope.table number) [] in
      gives_unless (Sized n (suc (c + d)) (suc (max l m))) (same_names names (unwrap_or (slice_get scope.constructors number) [])) ArmsWrong at _
      (λ _. gives_then (λ found. AreArmsSized n d m rows found.arms) (Sized n (suc (c + d)) (suc (max l m))) (arms rows) _ (each rows)
      (λ found j. record {
        few = omega (arith, h.few, j.few);
        flat = omega (arith, h.flat, j.flat);
        room = λ r. max-le (h.room r) (j.room r);
      }))
  matched_sized n c d l m at subject e t names arms h each = tt

  -- the body of an arm
  arm_sized : (n c l : ℕ) (want : Option Ty) (at : Place) (body : Checking Typed) → Gives (Sized n c l) body → Gives (Sized n c l) (wanted_arm want at body)
  arm_sized n c l None at body h = h
  arm_sized n c l (Some t) at body h =
      gives_then (IsSized n c l) (Sized n c l) (wanted at t body) (λ e. typed e t) (wanted_sized n c l at t body h) (λ e he. he)

  mutual
    -- an expression
    pub elaborated_sized : (locals : List Local) (x : ExpSyntax)
        → Gives (Sized (length locals) (written.expressions_in x) (expression_levels x)) (elaborated scope locals x)
    elaborated_sized locals (UnitSyntax at) = leaf_sized (length locals) _ refl refl refl
    elaborated_sized locals (BoolSyntax at b) = leaf_sized (length locals) _ refl refl refl
    elaborated_sized locals (IntSyntax at z) = leaf_sized (length locals) _ refl refl refl
    elaborated_sized locals (TextSyntax at bytes) = leaf_sized (length locals) _ refl refl refl
    elaborated_sized locals (LocalSyntax at name) = local_sized at locals (last_named 0 locals name)
    elaborated_sized locals (PairSyntax at x y) =
        pair_sized (length locals) (written.expressions_in x) (written.expressions_in y) (expression_levels x) (expression_levels y)
        (elaborated scope locals x) (elaborated scope locals y) (elaborated_sized locals x) (elaborated_sized locals y)
    elaborated_sized locals (UnarySyntax at operation x) =
        unary_sized (length locals) (written.expressions_in x) (expression_levels x) operation (place_of x) (elaborated scope locals x) (elaborated_sized locals x)
    elaborated_sized locals (BinarySyntax at operation x y) =
        binary_sized (length locals) (written.expressions_in x) (written.expressions_in y) (expression_levels x) (expression_levels y) operation
        (place_of x) (elaborated scope locals x) (place_of y) (elaborated scope locals y) (elaborated_sized locals x) (elaborated_sized locals y)
    elaborated_sized locals (CallSyntax at name xs) =
        called_sized (length locals) (written.expressions_in_row xs) (expressions_levels xs) at (count_of xs) (function_named 0 scope.functions name)
        (elaborated_each scope locals xs) (λ ts. each_sized locals xs ts)
    elaborated_sized locals (ConstructorSyntax at name xs) =
        constructed_sized (length locals) (written.expressions_in_row xs) (expressions_levels xs) at (count_of xs) (constructor_named 0 scope.constructors name)
        (elaborated_each scope locals xs) (λ ts. each_sized locals xs ts)
    elaborated_sized locals (OperateSyntax at operation NoExp) = tt
    elaborated_sized locals (OperateSyntax at operation (AndExp x xs)) =
        operated_sized (length locals) (written.expressions_in x) (written.expressions_in_row xs) (expression_levels x) (expressions_levels xs) at operation
        (count_of xs) (place_of x) (elaborated scope locals x) (elaborated_each scope locals xs) (elaborated_sized locals x) (λ ts. each_sized locals xs ts)
    elaborated_sized locals (LetSyntax at name x body) =
        let R : Typed → Type 0 = Sized (length locals) (written.expressions_in (LetSyntax at name x body)) (expression_levels (LetSyntax at name x body)) in
        gives_then (Sized (length locals) (written.expressions_in x) (expression_levels x)) R (elaborated scope locals x) _ (elaborated_sized locals x)
        (λ e he. gives_unless R (nat_lt (length locals) most_locals) (Limit Locals) name.at _
        (λ less. let local : Local = record { name = name.name; of_type = e.of_type } in
        let below = ltb-true (length locals) most_locals less in
        let pushed : length (locals ++ local ∷ []) ≡ suc (length locals) = omega (arith, length_push locals local) in
        gives_then (Sized (length (locals ++ local ∷ [])) (written.expressions_in body) (expression_levels body)) R
        (elaborated scope (locals ++ local ∷ []) body) _ (elaborated_sized (locals ++ local ∷ []) body)
        (λ b hb. record {
          few = omega (arith, he.few, hb.few);
          flat = omega (arith, he.flat, hb.flat);
          room = λ r. max-le (he.room r)
              (subst (λ m. locals_in scope.table m b.expression ≤ most_locals) pushed (hb.room (omega (arith, below, pushed))));
        })))
    elaborated_sized locals (IfSyntax at test x y) =
        let R : Typed → Type 0 = Sized (length locals) (written.expressions_in (IfSyntax at test x y)) (expression_levels (IfSyntax at test x y)) in
        gives_then (IsSized (length locals) (written.expressions_in test) (expression_levels test)) R (wanted (place_of test) BoolTy (elaborated scope locals test)) _
        (wanted_sized (length locals) (written.expressions_in test) (expression_levels test) (place_of test) BoolTy (elaborated scope locals test)
        (elaborated_sized locals test))
        (λ c hc. gives_then (Sized (length locals) (written.expressions_in x) (expression_levels x)) R (elaborated scope locals x) _ (elaborated_sized locals x)
        (λ e he. gives_then (IsSized (length locals) (written.expressions_in y) (expression_levels y)) R (wanted (place_of y) e.of_type (elaborated scope locals y)) _
        (wanted_sized (length locals) (written.expressions_in y) (expression_levels y) (place_of y) e.of_type (elaborated scope locals y)
        (elaborated_sized locals y))
        (λ f hf. record {
          few = omega (arith, hc.few, he.few, hf.few);
          flat = omega (arith, hc.flat, he.flat, hf.flat);
          room = λ r. max-le (hc.room r) (max-le (he.room r) (hf.room r));
        })))
    elaborated_sized locals (MatchSyntax at x arms) =
        let R : Typed → Type 0 = Sized (length locals) (written.expressions_in (MatchSyntax at x arms)) (expression_levels (MatchSyntax at x arms)) in
        gives_then (Sized (length locals) (written.expressions_in x) (expression_levels x)) R (elaborated scope locals x) _ (elaborated_sized locals x)
        (λ e he. matched_sized (length locals) (written.expressions_in x) (written.expressions_in_arms arms) (expression_levels x) (arms_levels arms) at (place_of x)
        e.expression e.of_type (arm_names arms) (elaborated_arms scope locals arms None) he (λ rows. arms_sized locals arms None rows))

    -- expressions in a row
    each_sized : (locals : List Local) (xs : ExpsSyntax) (ts : List Ty)
        → Gives (AreSized (length locals) (written.expressions_in_row xs) (expressions_levels xs)) (elaborated_each scope locals xs ts)
    each_sized locals NoExp [] = record { few = omega arith; flat = omega arith; room = λ r. r }
    each_sized locals NoExp (t ∷ ts) = record { few = omega arith; flat = omega arith; room = λ r. r }
    each_sized locals (AndExp x xs) [] = record { few = omega arith; flat = omega arith; room = λ r. r }
    each_sized locals (AndExp x xs) (t ∷ ts) =
        let R : Expressions → Type 0 = AreSized (length locals) (written.expressions_in_row (AndExp x xs)) (expressions_levels (AndExp x xs)) in
        gives_then (IsSized (length locals) (written.expressions_in x) (expression_levels x)) R (wanted (place_of x) t (elaborated scope locals x)) _
        (wanted_sized (length locals) (written.expressions_in x) (expression_levels x) (place_of x) t (elaborated scope locals x) (elaborated_sized locals x))
        (λ e he. gives_then (AreSized (length locals) (written.expressions_in_row xs) (expressions_levels xs)) R (elaborated_each scope locals xs ts) _
        (each_sized locals xs ts)
        (λ es hes. record {
          few = omega (arith, he.few, hes.few);
          flat = omega (arith, he.flat, hes.flat);
          room = λ r. max-le (he.room r) (hes.room r);
        }))

    -- arms in a row
    arms_sized : (locals : List Local) (arms : ArmsSyntax) (want : Option Ty) (rows : List (List Ty))
        → Gives (λ found. AreArmsSized (length locals) (written.expressions_in_arms arms) (arms_levels arms) rows found.arms) (elaborated_arms scope locals arms want rows)
    arms_sized locals NoArmSyntax want [] = record { few = omega arith; flat = omega arith; room = λ r. r }
    arms_sized locals NoArmSyntax want (ts ∷ rows) = record { few = omega arith; flat = omega arith; room = λ r. r }
    arms_sized locals (AndArmSyntax constructor fields body rest) want [] = record { few = omega arith; flat = omega arith; room = λ r. r }
    arms_sized locals (AndArmSyntax constructor fields body rest) want (ts ∷ rows) =
        let R : TypedArms → Type 0 = λ found. AreArmsSized (length locals) (written.expressions_in_arms (AndArmSyntax constructor fields body rest))
        (arms_levels (AndArmSyntax constructor fields body rest)) (ts ∷ rows) found.arms in
        gives_unless R (nat_eq (length fields) (length ts)) WrongCount constructor.at _
        (λ as_many. gives_then (IsBound locals ts) R (bound_names [] locals fields ts) _
        (bound_room [] locals fields ts (eqb-true (length fields) (length ts) as_many))
        (λ inner bound. gives_then (Sized (length inner) (written.expressions_in body) (expression_levels body)) R
        (wanted_arm want (place_of body) (elaborated scope inner body)) _
        (arm_sized (length inner) (written.expressions_in body) (expression_levels body) want (place_of body) (elaborated scope inner body) (elaborated_sized inner body))
        (λ e he. gives_then (λ found. AreArmsSized (length locals) (written.expressions_in_arms rest) (arms_levels rest) rows found.arms) R
        (elaborated_arms scope locals rest (Some e.of_type) rows) _ (arms_sized locals rest (Some e.of_type) rows)
        (λ found h. record {
          few = omega (arith, he.few, h.few);
          flat = omega (arith, he.flat, h.flat);
          room = λ r. max-le (subst (λ m. locals_in scope.table m e.expression ≤ most_locals) bound.many (he.room (bound.room r))) (h.room r);
        }))))
