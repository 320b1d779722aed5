-- Lemmas of expressions in a row, and of the arms of a match, one by one.
use Rattle.std.proofs.Common.{◌≡◌, ℕ, zero, suc, ◌+◌, ◌<◌, ◌≤◌, Bool, true, false, List, [], ◌∷◌, ◌++◌, length, map, drop, nat_eq, Option, Some, None, Vec, slice_index_or, unwrap_or, refl, sym, ap, ◌∙◌, subst, arith, append_assoc}
use Rattle.std.specs.Prelude.{All, IfSome}
use Rattle.std.specs.Global.{Global}
use Rattle.std.specs.declared.boxed.Box.{Box}
use Rattle.std.proofs.lemmas.List.{map-append}
use Rattle.core_terms.specs.Types.{Ty, UnitTy}
use Rattle.core_terms.specs.Terms.{Expression, Expressions, NoE, AndE, Arms, NoArm, AndArm}
use Rattle.core_terms.specs.TypeTables.{type_at}
use Rattle.core_terms.specs.ProgramTrees.{arms_in_a_row, expression_of, in_a_row}
use Rattle.core_terms.specs.declared.types.TyId.{TyId}
use Rattle.core_terms.specs.declared.term.Constructor.{Constructor}
use Rattle.core_terms.specs.declared.term.Term.{Term}
use Rattle.auth_syntax.specs.Parsing.{in_a_row as written_row}
use Rattle.auth_syntax.specs.Syntax.{ExpSyntax, ExpsSyntax, AndExp, ArmsSyntax, AndArmSyntax, place_of}
use Rattle.auth_syntax.specs.Trees.{ArmSyntax, arms_in_a_row as written_arms}
use Rattle.lexemes.specs.declared.place.Place.{Place}
use Rattle.declared_types.specs.Checking.{Checking, Sound, FaultAt, then_checked, unless_fault}
use Rattle.auth_types.specs.Bodies.{Local, Typed, TypedArms, bound_names, elaborated, elaborated_arms, elaborated_each, wanted, wanted_arm}
use Rattle.declared_types.specs.Signatures.{Scope}
use Rattle.auth_types.specs.Elaborators.{arms_of, boxed_of, row_of, typed_of, want_of}
use Rattle.declared_types.specs.OverTypes.{Grows, Shows}
use Rattle.declared_types.specs.declared.fault.TypeKind.{TypeKind}
use Rattle.declared_types.specs.declared.fault.TypeKind.TheVariants.{WrongCount}
use Rattle.auth_types.specs.declared.bodies.Typed.{Typed as TypedTerm}
use Rattle.declared_types.specs.Scopes.{AreWithin, IsConstructorWithin}
use Rattle.auth_types.proofs.FindingSteps.{grown}
use Rattle.declared_types.proofs.ScopeStays.{type_stays_at}

-- expressions before others in a row
abbrev pub with_row : List Expression → Expressions → Expressions
with_row [] xs = xs
with_row (e ∷ es) xs = AndE e (with_row es xs)

abbrev pub row_behind : List Expression → Checking Expressions → Checking Expressions
row_behind es found = then_checked found (λ xs. Sound (with_row es xs))

with_row_one : (es : List Expression) (e : Expression) (xs : Expressions) → with_row es (AndE e xs) ≡ with_row (es ++ e ∷ []) xs
with_row_one [] e xs = refl
with_row_one (first ∷ es) e xs = ap (AndE first) (with_row_one es e xs)

with_row_all : (es : List Expression) → with_row es NoE ≡ in_a_row es
with_row_all [] = refl
with_row_all (e ∷ es) = ap (AndE e) (with_row_all es)

pub row_behind_none : (found : Checking Expressions) → found ≡ row_behind [] found
row_behind_none (Sound xs) = refl
row_behind_none (FaultAt kind at) = refl

row_behind_one : (es : List Expression) (e : Expression) (found : Checking Expressions)
    → row_behind es (then_checked found (λ xs. Sound (AndE e xs))) ≡ row_behind (es ++ e ∷ []) found
row_behind_one es e (Sound xs) = ap Sound (with_row_one es e xs)
row_behind_one es e (FaultAt kind at) = refl

-- arms before others
abbrev pub with_arms : List Expression → Arms → Arms
with_arms [] arms = arms
with_arms (e ∷ es) arms = AndArm e (with_arms es arms)

abbrev pub arms_behind : List Expression → Checking TypedArms → Checking TypedArms
arms_behind es found = then_checked found (λ typed_arms. Sound (record { arms = with_arms es typed_arms.arms; of_type = typed_arms.of_type }))

with_arms_one : (es : List Expression) (e : Expression) (arms : Arms) → with_arms es (AndArm e arms) ≡ with_arms (es ++ e ∷ []) arms
with_arms_one [] e arms = refl
with_arms_one (first ∷ es) e arms = ap (AndArm first) (with_arms_one es e arms)

with_arms_all : (es : List Expression) → with_arms es NoArm ≡ arms_in_a_row es
with_arms_all [] = refl
with_arms_all (e ∷ es) = ap (AndArm e) (with_arms_all es)

pub arms_behind_none : (found : Checking TypedArms) → found ≡ arms_behind [] found
arms_behind_none (Sound typed_arms) = refl
arms_behind_none (FaultAt kind at) = refl

abbrev arm_before : Expression → Checking TypedArms → Checking TypedArms
arm_before e found = then_checked found (λ typed_arms. Sound (record { arms = AndArm e typed_arms.arms; of_type = typed_arms.of_type }))

arms_behind_one : (es : List Expression) (e : Expression) (found : Checking TypedArms)
    → arms_behind es (arm_before e found) ≡ arms_behind (es ++ e ∷ []) found
arms_behind_one es e (Sound typed_arms) =
    ap (λ arms. Sound (record { arms = arms; of_type = typed_arms.of_type })) (with_arms_one es e typed_arms.arms)
arms_behind_one es e (FaultAt kind at) = refl

module _ (scope : Scope) (locals : List Local) where
  -- one expression more, and one that is refused
  module _ (es : List Expression) (x : ExpSyntax) (t : Ty) (rest : ExpsSyntax) (ts : List Ty) where
    pub row_one : (e : Expression) → wanted (place_of x) t (elaborated scope locals x) ≡ Sound e
        → row_behind es (elaborated_each scope locals (AndExp x rest) (t ∷ ts)) ≡ row_behind (es ++ e ∷ []) (elaborated_each scope locals rest ts)
    row_one e is =
        ap (λ found. row_behind es (then_checked found (λ x. then_checked (elaborated_each scope locals rest ts) (λ xs. Sound (AndE x xs))))) is
        ∙ row_behind_one es e (elaborated_each scope locals rest ts)

    pub row_fault : (kind : TypeKind) (at : Place) → wanted (place_of x) t (elaborated scope locals x) ≡ FaultAt kind at
        → row_behind es (elaborated_each scope locals (AndExp x rest) (t ∷ ts)) ≡ FaultAt kind at
    row_fault kind at is = ap (λ found. row_behind es (then_checked found
        (λ x. then_checked (elaborated_each scope locals rest ts) (λ xs. Sound (AndE x xs))))) is

  -- what is found of an arm, and of all behind it
  abbrev pub one_arm : Option Ty → List Ty → ArmSyntax → Checking Typed
  one_arm want ts arm =
      unless_fault (nat_eq (length arm.fields) (length ts)) WrongCount arm.constructor.at
      (then_checked (bound_names [] locals arm.fields ts) (λ inner.
      wanted_arm want (place_of arm.body) (elaborated scope inner arm.body)))

  module _ (es : List Expression) (want : Option Ty) (arm : ArmSyntax) (ts : List Ty) (rest : ArmsSyntax) (others : List (List Ty)) where
    abbrev next_arms : Typed → Checking TypedArms
    next_arms e = arm_before e.expression (elaborated_arms scope locals rest (Some e.of_type) others)

    arm_first : elaborated_arms scope locals (AndArmSyntax arm.constructor arm.fields arm.body rest) want (ts ∷ others) ≡ then_checked
        (one_arm want ts arm) next_arms
    arm_first = by (nat_eq (length arm.fields) (length ts)) (bound_names [] locals arm.fields ts)
      where
        by : (count : Bool) (bound : Checking (List Local))
            → unless_fault count WrongCount arm.constructor.at
            (then_checked bound (λ inner. then_checked (wanted_arm want (place_of arm.body) (elaborated scope inner arm.body)) next_arms))
            ≡ then_checked (unless_fault count WrongCount arm.constructor.at
            (then_checked bound (λ inner. wanted_arm want (place_of arm.body) (elaborated scope inner arm.body)))) next_arms
        by true (Sound inner) = refl
        by true (FaultAt kind at) = refl
        by false bound = refl

    pub arms_one : (e : Typed) → one_arm want ts arm ≡ Sound e
        → arms_behind es (elaborated_arms scope locals (AndArmSyntax arm.constructor arm.fields arm.body rest) want (ts ∷ others))
        ≡ arms_behind (es ++ e.expression ∷ []) (elaborated_arms scope locals rest (Some e.of_type) others)
    arms_one e is =
        ap (arms_behind es) (arm_first ∙ ap (λ found. then_checked found next_arms) is)
        ∙ arms_behind_one es e.expression (elaborated_arms scope locals rest (Some e.of_type) others)

    pub arms_fault : (kind : TypeKind) (at : Place) → one_arm want ts arm ≡ FaultAt kind at
        → arms_behind es (elaborated_arms scope locals (AndArmSyntax arm.constructor arm.fields arm.body rest) want (ts ∷ others)) ≡ FaultAt kind at
    arms_fault kind at is = ap (arms_behind es) (arm_first ∙ ap (λ found. then_checked found next_arms) is)

-- the next of a list, as something of each stands for it
pub next_mapped : {A B : Type 0} (f : A → B) (xs : List A) (i : ℕ) (x d : A) → i < length xs → x ≡ slice_index_or xs i d
    → drop i (map f xs) ≡ f x ∷ drop (i + 1) (map f xs)
next_mapped f [] i x d inside is = absurd (omega arith)
next_mapped f (y ∷ xs) zero x d inside is = cc
next_mapped f (y ∷ xs) (suc i) x d inside is =
    let one : suc i + 1 ≡ suc (i + 1) = omega arith in
    next_mapped f xs i x d (omega arith) is ∙ ap (λ l. f x ∷ l) (sym (ap (λ n. drop n (map f (y ∷ xs))) one))

pub next_here : {A : Type 0} (xs : List A) (i : ℕ) (x d : A) → i < length xs → x ≡ slice_index_or xs i d → drop i xs ≡ x ∷ drop (i + 1) xs
next_here [] i x d inside is = absurd (omega arith)
next_here (y ∷ xs) zero x d inside is = cc
next_here (y ∷ xs) (suc i) x d inside is =
    let one : suc i + 1 ≡ suc (i + 1) = omega arith in
    next_here xs i x d (omega arith) is ∙ ap (λ l. x ∷ l) (sym (ap (λ n. drop n (y ∷ xs)) one))

pub none_here : {A : Type 0} (xs : List A) (i : ℕ) → length xs ≤ i → drop i xs ≡ []
none_here [] zero h = refl
none_here [] (suc i) h = refl
none_here (x ∷ xs) zero h = absurd (omega arith)
none_here (x ∷ xs) (suc i) h = none_here xs i (omega arith)

pub none_mapped : {A B : Type 0} (f : A → B) (xs : List A) (i : ℕ) → length xs ≤ i → drop i (map f xs) ≡ []
none_mapped f [] zero h = refl
none_mapped f [] (suc i) h = refl
none_mapped f (x ∷ xs) zero h = absurd (omega arith)
none_mapped f (x ∷ xs) (suc i) h = none_mapped f xs i (omega arith)

-- a wanted type stays
pub want_stays : (old new : List Ty) (want : Option TyId) → Grows old new → IfSome want (λ ty. ty.0 < length old)
    → want_of new want ≡ want_of old want
want_stays old new None grows inside = refl
want_stays old new (Some ty) grows inside = ap Some (type_stays_at old new grows ty inside)

pub want_within : (m n : ℕ) (want : Option TyId) → m ≤ n → IfSome want (λ ty. ty.0 < m) → IfSome want (λ ty. ty.0 < n)
want_within m n None more inside = tt
want_within m n (Some ty) more inside = omega (arith, more, inside)

module _ (scope : Scope) (locals : List Local) where
  -- what is found of the expressions that are left, and of the arms
  abbrev pub row_left : List ExpSyntax → List Ty → ℕ → Checking Expressions
  row_left xs ts i = elaborated_each scope locals (written_row (drop i xs)) (drop i ts)

  abbrev pub arms_left : List ArmSyntax → List (List Ty) → Option Ty → ℕ → Checking TypedArms
  arms_left arms tss want i = elaborated_arms scope locals (written_arms (drop i arms)) want (drop i tss)

  module _ (xs : List ExpSyntax) (ts : List Ty) (i : ℕ) (x : ExpSyntax) (t : Ty) (here : drop i xs ≡ x ∷ drop (i + 1) xs)
      (there : drop i ts ≡ t ∷ drop (i + 1) ts) (es : List Term) (all : Checking Expressions) where
    row_here : row_left xs ts i ≡ elaborated_each scope locals (AndExp x (written_row (drop (i + 1) xs))) (t ∷ drop (i + 1) ts)
    row_here = ap (λ l. elaborated_each scope locals (written_row l) (drop i ts)) here
        ∙ ap (λ l. elaborated_each scope locals (AndExp x (written_row (drop (i + 1) xs))) l) there

    pub row_more : (old new : List Ty) (e : Term) → Grows old new
        → ((more : List Ty) → all ≡ row_behind (map (expression_of (old ++ more)) es) (row_left xs ts i))
        → Shows new expression_of (wanted (place_of x) t (elaborated scope locals x)) e
        → (more : List Ty) → all ≡ row_behind (map (expression_of (new ++ more)) (es ++ e ∷ [])) (row_left xs ts (i + 1))
    row_more old new e (m, grows) so_far shown more =
        let types : new ++ more ≡ old ++ (m ++ more) = ap (λ l. l ++ more) grows ∙ append_assoc old m more in
        so_far (m ++ more) ∙ ap (λ l. row_behind (map (expression_of l) es) (row_left xs ts i)) (sym types)
        ∙ ap (row_behind (map (expression_of (new ++ more)) es)) row_here
        ∙ row_one scope locals (map (expression_of (new ++ more)) es) x t (written_row (drop (i + 1) xs)) (drop (i + 1) ts)
        (expression_of (new ++ more) e) (shown more)
        ∙ ap (λ es. row_behind es (row_left xs ts (i + 1))) (sym (map-append (expression_of (new ++ more)) es (e ∷ [])))

    pub row_refused : (old : List Ty) (kind : TypeKind) (at : Place)
        → ((more : List Ty) → all ≡ row_behind (map (expression_of (old ++ more)) es) (row_left xs ts i))
        → wanted (place_of x) t (elaborated scope locals x) ≡ FaultAt kind at → all ≡ FaultAt kind at
    row_refused old kind at so_far is =
        so_far [] ∙ ap (row_behind (map (expression_of (old ++ [])) es)) row_here
        ∙ row_fault scope locals (map (expression_of (old ++ [])) es) x t (written_row (drop (i + 1) xs)) (drop (i + 1) ts) kind at is

  module _ (arms : List ArmSyntax) (tss : List (List Ty)) (i : ℕ) (arm : ArmSyntax) (ts : List Ty) (here : drop i arms ≡ arm ∷ drop (i + 1) arms)
      (there : drop i tss ≡ ts ∷ drop (i + 1) tss)
      (want : Option TyId) (es : List Term) (all : Checking TypedArms) where
    arms_here : (w : Option Ty) → arms_left arms tss w i ≡ elaborated_arms scope locals
        (AndArmSyntax arm.constructor arm.fields arm.body (written_arms (drop (i + 1) arms))) w (ts ∷ drop (i + 1) tss)
    arms_here w =
        ap (λ l. elaborated_arms scope locals (written_arms l) w (drop i tss)) here
        ∙ ap (λ l. elaborated_arms scope locals (AndArmSyntax arm.constructor arm.fields arm.body (written_arms (drop (i + 1) arms))) w l) there

    pub arms_more : (old new : List Ty) (e : TypedTerm) → Grows old new → IfSome want (λ ty. ty.0 < length old)
        → ((more : List Ty) → all ≡ arms_behind (map (expression_of (old ++ more)) es) (arms_left arms tss (want_of (old ++ more) want) i))
        → Shows new typed_of (one_arm scope locals (want_of old want) ts arm) e
        → (more : List Ty) → all ≡ arms_behind (map (expression_of (new ++ more)) (es ++ e.term.value ∷ []))
        (arms_left arms tss (want_of (new ++ more) (Some e.ty)) (i + 1))
    arms_more old new e (m, grows) inside so_far shown more =
        let types : new ++ more ≡ old ++ (m ++ more) = ap (λ l. l ++ more) grows ∙ append_assoc old m more in
        let stays : want_of (new ++ more) want ≡ want_of old want = want_stays old (new ++ more) want (m ++ more, types) inside in
        so_far (m ++ more) ∙ ap (λ l. arms_behind (map (expression_of l) es) (arms_left arms tss (want_of l want) i)) (sym types)
        ∙ ap (λ w. arms_behind (map (expression_of (new ++ more)) es) (arms_left arms tss w i)) stays
        ∙ ap (arms_behind (map (expression_of (new ++ more)) es)) (arms_here (want_of old want))
        ∙ arms_one scope locals (map (expression_of (new ++ more)) es) (want_of old want) arm ts (written_arms (drop (i + 1) arms)) (drop (i + 1) tss)
        (typed_of (new ++ more) e) (shown more)
        ∙ ap (λ es. arms_behind es (arms_left arms tss (Some (type_at (new ++ more) e.ty)) (i + 1)))
        (sym (map-append (expression_of (new ++ more)) es (e.term.value ∷ [])))

    pub arms_refused : (old : List Ty) (kind : TypeKind) (at : Place) → IfSome want (λ ty. ty.0 < length old)
        → ((more : List Ty) → all ≡ arms_behind (map (expression_of (old ++ more)) es) (arms_left arms tss (want_of (old ++ more) want) i))
        → one_arm scope locals (want_of old want) ts arm ≡ FaultAt kind at → all ≡ FaultAt kind at
    arms_refused old kind at inside so_far is =
        let stays : want_of (old ++ []) want ≡ want_of old want = want_stays old (old ++ []) want ([], refl) inside in
        so_far [] ∙ ap (λ w. arms_behind (map (expression_of (old ++ [])) es) (arms_left arms tss w i)) stays
        ∙ ap (arms_behind (map (expression_of (old ++ [])) es)) (arms_here (want_of old want))
        ∙ arms_fault scope locals (map (expression_of (old ++ [])) es) (want_of old want) arm ts (written_arms (drop (i + 1) arms)) (drop (i + 1) tss)
        kind at is

  -- none are left
  pub row_last : (types : List Ty) (xs : List ExpSyntax) (ts : List Ty) (i : ℕ) (es : Vec Term Global) (all : Checking Expressions) → drop i xs ≡ []
      → ((more : List Ty) → all ≡ row_behind (map (expression_of (types ++ more)) es.items) (row_left xs ts i)) → Shows types row_of all es
  row_last types xs ts i es all none so_far = λ more.
      so_far more ∙ ap (λ l. row_behind (map (expression_of (types ++ more)) es.items) (elaborated_each scope locals (written_row l) (drop i ts)))
      none
      ∙ ap Sound (with_row_all (map (expression_of (types ++ more)) es.items))

  pub arms_last : (old new : List Ty) (arms : List ArmSyntax) (tss : List (List Ty)) (i : ℕ) (want : Option TyId) (es : Vec Term Global) (ty : TyId)
      (all : Checking TypedArms) → Grows old new → drop i arms ≡ []
      → IfSome want (λ ty. ty.0 < length old) → ((more : List Ty) → type_at (new ++ more) ty ≡ unwrap_or (want_of old want) UnitTy)
      → ((more : List Ty) → all ≡ arms_behind (map (expression_of (old ++ more)) es.items) (arms_left arms tss (want_of (old ++ more) want) i))
      → Shows new arms_of all (record { bodies = es; ty = ty })
  arms_last old new arms tss i want es ty all (m, grows) none inside is so_far = λ more.
      let types : new ++ more ≡ old ++ (m ++ more) = ap (λ l. l ++ more) grows ∙ append_assoc old m more in
      let stays : want_of (new ++ more) want ≡ want_of old want = want_stays old (new ++ more) want (m ++ more, types) inside in
      so_far (m ++ more) ∙ ap (λ l. arms_behind (map (expression_of l) es.items) (arms_left arms tss (want_of l want) i)) (sym types)
      ∙ ap (λ l. arms_behind (map (expression_of (new ++ more)) es.items)
      (elaborated_arms scope locals (written_arms l) (want_of (new ++ more) want) (drop i tss))) none
      ∙ ap (λ a. Sound (record { arms = a; of_type = unwrap_or (want_of (new ++ more) want) UnitTy }))
      (with_arms_all (map (expression_of (new ++ more)) es.items))
      ∙ ap (λ t. Sound (record { arms = arms_in_a_row (map (expression_of (new ++ more)) es.items); of_type = t }))
      (ap (λ w. unwrap_or w UnitTy) stays ∙ sym (is more))

-- the body of an arm, whose type is wanted
pub body_shows : (old new : List Ty) (ty : TyId) (place : Place) (found : Checking Typed) (body : Box Term Global) → Grows old new → ty.0 < length old
    → Shows new boxed_of (wanted place (type_at old ty) found) body
    → Shows new typed_of (wanted_arm (want_of old (Some ty)) place found) (record { term = body; ty = ty })
body_shows old new ty place found body grows inside shown = λ more.
    let stays = type_stays_at old (new ++ more) (grown old new grows more) ty inside in
    ap (λ found. then_checked found (λ e. Sound (record { expression = e; of_type = type_at old ty }))) (shown more) ∙ cc

-- a constructor's types are in the table, and over more types they stand for the same
pub constructor_within : (m n : ℕ) (cs : List Constructor) (i : ℕ) (c : Constructor) (ids : List TyId) → m ≤ n → All (IsConstructorWithin m) cs
    → i < length cs → c ≡ slice_index_or cs i c → ids ≡ c.fields.items → AreWithin n ids
constructor_within m n cs i c ids more within inside is same =
    let here : AreWithin m ids = subst (AreWithin m) (sym same) (subst (IsConstructorWithin m) (sym is) (within i c inside)) in
    λ k d below. let b = here k d below in omega (arith, b)
