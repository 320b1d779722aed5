-- Lemmas of the terms of conditions, and how many expressions stand in a row.
use Rattle.std.proofs.Common.{◌≡◌, suc, List, [], ◌∷◌, ◌++◌, length, refl, sym, ap, ◌∙◌}
use Rattle.std.specs.declared.alloc.Global.{Global}
use Rattle.std.specs.declared.boxed.Box.{Box}
use Rattle.core_terms.specs.Types.{Ty, BoolTy}
use Rattle.core_terms.specs.Terms.{Expression, IfE}
use Rattle.core_terms.specs.TypeTables.{type_at}
use Rattle.core_terms.specs.declared.term.Term.{Term}
use Rattle.core_terms.specs.declared.term.Term as term
use Rattle.auth_syntax.specs.Syntax.{ExpSyntax, IfSyntax, place_of}
use Rattle.auth_syntax.specs.Parsing.{in_a_row}
use Rattle.lexemes.specs.declared.place.Place.{Place}
use Rattle.declared_types.specs.Checking.{Checking, then_checked}
use Rattle.auth_types.specs.Bodies.{Local, Typed, count_of, elaborated, typed, wanted}
use Rattle.declared_types.specs.Signatures.{Scope}
use Rattle.auth_types.specs.Elaborators.{ShowsTerm, boxed_of, typed_of}
use Rattle.declared_types.specs.OverTypes.{Grows, Shows}
use Rattle.auth_types.specs.declared.bodies.Typed.{Typed as TypedTerm}
use Rattle.core_terms.proofs.TermViews.{expression-If}
use Rattle.declared_types.proofs.TypeNumbers.{shows_grow, shows_now}

-- how many expressions stand in a row
pub count_row : (xs : List ExpSyntax) → count_of (in_a_row xs) ≡ length xs
count_row [] = refl
count_row (x ∷ xs) = ap suc (count_row xs)

module _ (scope : Scope) (locals : List Local) where
  module _ (at : Place) (test first other : ExpSyntax) where
    -- what is found behind the test, and behind the first branch
    abbrev pub behind_first : Expression → Typed → Checking Typed
    behind_first condition x = then_checked (wanted (place_of other) x.of_type (elaborated scope locals other))
        (λ y. typed (IfE condition x.expression y) x.of_type)

    abbrev pub behind_test : Expression → Checking Typed
    behind_test condition = then_checked (elaborated scope locals first) (behind_first condition)

    pub if_shows : (tested middle new : List Ty) (t u : Ty) (c : Box Term Global) (a : TypedTerm) (b : Box Term Global) → Grows tested new
        → Grows middle new → t ≡ BoolTy → u ≡ type_at middle a.ty
        → Shows tested boxed_of (wanted (place_of test) t (elaborated scope locals test)) c → Shows middle typed_of (elaborated scope locals first) a
        → Shows new boxed_of (wanted (place_of other) u (elaborated scope locals other)) b
        → ShowsTerm new (elaborated scope locals (IfSyntax at test first other)) (term.If c a.term b) a.ty
    if_shows tested middle new t u c a b grows grows' truth here test_shown first_shown other_shown = λ more.
        let tested_is = shows_grow tested new boxed_of (wanted (place_of test) t (elaborated scope locals test)) c grows test_shown more in
        let later = shows_grow middle new typed_of (elaborated scope locals first) a grows' first_shown more in
        let now = shows_now middle typed_of (elaborated scope locals first) a first_shown in
        let one : typed_of middle a ≡ typed_of (new ++ more) a = cc in
        let of_type : type_at middle a.ty ≡ type_at (new ++ more) a.ty = ap (λ e. e.of_type) one in
        let form = expression-If (new ++ more) c a.term b in
        ap (λ t. then_checked (wanted (place_of test) t (elaborated scope locals test)) behind_test) (sym truth)
        ∙ ap (λ found. then_checked found behind_test) tested_is
        ∙ ap (λ found. then_checked found (behind_first (boxed_of (new ++ more) c))) later
        ∙ ap (λ t. then_checked (wanted (place_of other) t (elaborated scope locals other))
        (λ y. typed (IfE (boxed_of (new ++ more) c) (boxed_of (new ++ more) a.term) y) (type_at (new ++ more) a.ty))) (sym of_type ∙ sym here)
        ∙ ap (λ found. then_checked found (λ y. typed (IfE (boxed_of (new ++ more) c) (boxed_of (new ++ more) a.term) y)
        (type_at (new ++ more) a.ty))) (other_shown more)
        ∙ cc
