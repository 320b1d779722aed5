-- Things in a row: the first and the last of them that fit, and rules that each is judged by behind those that stand before it.
use Rattle.std.specs.Prelude.{◌≡◌, ℕ, suc, List, [], ◌∷◌, ◌++◌, Some, slice_get, take, drop}
use Rattle.std.specs.List.{All}
use Rattle.lexemes.specs.declared.place.Place.{Place}
use Rattle.declared_types.specs.declared.fault.TypeKind.{TypeKind}

-- none of these fits
abbrev pub NoneFits : {A : Type 0} → (A → Type 0) → List A → Type 0
NoneFits Fits xs = All (λ x. Fits x → ⊥) xs

-- x, which stands at place n, from 0, is the first that fits
pub record IsFirst {A : Type 0} (Fits : A → Type 0) (xs : List A) (n : ℕ) (x : A) : Type 0 where
  pub there : slice_get xs n ≡ Some x
  pub fits : Fits x
  pub none_before : NoneFits Fits (take n xs)

-- x, which stands at place n, from 0, is the last that fits
pub record IsLast {A : Type 0} (Fits : A → Type 0) (xs : List A) (n : ℕ) (x : A) : Type 0 where
  pub there : slice_get xs n ≡ Some x
  pub fits : Fits x
  pub none_behind : NoneFits Fits (drop (suc n) xs)

-- A rule for things in a row speaks of those that stand before and of the next one. Each of these, which stand behind some, meets it.
pub data EachMeets {A : Type 0} (Meets : List A → A → Type 0) : (before xs : List A) → Type 0 where
  NoMore : {before : List A} → EachMeets Meets before []
  AndMore : {before : List A} {x : A} {rest : List A} → Meets before x → EachMeets Meets (before ++ x ∷ []) rest → EachMeets Meets before (x ∷ rest)

-- One of these breaks a rule at this place, and each that stands before that one meets all of them.
pub data OneBreaks {A : Type 0} (Meets : List A → A → Type 0) (Breaks : List A → A → TypeKind → Place → Type 0) : (before xs : List A) → TypeKind
    → Place → Type 0 where
  ThisBreaks : {before : List A} {x : A} {rest : List A} {kind : TypeKind} {at : Place} → Breaks before x kind at
      → OneBreaks Meets Breaks before (x ∷ rest) kind at
  LaterBreaks : {before : List A} {x : A} {rest : List A} {kind : TypeKind} {at : Place}
      → Meets before x → OneBreaks Meets Breaks (before ++ x ∷ []) rest kind at → OneBreaks Meets Breaks before (x ∷ rest) kind at
