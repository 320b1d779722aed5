-- Lemmas of the names that a pattern binds, one by one.
use Rattle.std.proofs.Common.{◌≡◌, ℕ, ◌+◌, ◌≤◌, Bool, true, false, List, [], ◌∷◌, ◌++◌, length, reverse, drop, nat_lt, if◌then◌else◌, sym, ap, ◌∙◌}
use Rattle.std.proofs.lemmas.List.{drop-append-le, map-append, reverse-append}
use Rattle.core_terms.specs.Types.{Ty}
use Rattle.auth_syntax.specs.Syntax.{NameSyntax}
use Rattle.lexemes.specs.declared.place.Place.{Place}
use Rattle.auth_types.specs.Bodies.{Local, bound_names, most_locals}
use Rattle.declared_types.specs.Checking.{Checking, Sound, FaultAt, is_among, unless_fault}
use Rattle.auth_types.specs.Locals.{names_of}
use Rattle.declared_types.specs.declared.fault.TypeKind.{TypeKind}
use Rattle.declared_types.specs.declared.fault.TypeKind.TheVariants.{Twice, Limit}
use Rattle.declared_types.specs.declared.fault.Limited.TheVariants.{Locals}
use Rattle.declared_types.proofs.NamesBefore.{among_reverse}

-- the local of a name, and the names behind the first locals, the last one first
abbrev pub named_local : NameSyntax → Ty → Local
named_local name t = record { name = name.name; of_type = t }

abbrev pub bound_behind : ℕ → List Local → List (List ℕ)
bound_behind outer locals = reverse (names_of (drop outer locals))

-- one local more, where there may be one
abbrev pub with_local : List Local → NameSyntax → Ty → Checking (List Local)
with_local locals name t = unless_fault (nat_lt (length locals) most_locals) (Limit Locals) name.at (Sound (locals ++ named_local name t ∷ []))

bound_more : (outer : ℕ) (locals : List Local) (name : NameSyntax) (t : Ty) → outer ≤ length locals
    → bound_behind outer (locals ++ named_local name t ∷ []) ≡ name.name ∷ bound_behind outer locals
bound_more outer locals name t inside =
    ap (λ ls. reverse (names_of ls)) (drop-append-le outer locals (named_local name t ∷ []) inside)
    ∙ ap reverse (map-append (λ (l : Local). l.name) (drop outer locals) (named_local name t ∷ []))
    ∙ reverse-append (names_of (drop outer locals)) (name.name ∷ [])

module _ (outer : ℕ) (locals : List Local) (name : NameSyntax) (t : Ty) (ns : List NameSyntax) (ts : List Ty) where
  -- what is found of names of which the first is bound before or not, and is one too many or not
  abbrev of_tests : Bool → Bool → Checking (List Local)
  of_tests again few =
      if again then FaultAt Twice name.at else
      unless_fault few (Limit Locals) name.at (bound_names (name.name ∷ bound_behind outer locals) (locals ++ named_local name t ∷ []) ns ts)

  pub bound_twice : is_among name.name (names_of (drop outer locals)) ≡ true
      → bound_names (bound_behind outer locals) locals (name ∷ ns) (t ∷ ts) ≡ FaultAt Twice name.at
  bound_twice again = ap (λ b. of_tests b (nat_lt (length locals) most_locals)) (among_reverse name.name (names_of (drop outer locals)) ∙ again)

  module _ (new : is_among name.name (names_of (drop outer locals)) ≡ false) where
    one_is_new : bound_names (bound_behind outer locals) locals (name ∷ ns) (t ∷ ts) ≡ of_tests false (nat_lt (length locals) most_locals)
    one_is_new = ap (λ b. of_tests b (nat_lt (length locals) most_locals)) (among_reverse name.name (names_of (drop outer locals)) ∙ new)

    pub bound_fault : (kind : TypeKind) (at : Place) → with_local locals name t ≡ FaultAt kind at → bound_names (bound_behind outer locals) locals
        (name ∷ ns) (t ∷ ts) ≡ FaultAt kind at
    bound_fault kind at is = one_is_new ∙ by (nat_lt (length locals) most_locals) is
      where
        by : (few : Bool) → unless_fault few (Limit Locals) name.at (Sound (locals ++ named_local name t ∷ [])) ≡ FaultAt kind at → of_tests false
            few ≡ FaultAt kind at
        by true is = absurd (cc)
        by false is = cc

    pub bound_one : (inner : List Local) → outer ≤ length locals → with_local locals name t ≡ Sound inner
        → bound_names (bound_behind outer locals) locals (name ∷ ns) (t ∷ ts) ≡ bound_names (bound_behind outer inner) inner ns ts
    bound_one inner inside is = one_is_new ∙ by (nat_lt (length locals) most_locals) is
      where
        by : (few : Bool) → unless_fault few (Limit Locals) name.at (Sound (locals ++ named_local name t ∷ [])) ≡ Sound inner
            → of_tests false few ≡ bound_names (bound_behind outer inner) inner ns ts
        by true is =
            let same : locals ++ named_local name t ∷ [] ≡ inner = cc in
            ap (λ before. bound_names before (locals ++ named_local name t ∷ []) ns ts) (sym (bound_more outer locals name t inside))
            ∙ ap (λ ls. bound_names (bound_behind outer ls) ls ns ts) same
        by false is = absurd (cc)

-- the local that is added
pub with_local_is : (locals inner : List Local) (name : NameSyntax) (t : Ty) → with_local locals name t ≡ Sound inner
    → inner ≡ locals ++ named_local name t ∷ []
with_local_is locals inner name t is = by (nat_lt (length locals) most_locals) is
  where
    by : (few : Bool) → unless_fault few (Limit Locals) name.at (Sound (locals ++ named_local name t ∷ [])) ≡ Sound inner
        → inner ≡ locals ++ named_local name t ∷ []
    by true is = cc
    by false is = absurd (cc)

-- where so many names are bound, the next one is bound, or is refused
module _ (before locals : List Local) (ns : List NameSyntax) (ts : List Ty) (i : ℕ) (name : NameSyntax) (t : Ty) (all : Checking (List Local))
    (here : drop i ns ≡ name ∷ drop (i + 1) ns)
    (there : drop i ts ≡ t ∷ drop (i + 1) ts) (so_far : all ≡ bound_names (bound_behind (length before) locals) locals (drop i ns) (drop i ts)) where
  all_is : all ≡ bound_names (bound_behind (length before) locals) locals (name ∷ drop (i + 1) ns) (t ∷ drop (i + 1) ts)
  all_is =
      so_far ∙ ap (λ l. bound_names (bound_behind (length before) locals) locals l (drop i ts)) here
      ∙ ap (λ l. bound_names (bound_behind (length before) locals) locals (name ∷ drop (i + 1) ns) l) there

  pub next_twice : is_among name.name (names_of (drop (length before) locals)) ≡ true → all ≡ FaultAt Twice name.at
  next_twice again = all_is ∙ bound_twice (length before) locals name t (drop (i + 1) ns) (drop (i + 1) ts) again

  module _ (new : is_among name.name (names_of (drop (length before) locals)) ≡ false) where
    pub next_fault : (kind : TypeKind) (at : Place) → with_local locals name t ≡ FaultAt kind at → all ≡ FaultAt kind at
    next_fault kind at is = all_is ∙ bound_fault (length before) locals name t (drop (i + 1) ns) (drop (i + 1) ts) new kind at is

    pub next_bound : (inner : List Local) → length before ≤ length locals → with_local locals name t ≡ Sound inner
        → all ≡ bound_names (bound_behind (length before) inner) inner (drop (i + 1) ns) (drop (i + 1) ts)
    next_bound inner inside is = all_is ∙ bound_one (length before) locals name t (drop (i + 1) ns) (drop (i + 1) ts) new inner inside is
