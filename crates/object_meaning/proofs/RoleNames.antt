-- The names of the roles among functions, with one function more.
use Rattle.std.proofs.Common.{◌≡◌, Bool, true, false, List, [], ◌∷◌, ◌++◌, refl, ap, if◌then◌else◌}
use Rattle.core_terms.specs.Roles.{is_entered}
use Rattle.object_meaning.specs.Objects.{ListedFunction}
use Rattle.object_meaning.specs.ReadObjects.{role_names}

pub role_names_more : (before : List ListedFunction) (f : ListedFunction) → role_names (before ++ f ∷ []) ≡ role_names before ++ role_names (f ∷ [])
role_names_more [] f = refl
role_names_more (g ∷ before) f = by (is_entered g.kind) (role_names_more before f)
  where
    by : (b : Bool) → role_names (before ++ f ∷ []) ≡ role_names before ++ role_names (f ∷ [])
        → (if b then g.name ∷ role_names (before ++ f ∷ []) else role_names (before ++ f ∷ [])) ≡ (if b then g.name ∷ role_names before else role_names before) ++ role_names (f ∷ [])
    by true e = ap (λ l. g.name ∷ l) e
    by false e = e
