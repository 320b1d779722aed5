-- Roles: their names among those before, and functions behind them.
use Rattle.std.proofs.Common.{◌≡◌, ℕ, true, List, [], ◌∷◌, ◌++◌, Option, Some, None, slice_index_or, if◌then◌else◌, refl, sym, ap, ap₂, ◌∙◌, Bor}
use Rattle.core_terms.specs.Roles.{is_entered}
use Rattle.core_terms.specs.RoleViews.{role_kind_of}
use Rattle.core_terms.specs.Terms.{Kind, Inner}
use Rattle.core_terms.specs.declared.roles.RoleKind.{RoleKind}
use Rattle.core_terms.specs.declared.roles.RoleKind.TheVariants.{Init, Query, Update}
use Rattle.object_meaning.specs.Objects.{ListedFunction, ListedType}
use Rattle.object_meaning.specs.Readers.{Taken, Took, CutShort, BadAt, then_take, taken_as, u8, within}
use Rattle.object_meaning.specs.ReadObjects.{behind_kind, behind_name, function_read, is_lower_name, kinds, name_read, role_names, role_name_read}
use Rattle.object_meaning.proofs.RoleNames.{role_names_more}
use Rattle.object_reader.specs.NamesRead.{names_in}
use Rattle.object_reader.specs.ObjectViews.{function_of, kind_in, name_in}
use Rattle.object_reader.specs.RolesBefore.{IsNamedBefore, entered_read, own_name, role_read}
use Rattle.object_reader.specs.declared.object.ListedFunction as read
use Rattle.object_reader.specs.declared.object.ListedRole.{ListedRole}

pub by_keys : (kind : Kind) (keys : List (Bor (List ℕ))) (before : List ListedFunction) (bytes : List ℕ) (place : ℕ) → IsNamedBefore keys before
    → entered_read kind before bytes place ≡ taken_as (λ name. (kind, name)) (name_read is_lower_name (names_in keys) bytes place)
by_keys kind keys before bytes place known = ap (λ ns. taken_as {B = Kind × List ℕ} (λ name. (kind, name)) (name_read is_lower_name ns bytes place)) (sym known)

entered_is : (kind : RoleKind) → is_entered (role_kind_of kind) ≡ true
entered_is Init = refl
entered_is Query = refl
entered_is Update = refl

-- a function that was read has the name that its role has
own_is : (f : read.ListedFunction) → own_name f.role ≡ role_names (function_of f ∷ [])
own_is f = by f.role
  where
    by : (role : Option ListedRole) → own_name role ≡ (if is_entered (kind_in role) then name_in role ∷ [] else [])
    by None = refl
    by (Some role) = ap (λ b. if b then role.name.now ∷ [] else []) (sym (entered_is role.kind))

pub named_more : (keys keys' : List (Bor (List ℕ))) (before : List ListedFunction) (f : read.ListedFunction) → IsNamedBefore keys before
    → names_in keys' ≡ names_in keys ++ own_name f.role → IsNamedBefore keys' (before ++ function_of f ∷ [])
named_more keys keys' before f known more =
    more ∙ ap₂ (λ ns own. ns ++ own) known (own_is f) ∙ sym (role_names_more before (function_of f))

module _ (types : List ListedType) (functions : ℕ) where
  behind_role : (kind : Kind) (t : Taken (List ℕ)) → then_take t (behind_name types functions kind) ≡ then_take {A = Kind × List ℕ} (taken_as {B = Kind × List ℕ} (λ name. (kind, name)) t) (λ r. behind_name types functions r.0 r.1)
  behind_role kind (Took name rest behind) = refl
  behind_role kind CutShort = refl
  behind_role kind (BadAt offset) = refl

  pub function_is : (before : List ListedFunction) (bytes : List ℕ) (place : ℕ)
      → function_read types functions before bytes place ≡ then_take (role_read before bytes place) (λ r. behind_name types functions r.0 r.1)
  function_is before bytes place = by (u8 (within 0 3) bytes place)
    where
      by : (t : Taken ℕ) → then_take t (λ number. behind_kind types functions before (slice_index_or kinds number Inner))
          ≡ then_take {A = Kind × List ℕ} (then_take {B = Kind × List ℕ} t (λ number bytes place. let kind = slice_index_or kinds number Inner in taken_as {B = Kind × List ℕ} (λ name. (kind, name)) (role_name_read kind before bytes place))) (λ r. behind_name types functions r.0 r.1)
      by (Took number rest behind) =
          let kind = slice_index_or kinds number Inner in
          behind_role kind (role_name_read kind before rest behind)
      by CutShort = refl
      by (BadAt offset) = refl
