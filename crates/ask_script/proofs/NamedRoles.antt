-- The role of a name: its number, what it is called with, and that its number is small.
use Rattle.std.proofs.Common.{◌≡◌, ◌⊎◌, inl, inr, ℕ, suc, ◌<◌, ◌≤◌, ◌^◌, Bool, true, false, List, [], ◌∷◌, length, map, get_or, Option, Some, None, option_map, slice_get, unwrap_or, bytes_eq, nat_lt, cond, if◌then◌else◌, refl, sym, ap, subst, ltb-true, ◌∙◌, arith}
use Rattle.std.specs.List.{position, position_or_len}
use Rattle.std.specs.Option.{option_and_then}
use Rattle.std.proofs.lemmas.Option.{slice_get-map, slice_get_read}
use Rattle.std.proofs.lemmas.List.{length-map}
use Rattle.core_terms.specs.Programs.{meaning, types_of}
use Rattle.core_terms.specs.ProgramSizes.{IsWithinLimits}
use Rattle.core_terms.specs.RoleViews.{role_kind_of, role_of}
use Rattle.core_terms.specs.Roles as definition
use Rattle.core_terms.specs.Roles.{is_entered, program_roles, roles_among}
use Rattle.core_terms.specs.Terms as tree
use Rattle.core_terms.specs.TypeTables.{type_at}
use Rattle.core_terms.specs.declared.program.Program.{Program}
use Rattle.core_terms.specs.declared.roles.Role.{Role}
use Rattle.core_terms.specs.declared.roles.RoleKind.{RoleKind}
use Rattle.core_terms.specs.declared.roles.RoleKind.TheVariants.{Query, Update}
use Rattle.core_terms.proofs.Places.{place_of_map}
use Rattle.session_meaning.specs.Calls.{reads_state, role_in, no_role}
use Rattle.ask_script.specs.Scripts.{query_or_update, role_called}

-- there are no more roles than functions
few_roles : (f : ℕ) (gs : List tree.Function) → length (roles_among f gs) ≤ length gs
few_roles f [] = omega arith
few_roles f (g ∷ gs) = by (few_roles (suc f) gs) (is_entered g.kind)
  where
    by : length (roles_among (suc f) gs) ≤ length gs → (b : Bool) → length (if b then definition.role_with f g ∷ roles_among (suc f) gs else roles_among (suc f) gs) ≤ suc (length gs)
    by fewer true = omega (arith, fewer)
    by fewer false = omega (arith, fewer)

-- a place that was found is one in the list
placed : {A : Type 0} (test : A → Bool) (xs : List A) (n : ℕ) → position test xs ≡ Some n → n < length xs
placed test xs n found = by (nat_lt (position_or_len test xs) (length xs)) refl found
  where
    by : (t : Bool) → nat_lt (position_or_len test xs) (length xs) ≡ t → cond t (Some (position_or_len test xs)) None ≡ Some n → n < length xs
    by true below e = let same : position_or_len test xs ≡ n = cc in subst (λ k. k < length xs) same (ltb-true (position_or_len test xs) (length xs) below)
    by false below e = absurd (cc)

-- what stands at a place in a list
get_within : {A : Type 0} (xs : List A) (n : ℕ) (x : A) → x ≡ get_or xs n x → n < length xs → slice_get xs n ≡ Some x
get_within xs n x is below = slice_get_read xs (length xs) n x refl below is

-- queries and updates read the state
pub reads_either : (k : RoleKind) → (k ≡ Query) ⊎ (k ≡ Update) → reads_state (role_kind_of k) ≡ true
reads_either k (inl is) = ap (λ kind. reads_state (role_kind_of kind)) is
reads_either k (inr is) = ap (λ kind. reads_state (role_kind_of kind)) is

module _ (p : Program) (roles : List Role) (all : map (role_of (types_of p)) roles ≡ program_roles (meaning p)) (name : List ℕ) where
  -- the place of the name among the roles of the code is that among those of the definition
  pub role_place : position (λ role. bytes_eq role.name name) roles ≡ position (λ (role : definition.Role). bytes_eq role.name name) (program_roles (meaning p))
  role_place =
      place_of_map (role_of (types_of p)) (λ (role : definition.Role). bytes_eq role.name name) roles
      ∙ ap (position (λ (role : definition.Role). bytes_eq role.name name)) all

  -- so the role of the name is what stands there, if it is a query or an update
  pub role_at_place : (o : Option ℕ) → o ≡ position (λ role. bytes_eq role.name name) roles
      → role_called (meaning p) name ≡ option_and_then (query_or_update (meaning p)) o
  role_at_place o is = ap (option_and_then (query_or_update (meaning p))) (sym (is ∙ role_place))

  -- the role with a number
  pub role_there : (n : ℕ) (role : Role) → slice_get roles n ≡ Some role → role_in (meaning p) n ≡ role_of (types_of p) role
  role_there n role at =
      ap (λ rs. unwrap_or (slice_get rs n) no_role) (sym all)
      ∙ ap (λ o. unwrap_or o no_role) (slice_get-map (role_of (types_of p)) roles n ∙ ap (option_map (role_of (types_of p))) at)

  pub roles_are_few : IsWithinLimits (meaning p) → length roles ≤ 1024
  roles_are_few limits =
      let few = few_roles 0 (meaning p).functions in
      let same : length roles ≡ length (program_roles (meaning p)) = sym (length-map roles (role_of (types_of p))) ∙ ap length all in
      let most = limits.functions in
      omega (arith, few, same, most)

  module _ (n : ℕ) (role : Role) (is : role ≡ get_or roles n role) (found : Some n ≡ position (λ role. bytes_eq role.name name) roles) where
    within : n < length roles
    within = placed (λ (role : Role). bytes_eq role.name name) roles n (sym found)

    pub role_number_fits : IsWithinLimits (meaning p) → n < 2 ^ 16
    role_number_fits limits = let few = roles_are_few limits in omega (arith, within, few)

    pub role_argument : type_at (types_of p) role.argument ≡ (role_in (meaning p) n).argument
    role_argument = ap (λ (r : definition.Role). r.argument) (sym (role_there n role (get_within roles n role is within)))

    at_kind : (t : Bool) → reads_state (role_kind_of role.kind) ≡ t → role_called (meaning p) name ≡ (if t then Some n else None)
    at_kind t is_kind =
        role_at_place (Some n) found
        ∙ ap (λ (r : definition.Role). if reads_state r.kind then Some n else None) (role_there n role (get_within roles n role is within))
        ∙ ap (λ (b : Bool). if b then Some n else None) is_kind

    pub role_found : reads_state (role_kind_of role.kind) ≡ true → Some n ≡ role_called (meaning p) name
    role_found reads = sym (at_kind true reads)

    pub role_refused : reads_state (role_kind_of role.kind) ≡ false → None ≡ role_called (meaning p) name
    role_refused reads = sym (at_kind false reads)
