-- The roles of a program: they are found in order, and each by its name.
use Rattle.std.proofs.Common.{◌≡◌, ℕ, suc, ◌+◌, ◌<◌, Bool, true, false, ◌&&◌, List, [], ◌∷◌, ◌++◌, length, map, take, get_or, Option, Some, None, slice_get, option_map, bytes_eq, if◌then◌else◌, refl, sym, ap, ◌∙◌, arith, add-zero, zero-add, append-nil}
use Rattle.std.specs.List.{list_all, position}
use Rattle.std.proofs.lemmas.List.Sums.{AllPass-from_list_all}
use Rattle.std.proofs.lemmas.List.Folds.{list_all-append}
use Rattle.std.proofs.lemmas.List.{take_more, map-append, length-map, length-take-le}
use Rattle.core_terms.specs.Types.{Ty}
use Rattle.core_terms.specs.Terms as tree
use Rattle.core_terms.specs.Roles as definition
use Rattle.core_terms.specs.Roles.{is_entered, role_among, role_with, roles_among}
use Rattle.core_terms.specs.ProgramTrees.{function_of, has_types_below, is_role}
use Rattle.core_terms.specs.RoleViews.{has_role_below, role_of}
use Rattle.core_terms.specs.declared.roles.Role.{Role}
use Rattle.core_terms.specs.declared.term.Function.{Function}
use Rattle.core_terms.proofs.Places.{first_place, place_of_map}
use Rattle.core_terms.proofs.TypingComplete.{both}

-- the roles of functions in a row are those of the first ones and those of the others
roles_append : (n : ℕ) (fs gs : List tree.Function) → roles_among n (fs ++ gs) ≡ roles_among n fs ++ roles_among (n + length fs) gs
roles_append n [] gs = ap (λ m. roles_among m gs) (sym (add-zero n))
roles_append n (f ∷ fs) gs = by (is_entered f.kind) (roles_append (suc n) fs gs ∙ ap (λ m. roles_among (suc n) fs ++ roles_among m gs) (omega arith))
  where
    others : List definition.Role
    others = roles_among (suc n) (fs ++ gs)

    by : (b : Bool) → roles_among (suc n) (fs ++ gs) ≡ roles_among (suc n) fs ++ roles_among (n + suc (length fs)) gs
        → (if b then role_with n f ∷ roles_among (suc n) (fs ++ gs) else roles_among (suc n) (fs ++ gs))
        ≡ (if b then role_with n f ∷ roles_among (suc n) fs else roles_among (suc n) fs) ++ roles_among (n + suc (length fs)) gs
    by true e = ap (λ rs. role_with n f ∷ rs) e
    by false e = e

-- a role alone
one_role : (n : ℕ) (g : tree.Function) (b : Bool) → is_entered g.kind ≡ b → roles_among n (g ∷ []) ≡ (if b then role_with n g ∷ [] else [])
one_role n g b e = ap (λ (t : Bool). if t then role_with n g ∷ [] else []) e

-- the roles among one more of the functions
roles_step : (types : List Ty) (fs : List Function) (i : ℕ) (f : Function) → f ≡ get_or fs i f → i < length fs
    → roles_among 0 (map (function_of types) (take (i + 1) fs)) ≡ roles_among 0 (map (function_of types) (take i fs)) ++ roles_among i (function_of types f ∷ [])
roles_step types fs i f is h =
    let before = map (function_of types) (take i fs) in
    let count : 0 + length before ≡ i = zero-add (length before) ∙ length-map (take i fs) (function_of types) ∙ length-take-le i fs (omega (arith, h)) in
    ap (λ (gs : List Function). roles_among 0 (map (function_of types) gs)) (take_more fs i f h ∙ ap (λ (g : Function). take i fs ++ g ∷ []) (sym is))
    ∙ ap (roles_among 0) (map-append (function_of types) (take i fs) (f ∷ []))
    ∙ roles_append 0 before (function_of types f ∷ [])
    ∙ ap (λ n. roles_among 0 before ++ roles_among n (function_of types f ∷ [])) count

-- a function that is entered is one role more
pub one_role_more : (types : List Ty) (fs : List Function) (i : ℕ) (f : Function) (roles : List Role) (role : Role)
    → map (role_of types) roles ≡ roles_among 0 (map (function_of types) (take i fs)) → f ≡ get_or fs i f → i < length fs
    → is_role f ≡ true → role_of types role ≡ role_with i (function_of types f)
    → map (role_of types) (roles ++ role ∷ []) ≡ roles_among 0 (map (function_of types) (take (i + 1) fs))
one_role_more types fs i f roles role so_far is h entered e =
    map-append (role_of types) roles (role ∷ [])
    ∙ ap (λ rs. rs ++ role_of types role ∷ []) so_far
    ∙ ap (λ r. roles_among 0 (map (function_of types) (take i fs)) ++ r ∷ []) e
    ∙ ap (λ rs. roles_among 0 (map (function_of types) (take i fs)) ++ rs) (sym (one_role i (function_of types f) true entered))
    ∙ sym (roles_step types fs i f is h)

-- another one is none
pub no_role_more : (types : List Ty) (fs : List Function) (i : ℕ) (f : Function) (roles : List Role)
    → map (role_of types) roles ≡ roles_among 0 (map (function_of types) (take i fs)) → f ≡ get_or fs i f → i < length fs
    → is_role f ≡ false
    → map (role_of types) roles ≡ roles_among 0 (map (function_of types) (take (i + 1) fs))
no_role_more types fs i f roles so_far is h inner =
    so_far
    ∙ sym (append-nil (roles_among 0 (map (function_of types) (take i fs))))
    ∙ ap (λ rs. roles_among 0 (map (function_of types) (take i fs)) ++ rs) (sym (one_role i (function_of types f) false inner))
    ∙ sym (roles_step types fs i f is h)

-- its types are among as many as those of its function
pub types_below_more : (count : ℕ) (fs : List Function) (i : ℕ) (f : Function) (roles : List Role) (role : Role) → f ≡ get_or fs i f → i < length fs
    → list_all (has_types_below count) fs ≡ true → list_all (has_role_below count) roles ≡ true → (has_types_below count f ≡ true → has_role_below count role ≡ true)
    → list_all (has_role_below count) (roles ++ role ∷ []) ≡ true
types_below_more count fs i f roles role is h all so_far one =
    let own : has_types_below count f ≡ true = ap (has_types_below count) is ∙ AllPass-from_list_all (has_types_below count) fs all i f h in
    list_all-append (has_role_below count) roles (role ∷ []) ∙ both _ _ so_far (both _ _ (one own) refl)

-- a function has the kind of a role exactly where it is one
pub kind_entered : (k x : tree.Kind) → Some x ≡ (if is_entered k then Some k else None) → is_entered k ≡ true
kind_entered tree.Inner x e = absurd (cc)
kind_entered tree.Init x e = refl
kind_entered tree.Query x e = refl
kind_entered tree.Update x e = refl

pub kind_inner : (k : tree.Kind) → None ≡ (if is_entered k then Some k else None) → is_entered k ≡ false
kind_inner tree.Inner e = refl
kind_inner tree.Init e = absurd (cc)
kind_inner tree.Query e = absurd (cc)
kind_inner tree.Update e = absurd (cc)

-- the number of the function of the role with a number, among these
abbrev pub function_in : List definition.Role → ℕ → Option ℕ
function_in roles n = option_map (λ (role : definition.Role). role.function) (slice_get roles n)

abbrev has_name : List ℕ → definition.Role → Bool
has_name name role = bytes_eq role.name name

-- the first role of a name is that of the first function that is entered and has it
named_among : (n : ℕ) (gs : List tree.Function) (name : List ℕ)
    → option_map (function_in (roles_among n gs)) (position (has_name name) (roles_among n gs)) ≡ option_map (λ i. Some (n + i)) (role_among gs name)
named_among n [] name = refl
named_among n (g ∷ gs) name = by (is_entered g.kind) (named_among (suc n) gs name)
  where
    rs : List definition.Role
    rs = roles_among (suc n) gs

    r : definition.Role
    r = role_with n g

    one_more : (o : Option ℕ) → option_map (λ i. Some (suc n + i)) o ≡ option_map (λ i. Some (n + i)) (option_map suc o)
    one_more None = refl
    one_more (Some i) = ap (λ m. Some (Some m)) (omega arith)

    behind : (o : Option ℕ) → option_map (function_in (r ∷ rs)) (option_map suc o) ≡ option_map (function_in rs) o
    behind None = refl
    behind (Some k) = refl

    matched : (t : Bool) → option_map (function_in rs) (position (has_name name) rs) ≡ option_map (λ i. Some (suc n + i)) (role_among gs name)
        → option_map (function_in (r ∷ rs)) (if t then Some 0 else option_map suc (position (has_name name) rs))
        ≡ option_map (λ i. Some (n + i)) (if t then Some 0 else option_map suc (role_among gs name))
    matched true e = ap (λ m. Some (Some m)) (sym (add-zero n))
    matched false e = behind (position (has_name name) rs) ∙ e ∙ one_more (role_among gs name)

    by : (b : Bool) → option_map (function_in rs) (position (has_name name) rs) ≡ option_map (λ i. Some (suc n + i)) (role_among gs name)
        → option_map (function_in (if b then r ∷ rs else rs)) (position (has_name name) (if b then r ∷ rs else rs))
        ≡ option_map (λ i. Some (n + i)) (if b && bytes_eq g.name name then Some 0 else option_map suc (role_among gs name))
    by true e = ap (option_map (function_in (r ∷ rs))) (first_place (has_name name) r rs) ∙ matched (bytes_eq g.name name) e
    by false e = e ∙ one_more (role_among gs name)

-- the role of a name, by the place of the name among the roles
pub role_by_name : (types : List Ty) (functions : List tree.Function) (roles : List Role) (name : List ℕ) → map (role_of types) roles ≡ roles_among 0 functions
    → option_map (function_in (roles_among 0 functions)) (position (λ role. bytes_eq role.name name) roles) ≡ option_map Some (role_among functions name)
role_by_name types functions roles name e =
    ap (option_map (function_in (roles_among 0 functions))) (place_of_map (role_of types) (has_name name) roles ∙ ap (position (has_name name)) e)
    ∙ named_among 0 functions name
    ∙ as_it_is (role_among functions name)
  where
    as_it_is : (o : Option ℕ) → option_map (λ i. Some (0 + i)) o ≡ option_map Some o
    as_it_is None = refl
    as_it_is (Some i) = ap (λ m. Some (Some m)) (omega arith)
