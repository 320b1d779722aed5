-- A query that is found by its name.
use Rattle.std.proofs.Common.{◌≡◌, ℕ, suc, ◌<◌, Bool, true, false, ◌&&◌, List, [], ◌∷◌, length, Option, Some, None, option_map, bytes_eq, cond, refl, arith}
use Rattle.core_terms.specs.Terms.{Function, Program}
use Rattle.core_terms.specs.Roles.{is_entered, role_among, role_named}

-- the place found at the head or behind it is in the list
within_next : (test : Bool) (rest : Option ℕ) (n f : ℕ) → ((m : ℕ) → rest ≡ Some m → m < n) → cond test (Some 0) (option_map suc rest) ≡ Some f → f < suc n
within_next true rest n f below e = let here : 0 ≡ f = cc in omega arith
within_next false None n f below e = absurd (cc)
within_next false (Some m) n f below e = let behind : suc m ≡ f = cc in let inside : m < n = below m refl in omega arith

role_among_within : (functions : List Function) (name : List ℕ) (f : ℕ) → role_among functions name ≡ Some f → f < length functions
role_among_within [] name f e = absurd (cc)
role_among_within (g ∷ gs) name f e =
    within_next (is_entered g.kind && bytes_eq g.name name) (role_among gs name) (length gs) f (λ m found. role_among_within gs name m found) e

-- a role is one of the functions
pub role_within : (P : Program) (name : List ℕ) (f : ℕ) → role_named P name ≡ Some f → f < length P.functions
role_within P name f e = role_among_within P.functions name f e
