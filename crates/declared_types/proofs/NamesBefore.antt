-- Lemmas of names among those before them.
use Rattle.std.proofs.Common.{◌≡◌, ℕ, ◌<◌, ◌≤◌, ◌+◌, Bool, true, false, not, ◌||◌, List, [], ◌∷◌, ◌++◌, length, map, reverse, bytes_eq, nat_eq, nat_lt, if◌then◌else◌, refl, sym, ap, ◌∙◌, Bor, arith, le-ltb, lt-ltb}
use Rattle.std.specs.List.{list_any}
use Rattle.std.specs.Cmp.Lexicographic.{pointwise}
use Rattle.indexmap.specs.IndexSet.{insert_key}
use Rattle.std.proofs.lemmas.List.{length-reverse, reverse-append, map-append, length-map}
use Rattle.std.proofs.lemmas.List.Sorted.{IsPermutation-reverse, list_any-IsPermutation}
use Rattle.std.proofs.lemmas.Cmp.{nat_list_eq_equiv}
use Rattle.std.proofs.lemmas.Slice.Eq.{bytes_eq-Decides}
use Rattle.auth_syntax.specs.Syntax.{NameSyntax}
use Rattle.declared_types.specs.Checking.{Checking, FaultAt, is_among, new_name}
use Rattle.declared_types.specs.ScopeNames.{names_in}
use Rattle.declared_types.specs.DeclaredNames.{names_met}
use Rattle.declared_types.specs.declared.fault.TypeKind.TheVariants.{Twice, Limit}
use Rattle.declared_types.specs.declared.fault.Limited.{Limited}

-- a name is among others as a test of each finds it
among_any : (name : List ℕ) (names : List (List ℕ)) → is_among name names ≡ list_any (λ n. bytes_eq n name) names
among_any name [] = refl
among_any name (n ∷ names) = ap (λ b. bytes_eq n name || b) (among_any name names)

-- and in any order
pub among_reverse : (name : List ℕ) (names : List (List ℕ)) → is_among name (reverse names) ≡ is_among name names
among_reverse name names =
    among_any name (reverse names)
    ∙ sym (list_any-IsPermutation (λ n. bytes_eq n name) names (reverse names) (IsPermutation-reverse names))
    ∙ sym (among_any name names)

-- the names of the elements of a list
pub among_of : {A : Type 0} (name_of : A → List ℕ) (name : List ℕ) (xs : List A)
    → is_among name (map name_of xs) ≡ list_any (λ x. bytes_eq (name_of x) name) xs
among_of name_of name [] = refl
among_of name_of name (x ∷ xs) = ap (λ b. bytes_eq (name_of x) name || b) (among_of name_of name xs)

-- the keys of a set
among_keys : (name : List ℕ) (keys : List (Bor (List ℕ))) → is_among name (map (λ k. k.now) keys) ≡ list_any (λ k. bytes_eq name k.now) keys
among_keys name [] = refl
among_keys name (k ∷ keys) =
    ap (λ b. b || is_among name (map (λ k. k.now) keys)) (nat_list_eq_equiv.symm k.now name)
    ∙ ap (λ b. bytes_eq name k.now || b) (among_keys name keys)

pub among_met : (name : List ℕ) (keys : List (Bor (List ℕ))) → is_among name (names_met keys) ≡ list_any (λ k. bytes_eq name k.now) keys
among_met name keys = among_reverse name (map (λ k. k.now) keys) ∙ among_keys name keys

-- one key more, and how many there are
pub met_more : (keys : List (Bor (List ℕ))) (key : Bor (List ℕ)) → names_met (keys ++ key ∷ []) ≡ key.now ∷ names_met keys
met_more keys key = ap reverse (map-append (λ k. k.now) keys (key ∷ [])) ∙ reverse-append (map (λ k. k.now) keys) (key.now ∷ [])

pub length-met : (keys : List (Bor (List ℕ))) → length (names_met keys) ≡ length keys
length-met keys = length-reverse (map (λ k. k.now) keys) ∙ length-map keys (λ k. k.now)

-- a name that stands again, one that is one too many, and one that may stand there
pub stands_again : {A : Type 0} (names : List (List ℕ)) (most : ℕ) (thing : Limited) (name : NameSyntax) (rest : Checking A)
    → is_among name.name names ≡ true → new_name names most thing name rest ≡ FaultAt Twice name.at
stands_again names most thing name rest again =
    ap (λ b. if b then FaultAt Twice name.at else (if nat_lt (length names) most then rest else FaultAt (Limit thing) name.at)) again

pub one_too_many : {A : Type 0} (names : List (List ℕ)) (most : ℕ) (thing : Limited) (name : NameSyntax) (rest : Checking A)
    → is_among name.name names ≡ false → nat_lt (length names) most ≡ false → new_name names most thing name rest ≡ FaultAt (Limit thing) name.at
one_too_many names most thing name rest new many =
    ap (λ b. if b then FaultAt Twice name.at else (if nat_lt (length names) most then rest else FaultAt (Limit thing) name.at)) new
    ∙ ap (λ b. if b then rest else FaultAt (Limit thing) name.at) many

pub may_stand : {A : Type 0} (names : List (List ℕ)) (most : ℕ) (thing : Limited) (name : NameSyntax) (rest : Checking A)
    → is_among name.name names ≡ false → nat_lt (length names) most ≡ true → new_name names most thing name rest ≡ rest
may_stand names most thing name rest new few =
    ap (λ b. if b then FaultAt Twice name.at else (if nat_lt (length names) most then rest else FaultAt (Limit thing) name.at)) new
    ∙ ap (λ b. if b then rest else FaultAt (Limit thing) name.at) few

not_not : (b : Bool) → not (not b) ≡ b
not_not true = refl
not_not false = refl

-- the keys of a set with a new one
pub names_with : (keys : List (Bor (List ℕ))) (key : Bor (List ℕ)) (name : NameSyntax) → key.now ≡ name.name → (added : Bool)
    → added ≡ not (list_any (λ k. bytes_eq key.now k.now) keys) → added ≡ true
    → names_met (insert_key (λ x y. pointwise nat_eq x.now y.now) keys key) ≡ name.name ∷ names_met keys
names_with keys key name is added tells new =
    ap (λ b. names_met (if b then keys else keys ++ key ∷ []))
    (sym (not_not (list_any (λ k. bytes_eq key.now k.now) keys)) ∙ ap not (sym tells ∙ new))
    ∙ met_more keys key ∙ ap (λ n. n ∷ names_met keys) is

-- The next key of a set as the next name, where the set tells by `added` whether it is new, and has so many keys then.
module _ {A : Type 0} (keys : List (Bor (List ℕ))) (key : Bor (List ℕ)) (most : ℕ) (thing : Limited) (name : NameSyntax) (rest : Checking A)
    (is : key.now ≡ name.name)
    (added : Bool) (tells : added ≡ not (list_any (λ k. bytes_eq key.now k.now) keys)) (count : ℕ)
    (counted : count ≡ length keys + (if added then 1 else 0)) where
  among : is_among name.name (names_met keys) ≡ not added
  among = ap (λ n. is_among n (names_met keys)) (sym is) ∙ among_met key.now keys ∙ sym (not_not (list_any (λ k. bytes_eq key.now k.now) keys))
      ∙ ap not (sym tells)

  one_more : added ≡ true → count ≡ length keys + 1
  one_more new = counted ∙ ap (λ b. length keys + (if b then 1 else 0)) new

  pub name_again : added ≡ false → new_name (names_met keys) most thing name rest ≡ FaultAt Twice name.at
  name_again old = stands_again (names_met keys) most thing name rest (among ∙ ap not old)

  pub name_too_many : added ≡ true → most < count → new_name (names_met keys) most thing name rest ≡ FaultAt (Limit thing) name.at
  name_too_many new many =
      let more : count ≡ length keys + 1 = one_more new in
      one_too_many (names_met keys) most thing name rest (among ∙ ap not new)
      (ap (λ n. nat_lt n most) (length-met keys) ∙ le-ltb (length keys) most (omega arith))

  pub name_stands : added ≡ true → count ≤ most → new_name (names_met keys) most thing name rest ≡ rest
  name_stands new few =
      let more : count ≡ length keys + 1 = one_more new in
      may_stand (names_met keys) most thing name rest (among ∙ ap not new)
      (ap (λ n. nat_lt n most) (length-met keys) ∙ lt-ltb (length keys) most (omega arith))

-- the same of any name: whether it is new to the set
pub new_to : (keys : List (Bor (List ℕ))) (key : Bor (List ℕ)) (name : List ℕ) → key.now ≡ name → (added : Bool)
    → added ≡ not (list_any (λ k. bytes_eq key.now k.now) keys) → is_among name (names_met keys) ≡ not added
new_to keys key name is added tells =
    ap (λ n. is_among n (names_met keys)) (sym is) ∙ among_met key.now keys ∙ sym (not_not (list_any (λ k. bytes_eq key.now k.now) keys))
    ∙ ap not (sym tells)

-- a name as the set finds it
pub among_key : (keys : List (Bor (List ℕ))) (key : Bor (List ℕ)) (name : List ℕ) → key.now ≡ name
    → is_among name (names_met keys) ≡ list_any (λ k. bytes_eq key.now k.now) keys
among_key keys key name is = ap (λ n. is_among n (names_met keys)) (sym is) ∙ among_met key.now keys

-- the names of a set with a key more, which may have stood there before
or_comm : (a b : Bool) → a || b ≡ b || a
or_comm true true = refl
or_comm true false = refl
or_comm false true = refl
or_comm false false = refl

pub among_more : (keys : List (Bor (List ℕ))) (key : Bor (List ℕ)) (x : List ℕ) → key.now ≡ x → (name : List ℕ)
    → is_among name (names_met (insert_key (λ x y. pointwise nat_eq x.now y.now) keys key)) ≡ is_among name (names_met keys) || bytes_eq x name
among_more keys key x is name = by (list_any (λ k. bytes_eq key.now k.now) keys) refl (bytes_eq x name) refl
  where
    by : (b : Bool) → list_any (λ k. bytes_eq key.now k.now) keys ≡ b → (same : Bool) → bytes_eq x name ≡ same
        → is_among name (names_met (if b then keys else keys ++ key ∷ [])) ≡ is_among name (names_met keys) || same
    by true found true same =
        let is_name : x ≡ name = (bytes_eq-Decides x name).0 same in
        among_key keys key name (is ∙ is_name) ∙ found ∙ ap (λ b. b || true) (sym (among_key keys key name (is ∙ is_name) ∙ found))
    by true found false same = or_comm false (is_among name (names_met keys))
    by false new b same = ap (is_among name) (met_more keys key) ∙ ap (λ n. bytes_eq n name || is_among name (names_met keys)) is
        ∙ ap (λ b. b || is_among name (names_met keys)) same ∙ or_comm b (is_among name (names_met keys))

-- a name among the names of a set, in their order
pub among_in : (keys : List (Bor (List ℕ))) (key : Bor (List ℕ)) (name : List ℕ) → key.now ≡ name
    → is_among name (names_in keys) ≡ list_any (λ k. bytes_eq key.now k.now) keys
among_in keys key name is = ap (λ n. is_among n (names_in keys)) (sym is) ∙ among_keys key.now keys
