-- The look-ups of a scope by name find what the definitions find.
use Rattle.std.proofs.Common.{◌≡◌, ℕ, suc, ◌+◌, Bool, true, false, not, List, [], ◌∷◌, ◌++◌, length, map, Option, Some, None, option_map, option_and_then, unwrap_or, slice_get, slice_index_or, bytes_eq, nat_lt, if◌then◌else◌, cond, Bor, refl, sym, ap, ◌∙◌, lt-ltb, add-zero, zero-add, length-append, arith}
use Rattle.std.specs.List.{position, position_or_len}
use Rattle.std.proofs.lemmas.Cmp.{nat_list_eq_equiv}
use Rattle.std.proofs.lemmas.Option.{slice_get-map, slice_get-get_or, slice_get_within}
use Rattle.std.proofs.lemmas.List.{length-map}
use Rattle.std.proofs.lemmas.Simd.{map-map}
use Rattle.core_terms.specs.Types.{Ty}
use Rattle.core_terms.specs.declared.program.FunctionId.{FunctionId}
use Rattle.core_terms.proofs.Places.{one_later}
use Rattle.declared_types.specs.Signatures.{Numbered, Signature, constructor_named, function_named, tag_in}
use Rattle.declared_types.specs.ScopeNames.{constructor_meant, constructors_meant, joined, names_in, numbered, tagged}
use Rattle.declared_types.specs.Scopes.{function_meant, no_signature, signature_meant, signatures_meant}
use Rattle.declared_types.specs.WrittenTypes.{number_of}
use Rattle.declared_types.specs.declared.scope.Head.{Head}
use Rattle.declared_types.specs.declared.scope.Scope.{Scope}

-- the place of a name among the keys of a set
pub number_in : (keys : List (Bor (List ℕ))) (key : Bor (List ℕ)) (name : List ℕ) → key.now ≡ name
    → position (λ k. bytes_eq key.now k.now) keys ≡ number_of (names_in keys) name
number_in [] key name is = refl
number_in (k ∷ keys) key name is =
    by (bytes_eq key.now k.now) (bytes_eq k.now name) (nat_list_eq_equiv.symm key.now k.now ∙ ap (bytes_eq k.now) is) (number_in keys key name is)
  where
    by : (b c : Bool) → b ≡ c → position (λ k. bytes_eq key.now k.now) keys ≡ number_of (names_in keys) name
        → cond (nat_lt (cond (not b) (1 + position_or_len (λ k. bytes_eq key.now k.now) keys) 0) (suc (length keys)))
        (Some (cond (not b) (1 + position_or_len (λ k. bytes_eq key.now k.now) keys) 0)) None
        ≡ (if c then Some 0 else option_map suc (number_of (names_in keys) name))
    by true true same rest = ap (λ t. cond t (Some 0) None) (lt-ltb 0 (suc (length keys)) (omega arith))
    by false false same rest = one_later (λ k. bytes_eq key.now k.now) keys ∙ ap (option_map suc) rest
    by true false same rest = absurd (cc)
    by false true same rest = absurd (cc)

-- the function of a name, by the name's place among those of the functions
abbrev at_number : ℕ → List Signature → ℕ → Numbered Signature
at_number n signatures i = record { number = n + i; value = slice_index_or signatures i no_signature }

function_by_name : (n : ℕ) (signatures : List Signature) (name : List ℕ)
    → function_named n signatures name ≡ option_map (at_number n signatures) (number_of (map (λ s. s.name) signatures) name)
function_by_name n [] name = refl
function_by_name n (s ∷ signatures) name = by (bytes_eq s.name name) (function_by_name (n + 1) signatures name)
  where
    later : (o : Option ℕ) → option_map (at_number (n + 1) signatures) o ≡ option_map (at_number n (s ∷ signatures)) (option_map suc o)
    later None = refl
    later (Some i) = ap (λ (k : ℕ). Some (record { number = k; value = slice_index_or signatures i no_signature })) (omega arith)

    by : (b : Bool) → function_named (n + 1) signatures name ≡ option_map (at_number (n + 1) signatures)
        (number_of (map (λ s. s.name) signatures) name)
        → (if b then Some (record { number = n; value = s }) else function_named (n + 1) signatures name)
        ≡ option_map (at_number n (s ∷ signatures)) (if b then Some 0 else option_map suc (number_of (map (λ s. s.name) signatures) name))
    by true rest = ap (λ (k : ℕ). Some (record { number = k; value = s })) (sym (add-zero n))
    by false rest = rest ∙ later (number_of (map (λ s. s.name) signatures) name)

pub function_found : (types : List Ty) (scope : Scope) (name : List ℕ) (found : Option ℕ)
    → found ≡ number_of (names_in scope.function_names.keys) name
    → function_named 0 (signatures_meant types scope) name ≡ option_map (λ i. function_meant types scope (record { 0 = i })) found
function_found types scope name found is =
    let signatures = (signatures_meant types scope) in
    let names : map (λ (s : Signature). s.name) signatures ≡ names_in scope.function_names.keys =
    map-map (λ (s : Signature). s.name) (signature_meant types) scope.heads.items ∙ sym scope.functions_named in
    function_by_name 0 signatures name ∙ ap (λ ns. option_map (at_number 0 signatures) (number_of ns name)) names
    ∙ ap (option_map (at_number 0 signatures)) (sym is) ∙ by found
  where
    by : (o : Option ℕ) → option_map (at_number 0 (signatures_meant types scope)) o ≡ option_map
        (λ i. function_meant types scope (record { 0 = i })) o
    by None = refl
    by (Some i) = ap (λ (k : ℕ). Some (record { number = k; value = slice_index_or (signatures_meant types scope) i no_signature })) (zero-add i)

-- what a head of a number is called with and gives
pub head_signature : (types : List Ty) (scope : Scope) (id : FunctionId) (head : Head) → slice_get scope.heads.items id.0 ≡ Some head
    → (function_meant types scope id).value ≡ signature_meant types head
head_signature types scope id head there =
    let signatures = (signatures_meant types scope) in
    let here : slice_get signatures id.0 ≡ Some (signature_meant types head) =
    slice_get-map (signature_meant types) scope.heads.items id.0 ∙ ap (option_map (signature_meant types)) there in
    by (slice_index_or signatures id.0 no_signature) (signature_meant types head)
    (sym (slice_get-get_or signatures id.0 no_signature (slice_get_within signatures id.0 (signature_meant types head) here)) ∙ here)
  where
    by : (a b : Signature) → Some a ≡ Some b → a ≡ b
    by a b same = cc

-- the constructor of a name, by the name's place among those of all types
and_then_suc : {A : Type 0} (x : A) (xs : List A) (o : Option ℕ) → option_and_then (slice_get (x ∷ xs)) (option_map suc o) ≡ option_and_then
    (slice_get xs) o
and_then_suc x xs None = refl
and_then_suc x xs (Some i) = refl

constructor_in_row : (n t : ℕ) (names row : List (List ℕ)) (rest : List (Numbered ℕ)) (name : List ℕ) (other : Option (Numbered ℕ))
    → other ≡ option_and_then (slice_get rest) (number_of row name)
    → tag_in n (option_map (λ i. t + i) (number_of names name)) other ≡ option_and_then (slice_get (tagged n t names ++ rest))
    (number_of (names ++ row) name)
constructor_in_row n t [] row rest name other is = is
constructor_in_row n t (m ∷ names) row rest name other is = by (bytes_eq m name) (constructor_in_row n (t + 1) names row rest name other is)
  where
    later : (o : Option ℕ) → option_map (λ i. t + i) (option_map suc o) ≡ option_map (λ i. (t + 1) + i) o
    later None = refl
    later (Some i) = ap Some (omega arith)

    by : (b : Bool) → tag_in n (option_map (λ i. (t + 1) + i) (number_of names name)) other ≡ option_and_then
        (slice_get (tagged n (t + 1) names ++ rest)) (number_of (names ++ row) name)
        → tag_in n (option_map (λ i. t + i) (if b then Some 0 else option_map suc (number_of names name))) other
        ≡ option_and_then (slice_get (record { number = n; value = t } ∷ (tagged n (t + 1) names ++ rest)))
        (if b then Some 0 else option_map suc (number_of (names ++ row) name))
    by true behind = ap (λ (k : ℕ). Some (record { number = n; value = k })) (add-zero t)
    by false behind =
        ap (λ o. tag_in n o other) (later (number_of names name)) ∙ behind
        ∙ sym (and_then_suc (record { number = n; value = t }) (tagged n (t + 1) names ++ rest) (number_of (names ++ row) name))

from_zero : (o : Option ℕ) → option_map (λ i. 0 + i) o ≡ o
from_zero None = refl
from_zero (Some i) = ap Some (zero-add i)

constructor_by_name : (n : ℕ) (lists : List (List (List ℕ))) (name : List ℕ)
    → constructor_named n lists name ≡ option_and_then (slice_get (numbered n lists)) (number_of (joined lists) name)
constructor_by_name n [] name = refl
constructor_by_name n (names ∷ others) name =
    ap (λ o. tag_in n o (constructor_named (n + 1) others name)) (sym (from_zero (number_of names name)))
    ∙ constructor_in_row n 0 names (joined others) (numbered (n + 1) others) name (constructor_named (n + 1) others name)
    (constructor_by_name (n + 1) others name)

pub constructor_found : (scope : Scope) (name : List ℕ) (found : Option ℕ) → found ≡ number_of (names_in scope.constructor_names.keys) name
    → constructor_named 0 (constructors_meant scope.named.items) name ≡ option_and_then
    (λ i. option_map constructor_meant (slice_get scope.constructor_ids.items i)) found
constructor_found scope name found is =
    let lists = constructors_meant scope.named.items in
    constructor_by_name 0 lists name
    ∙ ap (λ ns. option_and_then (slice_get (numbered 0 lists)) (number_of ns name)) (sym scope.constructors_named)
    ∙ ap (option_and_then (slice_get (numbered 0 lists))) (sym is)
    ∙ by (numbered 0 lists) (sym scope.constructors_numbered) found
  where
    by : (ids : List (Numbered ℕ)) → ids ≡ map constructor_meant scope.constructor_ids.items → (o : Option ℕ)
        → option_and_then (slice_get ids) o ≡ option_and_then (λ i. option_map constructor_meant (slice_get scope.constructor_ids.items i)) o
    by ids same None = refl
    by ids same (Some i) = ap (λ l. slice_get l i) same ∙ slice_get-map constructor_meant scope.constructor_ids.items i

-- there are as many numbers of constructors as names
length-tagged : (n t : ℕ) (names : List (List ℕ)) → length (tagged n t names) ≡ length names
length-tagged n t [] = refl
length-tagged n t (name ∷ names) = ap suc (length-tagged n (t + 1) names)

length-numbered : (n : ℕ) (lists : List (List (List ℕ))) → length (numbered n lists) ≡ length (joined lists)
length-numbered n [] = refl
length-numbered n (names ∷ others) =
    let here = length-tagged n 0 names in
    let rest = length-numbered (n + 1) others in
    simp length-append (omega (arith, here, rest))

pub ids_length : (scope : Scope) → length scope.constructor_ids.items ≡ length scope.constructor_names.keys
ids_length scope =
    sym (length-map scope.constructor_ids.items constructor_meant) ∙ ap length scope.constructors_numbered
    ∙ length-numbered 0 (constructors_meant scope.named.items)
    ∙ ap length (sym scope.constructors_named) ∙ length-map scope.constructor_names.keys (λ k. k.now)

-- the fields of the constructor with a tag, among those of its type
pub fields_in : (row : Option (List (List Ty))) (fields : List (List Ty)) (tag : ℕ) → fields ≡ unwrap_or row []
    → option_and_then (λ constructors. slice_get constructors tag) row ≡ slice_get fields tag
fields_in None fields tag is = ap (λ fs. slice_get fs tag) (sym is)
fields_in (Some row) fields tag is = ap (λ fs. slice_get fs tag) (sym is)
