-- The look-ups by name find the first that has the name, and for a local the last.
use Rattle.std.proofs.Common.{◌≡◌, ℕ, zero, suc, ◌+◌, Bool, true, false, List, [], ◌∷◌, map, take, Option, Some, None, option_map, slice_index_or, bytes_eq, if◌then◌else◌, refl, sym, ap, ◌∙◌, add-zero, zero-add, arith}
use Rattle.std.specs.Bool.{Decides}
use Rattle.std.specs.List.{Contains}
use Rattle.std.proofs.lemmas.Bool.Decides.{Decides-by_or}
use Rattle.std.proofs.lemmas.List.Elements.{All-nil, All-cons, All-head, All-tail, All-contains, Decides-contains}
use Rattle.std.proofs.lemmas.Option.{get_or_from_slice_get, slice_get-map, slice_get_within}
use Rattle.std.proofs.lemmas.Slice.Eq.{bytes_eq-Decides}
use Rattle.core_terms.specs.Types.{UnitTy}
use Rattle.declared_types.specs.Checking.{is_among}
use Rattle.declared_types.specs.WrittenTypes.{number_of}
use Rattle.auth_types.specs.Bodies.{Local, last_named, or_else}
use Rattle.declared_types.specs.Signatures.{Numbered, Scope, Signature, constructor_named, function_named, tag_in}
use Rattle.auth_types.specs.InOrder.{IsFirst, NoneFits}
use Rattle.auth_types.specs.TypingRules.{NamesConstructor, NamesLocal}
use Rattle.auth_types.proofs.Judging.{fails}

-- a test of a name among names
pub among_decides : (name : List ℕ) (names : List (List ℕ)) → Decides (is_among name names) (Contains names name)
among_decides name names =
    Decides-contains names name (is_among name names)
    (Decides-by_or (λ other. bytes_eq other name) (λ other. other ≡ name) (is_among name) (λ other. bytes_eq-Decides other name) refl (λ _ _. refl) names)

-- The locals, behind n others: none has the name, or the last one that has it stands there.
abbrev pub LocalFound : ℕ → List Local → List ℕ → Option ℕ → Type 0
LocalFound n locals name None = NoneFits (λ (l : Local). l.name ≡ name) locals
LocalFound n locals name (Some i) = (k : ℕ) × (l : Local) × (i ≡ n + k) × NamesLocal locals name k l

local_found : (n : ℕ) (locals : List Local) (name : List ℕ) → LocalFound n locals name (last_named n locals name)
local_found n [] name = All-nil (λ (l : Local). l.name ≡ name → ⊥)
local_found n (local ∷ locals) name = by (last_named (n + 1) locals name) (bytes_eq local.name name) (bytes_eq-Decides local.name name) (local_found (n + 1) locals name)
  where
    by : (o : Option ℕ) (b : Bool) → Decides b (local.name ≡ name) → LocalFound (n + 1) locals name o → LocalFound n (local ∷ locals) name (or_else o (if b then Some n else None))
    by (Some i) b d (k, l, is, names) = (suc k, l, omega (arith, is), record { there = names.there; fits = names.fits; none_behind = names.none_behind })
    by None true d none = (zero, local, sym (add-zero n), record { there = refl; fits = d.0 refl; none_behind = none })
    by None false d none = All-cons (λ (l : Local). l.name ≡ name → ⊥) local locals (λ same. let e : false ≡ true = d.1 same in absurd (cc)) none

no_local : (n : ℕ) (locals : List Local) (name : List ℕ) → NoneFits (λ (l : Local). l.name ≡ name) locals → last_named n locals name ≡ None
no_local n [] name none = refl
no_local n (local ∷ locals) name none =
    let P : Local → Type 0 = λ (l : Local). l.name ≡ name → ⊥ in
    let here : bytes_eq local.name name ≡ false = fails (bytes_eq local.name name) (bytes_eq-Decides local.name name) (All-head P local locals none) in
    let later : last_named (n + 1) locals name ≡ None = no_local (n + 1) locals name (All-tail P local locals none) in
    ap (λ o. or_else o (if bytes_eq local.name name then Some n else None)) later ∙ ap (λ b. if b then Some n else None) here

last_is : (n : ℕ) (locals : List Local) (name : List ℕ) (k : ℕ) (l : Local) → NamesLocal locals name k l → last_named n locals name ≡ Some (n + k)
last_is n [] name k l names = let e : None ≡ Some l = names.there in absurd (cc)
last_is n (local ∷ locals) name zero l names =
    let same : local ≡ l = let e : Some local ≡ Some l = names.there in cc in
    let here : bytes_eq local.name name ≡ true = (bytes_eq-Decides local.name name).1 (ap (λ (l : Local). l.name) same ∙ names.fits) in
    ap (λ o. or_else o (if bytes_eq local.name name then Some n else None)) (no_local (n + 1) locals name names.none_behind)
    ∙ ap (λ b. if b then Some n else None) here ∙ ap Some (sym (add-zero n))
last_is n (local ∷ locals) name (suc k) l names =
    ap (λ o. or_else o (if bytes_eq local.name name then Some n else None)) (last_is (n + 1) locals name k l (record { there = names.there; fits = names.fits; none_behind = names.none_behind }))
    ∙ ap Some (omega arith)

pub local_by_name : (locals : List Local) (name : List ℕ) → LocalFound 0 locals name (last_named 0 locals name)
local_by_name locals name = local_found 0 locals name

pub no_local_named : (locals : List Local) (name : List ℕ) → NoneFits (λ (l : Local). l.name ≡ name) locals → last_named 0 locals name ≡ None
no_local_named locals name none = no_local 0 locals name none

pub local_named : (locals : List Local) (name : List ℕ) (i : ℕ) (l : Local) → NamesLocal locals name i l → last_named 0 locals name ≡ Some i
local_named locals name i l names = last_is 0 locals name i l names ∙ ap Some (zero-add i)

pub type_of_local : (locals : List Local) (name : List ℕ) (i : ℕ) (l : Local) → NamesLocal locals name i l → slice_index_or (map (λ l. l.of_type) locals) i UnitTy ≡ l.of_type
type_of_local locals name i l names =
    get_or_from_slice_get (map (λ (l : Local). l.of_type) locals) i l.of_type UnitTy (slice_get-map (λ (l : Local). l.of_type) locals i ∙ ap (option_map (λ (l : Local). l.of_type)) names.there)

-- the functions, behind n others
abbrev pub FunctionFound : ℕ → List Signature → List ℕ → Option (Numbered Signature) → Type 0
FunctionFound n fs name None = NoneFits (λ (s : Signature). s.name ≡ name) fs
FunctionFound n fs name (Some f) = (k : ℕ) × (f.number ≡ n + k) × IsFirst (λ (s : Signature). s.name ≡ name) fs k f.value

function_first : (n : ℕ) (fs : List Signature) (name : List ℕ) → FunctionFound n fs name (function_named n fs name)
function_first n [] name = All-nil (λ (s : Signature). s.name ≡ name → ⊥)
function_first n (g ∷ fs) name = by (function_named (n + 1) fs name) (bytes_eq g.name name) (bytes_eq-Decides g.name name) (function_first (n + 1) fs name)
  where
    by : (o : Option (Numbered Signature)) (b : Bool) → Decides b (g.name ≡ name) → FunctionFound (n + 1) fs name o → FunctionFound n (g ∷ fs) name (if b then Some (record { number = n; value = g }) else o)
    by o true d later = (zero, sym (add-zero n), record { there = refl; fits = d.0 refl; none_before = All-nil (λ (s : Signature). s.name ≡ name → ⊥) })
    by None false d none = All-cons (λ (s : Signature). s.name ≡ name → ⊥) g fs (λ same. let e : false ≡ true = d.1 same in absurd (cc)) none
    by (Some f) false d (k, is, first) = (
      suc k,
      omega (arith, is),
      record {
        there = first.there;
        fits = first.fits;
        none_before = All-cons (λ (s : Signature). s.name ≡ name → ⊥) g (take k fs) (λ same. let e : false ≡ true = d.1 same in absurd (cc)) first.none_before;
      },
    )

no_function : (n : ℕ) (fs : List Signature) (name : List ℕ) → NoneFits (λ (s : Signature). s.name ≡ name) fs → function_named n fs name ≡ None
no_function n [] name none = refl
no_function n (g ∷ fs) name none =
    let P : Signature → Type 0 = λ (s : Signature). s.name ≡ name → ⊥ in
    let here : bytes_eq g.name name ≡ false = fails (bytes_eq g.name name) (bytes_eq-Decides g.name name) (All-head P g fs none) in
    ap (λ b. if b then Some (record { number = n; value = g }) else function_named (n + 1) fs name) here ∙ no_function (n + 1) fs name (All-tail P g fs none)

function_is : (n : ℕ) (fs : List Signature) (name : List ℕ) (k : ℕ) (s : Signature) → IsFirst (λ (s : Signature). s.name ≡ name) fs k s
    → function_named n fs name ≡ Some (record { number = n + k; value = s })
function_is n [] name k s first = let e : None ≡ Some s = first.there in absurd (cc)
function_is n (g ∷ fs) name zero s first =
    let same : g ≡ s = let e : Some g ≡ Some s = first.there in cc in
    let here : bytes_eq g.name name ≡ true = (bytes_eq-Decides g.name name).1 (ap (λ (s : Signature). s.name) same ∙ first.fits) in
    ap (λ b. if b then Some (record { number = n; value = g }) else function_named (n + 1) fs name) here
    ∙ ap (λ v. Some (record { number = n; value = v })) same ∙ ap (λ m. Some (record { number = m; value = s })) (sym (add-zero n))
function_is n (g ∷ fs) name (suc k) s first =
    let P : Signature → Type 0 = λ (s : Signature). s.name ≡ name → ⊥ in
    let here : bytes_eq g.name name ≡ false = fails (bytes_eq g.name name) (bytes_eq-Decides g.name name) (All-head P g (take k fs) first.none_before) in
    let later : IsFirst (λ (s : Signature). s.name ≡ name) fs k s = record { there = first.there; fits = first.fits; none_before = All-tail P g (take k fs) first.none_before } in
    ap (λ b. if b then Some (record { number = n; value = g }) else function_named (n + 1) fs name) here
    ∙ function_is (n + 1) fs name k s later ∙ ap (λ m. Some (record { number = m; value = s })) (omega arith)

pub function_by_name : (fs : List Signature) (name : List ℕ) → FunctionFound 0 fs name (function_named 0 fs name)
function_by_name fs name = function_first 0 fs name

pub no_function_named : (fs : List Signature) (name : List ℕ) → NoneFits (λ (s : Signature). s.name ≡ name) fs → function_named 0 fs name ≡ None
no_function_named fs name none = no_function 0 fs name none

pub function_is_named : (fs : List Signature) (name : List ℕ) (f : ℕ) (s : Signature) → IsFirst (λ (s : Signature). s.name ≡ name) fs f s → function_named 0 fs name ≡ Some (record { number = f; value = s })
function_is_named fs name f s first = function_is 0 fs name f s first ∙ ap (λ m. Some (record { number = m; value = s })) (zero-add f)

-- the place of a name among names
abbrev NumberFound : List (List ℕ) → List ℕ → Option ℕ → Type 0
NumberFound names name None = NoneFits (λ other. other ≡ name) names
NumberFound names name (Some k) = IsFirst (λ other. other ≡ name) names k name

number_first : (names : List (List ℕ)) (name : List ℕ) → NumberFound names name (number_of names name)
number_first [] name = All-nil (λ other. other ≡ name → ⊥)
number_first (n ∷ names) name = by (number_of names name) (bytes_eq n name) (bytes_eq-Decides n name) (number_first names name)
  where
    by : (o : Option ℕ) (b : Bool) → Decides b (n ≡ name) → NumberFound names name o → NumberFound (n ∷ names) name (if b then Some 0 else option_map suc o)
    by o true d later = record { there = ap Some (d.0 refl); fits = refl; none_before = All-nil (λ other. other ≡ name → ⊥) }
    by None false d none = All-cons (λ other. other ≡ name → ⊥) n names (λ same. let e : false ≡ true = d.1 same in absurd (cc)) none
    by (Some k) false d first = record {
      there = first.there;
      fits = refl;
      none_before = All-cons (λ other. other ≡ name → ⊥) n (take k names) (λ same. let e : false ≡ true = d.1 same in absurd (cc)) first.none_before;
    }

pub number_is : (names : List (List ℕ)) (name : List ℕ) (k : ℕ) → IsFirst (λ other. other ≡ name) names k name → number_of names name ≡ Some k
number_is [] name k first = let e : None ≡ Some name = first.there in absurd (cc)
number_is (n ∷ names) name zero first =
    let same : n ≡ name = let e : Some n ≡ Some name = first.there in cc in
    ap (λ b. if b then Some 0 else option_map suc (number_of names name)) ((bytes_eq-Decides n name).1 same)
number_is (n ∷ names) name (suc k) first =
    let P : List ℕ → Type 0 = λ other. other ≡ name → ⊥ in
    let here : bytes_eq n name ≡ false = fails (bytes_eq n name) (bytes_eq-Decides n name) (All-head P n (take k names) first.none_before) in
    let later : IsFirst (λ other. other ≡ name) names k name = record { there = first.there; fits = first.fits; none_before = All-tail P n (take k names) first.none_before } in
    ap (λ b. if b then Some 0 else option_map suc (number_of names name)) here ∙ ap (option_map suc) (number_is names name k later)

-- names that hold none or one
none_holds : (names : List (List ℕ)) (name : List ℕ) → NoneFits (λ other. other ≡ name) names → Contains names name → ⊥
none_holds names name none has = All-contains (λ other. other ≡ name → ⊥) names name none has refl

pub first_holds : (names : List (List ℕ)) (name : List ℕ) (k : ℕ) → IsFirst (λ other. other ≡ name) names k name → Contains names name
first_holds names name k first = (k, slice_get_within names k name first.there, get_or_from_slice_get names k name name first.there)

-- a name that is held has a first place
pub holds_first : (names : List (List ℕ)) (name : List ℕ) → Contains names name → (k : ℕ) × (number_of names name ≡ Some k) × IsFirst (λ other. other ≡ name) names k name
holds_first names name has = by (number_of names name) refl (number_first names name)
  where
    by : (o : Option ℕ) → number_of names name ≡ o → NumberFound names name o → (k : ℕ) × (number_of names name ≡ Some k) × IsFirst (λ other. other ≡ name) names k name
    by None is none = absurd (none_holds names name none has)
    by (Some k) is first = (k, is, first)

-- The constructors of named types, behind n others: none has the name, or it is at a tag of the first type that has it.
abbrev pub TypeFound : ℕ → List (List (List ℕ)) → List ℕ → Option (Numbered ℕ) → Type 0
TypeFound n types name None = NoneFits (λ names. Contains names name) types
TypeFound n types name (Some c) =
    (k : ℕ) × (siblings : List (List ℕ)) × (c.number ≡ n + k) × IsFirst (λ names. Contains names name) types k siblings × IsFirst (λ other. other ≡ name) siblings c.value name

constructor_first : (n : ℕ) (types : List (List (List ℕ))) (name : List ℕ) → TypeFound n types name (constructor_named n types name)
constructor_first n [] name = All-nil (λ names. Contains names name → ⊥)
constructor_first n (names ∷ types) name = by (number_of names name) (constructor_named (n + 1) types name) (number_first names name) (constructor_first (n + 1) types name)
  where
    by : (tag : Option ℕ) (o : Option (Numbered ℕ)) → NumberFound names name tag → TypeFound (n + 1) types name o → TypeFound n (names ∷ types) name (tag_in n tag o)
    by (Some tag) o first later =
        (zero, names, sym (add-zero n), record { there = refl; fits = first_holds names name tag first; none_before = All-nil (λ names. Contains names name → ⊥) }, first)
    by None None none later = All-cons (λ names. Contains names name → ⊥) names types (none_holds names name none) later
    by None (Some c) none (k, siblings, is, first, tagged) = (
      suc k,
      siblings,
      omega (arith, is),
      record {
        there = first.there;
        fits = first.fits;
        none_before = All-cons (λ names. Contains names name → ⊥) names (take k types) (none_holds names name none) first.none_before;
      },
      tagged,
    )

-- names that don't hold the name
not_held : (names : List (List ℕ)) (name : List ℕ) → (Contains names name → ⊥) → number_of names name ≡ None
not_held names name never = by (number_of names name) refl (number_first names name)
  where
    by : (o : Option ℕ) → number_of names name ≡ o → NumberFound names name o → number_of names name ≡ None
    by None is none = is
    by (Some k) is first = absurd (never (first_holds names name k first))

no_constructor : (n : ℕ) (types : List (List (List ℕ))) (name : List ℕ) → NoneFits (λ names. Contains names name) types → constructor_named n types name ≡ None
no_constructor n [] name none = refl
no_constructor n (names ∷ types) name none =
    let P : List (List ℕ) → Type 0 = λ names. Contains names name → ⊥ in
    ap (λ o. tag_in n o (constructor_named (n + 1) types name)) (not_held names name (All-head P names types none)) ∙ no_constructor (n + 1) types name (All-tail P names types none)

constructor_is : (n : ℕ) (types : List (List (List ℕ))) (name : List ℕ) (k tag : ℕ) (siblings : List (List ℕ))
    → IsFirst (λ names. Contains names name) types k siblings → IsFirst (λ other. other ≡ name) siblings tag name
    → constructor_named n types name ≡ Some (record { number = n + k; value = tag })
constructor_is n [] name k tag siblings first tagged = let e : None ≡ Some siblings = first.there in absurd (cc)
constructor_is n (names ∷ types) name zero tag siblings first tagged =
    let same : siblings ≡ names = let e : Some names ≡ Some siblings = first.there in cc in
    let here : number_of names name ≡ Some tag = ap (λ s. number_of s name) (sym same) ∙ number_is siblings name tag tagged in
    ap (λ o. tag_in n o (constructor_named (n + 1) types name)) here ∙ ap (λ m. Some (record { number = m; value = tag })) (sym (add-zero n))
constructor_is n (names ∷ types) name (suc k) tag siblings first tagged =
    let P : List (List ℕ) → Type 0 = λ names. Contains names name → ⊥ in
    let later : IsFirst (λ names. Contains names name) types k siblings =
    record { there = first.there; fits = first.fits; none_before = All-tail P names (take k types) first.none_before } in
    ap (λ o. tag_in n o (constructor_named (n + 1) types name)) (not_held names name (All-head P names (take k types) first.none_before))
    ∙ constructor_is (n + 1) types name k tag siblings later tagged ∙ ap (λ m. Some (record { number = m; value = tag })) (omega arith)

pub constructor_by_name : (types : List (List (List ℕ))) (name : List ℕ) → TypeFound 0 types name (constructor_named 0 types name)
constructor_by_name types name = constructor_first 0 types name

pub no_constructor_named : (types : List (List (List ℕ))) (name : List ℕ) → NoneFits (λ names. Contains names name) types → constructor_named 0 types name ≡ None
no_constructor_named types name none = no_constructor 0 types name none

pub constructor_is_named : (scope : Scope) (name : List ℕ) (number tag : ℕ) → NamesConstructor scope name number tag
    → constructor_named 0 scope.constructors name ≡ Some (record { number = number; value = tag })
constructor_is_named scope name number tag names =
    constructor_is 0 scope.constructors name number tag names.siblings names.of_type names.tagged ∙ ap (λ m. Some (record { number = m; value = tag })) (zero-add number)
