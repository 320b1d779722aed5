-- Values as they are seen over nodes of a kind: their parts, their sizes and their depths.
use Rattle.std.proofs.Common.{◌≡◌, ℕ, ℤ, Bool, List, [], ◌∷◌, Some, unwrap_or, refl, ap}
use Rattle.core_terms.specs.Types.{Ty, UnitTy, BoolTy, IntTy, TextTy, PairTy, NamedTy, AuthTy, VecTy, fields_at, item_types}
use Rattle.core_terms.specs.Values.{Value, UnitV, BoolV, IntV, TextV, PairV, ConV, ItemsV, Values, NoV, AndV, size, depth}
use Rattle.core_terms.specs.Terms.{Program}
use Rattle.core_terms.specs.Projection.{digest_at, projections}
use Rattle.core_terms.proofs.Projection.{size_shallow, depth_shallow}
use Rattle.value_store.specs.Markings.{Marking, IdealMarking, ProverMarking, VerifierMarking, FetcherMarking, authenticated, seen_as}

-- the values of some types, as each is seen
abbrev pub all_seen : Marking → Program → List Ty → Values → Values
all_seen IdealMarking P ts vs = vs
all_seen (ProverMarking hash) P ts vs = vs
all_seen (VerifierMarking hash) P ts vs = projections hash P ts vs
all_seen (FetcherMarking hash) P ts vs = projections hash P ts vs

pub unit_seen : (marking : Marking) (P : Program) → seen_as marking P UnitTy UnitV ≡ UnitV
unit_seen IdealMarking P = refl
unit_seen (ProverMarking hash) P = refl
unit_seen (VerifierMarking hash) P = refl
unit_seen (FetcherMarking hash) P = refl

pub bool_seen : (marking : Marking) (P : Program) (b : Bool) → seen_as marking P BoolTy (BoolV b) ≡ BoolV b
bool_seen IdealMarking P b = refl
bool_seen (ProverMarking hash) P b = refl
bool_seen (VerifierMarking hash) P b = refl
bool_seen (FetcherMarking hash) P b = refl

pub int_seen : (marking : Marking) (P : Program) (z : ℤ) → seen_as marking P IntTy (IntV z) ≡ IntV z
int_seen IdealMarking P z = refl
int_seen (ProverMarking hash) P z = refl
int_seen (VerifierMarking hash) P z = refl
int_seen (FetcherMarking hash) P z = refl

pub text_seen : (marking : Marking) (P : Program) (bytes : List ℕ) → seen_as marking P TextTy (TextV bytes) ≡ TextV bytes
text_seen IdealMarking P bytes = refl
text_seen (ProverMarking hash) P bytes = refl
text_seen (VerifierMarking hash) P bytes = refl
text_seen (FetcherMarking hash) P bytes = refl

pub pair_seen : (marking : Marking) (P : Program) (a b : Ty) (x y : Value)
    → seen_as marking P (PairTy a b) (PairV x y) ≡ PairV (seen_as marking P a x) (seen_as marking P b y)
pair_seen IdealMarking P a b x y = refl
pair_seen (ProverMarking hash) P a b x y = refl
pair_seen (VerifierMarking hash) P a b x y = refl
pair_seen (FetcherMarking hash) P a b x y = refl

pub constructor_seen : (marking : Marking) (P : Program) (number tag : ℕ) (ts : List Ty) (vs : Values) → fields_at P.types number tag ≡ Some ts
    → seen_as marking P (NamedTy number) (ConV tag vs) ≡ ConV tag (all_seen marking P ts vs)
constructor_seen IdealMarking P number tag ts vs e = refl
constructor_seen (ProverMarking hash) P number tag ts vs e = refl
constructor_seen (VerifierMarking hash) P number tag ts vs e = ap (λ o. ConV tag (projections hash P (unwrap_or o []) vs)) e
constructor_seen (FetcherMarking hash) P number tag ts vs e = ap (λ o. ConV tag (projections hash P (unwrap_or o []) vs)) e

pub items_seen : (marking : Marking) (P : Program) (n : ℕ) (t : Ty) (vs : Values) → seen_as marking P (VecTy n t) (ItemsV vs) ≡ ItemsV (all_seen marking P (item_types n t) vs)
items_seen IdealMarking P n t vs = refl
items_seen (ProverMarking hash) P n t vs = refl
items_seen (VerifierMarking hash) P n t vs = refl
items_seen (FetcherMarking hash) P n t vs = refl

pub fields_seen : (marking : Marking) (P : Program) (t : Ty) (ts : List Ty) (v : Value) (vs : Values)
    → all_seen marking P (t ∷ ts) (AndV v vs) ≡ AndV (seen_as marking P t v) (all_seen marking P ts vs)
fields_seen IdealMarking P t ts v vs = refl
fields_seen (ProverMarking hash) P t ts v vs = refl
fields_seen (VerifierMarking hash) P t ts v vs = refl
fields_seen (FetcherMarking hash) P t ts v vs = refl

pub no_fields_seen : (marking : Marking) (P : Program) → all_seen marking P [] NoV ≡ NoV
no_fields_seen IdealMarking P = refl
no_fields_seen (ProverMarking hash) P = refl
no_fields_seen (VerifierMarking hash) P = refl
no_fields_seen (FetcherMarking hash) P = refl

pub authenticated_seen : (marking : Marking) (P : Program) (t : Ty) (v : Value) → authenticated marking P t (seen_as marking P t v) ≡ seen_as marking P (AuthTy t) v
authenticated_seen IdealMarking P t v = refl
authenticated_seen (ProverMarking hash) P t v = refl
authenticated_seen (VerifierMarking hash) P t v = refl
authenticated_seen (FetcherMarking hash) P t v = refl

-- what is seen of a value has its size and its depth
pub size_seen : (marking : Marking) (P : Program) (t : Ty) (v : Value) → size P.types t (seen_as marking P t v) ≡ size P.types t v
size_seen IdealMarking P t v = refl
size_seen (ProverMarking hash) P t v = refl
size_seen (VerifierMarking hash) P t v = size_shallow (digest_at hash P) P.types t v
size_seen (FetcherMarking hash) P t v = size_shallow (digest_at hash P) P.types t v

pub depth_seen : (marking : Marking) (P : Program) (t : Ty) (v : Value) → depth P.types t (seen_as marking P t v) ≡ depth P.types t v
depth_seen IdealMarking P t v = refl
depth_seen (ProverMarking hash) P t v = refl
depth_seen (VerifierMarking hash) P t v = depth_shallow (digest_at hash P) P.types t v
depth_seen (FetcherMarking hash) P t v = depth_shallow (digest_at hash P) P.types t v
