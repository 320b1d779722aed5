-- What is kept of the records that are loaded: the record with a number, and one more.
use Rattle.std.proofs.Common.{◌≡◌, ℕ, zero, suc, ◌+◌, ◌-◌, ◌<◌, List, [], ◌∷◌, ◌++◌, length, Some, option_map, slice_get, nat_lt, Bool, true, false, refl, sym, ap, ap₂, ◌∙◌, arith, lt-ltb, le-ltb}
use Rattle.std.proofs.lemmas.Bool.{ltb-false}
use Rattle.std.proofs.lemmas.List.{get_or_append_left}
use Rattle.std.proofs.Math.Seq.{get_or-append_seam}
use Rattle.value_store.specs.declared.node.Ref.{Ref}
use Rattle.images.specs.KeptRecords.{node_at, record_kept, records_from, records_kept}
use Rattle.images.specs.declared.stored.StoredRecord.{StoredRecord}

abbrev ref : ℕ → Ref
ref n = record { 0 = n }

from_length : (node : ℕ → Ref) (n : ℕ) (types : List ℕ) → length (records_from node n types) ≡ length types
from_length node n [] = refl
from_length node n (t ∷ ts) = ap suc (from_length node (suc n) ts)

pub kept_length : (same : ℕ) (others : List Ref) (types : List ℕ) → length (records_kept same others types) ≡ length types
kept_length same others types = from_length (node_at same others) 0 types

from_there : (node : ℕ → Ref) (n at i : ℕ) (types : List ℕ) → at ≡ n + i → slice_get (records_from node n types) i ≡ option_map (λ t. record_kept t (node at)) (slice_get types i)
from_there node n at i [] is = refl
from_there node n at zero (t ∷ ts) is = ap (λ m. Some (record_kept t (node m))) (omega (arith, is))
from_there node n at (suc i) (t ∷ ts) is = from_there node (suc n) at i ts (omega (arith, is))

-- the record with a number
pub kept_there : (same : ℕ) (others : List Ref) (types : List ℕ) (i : ℕ)
    → slice_get (records_kept same others types) i ≡ option_map (λ t. record_kept t (node_at same others i)) (slice_get types i)
kept_there same others types i = from_there (node_at same others) 0 i i types (omega arith)

from_more : (node new : ℕ → Ref) (n at : ℕ) (types : List ℕ) (t : ℕ) → at ≡ n + length types → ((i : ℕ) → i < at → new i ≡ node i)
    → records_from new n (types ++ t ∷ []) ≡ records_from node n types ++ record_kept t (new at) ∷ []
from_more node new n at [] t is same = ap (λ m. record_kept t (new m) ∷ []) (omega (arith, is))
from_more node new n at (u ∷ us) t is same =
    ap₂ (λ r rest. record_kept u r ∷ rest) (same n (omega (arith, is))) (from_more node new (suc n) at us t (omega (arith, is)) same)

-- one record more, which is the node with its own number
pub one_same : (same : ℕ) (others : List Ref) (types : List ℕ) (r : StoredRecord) → others ≡ [] → same + length others ≡ length types → r.value.0 ≡ same
    → records_kept (same + 1) others (types ++ r.ty.0 ∷ []) ≡ records_kept same others types ++ r ∷ []
one_same same (x ∷ xs) types r none long own = absurd (cc)
one_same same [] types r none long own =
    from_more (node_at same []) (node_at (same + 1) []) 0 same types r.ty.0 (omega (arith, long)) before
    ∙ ap (λ node. records_kept same [] types ++ record_kept r.ty.0 node ∷ []) last
  where
    before : (i : ℕ) → i < same → node_at (same + 1) [] i ≡ node_at same [] i
    before i low = rw (lt-ltb i same low, lt-ltb i (same + 1) (omega (arith, low))) refl

    last : node_at (same + 1) [] same ≡ r.value
    last = rw (lt-ltb same (same + 1) (omega arith)) (ap (λ n. ref n) (sym own))

-- one record more, with the node that is kept
pub one_other : (same : ℕ) (others : List Ref) (types : List ℕ) (r : StoredRecord) → same + length others ≡ length types
    → records_kept same (others ++ r.value ∷ []) (types ++ r.ty.0 ∷ []) ≡ records_kept same others types ++ r ∷ []
one_other same others types r long =
    from_more (node_at same others) (node_at same (others ++ r.value ∷ [])) 0 (same + length others) types r.ty.0 (omega (arith, long)) before
    ∙ ap (λ node. records_kept same others types ++ record_kept r.ty.0 node ∷ []) last
  where
    before : (i : ℕ) → i < same + length others → node_at same (others ++ r.value ∷ []) i ≡ node_at same others i
    before i low = by (nat_lt i same) refl
      where
        by : (b : Bool) → nat_lt i same ≡ b → node_at same (others ++ r.value ∷ []) i ≡ node_at same others i
        by true e = rw e refl
        by false e =
            let high = ltb-false i same e in
            rw e (get_or_append_left others (r.value ∷ []) (record { 0 = i }) (i - same) (omega (arith, high, low)))

    last : node_at same (others ++ r.value ∷ []) (same + length others) ≡ r.value
    last =
        let behind : same + length others - same ≡ length others = omega arith in
        rw (le-ltb (same + length others) same (omega arith), behind) (get_or-append_seam others r.value [] _)
