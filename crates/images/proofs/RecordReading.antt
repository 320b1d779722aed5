-- A record is of one value only: the value is read from the record and the values of its parts.
use Rattle.std.proofs.Common.{◌≡◌, ℕ, zero, suc, ◌<◌, ◌≤◌, true, false, List, [], ◌∷◌, length, take, drop, Option, Some, None, slice_get, slice_index_or, nat_eq, unwrap_or, if◌then◌else◌, refl, sym, ap, ap₂, ◌∙◌, arith}
use Rattle.std.specs.Int.{w16, w32, w64, to_be_bytes, from_be_bytes, cast_signed}
use Rattle.std.proofs.lemmas.Nat.{from_be_bytes-to_be_bytes_2}
use Rattle.core_terms.specs.Types.{Ty, UnitTy, BoolTy, IntTy, TextTy, PairTy, NamedTy, AuthTy, VecTy, Table, fields_at, is_length, item_types, OnFields}
use Rattle.core_terms.specs.Values.{Value, UnitV, BoolV, IntV, TextV, PairV, ConV, ItemsV, Values, NoV, AndV, IsIdeal, AreIdeal}
use Rattle.images.specs.Images.{Entry, entry}
use Rattle.images.specs.SavedImages.{number_among, record_bytes, references}
use Rattle.images.specs.Parts.{HasLength}
use Rattle.images.proofs.Fronts.{int_back}
use Rattle.images.proofs.AmongEntries.{IsAmong, AreAmong}
use Rattle.images.proofs.EntryParts.{fields, parts}
use Rattle.images.proofs.NumberedEntries.{entry_numbered, number_again}

-- the record of an entry
abbrev pub record_of : Table → List Entry → Entry → List ℕ
record_of types done e = record_bytes types done e.of_type e.value

-- the entry with the number in these bytes
abbrev at_bytes : List Entry → List ℕ → Entry
at_bytes done bytes = unwrap_or (slice_get done (from_be_bytes w32 bytes)) (entry UnitTy UnitV)

abbrev values_at : List Entry → List Ty → List ℕ → Values
values_at done [] bytes = NoV
values_at done (t ∷ ts) bytes = AndV (at_bytes done (take 4 bytes)).value (values_at done ts (drop 4 bytes))

abbrev pair_at : Entry → Entry → Entry
pair_at a b = entry (PairTy a.of_type b.of_type) (PairV a.value b.value)

abbrev auth_at : Entry → Entry
auth_at e = entry (AuthTy e.of_type) e.value

abbrev con_at : Table → List Entry → ℕ → ℕ → List ℕ → Entry
con_at types done number tag bytes = entry (NamedTy number) (ConV tag (values_at done (unwrap_or (fields_at types number tag) []) bytes))

abbrev vec_at : List Entry → ℕ → List ℕ → Ty → Entry
vec_at done n bytes t = entry (VecTy n t) (ItemsV (values_at done (item_types n t) bytes))

abbrev read_by : Table → List Entry → ℕ → List ℕ → Entry
read_by types done kind bytes =
    if nat_eq kind 1 then entry BoolTy (BoolV (nat_eq (slice_index_or bytes 0 0) 1)) else
    (if nat_eq kind 2 then entry IntTy (IntV (cast_signed w64 (from_be_bytes w64 bytes))) else
    (if nat_eq kind 3 then entry TextTy (TextV (drop 4 bytes)) else
    (if nat_eq kind 4 then pair_at (at_bytes done (take 4 bytes)) (at_bytes done (drop 4 bytes)) else
    (if nat_eq kind 5 then con_at types done (from_be_bytes w16 (take 2 bytes)) (slice_index_or bytes 2 0) (drop 3 bytes) else
    (if nat_eq kind 6 then auth_at (at_bytes done bytes) else
    (if nat_eq kind 7 then vec_at done (slice_index_or bytes 0 0) (drop 1 bytes) (at_bytes done (take 4 (drop 1 bytes))).of_type else entry UnitTy UnitV))))))

abbrev entry_read : Table → List Entry → List ℕ → Entry
entry_read types done found = read_by types done (slice_index_or found 0 0) (drop 1 found)

-- a type that has constructors has its number in the table
pub number_few : (types : Table) (number tag : ℕ) (F : List Ty → Type 0) → OnFields (fields_at types number tag) F → number < length types
number_few [] number tag F h = elim h [ ]
number_few (t ∷ types) zero tag F h = omega arith
number_few (t ∷ types) (suc number) tag F h = let rest = number_few types number tag F h in omega (arith, rest)

module _ (done : List Entry) (few : length done ≤ 4294967296) where
  at_number : (e : Entry) → IsAmong done e → at_bytes done (to_be_bytes w32 (number_among done e)) ≡ e
  at_number e h =
      ap (λ n. unwrap_or (slice_get done n) (entry UnitTy UnitV)) (number_again e done few h)
      ∙ ap (λ o. unwrap_or o (entry UnitTy UnitV)) (entry_numbered e done h)

  module _ (types : Table) (few_types : length types ≤ 65536) where
    fields_read : (ts : List Ty) (vs : Values) → AreIdeal types ts vs → AreAmong done (fields ts vs) → values_at done ts (references types done ts vs) ≡ vs
    fields_read [] NoV i h = refl
    fields_read (t ∷ ts) (AndV v vs) i h = ap₂ AndV (ap (λ (e : Entry). e.value) (at_number (entry t v) h.0)) (fields_read ts vs i.1 h.1)
    fields_read ts vs i h = elim i [ ]

    con_read : (o : Option (List Ty)) (vs : Values) → OnFields o (λ ts. AreIdeal types ts vs) → AreAmong done (fields (unwrap_or o []) vs)
        → values_at done (unwrap_or o []) (references types done (unwrap_or o []) vs) ≡ vs
    con_read (Some ts) vs i h = fields_read ts vs i h
    con_read None vs i h = elim i [ ]

    vec_read : (n : ℕ) (t : Ty) (vs : Values) → is_length n ≡ true → AreIdeal types (item_types n t) vs → AreAmong done (fields (item_types n t) vs)
        → let numbers = references types done (item_types n t) vs in vec_at done n numbers (at_bytes done (take 4 numbers)).of_type ≡ entry (VecTy n t) (ItemsV vs)
    vec_read zero t vs l i h = absurd (cc)
    vec_read (suc n) t NoV l i h = elim i [ ]
    vec_read (suc n) t (AndV v vs) l i h =
        ap (λ (e : Entry). vec_at done (suc n) (references types done (item_types (suc n) t) (AndV v vs)) e.of_type) (at_number (entry t v) h.0)
        ∙ ap (λ vs. entry (VecTy (suc n) t) (ItemsV vs)) (fields_read (item_types (suc n) t) (AndV v vs) i h)

    read_again : (t : Ty) (v : Value) → HasLength t → IsIdeal types t v → AreAmong done (parts types t v) → entry_read types done (record_of types done (entry t v)) ≡ entry t v
    read_again UnitTy UnitV l i h = refl
    read_again BoolTy (BoolV true) l i h = refl
    read_again BoolTy (BoolV false) l i h = refl
    read_again IntTy (IntV z) l i h = ap (λ z. entry IntTy (IntV z)) (int_back z i)
    read_again TextTy (TextV bytes) l i h = refl
    read_again (PairTy a b) (PairV x y) l i h = ap₂ pair_at (at_number (entry a x) h.0) (at_number (entry b y) h.1.0)
    read_again (NamedTy number) (ConV tag vs) l i h =
        let there : number < length types = number_few types number tag (λ ts. AreIdeal types ts vs) i in
        let few_number : number < 65536 = omega (arith, there, few_types) in
        let numbers = references types done (unwrap_or (fields_at types number tag) []) vs in
        ap (λ n. con_at types done n tag numbers) (from_be_bytes-to_be_bytes_2 number few_number)
        ∙ ap (λ vs. entry (NamedTy number) (ConV tag vs)) (con_read (fields_at types number tag) vs i h)
    read_again (AuthTy t) v l i h = ap auth_at (at_number (entry t v) h.0)
    read_again (VecTy n t) (ItemsV vs) l i h = vec_read n t vs l i h
    read_again t v l i h = elim i [ ]

    -- two entries with one record are one
    pub one_record : (a b : Entry) → HasLength a.of_type → IsIdeal types a.of_type a.value → AreAmong done (parts types a.of_type a.value)
        → HasLength b.of_type → IsIdeal types b.of_type b.value → AreAmong done (parts types b.of_type b.value) → record_of types done a ≡ record_of types done b → a ≡ b
    one_record a b l i h m j k e = sym (read_again a.of_type a.value l i h) ∙ ap (entry_read types done) e ∙ read_again b.of_type b.value m j k
