-- The record of an entry, read again.
use Rattle.std.proofs.Common.{◌≡◌, ℕ, zero, suc, true, ◌*◌, ◌<◌, ◌≤◌, List, [], ◌∷◌, ◌++◌, length, Option, Some, None, unwrap_or, if◌then◌else◌, refl, sym, ap, ap₂, ◌∙◌, arith, length-append, le-leb}
use Rattle.std.specs.Int.{w16, to_be_bytes, from_be_bytes}
use Rattle.std.specs.Option.{option_and_then, option_map}
use Rattle.std.proofs.lemmas.Nat.{from_be_bytes-to_be_bytes_2}
use Rattle.core_terms.specs.Types.{Ty, UnitTy, BoolTy, IntTy, TextTy, PairTy, NamedTy, AuthTy, VecTy, Table, fields_at, is_length, item_types, OnFields, same_type}
use Rattle.core_terms.specs.Values.{Value, UnitV, BoolV, IntV, TextV, PairV, ConV, ItemsV, Values, NoV, AndV, IsIdeal, AreIdeal}
use Rattle.core_terms.proofs.TypingComplete.{same_self}
use Rattle.images.specs.Images.{Entry, entry, array_from, fields_from, pair_from, stands_for}
use Rattle.images.specs.Records.{Record, UnitRecord, BoolRecord, IntRecord, TextRecord, PairRecord, ConRecord, AuthRecord, VecRecord, ReadRecord, con_record, fields_record, numbers_of, vec_record}
use Rattle.images.specs.Parts.{HasLength}
use Rattle.images.specs.SavedImages.{number_among, reference, references}
use Rattle.images.proofs.Fronts.{fixed_front}
use Rattle.images.proofs.AmongEntries.{AreAmong}
use Rattle.images.proofs.EntryParts.{fields, parts}
use Rattle.images.proofs.NumberedEntries.{entry_numbered, number_again}

-- the numbers of some entries
abbrev pub numbers_among : List Entry → List Entry → List ℕ
numbers_among done [] = []
numbers_among done (e ∷ es) = number_among done e ∷ numbers_among done es

-- the record of a value, by the numbers of its parts
abbrev pub record_among : Table → List Entry → Ty → Value → Record
record_among types done (AuthTy t) v = AuthRecord (number_among done (entry t v))
record_among types done BoolTy (BoolV b) = BoolRecord b
record_among types done IntTy (IntV z) = IntRecord z
record_among types done TextTy (TextV bytes) = TextRecord bytes
record_among types done (PairTy a b) (PairV x y) = PairRecord (number_among done (entry a x)) (number_among done (entry b y))
record_among types done (NamedTy number) (ConV tag vs) = ConRecord number tag (numbers_among done (fields (unwrap_or (fields_at types number tag) []) vs))
record_among types done (VecTy n t) (ItemsV vs) = VecRecord (numbers_among done (fields (item_types n t) vs))
record_among types done t v = UnitRecord

module _ (types : Table) (done : List Entry) where
  fields_found : (ts : List Ty) (vs : Values) → AreIdeal types ts vs → AreAmong done (fields ts vs) → fields_from done (numbers_among done (fields ts vs)) ts ≡ Some vs
  fields_found [] NoV i h = refl
  fields_found (t ∷ ts) (AndV v vs) i h =
      let rest = fields_from done (numbers_among done (fields ts vs)) ts in
      ap (λ o. option_and_then (λ (e : Entry). if same_type e.of_type t then option_map (λ vs. AndV e.value vs) rest else None) o) (entry_numbered (entry t v) done h.0)
      ∙ ap (λ b. if b then option_map (λ vs. AndV v vs) rest else None) (same_self t)
      ∙ ap (option_map (λ vs. AndV v vs)) (fields_found ts vs i.1 h.1)
  fields_found ts vs i h = elim i [ ]

  con_found : (o : Option (List Ty)) (number tag : ℕ) (vs : Values) → OnFields o (λ ts. AreIdeal types ts vs) → AreAmong done (fields (unwrap_or o []) vs)
      → option_map (λ vs. entry (NamedTy number) (ConV tag vs)) (fields_from done (numbers_among done (fields (unwrap_or o []) vs)) (unwrap_or o [])) ≡ Some (entry (NamedTy number) (ConV tag vs))
  con_found (Some ts) number tag vs i h = ap (option_map (λ vs. entry (NamedTy number) (ConV tag vs))) (fields_found ts vs i h)
  con_found None number tag vs i h = elim i [ ]

  as_many : (n : ℕ) (t : Ty) (vs : Values) → AreIdeal types (item_types n t) vs → length (numbers_among done (fields (item_types n t) vs)) ≡ n
  as_many zero t NoV i = refl
  as_many zero t (AndV v vs) i = elim i [ ]
  as_many (suc n) t NoV i = elim i [ ]
  as_many (suc n) t (AndV v vs) i = ap suc (as_many n t vs i.1)

  vec_found : (n : ℕ) (t : Ty) (vs : Values) → is_length n ≡ true → AreIdeal types (item_types n t) vs → AreAmong done (fields (item_types n t) vs)
      → stands_for types done (VecRecord (numbers_among done (fields (item_types n t) vs))) ≡ Some (entry (VecTy n t) (ItemsV vs))
  vec_found zero t vs l i h = absurd (cc)
  vec_found (suc n) t NoV l i h = elim i [ ]
  vec_found (suc n) t (AndV v vs) l i h =
      let is = numbers_among done (fields (item_types (suc n) t) (AndV v vs)) in
      ap (λ o. option_and_then (λ (a : Entry). array_from done is a.of_type) o) (entry_numbered (entry t v) done h.0)
      ∙ ap (λ m. option_map (λ ws. entry (VecTy m t) (ItemsV ws)) (fields_from done is (item_types m t))) (as_many (suc n) t (AndV v vs) i)
      ∙ ap (option_map (λ ws. entry (VecTy (suc n) t) (ItemsV ws))) (fields_found (item_types (suc n) t) (AndV v vs) i h)

  -- behind its parts the record of a value stands for the value
  pub stands_again : (t : Ty) (v : Value) → HasLength t → IsIdeal types t v → AreAmong done (parts types t v) → stands_for types done (record_among types done t v) ≡ Some (entry t v)
  stands_again (AuthTy t) v l i h = ap (option_map (λ a. entry (AuthTy a.of_type) a.value)) (entry_numbered (entry t v) done h.0)
  stands_again UnitTy UnitV l i h = refl
  stands_again BoolTy (BoolV b) l i h = refl
  stands_again IntTy (IntV z) l i h = refl
  stands_again TextTy (TextV bytes) l i h = refl
  stands_again (PairTy a b) (PairV x y) l i h =
      ap₂ (λ o u. option_and_then (λ a. option_map (λ b. pair_from a b) u) o) (entry_numbered (entry a x) done h.0) (entry_numbered (entry b y) done h.1.0)
  stands_again (NamedTy number) (ConV tag vs) l i h = con_found (fields_at types number tag) number tag vs i h
  stands_again (VecTy n t) (ItemsV vs) l i h = vec_found n t vs l i h
  stands_again t v l i h = elim i [ ]

  length-references : (ts : List Ty) (vs : Values) → AreIdeal types ts vs → length (references types done ts vs) ≡ 4 * length ts
  length-references [] NoV i = refl
  length-references (t ∷ ts) (AndV v vs) i =
      let rest = length-references ts vs i.1 in
      let all = length-append (reference done t v) (references types done ts vs) in
      all ∙ omega (arith, rest)
  length-references ts vs i = elim i [ ]

  module _ (few : length done ≤ 4294967296) where
    numbers_back : (ts : List Ty) (vs : Values) → AreIdeal types ts vs → AreAmong done (fields ts vs)
        → numbers_of (length ts) (references types done ts vs) ≡ numbers_among done (fields ts vs)
    numbers_back [] NoV i h = refl
    numbers_back (t ∷ ts) (AndV v vs) i h = ap₂ (λ (n : ℕ) (ns : List ℕ). n ∷ ns) (number_again (entry t v) done few h.0) (numbers_back ts vs i.1 h.1)
    numbers_back ts vs i h = elim i [ ]

    length_items : (n : ℕ) (t : Ty) → length (item_types n t) ≡ n
    length_items zero t = refl
    length_items (suc n) t = ap suc (length_items n t)

    pub vec_back : (n : ℕ) (t : Ty) (vs : Values) (rest : List ℕ) → AreIdeal types (item_types n t) vs → AreAmong done (fields (item_types n t) vs)
        → vec_record (n ∷ references types done (item_types n t) vs ++ rest) ≡ ReadRecord (VecRecord (numbers_among done (fields (item_types n t) vs))) rest
    vec_back n t vs rest i h =
        fixed_front (4 * n) (λ bs. VecRecord (numbers_of n bs)) (references types done (item_types n t) vs) rest
        (length-references (item_types n t) vs i ∙ ap (λ m. 4 * m) (length_items n t))
        ∙ ap (λ m. ReadRecord (VecRecord (numbers_of m (references types done (item_types n t) vs))) rest) (sym (length_items n t))
        ∙ ap (λ ns. ReadRecord (VecRecord ns) rest) (numbers_back (item_types n t) vs i h)

    fields_back : (o : Option (List Ty)) (number tag : ℕ) (vs : Values) (rest : List ℕ) → OnFields o (λ ts. AreIdeal types ts vs) → AreAmong done (fields (unwrap_or o []) vs)
        → fields_record number tag (option_map length o) (references types done (unwrap_or o []) vs ++ rest) ≡ ReadRecord (ConRecord number tag (numbers_among done (fields (unwrap_or o []) vs))) rest
    fields_back (Some ts) number tag vs rest i h =
        fixed_front (4 * length ts) (λ bs. ConRecord number tag (numbers_of (length ts) bs)) (references types done ts vs) rest (length-references ts vs i)
        ∙ ap (λ ns. ReadRecord (ConRecord number tag ns) rest) (numbers_back ts vs i h)
    fields_back None number tag vs rest i h = elim i [ ]

    pub con_back : (count : ℕ → ℕ → Option ℕ) (number tag : ℕ) (vs : Values) (rest : List ℕ) → number < 65536 → count number tag ≡ option_map length (fields_at types number tag)
        → OnFields (fields_at types number tag) (λ ts. AreIdeal types ts vs) → AreAmong done (fields (unwrap_or (fields_at types number tag) []) vs)
        → con_record count (to_be_bytes w16 number ++ tag ∷ references types done (unwrap_or (fields_at types number tag) []) vs ++ rest)
        ≡ ReadRecord (ConRecord number tag (numbers_among done (fields (unwrap_or (fields_at types number tag) []) vs))) rest
    con_back count number tag vs rest small counted i h =
        let behind = references types done (unwrap_or (fields_at types number tag) []) vs ++ rest in
        let said : from_be_bytes w16 (to_be_bytes w16 number) ≡ number = from_be_bytes-to_be_bytes_2 number small in
        let long = le-leb 3 (length (to_be_bytes w16 number ++ tag ∷ behind)) (omega arith) in
        rw (said, counted, long) (fields_back (fields_at types number tag) number tag vs rest i h)
