-- The bytes of the record of a value: what stands before the numbers of its parts, and these.
use Rattle.std.proofs.Common.{◌≡◌, ℕ, suc, ◌+◌, true, false, List, [], ◌∷◌, ◌++◌, length, unwrap_or, refl, sym, ap, ◌∙◌, arith, append_assoc, length-append}
use Rattle.std.proofs.lemmas.List.{append-nil}
use Rattle.std.specs.Int.{w16, w32, w64, to_be_bytes, cast_unsigned}
use Rattle.core_terms.specs.Types.{Ty, UnitTy, BoolTy, IntTy, TextTy, PairTy, NamedTy, AuthTy, VecTy, Table, fields_at, item_types}
use Rattle.core_terms.specs.Values.{Value, UnitV, BoolV, IntV, TextV, PairV, ConV, ItemsV, Values, NoV, AndV}
use Rattle.images.specs.Images.{Entry}
use Rattle.images.specs.SavedImages.{number_among, record_bytes, records_bytes, reference, references}
use Rattle.images.proofs.AmongEntries.{AreAmong}
use Rattle.images.proofs.EntryParts.{fields, parts}
use Rattle.images.proofs.NumberedEntries.{number_more}

-- what stands before the numbers of the parts
abbrev pub head_at : Ty → Value → List ℕ
head_at UnitTy UnitV = 0 ∷ []
head_at BoolTy (BoolV false) = 1 ∷ 0 ∷ []
head_at BoolTy (BoolV true) = 1 ∷ 1 ∷ []
head_at IntTy (IntV z) = 2 ∷ to_be_bytes w64 (cast_unsigned w64 z)
head_at TextTy (TextV bytes) = 3 ∷ to_be_bytes w32 (length bytes) ++ bytes
head_at (PairTy a b) (PairV x y) = 4 ∷ []
head_at (NamedTy number) (ConV tag vs) = 5 ∷ to_be_bytes w16 number ++ tag ∷ []
head_at (VecTy n t) (ItemsV vs) = 7 ∷ n ∷ []
head_at (AuthTy t) v = 6 ∷ []
head_at t v = []

-- the numbers of some entries, in 4 bytes each
abbrev pub part_numbers : List Entry → List Entry → List ℕ
part_numbers done [] = []
part_numbers done (e ∷ es) = to_be_bytes w32 (number_among done e) ++ part_numbers done es

numbers_fields : (types : Table) (done : List Entry) (ts : List Ty) (vs : Values) → references types done ts vs ≡ part_numbers done (fields ts vs)
numbers_fields types done (t ∷ ts) (AndV v vs) = ap (λ bytes. reference done t v ++ bytes) (numbers_fields types done ts vs)
numbers_fields types done [] vs = refl
numbers_fields types done (t ∷ ts) NoV = refl

pub record_parts : (types : Table) (done : List Entry) (t : Ty) (v : Value) → record_bytes types done t v ≡ head_at t v ++ part_numbers done (parts types t v)
record_parts types done (PairTy a b) (PairV x y) = ap (λ bytes. 4 ∷ reference done a x ++ bytes) (sym (append-nil (reference done b y)))
record_parts types done (NamedTy number) (ConV tag vs) =
    ap (λ bytes. 5 ∷ to_be_bytes w16 number ++ tag ∷ bytes) (numbers_fields types done (unwrap_or (fields_at types number tag) []) vs)
record_parts types done (VecTy n t) (ItemsV vs) = ap (λ bytes. 7 ∷ n ∷ bytes) (numbers_fields types done (item_types n t) vs)
record_parts types done (AuthTy t) v = ap (λ bytes. 6 ∷ bytes) (sym (append-nil (reference done t v)))
record_parts types done IntTy (IntV z) = ap (λ bytes. 2 ∷ bytes) (sym (append-nil (to_be_bytes w64 (cast_unsigned w64 z))))
record_parts types done TextTy (TextV bytes) = ap (λ bytes. 3 ∷ bytes) (sym (append-nil (to_be_bytes w32 (length bytes) ++ bytes)))
record_parts types done UnitTy UnitV = refl
record_parts types done BoolTy (BoolV false) = refl
record_parts types done BoolTy (BoolV true) = refl
record_parts types done t v = refl

numbers_more : (done more es : List Entry) → AreAmong done es → part_numbers (done ++ more) es ≡ part_numbers done es
numbers_more done more [] h = refl
numbers_more done more (e ∷ es) h =
    ap (λ n. to_be_bytes w32 n ++ part_numbers (done ++ more) es) (number_more e done more h.0)
    ∙ ap (λ bytes. to_be_bytes w32 (number_among done e) ++ bytes) (numbers_more done more es h.1)

-- a record stays as it is where more entries stand behind its parts
pub record_more : (types : Table) (done more : List Entry) (e : Entry) → AreAmong done (parts types e.of_type e.value)
    → record_bytes types (done ++ more) e.of_type e.value ≡ record_bytes types done e.of_type e.value
record_more types done more e h =
    record_parts types (done ++ more) e.of_type e.value
    ∙ ap (λ bytes. head_at e.of_type e.value ++ bytes) (numbers_more done more (parts types e.of_type e.value) h)
    ∙ sym (record_parts types done e.of_type e.value)

length-numbers : (done other es : List Entry) → length (part_numbers done es) ≡ length (part_numbers other es)
length-numbers done other [] = refl
length-numbers done other (e ∷ es) = ap (λ n. suc (suc (suc (suc n)))) (length-numbers done other es)

-- its length rests on no numbers
pub length-record : (types : Table) (done other : List Entry) (e : Entry) → length (record_bytes types done e.of_type e.value) ≡ length (record_bytes types other e.of_type e.value)
length-record types done other e =
    ap length (record_parts types done e.of_type e.value)
    ∙ length-append (head_at e.of_type e.value) (part_numbers done (parts types e.of_type e.value))
    ∙ ap (λ n. length (head_at e.of_type e.value) + n) (length-numbers done other (parts types e.of_type e.value))
    ∙ sym (length-append (head_at e.of_type e.value) (part_numbers other (parts types e.of_type e.value)))
    ∙ ap length (sym (record_parts types other e.of_type e.value))

pub records_append : (types : Table) (done xs ys : List Entry) → records_bytes types done (xs ++ ys) ≡ records_bytes types done xs ++ records_bytes types done ys
records_append types done [] ys = refl
records_append types done (x ∷ xs) ys =
    ap (λ bytes. record_bytes types done x.of_type x.value ++ bytes) (records_append types done xs ys)
    ∙ sym (append_assoc (record_bytes types done x.of_type x.value) (records_bytes types done xs) (records_bytes types done ys))

pub length-records : (types : Table) (done other xs : List Entry) → length (records_bytes types done xs) ≡ length (records_bytes types other xs)
length-records types done other [] = refl
length-records types done other (x ∷ xs) =
    let all = length-append (record_bytes types done x.of_type x.value) (records_bytes types done xs) in
    let all' = length-append (record_bytes types other x.of_type x.value) (records_bytes types other xs) in
    let first = length-record types done other x in
    let rest = length-records types done other xs in
    omega (arith, all, all', first, rest)
