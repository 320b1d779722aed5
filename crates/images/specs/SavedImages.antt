-- The one image that is written for a value.
use Rattle.std.specs.Prelude.{ℕ, suc, Bool, true, false, ◌&&◌, ◌||◌, List, [], ◌∷◌, ◌++◌, length, unwrap_or, nat_eq, bytes_eq, ℤ, pos, negsuc, if◌then◌else◌}
use Rattle.std.specs.Int.{w16, w32, w64, to_be_bytes, cast_unsigned}
use Rattle.core_terms.specs.Types.{Ty, UnitTy, BoolTy, IntTy, TextTy, PairTy, NamedTy, AuthTy, VecTy, Table, fields_at, item_types, same_type}
use Rattle.core_terms.specs.Values.{Value, UnitV, BoolV, IntV, TextV, PairV, ConV, DigestV, ItemsV, Values, NoV, AndV}
use Rattle.core_terms.specs.Terms.{Program}
use Rattle.images.specs.Images.{Entry, entry}

-- two bools, and two numbers, are the same
abbrev pub same_bool : Bool → Bool → Bool
same_bool true true = true
same_bool false false = true
same_bool a b = false

abbrev pub same_int : ℤ → ℤ → Bool
same_int (pos m) (pos n) = nat_eq m n
same_int (negsuc m) (negsuc n) = nat_eq m n
same_int a b = false

abbrev mutual
  -- two values are the same
  pub same_value : Value → Value → Bool
  same_value UnitV UnitV = true
  same_value (BoolV a) (BoolV b) = same_bool a b
  same_value (IntV a) (IntV b) = same_int a b
  same_value (TextV a) (TextV b) = bytes_eq a b
  same_value (PairV a b) (PairV c d) = same_value a c && same_value b d
  same_value (ConV tag vs) (ConV other ws) = nat_eq tag other && same_values vs ws
  same_value (DigestV a) (DigestV b) = bytes_eq a b
  same_value (ItemsV vs) (ItemsV ws) = same_values vs ws
  same_value v w = false

  pub same_values : Values → Values → Bool
  same_values NoV NoV = true
  same_values (AndV v vs) (AndV w ws) = same_value v w && same_values vs ws
  same_values vs ws = false

abbrev pub same_entry : Entry → Entry → Bool
same_entry a b = same_type a.of_type b.of_type && same_value a.value b.value

module _ (types : Table) where
  -- The parts of a value with their types, in the order in which a walk completes them: parts from left to right, and then the whole.
  abbrev mutual
    pub walk : Ty → Value → List Entry
    walk (PairTy a b) (PairV x y) = walk a x ++ walk b y ++ entry (PairTy a b) (PairV x y) ∷ []
    walk (NamedTy number) (ConV tag vs) =
        walk_all (unwrap_or (fields_at types number tag) []) vs ++ entry (NamedTy number) (ConV tag vs) ∷ []
    walk (VecTy n t) (ItemsV vs) = walk_all (item_types n t) vs ++ entry (VecTy n t) (ItemsV vs) ∷ []
    walk (AuthTy t) v = walk t v ++ entry (AuthTy t) v ∷ []
    walk t v = entry t v ∷ []

    pub walk_all : List Ty → Values → List Entry
    walk_all (t ∷ ts) (AndV v vs) = walk t v ++ walk_all ts vs
    walk_all ts vs = []

-- one of these is this one
abbrev pub is_entry_of : Entry → List Entry → Bool
is_entry_of e [] = false
is_entry_of e (other ∷ others) = same_entry other e || is_entry_of e others

-- each of them once, where it first stands, behind these
abbrev pub distinct : List Entry → List Entry → List Entry
distinct before [] = before
distinct before (e ∷ rest) = distinct (if is_entry_of e before then before else before ++ e ∷ []) rest

-- the number of one of these, from 0
abbrev pub number_among : List Entry → Entry → ℕ
number_among [] e = 0
number_among (other ∷ others) e = if same_entry other e then 0 else suc (number_among others e)

-- a number as 4 bytes
abbrev pub reference : List Entry → Ty → Value → List ℕ
reference entries t v = to_be_bytes w32 (number_among entries (entry t v))

module _ (types : Table) (entries : List Entry) where
  abbrev pub references : List Ty → Values → List ℕ
  references (t ∷ ts) (AndV v vs) = reference entries t v ++ references ts vs
  references ts vs = []

  -- the record of a value of a type, by the numbers of its parts
  abbrev pub record_bytes : Ty → Value → List ℕ
  record_bytes UnitTy UnitV = 0 ∷ []
  record_bytes BoolTy (BoolV false) = 1 ∷ 0 ∷ []
  record_bytes BoolTy (BoolV true) = 1 ∷ 1 ∷ []
  record_bytes IntTy (IntV z) = 2 ∷ to_be_bytes w64 (cast_unsigned w64 z)
  record_bytes TextTy (TextV bytes) = 3 ∷ to_be_bytes w32 (length bytes) ++ bytes
  record_bytes (PairTy a b) (PairV x y) = 4 ∷ reference entries a x ++ reference entries b y
  record_bytes (NamedTy number) (ConV tag vs) =
      5 ∷ to_be_bytes w16 number ++ tag ∷ references (unwrap_or (fields_at types number tag) []) vs
  record_bytes (VecTy n t) (ItemsV vs) = 7 ∷ n ∷ references (item_types n t) vs
  record_bytes (AuthTy t) v = 6 ∷ reference entries t v
  record_bytes t v = []

  abbrev pub records_bytes : List Entry → List ℕ
  records_bytes [] = []
  records_bytes (e ∷ rest) = record_bytes e.of_type e.value ++ records_bytes rest

-- The image of a state, of the program whose text has this digest: the magic, the digest, the number of records, and the distinct parts of the
-- state in the order of the walk, the state last.
abbrev pub saved_image : Program → List ℕ → Value → List ℕ
saved_image P digest v =
    let entries = distinct [] (walk P.types P.state v) in
    P.format.image_magic ++ digest ++ to_be_bytes w32 (length entries) ++ records_bytes P.types entries entries
