-- The spelling of a value in which no digest stands is of bytes.
use Rattle.std.proofs.Common.{◌≡◌, ℕ, ◌+◌, ◌/◌, ◌<◌, Bool, true, false, cond, List, [], ◌∷◌, ◌++◌, length, Option, Some, None, IsUtf8, ⊎_elim, refl, sym, ap, ◌∙◌, subst, arith, lit<, ltb-true, leb-true}
use Rattle.std.specs.Prelude.{nat_le, slice_get}
use Rattle.std.specs.Int.{w32, w64, cast_unsigned, to_be_bytes}
use Rattle.std.specs.Option.{option_and_then}
use Rattle.std.specs.Str.{encode_utf8_all}
use Rattle.std.proofs.lemmas.Bool.{and_parts}
use Rattle.std.proofs.lemmas.List.Sums.{AllPass-from_list_all}
use Rattle.std.proofs.lemmas.Option.{get_or_from_slice_get, slice_get_within}
use lib.Dec.{ltb}
use lib.Utf8.{encode, next, scalar, scalar_cases, scalars}
use Rattle.core_terms.specs.Spelling.{AreBytes, spelling, spellings}
use Rattle.core_terms.specs.Types.{Ty, UnitTy, BoolTy, IntTy, TextTy, PairTy, NamedTy, AuthTy, VecTy, Table, fields_at, has_tags, item_types, OnFields}
use Rattle.core_terms.specs.Values.{AreIdeal, AreShallow, IsIdeal, IsShallow, Value, UnitV, BoolV, IntV, TextV, PairV, ConV, DigestV, ItemsV, Values, NoV, AndV}
use Rattle.core_terms.proofs.Fields.{on_fields}

-- bytes behind bytes
both_bytes : (first more : List ℕ) → AreBytes first → AreBytes more → AreBytes (first ++ more)
both_bytes [] more h j = j
both_bytes (b ∷ first) more h j = (h.0, both_bytes first more h.1 j)

-- those of a number
bytes_of_four : (n : ℕ) → AreBytes (to_be_bytes w32 n)
bytes_of_four n = (omega arith, (omega arith, (omega arith, (omega arith, tt))))

bytes_of_eight : (n : ℕ) → AreBytes (to_be_bytes w64 n)
bytes_of_eight n =
    (omega arith, (omega arith, (omega arith, (omega arith, (omega arith, (omega arith, (omega arith, (omega arith, tt))))))))

-- those of a character, by how many there are
scalar_below : (c : ℕ) → scalar c ≡ true → c < 1114112
scalar_below c is = ⊎_elim (λ low. omega (arith, low)) (λ high. high.1) (scalar_cases c is)

next_below : (n : ℕ) → next n < 256
next_below n = omega arith

by_length : (c : ℕ) (one two three : Bool) → ltb c 128 ≡ one → ltb c 2048 ≡ two → ltb c 65536 ≡ three → c < 1114112
    → AreBytes (cond one (c ∷ []) (cond two ((192 + c / 64) ∷ next c ∷ []) (cond three ((224 + c / 4096) ∷ next (c / 64) ∷ next c ∷ [])
    ((240 + c / 262144) ∷ next (c / 4096) ∷ next (c / 64) ∷ next c ∷ []))))
by_length c true two three is_one is_two is_three below = let few = ltb-true c 128 is_one in (omega (arith, few), tt)
by_length c false true three is_one is_two is_three below =
    let few = ltb-true c 2048 is_two in
    let lead : 192 + c / 64 < 256 = omega (arith, few) in
    (lead, (next_below c, tt))
by_length c false false true is_one is_two is_three below =
    let few = ltb-true c 65536 is_three in
    let lead : 224 + c / 4096 < 256 = omega (arith, few) in
    (lead, (next_below (c / 64), (next_below c, tt)))
by_length c false false false is_one is_two is_three below =
    let lead : 240 + c / 262144 < 256 = omega (arith, below) in
    (lead, (next_below (c / 4096), (next_below (c / 64), (next_below c, tt))))

character_bytes : (c : ℕ) → scalar c ≡ true → AreBytes (encode c)
unfolding encode
character_bytes c is = by_length c (ltb c 128) (ltb c 2048) (ltb c 65536) refl refl refl (scalar_below c is)

all_characters : (cs : List ℕ) → scalars cs ≡ true → AreBytes (encode_utf8_all cs)
all_characters [] are = tt
all_characters (c ∷ cs) are =
    let parts = and_parts (scalar c) (scalars cs) are in
    both_bytes (encode c) (encode_utf8_all cs) (character_bytes c parts.0) (all_characters cs parts.1)

-- those of a text
text_bytes : (bytes : List ℕ) → IsUtf8 bytes → AreBytes bytes
text_bytes bytes utf8 = subst AreBytes utf8.1.1 (all_characters utf8.0 utf8.1.0)

module _ (types : Table) (tags : has_tags types ≡ true) where
  -- a constructor's tag is a byte
  tag_below : (number tag : ℕ) (ts : List Ty) → fields_at types number tag ≡ Some ts → tag < 256
  tag_below number tag ts e = by (slice_get types number) refl e
    where
      by : (found : Option (List (List Ty))) → slice_get types number ≡ found → option_and_then (λ constructors. slice_get constructors tag) found ≡ Some ts → tag < 256
      by (Some constructors) is e =
          let fits : nat_le (length constructors) 255 ≡ true =
          ap (λ (constructors : List (List Ty)). nat_le (length constructors) 255) (sym (get_or_from_slice_get types number constructors [] is))
          ∙ AllPass-from_list_all (λ (constructors : List (List Ty)). nat_le (length constructors) 255) types tags number [] (slice_get_within types number constructors is) in
          omega (arith, leb-true (length constructors) 255 fits, slice_get_within constructors tag ts e)
      by None is e = absurd (cc)

  -- an ideal value is no digest
  no_digest : (t : Ty) (bytes : List ℕ) → IsIdeal types t (DigestV bytes) → ⊥
  no_digest (AuthTy t) bytes h = no_digest t bytes h
  no_digest t bytes h = elim h [ ]

  -- those of a value that is a shallow one and an ideal one
  mutual
    pub spelled_bytes : (t : Ty) (v : Value) → IsShallow types t v → IsIdeal types t v → AreBytes (spelling v)
    spelled_bytes (AuthTy t) (DigestV bytes) h i = absurd (no_digest t bytes i)
    spelled_bytes UnitTy UnitV h i = tt
    spelled_bytes BoolTy (BoolV true) h i = (lit< tt, tt)
    spelled_bytes BoolTy (BoolV false) h i = (lit< tt, tt)
    spelled_bytes IntTy (IntV z) h i = bytes_of_eight (cast_unsigned w64 z)
    spelled_bytes TextTy (TextV bytes) h i = both_bytes (to_be_bytes w32 (length bytes)) bytes (bytes_of_four (length bytes)) (text_bytes bytes h)
    spelled_bytes (PairTy a b) (PairV x y) h i = both_bytes (spelling x) (spelling y) (spelled_bytes a x h.0 i.0) (spelled_bytes b y h.1 i.1)
    spelled_bytes (NamedTy number) (ConV tag vs) h i =
        let shape = on_fields (fields_at types number tag) (λ ts. AreShallow types ts vs) h in
        (tag_below number tag shape.0 shape.1, fields_bytes (fields_at types number tag) vs h i)
    spelled_bytes (VecTy n t) (ItemsV vs) h i = fields_bytes (Some (item_types n t)) vs h i
    spelled_bytes t v h i = elim h [ ]

    fields_bytes : (ts : Option (List Ty)) (vs : Values) → OnFields ts (λ ts. AreShallow types ts vs) → OnFields ts (λ ts. AreIdeal types ts vs) → AreBytes (spellings vs)
    fields_bytes (Some []) NoV h i = tt
    fields_bytes (Some (t ∷ ts)) (AndV v vs) h i = both_bytes (spelling v) (spellings vs) (spelled_bytes t v h.0 i.0) (fields_bytes (Some ts) vs h.1 i.1)
    fields_bytes ts vs h i = elim h [ ]
