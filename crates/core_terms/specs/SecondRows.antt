-- The second format: fingerprints, digests, and how type declarations are printed. Each row holds by computing.
use Rattle.std.specs.Prelude.{◌≡◌, ℕ, List, [], ◌∷◌, ◌++◌, codes, refl}
use Rattle.core_terms.specs.Types.{UnitTy, BoolTy, IntTy, TextTy, PairTy, NamedTy, AuthTy, VecTy}
use Rattle.core_terms.specs.Formats.{Hash, fingerprint, second_format}
use Rattle.core_terms.specs.TypeDeclarations.{type_text, types_text}

pub prints_of_leaves : (hash : Hash) (declared : List ℕ) → (fingerprint hash declared UnitTy ≡ hash []) × (fingerprint hash declared BoolTy ≡ hash (1 ∷ []))
    × (fingerprint hash declared IntTy ≡ hash (2 ∷ [])) × (fingerprint hash declared TextTy ≡ hash (3 ∷ []))
prints_of_leaves hash declared = (refl, refl, refl, refl)

pub print_of_a_pair : (hash : Hash) (declared : List ℕ) → fingerprint hash declared (PairTy (AuthTy IntTy) TextTy) ≡ hash (4 ∷ hash (6 ∷ hash (2 ∷ [])) ++ hash (3 ∷ []))
print_of_a_pair hash declared = refl

pub print_of_a_named_type : (hash : Hash) (declared : List ℕ) → fingerprint hash declared (AuthTy (NamedTy 258)) ≡ hash (6 ∷ hash (5 ∷ declared ++ 1 ∷ 2 ∷ []))
print_of_a_named_type hash declared = refl

pub print_of_an_array : (hash : Hash) (declared : List ℕ) → fingerprint hash declared (VecTy 64 (AuthTy IntTy)) ≡ hash (7 ∷ 64 ∷ hash (6 ∷ hash (2 ∷ [])))
print_of_an_array hash declared = refl

pub second_digest : (text : List ℕ) (most : ℕ) (hash : Hash) (bytes : List ℕ) → (second_format text most).digest hash (NamedTy 0) bytes ≡ hash (hash (5 ∷ hash text ++ 0 ∷ 0 ∷ []) ++ bytes)
second_digest text most hash bytes = refl

pub two_declarations : types_text (codes "tree" ∷ codes "found" ∷ []) ((codes "Leaf" ∷ codes "Node" ∷ []) ∷ (codes "Missing" ∷ codes "Found" ∷ []) ∷ [])
    (([] ∷ (IntTy ∷ IntTy ∷ AuthTy (NamedTy 0) ∷ AuthTy (NamedTy 0) ∷ []) ∷ []) ∷ ([] ∷ (IntTy ∷ []) ∷ []) ∷ [])
    ≡ codes "type tree = Leaf | Node(int, int, auth tree, auth tree);\ntype found = Missing | Found(int);\n"
two_declarations = refl

pub types_in_types : type_text [] (PairTy (AuthTy (PairTy UnitTy BoolTy)) (AuthTy (AuthTy TextTy))) ≡ codes "(auth(unit, bool), auth auth text)"
types_in_types = refl

pub arrays_in_types : type_text [] (PairTy (AuthTy (VecTy 2 (VecTy 64 IntTy))) (VecTy 10 (PairTy UnitTy BoolTy))) ≡ codes "(auth vec[2] vec[64] int, vec[10] (unit, bool))"
arrays_in_types = refl
