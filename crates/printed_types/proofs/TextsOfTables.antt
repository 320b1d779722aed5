-- The text that is made from a table of types is that of the written types whose table it is.
use Rattle.std.proofs.Common.{◌≡◌, ℕ, List, [], ◌∷◌, ◌++◌, map, if◌then◌else◌, codes, refl, sym, ap, ap₂, ◌∙◌, append_assoc}
use Rattle.core_terms.specs.Types.{Ty}
use Rattle.core_terms.specs.TypeDeclarations.{is_pair, length_text, type_text, row_text, fields_text, constructors_text, declaration_text}
use Rattle.core_terms.specs.declared.format.Format.{Format}
use Rattle.auth_syntax.specs.Syntax.{TypeSyntax, NamedTypeSyntax, AuthTypeSyntax, PairTypeSyntax, VecTypeSyntax, ConstructorDeclaration}
use Rattle.declared_types.specs.Checking.{Sound}
use Rattle.declared_types.specs.WrittenTypes.{type_meant, known_type, known_types, known_constructors}
use Rattle.printed_types.proofs.WrittenTexts.{blank_before_type, type_before, more_before, fields_before, constructor_before, others_before, constructors_before, declaration_before}
use Rattle.printed_types.proofs.KnownTypes.{name_numbered, array_is, parts_known, vec_known, row_known, constructors_known}

module _ (format : Format) (names : List (List ℕ)) where
  abbrev meant : TypeSyntax → Ty
  meant t = type_meant format names t

  blank_is : (t : TypeSyntax) → known_type format names t ≡ Sound tt → (if is_pair (meant t) then [] else codes " ") ≡ blank_before_type t
  blank_is (PairTypeSyntax at first second) h = refl
  blank_is (VecTypeSyntax at n item) h =
      ap (λ (t : Ty). if is_pair t then [] else codes " ") (array_is format n (meant item) (vec_known format names at n item h).0)
  blank_is t h = refl

  type_is : (t : TypeSyntax) (rest : List ℕ) → known_type format names t ≡ Sound tt → type_text names (meant t) ++ rest ≡ type_before t rest
  type_is (NamedTypeSyntax at name) rest h = ap (λ (text : List ℕ). text ++ rest) (name_numbered format names at name h)
  type_is (AuthTypeSyntax at inner) rest h =
      ap (λ (text : List ℕ). codes "auth" ++ text)
      (append_assoc (if is_pair (meant inner) then [] else codes " ") (type_text names (meant inner)) rest
      ∙ ap₂ (λ (blank text : List ℕ). blank ++ text) (blank_is inner h) (type_is inner rest h))
  type_is (PairTypeSyntax at first second) rest h =
      let parts = parts_known format names first second h in
      let a = type_text names (meant first) in
      let b = type_text names (meant second) in
      let behind : (codes ", " ++ (b ++ codes ")")) ++ rest ≡ codes ", " ++ type_before second (codes ")" ++ rest) =
      ap (λ (text : List ℕ). codes ", " ++ text) (append_assoc b (codes ")") rest ∙ type_is second (codes ")" ++ rest) parts.1) in
      ap (λ (text : List ℕ). codes "(" ++ text)
      (append_assoc a (codes ", " ++ (b ++ codes ")")) rest
      ∙ ap (λ (text : List ℕ). a ++ text) behind
      ∙ type_is first (codes ", " ++ type_before second (codes ")" ++ rest)) parts.0)
  type_is (VecTypeSyntax at n item) rest h =
      let parts = vec_known format names at n item h in
      ap (λ (t : Ty). type_text names t ++ rest) (array_is format n (meant item) parts.0)
      ∙ ap (λ (text : List ℕ). codes "vec[" ++ text)
      (append_assoc (length_text n) (codes "] " ++ type_text names (meant item)) rest
      ∙ ap (λ (text : List ℕ). length_text n ++ (codes "] " ++ text)) (type_is item rest parts.1))
  type_is t rest h = refl

  -- types behind a first one, and the fields of a constructor
  more_is : (ts : List TypeSyntax) (rest : List ℕ) → known_types format names ts ≡ Sound tt
      → row_text names (codes ", ") (map meant ts) ++ rest ≡ more_before ts rest
  more_is [] rest h = refl
  more_is (t ∷ ts) rest h =
      let parts = row_known format names t ts h in
      let others = row_text names (codes ", ") (map meant ts) in
      ap (λ (text : List ℕ). codes ", " ++ text)
      (append_assoc (type_text names (meant t)) others rest
      ∙ type_is t (others ++ rest) parts.0
      ∙ ap (type_before t) (more_is ts rest parts.1))

  fields_are : (ts : List TypeSyntax) (rest : List ℕ) → known_types format names ts ≡ Sound tt
      → fields_text names (map meant ts) ++ rest ≡ fields_before ts rest
  fields_are [] rest h = refl
  fields_are (t ∷ ts) rest h =
      let parts = row_known format names t ts h in
      let first = type_text names (meant t) in
      let others = row_text names (codes ", ") (map meant ts) in
      ap (λ (text : List ℕ). codes "(" ++ text)
      (append_assoc (first ++ others) (codes ")") rest
      ∙ append_assoc first others (codes ")" ++ rest)
      ∙ type_is t (others ++ (codes ")" ++ rest)) parts.0
      ∙ ap (type_before t) (more_is ts (codes ")" ++ rest) parts.1))

  -- a constructor behind a mark, with others behind it
  constructor_is : (mark : List ℕ) (c : ConstructorDeclaration) (others rest behind : List ℕ) → known_types format names c.fields ≡ Sound tt
      → others ++ rest ≡ behind
      → (mark ++ (c.name.name ++ (fields_text names (map meant c.fields) ++ others))) ++ rest ≡ mark ++ constructor_before c behind
  constructor_is mark c others rest behind h e =
      let name = c.name.name in
      let fields = fields_text names (map meant c.fields) in
      append_assoc mark (name ++ (fields ++ others)) rest
      ∙ ap (λ (text : List ℕ). mark ++ text)
      (append_assoc name (fields ++ others) rest
      ∙ ap (λ (text : List ℕ). name ++ text)
      (append_assoc fields others rest
      ∙ fields_are c.fields (others ++ rest) h
      ∙ ap (fields_before c.fields) e))

  abbrev written : List ℕ → List ConstructorDeclaration → List ℕ
  written mark cs =
      constructors_text names mark (map (λ (c : ConstructorDeclaration). c.name.name) cs) (map (λ (c : ConstructorDeclaration). map meant c.fields) cs)

  others_are : (cs : List ConstructorDeclaration) (rest : List ℕ) → known_constructors format names cs ≡ Sound tt
      → written (codes " | ") cs ++ rest ≡ others_before cs rest
  others_are [] rest h = refl
  others_are (c ∷ cs) rest h =
      let parts = constructors_known format names c cs h in
      constructor_is (codes " | ") c (written (codes " | ") cs) rest (others_before cs rest) parts.0 (others_are cs rest parts.1)

  constructors_are : (cs : List ConstructorDeclaration) (rest : List ℕ) → known_constructors format names cs ≡ Sound tt
      → written (codes " = ") cs ++ rest ≡ constructors_before cs rest
  constructors_are [] rest h = refl
  constructors_are (c ∷ cs) rest h =
      let parts = constructors_known format names c cs h in
      constructor_is (codes " = ") c (written (codes " | ") cs) rest (others_before cs rest) parts.0 (others_are cs rest parts.1)

  abbrev pub line_of : List ℕ → List ConstructorDeclaration → List ℕ
  line_of name cs =
      declaration_text names name (map (λ (c : ConstructorDeclaration). c.name.name) cs) (map (λ (c : ConstructorDeclaration). map meant c.fields) cs)

  -- a declaration before what stands behind it, and on its line
  pub declaration_is : (name : List ℕ) (cs : List ConstructorDeclaration) (rest : List ℕ) → known_constructors format names cs ≡ Sound tt
      → line_of name cs ++ rest ≡ declaration_before name cs (codes ";\n" ++ rest)
  declaration_is name cs rest h =
      let constructors = written (codes " = ") cs in
      ap (λ (text : List ℕ). codes "type " ++ text)
      (append_assoc name (constructors ++ codes ";\n") rest
      ∙ ap (λ (text : List ℕ). name ++ text)
      (append_assoc constructors (codes ";\n") rest ∙ constructors_are cs (codes ";\n" ++ rest) h))

  pub line_is : (name : List ℕ) (cs : List ConstructorDeclaration) → known_constructors format names cs ≡ Sound tt
      → line_of name cs ≡ declaration_before name cs (codes ";") ++ codes "\n"
  line_is name cs h =
      let constructors = written (codes " = ") cs in
      ap (λ (text : List ℕ). codes "type " ++ text)
      (ap (λ (text : List ℕ). name ++ text)
      (sym (append_assoc constructors (codes ";") (codes "\n")) ∙ ap (λ (text : List ℕ). text ++ codes "\n") (constructors_are cs (codes ";") h))
      ∙ sym (append_assoc name (constructors_before cs (codes ";")) (codes "\n")))
