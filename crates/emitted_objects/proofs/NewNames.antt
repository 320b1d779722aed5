-- The named types of a checked text, with the names of their constructors: each is a word, and none stood before.
use Rattle.std.proofs.Common.{◌≡◌, ℕ, zero, suc, ◌≤◌, Bool, true, false, ◌||◌, List, [], ◌∷◌, ◌++◌, length, map, bytes_eq, refl, sym, ap, ◌∙◌, subst, append_assoc, append-nil, arith}
use Rattle.std.specs.Prelude.{All, Contains}
use Rattle.std.proofs.lemmas.List.{length-map, map-append}
use Rattle.std.proofs.lemmas.List.Elements.{All-head, All-tail}
use Rattle.std.proofs.lemmas.Slice.Eq.{bytes_eq-Decides}
use Rattle.core_terms.specs.declared.format.Format.{Format}
use Rattle.core_terms.specs.ProgramLimits.{most_constructors, most_fields}
use Rattle.core_terms.specs.Types.{Ty}
use Rattle.auth_syntax.specs.Grammar.{AreDeclarations, IsSome}
use Rattle.auth_syntax.specs.Syntax.{ConstructorDeclaration, DeclarationSyntax, FunctionDeclaration, StateDeclaration, TypeDeclaration}
use Rattle.declared_types.specs.DeclaredPrograms.{constructors_in}
use Rattle.declared_types.specs.WrittenTypes.{table_of, type_meant}
use Rattle.declared_types.proofs.SoundLimits.{rows_of}
use Rattle.auth_types.specs.DeclarationRules.{MayConstruct, MayDeclare, constructor_names_in}
use Rattle.auth_types.specs.InOrder.{AndMore, EachMeets}
use Rattle.object_meaning.specs.EmittablePrograms.{AreNewNames, HaveFewFields, IsNamedTable, IsNamedType}
use Rattle.object_meaning.specs.ReadObjects.{is_among}
use Rattle.emitted_objects.proofs.ClosedBodies.{AreFilled}
use Rattle.emitted_objects.proofs.DeclaredWords.{DeclareWords, HaveUpperNames}

-- a name that passes the test is among the others
pub among_holds : (name : List ℕ) (names : List (List ℕ)) → is_among name names ≡ true → Contains names name
among_holds name [] among = absurd (cc)
among_holds name (other ∷ names) among = by (bytes_eq name other) (bytes_eq-Decides name other).0 (among_holds name names) among
  where
    by : (b : Bool) → (b ≡ true → name ≡ other) → (is_among name names ≡ true → Contains names name) → b || is_among name names ≡ true → Contains (other ∷ names) name
    by true same later among = (zero, omega arith, sym (same refl))
    by false same later among = let (k, inside, is) = later among in (suc k, omega (arith, inside), is)

pub not_among : (name : List ℕ) (names : List (List ℕ)) → (is_among name names ≡ true → ⊥) → is_among name names ≡ false
not_among name names never = by (is_among name names) never
  where
    by : (b : Bool) → (b ≡ true → ⊥) → b ≡ false
    by true never = absurd (never refl)
    by false never = refl

-- the first of things in a row, and the others
pub first_meets : {A : Type 0} {Meets : List A → A → Type 0} {before rest : List A} {x : A} → EachMeets Meets before (x ∷ rest) → Meets before x
first_meets (AndMore h others) = h

pub others_meet : {A : Type 0} {Meets : List A → A → Type 0} {before rest : List A} {x : A} → EachMeets Meets before (x ∷ rest) → EachMeets Meets (before ++ x ∷ []) rest
others_meet (AndMore h others) = others

abbrev name_of : ConstructorDeclaration → List ℕ
name_of c = c.name.name

-- the constructors of a type, behind some of its own
new_names : (before : List (List ℕ)) (done cs : List ConstructorDeclaration) → EachMeets (MayConstruct before) done cs → HaveUpperNames cs
    → AreNewNames (before ++ map name_of done) (map name_of cs)
new_names before done [] each words = tt
new_names before done (c ∷ cs) each words =
    let names = before ++ map name_of done in
    let more : before ++ map name_of (done ++ c ∷ []) ≡ names ++ name_of c ∷ [] =
    ap (λ l. before ++ l) (map-append name_of done (c ∷ [])) ∙ sym (append_assoc before (map name_of done) (name_of c ∷ [])) in (
      record { is_formed = words.0; is_new = not_among (name_of c) names (λ among. (first_meets each).is_new (among_holds (name_of c) names among)) },
      subst (λ l. AreNewNames l (map name_of cs)) more (new_names before (done ++ c ∷ []) cs (others_meet each) words.1),
    )

-- the limits of a row of the table
abbrev FewConstructors : List (List Ty) → Type 0
FewConstructors rows = length rows ≤ most_constructors

abbrev FewFields : List Ty → Type 0
FewFields ts = length ts ≤ most_fields

few_fields : (rows : List (List Ty)) → All FewFields rows → HaveFewFields rows
few_fields [] h = tt
few_fields (ts ∷ rows) h = (All-head FewFields ts rows h, few_fields rows (All-tail FewFields ts rows h))

-- of some there is one at least
pub some_long : {A B : Type 0} (f : A → B) (xs : List A) → IsSome xs → 1 ≤ length (map f xs)
some_long f [] some = absurd some
some_long f (x ∷ xs) some = omega arith

-- the names of one more declaration stand behind those of the others
with_more : (done : List DeclarationSyntax) (d : DeclarationSyntax) → constructor_names_in (done ++ d ∷ []) ≡ constructor_names_in done ++ constructor_names_in (d ∷ [])
with_more [] d = refl
with_more (TypeDeclaration at name cs ∷ done) d =
    ap (λ l. map name_of cs ++ l) (with_more done d) ∙ sym (append_assoc (map name_of cs) (constructor_names_in done) (constructor_names_in (d ∷ [])))
with_more (StateDeclaration at t ∷ done) d = with_more done d
with_more (FunctionDeclaration at f ∷ done) d = with_more done d

module _ (format : Format) (names : List (List ℕ)) where
  abbrev rows : List ConstructorDeclaration → List (List Ty)
  rows = rows_of format names

  -- each named type of a text has a constructor
  pub table_filled : (limit : ℕ) (ds : List DeclarationSyntax) → AreDeclarations limit ds → AreFilled (table_of format names ds)
  table_filled limit [] h = tt
  table_filled limit (TypeDeclaration at name cs ∷ ds) h =
      (some_long (λ (c : ConstructorDeclaration). map (type_meant format names) c.fields) cs h.0.0, table_filled limit ds h.1)
  table_filled limit (StateDeclaration at t ∷ ds) h = table_filled limit ds h.1
  table_filled limit (FunctionDeclaration at f ∷ ds) h = table_filled limit ds h.1

  table_named : (done ds : List DeclarationSyntax) → EachMeets MayDeclare done ds → DeclareWords ds → AreFilled (table_of format names ds)
      → All FewConstructors (table_of format names ds) → All (All FewFields) (table_of format names ds)
      → IsNamedTable (constructor_names_in done) (table_of format names ds) (constructors_in ds)
  table_named done [] each words filled few fields = tt
  table_named done (TypeDeclaration at name cs ∷ ds) each words filled few fields =
      let d = TypeDeclaration at name cs in
      let before = constructor_names_in done in
      let others = table_of format names ds in
      let more : constructor_names_in (done ++ d ∷ []) ≡ before ++ map name_of cs = with_more done d ∙ ap (λ l. before ++ l) (append-nil (map name_of cs)) in
      let one : IsNamedType before (rows cs) (map name_of cs) = record {
        some = filled.0;
        few = All-head FewConstructors (rows cs) others few;
        fields = few_fields (rows cs) (All-head (All FewFields) (rows cs) others fields);
        each = length-map cs name_of ∙ sym (length-map cs (λ (c : ConstructorDeclaration). map (type_meant format names) c.fields));
        new = subst (λ l. AreNewNames l (map name_of cs)) (append-nil before) (new_names before [] cs (first_meets each).1 words.0);
      } in (
        one,
        subst (λ l. IsNamedTable l others (constructors_in ds)) more
            (table_named (done ++ d ∷ []) ds (others_meet each) words.1 filled.1 (All-tail FewConstructors (rows cs) others few)
            (All-tail (All FewFields) (rows cs) others fields)),
      )
  table_named done (StateDeclaration at t ∷ ds) each words filled few fields =
      subst (λ l. IsNamedTable l (table_of format names ds) (constructors_in ds)) (with_more done (StateDeclaration at t) ∙ append-nil (constructor_names_in done))
      (table_named (done ++ StateDeclaration at t ∷ []) ds (others_meet each) words.1 filled few fields)
  table_named done (FunctionDeclaration at f ∷ ds) each words filled few fields =
      subst (λ l. IsNamedTable l (table_of format names ds) (constructors_in ds)) (with_more done (FunctionDeclaration at f) ∙ append-nil (constructor_names_in done))
      (table_named (done ++ FunctionDeclaration at f ∷ []) ds (others_meet each) words.1 filled few fields)

  pub text_named : (ds : List DeclarationSyntax) → EachMeets MayDeclare [] ds → DeclareWords ds → AreFilled (table_of format names ds)
      → All FewConstructors (table_of format names ds) → All (All FewFields) (table_of format names ds)
      → IsNamedTable [] (table_of format names ds) (constructors_in ds)
  text_named ds = table_named [] ds
