-- The parts of a text that are numbered one after another, over types to which more are added.
use Rattle.std.proofs.Common.{◌≡◌, ℕ, ◌+◌, ◌<◌, List, [], ◌∷◌, ◌++◌, length, map, take, slice_get, slice_index_or, Some, refl, sym, ap, ◌∙◌, subst}
use Rattle.std.specs.List.{AllZip}
use Rattle.std.proofs.lemmas.List.{append-nil, map-append, take_more}
use Rattle.core_terms.specs.Types.{Ty}
use Rattle.core_terms.specs.declared.format.Format.{Format}
use Rattle.core_terms.specs.declared.types.TyId.{TyId}
use Rattle.core_terms.specs.declared.term.Constructor.{Constructor}
use Rattle.core_terms.specs.declared.term.NamedType.{NamedType}
use Rattle.core_terms.proofs.DecidedTypes.{zip_push}
use Rattle.auth_syntax.specs.Syntax.{ConstructorDeclaration, DeclarationSyntax, FunctionDeclaration, FunctionSyntax, StateDeclaration, TypeDeclaration}
use Rattle.auth_syntax.specs.Trees.{constructor_of, constructors_of, declaration_of, function_of, name_of}
use Rattle.lexemes.specs.declared.place.Place.{Place}
use Rattle.auth_syntax.specs.declared.tree.ConstructorDeclaration.{ConstructorDeclaration as ConstructorTree}
use Rattle.auth_syntax.specs.declared.tree.Declaration.{Declaration}
use Rattle.auth_syntax.specs.declared.tree.Declaration.TheVariants.{«Type» as TypeVariant, State, Function as FunctionVariant}
use Rattle.auth_syntax.specs.declared.tree.Function.{Function}
use Rattle.auth_syntax.specs.declared.tree.TypeDeclaration.{TypeDeclaration as TypeDeclarationTree}
use Rattle.declared_types.specs.Numbering.{AreConstructorsOf, AreNamedOf, IsConstructorOf, IsHeadOf, IsNamedOf, NamedSyntax, named_in}
use Rattle.declared_types.specs.OverTypes.{AreNumbers, Grows, functions_written}
use Rattle.declared_types.specs.WrittenTypes.{functions_in, type_meant}
use Rattle.declared_types.specs.declared.scope.Head.{Head}
use Rattle.declared_types.proofs.TypeNumbers.{number_stays, numbers_grow, numbers_push}

zip_more : {A B : Type 0} (R S : A → B → Type 0) → ((x : A) (y : B) → R x y → S x y) → (xs : List A) (ys : List B) → AllZip R xs ys → AllZip S xs ys
zip_more R S more [] [] all = tt
zip_more R S more [] (y ∷ ys) all = absurd all
zip_more R S more (x ∷ xs) [] all = absurd all
zip_more R S more (x ∷ xs) (y ∷ ys) all = (more x y all.0, zip_more R S more xs ys all.1)

-- the first elements, and one more
taken : {A B : Type 0} (f : A → B) (xs : List A) (i : ℕ) (x : A) → i < length xs → x ≡ slice_index_or xs i x
    → map f (take (i + 1) xs) ≡ map f (take i xs) ++ f x ∷ []
taken f xs i x inside is = ap (map f) (take_more xs i x inside ∙ ap (λ e. take i xs ++ e ∷ []) (sym is)) ∙ map-append f (take i xs) (x ∷ [])

-- numbers of what the first elements stand for
pub numbers_taken : {A B : Type 0} (a b : List Ty) (f : B → Ty) (g : A → B) (xs : List A) (i : ℕ) (ids : List TyId) (id : TyId) (x : A) → Grows a b
    → i < length xs → x ≡ slice_index_or xs i x
    → AreNumbers a ids (map f (map g (take i xs))) → slice_get b id.0 ≡ Some (f (g x))
    → AreNumbers b (ids ++ id ∷ []) (map f (map g (take (i + 1) xs)))
numbers_taken a b f g xs i ids id x grows inside is h found =
    subst (AreNumbers b (ids ++ id ∷ [])) (sym (ap (map f) (taken g xs i x inside is) ∙ map-append f (map g (take i xs)) (g x ∷ [])))
    (numbers_push b ids (map f (map g (take i xs))) id (f (g x)) (numbers_grow a b ids (map f (map g (take i xs))) grows h) found)

module _ (format : Format) (names : List (List ℕ)) (a b : List Ty) (grows : Grows a b) where
  constructor_grows : (d : ConstructorDeclaration) (c : Constructor) → IsConstructorOf format names a d c → IsConstructorOf format names b d c
  constructor_grows d c is = record { name = is.name; fields = numbers_grow a b c.fields.items (map (type_meant format names) d.fields) grows is.fields }

  pub constructors_grow : (ds : List ConstructorDeclaration) (cs : List Constructor) → AreConstructorsOf format names a ds cs
      → AreConstructorsOf format names b ds cs
  constructors_grow ds cs are = zip_more (IsConstructorOf format names a) (IsConstructorOf format names b) constructor_grows ds cs are

  named_grows : (d : NamedSyntax) (t : NamedType) → IsNamedOf format names a d t → IsNamedOf format names b d t
  named_grows d t is = record { name = is.name; constructors = constructors_grow d.constructors t.constructors.items is.constructors }

  pub all_named_grow : (ds : List DeclarationSyntax) (named : List NamedType) → AreNamedOf format names a ds named → AreNamedOf format names b ds named
  all_named_grow ds named are = zip_more (IsNamedOf format names a) (IsNamedOf format names b) named_grows (named_in ds) named are

  number_grows : (id : TyId) (t : Ty) → slice_get a id.0 ≡ Some t → slice_get b id.0 ≡ Some t
  number_grows id t is = subst (λ types. slice_get types id.0 ≡ Some t) (sym grows.1) (number_stays a grows.0 id.0 t is)

  head_grows : (f : FunctionSyntax) (head : Head) → IsHeadOf format names a f head → IsHeadOf format names b f head
  head_grows f head is = record {
    function = is.function;
    parameters = numbers_grow a b head.parameters.items (map (λ p. type_meant format names p.of_type) f.parameters) grows is.parameters;
    result = number_grows head.result (type_meant format names f.result_type) is.result;
  }

  pub heads_grow : (fs : List FunctionSyntax) (heads : List Head) → AllZip (IsHeadOf format names a) fs heads → AllZip (IsHeadOf format names b) fs heads
  heads_grow fs heads are = zip_more (IsHeadOf format names a) (IsHeadOf format names b) head_grows fs heads are

  -- the constructors of the first declarations, and of one more
  pub constructor_taken : (ds : List ConstructorTree) (i : ℕ) (cs : List Constructor) (c : Constructor) (d : ConstructorTree) → i < length ds
      → d ≡ slice_index_or ds i d
      → AreConstructorsOf format names a (map constructor_of (take i ds)) cs → IsConstructorOf format names b (constructor_of d) c
      → AreConstructorsOf format names b (map constructor_of (take (i + 1) ds)) (cs ++ c ∷ [])
  constructor_taken ds i cs c d inside is so_far one =
      subst (λ l. AreConstructorsOf format names b l (cs ++ c ∷ [])) (sym (taken constructor_of ds i d inside is))
      (zip_push (IsConstructorOf format names b) (map constructor_of (take i ds)) cs (constructor_of d) c
      (constructors_grow (map constructor_of (take i ds)) cs so_far) one)

-- the named types and the functions of declarations behind others
named_behind : (ds es : List DeclarationSyntax) → named_in (ds ++ es) ≡ named_in ds ++ named_in es
named_behind [] es = refl
named_behind (TypeDeclaration at name cs ∷ ds) es = ap (λ l. record { name = name; constructors = cs } ∷ l) (named_behind ds es)
named_behind (StateDeclaration at t ∷ ds) es = named_behind ds es
named_behind (FunctionDeclaration at f ∷ ds) es = named_behind ds es

functions_behind : (ds es : List DeclarationSyntax) → functions_in (ds ++ es) ≡ functions_in ds ++ functions_in es
functions_behind [] es = refl
functions_behind (TypeDeclaration at name cs ∷ ds) es = functions_behind ds es
functions_behind (StateDeclaration at t ∷ ds) es = functions_behind ds es
functions_behind (FunctionDeclaration at f ∷ ds) es = ap (λ l. f ∷ l) (functions_behind ds es)

module _ (ds : List Declaration) (i : ℕ) (d : Declaration) (inside : i < length ds) (is : d ≡ slice_index_or ds i d) where
  named_next : named_in (map declaration_of (take (i + 1) ds)) ≡ named_in (map declaration_of (take i ds)) ++ named_in (declaration_of d ∷ [])
  named_next = ap named_in (taken declaration_of ds i d inside is) ∙ named_behind (map declaration_of (take i ds)) (declaration_of d ∷ [])

  functions_next : functions_written (take (i + 1) ds) ≡ functions_written (take i ds) ++ functions_in (declaration_of d ∷ [])
  functions_next = ap functions_in (taken declaration_of ds i d inside is) ∙ functions_behind (map declaration_of (take i ds)) (declaration_of d ∷ [])

  -- a named type more
  pub named_taken : (format : Format) (names : List (List ℕ)) (a b : List Ty) (named : List NamedType) (t : NamedType) (at : Place) (tree : TypeDeclarationTree)
      → Grows a b → d ≡ TypeVariant at tree
      → AreNamedOf format names a (map declaration_of (take i ds)) named → IsNamedOf format names b
      (record { name = name_of tree.name; constructors = constructors_of tree.constructors }) t
      → AreNamedOf format names b (map declaration_of (take (i + 1) ds)) (named ++ t ∷ [])
  named_taken format names a b named t at tree grows type so_far one =
      let whole = named_next ∙ ap (λ (d : Declaration). named_in (map declaration_of (take i ds)) ++ named_in (declaration_of d ∷ [])) type in
      subst (λ l. AllZip (IsNamedOf format names b) l (named ++ t ∷ [])) (sym whole)
      (zip_push (IsNamedOf format names b) (named_in (map declaration_of (take i ds))) named
      (record { name = name_of tree.name; constructors = constructors_of tree.constructors }) t
      (all_named_grow format names a b grows (map declaration_of (take i ds)) named so_far) one)

  -- a declaration of another kind
  pub named_passed : (format : Format) (names : List (List ℕ)) (a : List Ty) (named : List NamedType)
      → ((at : Place) (tree : TypeDeclarationTree) → d ≡ TypeVariant at tree → ⊥)
      → AreNamedOf format names a (map declaration_of (take i ds)) named → AreNamedOf format names a (map declaration_of (take (i + 1) ds)) named
  named_passed format names a named other so_far = subst (λ l. AllZip (IsNamedOf format names a) l named) (sym (named_next ∙ by d other)) so_far
    where
      by : (d : Declaration) → ((at : Place) (tree : TypeDeclarationTree) → d ≡ TypeVariant at tree → ⊥)
          → named_in (map declaration_of (take i ds)) ++ named_in (declaration_of d ∷ []) ≡ named_in (map declaration_of (take i ds))
      by (TypeVariant at tree) other = absurd (other at tree refl)
      by (State at t) other = append-nil (named_in (map declaration_of (take i ds)))
      by (FunctionVariant at f) other = append-nil (named_in (map declaration_of (take i ds)))

  -- a function more
  pub head_taken : (format : Format) (names : List (List ℕ)) (a b : List Ty) (heads : List Head) (head : Head) (at : Place) (f : Function) → Grows a b
      → d ≡ FunctionVariant at f
      → AllZip (IsHeadOf format names a) (functions_written (take i ds)) heads → IsHeadOf format names b (function_of f) head
      → AllZip (IsHeadOf format names b) (functions_written (take (i + 1) ds)) (heads ++ head ∷ [])
  head_taken format names a b heads head at f grows function so_far one =
      let whole = functions_next ∙ ap (λ (d : Declaration). functions_written (take i ds) ++ functions_in (declaration_of d ∷ [])) function in
      subst (λ l. AllZip (IsHeadOf format names b) l (heads ++ head ∷ [])) (sym whole)
      (zip_push (IsHeadOf format names b) (functions_written (take i ds)) heads (function_of f) head
      (heads_grow format names a b grows (functions_written (take i ds)) heads so_far) one)

  pub heads_passed : (format : Format) (names : List (List ℕ)) (a : List Ty) (heads : List Head) → ((at : Place) (f : Function) → d ≡ FunctionVariant at f → ⊥)
      → AllZip (IsHeadOf format names a) (functions_written (take i ds)) heads → AllZip (IsHeadOf format names a) (functions_written (take (i + 1) ds)) heads
  heads_passed format names a heads other so_far = subst (λ l. AllZip (IsHeadOf format names a) l heads) (sym (functions_next ∙ by d other)) so_far
    where
      by : (d : Declaration) → ((at : Place) (f : Function) → d ≡ FunctionVariant at f → ⊥)
          → functions_written (take i ds) ++ functions_in (declaration_of d ∷ []) ≡ functions_written (take i ds)
      by (TypeVariant at tree) other = append-nil (functions_written (take i ds))
      by (State at t) other = append-nil (functions_written (take i ds))
      by (FunctionVariant at f) other = absurd (other at f refl)
