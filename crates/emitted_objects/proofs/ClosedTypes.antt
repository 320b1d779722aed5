-- The types of a checked program without arrays: each named type in them is one of the program's.
use Rattle.std.proofs.Common.{◌≡◌, ℕ, false, ◌&&◌, List, [], ◌∷◌, map, if◌then◌else◌, sym, ap, subst}
use Rattle.std.specs.Prelude.{All}
use Rattle.std.proofs.lemmas.List.Elements.{All-head, All-tail}
use Rattle.core_terms.specs.ProgramFormats.{arrays_of}
use Rattle.core_terms.specs.declared.format.Format.{Format}
use Rattle.core_terms.specs.Types.{Ty, VecTy, is_length}
use Rattle.auth_syntax.specs.Syntax.{AuthTypeSyntax, BoolTypeSyntax, ConstructorDeclaration, DeclarationSyntax, FunctionDeclaration, IntTypeSyntax, NamedTypeSyntax, PairTypeSyntax, ParameterSyntax, StateDeclaration, TextTypeSyntax, TypeDeclaration, TypeSyntax, UnitTypeSyntax, VecTypeSyntax}
use Rattle.declared_types.specs.DeclaredPrograms.{first_state}
use Rattle.declared_types.specs.WrittenTypes.{array_meant, table_of, type_meant}
use Rattle.declared_types.proofs.SoundLimits.{rows_of}
use Rattle.auth_types.specs.CheckedLaws.{NamesTypesBelow}
use Rattle.object_meaning.specs.ClosedPrograms.{AreClosed, FieldsAreClosed, IsClosed, TableIsClosed}

module _ (n : ℕ) where
  abbrev AllBelow : List Ty → Type 0
  AllBelow ts = All (NamesTypesBelow n) ts

  module _ (format : Format) (no_arrays : arrays_of format ≡ false) (names : List (List ℕ)) where
    abbrev meant : TypeSyntax → Ty
    meant t = type_meant format names t

    -- an array that the program may not have stands for its elements, and no program has it
    no_array : (m : ℕ) (t : Ty) → array_meant format m t ≡ t
    no_array m t = ap (λ b. if b && is_length m then VecTy m t else t) no_arrays

    pub type_closed : (t : TypeSyntax) → NamesTypesBelow n (meant t) → IsClosed n (meant t)
    type_closed (UnitTypeSyntax at) h = tt
    type_closed (BoolTypeSyntax at) h = tt
    type_closed (IntTypeSyntax at) h = tt
    type_closed (TextTypeSyntax at) h = tt
    type_closed (NamedTypeSyntax at name) h = h
    type_closed (AuthTypeSyntax at inner) h = type_closed inner h
    type_closed (PairTypeSyntax at first second) h = (type_closed first h.0, type_closed second h.1)
    type_closed (VecTypeSyntax at m item) h =
        subst (IsClosed n) (sym (no_array m (meant item))) (type_closed item (subst (NamesTypesBelow n) (no_array m (meant item)) h))

    types_closed : (ts : List TypeSyntax) → AllBelow (map (type_meant format names) ts) → AreClosed n (map (type_meant format names) ts)
    types_closed [] h = tt
    types_closed (t ∷ ts) h =
        let others = map (type_meant format names) ts in
        (type_closed t (All-head (NamesTypesBelow n) (meant t) others h), types_closed ts (All-tail (NamesTypesBelow n) (meant t) others h))

    pub parameters_closed : (ps : List ParameterSyntax) → AllBelow (map (λ (p : ParameterSyntax). type_meant format names p.of_type) ps)
        → AreClosed n (map (λ (p : ParameterSyntax). type_meant format names p.of_type) ps)
    parameters_closed [] h = tt
    parameters_closed (p ∷ ps) h =
        let others = map (λ (p : ParameterSyntax). type_meant format names p.of_type) ps in
        (type_closed p.of_type (All-head (NamesTypesBelow n) (meant p.of_type) others h), parameters_closed ps (All-tail (NamesTypesBelow n) (meant p.of_type) others h))

    abbrev rows : List ConstructorDeclaration → List (List Ty)
    rows = rows_of format names

    rows_closed : (cs : List ConstructorDeclaration) → All AllBelow (rows cs) → FieldsAreClosed n (rows cs)
    rows_closed [] h = tt
    rows_closed (c ∷ cs) h =
        let fields = map (type_meant format names) c.fields in
        (types_closed c.fields (All-head AllBelow fields (rows cs) h), rows_closed cs (All-tail AllBelow fields (rows cs) h))

    pub table_closed : (ds : List DeclarationSyntax) → All (All AllBelow) (table_of format names ds) → TableIsClosed n (table_of format names ds)
    table_closed [] h = tt
    table_closed (TypeDeclaration at name cs ∷ ds) h =
        let others = table_of format names ds in
        (rows_closed cs (All-head (All AllBelow) (rows cs) others h), table_closed ds (All-tail (All AllBelow) (rows cs) others h))
    table_closed (StateDeclaration at t ∷ ds) h = table_closed ds h
    table_closed (FunctionDeclaration at f ∷ ds) h = table_closed ds h

    pub state_closed : (ts : List TypeSyntax) → NamesTypesBelow n (first_state format names ts) → IsClosed n (first_state format names ts)
    state_closed [] h = tt
    state_closed (t ∷ ts) h = type_closed t h
