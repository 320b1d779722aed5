-- In the first format no type of a program is one of arrays, or has one within.
use Rattle.std.proofs.Common.{◌≡◌, ℕ, zero, suc, true, List, [], ◌∷◌, ◌++◌, map, slice_index_or, subst}
use Rattle.std.specs.List.{list_all}
use Rattle.core_terms.specs.Types.{Ty, UnitTy, PairTy, AuthTy, VecTy}
use Rattle.core_terms.specs.TypeTables.{is_form_in, type_at, type_of_form, types_behind}
use Rattle.core_terms.specs.ProgramTrees.{table_of, types_at}
use Rattle.core_terms.specs.ProgramTypes.{named_table, types_by_number}
use Rattle.core_terms.specs.declared.format.Format.{Format}
use Rattle.core_terms.specs.declared.format.Format.TheVariants.{First}
use Rattle.core_terms.specs.declared.program_types.Types.{Types}
use Rattle.core_terms.specs.declared.term.Constructor.{Constructor}
use Rattle.core_terms.specs.declared.term.NamedType.{NamedType}
use Rattle.core_terms.specs.declared.types.TyId.{TyId}
use Rattle.core_terms.specs.declared.types.TyForm.{TyForm}
use Rattle.core_terms.specs.declared.types.TyForm.TheVariants.{UnitForm, BoolForm, IntForm, TextForm, AuthForm, PairForm, NamedForm, VecForm}
use Rattle.core_terms.proofs.SameTypes.{first_of, second_of}

-- it holds of each of these
abbrev pub Each : {X : Type 0} → (X → Type 0) → List X → Type 0
Each P [] = Unit {0}
Each P (x ∷ xs) = P x × Each P xs

-- no array stands in the type; what a named type has isn't looked at
abbrev pub HasNoArray : Ty → Type 0
HasNoArray (VecTy n t) = ⊥
HasNoArray (PairTy a b) = HasNoArray a × HasNoArray b
HasNoArray (AuthTy t) = HasNoArray t
HasNoArray t = Unit {0}

none_at : (types : List Ty) → Each HasNoArray types → (i : ℕ) → HasNoArray (slice_index_or types i UnitTy)
none_at [] h i = tt
none_at (t ∷ ts) h zero = h.0
none_at (t ∷ ts) h (suc i) = none_at ts h.1 i

none_behind_one : (types : List Ty) (t : Ty) → Each HasNoArray types → HasNoArray t → Each HasNoArray (types ++ t ∷ [])
none_behind_one [] t h n = (n, tt)
none_behind_one (u ∷ us) t h n = (h.0, none_behind_one us t h.1 n)

none_in_form : (types : List Ty) (form : TyForm) → Each HasNoArray types → is_form_in First form ≡ true → HasNoArray (type_of_form types form)
none_in_form types UnitForm h is = tt
none_in_form types BoolForm h is = tt
none_in_form types IntForm h is = tt
none_in_form types TextForm h is = tt
none_in_form types (NamedForm named) h is = tt
none_in_form types (AuthForm part) h is = none_at types h part.0
none_in_form types (PairForm first second) h is = (none_at types h first.0, none_at types h second.0)
none_in_form types (VecForm n part) h is = absurd (cc)

none_in_forms : (types : List Ty) (forms : List TyForm) → Each HasNoArray types → list_all (is_form_in First) forms ≡ true → Each HasNoArray (types_behind types forms)
none_in_forms types [] h are = h
none_in_forms types (form ∷ forms) h are =
    none_in_forms (types ++ type_of_form types form ∷ []) forms (none_behind_one types (type_of_form types form) h (none_in_form types form h (first_of _ _ are)))
    (second_of (is_form_in First form) _ are)

module _ (types : List Ty) (none : Each HasNoArray types) where
  none_in_row : (ids : List TyId) → Each HasNoArray (types_at types ids)
  none_in_row [] = tt
  none_in_row (id ∷ ids) = (none_at types none id.0, none_in_row ids)

  none_in_constructors : (cs : List Constructor) → Each (Each HasNoArray) (map (λ (c : Constructor). types_at types c.fields.items) cs)
  none_in_constructors [] = tt
  none_in_constructors (c ∷ cs) = (none_in_row c.fields.items, none_in_constructors cs)

  none_in_named : (named : List NamedType) → Each (Each (Each HasNoArray)) (table_of types named)
  none_in_named [] = tt
  none_in_named (d ∷ ds) = (none_in_constructors d.constructors.items, none_in_named ds)

module _ (t : Types) (first : t.table.format ≡ First) where
  none_by_number : Each HasNoArray (types_by_number t)
  none_by_number = none_in_forms [] t.table.forms.keys tt (subst (λ (format : Format). list_all (is_form_in format) t.table.forms.keys ≡ true) first t.table.of_format)

  -- neither its state nor a field of its named types has one
  pub none_in_state : HasNoArray (type_at (types_by_number t) t.state)
  none_in_state = none_at (types_by_number t) none_by_number t.state.0

  pub none_in_table : Each (Each (Each HasNoArray)) (named_table t)
  none_in_table = none_in_named (types_by_number t) none_by_number t.named.items
