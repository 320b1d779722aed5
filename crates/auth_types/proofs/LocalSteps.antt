-- Lemmas of literals and of locals: the innermost one of a name, and its type.
use Rattle.std.proofs.Common.{◌≡◌, ℕ, ℤ, zero, suc, ◌<◌, List, [], ◌∷◌, ◌++◌, length, map, Some, None, slice_index_or, refl, sym, ap, ◌∙◌, arith}
use Rattle.core_terms.specs.Types.{Ty, UnitTy, IntTy}
use Rattle.core_terms.specs.Terms.{Expression, IntE}
use Rattle.core_terms.specs.ProgramTrees.{expression_of}
use Rattle.core_terms.specs.declared.term.Term.{Term}
use Rattle.core_terms.specs.TypeTables.{type_at}
use Rattle.core_terms.specs.declared.term.LocalId.{LocalId}
use Rattle.core_terms.specs.declared.term.Term as term
use Rattle.lexemes.specs.declared.place.Place.{Place}
use Rattle.auth_syntax.specs.Syntax.{LocalSyntax}
use Rattle.declared_types.specs.Checking.{Checking, FaultAt}
use Rattle.auth_types.specs.Bodies.{Local, Typed, last_named, local_at, typed}
use Rattle.auth_types.specs.Elaborators.{ShowsTerm, found_at, locals_of, types_of}
use Rattle.auth_types.specs.Locals.{locals_meant}
use Rattle.declared_types.specs.declared.fault.TypeKind.TheVariants.{UnknownName}
use Rattle.auth_types.specs.declared.bodies.elaborator.Elaborator.{Elaborator}
use Rattle.auth_types.specs.declared.bodies.elaborator.Local.{Local as CodeLocal}
use Rattle.declared_types.proofs.ScopeStays.{type_stays_at}
use Rattle.core_terms.proofs.TermViews.{expression-IntLiteral, expression-Local}

type_of_local : (types : List Ty) (locals : List CodeLocal) (i : ℕ) (l d : CodeLocal) → i < length locals → l ≡ slice_index_or locals i d
    → slice_index_or (map (λ (l : Local). l.of_type) (locals_meant types locals)) i UnitTy ≡ type_at types l.ty
type_of_local types [] i l d inside is = absurd (omega arith)
type_of_local types (m ∷ locals) zero l d inside is = ap (λ (l : CodeLocal). type_at types l.ty) (sym is)
type_of_local types (m ∷ locals) (suc i) l d inside is = type_of_local types locals i l d (omega arith) is

module _ (e : Elaborator) (at : Place) (name : List ℕ) where
  pub local_shows : (i : ℕ) (l d : CodeLocal) → i < length e.locals.items → l ≡ slice_index_or e.locals.items i d
      → last_named 0 (locals_meant (types_of e) e.locals.items) name ≡ Some i
      → l.ty.0 < length (types_of e) → ShowsTerm (types_of e) (found_at e (LocalSyntax at name)) (term.Local (record { 0 = i })) l.ty
  unfolding locals_of
  local_shows i l d inside is found within = λ more.
      let types = types_of e in
      let id : LocalId = record { 0 = i } in
      let form = expression-Local (types ++ more) id in
      let stays = type_stays_at types (types ++ more) (more, refl) l.ty within in
      let here = type_of_local types e.locals.items i l d inside is in
      ap (local_at at (locals_meant types e.locals.items)) found ∙ cc

  pub local_unknown : last_named 0 (locals_meant (types_of e) e.locals.items) name ≡ None → found_at e (LocalSyntax at name) ≡ FaultAt UnknownName at
  unfolding locals_of
  local_unknown found = ap (local_at at (locals_meant (types_of e) e.locals.items)) found

-- a literal
pub literal_shows : (types : List Ty) (found : Checking Typed) (literal : Term) (e : Expression) (t : Ty) → found ≡ typed e t
    → ((types : List Ty) → expression_of types literal ≡ e)
    → (more : List Ty) → found ≡ typed (expression_of (types ++ more) literal) t
literal_shows types found literal e t is means more = is ∙ ap (λ e. typed e t) (sym (means (types ++ more)))

-- an int, as the code reads it
pub int_shows : (types : List Ty) (found : Checking Typed) (z read : ℤ) → found ≡ typed (IntE z) IntTy → read ≡ z
    → (more : List Ty) → found ≡ typed (expression_of (types ++ more) (term.IntLiteral read)) IntTy
int_shows types found z read is same =
    literal_shows types found (term.IntLiteral read) (IntE z) IntTy is (λ types. expression-IntLiteral types read ∙ ap IntE same)
