-- The types of a whole program: a part of the walk that is too long makes the whole too long.
use Rattle.std.proofs.Common.{◌≡◌, ◌≤◌, List, length, ap, ◌∙◌, subst, arith}
use Rattle.core_terms.specs.Types.{Ty, Table}
use Rattle.core_terms.specs.Terms as tree
use Rattle.object_meaning.specs.WrittenObjects.{codes_in, named_from, types_written, with_all_fields, with_type}
use Rattle.object_writer.specs.Numberings.{AreTooMany}
use Rattle.object_writer.specs.declared.fault.WriteFault.{WriteFault}
use Rattle.object_writer.proofs.ListedParts.{too_many_more, type_grows, functions_grow}

module _ (P : tree.Program) (listing : List Ty) (fault : WriteFault) where
  -- the types of fields
  pub fields_too_many : (table : Table) → listing ≡ named_from 0 P.types → table ≡ P.types → AreTooMany (with_all_fields listing table) fault → AreTooMany (types_written P) fault
  fields_too_many table first all many =
      let fields = with_all_fields (named_from 0 P.types) P.types in
      let same : with_all_fields listing table ≡ fields = ap (λ l. with_all_fields l table) first ∙ ap (with_all_fields (named_from 0 P.types)) all in
      let grows : length fields ≤ length (types_written P) = omega (arith, type_grows fields P.state, functions_grow (with_type fields P.state) (codes_in P)) in
      too_many_more fields (types_written P) fault grows (subst (λ l. AreTooMany l fault) same many)

  -- with that of the state
  pub state_too_many : (t : Ty) → listing ≡ with_all_fields (named_from 0 P.types) P.types → t ≡ P.state → AreTooMany (with_type listing t) fault → AreTooMany (types_written P) fault
  state_too_many t fields is many =
      let state = with_type (with_all_fields (named_from 0 P.types) P.types) P.state in
      let same : with_type listing t ≡ state = ap (λ l. with_type l t) fields ∙ ap (with_type (with_all_fields (named_from 0 P.types) P.types)) is in
      too_many_more state (types_written P) fault (functions_grow state (codes_in P)) (subst (λ l. AreTooMany l fault) same many)
