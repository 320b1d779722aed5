-- What a verifier knows of the piece that it read last.
use Rattle.std.specs.Prelude.{◌≡◌, ℕ, List, [], Option, Some, None}
use Rattle.core_terms.specs.ProgramTypes.{named_table, types_by_number, types_meaning}
use Rattle.core_terms.specs.Projection.{read_at}
use Rattle.core_terms.specs.Reading.{Good}
use Rattle.core_terms.specs.TypeTables.{type_at}
use Rattle.core_terms.specs.Values.{Value}
use Rattle.core_terms.specs.declared.types.TyId.{TyId}
use Rattle.core_terms.specs.declared.program_types.Types.{Types}
use Rattle.value_store.specs.Nodes.{Node}
use Rattle.value_store.specs.Standing.{Keeps, StandsFor, VerifierNodes}
use Rattle.value_store.specs.declared.node.Ref.{Ref}
use Rattle.verifier_mode.specs.declared.last_read.LastRead.{LastRead}

-- the node stands for the value that the piece spells at the type, read as a whole
pub record IsRead (types : Types) (nodes : List Node) (ty : TyId) (piece : List ℕ) (r : Ref) : Type 0 where
  pub value : Value
  pub end : ℕ
  pub reads : read_at (types_meaning types) (type_at (types_by_number types) ty) piece ≡ Good value [] end
  pub stands : StandsFor VerifierNodes (named_table types) nodes r.0 (type_at (types_by_number types) ty) value

-- the node of the piece that was read last, if one was, stands for its value
abbrev pub KnowsLast : Types → List Node → Option LastRead → Type 0
KnowsLast types nodes None = Unit {0}
KnowsLast types nodes (Some last) = IsRead types nodes last.ty last.piece.items last.value

-- Putting nodes changes nothing of that.
abbrev pub read_on : (types : Types) (old new : List Node) → Keeps old new → (ty : TyId) (piece : List ℕ) (r : Ref) → IsRead types old ty piece r → IsRead types new ty piece r
read_on types old new keeps ty piece r h = record {
  value = h.value;
  end = h.end;
  reads = h.reads;
  stands = keeps VerifierNodes (named_table types) r.0 (type_at (types_by_number types) ty) h.value h.stands;
}

abbrev pub knows_last_on : (types : Types) (last : Option LastRead) (old new : List Node) → Keeps old new → KnowsLast types old last → KnowsLast types new last
knows_last_on types None old new keeps h = h
knows_last_on types (Some last) old new keeps h = read_on types old new keeps last.ty last.piece.items last.value h
