-- The state in what an update gives: the first component of a pair, read back from its spelling.
use Rattle.std.proofs.Common.{◌≡◌, ℕ, List, [], Err, subst}
use Rattle.core_terms.specs.ProgramTypes.{types_meaning}
use Rattle.core_terms.specs.Projection.{read_at}
use Rattle.core_terms.specs.Reading.{BadAt}
use Rattle.core_terms.specs.Spelling.{Spells}
use Rattle.core_terms.specs.Types.{PairTy, Table, Ty}
use Rattle.core_terms.specs.Values.{PairV, Value}
use Rattle.core_terms.specs.declared.program_types.Types.{Types}
use Rattle.core_terms.specs.declared.types.TyId.{TyId}
use Rattle.core_terms.proofs.CodePrograms.{every_format}
use Rattle.core_terms.proofs.LawProofs.{one_is_spelled}
use Rattle.core_terms.proofs.Spelled.{spells_read}
use Rattle.shallow_codec.specs.ProgramTypes.{table, ty_of}
use Rattle.shallow_codec.specs.Unspelled.{IsUnspelled, StandsForSpelled}
use Rattle.shallow_codec.specs.declared.fault.UnspellFault.{UnspellFault}
use Rattle.shallow_codec.specs.declared.fault.UnspellFault.TheVariants.{Bad}
use Rattle.value_store.specs.Nodes.{Node}
use Rattle.value_store.specs.Standing.{Kind, StandsFor, VerifierNodes}
use Rattle.value_store.specs.declared.node.Ref.{Ref}

-- what spells a value is not refused
pub not_refused : (types : Types) (ty : TyId) (bytes : List ℕ) (v : Value) → Spells (types_meaning types).format.limit (table types) bytes (ty_of types ty) v
    → (nodes : List Node) (fault : UnspellFault) (offset : ℕ) → fault ≡ Bad offset
    → IsUnspelled (table types) nodes (ty_of types ty) (read_at (types_meaning types) (ty_of types ty) bytes) (Err fault) → ⊥
not_refused types ty bytes v spelled nodes fault offset is told =
    let good = (spells_read (table types) (types_meaning types).format.limit (every_format types []).limit_fits bytes (ty_of types ty) v spelled).1 in
    let bad : read_at (types_meaning types) (ty_of types ty) bytes ≡ BadAt offset =
    subst (λ fault. IsUnspelled (table types) nodes (ty_of types ty) (read_at (types_meaning types) (ty_of types ty) bytes) (Err fault)) is told in
    absurd (cc)

-- what was read of an update's value is a pair, and its first component is the state
module _ (types : Types) (ty : TyId) (answer : Ty) (is : ty_of types ty ≡ PairTy (types_meaning types).state answer) (nodes : List Node) (bytes : List ℕ) (pair : Ref)
    (read : StandsForSpelled (types_meaning types).format.limit (table types) nodes (ty_of types ty) bytes pair) where
  abbrev state : Ty
  state = (types_meaning types).state

  abbrev StandsAs : ℕ → Ty → Value → Type 0
  StandsAs r t v = StandsFor VerifierNodes (table types) nodes r t v

  stands_as_pair : StandsAs pair.0 (PairTy state answer) read.0
  stands_as_pair = subst (λ t. StandsAs pair.0 t read.0) is read.2

  pub pair_shown : (v : Value) × StandsAs pair.0 (PairTy state answer) v
  pair_shown = (read.0, stands_as_pair)

  module _ (first : Ref) (shows : (kind : Kind) (types : Table) (a b : Ty) (x y : Value) → StandsFor kind types nodes pair.0 (PairTy a b) (PairV x y) → StandsFor kind types nodes first.0 a x) where
    pub first_shown : (v : Value) × StandsAs first.0 state v
    first_shown = by read.0 stands_as_pair
      where
        by : (v : Value) → StandsAs pair.0 (PairTy state answer) v → (v : Value) × StandsAs first.0 state v
        by (PairV x y) h = (x, shows VerifierNodes (table types) state answer x y h)
        by v h = elim h [ ]

    pub first_stands : (x y : Value) → Spells (types_meaning types).format.limit (table types) bytes (ty_of types ty) (PairV x y) → StandsAs first.0 state x
    first_stands x y spelled =
        let same = one_is_spelled (types_meaning types).format.limit (every_format types []).limit_fits (table types) bytes (ty_of types ty) read.0 (PairV x y) read.1 spelled in
        shows VerifierNodes (table types) state answer x y (subst (StandsAs pair.0 (PairTy state answer)) same stands_as_pair)
