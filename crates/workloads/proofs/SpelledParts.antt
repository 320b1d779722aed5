-- What stands at a type of a program, by the types that its code lends.
use Rattle.std.proofs.Common.{◌≡◌, ℕ, List, sym, subst}
use Rattle.core_terms.specs.Formats.{Hash, IsHash}
use Rattle.core_terms.specs.Programs.{meaning, types_of}
use Rattle.core_terms.specs.ProgramTypes.{types_meaning}
use Rattle.core_terms.specs.Projection.{digest_at, projection}
use Rattle.core_terms.specs.Spelling.{spelling}
use Rattle.core_terms.specs.TypeTables.{type_at}
use Rattle.core_terms.specs.Types.{Ty}
use Rattle.core_terms.specs.Values.{Value}
use Rattle.core_terms.specs.declared.program.Program.{Program}
use Rattle.core_terms.specs.declared.program_types.Types.{Types}
use Rattle.core_terms.specs.declared.types.TyId.{TyId}
use Rattle.shallow_codec.specs.ProgramTypes.{table, ty_of}
use Rattle.value_store.specs.Nodes.{Node}
use Rattle.value_store.specs.Standing.{ProverNodes, StandsFor, VerifierNodes}
use Rattle.value_store.proofs.ProverNodes.{shown_shallow}

module _ (hash : Hash) (is_hash : IsHash hash) (p : Program) (lent : Types) (is : lent ≡ p.types) (nodes : List Node) (r : ℕ) (id : TyId) where
  pub stands_by : (v : Value) → StandsFor (ProverNodes (digest_at hash (meaning p))) (meaning p).types nodes r (type_at (types_of p) id) v
      → StandsFor (ProverNodes (digest_at hash (types_meaning lent))) (table lent) nodes r (ty_of lent id) v
  stands_by v h = subst (λ t. StandsFor (ProverNodes (digest_at hash (types_meaning t))) (table t) nodes r (ty_of t id) v) (sym is) h

  -- its projection stands over the verifier's nodes
  pub shown_by : (v : Value) → StandsFor (ProverNodes (digest_at hash (meaning p))) (meaning p).types nodes r (type_at (types_of p) id) v
      → (w : Value) × StandsFor VerifierNodes (table lent) nodes r (ty_of lent id) w
  shown_by v h = (_, shown_shallow (digest_at hash (types_meaning lent)) (table lent) (λ t bytes. is_hash _) nodes (ty_of lent id) v r (stands_by v h))

  -- and has this spelling
  pub spelling_by : (v : Value) (bytes : List ℕ) → bytes ≡ spelling (projection hash (types_meaning lent) (ty_of lent id) v)
      → bytes ≡ spelling (projection hash (meaning p) (type_at (types_of p) id) v)
  spelling_by v bytes e = subst (λ t. bytes ≡ spelling (projection hash (types_meaning t) (ty_of t id) v)) is e

-- Where the type with a number is this one, what is spelled at the number is spelled at the type.
pub same_spelling : (hash : Hash) (p : Program) (nodes : List Node) (r : ℕ) (id : TyId) (t : Ty) → type_at (types_of p) id ≡ t → (bytes : List ℕ)
    → ((v : Value) → StandsFor (ProverNodes (digest_at hash (meaning p))) (meaning p).types nodes r (type_at (types_of p) id) v
    → bytes ≡ spelling (projection hash (meaning p) (type_at (types_of p) id) v))
    → (v : Value) → StandsFor (ProverNodes (digest_at hash (meaning p))) (meaning p).types nodes r t v → bytes ≡ spelling (projection hash (meaning p) t v)
same_spelling hash p nodes r id t at bytes spelled =
    subst (λ t. (v : Value) → StandsFor (ProverNodes (digest_at hash (meaning p))) (meaning p).types nodes r t v → bytes ≡ spelling (projection hash (meaning p) t v)) at spelled
