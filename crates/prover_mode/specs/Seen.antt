-- What a prover has opened.
use Rattle.std.specs.Prelude.{◌≡◌, ℕ, List, [], ◌∷◌, map}
use Rattle.core_terms.specs.Formats.{Hash}
use Rattle.core_terms.specs.ProgramTypes.{types_by_number, types_meaning}
use Rattle.core_terms.specs.Projection.{digest_at}
use Rattle.core_terms.specs.TypeTables.{type_at}
use Rattle.core_terms.specs.declared.program_types.Types.{Types}
use Rattle.ideal_meaning.specs.Ideal as ideal
use Rattle.value_store.specs.Nodes.{Node}
use Rattle.value_store.specs.Standing.{Keeps, ProverNodes, StandsFor}
use Rattle.prover_mode.specs.declared.opened.Opened.{Opened}

module _ (hash : Hash) (types : Types) where
  -- the node stands for the value, at the type
  pub record IsSeen (nodes : List Node) (o : Opened) (seen : ideal.Opened) : Type 0 where
    pub at : seen.ty ≡ type_at (types_by_number types) o.ty
    pub stands : StandsFor (ProverNodes (digest_at hash (types_meaning types))) (types_meaning types).types nodes o.value.0 seen.ty seen.value

  -- the nodes stand for what was opened, in order
  abbrev pub AreSeen : List Node → List Opened → List ideal.Opened → Type 0
  AreSeen nodes [] [] = Unit {0}
  AreSeen nodes (o ∷ os) (s ∷ seen) = IsSeen nodes o s × AreSeen nodes os seen
  AreSeen nodes os seen = ⊥

  -- the bytes of the honest pieces
  abbrev pub pieces_of : List ideal.Opened → List (List ℕ)
  pieces_of seen = ideal.bytes_of (map (ideal.honest_piece hash (types_meaning types)) seen)

  module _ (old new : List Node) (keeps : Keeps old new) where
    abbrev pub seen_keeps : (os : List Opened) (seen : List ideal.Opened) → AreSeen old os seen → AreSeen new os seen
    seen_keeps [] [] h = h
    seen_keeps (o ∷ os) (s ∷ seen) h = (
      record {
        at = h.0.at;
        stands = keeps (ProverNodes (digest_at hash (types_meaning types))) (types_meaning types).types o.value.0 s.ty s.value h.0.stands;
      },
      seen_keeps os seen h.1,
    )
    seen_keeps [] (s ∷ seen) h = elim h [ ]
    seen_keeps (o ∷ os) [] h = elim h [ ]
