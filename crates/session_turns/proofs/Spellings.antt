-- The spelling of a version.
use Rattle.std.proofs.Common.{◌≡◌, ◌<◌, ◌⊎◌, inl, inr, ℕ, List, length, Some, Bool, true, false, bytes_eq, refl, sym, ap, ◌∙◌, subst}
use Rattle.std.proofs.lemmas.Slice.Eq.{bytes_eq-Decides}
use Rattle.core_terms.specs.Formats.{Hash, IsHash}
use Rattle.core_terms.specs.Programs.{meaning, types_of}
use Rattle.core_terms.specs.ProgramTypes.{named_table, types_by_number, types_meaning}
use Rattle.core_terms.specs.Projection.{digest_at, projection}
use Rattle.core_terms.specs.Spelling.{spelling, shallow}
use Rattle.core_terms.specs.Terms as tree
use Rattle.core_terms.specs.TypeTables.{type_at}
use Rattle.core_terms.specs.Values.{Value, size}
use Rattle.core_terms.proofs.Projection.{size_shallow}
use Rattle.core_terms.proofs.ReadBack.{shallow_is}
use Rattle.core_terms.proofs.Spelled.{length_spelling}
use Rattle.value_store.proofs.ProverNodes.{shown_shallow}
use Rattle.value_store.proofs.TypedNodes.{ideal_stands, prover_refers}
use Rattle.core_terms.specs.declared.program.Program.{Program}
use Rattle.core_terms.specs.declared.program_types.Types.{Types}
use Rattle.core_terms.specs.declared.types.TyId.{TyId}
use Rattle.value_store.specs.Nodes.{Node}
use Rattle.value_store.specs.Standing.{ProverNodes, StandsFor, VerifierNodes}
use Rattle.value_store.specs.declared.node.Ref.{Ref}
use Rattle.session_meaning.specs.Server.{state_spelling, version_at}
use Rattle.session_turns.specs.Marks.{AreMarks, mark_in, mark_of}
use Rattle.session_turns.specs.declared.marks.Mark.{Mark}
use Rattle.session_turns.specs.declared.marks.SpellingMarks.{SpellingMarks}
use Rattle.session_turns.specs.Versions.{IsVersion}

module _ (hash : Hash) (p : Program) (given : Types) (is : given ≡ p.types) (id : TyId) (at : type_at (types_of p) id ≡ (meaning p).state)
    (nodes : List Node) (r : Ref) (v : Value) (h : IsVersion hash (meaning p) nodes r v) where
  -- it stands by the types of the code
  pub stands : StandsFor (ProverNodes (digest_at hash (types_meaning given))) (named_table given) nodes r.0 (type_at (types_by_number given) id) v
  stands =
      subst (λ (t : Types). StandsFor (ProverNodes (digest_at hash (types_meaning t))) (named_table t) nodes r.0 (type_at (types_by_number t) id) v) (sym is)
      (subst (λ z. StandsFor (ProverNodes (digest_at hash (meaning p))) (meaning p).types nodes r.0 z v) (sym at) h)

  -- and so is spelled
  pub spelled : spelling (projection hash (types_meaning given) (type_at (types_by_number given) id) v) ≡ state_spelling hash (meaning p) v
  spelled =
      ap (λ (t : Types). spelling (projection hash (types_meaning t) (type_at (types_by_number t) id) v)) is
      ∙ ap (λ z. spelling (projection hash (meaning p) z v)) at

  pub shown : IsHash hash → StandsFor VerifierNodes (named_table given) nodes r.0 (type_at (types_by_number given) id) (projection hash (types_meaning given) (type_at (types_by_number given) id) v)
  shown is_hash =
      shown_shallow (digest_at hash (types_meaning given)) (named_table given) (λ t bytes. is_hash _) nodes (type_at (types_by_number given) id) v r.0 stands

-- a spelling has as many bytes as the node keeps
pub long : (hash : Hash) → IsHash hash → (p : Program) (nodes : List Node) (r : Ref) (v : Value) → IsVersion hash (meaning p) nodes r v
    → (n : ℕ) → n ≡ size (meaning p).types (meaning p).state v → length (state_spelling hash (meaning p) v) ≡ n
long hash is_hash p nodes r v h n kept =
    let digest = digest_at hash (meaning p) in
    let projected = shallow digest (meaning p).types (meaning p).state v in
    length_spelling (meaning p).types (meaning p).state projected
    (shallow_is digest (λ t bytes. is_hash _) (meaning p).types (meaning p).state v
    (ideal_stands (ProverNodes digest) (meaning p).types (prover_refers digest (meaning p).types) nodes (meaning p).state v r.0 h))
    ∙ size_shallow digest (meaning p).types (meaning p).state v ∙ sym kept

-- the test of bytes that aren't the same
pub other_bytes : (xs ys : List ℕ) → (xs ≡ ys → ⊥) → false ≡ bytes_eq xs ys
other_bytes xs ys other = by (bytes_eq xs ys) refl
  where
    by : (b : Bool) → bytes_eq xs ys ≡ b → false ≡ b
    by false e = refl
    by true e = absurd (other ((bytes_eq-Decides xs ys).0 e))

-- One more mark is known, of the spelling of this version.
pub noted : (hash : Hash) (P : tree.Program) (old new : SpellingMarks) (versions : List Value) (number : ℕ) (mark : Mark) → number < length versions
    → mark.0 ≡ mark_of (state_spelling hash P (version_at versions number))
    → ((n : ℕ) (d : Mark) → mark_in new n ≡ Some d → ((n ≡ number) × (d ≡ mark)) ⊎ (mark_in old n ≡ Some d))
    → AreMarks hash P old versions → AreMarks hash P new versions
noted hash P old new versions number mark there is within h n d known = by (within n d known)
  where
    by : ((n ≡ number) × (d ≡ mark)) ⊎ (mark_in old n ≡ Some d) → (n < length versions) × (d.0 ≡ mark_of (state_spelling hash P (version_at versions n)))
    by (inl e) =
        subst (λ (m : ℕ). (m < length versions) × (d.0 ≡ mark_of (state_spelling hash P (version_at versions m)))) (sym e.0) (there, ap (λ (d : Mark). d.0) e.1 ∙ is)
    by (inr e) = h n d e
