-- The parts of a proof of a call.
use Rattle.std.proofs.Common.{◌≡◌, ℕ, List, [], ◌∷◌, map, refl, sym, ap, ◌∙◌, subst}
use Rattle.core_terms.specs.Formats.{Hash}
use Rattle.core_terms.specs.Programs.{meaning, types_of}
use Rattle.core_terms.specs.ProgramTypes.{named_table, types_by_number, types_meaning}
use Rattle.core_terms.specs.Projection.{digest_at}
use Rattle.core_terms.specs.TypeTables.{type_at}
use Rattle.core_terms.specs.Types.{Ty}
use Rattle.core_terms.specs.Values.{Values}
use Rattle.core_terms.specs.declared.byte_string.ByteString.{ByteString as Spelling}
use Rattle.core_terms.specs.declared.program.Program.{Program}
use Rattle.core_terms.specs.declared.program_types.Types.{Types}
use Rattle.core_terms.specs.declared.outcome.Outcome.{Outcome}
use Rattle.core_terms.specs.declared.outcome.Outcome.TheVariants as told
use Rattle.core_terms.specs.declared.types.TyId.{TyId}
use Rattle.ideal_meaning.specs.Ideal as ideal
use Rattle.ideal_meaning.specs.Run.{state_of}
use Rattle.value_store.specs.Nodes.{Node}
use Rattle.value_store.specs.Standing.{ProverNodes}
use Rattle.value_store.specs.declared.node.Ref.{Ref}
use Rattle.mode_vm.specs.IdealRuns.{IsOutcome}
use Rattle.ideal_meaning.specs.SpelledOutcomes.{SpellsOutcome}
use Rattle.reuse_buffer.specs.Kept.{Kept, kept}
use Rattle.prover_mode.specs.Seen.{AreSeen, pieces_of}
use Rattle.prover_mode.specs.Written.{HasWritten}
use Rattle.prover_mode.specs.declared.frames.FrameWriter.{FrameWriter}
use Rattle.prover_mode.specs.declared.opened.Opened.{Opened}

-- The code gives the types of its program.
module _ (hash : Hash) (p : Program) (given : Types) (is : given ≡ p.types) where
  module _ (id : TyId) (z : Ty) (at : type_at (types_of p) id ≡ z) where
    pub outcome_by : (nodes : List Node) (r : Outcome Ref) (o : ideal.Outcome) → IsOutcome (ProverNodes (digest_at hash (meaning p))) (meaning p).types nodes z r o
        → IsOutcome (ProverNodes (digest_at hash (types_meaning given))) (named_table given) nodes (type_at (types_by_number given) id) r o
    outcome_by nodes r o h =
        subst (λ t. IsOutcome (ProverNodes (digest_at hash (types_meaning t))) (named_table t) nodes (type_at (types_by_number t) id) r o) (sym is)
        (subst (λ z. IsOutcome (ProverNodes (digest_at hash (types_meaning p.types))) (named_table p.types) nodes z r o) (sym at) h)

    same_projection : (o : ideal.Outcome) → ideal.outcome_projection hash (types_meaning p.types) (type_at (types_of p) id) o ≡ ideal.outcome_projection hash (meaning p) (type_at (types_of p) id) o
    same_projection (ideal.Done v) = refl
    same_projection (ideal.Trapped trap) = refl
    same_projection ideal.Out = refl

    -- what is spelled by the types is spelled by the program
    spelled_too : (t : Ty) (o : ideal.Outcome) (told : Outcome Spelling) → SpellsOutcome (types_meaning p.types) t o told → SpellsOutcome (meaning p) t o told
    spelled_too t o (told.Done bytes) h = h
    spelled_too t o (told.Trapped trap) h = h
    spelled_too t o told.Out h = h

    pub spelled_by : (o : ideal.Outcome) (told : Outcome Spelling)
        → (let P = types_meaning given in let t = type_at (types_by_number given) id in SpellsOutcome P t (ideal.outcome_projection hash P t o) told)
        → SpellsOutcome (meaning p) z (ideal.outcome_projection hash (meaning p) z o) told
    spelled_by o told h =
        subst (λ z. SpellsOutcome (meaning p) z (ideal.outcome_projection hash (meaning p) z o) told) at
        (spelled_too (type_at (types_of p) id) (ideal.outcome_projection hash (meaning p) (type_at (types_of p) id) o) told
        (subst (λ o. SpellsOutcome (types_meaning p.types) (type_at (types_of p) id) o told) (same_projection o)
        (subst (λ ts. SpellsOutcome (types_meaning ts) (type_at (types_by_number ts) id) (ideal.outcome_projection hash (types_meaning ts) (type_at (types_by_number ts) id) o) told) is h)))

  pub seen_by : (nodes : List Node) (lent own : List Opened) (seen : List ideal.Opened) → lent ≡ own → AreSeen hash p.types nodes own seen → AreSeen hash given nodes lent seen
  seen_by nodes lent own seen same h =
      subst (λ t. AreSeen hash t nodes lent seen) (sym is) (subst (λ (os : List Opened). AreSeen hash p.types nodes os seen) (sym same) h)

  same_pieces : (seen : List ideal.Opened) → pieces_of hash p.types seen ≡ ideal.bytes_of (map (ideal.honest_piece hash (meaning p)) seen)
  same_pieces [] = refl
  same_pieces (s ∷ seen) = ap (λ (ps : List (List ℕ)). ideal.honest_bytes hash (meaning p) s ∷ ps) (same_pieces seen)

  pub pieces_by : (f : ℕ) (args : Values) (k : ℕ)
      → pieces_of hash given (state_of (ideal.ideal (meaning p) f args k)) ≡ ideal.bytes_of (ideal.honest_pieces hash (meaning p) f args k)
  pieces_by f args k =
      let seen : List ideal.Opened = state_of (ideal.ideal (meaning p) f args k) in
      ap (λ (t : Types). pieces_of hash t seen) is ∙ same_pieces seen

  pub written_by : (f : ℕ) (args : Values) (k n : ℕ) (recent : List (List ℕ)) (writer : FrameWriter)
      → HasWritten n recent (pieces_of hash given (state_of (ideal.ideal (meaning p) f args k))) writer
      → HasWritten n recent (ideal.bytes_of (ideal.honest_pieces hash (meaning p) f args k)) writer
  written_by f args k n recent writer h = subst (λ (ps : List (List ℕ)). HasWritten n recent ps writer) (pieces_by f args k) h

-- a ring of n that holds the last of these holds them as a ring of its size
pub holds_last : (ring : Kept) (n : ℕ) (recent : List (List ℕ)) → ring ≡ kept n recent → ring ≡ kept ring.size recent
holds_last ring n recent is = subst (λ (m : ℕ). ring ≡ kept m recent) (sym (ap (λ (r : Kept). r.size) is)) is
