-- The output of a state whose projection is told.
use Rattle.std.proofs.Common.{◌≡◌, ℕ, ◌<◌, ◌≤◌, ◌^◌, List, [], ◌∷◌, length, Some, Vec, sym, ap, ◌∙◌, subst, arith}
use Rattle.std.specs.declared.alloc.Global.{Global}
use Rattle.sha2.specs.Sha256.{sha256}
use Rattle.sha2.proofs.Facts256.{length-sha256}
use Rattle.core_terms.specs.Types.{Ty}
use Rattle.core_terms.specs.Formats.{IsFormat}
use Rattle.core_terms.specs.Values.{Value, IsIdeal, IsShallow, size}
use Rattle.core_terms.specs.Spelling.{spelling}
use Rattle.core_terms.specs.Terms.{Program}
use Rattle.core_terms.specs.Projection.{digest_at, projection}
use Rattle.core_terms.proofs.LawProofs.{projection_is_shallow}
use Rattle.ideal_meaning.proofs.Projections.{length_piece}
use Rattle.printed_lines.specs.Lines.{state_line}
use Rattle.command_parts.specs.OutcomeAnswers.{state_answer, state_projection}
use Rattle.command_parts.specs.FueledRoles.{NamedProgram}
use Rattle.command_parts.specs.Halting.{ending_status}
use Rattle.command_parts.specs.Storing.{IsOutput, stored_as}
use Rattle.command_parts.specs.declared.report.Ending.TheVariants.{Done}
use Rattle.command_parts.specs.declared.report.Output.{Output}
use Rattle.command_parts.proofs.Ends.{one_line}

-- the projection of an ideal value is a shallow one
pub is_shallow : (P : Program) → IsFormat P.format → (t : Ty) (v : Value) → IsIdeal P.types t v → IsShallow P.types t (projection sha256 P t v)
is_shallow P format t v ideal = projection_is_shallow (digest_at sha256 P) (format.digest_length sha256 length-sha256) P.types t v ideal

-- its spelling has fewer than 2^32 bytes, where the value is within the limit
is_short : (P : Program) → IsFormat P.format → (v : Value) → IsIdeal P.types P.state v → size P.types P.state v ≤ P.format.limit → length (spelling (projection sha256 P P.state v)) < 2 ^ 32
is_short P format v ideal fits = omega (arith, length_piece sha256 length-sha256 P format P.state v ideal, fits, format.limit_fits)

pub state_output : (p : NamedProgram) → IsFormat p.digested.program.format → (t : Ty) (v : Value) (bytes : List ℕ) (output : Output) (file : Vec ℕ Global)
    → IsIdeal p.digested.program.types p.digested.program.state v → size p.digested.program.types p.digested.program.state v ≤ p.digested.program.format.limit → t ≡ p.digested.program.state
    → bytes ≡ spelling (projection sha256 p.digested.program t v) → output.report.ending ≡ Done
    → ((w : Value) → IsShallow p.digested.program.types t w → length bytes < 2 ^ 32 → bytes ≡ spelling w → output.report.text.items ≡ state_line p.digested.program.types p.names t w)
    → output.file ≡ Some file → file.items ≡ bytes → (name : List ℕ) → IsOutput (state_answer p v name) name output
unfolding state_projection
state_output p format t v bytes output file ideal fits is_state is_bytes ending text is_file is_items name =
    let P = p.digested.program in
    let w = projection sha256 P P.state v in
    let spelled : bytes ≡ spelling w = is_bytes ∙ ap (λ t. spelling (projection sha256 P t v)) is_state in
    let short : length bytes < 2 ^ 32 = subst (λ bytes. length bytes < 2 ^ 32) (sym spelled) (is_short P format v ideal fits) in
    let told = subst (λ t. (w : Value) → IsShallow P.types t w → length bytes < 2 ^ 32 → bytes ≡ spelling w → output.report.text.items ≡ state_line P.types p.names t w) is_state text in
    record {
      status = sym (ap ending_status ending);
      lines = one_line (state_line P.types p.names P.state w) ∙ sym (told w (is_shallow P format P.state v ideal) short spelled);
      stored = sym (ap (stored_as name) is_file ∙ ap (λ bytes. (name, bytes) ∷ []) (is_items ∙ spelled));
    }
