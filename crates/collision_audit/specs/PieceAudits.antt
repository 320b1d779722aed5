-- An audit piece by piece: what is offered is compared with the honest pieces, one after another.
use Rattle.std.specs.Prelude.{ℕ, suc, List, [], ◌∷◌, length, drop, map, Option, Some, None, bytes_eq, if◌then◌else◌}
use Rattle.core_terms.specs.Formats.{Format, Hash}
use Rattle.core_terms.specs.Terms.{Program, function_at}
use Rattle.core_terms.specs.Values.{Value}
use Rattle.ideal_meaning.specs.Checked.{Rejected, WrongPiece, Header, cause_of, with_rest}
use Rattle.ideal_meaning.specs.Frames.{Offer, NoMore, Offers, header, offered}
use Rattle.ideal_meaning.specs.Headline.{call_values}
use Rattle.ideal_meaning.specs.Ideal.{Opened, Outcome, Piece, honest_piece, ideal, outcome, outcome_projection}
use Rattle.ideal_meaning.specs.Run.{state_of}
use Rattle.collision_audit.specs.Audits.{Audit, Collides, Judges}
use Rattle.collision_audit.specs.Splits.{split_with}

module _ (hash : Hash) (format : Format) where
  -- a piece that is offered and differs from the honest one, at a place
  abbrev pub differing : (place : ℕ) → Piece → List ℕ → Audit
  differing place b a =
      if bytes_eq (format.digest hash b.ty a) (format.digest hash b.ty b.bytes) then Collides (split_with hash format place b a)
      else Judges (Rejected (WrongPiece place (format.digest hash b.ty b.bytes) (format.digest hash b.ty a)))

  -- The audit from the piece with this number on, where these are the honest pieces still to come, so many bytes are left, and this is
  -- offered. Where all honest pieces were offered, the outcome is accepted if no byte is left. Nothing behind the first difference matters.
  abbrev pub audit_from : Outcome → (place : ℕ) → List Piece → (left : ℕ) → Offer → Audit
  audit_from o place [] left more = Judges (with_rest o left)
  audit_from o place (b ∷ honest) left (NoMore e) = Judges (Rejected (cause_of e place (format.digest hash b.ty b.bytes)))
  audit_from o place (b ∷ honest) left (Offers a behind more) =
      if bytes_eq a b.bytes then audit_from o (suc place) honest behind more else differing place b a

  -- the audit of frames alone, where the last n of `recent` are kept
  abbrev pub audit_frames : Outcome → List Piece → List ℕ → ℕ → List (List ℕ) → Audit
  audit_frames o honest bytes n recent = audit_from o 0 honest (length bytes) (offered format.limit bytes n recent)

  -- the audit of the bytes of a proof file with this header
  abbrev pub audit_file : Outcome → List Piece → Option ℕ → List ℕ → Audit
  audit_file o honest None bytes = Judges (Rejected Header)
  audit_file o honest (Some n) bytes = audit_frames o honest (drop 6 bytes) n []

-- the outcome of a call, as a verifier sees it
abbrev pub outcome_seen : Hash → Program → ℕ → (state argument : Value) → ℕ → Outcome
outcome_seen hash P f state argument k = outcome_projection hash P (function_at P f).result (outcome (ideal P f (call_values state argument) k))

-- the audit of the bytes of a proof file, for a run of function f that came to the ideal outcome o and opened these values
abbrev pub run_audit : Hash → Program → ℕ → Outcome → List Opened → List ℕ → Audit
run_audit hash P f o seen bytes =
    audit_file hash P.format (outcome_projection hash P (function_at P f).result o) (map (honest_piece hash P) seen) (header P.format bytes) bytes

-- the same for a call of function f with fuel k on an ideal state and argument
abbrev pub audit_by_pieces : Hash → Program → ℕ → (state argument : Value) → ℕ → List ℕ → Audit
audit_by_pieces hash P f state argument k bytes =
    let run = ideal P f (call_values state argument) k in
    run_audit hash P f (outcome run) (state_of run) bytes
