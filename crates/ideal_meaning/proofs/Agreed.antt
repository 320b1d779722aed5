-- The relation of the ideal and the checked run of code, from their simulation.
use Rattle.std.proofs.Common.{◌⊎◌, ℕ, List, [], refl, sym, subst}
use Rattle.core_terms.specs.Types.{Ty, Table}
use Rattle.core_terms.specs.Formats.{Format, Hash, IsHash, IsFormat}
use Rattle.core_terms.specs.Values.{Value, Values, AreIdeal}
use Rattle.core_terms.specs.Terms.{Program}
use Rattle.core_terms.specs.Projection.{projection, projections, AllFit}
use Rattle.ideal_meaning.specs.Ideal.{Opened, ideal_mode}
use Rattle.ideal_meaning.specs.PieceForms.{as_spelled}
use Rattle.ideal_meaning.specs.Checked.{Taking, Cause, checked_mode}
use Rattle.ideal_meaning.specs.Agreement.{FollowsIdeal, Parts}
use Rattle.ideal_meaning.proofs.InHand.{IsHeld, held_inputs}
use Rattle.ideal_meaning.proofs.Projections.{reads_back}
use Rattle.ideal_meaning.proofs.Calls.{agreement_of, at_start}
use Rattle.core_terms.specs.Bodies.{Body, FunctionCode, code_at}
use Rattle.ideal_meaning.specs.Execution.{Coded, Ran, Stuck, call_code}
use Rattle.core_terms.specs.Accepted.{IsAccepted}
use Rattle.ideal_meaning.specs.CodeTypes.{Goes}
use Rattle.ideal_meaning.specs.ModeKinds.{ideal_kind, digest_kind}
use Rattle.ideal_meaning.specs.CodeAgreement.{over, BothRan, CodeAgreement}
use Rattle.ideal_meaning.proofs.ModeLaws.{ideal_laws, checked_laws, ideals_are, shallows_are, projections_shallow}
use Rattle.ideal_meaning.proofs.Never.{never}
use Rattle.ideal_meaning.proofs.Simulated.{Meets, called}

module _ (hash : Hash) (is_hash : IsHash hash) (format : Format) (is_format : IsFormat format) (types : Table) where
  abbrev P : Program
  P = over format types

  module _ (functions : List FunctionCode) (began : Taking) where
    abbrev B : Body
    B = record { limit = format.limit; types = types; functions = functions }

    -- neither is stuck, so both ran
    both_ran : (t : Ty) (Q R : Value → Type 0) (c : Coded ⊥ (List Opened)) (d : Coded Cause Taking) → Goes Q c → Goes R d
        → Meets hash (over format types) (as_spelled hash (over format types)) (λ t bytes. refl) is_format ⊥ began functions (reads_back hash is_hash (over format types) is_format) t c d
        → BothRan (λ ideal checked. FollowsIdeal hash (over format types) (projection hash (over format types) t) began ideal checked ⊎ Parts hash (over format types) began ideal checked) c d
    both_ran t Q R (Ran r) (Ran q) g h m = agreement_of hash P ⊥ began (IsHeld P ⊥ t) (projection hash P t) r q (m r q refl refl)
    both_ran t Q R (Ran r) Stuck g h m = elim h [ ]
    both_ran t Q R Stuck d g h m = elim g [ ]

    pub agreed : IsAccepted (record { limit = format.limit; types = types; functions = functions }) → (n f : ℕ) (args : Values) (k : ℕ)
        → let g = code_at (record { limit = format.limit; types = types; functions = functions }) f in
        AreIdeal types g.parameters args → AllFit (over format types) g.parameters args
        → BothRan (λ ideal checked. FollowsIdeal hash (over format types) (projection hash (over format types) g.result) began ideal checked ⊎ Parts hash (over format types) began ideal checked)
        (call_code (record { limit = format.limit; types = types; functions = functions }) ideal_mode n f args k [])
        (call_code (record { limit = format.limit; types = types; functions = functions }) (checked_mode hash (over format types)) n f
        (projections hash (over format types) g.parameters args) k began)
    agreed accepted n f args k ideals fits =
        let g = code_at B f in
        both_ran g.result _ _ _ _
        (never ⊥ (List Opened) B ideal_mode (ideal_kind types) (ideal_laws types) accepted n f args k [] (ideals_are types g.parameters args ideals))
        (never Cause Taking B (checked_mode hash P) digest_kind (checked_laws hash P) accepted n f (projections hash P g.parameters args) k began
        (shallows_are types g.parameters _ (projections_shallow hash is_hash P is_format g.parameters args ideals)))
        (called hash (over format types) (as_spelled hash (over format types)) (λ t bytes. refl) is_format ⊥ began functions (reads_back hash is_hash P is_format) accepted n f args k [] began
        (held_inputs P ⊥ g.parameters args ideals fits (λ l. absurd l)) (at_start hash (over format types) (as_spelled hash (over format types)) ⊥ began))

pub code_agreement : CodeAgreement
code_agreement hash is_hash format is_format B e accepted n f args k began ideals fits =
    subst (λ limit. IsAccepted (record { limit = limit; types = B.types; functions = B.functions })
    → BothRan (λ ideal checked. FollowsIdeal hash (over format B.types) (projection hash (over format B.types) (code_at B f).result) began ideal checked ⊎ Parts hash
    (over format B.types) began ideal checked)
    (call_code (record { limit = limit; types = B.types; functions = B.functions }) ideal_mode n f args k [])
    (call_code (record { limit = limit; types = B.types; functions = B.functions }) (checked_mode hash (over format B.types)) n f
    (projections hash (over format B.types) (code_at B f).parameters args) k began))
    (sym e) (λ accepted. agreed hash is_hash format is_format B.types B.functions began accepted n f args k ideals fits) accepted
