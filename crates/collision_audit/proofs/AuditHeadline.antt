-- The headline with its pair: what is accepted is true, or the audit shows the split.
use Rattle.std.proofs.Common.{◌≡◌, ◌⊎◌, inl, inr, ℕ, List, [], drop, Option, Some, None, refl, sym, ap, ◌∙◌, subst}
use Rattle.core_terms.specs.Types.{Ty}
use Rattle.core_terms.specs.Formats.{Hash}
use Rattle.core_terms.specs.RoleTypes.{role_result}
use Rattle.core_terms.specs.Terms.{Program}
use Rattle.core_terms.specs.Values.{Value}
use Rattle.ideal_meaning.specs.Checked.{Verdict, Accepted}
use Rattle.ideal_meaning.specs.Frames.{header, offered, offered_pieces}
use Rattle.ideal_meaning.specs.Headline.{TrueOrSplit, call_values}
use Rattle.ideal_meaning.specs.Ideal.{Outcome, honest_pieces}
use Rattle.ideal_meaning.proofs.Headline.{headline}
use Rattle.collision_audit.specs.AuditLaws.{AgreementIsTrue, AuditShowsCollision, IsTrueOutcome}
use Rattle.collision_audit.specs.Audits.{Collides, Judges, audit_of, unless_split, verdict_on_projections}
use Rattle.collision_audit.specs.Splits.{Split, IsSplit, offered_behind, offered_in, split_of}
use Rattle.collision_audit.proofs.FirstSplits.{split_is_found, splits_somewhere}

-- what a good header offers
pub behind_good : (hash : Hash) (P : Program) (f : ℕ) (t : Ty) (state argument : Value) (k : ℕ) (bytes : List ℕ) (o : Outcome) (n : ℕ) → header P.format bytes ≡ Some n
    → TrueOrSplit hash P f t (call_values state argument) k (offered_pieces (offered P.format.limit (drop 6 bytes) n [])) o
    → TrueOrSplit hash P f t (call_values state argument) k (offered_in P.format bytes) o
behind_good hash P f t state argument k bytes o n good h =
    subst (λ (header : Option ℕ). TrueOrSplit hash P f t (call_values state argument) k (offered_behind P.format header bytes) o) (sym good) h

pub audit_shows_collision : AuditShowsCollision
audit_shows_collision hash is_hash P format typed f kind t answer role reads state argument state_ideal argument_ideal k bytes o accepted = by (behind_good hash P f (role_result kind P.state answer) state argument k bytes o head.0 head.1 head.2)
  where
    head : (n : ℕ) × (header P.format bytes ≡ Some n) × TrueOrSplit hash P f (role_result kind P.state answer) (call_values state argument) k (offered_pieces (offered P.format.limit (drop 6 bytes) n [])) o
    head = headline hash is_hash P format typed f kind t answer role reads state argument state_ideal argument_ideal k bytes o accepted

    by : TrueOrSplit hash P f (role_result kind P.state answer) (call_values state argument) k (offered_in P.format bytes) o
        → IsTrueOutcome hash P f (role_result kind P.state answer) state argument k bytes o
        ⊎ ((s : Split) × (audit_of hash P t f state argument k bytes ≡ Collides s)
        × IsSplit hash P.format (offered_in P.format bytes) (honest_pieces hash P f (call_values state argument) k) s)
    by (inl h) = inl h
    by (inr h) =
        let there = splits_somewhere hash P.format h.0 (offered_in P.format bytes) (honest_pieces hash P f (call_values state argument) k) h.1 in
        inr (there.0, ap (λ split. unless_split split (verdict_on_projections hash P t f state argument k bytes)) there.1, (split_is_found hash P.format (offered_in P.format bytes) (honest_pieces hash P f (call_values state argument) k) there.0).0 there.1)

-- an audit that comes to a verdict found no split
pub judges : (found : Option Split) (v v' : Verdict) → unless_split found v ≡ Judges v' → (found ≡ None) × (v ≡ v')
judges None v v' e = (refl, cc)
judges (Some s) v v' e = absurd (cc (e))

pub agreement_is_true : AgreementIsTrue
agreement_is_true hash is_hash P format typed f kind t answer role reads state argument state_ideal argument_ideal k bytes o agreed = by (audit_shows_collision hash is_hash P format typed f kind t answer role reads state argument state_ideal argument_ideal k bytes o none.1)
  where
    none : (split_of hash P f state argument k bytes ≡ None) × (verdict_on_projections hash P t f state argument k bytes ≡ Accepted o)
    none = judges (split_of hash P f state argument k bytes) (verdict_on_projections hash P t f state argument k bytes) (Accepted o) agreed

    by : IsTrueOutcome hash P f (role_result kind P.state answer) state argument k bytes o
        ⊎ ((s : Split) × (audit_of hash P t f state argument k bytes ≡ Collides s)
        × IsSplit hash P.format (offered_in P.format bytes) (honest_pieces hash P f (call_values state argument) k) s)
        → IsTrueOutcome hash P f (role_result kind P.state answer) state argument k bytes o
    by (inl h) = h
    by (inr h) = let e = sym h.1 ∙ agreed in absurd (cc (e))

-- an audit that shows a split found it
pub collides : (found : Option Split) (v : Verdict) (s : Split) → unless_split found v ≡ Collides s → found ≡ Some s
collides None v s e = absurd (cc (e))
collides (Some s') v s e = cc
