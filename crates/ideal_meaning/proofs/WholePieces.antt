-- Pieces that are fetched: a whole piece has the digest of its spelling, and is read back as the spelling is.
use Rattle.std.proofs.Common.{◌≡◌, inl, inr, ℕ, suc, ◌+◌, List, [], ◌∷◌, ◌++◌, length, if◌then◌else◌, refl, sym, ap, ◌∙◌, arith}
use Rattle.std.proofs.lemmas.Bool.{eq-eqb}
use Rattle.core_terms.specs.Types.{Ty}
use Rattle.core_terms.specs.Formats.{Hash, IsHash, IsFormat}
use Rattle.core_terms.specs.Values.{Value, IsIdeal}
use Rattle.core_terms.specs.Spelling.{spelling}
use Rattle.core_terms.specs.Reading.{Read, Good, BadAt}
use Rattle.core_terms.specs.Terms.{Program}
use Rattle.core_terms.specs.Projection.{projection, read_at}
use Rattle.ideal_meaning.specs.PieceForms.{further, read_behind, front_at, as_whole, IsOfWhole}
use Rattle.ideal_meaning.proofs.Opening.{IsFormOf, ReadsBackAs, ReadsBack}
use Rattle.ideal_meaning.proofs.Projections.{reads_back}

none_further : (r : Read Value) → r ≡ further 0 r
none_further (Good v rest end) = let e : end ≡ 0 + end = omega arith in ap (Good v rest) e
none_further (BadAt offset) = let e : offset ≡ 0 + offset = omega arith in ap BadAt e

one_further : (n : ℕ) (r : Read Value) → further 1 (further n r) ≡ further (suc n) r
one_further n (Good v rest end) = let e : 1 + (n + end) ≡ suc n + end = omega arith in ap (Good v rest) e
one_further n (BadAt offset) = let e : 1 + (n + offset) ≡ suc n + offset = omega arith in ap BadAt e

-- what stands behind the front is read as it is without
pub behind_front : (front : List ℕ) (reading : List ℕ → Read Value) (bytes : List ℕ) → read_behind front reading (front ++ bytes) ≡ further (length front) (reading bytes)
behind_front [] reading bytes = none_further (reading bytes)
behind_front (c ∷ front) reading bytes =
    ap (λ b. if b then further 1 (read_behind front reading (front ++ bytes)) else BadAt 0) (eq-eqb c c refl)
    ∙ ap (further 1) (behind_front front reading bytes) ∙ one_further (length front) (reading bytes)

module _ (hash : Hash) (P : Program) where
  pub whole_form : IsOfWhole hash P → IsFormOf hash P (as_whole hash P)
  whole_form whole t bytes = sym (whole t bytes)

  pub whole_back : IsHash hash → IsFormat P.format → (t : Ty) (v : Value) → IsIdeal P.types t v → ReadsBackAs hash P (as_whole hash P) t v
  whole_back is_hash format t v ideal = by (reads_back hash is_hash P format t v ideal)
    where
      spelled : List ℕ
      spelled = spelling (projection hash P t v)

      behind : read_behind (front_at hash P t) (read_at P t) (front_at hash P t ++ spelled) ≡ further (length (front_at hash P t)) (read_at P t spelled)
      behind = behind_front (front_at hash P t) (read_at P t) spelled

      by : ReadsBack hash P t v → ReadsBackAs hash P (as_whole hash P) t v
      by (inl r) = inl (r.0, (length (front_at hash P t) + r.1.0, behind ∙ ap (further (length (front_at hash P t))) r.1.1))
      by (inr r) = inr (r.0, (length (front_at hash P t) + r.1.0, behind ∙ ap (further (length (front_at hash P t))) r.1.1))
