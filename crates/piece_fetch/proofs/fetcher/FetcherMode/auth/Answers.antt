-- The digest of the spelling is that of the definitions.
use Rattle.std.proofs.Common.{◌++◌, sym, ap, ap₂, ◌∙◌, length, ◌≡◌, subst}
use Rattle.core_terms.proofs.Fingerprints.{front_is}
use Rattle.core_terms.specs.ProgramTypes.{types_by_number, types_meaning}
use Rattle.core_terms.specs.Projection.{digest_at}
use Rattle.core_terms.specs.TypeTables.{type_at}
use Rattle.core_terms.specs.Values.{DigestV}
use Rattle.core_terms.specs.Spelling.{spelling}
use Rattle.value_store.specs.Standing.{VerifierNodes}
use Rattle.piece_fetch.proofs.fetcher.FetcherMode.auth.Goals as goal

pub returns-clause-stands : goal.returns-clause-stands
returns-clause-stands g c x stands =
    let P = types_meaning c.args.types.now in
    let t = type_at (types_by_number c.args.types.now) c.args.ty in
    let hash = g.H.Hash32.hash in
    let is : c.of_pair-digest.result.0 ≡ digest_at hash P t (spelling x) =
    c.of_pair-digest.ensures ∙ ap₂ (λ f b. hash (f ++ b)) (c.front.ensures ∙ front_is hash c.args.types.now c.args.self.now.fronts c.requires.knows c.args.ty) (c.deref.ensures.value ∙ c.in_ok-spell_into.ensures.spelling x stands) in
    c.in_ok-put_auth.ensures.stands VerifierNodes P.types t (DigestV (digest_at hash P t (spelling x)))
    (ap DigestV (sym is), subst (λ d. length d ≡ 32) (sym is) (g.met.H.Hash32.digest_length _))
