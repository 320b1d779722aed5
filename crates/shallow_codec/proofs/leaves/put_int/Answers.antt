use Rattle.std.proofs.Common.{◌≡◌, ◌∙◌, ℤ, arith, ap, refl, sym}
use Rattle.std.specs.Int.{w64, cast_signed, cast_unsigned}
use Rattle.std.proofs.lemmas.Int.{to_z-of_z}
use Rattle.core_terms.specs.Types.{IntTy}
use Rattle.core_terms.specs.Values.{IntV}
use Rattle.core_terms.specs.Reading.{Good}
use Rattle.core_terms.proofs.Numbers.{mag_of}
use Rattle.value_store.specs.Nodes.{IntNode}
use Rattle.value_store.specs.Standing.{VerifierNodes}
use Rattle.shallow_codec.proofs.ReadPlaces.{leaf_read}
use Rattle.shallow_codec.proofs.leaves.put_int.Goals as goal

pub returns-clause-read : goal.returns-clause-read
returns-clause-read g c = λ types levels.
    let z : ℤ = cast_signed w64 (cast_unsigned w64 c.in-Some.value) in
    let same : z ≡ c.in-Some.value = to_z-of_z w64 c.in-Some.value (record { sfits = mag_of c.in-Some.value c.in-Some.ensures.fits }) in
    leaf_read types levels c.args.at c.in-Some.behind _ (g.N.Nodes.nodes c.args.store.now) (g.N.Nodes.nodes c.put_int.new.self) (IntNode z) c.in_ok-value.value.0 IntTy (IntV z) 8
    (c.in-Some.ensures.value.0 ∙ ap (λ z. Good (IntV z) c.in-Some.behind.rest.now c.in-Some.behind.offset) (sym same)) c.in-Some.ensures.value.1 refl
    (omega arith) refl c.in_ok-value.ensures.put (c.in_ok-value.ensures.stands VerifierNodes types)
