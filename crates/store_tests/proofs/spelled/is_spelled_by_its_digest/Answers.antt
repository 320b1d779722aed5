use Rattle.std.proofs.Common.{◌≡◌, ◌∙◌, ap, refl, replicate, subst, sym}
use Rattle.core_terms.specs.ProgramTypes.{types_by_number, types_meaning}
use Rattle.core_terms.specs.TypeTables.{type_at}
use Rattle.core_terms.specs.Types.{AuthTy, Ty}
use Rattle.core_terms.specs.declared.program_types.Types.{Types}
use Rattle.core_terms.specs.Values.{DigestV}
use Rattle.value_store.specs.Standing.{StandsFor, VerifierNodes}
use Rattle.value_store.specs.Stores.{nodes_in}
use Rattle.shallow_codec.specs.ProgramTypes.{table}
use Rattle.store_tests.proofs.spelled.is_spelled_by_its_digest.Goals as goal

pub spell-requires : goal.spell-requires
spell-requires c =
    let types = c.types-types.result.now in
    let made = c.requires in
    let is : type_at (types_by_number types) c.state_type.result ≡ AuthTy made.0 =
    c.state_type.ensures.state ∙ ap (λ (types : Types). (types_meaning types).state) c.types-types.ensures ∙ made.1 in
    let digest = DigestV (replicate 32 9) in (
      digest,
      subst (λ (a : Ty). StandsFor VerifierNodes (table types) (nodes_in c.put_auth.new.self) c.in_ok-value.value.0 a digest) (sym is)
          (c.in_ok-value.ensures.stands VerifierNodes (table types) made.0 digest (refl, refl)),
    )
