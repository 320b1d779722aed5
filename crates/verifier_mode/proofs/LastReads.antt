-- A piece that comes again is the one that was read last.
use Rattle.std.proofs.Common.{◌≡◌, ℕ, List, true, bytes_eq, subst}
use Rattle.std.proofs.lemmas.Slice.Eq.{bytes_eq-Decides}
use Rattle.core_terms.specs.declared.types.TyId.{TyId}
use Rattle.core_terms.specs.declared.program_types.Types.{Types}
use Rattle.value_store.specs.Nodes.{Node}
use Rattle.value_store.specs.declared.node.Ref.{Ref}
use Rattle.verifier_mode.specs.LastReads.{IsRead}

pub again : (types : Types) (nodes : List Node) (last ty : TyId) (held piece : List ℕ) (r : Ref) → last ≡ ty → bytes_eq held piece ≡ true → IsRead types nodes last held r → IsRead types nodes ty piece r
again types nodes last ty held piece r same_type same h =
    subst (λ ty. IsRead types nodes ty piece r) same_type (subst (λ p. IsRead types nodes last p r) ((bytes_eq-Decides held piece).0 same) h)
