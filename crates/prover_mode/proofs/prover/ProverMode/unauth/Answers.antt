use Rattle.std.proofs.Common.{refl, sym, subst, List, [], ◌∷◌, ◌++◌}
use Rattle.core_terms.specs.ProgramTypes.{types_by_number, types_meaning}
use Rattle.core_terms.specs.Projection.{digest_at}
use Rattle.core_terms.specs.TypeTables.{type_at}
use Rattle.ideal_meaning.specs.Ideal as ideal
use Rattle.prover_mode.specs.Seen.{AreSeen}
use Rattle.prover_mode.specs.declared.opened.Opened.{Opened}
use Rattle.prover_mode.proofs.Running.{seen_more}
use Rattle.prover_mode.proofs.prover.ProverMode.unauth.Goals as goal

pub returns-clause-opens : goal.returns-clause-opens
returns-clause-opens g c x w stands follows =
    let hash = g.H.Hash32.hash in
    let types = c.args._types.now in
    let nodes = g.N.Nodes.nodes c.args.store.now in
    let t = type_at (types_by_number types) c.args.ty in
    let inner = c.inner_of-value.ensures (digest_at hash (types_meaning types)) (types_meaning types).types t x stands in
    let one : ideal.Opened = record { ty = t; value = x } in
    let o : Opened = record { ty = c.args.ty; value = c.inner_of-value.result } in
    let seen : List ideal.Opened = w in (
      x,
      seen ++ one ∷ [],
      refl,
      inner,
      subst (λ (os : List Opened). AreSeen hash types nodes os (seen ++ one ∷ [])) (sym c.in_ok-push.ensures.items)
          (seen_more hash types nodes c.args.self.now.opened.items seen o one (record { at = refl; stands = inner }) follows),
    )
