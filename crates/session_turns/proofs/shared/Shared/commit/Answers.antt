use Rattle.std.proofs.Common.{List, ◌++◌, ◌∷◌, [], refl, ap, ◌∙◌}
use Rattle.core_terms.specs.Projection.{digest_at}
use Rattle.value_store.specs.Standing.{ProverNodes}
use Rattle.value_store.specs.declared.node.Ref.{Ref}
use Rattle.session_turns.specs.declared.commit.Commit.{Commit}
use Rattle.session_turns.proofs.Sharing.{committed}
use Rattle.session_turns.proofs.shared.Shared.commit.Goals as goal

pub returns-clause-commits : goal.returns-clause-commits
returns-clause-commits c hash P same call v shares is stands =
    let r = c.in_ok-version.version in
    let more = c.in_ok-push.ensures.items ∙ ap (λ (rs : List Ref). rs ++ r ∷ []) c.reserve.ensures.items in
    committed hash P c.args.self.now (record { store = c.absorb.new.self; versions = c.push.new.self; commits = c.push-2.new.self; marks = c.args.self.now.marks; some = c.self-2-1.given.0 }) same call v r c.args.commit
    c.absorb.ensures.keeps more
    (c.in_ok-push-2.ensures.items ∙ ap (λ (cs : List Commit). cs ++ c.args.commit ∷ []) c.reserve-2.ensures.items)
    refl c.absorb.ensures.limit shares is (c.in_ok-version.ensures.stands (ProverNodes (digest_at hash P)) P.types P.state v stands)
