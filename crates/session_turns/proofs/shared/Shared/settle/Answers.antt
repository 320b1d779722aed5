use Rattle.std.proofs.Common.{◌≡◌, suc, ◌++◌, length, take, Option, ◌∙◌, subst, arith, eq-eqb}
use Rattle.mode_vm.specs.Meanings.{program_of}
use Rattle.value_store.specs.Overs.{own_nodes}
use Rattle.value_store.specs.Stores.{nodes_in}
use Rattle.value_store.specs.declared.node.Ref.{Ref}
use Rattle.session_turns.specs.Settling.{IsMade}
use Rattle.session_turns.specs.Versions.{IsVersion}
use Rattle.session_turns.proofs.Rows.{alike_length}
use Rattle.session_turns.proofs.Settlements.{moved, stale, unequal}
use Rattle.session_turns.proofs.shared.Shared.settle.Goals as goal

pub returns-then-version-number-clause-settled : goal.returns-then-version-number-clause-settled
returns-then-version-number-clause-settled g c number s call frames made shared shares ends =
    let hash = g.H.Hash32.hash in
    let P = program_of c.args.code.now in
    let base = nodes_in c.args.self.now.store in
    let nodes = take c.args.ended.from base ++ own_nodes c.args.ended.own in
    let count : c.len-number.result ≡ length shared.versions =
    c.len-number.ensures ∙ c.args.self.now.versions.ok.0 ∙ alike_length (IsVersion hash P base) c.args.self.now.versions.items shared.versions shares.versions in
    let at = ends.on_version in
    stale hash P c.args.self.now number s call frames shared nodes c.in-Some.made made c.in_ok-last.last (subst (λ (o : Option Ref). IsMade hash P nodes o made) c.in-Some.is ends.has_made)
    (c.in_ok-last.ensures shared shares) (unequal (suc s.version) (length shared.versions) (λ (e : suc s.version ≡ length shared.versions). omega (arith, count, at, e)))
    ends.fits shares

pub returns-clause-settled : goal.returns-clause-settled
returns-clause-settled g c number s call frames made shared shares ends =
    let hash = g.H.Hash32.hash in
    let P = program_of c.args.code.now in
    let base = nodes_in c.args.self.now.store in
    let nodes = take c.args.ended.from base ++ own_nodes c.args.ended.own in
    let count : c.len-number.result ≡ length shared.versions =
    c.len-number.ensures ∙ c.args.self.now.versions.ok.0 ∙ alike_length (IsVersion hash P base) c.args.self.now.versions.items shared.versions shares.versions in
    let at = ends.on_version in
    moved hash P c.commit.new.self number s call frames shared nodes c.in-Some.made made c.len-number.result (subst (λ (o : Option Ref). IsMade hash P nodes o made) c.in-Some.is ends.has_made)
    count (eq-eqb (suc s.version) (length shared.versions) (omega (arith, count, at))) ends.fits
    (λ v stands. c.in_ok-commit.ensures.commits hash P shared call v shares ends.of_call stands)
