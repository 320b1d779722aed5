use Rattle.std.proofs.Common.{◌-◌, length, ◌∙◌}
use Rattle.std.proofs.lemmas.Result.{IfOk-weaker}
use Rattle.mode_vm.specs.Meanings.{program_of}
use Rattle.session_meaning.specs.Server.{version_at}
use Rattle.value_store.specs.Stores.{nodes_in}
use Rattle.session_turns.proofs.Sharing.{last_stands}
use Rattle.session_turns.proofs.shared.Shared.last_spelling.Goals as goal

pub version_spelling-requires-after_bounds : goal.version_spelling-requires-after_bounds
version_spelling-requires-after_bounds g c κs within =
    let vs = c.requires.0.versions in (
      version_at vs (length vs - 1),
      last_stands g.H.Hash32.hash (program_of c.args.code.now) (nodes_in c.args.self.now.store) c.args.self.now.versions.items vs c.requires.1.versions
          c.len.result (c.len.ensures ∙ c.args.self.now.versions.ok.0) c.args.self.now.some c.index-last.result.now c.index-last.ensures,
    )

pub returns : goal.returns
returns g c =
    IfOk-weaker c.version_spelling.result _ _
    (λ bytes h shared shares. h (version_at shared.versions (length shared.versions - 1))
    (last_stands g.H.Hash32.hash (program_of c.args.code.now) (nodes_in c.args.self.now.store) c.args.self.now.versions.items shared.versions shares.versions
    c.len.result (c.len.ensures ∙ c.args.self.now.versions.ok.0) c.args.self.now.some c.index-last.result.now c.index-last.ensures))
    c.version_spelling.ensures
