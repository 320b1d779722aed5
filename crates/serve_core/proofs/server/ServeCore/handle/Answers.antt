use Rattle.std.proofs.Common.{[], refl, sym, ◌∙◌, subst}
use Rattle.code_gen.specs.declared.code.Code.{Code}
use Rattle.mode_vm.specs.Meanings.{program_of}
use Rattle.session_turns.specs.Sharing.{Shares}
use Rattle.session_turns.specs.declared.shared.Shared.{Shared}
use Rattle.serve_core.proofs.Steps.{err_then, without_sessions}
use Rattle.serve_core.proofs.server.ServeCore.handle.Goals as goal

pub returns-then-is_err-clause-stopped : goal.returns-then-is_err-clause-stopped
returns-then-is_err-clause-stopped g c =
    err_then _ _ (λ f server h.
    let hash = g.H.Hash32.hash in
    let new = c.end_sessions.new.self in
    let r = f server h in
    let shares = subst (λ (code : Code). Shares hash (program_of code) new.shared r.0) (sym (c.end_sessions.ensures.code ∙ c.answer-answer.ensures.code))
    (subst (λ (s : Shared). Shares hash (program_of c.args.self.now.code) s r.0) (sym c.end_sessions.ensures.shared) r.2) in
    (record { shared = r.0; heard = 0; sessions = [] }, (r.1, refl, refl), without_sessions hash new r.0 shares c.end_sessions.ensures.sessions c.end_sessions.ensures.heard))
    c.answer-answer.result c.answer-answer.ensures.stopped
