-- The state is read first, at its type, and then the argument.
use Rattle.std.proofs.Common.{◌≡◌, ◌∙◌, Ok, Err, ap, subst}
use Rattle.core_terms.specs.ProgramTypes.{types_by_number, types_meaning}
use Rattle.core_terms.specs.Projection.{read_at}
use Rattle.core_terms.specs.Reading.{BadAt}
use Rattle.core_terms.specs.TypeTables.{type_at}
use Rattle.shallow_codec.specs.Unspelled.{IsUnspelled}
use Rattle.shallow_codec.specs.declared.fault.UnspellFault.TheVariants.{Bad}
use Rattle.value_store.specs.Standing.{VerifierNodes}
use Rattle.value_store.specs.Stores.{nodes_in}
use Rattle.verifier_mode.proofs.Parameters.{read_there}
use Rattle.verifier_mode.proofs.judge.put_call.Goals as goal

pub returns-in-Err-Bad-clause-put : goal.returns-in-Err-Bad-clause-put
returns-in-Err-Bad-clause-put c =
    let P = types_meaning c.args.types.now in
    let t = type_at (types_by_number c.args.types.now) c.state_type.result in
    let nodes = nodes_in c.unspell.new.store in
    let read : read_at P P.state c.args.state.now ≡ BadAt c.in-Err-Bad.offset = read_there P t P.state nodes c.args.state.now (Err (Bad c.in-Err-Bad.offset)) c.state_type.ensures.state
    (subst (λ f. IsUnspelled P.types nodes t (read_at P t c.args.state.now) (Err f)) c.in-Err-Bad.field-0-is c.in-Err-Bad.ensures.value) in
    let same = c.in-Err-Bad.offset-is in
    cc

pub returns-in-Err-Bad-unspell-clause-put : goal.returns-in-Err-Bad-unspell-clause-put
returns-in-Err-Bad-unspell-clause-put c =
    let P = types_meaning c.args.types.now in
    let t = type_at (types_by_number c.args.types.now) c.state_type.result in
    let u = type_at (types_by_number c.args.types.now) c.args.ty in
    let nodes = nodes_in c.unspell-2.new.store in
    let state = read_there P t P.state (nodes_in c.unspell.new.store) c.args.state.now (Ok c.in-Ok.state) c.state_type.ensures.state c.in-Ok.ensures.value in
    let read : read_at P u c.args.argument.now ≡ BadAt c.in-Err-Bad-unspell.offset =
    subst (λ f. IsUnspelled P.types nodes u (read_at P u c.args.argument.now) (Err f)) c.in-Err-Bad-unspell.field-0-is c.in-Err-Bad-unspell.ensures.value in
    let same = c.in-Err-Bad-unspell.offset-is in
    (state.0, (state.1, state.2), cc)

pub returns-in-Ok-unspell-clause-put : goal.returns-in-Ok-unspell-clause-put
returns-in-Ok-unspell-clause-put c =
    let P = types_meaning c.args.types.now in
    let t = type_at (types_by_number c.args.types.now) c.state_type.result in
    let s = read_there P t P.state (nodes_in c.unspell.new.store) c.args.state.now (Ok c.in-Ok.state) c.state_type.ensures.state c.in-Ok.ensures.value in
    let a = c.in-Ok-unspell.ensures.value in (
      s.0,
      a.0,
      (s.1, s.2),
      (a.1, a.2),
      (c.in-Ok-unspell.ensures.keeps VerifierNodes P.types c.in-Ok.state.0 P.state s.0 s.3, (a.3, tt)),
    )

pub returns-in-Err-Bad-unspell-clause-limit : goal.returns-in-Err-Bad-unspell-clause-limit
returns-in-Err-Bad-unspell-clause-limit c = ap (λ l. l.limit) (c.in-Err-Bad-unspell.ensures.lent ∙ c.in-Ok.ensures.lent)

pub returns-in-Ok-unspell-clause-limit : goal.returns-in-Ok-unspell-clause-limit
returns-in-Ok-unspell-clause-limit c = ap (λ l. l.limit) (c.in-Ok-unspell.ensures.lent ∙ c.in-Ok.ensures.lent)
