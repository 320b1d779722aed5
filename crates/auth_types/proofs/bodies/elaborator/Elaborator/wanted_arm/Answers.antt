use Rattle.std.proofs.Common.{◌<◌, ◌∙◌, length, Err, ap}
use Rattle.std.proofs.lemmas.Result.{err_from_is_err_and}
use Rattle.core_terms.specs.TypeTables.{type_at}
use Rattle.declared_types.specs.Checking.{Sound}
use Rattle.declared_types.proofs.TypeNumbers.{grows_self}
use Rattle.auth_types.specs.Bodies.{wanted}
use Rattle.auth_types.specs.Elaborators.{boxed_of, typed_of, types_of}
use Rattle.auth_types.proofs.FindingSteps.{fault_first}
use Rattle.auth_types.proofs.RowSteps.{body_shows}
use Rattle.auth_types.proofs.bodies.elaborator.Elaborator.wanted_arm.Goals as goal

pub returns-in_err-term-in-Some-clause-found : goal.returns-in_err-term-in-Some-clause-found
returns-in_err-term-in-Some-clause-found c =
    let p = err_from_is_err_and c.from_residual.result c.from_residual.ensures.1 in
    let types = types_of c.args.self.now in
    let t = type_at types c.in-Some.ty in
    rw c.in-Some.is
    (λ found h. fault_first types types boxed_of typed_of (wanted c.args.at t found) (λ e. Sound (record { expression = e; of_type = t })) _ _
    (p.1 ∙ ap Err p.2) (c.in_err-term-in-Some.ensures found h))

pub returns-in_ok-term-in-Some : goal.returns-in_ok-term-in-Some
returns-in_ok-term-in-Some c =
    let types = types_of c.args.self.now in
    let inside : c.in-Some.ty.0 < length types = rw c.in-Some.is at c.requires.wanted in
    record {
      found = rw c.in-Some.is
          (λ found h. body_shows types types c.in-Some.ty c.args.at found c.in_ok-term-in-Some.term (grows_self types) inside
          (c.in_ok-term-in-Some.ensures found h));
      inside = inside;
    }

pub returns-in-None-clause-found : goal.returns-in-None-clause-found
returns-in-None-clause-found c = rw c.in-None.is (λ found h. h)
