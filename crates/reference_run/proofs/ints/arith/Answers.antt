use Rattle.std.proofs.Common.{◌∙◌, ℕ, List, sym, ap, ap₂, subst, arith, Ok, Err}
use Rattle.core_terms.specs.Values.{Value}
use Rattle.ideal_meaning.specs.Run.{Gives}
use Rattle.ideal_meaning.specs.Run as meant
use Rattle.ideal_meaning.specs.Ideal.{Opened}
use Rattle.reference_run.specs.Telling.{Evaluation, TellsBehind, pair_values}
use Rattle.reference_run.specs.declared.stop.Stop.TheVariants.{Trapped}
use Rattle.reference_run.specs.declared.values.Plain as plain
use Rattle.reference_run.proofs.Calculated.{behind}
use Rattle.reference_run.proofs.PassedInts.{kept}
use Rattle.reference_run.proofs.ValueViews.{plain-IntValue}
use Rattle.reference_run.proofs.ints.arith.Goals as goal

pub returns-in-Ok : goal.returns-in-Ok
returns-in-Ok c =
    let go : Value × Value → ℕ → List Opened → Evaluation Value = λ xy k seen. meant.arith_of c.args.op (meant.int_in xy.0) (meant.int_in xy.1) k seen in
    subst (λ z. TellsBehind pair_values go c.args.operands (Ok (plain.IntValue z))) (sym (kept c.in-Ok.z (omega arith)))
    (behind pair_values go c.args.operands (c.in_ok-x.x, c.in_ok-x.y) (Ok (plain.IntValue c.in-Ok.z)) c.in_ok-x.was (λ k seen. (
      seen,
      sym (ap₂ (λ x y. meant.arith_of c.args.op x y k seen) (kept c.int_in.result (omega arith) ∙ c.int_in.ensures) (kept c.int_in-2.result (omega arith) ∙ c.int_in-2.ensures))
          ∙ c.in-Ok.ensures k seen ∙ ap (λ v. Gives v k seen) (sym (plain-IntValue c.in-Ok.z)),
    )))

pub returns : goal.returns
returns c =
    behind pair_values (λ xy k seen. meant.arith_of c.args.op (meant.int_in xy.0) (meant.int_in xy.1) k seen) c.args.operands (c.in_ok-x.x, c.in_ok-x.y) (Err (Trapped c.in-Err.trap))
    c.in_ok-x.was (λ k seen. (
      seen,
      sym (ap₂ (λ x y. meant.arith_of c.args.op x y k seen) (kept c.int_in.result (omega arith) ∙ c.int_in.ensures) (kept c.int_in-2.result (omega arith) ∙ c.int_in-2.ensures))
          ∙ c.in-Err.ensures k seen,
    ))
