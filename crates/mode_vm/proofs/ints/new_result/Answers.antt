use Rattle.std.proofs.Common.{sym, ap₂, ◌∙◌, arith}
use Rattle.core_terms.specs.Values.{IntV}
use Rattle.ideal_meaning.specs.Run as meant
use Rattle.mode_vm.proofs.PassedInts.{kept}
use Rattle.mode_vm.proofs.ints.new_result.Goals as goal

pub returns-in-Ok : goal.returns-in-Ok
returns-in-Ok g c = record {
  makes = λ m kind types x y h j. (
    IntV c.in-Ok.z,
    kept c.in-Ok.z (omega arith),
    λ k w. ap₂ (λ x y. meant.arith_of c.args.op (meant.int_in x) (meant.int_in y) k w) (c.int_in-x.ensures kind types x h) (c.int_in-y.ensures kind types y j)
        ∙ sym (ap₂ (λ x y. meant.arith_of c.args.op x y k w) (kept c.int_in-x.result (omega arith)) (kept c.int_in-y.result (omega arith))) ∙ c.in-Ok.ensures m k w,
  );
}

pub returns-in-Err : goal.returns-in-Err
returns-in-Err g c = record {
  makes = λ m kind types x y h j k w.
      ap₂ (λ x y. meant.arith_of c.args.op (meant.int_in x) (meant.int_in y) k w) (c.int_in-x.ensures kind types x h) (c.int_in-y.ensures kind types y j)
      ∙ sym (ap₂ (λ x y. meant.arith_of c.args.op x y k w) (kept c.int_in-x.result (omega arith)) (kept c.int_in-y.result (omega arith))) ∙ c.in-Err.ensures m k w;
}
