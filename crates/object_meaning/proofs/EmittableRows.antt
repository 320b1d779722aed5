-- A program of the examples may be emitted: the premises of what is written of programs can be met.
use Rattle.std.proofs.Common.{ℕ, [], ◌∷◌, refl, arith}
use Rattle.std.specs.Prelude.{All}
use Rattle.std.proofs.lemmas.List.Elements.{All-cons, All-nil}
use Rattle.core_terms.specs.Terms.{Function, function_at}
use Rattle.core_terms.proofs.TypingSound.{typed_sound}
use Rattle.ideal_meaning.specs.Examples.{bool_program}
use Rattle.object_meaning.specs.KindLaws.{IsWritten}
use Rattle.object_meaning.specs.EmittablePrograms.{IsEmittable}

written : All (IsWritten bool_program) bool_program.functions
written =
    let W = IsWritten bool_program in
    let g : ℕ → Function = function_at bool_program in
    All-cons W (g 0) (g 1 ∷ (g 2 ∷ (g 3 ∷ []))) (record { arms = tt; locals = omega arith })
    (All-cons W (g 1) (g 2 ∷ (g 3 ∷ [])) (record { arms = (tt, tt); locals = omega arith })
    (All-cons W (g 2) (g 3 ∷ []) (record { arms = (tt, (tt, tt)); locals = omega arith })
    (All-cons W (g 3) [] (record { arms = (tt, (tt, tt)); locals = omega arith }) (All-nil W))))

bools_are_emittable : IsEmittable bool_program []
bools_are_emittable = record {
  limit = refl;
  typed = typed_sound bool_program refl;
  shaped = refl;
  written = written;
  closed = record {
    fields = tt;
    state = tt;
    functions = (
      record { parameters = (tt, tt); result = tt; code = (tt, (tt, (tt, tt))) },
      (
        record { parameters = (tt, (tt, tt)); result = (tt, tt); code = (tt, (tt, (tt, (tt, (tt, (tt, tt)))))) },
        (
          record { parameters = (tt, (tt, tt)); result = (tt, tt); code = (tt, (tt, (tt, (tt, (tt, (tt, (tt, (tt, (tt, (tt, tt)))))))))) },
          (record { parameters = (tt, (tt, tt)); result = tt; code = (tt, (tt, (tt, (tt, (tt, (tt, (tt, (tt, tt)))))))) }, tt),
        ),
      ),
    );
  };
  few_types = omega arith;
  named = tt;
  few_functions = omega arith;
  functions = (
    record { name = record { is_formed = refl; is_new = refl }; some = omega arith; few = omega arith },
    (
      record { name = record { is_formed = refl; is_new = refl }; some = omega arith; few = omega arith },
      (
        record { name = record { is_formed = refl; is_new = refl }; some = omega arith; few = omega arith },
        (record { name = record { is_formed = refl; is_new = refl }; some = omega arith; few = omega arith }, tt),
      ),
    ),
  );
}
