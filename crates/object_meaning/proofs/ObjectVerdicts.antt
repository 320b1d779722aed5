-- Each verdict on the object of a program is that on the program.
use Rattle.std.proofs.Common.{◌≡◌, ◌<◌, ◌^◌, ℕ, Bool, true, false, List, [], ◌∷◌, length, drop, nat_lt, Option, Some, None, unwrap_or, arith, refl, sym, ap, ◌∙◌, subst, if◌then◌else◌}
use Rattle.core_terms.specs.Formats.{Format, Hash, depth_limit}
use Rattle.core_terms.specs.Projection.{read_at}
use Rattle.core_terms.specs.Reading.{Read, Good, BadAt, read, read_value, whole}
use Rattle.core_terms.specs.RoleTypes.{ReadsState, role_parameters}
use Rattle.core_terms.specs.Spelling.{AreBytes}
use Rattle.core_terms.specs.Terms.{Kind, Inner, Init, Query, Update, Program, function_at, no_function}
use Rattle.core_terms.specs.TypingRules.{IsTyped}
use Rattle.core_terms.specs.Types.{Ty, Table}
use Rattle.core_terms.specs.Values.{Value, Values, NoV, AndV, IsShallow, AreShallow}
use Rattle.core_terms.proofs.LawProofs.{first_format_is_format, reading_is_exact}
use Rattle.ideal_meaning.specs.Checked.{Taking, before_all, checked, judged, verdict, with_argument, with_header, with_state}
use Rattle.ideal_meaning.specs.Frames.{header, offered}
use Rattle.object_meaning.specs.ClosedPrograms.{IsClosedProgram}
use Rattle.object_meaning.specs.ObjectBodies.{object_format}
use Rattle.object_meaning.specs.ObjectLaws.{compiled, VerdictsAreTheSame}
use Rattle.object_meaning.proofs.ObjectPrograms.{objects_are_programs, objects_mean_the_same}

-- what is read is the whole, and a shallow value
rest_is : (r : Read Value) (s : Value) (rest : List ℕ) (end : ℕ) → whole r ≡ Good s rest end → rest ≡ []
rest_is (Good v [] place) s rest end e = let is : [] ≡ rest = cc in sym is
rest_is (Good v (b ∷ more) place) s rest end e = absurd (cc (e))
rest_is (BadAt place) s rest end e = absurd (cc (e))

read_shallow : (limit : ℕ) → limit < 2 ^ 32 → (types : Table) (bytes : List ℕ) (t : Ty) (s : Value) (rest : List ℕ) (end : ℕ) → AreBytes bytes → read limit types t bytes ≡ Good s rest end
    → IsShallow types t s
read_shallow limit fits types bytes t s rest end h e =
    ((reading_is_exact limit fits types bytes t s h).1 (end, e ∙ ap (λ rest. Good s rest end) (by (nat_lt limit (length bytes)) e))).shape
  where
    by : (b : Bool) → (if b then BadAt limit else whole (read_value types depth_limit t bytes 0)) ≡ Good s rest end → rest ≡ []
    by true e = absurd (cc (e))
    by false e = rest_is (read_value types depth_limit t bytes 0) s rest end e

module _ (P : Program) (names : List (List (List ℕ))) (format : P.format ≡ object_format) (closed : IsClosedProgram P) (none : P.code ≡ None) (typed : IsTyped P) (hash : Hash)
    (f : ℕ) (t : Ty) (is : (function_at P f).parameters ≡ P.state ∷ (t ∷ [])) (state argument : List ℕ) (k : ℕ) (bytes : List ℕ) where
  same_run : (args : Values) (w : Taking) → AreShallow P.types (function_at P f).parameters args → checked hash (compiled P) f args k w ≡ checked hash P f args k w
  same_run args w h =
      subst (λ R. checked hash R f args k w ≡ checked hash P f args k w) (objects_are_programs P names format closed) ((objects_mean_the_same P names format closed none typed f args k).1 hash w h)

  fits : P.format.limit < 2 ^ 32
  fits = subst (λ (format : Format). format.limit < 2 ^ 32) (sym format) ((first_format_is_format 1024 (omega arith)).limit_fits)

  on_header : (s a : Value) → IsShallow P.types P.state s → IsShallow P.types t a → (o : Option ℕ)
      → with_header hash (compiled P) o f (AndV s (AndV a NoV)) k bytes ≡ with_header hash P o f (AndV s (AndV a NoV)) k bytes
  on_header s a hs ha None = refl
  on_header s a hs ha (Some n) =
      ap judged (same_run (AndV s (AndV a NoV)) (before_all (length (drop 6 bytes)) (offered P.format.limit (drop 6 bytes) n []))
      (subst (λ ts. AreShallow P.types ts (AndV s (AndV a NoV))) (sym is) (hs, (ha, tt))))

  on_argument : (s : Value) → IsShallow P.types P.state s → AreBytes argument → (r : Read Value) → read_at P t argument ≡ r
      → with_argument hash (compiled P) s r f k bytes ≡ with_argument hash P s r f k bytes
  on_argument s hs b (BadAt offset) e = refl
  on_argument s hs b (Good a rest end) e = on_header s a hs (read_shallow P.format.limit fits P.types argument t a rest end b e) (header P.format bytes)

  on_state : AreBytes state → AreBytes argument → (r : Read Value) → read_at P P.state state ≡ r → with_state hash (compiled P) t r argument f k bytes ≡ with_state hash P t r argument f k bytes
  on_state b d (BadAt offset) e = refl
  on_state b d (Good s rest end) e = on_argument s (read_shallow P.format.limit fits P.types state P.state s rest end b e) d (read_at P t argument) refl

-- a role that reads the state has it and the argument for its parameters
reads_both : (kind : Kind) (state t : Ty) → ReadsState kind → role_parameters kind state t ≡ state ∷ (t ∷ [])
reads_both Inner state t h = elim h [ ]
reads_both Init state t h = elim h [ ]
reads_both Query state t h = refl
reads_both Update state t h = refl

pub verdicts_are_the_same : VerdictsAreTheSame
verdicts_are_the_same P names format closed none typed hash f kind t answer role reads state argument b d k bytes =
    let is : (function_at P f).parameters ≡ P.state ∷ (t ∷ []) = ap (λ o. (unwrap_or o no_function).parameters) role.there ∙ role.parameters ∙ reads_both kind P.state t reads in
    ap (λ R. verdict hash R t f state argument k bytes) (objects_are_programs P names format closed)
    ∙ on_state P names format closed none typed hash f t is state argument k bytes b d (read_at P P.state state) refl
