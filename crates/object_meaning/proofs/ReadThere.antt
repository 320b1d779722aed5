-- What an instruction of an object that was read names is there, and its literal is one of the language.
use Rattle.std.proofs.Common.{◌≡◌, ◌<◌, ◌≤◌, ℕ, zero, suc, ◌+◌, Bool, true, false, ◌&&◌, List, [], ◌∷◌, ◌++◌, length, map, take, drop, nat_lt, nat_le, nat_eq, Option, Some, None, slice_index_or, IsUtf8, refl, sym, ap, ◌∙◌, subst, arith, length-append, ltb-true, ltb-false, leb-true, if◌then◌else◌}
use Rattle.std.specs.Str.{is_utf8}
use Rattle.std.proofs.lemmas.List.{length-take-le, length-map}
use Rattle.std.proofs.lemmas.Str.{IsUtf8-from_is_utf8}
use Rattle.core_terms.specs.Terms.{Kind, Inner}
use Rattle.core_terms.specs.Types.{Ty}
use Rattle.core_terms.specs.Values.{int_fits}
use Rattle.core_terms.specs.ProgramLimits.{most_functions, most_parameters}
use Rattle.core_terms.specs.declared.term.Arith.TheVariants.{Add}
use Rattle.core_terms.specs.declared.term.Compare.TheVariants.{Eq}
use Rattle.core_terms.specs.declared.term.TextCompare.TheVariants.{Eq as TEq}
use Rattle.std.specs.Int.{w16, w32, w64, from_be_bytes, cast_signed}
use Rattle.core_terms.specs.Bodies.{Body}
use Rattle.object_meaning.specs.Objects.{ListedType, Instruction, PushUnit, PushBool, PushInt, PushText, Load, Bind, Unbind, Pair, Fst, Snd, Make, Switch, Branch, Jump, Call, Return, Auth, Unauth, ArithOp, CompareOp, TextCompareOp, Cat, Len, Not, ListedFunction, Object, most_listed_types}
use Rattle.object_meaning.specs.Readers.{Taken, Took, CutShort, BadAt, Reader, then_take, taken_as, field, u8, u16, u32, any, within, text_behind, times_from, times, times_behind}
use Rattle.object_meaning.specs.ReadObjects.{constructors_of, is_named, ariths, compares, text_compares, kinds, role_name_read, type_number, type_read, magic_read, nothing_read, text_read, int_read, is_int, operand_readers, instruction_read, behind_name, behind_count, behind_parameters, behind_result, behind_length, function_read, behind_function_count, behind_state, behind_types, behind_type_count, behind_magic, object_read}
use Rattle.object_meaning.specs.ObjectBodies.{instruction_of, code_from, function_in, trees_of, body_in, program_in}
use Rattle.core_terms.specs.Kinds.{Spot, kind_fault, kinds_test}
use Rattle.object_meaning.proofs.There.{IsThere, AreThere, AllThere, kinds_pass}
use Rattle.object_meaning.specs.Accepting.{Accepts, accepting, shapes_judged, kinds_judged, read_judged, shape_fault}
use Rattle.object_meaning.specs.ObjectLaws.{ObjectsAreAccepted}
use Rattle.core_terms.proofs.KindsSound.{kinds_sound}

-- What was taken: a first part, and what goes on behind it.
pub taken_then : {A B : Type 0} (Q : Type 0) (t : Taken A) (go : A → Reader B) (b : B) (rest : List ℕ) (p : ℕ) → then_take t go ≡ Took b rest p
    → ((a : A) (r : List ℕ) (q : ℕ) → t ≡ Took a r q → go a r q ≡ Took b rest p → Q) → Q
taken_then Q (Took a r q) go b rest p e f = f a r q refl e
taken_then Q CutShort go b rest p e f = absurd (cc)
taken_then Q (BadAt o) go b rest p e f = absurd (cc)

pub taken_is : {A : Type 0} (a b : A) (r s : List ℕ) (p q : ℕ) → Took a r p ≡ Took b s q → a ≡ b
taken_is a b r s p q e = cc

pub taken_rest : {A : Type 0} (a b : A) (r s : List ℕ) (p q : ℕ) → Took a r p ≡ Took b s q → r ≡ s
taken_rest a b r s p q e = cc

taken_by : {A B : Type 0} (Q : B → Type 0) (h : A → B) (t : Taken A) (b : B) (rest : List ℕ) (p : ℕ) → taken_as h t ≡ Took b rest p → ((a : A) (r : List ℕ) (q : ℕ) → t ≡ Took a r q → Q (h a)) → Q b
taken_by Q h t b rest p e f = taken_then (Q b) t (λ a rest place. Took (h a) rest place) b rest p e (λ a r q t g. subst Q (taken_is (h a) b r rest q p g) (f a r q t))

field_passes : (n : ℕ) (number : List ℕ → ℕ) (test : ℕ → Bool) (bytes : List ℕ) (place x : ℕ) (rest : List ℕ) (p : ℕ) → field n number test bytes place ≡ Took x rest p → test x ≡ true
field_passes n number test bytes place x rest p e = by (nat_lt (length bytes) n) (test (number (take n bytes))) refl e
  where
    by : (b c : Bool) → test (number (take n bytes)) ≡ c
        → (if b then CutShort else (if c then Took (number (take n bytes)) (drop n bytes) (place + n) else BadAt place)) ≡ Took x rest p → test x ≡ true
    by true c t e = absurd (cc (e))
    by false true t e = subst (λ y. test y ≡ true) (taken_is (number (take n bytes)) x (drop n bytes) rest (place + n) p e) t
    by false false t e = absurd (cc (e))

pub text_passes : (offset n : ℕ) (test : List ℕ → Bool) (bytes : List ℕ) (place : ℕ) (x rest : List ℕ) (p : ℕ) → text_behind offset test n bytes place ≡ Took x rest p → (test x ≡ true) × (length x ≡ n)
text_passes offset n test bytes place x rest p e = by (nat_lt (length bytes) n) refl (test (take n bytes)) refl e
  where
    by : (b : Bool) → nat_lt (length bytes) n ≡ b → (c : Bool) → test (take n bytes) ≡ c
        → (if b then CutShort else (if c then Took (take n bytes) (drop n bytes) (place + n) else BadAt offset)) ≡ Took x rest p → (test x ≡ true) × (length x ≡ n)
    by true l c t e = absurd (cc (e))
    by false l true t e =
        let long : n ≤ length bytes = ltb-false (length bytes) n l in
        let size : length (take n bytes) ≡ n = length-take-le n bytes long in
        subst (λ y. (test y ≡ true) × (length y ≡ n)) (taken_is (take n bytes) x (drop n bytes) rest (place + n) p e) (t, size)
    by false l false t e = absurd (cc (e))

-- of all that was taken
abbrev pub AllOf : {A : Type 0} → (A → Type 0) → List A → Type 0
AllOf Q [] = Unit {0}
AllOf Q (a ∷ rest) = Q a × AllOf Q rest

abbrev pub Anything : {A : Type 0} → A → Type 0
Anything a = Unit {0}

abbrev Gives : {A : Type 0} → (A → Type 0) → Reader A → Type 0
Gives {A} Q read = (bytes : List ℕ) (place : ℕ) (a : A) (rest : List ℕ) (p : ℕ) → read bytes place ≡ Took a rest p → Q a

times_give : {A : Type 0} (Q : A → Type 0) (one : ℕ → Reader A) → ((i : ℕ) → Gives Q (one i)) → (i n : ℕ) → Gives (AllOf Q) (times_from i n one)
times_give Q one g i zero bytes place items rest p e = subst (AllOf Q) (taken_is [] items bytes rest place p e) tt
times_give Q one g i (suc n) bytes place items rest p e =
    taken_then (AllOf Q items) (one i bytes place) (λ a bytes place. taken_as (λ more. a ∷ more) (times_from (suc i) n one bytes place)) items rest p e (λ a r q t h.
    taken_by (AllOf Q) (λ more. a ∷ more) (times_from (suc i) n one r q) items rest p h (λ more s u k. (g i bytes place a r q t, times_give Q one g (suc i) n r q more s u k)))

pub all_append : {A : Type 0} (Q : A → Type 0) (xs : List A) (a : A) → AllOf Q xs → Q a → AllOf Q (xs ++ a ∷ [])
all_append Q [] a h q = (q, tt)
all_append Q (x ∷ xs) a h q = (h.0, all_append Q xs a h.1 q)

behind_give : {A : Type 0} (Q : A → Type 0) (one : List A → Reader A) → ((before : List A) → Gives Q (one before)) → (before : List A) (n : ℕ) → AllOf Q before
    → Gives (λ items. AllOf Q items × (length items ≡ length before + n)) (times_behind before n one)
behind_give Q one g before zero b bytes place items rest p e = subst (λ items. AllOf Q items × (length items ≡ length before + 0)) (taken_is before items bytes rest place p e) (b, omega arith)
behind_give Q one g before (suc n) b bytes place items rest p e =
    taken_then _ (one before bytes place) (λ a bytes place. times_behind (before ++ a ∷ []) n one bytes place) items rest p e (λ a r q t h.
    let k = behind_give Q one g (before ++ a ∷ []) n (all_append Q before a b (g before bytes place a r q t)) r q items rest p h in
    (k.0, k.1 ∙ omega (arith, length-append before (a ∷ []))))

gives_taken : {A B : Type 0} (Q : B → Type 0) (h : A → B) (read : Reader A) → ((a : A) → Q (h a)) → Gives Q (λ bytes place. taken_as h (read bytes place))
gives_taken Q h read f bytes place b rest p e = taken_by Q h (read bytes place) b rest p e (λ a r q t. f a)

gives_then : {A B : Type 0} (Q : B → Type 0) (read : Reader A) (go : A → Reader B) → ((a : A) → Gives Q (go a)) → Gives Q (λ bytes place. then_take (read bytes place) go)
gives_then Q read go f bytes place b rest p e = taken_then (Q b) (read bytes place) go b rest p e (λ a r q t h. f a r q b rest p h)

gives_one : {A : Type 0} (Q : A → Type 0) (a : A) → Q a → Gives Q (λ bytes place. Took a bytes place)
gives_one Q a f bytes place b rest p e = subst Q (taken_is a b bytes rest place p e) f

abbrev AllGive : {A : Type 0} → (A → Type 0) → List (Reader A) → Type 0
AllGive Q [] = Unit {0}
AllGive Q (read ∷ reads) = Gives Q read × AllGive Q reads

any_gives : {A : Type 0} (Q : A → Type 0) (reads : List (Reader A)) → AllGive Q reads → (n : ℕ) → Gives Q (slice_index_or reads n nothing_read)
any_gives Q [] h n bytes place b rest p e = absurd (cc (e))
any_gives Q (read ∷ reads) h zero bytes place b rest p e = h.0 bytes place b rest p e
any_gives Q (read ∷ reads) h (suc n) bytes place b rest p e = any_gives Q reads h.1 n bytes place b rest p e

-- what an instruction names is there, and its literal is one of the language
abbrev There : ℕ → Instruction → Type 0
There functions (PushInt z) = int_fits z ≡ true
There functions (PushText bytes) = IsUtf8 bytes × (length bytes ≤ 65532)
There functions (Call f) = f < functions
There functions x = Unit {0}

pub first_of : (a b : Bool) → a && b ≡ true → a ≡ true
first_of true b e = refl
first_of false b e = e

pub second_of : (a b : Bool) → a && b ≡ true → b ≡ true
second_of true b e = e
second_of false b e = cc

pub within_most : (least most n : ℕ) → within least most n ≡ true → n ≤ most
within_most least most n e = leb-true n most (second_of (nat_le least n) (nat_le n most) e)

int_there : (functions : ℕ) → Gives (There functions) int_read
int_there functions bytes place x rest p e =
    taken_by (There functions) (λ n. PushInt (cast_signed w64 n)) (field 8 (from_be_bytes w64) is_int bytes place) x rest p e (λ n r q t. field_passes 8 (from_be_bytes w64) is_int bytes place n r q t)

text_there : (functions : ℕ) → Gives (There functions) text_read
text_there functions bytes place x rest p e =
    taken_then (There functions x) (u32 (within 0 65532) bytes place) (λ n bytes behind. taken_as PushText (text_behind place is_utf8 n bytes behind)) x rest p e (λ n r q t h.
    taken_by (There functions) PushText (text_behind place is_utf8 n r q) x rest p h (λ text s u k.
    let passes = text_passes place n is_utf8 r q text s u k in
    let few : n ≤ 65532 = within_most 0 65532 n (field_passes 4 (from_be_bytes w32) (within 0 65532) bytes place n r q t) in
    (IsUtf8-from_is_utf8 text passes.0, omega (arith, passes.1, few))))

call_there : (functions : ℕ) → Gives (There functions) (λ bytes place. taken_as Call (u16 (λ f. nat_lt f functions) bytes place))
call_there functions bytes place x rest p e =
    taken_by (There functions) Call (u16 (λ f. nat_lt f functions) bytes place) x rest p e (λ f r q t. ltb-true f functions (field_passes 2 (from_be_bytes w16) (λ f. nat_lt f functions) bytes place f r q t))

module _ (types : List ListedType) (functions : ℕ) where
  operands_there : (i n : ℕ) → AllGive (There functions) (operand_readers types functions i n)
  operands_there i n = (
    gives_one (There functions) PushUnit tt,
    (
      gives_taken (There functions) (λ b. PushBool (nat_eq b 1)) (u8 (within 0 1)) (λ b. tt),
      (
        int_there functions,
        (
          text_there functions,
          (
            gives_taken (There functions) Load (u8 any) (λ j. tt),
            (
              gives_one (There functions) Bind tt,
              (
                gives_taken (There functions) Unbind (u8 any) (λ j. tt),
                (
                  gives_one (There functions) Pair tt,
                  (
                    gives_one (There functions) Fst tt,
                    (
                      gives_one (There functions) Snd tt,
                      (
                        gives_then (There functions) (u32 (is_named types)) _ (λ ty. gives_taken (There functions) (Make ty) (u8 (λ tag. nat_lt tag (length (constructors_of types ty)))) (λ tag. tt)),
                        (
                          gives_then (There functions) (u32 (is_named types)) _ (λ ty.
                              gives_taken (There functions) (Switch ty) (times (length (constructors_of types ty)) (u32 (λ t. nat_lt i t && nat_lt t n))) (λ targets. tt)),
                          (
                            gives_taken (There functions) Branch (u32 (λ t. nat_lt i t && nat_lt t n)) (λ t. tt),
                            (
                              gives_taken (There functions) Jump (u32 (λ t. nat_lt i t && nat_lt t n)) (λ t. tt),
                              (
                                call_there functions,
                                (
                                  gives_one (There functions) Return tt,
                                  (
                                    gives_taken (There functions) Auth (u32 (λ t. nat_lt t (length types))) (λ t. tt),
                                    (
                                      gives_taken (There functions) Unauth (u32 (λ t. nat_lt t (length types))) (λ t. tt),
                                      (
                                        gives_taken (There functions) (λ op. ArithOp (slice_index_or ariths op Add)) (u8 (within 0 4)) (λ op. tt),
                                        (
                                          gives_taken (There functions) (λ op. CompareOp (slice_index_or compares op Eq)) (u8 (within 0 2)) (λ op. tt),
                                          (
                                            gives_taken (There functions) (λ op. TextCompareOp (slice_index_or text_compares op TEq)) (u8 (within 0 1)) (λ op. tt),
                                            (
                                              gives_one (There functions) Cat tt,
                                              (
                                                gives_one (There functions) Len tt,
                                                (
                                                  gives_one (There functions) Not tt,
                                                  tt,
                                                ),
                                              ),
                                            ),
                                          ),
                                        ),
                                      ),
                                    ),
                                  ),
                                ),
                              ),
                            ),
                          ),
                        ),
                      ),
                    ),
                  ),
                ),
              ),
            ),
          ),
        ),
      ),
    ),
  )

  instruction_there : (n i : ℕ) → Gives (There functions) (instruction_read types functions n i)
  instruction_there n i = gives_then (There functions) (u8 (within 0 23)) _ (λ code. any_gives (There functions) (operand_readers types functions i n) (operands_there i n) code)

  abbrev FunctionThere : ListedFunction → Type 0
  FunctionThere f = AllOf (There functions) f.code

  code_there : (kind : Kind) (name parameters : List ℕ) (result n : ℕ) → Gives FunctionThere (behind_length types functions kind name parameters result n)
  code_there kind name parameters result n bytes place f rest p e =
      taken_by FunctionThere (λ code. record { kind = kind; name = name; parameters = parameters; result = result; code = code }) (times_from 0 n (instruction_read types functions n) bytes place) f rest p e
      (λ code r q t. times_give (There functions) (instruction_read types functions n) (instruction_there n) 0 n bytes place code r q t)

  function_there : (before : List ListedFunction) → Gives FunctionThere (function_read types functions before)
  function_there before =
      gives_then FunctionThere (u8 (within 0 3)) _ (λ number.
      let kind = slice_index_or (kinds) number Inner in
      gives_then FunctionThere (role_name_read kind before) (behind_name types functions kind) (λ name.
      gives_then FunctionThere (u8 (within 1 most_parameters)) (behind_count types functions kind name) (λ count.
      gives_then FunctionThere (times count (type_number types functions)) (behind_parameters types functions kind name) (λ parameters.
      gives_then FunctionThere (type_number types functions) (behind_result types functions kind name parameters) (λ result.
      gives_then FunctionThere (u32 (nat_le 1)) (behind_length types functions kind name parameters result) (λ n. code_there kind name parameters result n))))))

-- of a whole object
abbrev ObjectThere : Object → Type 0
ObjectThere o = AllOf (λ (f : ListedFunction). AllOf (There (length o.functions)) f.code) o.functions

functions_there : (types : List ListedType) (state functions : ℕ) → Gives ObjectThere (behind_function_count types state functions)
functions_there types state functions bytes place o rest p e =
    taken_by ObjectThere (λ functions. record { types = types; state = state; functions = functions }) (times_behind [] functions (function_read types functions) bytes place) o rest p e (λ fs r q t.
    let g = behind_give (FunctionThere types functions) (function_read types functions) (function_there types functions) [] functions tt bytes place fs r q t in
    let n : functions ≡ length fs = omega (arith, g.1) in
    subst (λ n. AllOf (λ (f : ListedFunction). AllOf (There n) f.code) fs) n g.0)

object_there : Gives ObjectThere object_read
object_there =
    gives_then ObjectThere magic_read behind_magic (λ magic.
    gives_then ObjectThere (u32 (within 0 most_listed_types)) behind_type_count (λ count.
    gives_then ObjectThere (times_behind [] count (type_read count)) (behind_types count) (λ types.
    gives_then ObjectThere (u32 (λ t. nat_lt t count)) (behind_state types) (λ state.
    gives_then ObjectThere (u16 (within 0 most_functions)) (behind_function_count types state) (λ functions. functions_there types state functions)))))

-- as code
module _ (o : Object) where
  abbrev B : Body
  B = body_in o

  is_there : (trees : List Ty) (i : ℕ) (x : Instruction) → There (length o.functions) x → IsThere B (instruction_of trees i x)
  is_there trees i (PushInt z) h = h
  is_there trees i (PushText bytes) h = h
  is_there trees i (Call f) h = subst (λ n. f < n) (sym (length-map o.functions (function_in (trees_of o.types)))) h
  is_there trees i _ h = tt

  are_there : (trees : List Ty) (i : ℕ) (xs : List Instruction) → AllOf (There (length o.functions)) xs → AreThere B (code_from trees i xs)
  are_there trees i [] h = tt
  are_there trees i (x ∷ xs) h = (is_there trees i x h.0, are_there trees (suc i) xs h.1)

  all_there : (trees : List Ty) (fs : List ListedFunction) → AllOf (λ (f : ListedFunction). AllOf (There (length o.functions)) f.code) fs → AllThere B (map (function_in trees) fs)
  all_there trees [] h = tt
  all_there trees (f ∷ fs) h = (are_there trees 0 f.code h.0, all_there trees fs h.1)

-- what is accepted was read, no role has another shape, and no kind is at fault
pub judged : (Q : Type 0) (size : ℕ) (t : Taken Object) (o : Object) → read_judged size t ≡ Accepts o
    → ((rest : List ℕ) (p : ℕ) → t ≡ Took o rest p → shape_fault (program_in o) ≡ None → kind_fault (body_in o) ≡ None → Q) → Q
judged Q size CutShort o e f = absurd (cc (e))
judged Q size (BadAt offset) o e f = absurd (cc (e))
judged Q size (Took a (b ∷ rest) p) o e f = absurd (cc (e))
judged Q size (Took a [] p) o e f = by (shape_fault (program_in a)) refl (kind_fault (body_in a)) refl e
  where
    same : (k : Option Spot) → kind_fault (body_in a) ≡ k → shape_fault (program_in a) ≡ None → kinds_judged a k ≡ Accepts o → Q
    same (Some at) h s e = absurd (cc (e))
    same None h s e =
        let is : a ≡ o = cc in
        f [] p (ap (λ o. Took o [] p) is) (subst (λ o. shape_fault (program_in o) ≡ None) is s) (subst (λ o. kind_fault (body_in o) ≡ None) is h)

    by : (s : Option ℕ) → shape_fault (program_in a) ≡ s → (k : Option Spot) → kind_fault (body_in a) ≡ k → shapes_judged a s ≡ Accepts o → Q
    by (Some g) r k h e = absurd (cc (e))
    by None r k h e = same k h r (ap (kinds_judged a) (sym h) ∙ e)

pub objects_pass : (bytes : List ℕ) (o : Object) → accepting bytes ≡ Accepts o → kinds_test (body_in o) ≡ true
objects_pass bytes o e =
    judged (kinds_test (body_in o) ≡ true) (length bytes) (object_read bytes 0) o e (λ rest p t s k.
    kinds_pass (body_in o) (all_there o (trees_of o.types) o.functions (object_there bytes 0 o rest p t)) k)

pub objects_are_accepted : ObjectsAreAccepted
objects_are_accepted bytes o e = kinds_sound (body_in o) (objects_pass bytes o e)
