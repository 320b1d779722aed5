-- An object that was read is well-formed: what is taken of bytes passed its tests.
use Rattle.std.proofs.Common.{◌≡◌, ◌<◌, ◌≤◌, ◌^◌, ℕ, zero, suc, ◌+◌, Bool, true, false, not, ◌&&◌, List, [], ◌∷◌, ◌++◌, length, take, drop, nat_lt, nat_le, nat_eq, slice_index_or, refl, sym, ap, ◌∙◌, subst, arith, append_assoc, append-nil, ltb-true, leb-true, if◌then◌else◌}
use Rattle.std.specs.Int.{w16, w32, w64, to_be_bytes, from_be_bytes, cast_signed}
use Rattle.std.specs.Str.{is_utf8}
use Rattle.std.proofs.lemmas.Str.{IsUtf8-from_is_utf8}
use Rattle.core_terms.specs.ProgramLimits.{most_constructors, most_fields, most_functions, most_parameters, most_types}
use Rattle.core_terms.specs.Spelling.{AreBytes}
use Rattle.core_terms.specs.Terms.{Kind, Inner, Init, Query, Update}
use Rattle.core_terms.specs.declared.term.Arith.TheVariants.{Add}
use Rattle.core_terms.specs.declared.term.Compare.TheVariants.{Eq}
use Rattle.core_terms.specs.declared.term.TextCompare.TheVariants.{Eq as TEq}
use Rattle.core_terms.proofs.ReadOnly.{byte_at, bytes_take, be_low_4}
use Rattle.object_meaning.specs.Objects.{ListedConstructor, ListedType, ListedUnit, ListedBool, ListedInt, ListedText, ListedPair, ListedNamed, ListedAuth, Instruction, PushUnit, PushBool, PushInt, PushText, Load, Bind, Unbind, Pair, Fst, Snd, Make, Switch, Branch, Jump, Call, Return, Auth, Unauth, ArithOp, CompareOp, TextCompareOp, Cat, Len, Not, ListedFunction, most_listed_types}
use Rattle.object_meaning.specs.ObjectBytes.{object_magic, word}
use Rattle.object_meaning.specs.Readers.{Took, CutShort, BadAt, Reader, then_take, taken_as, field, u8, u16, u32, any, within, text_behind, times_from, times, times_behind}
use Rattle.object_meaning.specs.ReadObjects.{is_lower_name, is_upper_name, is_among, name_read, names_of, all_names, named_count, is_listed, constructor_read, type_readers, is_tag, nothing_read, new_type, type_read, role_names, role_name_read, constructors_of, is_named, ariths, compares, text_compares, is_int, text_read, operand_readers, instruction_read, kinds, type_number, behind_length, behind_result, behind_parameters, behind_count, behind_name, function_read, magic_read, behind_function_count, behind_state, behind_types, behind_type_count, behind_magic, object_read}
use Rattle.object_meaning.specs.WellFormedObjects.{AllBelow, IsNewName, IsConstructor, AreConstructors, IsType, AreTypes, AllAhead, HasRoleName, IsInstruction, AreInstructions, IsListedFunction, AreFunctions, IsObject}
use Rattle.object_meaning.specs.ObjectLaws.{ReadsAreWellFormed}
use Rattle.object_meaning.proofs.OnlyObjects.{Spells, spells_u8, spells_u16, spells_u32, spells_text, spells_int, int_bytes, spells_magic}
use Rattle.object_meaning.proofs.ReadThere.{taken_then, taken_is, taken_rest, text_passes, Anything, first_of, second_of, within_most}

-- READERS
-- what is so of what a reader takes of bytes, which leaves bytes
abbrev Proves : {A : Type 0} → (A → Type 0) → Reader A → Type 0
Proves {A} Q read = (bytes : List ℕ) → AreBytes bytes → (place : ℕ) (a : A) (rest : List ℕ) (p : ℕ) → read bytes place ≡ Took a rest p → Q a × AreBytes rest

proves_spelled : {A : Type 0} (spell : A → List ℕ) (P : A → Type 0) (read : Reader A) → Spells spell P read → Proves P read
proves_spelled spell P read f bytes h place a rest p e = let k = f bytes h place a rest p e in (k.1, k.2)

proves_u8 : (test : ℕ → Bool) → Proves (λ x. test x ≡ true) (u8 test)
proves_u8 test = proves_spelled (λ n. n ∷ []) (λ x. test x ≡ true) (u8 test) (spells_u8 test)

proves_u16 : (test : ℕ → Bool) → Proves (λ x. test x ≡ true) (u16 test)
proves_u16 test = proves_spelled (to_be_bytes w16) (λ x. test x ≡ true) (u16 test) (spells_u16 test)

proves_u32 : (test : ℕ → Bool) → Proves (λ x. test x ≡ true) (u32 test)
proves_u32 test = proves_spelled word (λ x. test x ≡ true) (u32 test) (spells_u32 test)

proves_text : (offset : ℕ) (test : List ℕ → Bool) (n : ℕ) → Proves (λ x. (test x ≡ true) × (length x ≡ n)) (text_behind offset test n)
proves_text offset test n bytes h place x rest p e = (text_passes offset n test bytes place x rest p e, (spells_text offset test n bytes h place x rest p e).2)

proves_one : {A : Type 0} (Q : A → Type 0) (a : A) → Q a → Proves Q (λ bytes place. Took a bytes place)
proves_one Q a q bytes h place b rest p e = (subst Q (taken_is a b bytes rest place p e) q, subst AreBytes (taken_rest a b bytes rest place p e) h)

proves_then : {A B : Type 0} (P : A → Type 0) (Q : B → Type 0) (read : Reader A) (go : A → Reader B)
    → Proves P read → ((a : A) → P a → Proves Q (go a)) → Proves Q (λ bytes place. then_take (read bytes place) go)
proves_then P Q read go f g bytes h place b rest p e =
    taken_then (Q b × AreBytes rest) (read bytes place) go b rest p e (λ a r q t k.
    let first = f bytes h place a r q t in
    g a first.0 r first.1 q b rest p k)

proves_as : {A B : Type 0} (P : A → Type 0) (Q : B → Type 0) (make : A → B) (read : Reader A)
    → Proves P read → ((a : A) → P a → Q (make a)) → Proves Q (λ bytes place. taken_as make (read bytes place))
proves_as P Q make read f g = proves_then P Q read (λ a rest place. Took (make a) rest place) f (λ a k. proves_one Q (make a) (g a k))

-- a field, and what is read behind it
u8_then : {B : Type 0} (Q : B → Type 0) (test : ℕ → Bool) (go : ℕ → Reader B) → ((n : ℕ) → test n ≡ true → Proves Q (go n))
    → Proves Q (λ bytes place. then_take (u8 test bytes place) go)
u8_then Q test go g = proves_then (λ n. test n ≡ true) Q (u8 test) go (proves_u8 test) g

u16_then : {B : Type 0} (Q : B → Type 0) (test : ℕ → Bool) (go : ℕ → Reader B) → ((n : ℕ) → test n ≡ true → Proves Q (go n))
    → Proves Q (λ bytes place. then_take (u16 test bytes place) go)
u16_then Q test go g = proves_then (λ n. test n ≡ true) Q (u16 test) go (proves_u16 test) g

u32_then : {B : Type 0} (Q : B → Type 0) (test : ℕ → Bool) (go : ℕ → Reader B) → ((n : ℕ) → test n ≡ true → Proves Q (go n))
    → Proves Q (λ bytes place. then_take (u32 test bytes place) go)
u32_then Q test go g = proves_then (λ n. test n ≡ true) Q (u32 test) go (proves_u32 test) g

-- as many as said
module _ {A : Type 0} (P : ℕ → A → Type 0) (Q : ℕ → List A → Type 0) (none : (i : ℕ) → Q i []) (more : (i : ℕ) (a : A) (items : List A) → P i a → Q (suc i) items → Q i (a ∷ items))
    (one : ℕ → Reader A) (proves : (i : ℕ) → Proves (P i) (one i)) where
  proves_times : (i n : ℕ) → Proves (λ items. (length items ≡ n) × Q i items) (times_from i n one)
  proves_times i zero = proves_one (λ items. (length items ≡ 0) × Q i items) [] (refl, none i)
  proves_times i (suc n) =
      proves_then (P i) (λ items. (length items ≡ suc n) × Q i items) (one i) (λ a bytes place. taken_as (λ items. a ∷ items) (times_from (suc i) n one bytes place)) (proves i) (λ a h.
      proves_as (λ items. (length items ≡ n) × Q (suc i) items) (λ items. (length items ≡ suc n) × Q i items) (λ items. a ∷ items) (times_from (suc i) n one) (proves_times (suc i) n)
      (λ items k. (ap suc k.0, more i a items h k.1)))

-- each read by those before it
module _ {A : Type 0} (P : List A → A → Type 0) (Q : List A → List A → Type 0) (none : (before : List A) → Q before [])
    (more : (before : List A) (a : A) (items : List A) → P before a → Q (before ++ a ∷ []) items → Q before (a ∷ items))
    (one : List A → Reader A) (proves : (before : List A) → Proves (P before) (one before)) where
  -- those behind the ones before
  record Behind (before : List A) (n : ℕ) (items : List A) : Type 0 where
    behind : List A
    all : items ≡ before ++ behind
    many : length behind ≡ n
    so : Q before behind

  proves_behind : (before : List A) (n : ℕ) → Proves (Behind before n) (times_behind before n one)
  proves_behind before zero = proves_one (Behind before 0) before (record { behind = []; all = sym (append-nil before); many = refl; so = none before })
  proves_behind before (suc n) =
      proves_then (P before) (Behind before (suc n)) (one before) (λ a bytes place. times_behind (before ++ a ∷ []) n one bytes place) (proves before) (λ a h bytes b place items rest p e.
      let k = proves_behind (before ++ a ∷ []) n bytes b place items rest p e in
      (record { behind = a ∷ k.0.behind; all = k.0.all ∙ append_assoc before (a ∷ []) k.0.behind; many = ap suc k.0.many; so = more before a k.0.behind h k.0.so }, k.1))

  proves_all : (n : ℕ) → Proves (λ items. (length items ≡ n) × Q [] items) (times_behind [] n one)
  proves_all n bytes b place items rest p e =
      let k = proves_behind [] n bytes b place items rest p e in
      ((ap length k.0.all ∙ k.0.many, subst (Q []) (sym k.0.all) k.0.so), k.1)

-- one of these, by a number that passes a test
abbrev AllProve : {A : Type 0} → (A → Type 0) → (ℕ → Bool) → List (Reader A) → Type 0
AllProve Q test [] = Unit {0}
AllProve Q test (read ∷ reads) = (test 0 ≡ true → Proves Q read) × AllProve Q (λ n. test (suc n)) reads

any_proves : {A : Type 0} (Q : A → Type 0) (test : ℕ → Bool) (reads : List (Reader A)) → AllProve Q test reads → (n : ℕ) → test n ≡ true → Proves Q (slice_index_or reads n nothing_read)
any_proves Q test [] h n t bytes b place a rest p e = absurd (cc (e))
any_proves Q test (read ∷ reads) h zero t bytes b place a rest p e = h.0 t bytes b place a rest p e
any_proves Q test (read ∷ reads) h (suc n) t bytes b place a rest p e = any_proves Q (λ n. test (suc n)) reads h.1 n t bytes b place a rest p e

-- NUMBERS
within_least : (least most n : ℕ) → within least most n ≡ true → least ≤ n
within_least least most n e = leb-true least n (first_of (nat_le least n) (nat_le n most) e)

proves_below : (count n : ℕ) → Proves (λ items. (length items ≡ n) × AllBelow count items) (times n (u32 (λ t. nat_lt t count)))
proves_below count n =
    proves_times (λ i t. nat_lt t count ≡ true) (λ i items. AllBelow count items) (λ i. tt) (λ i t items h k. (ltb-true t count h, k))
    (λ i. u32 (λ t. nat_lt t count)) (λ i. proves_u32 (λ t. nat_lt t count)) 0 n

proves_ahead : (i n count : ℕ) → Proves (λ items. (length items ≡ count) × AllAhead i n items) (times count (u32 (λ t. nat_lt i t && nat_lt t n)))
proves_ahead i n count =
    proves_times (λ j t. nat_lt i t && nat_lt t n ≡ true) (λ j items. AllAhead i n items) (λ j. tt)
    (λ j t items h k. ((ltb-true i t (first_of (nat_lt i t) (nat_lt t n) h), ltb-true t n (second_of (nat_lt i t) (nat_lt t n) h)), k))
    (λ j. u32 (λ t. nat_lt i t && nat_lt t n)) (λ j. proves_u32 (λ t. nat_lt i t && nat_lt t n)) 0 count

-- a length of four bytes fits them
proves_length : Proves (λ n. (1 ≤ n) × (n < 2 ^ 32)) (u32 (nat_le 1))
proves_length bytes h place x rest p e =
    let k = proves_u32 (nat_le 1) bytes h place x rest p e in
    let low = be_low_4 (take 4 bytes) (byte_at (take 4 bytes) (bytes_take 4 bytes h)) in
    ((leb-true 1 x k.0, subst (λ n. n < 2 ^ 32) (by (nat_lt (length bytes) 4) (nat_le 1 (from_be_bytes w32 (take 4 bytes))) e) low), k.1)
  where
    by : (b c : Bool) → (if b then CutShort else (if c then Took (from_be_bytes w32 (take 4 bytes)) (drop 4 bytes) (place + 4) else BadAt place)) ≡ Took x rest p → from_be_bytes w32 (take 4 bytes) ≡ x
    by true c e = absurd (cc (e))
    by false true e = taken_is (from_be_bytes w32 (take 4 bytes)) x (drop 4 bytes) rest (place + 4) p e
    by false false e = absurd (cc (e))

-- NAMES
untrue : (b : Bool) → not b ≡ true → b ≡ false
untrue true e = cc
untrue false e = refl

proves_name : (form : List ℕ → Bool) (before : List (List ℕ)) → Proves (IsNewName form before) (name_read form before)
proves_name form before bytes h place name rest p e =
    let test : List ℕ → Bool = λ name. form name && not (is_among name before) in
    u8_then (IsNewName form before) any (λ n bytes behind. text_behind place test n bytes behind) (λ n t bytes h behind name rest p e.
    let k = proves_text place test n bytes h behind name rest p e in (
      record {
        is_formed = first_of (form name) (not (is_among name before)) k.0.0;
        is_new = untrue (is_among name before) (second_of (form name) (not (is_among name before)) k.0.0);
      },
      k.1,
    )) bytes h place name rest p e

-- TYPES
proves_constructor : (count : ℕ) (before : List (List ℕ)) (others : List ListedConstructor) → Proves (IsConstructor count (before ++ names_of others)) (constructor_read count before others)
proves_constructor count before others =
    let used = before ++ names_of others in
    let Q = IsConstructor count used in
    proves_then (IsNewName is_upper_name used) Q (name_read is_upper_name used) _ (proves_name is_upper_name used) (λ name named.
    u8_then Q (within 0 most_fields) _ (λ n few.
    proves_as (λ fields. (length fields ≡ n) × AllBelow count fields) Q (λ fields. record { name = name; fields = fields }) (times n (u32 (λ t. nat_lt t count))) (proves_below count n)
    (λ fields k. record { name = named; few = subst (λ n. n ≤ most_fields) (sym k.0) (within_most 0 most_fields n few); fields = k.1 })))

proves_constructors : (count : ℕ) (before : List (List ℕ)) (n : ℕ) → Proves (λ cs. (length cs ≡ n) × AreConstructors count before [] cs) (times_behind [] n (constructor_read count before))
proves_constructors count before n =
    proves_all (λ others c. IsConstructor count (before ++ names_of others) c) (AreConstructors count before) (λ others. tt) (λ others c cs h k. (h, k))
    (constructor_read count before) (proves_constructor count before) n

module _ (count : ℕ) (before : List ListedType) where
  abbrev IsNew : ListedType → Type 0
  IsNew t = IsType count before t × (is_listed t before ≡ false)

  abbrev earlier : Reader ℕ
  earlier = u32 (λ t. nat_lt t (length before))

  proves_earlier : Proves (λ t. nat_lt t (length before) ≡ true) earlier
  proves_earlier = proves_u32 (λ t. nat_lt t (length before))

  abbrev constructors : ℕ → Reader (List ListedConstructor)
  constructors n = times_behind [] n (constructor_read count (all_names before))

  proves_named : is_tag before 5 ≡ true
      → Proves (IsType count before) (λ bytes place. then_take (u8 (within 1 most_constructors) bytes place) (λ n bytes place. taken_as ListedNamed (constructors n bytes place)))
  proves_named t =
      u8_then (IsType count before) (within 1 most_constructors) _ (λ n h.
      proves_as (λ cs. (length cs ≡ n) × AreConstructors count (all_names before) [] cs) (IsType count before) ListedNamed (constructors n)
      (proves_constructors count (all_names before) n)
      (λ cs k. (
        ltb-true (named_count before) most_types t,
        subst (λ n. 1 ≤ n) (sym k.0) (within_least 1 most_constructors n h),
        subst (λ n. n ≤ most_constructors) (sym k.0) (within_most 1 most_constructors n h),
        k.1,
      )))

  proves_pair : Proves (IsType count before) (λ bytes place. then_take (earlier bytes place) (λ a bytes place. taken_as (ListedPair a) (earlier bytes place)))
  proves_pair =
      u32_then (IsType count before) (λ t. nat_lt t (length before)) _ (λ a h.
      proves_as (λ t. nat_lt t (length before) ≡ true) (IsType count before) (ListedPair a) earlier proves_earlier
      (λ b k. (ltb-true a (length before) h, ltb-true b (length before) k)))

  proves_auth : Proves (IsType count before) (λ bytes place. taken_as ListedAuth (earlier bytes place))
  proves_auth = proves_as (λ t. nat_lt t (length before) ≡ true) (IsType count before) ListedAuth earlier proves_earlier (λ a h. ltb-true a (length before) h)

  all_types_prove : AllProve (IsType count before) (is_tag before) (type_readers count before)
  all_types_prove = (
    (λ t. proves_one (IsType count before) ListedUnit tt),
    (
      (λ t. proves_one (IsType count before) ListedBool tt),
      (
        (λ t. proves_one (IsType count before) ListedInt tt),
        (
          (λ t. proves_one (IsType count before) ListedText tt),
          (
            (λ t. proves_pair),
            (
              proves_named,
              (
                (λ t. proves_auth),
                tt,
              ),
            ),
          ),
        ),
      ),
    ),
  )

  proves_new : (offset : ℕ) (read : Reader ListedType) → Proves (IsType count before) read → Proves IsNew (λ bytes place. new_type before offset (read bytes place))
  proves_new offset read f = proves_then (IsType count before) IsNew read _ f (λ ty h bytes b place t rest p e. by ty h bytes b place t rest p (is_listed ty before) refl e)
    where
      by : (ty : ListedType) → IsType count before ty → (bytes : List ℕ) → AreBytes bytes → (place : ℕ) (t : ListedType) (rest : List ℕ) (p : ℕ) (l : Bool) → is_listed ty before ≡ l
          → (if l then BadAt offset else Took ty bytes place) ≡ Took t rest p → IsNew t × AreBytes rest
      by ty h bytes b place t rest p true l e = absurd (cc (e))
      by ty h bytes b place t rest p false l e = proves_one IsNew ty (h, l) bytes b place t rest p e

  proves_type : Proves IsNew (type_read count before)
  proves_type bytes h place ty rest p e =
      let read : ℕ → Reader ListedType = λ tag. slice_index_or (type_readers count before) tag nothing_read in
      u8_then IsNew (is_tag before) (λ tag bytes behind. new_type before place (read tag bytes behind)) (λ tag t.
      proves_new place (read tag) (any_proves (IsType count before) (is_tag before) (type_readers count before) all_types_prove tag t)) bytes h place ty rest p e

proves_types : (count : ℕ) → Proves (λ types. (length types ≡ count) × AreTypes count [] types) (times_behind [] count (type_read count))
proves_types count = proves_all (IsNew count) (AreTypes count) (λ before. tt) (λ before t ts h k. (h.0, h.1, k)) (type_read count) (proves_type count) count

-- INSTRUCTIONS
named_there : (types : List ListedType) (ty : ℕ) → is_named types ty ≡ true → ty < length types
named_there [] ty e = absurd (cc (e))
named_there (t ∷ types) zero e = omega arith
named_there (t ∷ types) (suc ty) e = let below = named_there types ty e in omega (arith, below)

module _ (types : List ListedType) (functions i n : ℕ) where
  abbrev Right : Instruction → Type 0
  Right x = IsInstruction types functions i n x

  abbrev is_type : ℕ → Bool
  is_type t = nat_lt t (length types)

  abbrev is_target : ℕ → Bool
  is_target t = nat_lt i t && nat_lt t n

  abbrev tags : ℕ → ℕ
  tags ty = length (constructors_of types ty)

  target_ahead : (t : ℕ) → is_target t ≡ true → (i < t) × (t < n)
  target_ahead t h = (ltb-true i t (first_of (nat_lt i t) (nat_lt t n) h), ltb-true t n (second_of (nat_lt i t) (nat_lt t n) h))

  byte : (test : ℕ → Bool) (make : ℕ → Instruction) → ((m : ℕ) → test m ≡ true → Right (make m)) → Proves Right (λ bytes place. taken_as make (u8 test bytes place))
  byte test make g = proves_as (λ m. test m ≡ true) Right make (u8 test) (proves_u8 test) g

  four : (test : ℕ → Bool) (make : ℕ → Instruction) → ((m : ℕ) → test m ≡ true → Right (make m)) → Proves Right (λ bytes place. taken_as make (u32 test bytes place))
  four test make g = proves_as (λ m. test m ≡ true) Right make (u32 test) (proves_u32 test) g

  proves_text_read : Proves Right text_read
  proves_text_read bytes h place x rest p e =
      u32_then Right (within 0 65532) (λ m bytes behind. taken_as PushText (text_behind place is_utf8 m bytes behind)) (λ m few.
      proves_as (λ text. (is_utf8 text ≡ true) × (length text ≡ m)) Right PushText (text_behind place is_utf8 m) (proves_text place is_utf8 m)
      (λ text k. (IsUtf8-from_is_utf8 text k.0, subst (λ m. m ≤ 65532) (sym k.1) (within_most 0 65532 m few)))) bytes h place x rest p e

  proves_int_read : Proves Right (λ bytes place. taken_as (λ m. PushInt (cast_signed w64 m)) (field 8 (from_be_bytes w64) is_int bytes place))
  proves_int_read =
      let read = field 8 (from_be_bytes w64) is_int in
      proves_as (λ m. is_int m ≡ true) Right (λ m. PushInt (cast_signed w64 m)) read (proves_spelled int_bytes (λ m. is_int m ≡ true) read spells_int) (λ m h. h)

  proves_call : Proves Right (λ bytes place. taken_as Call (u16 (λ f. nat_lt f functions) bytes place))
  proves_call = proves_as (λ f. nat_lt f functions ≡ true) Right Call (u16 (λ f. nat_lt f functions)) (proves_u16 (λ f. nat_lt f functions)) (λ f h. ltb-true f functions h)

  proves_make : Proves Right (λ bytes place. then_take (u32 (is_named types) bytes place) (λ ty bytes place. taken_as (Make ty) (u8 (λ tag. nat_lt tag (tags ty)) bytes place)))
  proves_make =
      u32_then Right (is_named types) _ (λ ty h.
      byte (λ tag. nat_lt tag (tags ty)) (Make ty) (λ tag k. (h, named_there types ty h, ltb-true tag (tags ty) k)))

  proves_switch : Proves Right (λ bytes place. then_take (u32 (is_named types) bytes place) (λ ty bytes place. taken_as (Switch ty) (times (tags ty) (u32 is_target) bytes place)))
  proves_switch =
      u32_then Right (is_named types) _ (λ ty h.
      proves_as (λ targets. (length targets ≡ tags ty) × AllAhead i n targets) Right (Switch ty) (times (tags ty) (u32 is_target)) (proves_ahead i n (tags ty))
      (λ targets k. (h, named_there types ty h, k.0, k.1)))

  operands_prove : AllProve Right (within 0 23) (operand_readers types functions i n)
  operands_prove = (
    (λ t. proves_one Right PushUnit tt),
    (
      (λ t. byte (within 0 1) (λ b. PushBool (nat_eq b 1)) (λ b h. tt)),
      (
        (λ t. proves_int_read),
        (
          (λ t. proves_text_read),
          (
            (λ t. byte any Load (λ m h. tt)),
            (
              (λ t. proves_one Right Bind tt),
              (
                (λ t. byte any Unbind (λ m h. tt)),
                (
                  (λ t. proves_one Right Pair tt),
                  (
                    (λ t. proves_one Right Fst tt),
                    (
                      (λ t. proves_one Right Snd tt),
                      (
                        (λ t. proves_make),
                        (
                          (λ t. proves_switch),
                          (
                            (λ t. four is_target Branch target_ahead),
                            (
                              (λ t. four is_target Jump target_ahead),
                              (
                                (λ t. proves_call),
                                (
                                  (λ t. proves_one Right Return tt),
                                  (
                                    (λ t. four is_type Auth (λ ty h. ltb-true ty (length types) h)),
                                    (
                                      (λ t. four is_type Unauth (λ ty h. ltb-true ty (length types) h)),
                                      (
                                        (λ t. byte (within 0 4) (λ op. ArithOp (slice_index_or ariths op Add)) (λ op h. tt)),
                                        (
                                          (λ t. byte (within 0 2) (λ op. CompareOp (slice_index_or compares op Eq)) (λ op h. tt)),
                                          (
                                            (λ t. byte (within 0 1) (λ op. TextCompareOp (slice_index_or text_compares op TEq)) (λ op h. tt)),
                                            (
                                              (λ t. proves_one Right Cat tt),
                                              (
                                                (λ t. proves_one Right Len tt),
                                                (
                                                  (λ t. proves_one Right Not tt),
                                                  tt,
                                                ),
                                              ),
                                            ),
                                          ),
                                        ),
                                      ),
                                    ),
                                  ),
                                ),
                              ),
                            ),
                          ),
                        ),
                      ),
                    ),
                  ),
                ),
              ),
            ),
          ),
        ),
      ),
    ),
  )

  proves_instruction : Proves Right (instruction_read types functions n i)
  proves_instruction =
      u8_then Right (within 0 23) _ (λ code h. any_proves Right (within 0 23) (operand_readers types functions i n) operands_prove code h)

-- FUNCTIONS
proves_role_name : (kind : Kind) (before : List ListedFunction) → Proves (HasRoleName kind before) (role_name_read kind before)
proves_role_name Inner before = proves_as (λ n. nat_eq 0 n ≡ true) (HasRoleName Inner before) (λ n. []) (u8 (nat_eq 0)) (proves_u8 (nat_eq 0)) (λ n h. refl)
proves_role_name Init before = proves_name is_lower_name (role_names before)
proves_role_name Query before = proves_name is_lower_name (role_names before)
proves_role_name Update before = proves_name is_lower_name (role_names before)

module _ (types : List ListedType) (functions : ℕ) where
  proves_code : (n : ℕ) → Proves (λ code. (length code ≡ n) × AreInstructions types functions 0 n code) (times_from 0 n (instruction_read types functions n))
  proves_code n =
      proves_times (λ i x. IsInstruction types functions i n x) (λ i xs. AreInstructions types functions i n xs) (λ i. tt) (λ i x xs h k. (h, k))
      (instruction_read types functions n) (λ i. proves_instruction types functions i n) 0 n

  proves_function : (before : List ListedFunction) → Proves (IsListedFunction types functions before) (function_read types functions before)
  proves_function before =
      let Q = IsListedFunction types functions before in
      u8_then Q (within 0 3) _ (λ number h0.
      let kind = slice_index_or kinds number Inner in
      proves_then (HasRoleName kind before) Q (role_name_read kind before) (behind_name types functions kind) (proves_role_name kind before) (λ name named.
      u8_then Q (within 1 most_parameters) (behind_count types functions kind name) (λ count few.
      proves_then (λ ps. (length ps ≡ count) × AllBelow (length types) ps) Q (times count (type_number types functions)) (behind_parameters types functions kind name)
      (proves_below (length types) count) (λ ps each.
      u32_then Q (λ t. nat_lt t (length types)) (behind_result types functions kind name ps) (λ result there.
      proves_then (λ n. (1 ≤ n) × (n < 2 ^ 32)) Q (u32 (nat_le 1)) (behind_length types functions kind name ps result) proves_length (λ n some.
      proves_as (λ code. (length code ≡ n) × AreInstructions types functions 0 n code) Q
      (λ code. record { kind = kind; name = name; parameters = ps; result = result; code = code }) (times_from 0 n (instruction_read types functions n)) (proves_code n)
      (λ code k. record {
        name = named;
        some = subst (λ n. 1 ≤ n) (sym each.0) (within_least 1 most_parameters count few);
        few = subst (λ n. n ≤ most_parameters) (sym each.0) (within_most 1 most_parameters count few);
        parameters = each.1;
        result = ltb-true result (length types) there;
        filled = subst (λ n. 1 ≤ n) (sym k.0) some.0;
        fits = subst (λ n. n < 2 ^ 32) (sym k.0) some.1;
        code = subst (λ n. AreInstructions types functions 0 n code) (sym k.0) k.1;
      })))))))

  proves_functions : (n : ℕ) → Proves (λ fs. (length fs ≡ n) × AreFunctions types functions [] fs) (times_behind [] n (function_read types functions))
  proves_functions n =
      proves_all (λ before f. IsListedFunction types functions before f) (λ before fs. AreFunctions types functions before fs) (λ before. tt) (λ before f fs h k. (h, k))
      (function_read types functions) proves_function n

-- OBJECTS
proves_object : Proves IsObject object_read
proves_object =
    proves_then Anything IsObject magic_read behind_magic (proves_spelled (λ n. object_magic) Anything magic_read spells_magic) (λ magic h0.
    u32_then IsObject (within 0 most_listed_types) behind_type_count (λ count few.
    proves_then (λ types. (length types ≡ count) × AreTypes count [] types) IsObject (times_behind [] count (type_read count)) (behind_types count) (proves_types count) (λ types ts.
    u32_then IsObject (λ t. nat_lt t count) (behind_state types) (λ state there.
    u16_then IsObject (within 0 most_functions) (behind_function_count types state) (λ n some.
    proves_as (λ fs. (length fs ≡ n) × AreFunctions types n [] fs) IsObject (λ functions. record { types = types; state = state; functions = functions })
    (times_behind [] n (function_read types n)) (proves_functions types n n)
    (λ fs k. record {
      few_types = subst (λ n. n ≤ most_listed_types) (sym ts.0) (within_most 0 most_listed_types count few);
      types = subst (λ n. AreTypes n [] types) (sym ts.0) ts.1;
      state = subst (λ n. state < n) (sym ts.0) (ltb-true state count there);
      few_functions = subst (λ n. n ≤ most_functions) (sym k.0) (within_most 0 most_functions n some);
      functions = subst (λ n. AreFunctions types n [] fs) (sym k.0) k.1;
    }))))))

pub reads_are_well_formed : ReadsAreWellFormed
reads_are_well_formed bytes place o rest h e = (proves_object bytes h 0 o rest place e).0
