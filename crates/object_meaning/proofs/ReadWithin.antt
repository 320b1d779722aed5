-- An object that was read is within the limits of compiled programs: its numbers and its names are, and each of its instructions takes a byte.
use Rattle.std.proofs.Common.{◌≡◌, ◌<◌, ◌≤◌, ℕ, zero, suc, ◌+◌, Bool, true, false, not, ◌&&◌, List, [], ◌∷◌, ◌++◌, length, map, take, drop, nat_lt, nat_le, nat_eq, bytes_eq, Some, None, slice_index_or, refl, sym, ap, ◌∙◌, subst, arith, length-append, length-drop, ltb-true, ltb-false, leb-true, if◌then◌else◌}
use Rattle.std.specs.Prelude.{codes, All}
use Rattle.std.specs.Char.{is_ascii_lowercase, is_ascii_uppercase}
use Rattle.std.specs.Int.{w16, w32, w64, from_be_bytes, cast_signed}
use Rattle.std.specs.List.{list_all}
use Rattle.std.specs.Option.{is_none}
use Rattle.std.specs.Str.{is_utf8}
use Rattle.std.proofs.lemmas.List.{length-map}
use Rattle.std.proofs.lemmas.List.Elements.{All-cons, All-nil}
use Rattle.core_terms.specs.Names.{IsName, longest_name}
use Rattle.core_terms.specs.ProgramLimits.{most_types, most_constructors, most_fields, most_functions, most_parameters}
use Rattle.core_terms.specs.ProgramSizes.{instructions_in_all, IsFunctionWithin}
use Rattle.core_terms.specs.Terms.{Kind, Inner, Init, Query, Update}
use Rattle.core_terms.specs.Types.{Ty}
use Rattle.core_terms.specs.declared.term.Arith.TheVariants.{Add}
use Rattle.core_terms.specs.declared.term.Compare.TheVariants.{Eq}
use Rattle.core_terms.specs.declared.term.TextCompare.TheVariants.{Eq as TEq}
use Rattle.core_terms.specs.declared.format.Format.TheVariants.{First}
use Rattle.lexemes.specs.Tokens.{is_name_byte, keyword_of}
use Rattle.object_meaning.specs.Objects.{ListedConstructor, ListedType, ListedUnit, ListedBool, ListedInt, ListedText, ListedPair, ListedNamed, ListedAuth, Instruction, PushUnit, PushBool, PushInt, PushText, Load, Bind, Unbind, Pair, Fst, Snd, Make, Switch, Branch, Jump, Call, Return, Auth, Unauth, ArithOp, CompareOp, TextCompareOp, Cat, Len, Not, ListedFunction, Object, most_listed_types}
use Rattle.object_meaning.specs.ObjectBytes.{object_magic}
use Rattle.object_meaning.specs.Readers.{Took, CutShort, BadAt, Reader, then_take, taken_as, field, byte_in, u8, u16, u32, any, within, text_behind, times_from, times, times_behind}
use Rattle.object_meaning.specs.ReadObjects.{is_name_from, is_lower_name, is_upper_name, is_among, name_read, names_of, all_names, named_count, is_listed, constructor_read, type_readers, is_tag, nothing_read, new_type, type_read, role_names, role_name_read, constructors_of, is_named, ariths, compares, text_compares, is_int, text_read, operand_readers, instruction_read, kinds, type_number, behind_length, behind_result, behind_parameters, behind_count, behind_name, function_read, magic_read, behind_function_count, behind_state, behind_types, behind_type_count, behind_magic, object_read}
use Rattle.object_meaning.specs.ObjectBodies.{constructor_names, listed_at, trees_of, named_tables, code_from, code_in, name_declared, declared_in}
use Rattle.object_meaning.specs.ObjectLaws.{ConstructorsHaveNames, ObjectsAreWithin}
use Rattle.object_meaning.proofs.ReadThere.{taken_then, taken_is, taken_rest, AllOf, all_append, Anything, first_of, second_of, within_most, judged}

-- READERS
-- what is so of what a reader takes, which leaves no more bytes than there were
abbrev Keeps : {A : Type 0} → (A → Type 0) → Reader A → Type 0
Keeps {A} Q read = (bytes : List ℕ) (place : ℕ) (a : A) (rest : List ℕ) (p : ℕ) → read bytes place ≡ Took a rest p → Q a × (length rest ≤ length bytes)

-- what it takes has a size, and takes as many bytes at least
abbrev Costs : {A : Type 0} → (A → ℕ) → (A → Type 0) → Reader A → Type 0
Costs {A} size Q read = (bytes : List ℕ) (place : ℕ) (a : A) (rest : List ℕ) (p : ℕ) → read bytes place ≡ Took a rest p → Q a × (size a + length rest ≤ length bytes)

keeps_one : {A : Type 0} (Q : A → Type 0) (a : A) → Q a → Keeps Q (λ bytes place. Took a bytes place)
keeps_one Q a h bytes place b rest p e =
    (subst Q (taken_is a b bytes rest place p e) h, let same : length bytes ≡ length rest = ap length (taken_rest a b bytes rest place p e) in omega (arith, same))

-- a field takes its bytes
field_costs : (n : ℕ) (number : List ℕ → ℕ) (test : ℕ → Bool) → Costs (λ x. n) (λ x. test x ≡ true) (field n number test)
field_costs n number test bytes place x rest p e = by (nat_lt (length bytes) n) refl (test (number (take n bytes))) refl e
  where
    by : (b : Bool) → nat_lt (length bytes) n ≡ b → (c : Bool) → test (number (take n bytes)) ≡ c
        → (if b then CutShort else (if c then Took (number (take n bytes)) (drop n bytes) (place + n) else BadAt place)) ≡ Took x rest p → (test x ≡ true) × (n + length rest ≤ length bytes)
    by true l c t e = absurd (cc (e))
    by false l true t e =
        let long : n ≤ length bytes = ltb-false (length bytes) n l in
        let left : length (drop n bytes) ≡ length rest = ap length (taken_rest (number (take n bytes)) x (drop n bytes) rest (place + n) p e) in
        (subst (λ y. test y ≡ true) (taken_is (number (take n bytes)) x (drop n bytes) rest (place + n) p e) t, omega (arith, long, left, length-drop n bytes))
    by false l false t e = absurd (cc (e))

keeps_field : (n : ℕ) (number : List ℕ → ℕ) (test : ℕ → Bool) → Keeps (λ x. test x ≡ true) (field n number test)
keeps_field n number test bytes place x rest p e = let h = field_costs n number test bytes place x rest p e in (h.0, omega (arith, h.1))

keeps_u8 : (test : ℕ → Bool) → Keeps (λ x. test x ≡ true) (u8 test)
keeps_u8 test = keeps_field 1 byte_in test

keeps_u16 : (test : ℕ → Bool) → Keeps (λ x. test x ≡ true) (u16 test)
keeps_u16 test = keeps_field 2 (from_be_bytes w16) test

keeps_u32 : (test : ℕ → Bool) → Keeps (λ x. test x ≡ true) (u32 test)
keeps_u32 test = keeps_field 4 (from_be_bytes w32) test

keeps_text : (offset : ℕ) (test : List ℕ → Bool) (n : ℕ) → Keeps (λ x. test x ≡ true) (text_behind offset test n)
keeps_text offset test n bytes place x rest p e = by (nat_lt (length bytes) n) (test (take n bytes)) refl e
  where
    by : (b c : Bool) → test (take n bytes) ≡ c
        → (if b then CutShort else (if c then Took (take n bytes) (drop n bytes) (place + n) else BadAt offset)) ≡ Took x rest p → (test x ≡ true) × (length rest ≤ length bytes)
    by true c t e = absurd (cc (e))
    by false true t e =
        let left : length (drop n bytes) ≡ length rest = ap length (taken_rest (take n bytes) x (drop n bytes) rest (place + n) p e) in
        (subst (λ y. test y ≡ true) (taken_is (take n bytes) x (drop n bytes) rest (place + n) p e) t, omega (arith, left, length-drop n bytes))
    by false false t e = absurd (cc (e))

keeps_then : {A B : Type 0} (P : A → Type 0) (Q : B → Type 0) (read : Reader A) (go : A → Reader B)
    → Keeps P read → ((a : A) → P a → Keeps Q (go a)) → Keeps Q (λ bytes place. then_take (read bytes place) go)
keeps_then P Q read go f g bytes place b rest p e =
    taken_then (Q b × (length rest ≤ length bytes)) (read bytes place) go b rest p e (λ a r q t h.
    let first = f bytes place a r q t in
    let second = g a first.0 r q b rest p h in
    (second.0, omega (arith, first.1, second.1)))

keeps_as : {A B : Type 0} (P : A → Type 0) (Q : B → Type 0) (h : A → B) (read : Reader A) → Keeps P read → ((a : A) → P a → Q (h a)) → Keeps Q (λ bytes place. taken_as h (read bytes place))
keeps_as P Q h read f g = keeps_then P Q read (λ a rest place. Took (h a) rest place) f (λ a k. keeps_one Q (h a) (g a k))

costs_then : {A B : Type 0} (P : A → Type 0) (size : B → ℕ) (Q : B → Type 0) (read : Reader A) (go : A → Reader B) → Keeps P read → ((a : A) → P a → Costs size Q (go a))
    → Costs size Q (λ bytes place. then_take (read bytes place) go)
costs_then P size Q read go f g bytes place b rest p e =
    taken_then (Q b × (size b + length rest ≤ length bytes)) (read bytes place) go b rest p e (λ a r q t h.
    let first = f bytes place a r q t in
    let second = g a first.0 r q b rest p h in
    (second.0, omega (arith, first.1, second.1)))

costs_as : {A B : Type 0} (size : A → ℕ) (larger : B → ℕ) (P : A → Type 0) (Q : B → Type 0) (h : A → B) (read : Reader A)
    → Costs size P read → ((a : A) → P a → Q (h a) × (larger (h a) ≡ size a)) → Costs larger Q (λ bytes place. taken_as h (read bytes place))
costs_as size larger P Q h read f g bytes place b rest p e =
    taken_then (Q b × (larger b + length rest ≤ length bytes)) (read bytes place) (λ a rest place. Took (h a) rest place) b rest p e (λ a r q t k.
    let got = f bytes place a r q t in
    let so = g a got.0 in
    let left : length r ≡ length rest = ap length (taken_rest (h a) b r rest q p k) in
    subst (λ b. Q b × (larger b + length rest ≤ length bytes)) (taken_is (h a) b r rest q p k) (so.0, omega (arith, got.1, so.1, left)))

-- a field, and what is read behind it
keeps_u8_then : {B : Type 0} (Q : B → Type 0) (test : ℕ → Bool) (go : ℕ → Reader B) → ((n : ℕ) → test n ≡ true → Keeps Q (go n))
    → Keeps Q (λ bytes place. then_take (u8 test bytes place) go)
keeps_u8_then Q test go g = keeps_then (λ n. test n ≡ true) Q (u8 test) go (keeps_u8 test) g

keeps_u32_then : {B : Type 0} (Q : B → Type 0) (test : ℕ → Bool) (go : ℕ → Reader B) → ((n : ℕ) → test n ≡ true → Keeps Q (go n))
    → Keeps Q (λ bytes place. then_take (u32 test bytes place) go)
keeps_u32_then Q test go g = keeps_then (λ n. test n ≡ true) Q (u32 test) go (keeps_u32 test) g

costs_u8_then : {B : Type 0} (size : B → ℕ) (Q : B → Type 0) (test : ℕ → Bool) (go : ℕ → Reader B) → ((n : ℕ) → test n ≡ true → Costs size Q (go n))
    → Costs size Q (λ bytes place. then_take (u8 test bytes place) go)
costs_u8_then size Q test go g = costs_then (λ n. test n ≡ true) size Q (u8 test) go (keeps_u8 test) g

costs_u16_then : {B : Type 0} (size : B → ℕ) (Q : B → Type 0) (test : ℕ → Bool) (go : ℕ → Reader B) → ((n : ℕ) → test n ≡ true → Costs size Q (go n))
    → Costs size Q (λ bytes place. then_take (u16 test bytes place) go)
costs_u16_then size Q test go g = costs_then (λ n. test n ≡ true) size Q (u16 test) go (keeps_u16 test) g

costs_u32_then : {B : Type 0} (size : B → ℕ) (Q : B → Type 0) (test : ℕ → Bool) (go : ℕ → Reader B) → ((n : ℕ) → test n ≡ true → Costs size Q (go n))
    → Costs size Q (λ bytes place. then_take (u32 test bytes place) go)
costs_u32_then size Q test go g = costs_then (λ n. test n ≡ true) size Q (u32 test) go (keeps_u32 test) g

-- as many as said
keeps_times : {A : Type 0} (P : A → Type 0) (one : ℕ → Reader A) → ((i : ℕ) → Keeps P (one i)) → (i n : ℕ) → Keeps (λ items. length items ≡ n) (times_from i n one)
keeps_times P one f i zero = keeps_one (λ items. length items ≡ 0) [] refl
keeps_times P one f i (suc n) =
    keeps_then P (λ items. length items ≡ suc n) (one i) (λ a bytes place. taken_as (λ more. a ∷ more) (times_from (suc i) n one bytes place)) (f i)
    (λ a h. keeps_as (λ items. length items ≡ n) (λ items. length items ≡ suc n) (λ more. a ∷ more) (times_from (suc i) n one) (keeps_times P one f (suc i) n) (λ more k. ap suc k))

costs_times : {A : Type 0} (P : A → Type 0) (one : ℕ → Reader A) → ((i : ℕ) → Costs (λ a. 1) P (one i)) → (i n : ℕ) → Costs (λ items. length items) Anything (times_from i n one)
costs_times P one f i zero bytes place items rest p e =
    let none : 0 ≡ length items = ap length (taken_is [] items bytes rest place p e) in
    let left : length bytes ≡ length rest = ap length (taken_rest [] items bytes rest place p e) in
    (tt, omega (arith, none, left))
costs_times P one f i (suc n) bytes place items rest p e =
    taken_then (Anything items × (length items + length rest ≤ length bytes)) (one i bytes place)
    (λ a bytes place. taken_as (λ more. a ∷ more) (times_from (suc i) n one bytes place)) items rest p e (λ a r q t h.
    taken_then (Anything items × (length items + length rest ≤ length bytes)) (times_from (suc i) n one r q) (λ more rest place. Took (a ∷ more) rest place) items rest p h (λ more s u k l.
    let first = f i bytes place a r q t in
    let second = costs_times P one f (suc i) n r q more s u k in
    let size : suc (length more) ≡ length items = ap length (taken_is (a ∷ more) items s rest u p l) in
    let left : length s ≡ length rest = ap length (taken_rest (a ∷ more) items s rest u p l) in
    (tt, omega (arith, first.1, second.1, size, left))))

-- each read by those before it, of which something is so
keeps_behind : {A : Type 0} (I : List A → Type 0) (one : List A → Reader A) → ((before : List A) → I before → Keeps (λ a. I (before ++ a ∷ [])) (one before)) → (before : List A) (n : ℕ) → I before
    → Keeps (λ items. I items × (length items ≡ length before + n)) (times_behind before n one)
keeps_behind I one f before zero h bytes place items rest p e = keeps_one (λ items. I items × (length items ≡ length before + 0)) before (h, omega arith) bytes place items rest p e
keeps_behind I one f before (suc n) h bytes place items rest p e =
    keeps_then (λ a. I (before ++ a ∷ [])) (λ items. I items × (length items ≡ length before + suc n)) (one before)
    (λ a bytes place. times_behind (before ++ a ∷ []) n one bytes place) (f before h)
    (λ a i bytes place items rest p e.
    let k = keeps_behind I one f (before ++ a ∷ []) n i bytes place items rest p e in
    ((k.0.0, k.0.1 ∙ omega (arith, length-append before (a ∷ []))), k.1)) bytes place items rest p e

-- one of these, by a number that passes a test
abbrev AllKeep : {A : Type 0} → (A → Type 0) → (ℕ → Bool) → List (Reader A) → Type 0
AllKeep Q test [] = Unit {0}
AllKeep Q test (read ∷ reads) = (test 0 ≡ true → Keeps Q read) × AllKeep Q (λ n. test (suc n)) reads

any_keeps : {A : Type 0} (Q : A → Type 0) (test : ℕ → Bool) (reads : List (Reader A)) → AllKeep Q test reads → (n : ℕ) → test n ≡ true → Keeps Q (slice_index_or reads n nothing_read)
any_keeps Q test [] h n t bytes place b rest p e = absurd (cc (e))
any_keeps Q test (read ∷ reads) h zero t bytes place b rest p e = h.0 t bytes place b rest p e
any_keeps Q test (read ∷ reads) h (suc n) t bytes place b rest p e = any_keeps Q (λ n. test (suc n)) reads h.1 n t bytes place b rest p e

-- NAMES
-- a name that is read has 1 to 64 bytes
name_fits : (starts : ℕ → Bool) (name : List ℕ) → is_name_from starts name ≡ true → IsName name
name_fits starts [] e = absurd (cc (e))
name_fits starts (b ∷ rest) e =
    let few = nat_le (length (b ∷ rest)) longest_name in
    (omega arith, leb-true (length (b ∷ rest)) longest_name (second_of (list_all is_name_byte rest) few (second_of (starts b) (list_all is_name_byte rest && few) e)))

keeps_name : (form : List ℕ → Bool) (before : List (List ℕ)) → Keeps (λ name. form name ≡ true) (name_read form before)
keeps_name form before bytes place name rest p e =
    let test : List ℕ → Bool = λ name. form name && not (is_among name before) in
    keeps_u8_then (λ name. form name ≡ true) any (λ n bytes behind. text_behind place test n bytes behind) (λ n h bytes behind name rest p e.
    let k = keeps_text place test n bytes behind name rest p e in
    (first_of (form name) (not (is_among name before)) k.0, k.1)) bytes place name rest p e

-- TYPES
abbrev ConstructorWithin : ListedConstructor → Type 0
ConstructorWithin c = IsName c.name × (length c.fields ≤ most_fields)

abbrev TypeWithin : ListedType → Type 0
TypeWithin (ListedNamed cs) = (length cs ≤ most_constructors) × AllOf ConstructorWithin cs
TypeWithin t = Unit {0}

abbrev TypesWithin : List ListedType → Type 0
TypesWithin types = (named_count types ≤ most_types) × AllOf TypeWithin types

-- a type behind so many named ones
abbrev TypeBehind : ℕ → ListedType → Type 0
TypeBehind named t = (named + named_count (t ∷ []) ≤ most_types) × TypeWithin t

named_more : (before : List ListedType) (t : ListedType) → named_count (before ++ t ∷ []) ≡ named_count before + named_count (t ∷ [])
named_more [] t = omega arith
named_more (ListedNamed cs ∷ before) t = let e : named_count (before ++ t ∷ []) ≡ named_count before + named_count (t ∷ []) = named_more before t in omega (arith, e)
named_more (ListedUnit ∷ before) t = named_more before t
named_more (ListedBool ∷ before) t = named_more before t
named_more (ListedInt ∷ before) t = named_more before t
named_more (ListedText ∷ before) t = named_more before t
named_more (ListedPair a b ∷ before) t = named_more before t
named_more (ListedAuth a ∷ before) t = named_more before t

keeps_constructor : (count : ℕ) (before : List (List ℕ)) (others : List ListedConstructor) → Keeps ConstructorWithin (constructor_read count before others)
keeps_constructor count before others =
    keeps_then (λ name. is_upper_name name ≡ true) ConstructorWithin (name_read is_upper_name (before ++ names_of others)) _ (keeps_name is_upper_name (before ++ names_of others)) (λ name h.
    keeps_u8_then ConstructorWithin (within 0 most_fields) _ (λ n k.
    keeps_as (λ (fields : List ℕ). length fields ≡ n) ConstructorWithin (λ fields. record { name = name; fields = fields }) (times n (u32 (λ t. nat_lt t count)))
    (keeps_times (λ t. nat_lt t count ≡ true) (λ i. u32 (λ t. nat_lt t count)) (λ i. keeps_u32 (λ t. nat_lt t count)) 0 n)
    (λ fields l. (name_fits is_ascii_uppercase name h, subst (λ n. n ≤ most_fields) (sym l) (within_most 0 most_fields n k)))))

-- a type that isn't listed yet is the one that was read
keeps_new : (Q : ListedType → Type 0) (before : List ListedType) (offset : ℕ) (read : Reader ListedType) → Keeps Q read → Keeps Q (λ bytes place. new_type before offset (read bytes place))
keeps_new Q before offset read f = keeps_then Q Q read _ f (λ ty h bytes place t rest p e. by ty h bytes place t rest p (is_listed ty before) e)
  where
    by : (ty : ListedType) → Q ty → (bytes : List ℕ) (place : ℕ) (t : ListedType) (rest : List ℕ) (p : ℕ) → (b : Bool)
        → (if b then BadAt offset else Took ty bytes place) ≡ Took t rest p → Q t × (length rest ≤ length bytes)
    by ty h bytes place t rest p true e = absurd (cc (e))
    by ty h bytes place t rest p false e = keeps_one Q ty h bytes place t rest p e

module _ (count : ℕ) (before : List ListedType) (few : named_count before ≤ most_types) where
  abbrev OneMore : ListedType → Type 0
  OneMore t = TypeBehind (named_count before) t

  no_more : named_count before + 0 ≤ most_types
  no_more = omega (arith, few)

  abbrev earlier : ℕ → Bool
  earlier t = nat_lt t (length before)

  abbrev constructors : ℕ → Reader (List ListedConstructor)
  constructors n = times_behind [] n (constructor_read count (all_names before))

  keeps_pair : Keeps OneMore (λ bytes place. then_take (u32 earlier bytes place) (λ a bytes place. taken_as (ListedPair a) (u32 earlier bytes place)))
  keeps_pair = keeps_u32_then OneMore earlier _ (λ a h. keeps_as (λ t. earlier t ≡ true) OneMore (ListedPair a) (u32 earlier) (keeps_u32 earlier) (λ b k. (no_more, tt)))

  keeps_auth : Keeps OneMore (λ bytes place. taken_as ListedAuth (u32 earlier bytes place))
  keeps_auth = keeps_as (λ t. earlier t ≡ true) OneMore ListedAuth (u32 earlier) (keeps_u32 earlier) (λ a h. (no_more, tt))

  keeps_named : is_tag before 5 ≡ true
      → Keeps OneMore (λ bytes place. then_take (u8 (within 1 most_constructors) bytes place) (λ n bytes place. taken_as ListedNamed (constructors n bytes place)))
  keeps_named t =
      let room : named_count before < most_types = ltb-true (named_count before) most_types t in
      keeps_u8_then OneMore (within 1 most_constructors) _ (λ n h.
      keeps_as (λ cs. AllOf ConstructorWithin cs × (length cs ≡ 0 + n)) OneMore ListedNamed (constructors n)
      (keeps_behind (AllOf ConstructorWithin) (constructor_read count (all_names before)) (λ others i bytes place c rest p e.
      let k = keeps_constructor count (all_names before) others bytes place c rest p e in
      (all_append ConstructorWithin others c i k.0, k.1)) [] n tt)
      (λ cs k.
      let some : n ≤ most_constructors = within_most 1 most_constructors n h in
      (omega (arith, room), (omega (arith, some, k.1), k.0))))

  all_types_keep : AllKeep OneMore (is_tag before) (type_readers count before)
  all_types_keep = (
    (λ t. keeps_one OneMore ListedUnit (no_more, tt)),
    (
      (λ t. keeps_one OneMore ListedBool (no_more, tt)),
      (
        (λ t. keeps_one OneMore ListedInt (no_more, tt)),
        (
          (λ t. keeps_one OneMore ListedText (no_more, tt)),
          (
            (λ t. keeps_pair),
            (
              keeps_named,
              (
                (λ t. keeps_auth),
                tt,
              ),
            ),
          ),
        ),
      ),
    ),
  )

  keeps_type : Keeps OneMore (type_read count before)
  keeps_type bytes place ty rest p e =
      let read : ℕ → Reader ListedType = λ tag. slice_index_or (type_readers count before) tag nothing_read in
      keeps_u8_then OneMore (is_tag before) (λ tag bytes behind. new_type before place (read tag bytes behind)) (λ tag h.
      keeps_new OneMore before place (read tag) (any_keeps OneMore (is_tag before) (type_readers count before) all_types_keep tag h)) bytes place ty rest p e

keeps_types : (count : ℕ) → Keeps (λ types. TypesWithin types × (length types ≡ 0 + count)) (times_behind [] count (type_read count))
keeps_types count =
    keeps_behind TypesWithin (type_read count) (λ before i bytes place t rest p e.
    let k = keeps_type count before i.0 bytes place t rest p e in
    ((subst (λ n. n ≤ most_types) (sym (named_more before t)) k.0.0, all_append TypeWithin before t i.1 k.0.1), k.1)) [] count (omega arith, tt)

-- NAMES OF FUNCTIONS
abbrev FunctionWithin : ListedFunction → Type 0
FunctionWithin f = IsName (name_declared f.kind f.name) × (length f.parameters ≤ most_parameters)

abbrev code_size : ListedFunction → ℕ
code_size f = length f.code

keeps_lower : (before : List (List ℕ)) → Keeps IsName (name_read is_lower_name before)
keeps_lower before bytes place name rest p e =
    let k = keeps_name is_lower_name before bytes place name rest p e in
    (name_fits is_ascii_lowercase name (first_of (is_name_from is_ascii_lowercase name) (is_none (keyword_of First name)) k.0), k.1)

fun_fits : IsName (codes "fun")
fun_fits = (omega arith, omega arith)

keeps_role_name : (kind : Kind) (before : List ListedFunction) → Keeps (λ name. IsName (name_declared kind name)) (role_name_read kind before)
keeps_role_name Inner before = keeps_as (λ n. nat_eq 0 n ≡ true) (λ name. IsName (name_declared Inner name)) (λ n. []) (u8 (nat_eq 0)) (keeps_u8 (nat_eq 0)) (λ n h. fun_fits)
keeps_role_name Init before = keeps_lower (role_names before)
keeps_role_name Query before = keeps_lower (role_names before)
keeps_role_name Update before = keeps_lower (role_names before)

-- INSTRUCTIONS
module _ (types : List ListedType) (functions : ℕ) where
  keeps_read : (n : ℕ) (number : List ℕ → ℕ) (test : ℕ → Bool) (h : ℕ → Instruction) → Keeps Anything (λ bytes place. taken_as h (field n number test bytes place))
  keeps_read n number test h = keeps_as (λ x. test x ≡ true) Anything h (field n number test) (keeps_field n number test) (λ x k. tt)

  keeps_literal : Keeps Anything text_read
  keeps_literal bytes place x rest p e =
      keeps_u32_then Anything (within 0 65532) (λ n bytes behind. taken_as PushText (text_behind place is_utf8 n bytes behind)) (λ n h.
      keeps_as (λ text. is_utf8 text ≡ true) Anything PushText (text_behind place is_utf8 n) (keeps_text place is_utf8 n) (λ text k. tt)) bytes place x rest p e

  abbrev tags : ℕ → ℕ
  tags ty = length (constructors_of types ty)

  keeps_make : Keeps Anything (λ bytes place. then_take (u32 (is_named types) bytes place) (λ ty bytes place. taken_as (Make ty) (u8 (λ tag. nat_lt tag (tags ty)) bytes place)))
  keeps_make = keeps_u32_then Anything (is_named types) _ (λ ty h. keeps_read 1 byte_in (λ tag. nat_lt tag (tags ty)) (Make ty))

  keeps_switch : (target : ℕ → Bool)
      → Keeps Anything (λ bytes place. then_take (u32 (is_named types) bytes place) (λ ty bytes place. taken_as (Switch ty) (times (tags ty) (u32 target) bytes place)))
  keeps_switch target =
      keeps_u32_then Anything (is_named types) _ (λ ty h.
      keeps_as (λ (targets : List ℕ). length targets ≡ tags ty) Anything (Switch ty) (times (tags ty) (u32 target))
      (keeps_times (λ x. target x ≡ true) (λ j. u32 target) (λ j. keeps_u32 target) 0 (tags ty)) (λ targets k. tt))

  all_operands_keep : (i n : ℕ) → AllKeep Anything (within 0 23) (operand_readers types functions i n)
  all_operands_keep i n =
      let byte : (test : ℕ → Bool) (h : ℕ → Instruction) → Keeps Anything (λ bytes place. taken_as h (u8 test bytes place)) = keeps_read 1 byte_in in
      let word : (test : ℕ → Bool) (h : ℕ → Instruction) → Keeps Anything (λ bytes place. taken_as h (u32 test bytes place)) = keeps_read 4 (from_be_bytes w32) in
      let ty : ℕ → Bool = λ t. nat_lt t (length types) in
      let target : ℕ → Bool = λ t. nat_lt i t && nat_lt t n in (
        (λ t. keeps_one Anything PushUnit tt),
        (
          (λ t. byte (within 0 1) (λ b. PushBool (nat_eq b 1))),
          (
            (λ t. keeps_read 8 (from_be_bytes w64) is_int (λ n. PushInt (cast_signed w64 n))),
            (
              (λ t. keeps_literal),
              (
                (λ t. byte any Load),
                (
                  (λ t. keeps_one Anything Bind tt),
                  (
                    (λ t. byte any Unbind),
                    (
                      (λ t. keeps_one Anything Pair tt),
                      (
                        (λ t. keeps_one Anything Fst tt),
                        (
                          (λ t. keeps_one Anything Snd tt),
                          (
                            (λ t. keeps_make),
                            (
                              (λ t. keeps_switch target),
                              (
                                (λ t. word target Branch),
                                (
                                  (λ t. word target Jump),
                                  (
                                    (λ t. keeps_read 2 (from_be_bytes w16) (λ f. nat_lt f functions) Call),
                                    (
                                      (λ t. keeps_one Anything Return tt),
                                      (
                                        (λ t. word ty Auth),
                                        (
                                          (λ t. word ty Unauth),
                                          (
                                            (λ t. byte (within 0 4) (λ op. ArithOp (slice_index_or ariths op Add))),
                                            (
                                              (λ t. byte (within 0 2) (λ op. CompareOp (slice_index_or compares op Eq))),
                                              (
                                                (λ t. byte (within 0 1) (λ op. TextCompareOp (slice_index_or text_compares op TEq))),
                                                (
                                                  (λ t. keeps_one Anything Cat tt),
                                                  (
                                                    (λ t. keeps_one Anything Len tt),
                                                    (
                                                      (λ t. keeps_one Anything Not tt),
                                                      tt,
                                                    ),
                                                  ),
                                                ),
                                              ),
                                            ),
                                          ),
                                        ),
                                      ),
                                    ),
                                  ),
                                ),
                              ),
                            ),
                          ),
                        ),
                      ),
                    ),
                  ),
                ),
              ),
            ),
          ),
        ),
      )

  -- its own byte
  instruction_costs : (n i : ℕ) → Costs (λ x. 1) Anything (instruction_read types functions n i)
  instruction_costs n i bytes place x rest p e =
      taken_then (Anything x × (1 + length rest ≤ length bytes)) (u8 (within 0 23) bytes place)
      (λ code bytes place. slice_index_or (operand_readers types functions i n) code nothing_read bytes place) x rest p e (λ code r q t h.
      let first = field_costs 1 byte_in (within 0 23) bytes place code r q t in
      let second = any_keeps Anything (within 0 23) (operand_readers types functions i n) (all_operands_keep i n) code first.0 r q x rest p h in
      (tt, omega (arith, first.1, second.1)))

  -- FUNCTIONS
  function_costs : (before : List ListedFunction) → Costs code_size FunctionWithin (function_read types functions before)
  function_costs before =
      costs_u8_then code_size FunctionWithin (within 0 3) _ (λ number h0.
      let kind = slice_index_or kinds number Inner in
      costs_then (λ name. IsName (name_declared kind name)) code_size FunctionWithin (role_name_read kind before) (behind_name types functions kind)
      (keeps_role_name kind before) (λ name named.
      costs_u8_then code_size FunctionWithin (within 1 most_parameters) (behind_count types functions kind name) (λ count few.
      costs_then (λ (parameters : List ℕ). length parameters ≡ count) code_size FunctionWithin (times count (type_number types functions)) (behind_parameters types functions kind name)
      (keeps_times (λ t. nat_lt t (length types) ≡ true) (λ i. type_number types functions) (λ i. keeps_u32 (λ t. nat_lt t (length types))) 0 count) (λ parameters long.
      costs_u32_then code_size FunctionWithin (λ t. nat_lt t (length types)) (behind_result types functions kind name parameters) (λ result h1.
      costs_u32_then code_size FunctionWithin (nat_le 1) (behind_length types functions kind name parameters result) (λ n h2.
      costs_as (λ (code : List Instruction). length code) code_size Anything FunctionWithin
      (λ code. record { kind = kind; name = name; parameters = parameters; result = result; code = code }) (times_from 0 n (instruction_read types functions n))
      (costs_times Anything (instruction_read types functions n) (instruction_costs n) 0 n)
      (λ code h3. ((named, subst (λ n. n ≤ most_parameters) (sym long) (within_most 1 most_parameters count few)), refl))))))))

-- the instructions of all functions
abbrev all_code : List ListedFunction → ℕ
all_code [] = 0
all_code (f ∷ fs) = length f.code + all_code fs

code_more : (before : List ListedFunction) (f : ListedFunction) → all_code (before ++ f ∷ []) ≡ all_code before + length f.code
code_more [] f = omega arith
code_more (g ∷ before) f = let e : all_code (before ++ f ∷ []) ≡ all_code before + length f.code = code_more before f in omega (arith, e)

-- functions behind those before, and what their code costs
abbrev AllCost : List ListedFunction → ℕ → List ℕ → List ℕ → List ListedFunction → Type 0
AllCost before n bytes rest fs = AllOf FunctionWithin fs × (length fs ≡ length before + n) × (all_code fs + length rest ≤ all_code before + length bytes)

module _ (types : List ListedType) (functions : ℕ) where
  functions_cost : (before : List ListedFunction) (n : ℕ) → AllOf FunctionWithin before → (bytes : List ℕ) (place : ℕ) (fs : List ListedFunction) (rest : List ℕ) (p : ℕ)
      → times_behind before n (function_read types functions) bytes place ≡ Took fs rest p → AllCost before n bytes rest fs
  functions_cost before zero h bytes place fs rest p e =
      let left : length bytes ≡ length rest = ap length (taken_rest before fs bytes rest place p e) in
      subst (AllCost before 0 bytes rest) (taken_is before fs bytes rest place p e) (h, omega arith, omega (arith, left))
  functions_cost before (suc n) h bytes place fs rest p e =
      taken_then (AllCost before (suc n) bytes rest fs) (function_read types functions before bytes place)
      (λ f bytes place. times_behind (before ++ f ∷ []) n (function_read types functions) bytes place) fs rest p e (λ f r q t k.
      let first = function_costs types functions before bytes place f r q t in
      let second = functions_cost (before ++ f ∷ []) n (all_append FunctionWithin before f h first.0) r q fs rest p k in
      (second.0, second.1 ∙ omega (arith, length-append before (f ∷ [])), omega (arith, first.1, second.2, code_more before f)))

-- OBJECTS
abbrev ObjectWithin : Object → Type 0
ObjectWithin o = TypesWithin o.types × (length o.functions ≤ most_functions) × AllOf FunctionWithin o.functions

abbrev object_size : Object → ℕ
object_size o = all_code o.functions

keeps_magic : Keeps Anything magic_read
keeps_magic bytes place x rest p e = by (nat_lt (length bytes) 4) (bytes_eq (take 4 bytes) object_magic) e
  where
    by : (b c : Bool) → (if b then CutShort else (if c then Took 0 (drop 4 bytes) (place + 4) else BadAt place)) ≡ Took x rest p → Unit {0} × (length rest ≤ length bytes)
    by true c e = absurd (cc (e))
    by false true e = let left : length (drop 4 bytes) ≡ length rest = ap length (taken_rest 0 x (drop 4 bytes) rest (place + 4) p e) in (tt, omega (arith, left, length-drop 4 bytes))
    by false false e = absurd (cc (e))

object_costs : Costs object_size ObjectWithin object_read
object_costs =
    costs_then Anything object_size ObjectWithin magic_read behind_magic keeps_magic (λ magic h0.
    costs_u32_then object_size ObjectWithin (within 0 most_listed_types) behind_type_count (λ count h1.
    costs_then (λ types. TypesWithin types × (length types ≡ 0 + count)) object_size ObjectWithin (times_behind [] count (type_read count)) (behind_types count)
    (keeps_types count) (λ types ts.
    costs_u32_then object_size ObjectWithin (λ t. nat_lt t count) (behind_state types) (λ state h2.
    costs_u16_then object_size ObjectWithin (within 0 most_functions) (behind_function_count types state) (λ n few.
    costs_as all_code object_size (λ fs. AllOf FunctionWithin fs × (length fs ≡ n)) ObjectWithin
    (λ functions. record { types = types; state = state; functions = functions }) (times_behind [] n (function_read types n))
    (λ bytes place fs rest p e. let k = functions_cost types n [] n tt bytes place fs rest p e in ((k.0, k.1 ∙ omega arith), omega (arith, k.2)))
    (λ fs k. ((ts.0, subst (λ n. n ≤ most_functions) (sym k.1) (within_most 0 most_functions n few), k.0), refl)))))))

-- AS A PROGRAM
tables_counted : (trees : List Ty) (types : List ListedType) → length (named_tables trees types) ≡ named_count types
tables_counted trees [] = refl
tables_counted trees (ListedNamed cs ∷ types) = ap suc (tables_counted trees types)
tables_counted trees (ListedUnit ∷ types) = tables_counted trees types
tables_counted trees (ListedBool ∷ types) = tables_counted trees types
tables_counted trees (ListedInt ∷ types) = tables_counted trees types
tables_counted trees (ListedText ∷ types) = tables_counted trees types
tables_counted trees (ListedPair a b ∷ types) = tables_counted trees types
tables_counted trees (ListedAuth a ∷ types) = tables_counted trees types

abbrev HasFewConstructors : List (List Ty) → Type 0
HasFewConstructors cs = length cs ≤ most_constructors

abbrev HasFewFields : List Ty → Type 0
HasFewFields ts = length ts ≤ most_fields

constructors_within : (trees : List Ty) (cs : List ListedConstructor) → AllOf ConstructorWithin cs → All HasFewFields (map (λ (c : ListedConstructor). map (listed_at trees) c.fields) cs)
constructors_within trees [] h = All-nil HasFewFields
constructors_within trees (c ∷ cs) h =
    All-cons HasFewFields (map (listed_at trees) c.fields) (map (λ (c : ListedConstructor). map (listed_at trees) c.fields) cs)
    (subst (λ n. n ≤ most_fields) (sym (length-map c.fields (listed_at trees))) h.0.1) (constructors_within trees cs h.1)

tables_within : (trees : List Ty) (types : List ListedType) → AllOf TypeWithin types → All HasFewConstructors (named_tables trees types) × All (All HasFewFields) (named_tables trees types)
tables_within trees [] h = (All-nil HasFewConstructors, All-nil (All HasFewFields))
tables_within trees (ListedNamed cs ∷ types) h =
    let fields_of : ListedConstructor → List Ty = λ c. map (listed_at trees) c.fields in
    let table : List (List Ty) = map fields_of cs in
    let more = tables_within trees types h.1 in (
      All-cons HasFewConstructors table (named_tables trees types) (subst (λ n. n ≤ most_constructors) (sym (length-map cs fields_of)) h.0.0) more.0,
      All-cons (All HasFewFields) table (named_tables trees types) (constructors_within trees cs h.0.1) more.1,
    )
tables_within trees (ListedUnit ∷ types) h = tables_within trees types h.1
tables_within trees (ListedBool ∷ types) h = tables_within trees types h.1
tables_within trees (ListedInt ∷ types) h = tables_within trees types h.1
tables_within trees (ListedText ∷ types) h = tables_within trees types h.1
tables_within trees (ListedPair a b ∷ types) h = tables_within trees types h.1
tables_within trees (ListedAuth a ∷ types) h = tables_within trees types h.1

constructors_named : (cs : List ListedConstructor) → AllOf ConstructorWithin cs → All IsName (names_of cs)
constructors_named [] h = All-nil IsName
constructors_named (c ∷ cs) h = All-cons IsName c.name (names_of cs) h.0.0 (constructors_named cs h.1)

types_named : (types : List ListedType) → AllOf TypeWithin types → All (All IsName) (constructor_names types)
types_named [] h = All-nil (All IsName)
types_named (ListedNamed cs ∷ types) h = All-cons (All IsName) (names_of cs) (constructor_names types) (constructors_named cs h.0.1) (types_named types h.1)
types_named (ListedUnit ∷ types) h = types_named types h.1
types_named (ListedBool ∷ types) h = types_named types h.1
types_named (ListedInt ∷ types) h = types_named types h.1
types_named (ListedText ∷ types) h = types_named types h.1
types_named (ListedPair a b ∷ types) h = types_named types h.1
types_named (ListedAuth a ∷ types) h = types_named types h.1

functions_within : (trees : List Ty) (fs : List ListedFunction) → AllOf FunctionWithin fs → All IsFunctionWithin (map (declared_in trees) fs)
functions_within trees [] h = All-nil IsFunctionWithin
functions_within trees (f ∷ fs) h =
    All-cons IsFunctionWithin (declared_in trees f) (map (declared_in trees) fs)
    (record { name = h.0.0; parameters = subst (λ n. n ≤ most_parameters) (sym (length-map f.parameters (listed_at trees))) h.0.1 }) (functions_within trees fs h.1)

code_long : (trees : List Ty) (i : ℕ) (xs : List Instruction) → length (code_from trees i xs) ≡ length xs
code_long trees i [] = refl
code_long trees i (x ∷ xs) = ap suc (code_long trees (suc i) xs)

all_code_is : (trees : List Ty) (fs : List ListedFunction) → instructions_in_all (map (code_in trees) fs) ≡ all_code fs
all_code_is trees [] = refl
all_code_is trees (f ∷ fs) =
    let e : instructions_in_all (map (code_in trees) fs) ≡ all_code fs = all_code_is trees fs in
    let l : length (code_from trees 0 f.code) ≡ length f.code = code_long trees 0 f.code in
    omega (arith, e, l)

none_is : {A : Type 0} (a : A) → Some a ≡ None → ⊥
none_is a e = cc

pub objects_are_within : ObjectsAreWithin
objects_are_within bytes o fit e =
    judged _ (length bytes) (object_read bytes 0) o e (λ rest p t s k.
    let trees = trees_of o.types in
    let read = object_costs bytes 0 o rest p t in
    let types = read.0.0 in
    let tables = tables_within trees o.types types.1 in
    record {
      types = subst (λ n. n ≤ most_types) (sym (tables_counted trees o.types)) types.0;
      constructors = tables.0;
      fields = tables.1;
      functions = subst (λ n. n ≤ most_functions) (sym (length-map o.functions (declared_in trees))) read.0.1;
      each = functions_within trees o.functions read.0.2;
      written = λ none. absurd (none_is (map (code_in trees) o.functions) none);
      short = (let e : instructions_in_all (map (code_in trees) o.functions) ≡ all_code o.functions = all_code_is trees o.functions in omega (arith, e, read.1, fit));
    })

pub constructors_have_names : ConstructorsHaveNames
constructors_have_names bytes o e = judged _ (length bytes) (object_read bytes 0) o e (λ rest p t s k. types_named o.types (object_costs bytes 0 o rest p t).0.0.1)
