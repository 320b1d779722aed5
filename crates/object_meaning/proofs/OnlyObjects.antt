-- Bytes that are read as an object are its bytes: no others are read as it.
use Rattle.std.proofs.Common.{◌≡◌, ◌≤◌, ℕ, zero, suc, ◌+◌, Bool, true, false, not, ◌&&◌, List, [], ◌∷◌, ◌++◌, length, take, drop, nat_lt, nat_le, nat_eq, bytes_eq, slice_index_or, refl, sym, ap, ◌∙◌, subst, arith, append_assoc, append-nil, length-append, length-take-le, take-append-drop, ltb-false, eqb-true, if◌then◌else◌}
use Rattle.std.specs.Int.{w16, w32, w64, to_be_bytes, from_be_bytes, cast_signed, cast_unsigned}
use Rattle.std.specs.Str.{is_utf8}
use Rattle.std.proofs.lemmas.Int.{of_z-to_z}
use Rattle.std.proofs.lemmas.Slice.Eq.{bytes_eq-Decides}
use Rattle.std.proofs.lemmas.Nat.{be_bytes_2, be_bytes_4, be_bytes_8}
use Rattle.core_terms.specs.ProgramLimits.{most_constructors, most_fields, most_functions, most_parameters}
use Rattle.core_terms.specs.Spelling.{AreBytes}
use Rattle.core_terms.specs.Terms.{Kind, Inner, Init, Query, Update}
use Rattle.core_terms.specs.declared.term.Arith.TheVariants.{Add}
use Rattle.core_terms.specs.declared.term.Compare.TheVariants.{Eq}
use Rattle.core_terms.specs.declared.term.TextCompare.TheVariants.{Eq as TEq}
use Rattle.core_terms.proofs.ReadOnly.{byte_at, bytes_take, bytes_drop, be_low_8}
use Rattle.object_meaning.specs.Objects.{ListedConstructor, ListedType, ListedUnit, ListedBool, ListedInt, ListedText, ListedPair, ListedNamed, ListedAuth, Instruction, PushUnit, PushBool, PushInt, PushText, Load, Bind, Unbind, Pair, Fst, Snd, Make, Switch, Branch, Jump, Call, Return, Auth, Unauth, ArithOp, CompareOp, TextCompareOp, Cat, Len, Not, ListedFunction, most_listed_types}
use Rattle.object_meaning.specs.ObjectBytes.{object_magic, bytes_of_all, word, words, name_bytes, constructor_bytes, type_bytes, arith_number, compare_number, text_compare_number, bool_number, instruction_bytes, kind_number, function_bytes, object_bytes}
use Rattle.object_meaning.specs.Readers.{Took, CutShort, BadAt, Reader, then_take, taken_as, field, byte_in, u8, u16, u32, any, within, text_behind, times_from, times, times_behind}
use Rattle.object_meaning.specs.ReadObjects.{is_lower_name, is_upper_name, is_among, name_read, names_of, all_names, is_listed, constructor_read, type_readers, is_tag, nothing_read, new_type, type_read, role_names, role_name_read, constructors_of, is_named, ariths, compares, text_compares, is_int, text_read, operand_readers, instruction_read, kinds, type_number, behind_length, behind_result, behind_parameters, behind_count, behind_name, function_read, magic_read, behind_function_count, behind_state, behind_types, behind_type_count, behind_magic, object_read}
use Rattle.object_meaning.specs.ObjectLaws.{BytesAreTheObjects}
use Rattle.object_meaning.proofs.ReadThere.{taken_then, taken_is, taken_rest, Anything, within_most}

-- the bytes that a reader takes are these, and something is so of what it takes
abbrev pub Spells : {A : Type 0} → (A → List ℕ) → (A → Type 0) → Reader A → Type 0
Spells {A} spell P read = (bytes : List ℕ) → AreBytes bytes → (place : ℕ) (a : A) (rest : List ℕ) (p : ℕ) → read bytes place ≡ Took a rest p → (bytes ≡ spell a ++ rest) × P a × AreBytes rest

-- With what was taken before, they are those of what is made of all.
abbrev Ends : {A : Type 0} → (List ℕ → List ℕ) → (A → List ℕ) → Reader A → Type 0
Ends {A} before spell read = (bytes : List ℕ) → AreBytes bytes → (place : ℕ) (a : A) (rest : List ℕ) (p : ℕ) → read bytes place ≡ Took a rest p → (before bytes ≡ spell a ++ rest) × AreBytes rest

spells_other : {A : Type 0} (spell other : A → List ℕ) (P Q : A → Type 0) (read : Reader A) → ((a : A) → P a → (spell a ≡ other a) × Q a) → Spells spell P read → Spells other Q read
spells_other spell other P Q read g f bytes h place a rest p e =
    let k = f bytes h place a rest p e in
    let m = g a k.1 in
    (k.0 ∙ ap (λ l. l ++ rest) m.0, m.1, k.2)

spelled : {A : Type 0} (spell : A → List ℕ) (read : Reader A) → Ends (λ l. l) spell read → Spells spell Anything read
spelled spell read f bytes h place a rest p e = let k = f bytes h place a rest p e in (k.0, tt, k.1)

ends_then : {A B : Type 0} (before : List ℕ → List ℕ) (spell : A → List ℕ) (P : A → Type 0) (all : B → List ℕ) (read : Reader A) (go : A → Reader B) → Spells spell P read
    → ((a : A) → P a → Ends (λ l. before (spell a ++ l)) all (go a)) → Ends before all (λ bytes place. then_take (read bytes place) go)
ends_then before spell P all read go f g bytes h place b rest p e =
    taken_then ((before bytes ≡ all b ++ rest) × AreBytes rest) (read bytes place) go b rest p e (λ a r q t k.
    let first = f bytes h place a r q t in
    let second = g a first.1 r first.2 q b rest p k in
    (ap before first.0 ∙ second.0, second.1))

ends_one : {A : Type 0} (before : List ℕ → List ℕ) (spell : A → List ℕ) (a : A) → ((rest : List ℕ) → before rest ≡ spell a ++ rest) → Ends before spell (λ bytes place. Took a bytes place)
ends_one before spell a g bytes h place b rest p e =
    let left : bytes ≡ rest = taken_rest a b bytes rest place p e in
    subst (λ b. (before bytes ≡ spell b ++ rest) × AreBytes rest) (taken_is a b bytes rest place p e) (ap before left ∙ g rest, subst AreBytes left h)

ends_as : {A B : Type 0} (before : List ℕ → List ℕ) (spell : A → List ℕ) (P : A → Type 0) (all : B → List ℕ) (make : A → B) (read : Reader A) → Spells spell P read
    → ((a : A) → P a → (rest : List ℕ) → before (spell a ++ rest) ≡ all (make a) ++ rest) → Ends before all (λ bytes place. taken_as make (read bytes place))
ends_as before spell P all make read f g =
    ends_then before spell P all read (λ a rest place. Took (make a) rest place) f (λ a k. ends_one (λ l. before (spell a ++ l)) all (make a) (g a k))

ends_last : {A : Type 0} (before : List ℕ → List ℕ) (spell : A → List ℕ) (P : A → Type 0) (all : A → List ℕ) (read : Reader A) → Spells spell P read
    → ((a : A) → P a → (rest : List ℕ) → before (spell a ++ rest) ≡ all a ++ rest) → Ends before all read
ends_last before spell P all read f g bytes h place a rest p e = let k = f bytes h place a rest p e in (ap before k.0 ∙ g a k.1 rest, k.2)

-- FIELDS
spells_field : (n : ℕ) (number : List ℕ → ℕ) (test : ℕ → Bool) (spell : ℕ → List ℕ)
    → ((bs : List ℕ) → length bs ≡ n → AreBytes bs → spell (number bs) ≡ bs) → Spells spell (λ x. test x ≡ true) (field n number test)
spells_field n number test spell g bytes h place x rest p e = by (nat_lt (length bytes) n) refl (test (number (take n bytes))) refl e
  where
    by : (b : Bool) → nat_lt (length bytes) n ≡ b → (c : Bool) → test (number (take n bytes)) ≡ c
        → (if b then CutShort else (if c then Took (number (take n bytes)) (drop n bytes) (place + n) else BadAt place)) ≡ Took x rest p → (bytes ≡ spell x ++ rest) × (test x ≡ true) × AreBytes rest
    by true l c t e = absurd (cc (e))
    by false l true t e =
        let long : n ≤ length bytes = ltb-false (length bytes) n l in
        let left : drop n bytes ≡ rest = taken_rest (number (take n bytes)) x (drop n bytes) rest (place + n) p e in
        let front : spell (number (take n bytes)) ≡ take n bytes = g (take n bytes) (length-take-le n bytes long) (bytes_take n bytes h) in
        subst (λ y. (bytes ≡ spell y ++ rest) × (test y ≡ true) × AreBytes rest) (taken_is (number (take n bytes)) x (drop n bytes) rest (place + n) p e)
        (sym (take-append-drop n bytes) ∙ ap (λ l. l ++ drop n bytes) (sym front) ∙ ap (λ l. spell (number (take n bytes)) ++ l) left, t, subst AreBytes left (bytes_drop n bytes h))
    by false l false t e = absurd (cc (e))

one_byte : (bs : List ℕ) → length bs ≡ 1 → byte_in bs ∷ [] ≡ bs
one_byte [] l = absurd (omega (arith, l))
one_byte (b ∷ []) l = refl
one_byte (b ∷ c ∷ bs) l = absurd (omega (arith, l))

pub spells_u8 : (test : ℕ → Bool) → Spells (λ n. n ∷ []) (λ x. test x ≡ true) (u8 test)
spells_u8 test = spells_field 1 byte_in test (λ n. n ∷ []) (λ bs l h. one_byte bs l)

pub spells_u16 : (test : ℕ → Bool) → Spells (to_be_bytes w16) (λ x. test x ≡ true) (u16 test)
spells_u16 test = spells_field 2 (from_be_bytes w16) test (to_be_bytes w16) (λ bs l h. be_bytes_2 bs (from_be_bytes w16 bs) l (byte_at bs h) refl)

pub spells_u32 : (test : ℕ → Bool) → Spells word (λ x. test x ≡ true) (u32 test)
spells_u32 test = spells_field 4 (from_be_bytes w32) test word (λ bs l h. be_bytes_4 bs (from_be_bytes w32 bs) l (byte_at bs h) refl)

spells_word : (test : ℕ → Bool) → Spells word Anything (u32 test)
spells_word test = spells_other word word (λ x. test x ≡ true) Anything (u32 test) (λ a t. (refl, tt)) (spells_u32 test)

-- a field, and what is read behind it
u8_then : {B : Type 0} (before : List ℕ → List ℕ) (test : ℕ → Bool) (all : B → List ℕ) (go : ℕ → Reader B)
    → ((n : ℕ) → test n ≡ true → Ends (λ l. before (n ∷ l)) all (go n)) → Ends before all (λ bytes place. then_take (u8 test bytes place) go)
u8_then before test all go g = ends_then before (λ n. n ∷ []) (λ n. test n ≡ true) all (u8 test) go (spells_u8 test) g

u16_then : {B : Type 0} (before : List ℕ → List ℕ) (test : ℕ → Bool) (all : B → List ℕ) (go : ℕ → Reader B)
    → ((n : ℕ) → Ends (λ l. before (to_be_bytes w16 n ++ l)) all (go n)) → Ends before all (λ bytes place. then_take (u16 test bytes place) go)
u16_then before test all go g = ends_then before (to_be_bytes w16) (λ n. test n ≡ true) all (u16 test) go (spells_u16 test) (λ n h. g n)

word_then : {B : Type 0} (before : List ℕ → List ℕ) (test : ℕ → Bool) (all : B → List ℕ) (go : ℕ → Reader B)
    → ((n : ℕ) → Ends (λ l. before (word n ++ l)) all (go n)) → Ends before all (λ bytes place. then_take (u32 test bytes place) go)
word_then before test all go g = ends_then before word (λ n. test n ≡ true) all (u32 test) go (spells_u32 test) (λ n h. g n)

pub spells_text : (offset : ℕ) (test : List ℕ → Bool) (n : ℕ) → Spells (λ text. text) (λ text. length text ≡ n) (text_behind offset test n)
spells_text offset test n bytes h place x rest p e = by (nat_lt (length bytes) n) refl (test (take n bytes)) e
  where
    by : (b : Bool) → nat_lt (length bytes) n ≡ b → (c : Bool)
        → (if b then CutShort else (if c then Took (take n bytes) (drop n bytes) (place + n) else BadAt offset)) ≡ Took x rest p → (bytes ≡ x ++ rest) × (length x ≡ n) × AreBytes rest
    by true l c e = absurd (cc (e))
    by false l true e =
        let left : drop n bytes ≡ rest = taken_rest (take n bytes) x (drop n bytes) rest (place + n) p e in
        subst (λ y. (bytes ≡ y ++ rest) × (length y ≡ n) × AreBytes rest) (taken_is (take n bytes) x (drop n bytes) rest (place + n) p e)
        (sym (take-append-drop n bytes) ∙ ap (λ l. take n bytes ++ l) left, length-take-le n bytes (ltb-false (length bytes) n l), subst AreBytes left (bytes_drop n bytes h))
    by false l false e = absurd (cc (e))

-- as many as said
abbrev AllSpelled : {A : Type 0} → (A → List ℕ) → ℕ → List ℕ → List ℕ → List A → Type 0
AllSpelled spell n bytes rest items = (bytes ≡ bytes_of_all spell items ++ rest) × (length items ≡ n) × AreBytes rest

spells_times : {A : Type 0} (spell : A → List ℕ) (one : ℕ → Reader A) → ((i : ℕ) → Spells spell Anything (one i))
    → (i n : ℕ) → Spells (bytes_of_all spell) (λ items. length items ≡ n) (times_from i n one)
spells_times spell one f i zero bytes h place items rest p e =
    let left : bytes ≡ rest = taken_rest [] items bytes rest place p e in
    subst (AllSpelled spell 0 bytes rest) (taken_is [] items bytes rest place p e) (left, refl, subst AreBytes left h)
spells_times spell one f i (suc n) bytes h place items rest p e =
    taken_then (AllSpelled spell (suc n) bytes rest items) (one i bytes place) (λ a bytes place. taken_as (λ more. a ∷ more) (times_from (suc i) n one bytes place)) items rest p e (λ a r q t k.
    taken_then (AllSpelled spell (suc n) bytes rest items) (times_from (suc i) n one r q) (λ more rest place. Took (a ∷ more) rest place) items rest p k (λ more s u t' k'.
    let first = f i bytes h place a r q t in
    let second = spells_times spell one f (suc i) n r first.2 q more s u t' in
    let left : s ≡ rest = taken_rest (a ∷ more) items s rest u p k' in
    subst (AllSpelled spell (suc n) bytes rest) (taken_is (a ∷ more) items s rest u p k') (
      first.0 ∙ ap (λ l. spell a ++ l) (second.0 ∙ ap (λ l. bytes_of_all spell more ++ l) left) ∙ sym (append_assoc (spell a) (bytes_of_all spell more) rest),
      ap suc second.1,
      subst AreBytes left second.2,
    )))

all_bytes_more : {A : Type 0} (spell : A → List ℕ) (items : List A) (a : A) → bytes_of_all spell (items ++ a ∷ []) ≡ bytes_of_all spell items ++ spell a
all_bytes_more spell [] a = append-nil (spell a)
all_bytes_more spell (b ∷ items) a = ap (λ l. spell b ++ l) (all_bytes_more spell items a) ∙ sym (append_assoc (spell b) (bytes_of_all spell items) (spell a))

-- each read by those before it
behind_ends : {A : Type 0} (spell : A → List ℕ) (one : List A → Reader A) → ((before : List A) → Spells spell Anything (one before)) → (before : List A) (n : ℕ)
    → (bytes : List ℕ) → AreBytes bytes → (place : ℕ) (items : List A) (rest : List ℕ) (p : ℕ) → times_behind before n one bytes place ≡ Took items rest p
    → AllSpelled spell (length before + n) (bytes_of_all spell before ++ bytes) rest items
behind_ends spell one f before zero bytes h place items rest p e =
    let left : bytes ≡ rest = taken_rest before items bytes rest place p e in
    subst (AllSpelled spell (length before + 0) (bytes_of_all spell before ++ bytes) rest) (taken_is before items bytes rest place p e)
    (ap (λ l. bytes_of_all spell before ++ l) left, omega arith, subst AreBytes left h)
behind_ends spell one f before (suc n) bytes h place items rest p e =
    taken_then (AllSpelled spell (length before + suc n) (bytes_of_all spell before ++ bytes) rest items) (one before bytes place)
    (λ a bytes place. times_behind (before ++ a ∷ []) n one bytes place) items rest p e (λ a r q t k.
    let first = f before bytes h place a r q t in
    let second = behind_ends spell one f (before ++ a ∷ []) n r first.2 q items rest p k in (
      ap (λ l. bytes_of_all spell before ++ l) first.0 ∙ sym (append_assoc (bytes_of_all spell before) (spell a) r) ∙ ap (λ l. l ++ r) (sym (all_bytes_more spell before a)) ∙ second.0,
      second.1 ∙ omega (arith, length-append before (a ∷ [])),
      second.2,
    ))

spells_behind : {A : Type 0} (spell : A → List ℕ) (one : List A → Reader A) → ((before : List A) → Spells spell Anything (one before))
    → (n : ℕ) → Spells (bytes_of_all spell) (λ items. length items ≡ n) (times_behind [] n one)
spells_behind spell one f n bytes h place items rest p e = let k = behind_ends spell one f [] n bytes h place items rest p e in (k.0, k.1 ∙ omega arith, k.2)

-- one of these, by a number before it
abbrev AllEnd : {A : Type 0} → (ℕ → ℕ) → (A → List ℕ) → List (Reader A) → Type 0
AllEnd at spell [] = Unit {0}
AllEnd at spell (read ∷ reads) = Ends (λ l. at 0 ∷ l) spell read × AllEnd (λ n. at (suc n)) spell reads

any_ends : {A : Type 0} (at : ℕ → ℕ) (spell : A → List ℕ) (reads : List (Reader A)) → AllEnd at spell reads → (n : ℕ) → Ends (λ l. at n ∷ l) spell (slice_index_or reads n nothing_read)
any_ends at spell [] h n bytes b place a rest p e = absurd (cc (e))
any_ends at spell (read ∷ reads) h zero bytes b place a rest p e = h.0 bytes b place a rest p e
any_ends at spell (read ∷ reads) h (suc n) bytes b place a rest p e = any_ends (λ n. at (suc n)) spell reads h.1 n bytes b place a rest p e

-- NAMES
spells_name : (form : List ℕ → Bool) (before : List (List ℕ)) → Spells name_bytes Anything (name_read form before)
spells_name form before bytes h place name rest p e =
    let test : List ℕ → Bool = λ name. form name && not (is_among name before) in
    spelled name_bytes (λ bytes behind. then_take (u8 any bytes behind) (λ n bytes behind. text_behind place test n bytes behind))
    (u8_then (λ l. l) any name_bytes (λ n bytes behind. text_behind place test n bytes behind) (λ n k.
    ends_last (λ l. n ∷ l) (λ text. text) (λ text. length text ≡ n) name_bytes (text_behind place test n) (spells_text place test n)
    (λ text l rest. ap (λ n. n ∷ (text ++ rest)) (sym l)))) bytes h place name rest p e

-- TYPES
spells_words : (n : ℕ) (test : ℕ → Bool) → Spells words (λ items. length items ≡ n) (times n (u32 test))
spells_words n test = spells_times word (λ i. u32 test) (λ i. spells_word test) 0 n

spells_constructor : (count : ℕ) (before : List (List ℕ)) (others : List ListedConstructor) → Spells constructor_bytes Anything (constructor_read count before others)
spells_constructor count before others =
    spelled constructor_bytes (constructor_read count before others)
    (ends_then (λ l. l) name_bytes Anything constructor_bytes (name_read is_upper_name (before ++ names_of others)) _ (spells_name is_upper_name (before ++ names_of others)) (λ name h.
    u8_then (λ l. name_bytes name ++ l) (within 0 most_fields) constructor_bytes _ (λ n k.
    ends_as (λ l. name_bytes name ++ n ∷ l) words (λ (fields : List ℕ). length fields ≡ n) constructor_bytes (λ fields. record { name = name; fields = fields })
    (times n (u32 (λ t. nat_lt t count))) (spells_words n (λ t. nat_lt t count))
    (λ fields l rest. ap (λ n. name_bytes name ++ n ∷ (words fields ++ rest)) (sym l) ∙ sym (append_assoc (name_bytes name) (length fields ∷ words fields) rest)))))

ends_new : (listed : List ListedType) (before : List ℕ → List ℕ) (offset : ℕ) (read : Reader ListedType)
    → Ends before type_bytes read → Ends before type_bytes (λ bytes place. new_type listed offset (read bytes place))
ends_new listed before offset read f bytes h place ty rest p e =
    taken_then ((before bytes ≡ type_bytes ty ++ rest) × AreBytes rest) (read bytes place) (λ ty bytes place. if is_listed ty listed then BadAt offset else Took ty bytes place)
    ty rest p e (λ a r q t k. by a r q t (is_listed a listed) k)
  where
    by : (a : ListedType) (r : List ℕ) (q : ℕ) → read bytes place ≡ Took a r q → (b : Bool)
        → (if b then BadAt offset else Took a r q) ≡ Took ty rest p → (before bytes ≡ type_bytes ty ++ rest) × AreBytes rest
    by a r q t true k = absurd (cc (k))
    by a r q t false k = f bytes h place ty rest p (t ∙ k)

module _ (count : ℕ) (listed : List ListedType) where
  abbrev earlier : ℕ → Bool
  earlier t = nat_lt t (length listed)

  types_end : AllEnd (λ n. n) type_bytes (type_readers count listed)
  types_end = (
    ends_one (λ l. 0 ∷ l) type_bytes ListedUnit (λ rest. refl),
    (
      ends_one (λ l. 1 ∷ l) type_bytes ListedBool (λ rest. refl),
      (
        ends_one (λ l. 2 ∷ l) type_bytes ListedInt (λ rest. refl),
        (
          ends_one (λ l. 3 ∷ l) type_bytes ListedText (λ rest. refl),
          (
            word_then (λ l. 4 ∷ l) earlier type_bytes _ (λ a.
                ends_as (λ l. 4 ∷ (word a ++ l)) word Anything type_bytes (ListedPair a) (u32 earlier) (spells_word earlier)
                (λ b k rest. ap (λ l. 4 ∷ l) (sym (append_assoc (word a) (word b) rest)))),
            (
              u8_then (λ l. 5 ∷ l) (within 1 most_constructors) type_bytes _ (λ n h.
                  ends_as (λ l. 5 ∷ n ∷ l) (bytes_of_all constructor_bytes) (λ (cs : List ListedConstructor). length cs ≡ n) type_bytes ListedNamed
                  (times_behind [] n (constructor_read count (all_names listed)))
                  (spells_behind constructor_bytes (constructor_read count (all_names listed)) (spells_constructor count (all_names listed)) n)
                  (λ cs l rest. ap (λ n. 5 ∷ n ∷ (bytes_of_all constructor_bytes cs ++ rest)) (sym l))),
              (
                ends_as (λ l. 6 ∷ l) word Anything type_bytes ListedAuth (u32 earlier) (spells_word earlier) (λ a h rest. refl),
                tt,
              ),
            ),
          ),
        ),
      ),
    ),
  )

  spells_type : Spells type_bytes Anything (type_read count listed)
  spells_type bytes h place ty rest p e =
      let go : ℕ → Reader ListedType = λ tag bytes behind. new_type listed place (slice_index_or (type_readers count listed) tag nothing_read bytes behind) in
      spelled type_bytes (λ bytes behind. then_take (u8 (is_tag listed) bytes behind) go)
      (u8_then (λ l. l) (is_tag listed) type_bytes go (λ tag k.
      ends_new listed (λ l. tag ∷ l) place (slice_index_or (type_readers count listed) tag nothing_read)
      (any_ends (λ n. n) type_bytes (type_readers count listed) types_end tag))) bytes h place ty rest p e

-- INSTRUCTIONS
bool_back : (n : ℕ) → within 0 1 n ≡ true → n ∷ [] ≡ bool_number (nat_eq n 1) ∷ []
bool_back zero e = refl
bool_back (suc zero) e = refl
bool_back (suc (suc n)) e = absurd (omega (arith, within_most 0 1 (suc (suc n)) e))

arith_back : (n : ℕ) → within 0 4 n ≡ true → n ∷ [] ≡ arith_number (slice_index_or ariths n Add) ∷ []
arith_back zero e = refl
arith_back (suc zero) e = refl
arith_back (suc (suc zero)) e = refl
arith_back (suc (suc (suc zero))) e = refl
arith_back (suc (suc (suc (suc zero)))) e = refl
arith_back (suc (suc (suc (suc (suc n))))) e = absurd (omega (arith, within_most 0 4 (suc (suc (suc (suc (suc n))))) e))

compare_back : (n : ℕ) → within 0 2 n ≡ true → n ∷ [] ≡ compare_number (slice_index_or compares n Eq) ∷ []
compare_back zero e = refl
compare_back (suc zero) e = refl
compare_back (suc (suc zero)) e = refl
compare_back (suc (suc (suc n))) e = absurd (omega (arith, within_most 0 2 (suc (suc (suc n))) e))

text_compare_back : (n : ℕ) → within 0 1 n ≡ true → n ∷ [] ≡ text_compare_number (slice_index_or text_compares n TEq) ∷ []
text_compare_back zero e = refl
text_compare_back (suc zero) e = refl
text_compare_back (suc (suc n)) e = absurd (omega (arith, within_most 0 1 (suc (suc n)) e))

kind_back : (n : ℕ) → within 0 3 n ≡ true → n ∷ [] ≡ kind_number (slice_index_or kinds n Inner) ∷ []
kind_back zero e = refl
kind_back (suc zero) e = refl
kind_back (suc (suc zero)) e = refl
kind_back (suc (suc (suc zero))) e = refl
kind_back (suc (suc (suc (suc n)))) e = absurd (omega (arith, within_most 0 3 (suc (suc (suc (suc n)))) e))

-- a number of 8 bytes, as the int that it is
abbrev pub int_bytes : ℕ → List ℕ
int_bytes n = to_be_bytes w64 (cast_unsigned w64 (cast_signed w64 n))

pub spells_int : Spells int_bytes (λ n. is_int n ≡ true) (field 8 (from_be_bytes w64) is_int)
spells_int =
    spells_field 8 (from_be_bytes w64) is_int int_bytes (λ bs l h.
    ap (to_be_bytes w64) (of_z-to_z w64 (from_be_bytes w64 bs) (be_low_8 bs (byte_at bs h))) ∙ be_bytes_8 bs (from_be_bytes w64 bs) l (byte_at bs h) refl)

ends_text : Ends (λ l. 3 ∷ l) instruction_bytes text_read
ends_text bytes h place x rest p e =
    word_then (λ l. 3 ∷ l) (within 0 65532) instruction_bytes (λ n bytes behind. taken_as PushText (text_behind place is_utf8 n bytes behind)) (λ n.
    ends_as (λ l. 3 ∷ (word n ++ l)) (λ text. text) (λ (text : List ℕ). length text ≡ n) instruction_bytes PushText (text_behind place is_utf8 n) (spells_text place is_utf8 n)
    (λ text l rest. ap (λ n. 3 ∷ (word n ++ (text ++ rest))) (sym l) ∙ ap (λ l. 3 ∷ l) (sym (append_assoc (word (length text)) text rest)))) bytes h place x rest p e

module _ (types : List ListedType) (functions : ℕ) where
  -- an operand of one byte, and one of four
  one_operand : (code : ℕ) (test : ℕ → Bool) (make : ℕ → Instruction) → ((n : ℕ) → test n ≡ true → (rest : List ℕ) → code ∷ n ∷ rest ≡ instruction_bytes (make n) ++ rest)
      → Ends (λ l. code ∷ l) instruction_bytes (λ bytes place. taken_as make (u8 test bytes place))
  one_operand code test make g = ends_as (λ l. code ∷ l) (λ n. n ∷ []) (λ n. test n ≡ true) instruction_bytes make (u8 test) (spells_u8 test) g

  four_operand : (code : ℕ) (test : ℕ → Bool) (make : ℕ → Instruction) → ((n : ℕ) → (rest : List ℕ) → code ∷ (word n ++ rest) ≡ instruction_bytes (make n) ++ rest)
      → Ends (λ l. code ∷ l) instruction_bytes (λ bytes place. taken_as make (u32 test bytes place))
  four_operand code test make g = ends_as (λ l. code ∷ l) word Anything instruction_bytes make (u32 test) (spells_word test) (λ n h rest. g n rest)

  no_operand : (code : ℕ) (x : Instruction) → ((rest : List ℕ) → code ∷ rest ≡ instruction_bytes x ++ rest) → Ends (λ l. code ∷ l) instruction_bytes (λ bytes place. Took x bytes place)
  no_operand code x g = ends_one (λ l. code ∷ l) instruction_bytes x g

  operands_end : (i n : ℕ) → AllEnd (λ n. n) instruction_bytes (operand_readers types functions i n)
  operands_end i n =
      let ty : ℕ → Bool = λ t. nat_lt t (length types) in
      let target : ℕ → Bool = λ t. nat_lt i t && nat_lt t n in (
        no_operand 0x00 PushUnit (λ rest. refl),
        (
          one_operand 0x01 (within 0 1) (λ b. PushBool (nat_eq b 1)) (λ n h rest. ap (λ l. 0x01 ∷ (l ++ rest)) (bool_back n h)),
          (
            ends_as (λ l. 0x02 ∷ l) int_bytes (λ n. is_int n ≡ true) instruction_bytes (λ n. PushInt (cast_signed w64 n)) (field 8 (from_be_bytes w64) is_int) spells_int (λ n h rest. refl),
            (
              ends_text,
              (
                one_operand 0x04 any Load (λ n h rest. refl),
                (
                  no_operand 0x05 Bind (λ rest. refl),
                  (
                    one_operand 0x06 any Unbind (λ n h rest. refl),
                    (
                      no_operand 0x07 Pair (λ rest. refl),
                      (
                        no_operand 0x08 Fst (λ rest. refl),
                        (
                          no_operand 0x09 Snd (λ rest. refl),
                          (
                            word_then (λ l. 0x0A ∷ l) (is_named types) instruction_bytes _ (λ ty.
                                let below : ℕ → Bool = λ tag. nat_lt tag (length (constructors_of types ty)) in
                                ends_as (λ l. 0x0A ∷ (word ty ++ l)) (λ n. n ∷ []) (λ tag. below tag ≡ true) instruction_bytes (Make ty) (u8 below) (spells_u8 below)
                                (λ tag k rest. ap (λ l. 0x0A ∷ l) (sym (append_assoc (word ty) (tag ∷ []) rest)))),
                            (
                              word_then (λ l. 0x0B ∷ l) (is_named types) instruction_bytes _ (λ ty.
                                  let count = length (constructors_of types ty) in
                                  ends_as (λ l. 0x0B ∷ (word ty ++ l)) words (λ (targets : List ℕ). length targets ≡ count) instruction_bytes (Switch ty)
                                  (times count (u32 target)) (spells_words count target)
                                  (λ targets k rest. ap (λ l. 0x0B ∷ l) (sym (append_assoc (word ty) (words targets) rest)))),
                              (
                                four_operand 0x0C target Branch (λ n rest. refl),
                                (
                                  four_operand 0x0D target Jump (λ n rest. refl),
                                  (
                                    ends_as (λ l. 0x0E ∷ l) (to_be_bytes w16) (λ f. nat_lt f functions ≡ true) instruction_bytes Call
                                        (u16 (λ f. nat_lt f functions)) (spells_u16 (λ f. nat_lt f functions)) (λ f h rest. refl),
                                    (
                                      no_operand 0x0F Return (λ rest. refl),
                                      (
                                        four_operand 0x10 ty Auth (λ n rest. refl),
                                        (
                                          four_operand 0x11 ty Unauth (λ n rest. refl),
                                          (
                                            one_operand 0x12 (within 0 4) (λ op. ArithOp (slice_index_or ariths op Add)) (λ n h rest. ap (λ l. 0x12 ∷ (l ++ rest)) (arith_back n h)),
                                            (
                                              one_operand 0x13 (within 0 2) (λ op. CompareOp (slice_index_or compares op Eq)) (λ n h rest. ap (λ l. 0x13 ∷ (l ++ rest)) (compare_back n h)),
                                              (
                                                one_operand 0x14 (within 0 1) (λ op. TextCompareOp (slice_index_or text_compares op TEq))
                                                    (λ n h rest. ap (λ l. 0x14 ∷ (l ++ rest)) (text_compare_back n h)),
                                                (
                                                  no_operand 0x15 Cat (λ rest. refl),
                                                  (
                                                    no_operand 0x16 Len (λ rest. refl),
                                                    (
                                                      no_operand 0x17 Not (λ rest. refl),
                                                      tt,
                                                    ),
                                                  ),
                                                ),
                                              ),
                                            ),
                                          ),
                                        ),
                                      ),
                                    ),
                                  ),
                                ),
                              ),
                            ),
                          ),
                        ),
                      ),
                    ),
                  ),
                ),
              ),
            ),
          ),
        ),
      )

  spells_instruction : (n i : ℕ) → Spells instruction_bytes Anything (instruction_read types functions n i)
  spells_instruction n i =
      spelled instruction_bytes (instruction_read types functions n i)
      (u8_then (λ l. l) (within 0 23) instruction_bytes _ (λ code h.
      any_ends (λ n. n) instruction_bytes (operand_readers types functions i n) (operands_end i n) code))

  -- FUNCTIONS
  spells_role_name : (kind : Kind) (before : List ListedFunction) → Spells name_bytes Anything (role_name_read kind before)
  spells_role_name Inner before =
      spelled name_bytes (role_name_read Inner before)
      (ends_as (λ l. l) (λ n. n ∷ []) (λ n. nat_eq 0 n ≡ true) name_bytes (λ n. []) (u8 (nat_eq 0)) (spells_u8 (nat_eq 0)) (λ n h rest. ap (λ n. n ∷ rest) (sym (eqb-true 0 n h))))
  spells_role_name Init before = spells_name is_lower_name (role_names before)
  spells_role_name Query before = spells_name is_lower_name (role_names before)
  spells_role_name Update before = spells_name is_lower_name (role_names before)

  abbrev kind_byte : ℕ → List ℕ
  kind_byte n = kind_number (slice_index_or kinds n Inner) ∷ []

  spells_function : (before : List ListedFunction) → Spells function_bytes Anything (function_read types functions before)
  spells_function before =
      spelled function_bytes (function_read types functions before)
      (ends_then (λ l. l) kind_byte Anything function_bytes (u8 (within 0 3)) _
      (spells_other (λ n. n ∷ []) kind_byte (λ n. within 0 3 n ≡ true) Anything (u8 (within 0 3)) (λ n h. (kind_back n h, tt)) (spells_u8 (within 0 3))) (λ number h0.
      let kind = slice_index_or kinds number Inner in
      let k = kind_number kind in
      ends_then (λ l. k ∷ l) name_bytes Anything function_bytes (role_name_read kind before) (behind_name types functions kind) (spells_role_name kind before) (λ name h1.
      let N = name_bytes name in
      u8_then (λ l. k ∷ (N ++ l)) (within 1 most_parameters) function_bytes (behind_count types functions kind name) (λ count h2.
      ends_then (λ l. k ∷ (N ++ count ∷ l)) words (λ (ps : List ℕ). length ps ≡ count) function_bytes (times count (type_number types functions)) (behind_parameters types functions kind name)
      (spells_words count (λ t. nat_lt t (length types))) (λ ps few.
      let W = words ps in
      word_then (λ l. k ∷ (N ++ count ∷ (W ++ l))) (λ t. nat_lt t (length types)) function_bytes (behind_result types functions kind name ps) (λ result.
      let R = word result in
      word_then (λ l. k ∷ (N ++ count ∷ (W ++ (R ++ l)))) (nat_le 1) function_bytes (behind_length types functions kind name ps result) (λ n.
      ends_as (λ l. k ∷ (N ++ count ∷ (W ++ (R ++ (word n ++ l))))) (bytes_of_all instruction_bytes) (λ (code : List Instruction). length code ≡ n) function_bytes
      (λ code. record { kind = kind; name = name; parameters = ps; result = result; code = code }) (times_from 0 n (instruction_read types functions n))
      (spells_times instruction_bytes (instruction_read types functions n) (spells_instruction n) 0 n)
      (λ code long rest.
      let C = bytes_of_all instruction_bytes code in
      let L = word (length code) in
      ap (λ count. k ∷ (N ++ count ∷ (W ++ (R ++ (word n ++ (C ++ rest)))))) (sym few)
      ∙ ap (λ n. k ∷ (N ++ length ps ∷ (W ++ (R ++ (word n ++ (C ++ rest)))))) (sym long)
      ∙ ap (λ l. k ∷ (N ++ length ps ∷ (W ++ (R ++ l)))) (sym (append_assoc L C rest))
      ∙ ap (λ l. k ∷ (N ++ length ps ∷ (W ++ l))) (sym (append_assoc R (L ++ C) rest))
      ∙ ap (λ l. k ∷ (N ++ length ps ∷ l)) (sym (append_assoc W (R ++ (L ++ C)) rest))
      ∙ ap (λ l. k ∷ l) (sym (append_assoc N (length ps ∷ (W ++ (R ++ (L ++ C)))) rest))))))))))

-- OBJECTS
pub spells_magic : Spells (λ n. object_magic) Anything magic_read
spells_magic bytes h place x rest p e = by (nat_lt (length bytes) 4) (bytes_eq (take 4 bytes) object_magic) refl e
  where
    by : (b c : Bool) → bytes_eq (take 4 bytes) object_magic ≡ c → (if b then CutShort else (if c then Took 0 (drop 4 bytes) (place + 4) else BadAt place)) ≡ Took x rest p
        → (bytes ≡ object_magic ++ rest) × Unit {0} × AreBytes rest
    by true c s e = absurd (cc (e))
    by false true s e =
        let left : drop 4 bytes ≡ rest = taken_rest 0 x (drop 4 bytes) rest (place + 4) p e in (
          sym (take-append-drop 4 bytes) ∙ ap (λ l. l ++ drop 4 bytes) ((bytes_eq-Decides (take 4 bytes) object_magic).0 s) ∙ ap (λ l. object_magic ++ l) left,
          tt,
          subst AreBytes left (bytes_drop 4 bytes h),
        )
    by false false s e = absurd (cc (e))

spells_object : Spells object_bytes Anything object_read
spells_object =
    spelled object_bytes object_read
    (ends_then (λ l. l) (λ n. object_magic) Anything object_bytes magic_read behind_magic spells_magic (λ magic h0.
    word_then (λ l. object_magic ++ l) (within 0 most_listed_types) object_bytes behind_type_count (λ count.
    ends_then (λ l. object_magic ++ (word count ++ l)) (bytes_of_all type_bytes) (λ (types : List ListedType). length types ≡ count) object_bytes
    (times_behind [] count (type_read count)) (behind_types count) (spells_behind type_bytes (type_read count) (spells_type count) count) (λ types long.
    let T = bytes_of_all type_bytes types in
    word_then (λ l. object_magic ++ (word count ++ (T ++ l))) (λ t. nat_lt t count) object_bytes (behind_state types) (λ state.
    let S = word state in
    u16_then (λ l. object_magic ++ (word count ++ (T ++ (S ++ l)))) (within 0 most_functions) object_bytes (behind_function_count types state) (λ n.
    ends_as (λ l. object_magic ++ (word count ++ (T ++ (S ++ (to_be_bytes w16 n ++ l))))) (bytes_of_all function_bytes) (λ (fs : List ListedFunction). length fs ≡ n) object_bytes
    (λ functions. record { types = types; state = state; functions = functions }) (times_behind [] n (function_read types n))
    (spells_behind function_bytes (function_read types n) (spells_function types n) n)
    (λ fs each rest.
    let F = bytes_of_all function_bytes fs in
    let L = to_be_bytes w16 (length fs) in
    let W = word (length types) in
    ap (λ count. object_magic ++ (word count ++ (T ++ (S ++ (to_be_bytes w16 n ++ (F ++ rest)))))) (sym long)
    ∙ ap (λ n. object_magic ++ (W ++ (T ++ (S ++ (to_be_bytes w16 n ++ (F ++ rest)))))) (sym each)
    ∙ ap (λ l. object_magic ++ (W ++ (T ++ (S ++ l)))) (sym (append_assoc L F rest))
    ∙ ap (λ l. object_magic ++ (W ++ (T ++ l))) (sym (append_assoc S (L ++ F) rest))
    ∙ ap (λ l. object_magic ++ (W ++ l)) (sym (append_assoc T (S ++ (L ++ F)) rest))
    ∙ ap (λ l. object_magic ++ l) (sym (append_assoc W (T ++ (S ++ (L ++ F))) rest)))))))))

pub bytes_are_the_objects : BytesAreTheObjects
bytes_are_the_objects bytes p o h e = (spells_object bytes h 0 o [] p e).0 ∙ append-nil (object_bytes o)
