-- The bytes of a well-formed object are read back.
use Rattle.std.proofs.Common.{◌≡◌, ◌<◌, ◌≤◌, ◌^◌, ℕ, suc, ◌+◌, Bool, true, false, not, ◌&&◌, List, [], ◌∷◌, ◌++◌, length, nat_lt, nat_le, nat_eq, slice_index_or, IsUtf8, refl, sym, ap, ◌∙◌, subst, arith, append-nil, length-append, ℤ, FitsSigned, Fits, le-leb, le-ltb, lt-ltb, if◌then◌else◌}
use Rattle.std.specs.Int.{w16, w64, to_be_bytes, from_be_bytes, cast_unsigned, cast_signed}
use Rattle.std.specs.Str.{is_utf8}
use Rattle.std.proofs.lemmas.Nat.{from_be_bytes-to_be_bytes_8}
use Rattle.core_terms.specs.Values.{int_fits}
use Rattle.core_terms.proofs.Numbers.{mag_of}
use Rattle.std.proofs.lemmas.Int.{to_z-of_z}
use Rattle.std.proofs.Math.Facts.{Fits-of_z}
use Rattle.std.proofs.lemmas.Str.{is_utf8-from_IsUtf8}
use Rattle.core_terms.specs.ProgramLimits.{most_constructors, most_fields, most_functions, most_parameters, most_types}
use Rattle.core_terms.specs.Terms.{Kind, Inner, Init, Query, Update}
use Rattle.core_terms.specs.declared.term.Arith.{Arith}
use Rattle.core_terms.specs.declared.term.Arith.TheVariants.{Add, Sub, Mul, Div, Rem}
use Rattle.core_terms.specs.declared.term.Compare.{Compare}
use Rattle.core_terms.specs.declared.term.Compare.TheVariants.{Eq, Lt, Le}
use Rattle.core_terms.specs.declared.term.TextCompare.{TextCompare}
use Rattle.core_terms.specs.declared.term.TextCompare.TheVariants.{Eq as TEq, Lt as TLt}
use Rattle.object_meaning.specs.Objects.{ListedConstructor, ListedType, ListedUnit, ListedBool, ListedInt, ListedText, ListedPair, ListedNamed, ListedAuth, Instruction, PushUnit, PushBool, PushInt, PushText, Load, Bind, Unbind, Pair, Fst, Snd, Make, Switch, Branch, Jump, Call, Return, Auth, Unauth, ArithOp, CompareOp, TextCompareOp, Cat, Len, Not, ListedFunction, Object, most_listed_types}
use Rattle.object_meaning.specs.ObjectBytes.{object_magic, bytes_of_all, word, words, name_bytes, constructor_bytes, type_bytes, arith_number, compare_number, text_compare_number, bool_number, instruction_bytes, kind_number, function_bytes, object_bytes}
use Rattle.object_meaning.specs.Readers.{Took, CutShort, BadAt, taken_as, field, u8, u16, u32, any, within, text_behind, times_from, times, times_behind}
use Rattle.object_meaning.specs.ReadObjects.{role_names, is_int, is_upper_name, is_lower_name, is_among, name_read, names_of, all_names, named_count, is_listed, constructor_read, type_readers, is_tag, nothing_read, new_type, type_read, constructors_of, is_named, ariths, compares, text_compares, text_read, int_read, operand_readers, instruction_read, role_name_read, kinds, type_number, behind_length, behind_result, behind_parameters, behind_count, behind_name, behind_kind, function_read, magic_read, behind_function_count, behind_state, behind_types, behind_type_count, behind_magic, object_read}
use Rattle.object_meaning.specs.WellFormedObjects.{AllBelow, IsNewName, IsConstructor, AreConstructors, IsType, AreTypes, AllAhead, IsInstruction, AreInstructions, HasRoleName, IsListedFunction, AreFunctions, IsObject}
use Rattle.object_meaning.proofs.ReadersBack.{Reads, reads_nothing, reads_then, reads_as, reads_field, reads_u8, reads_u16, reads_u32, reads_text, EachReads, reads_times, EachReadsBehind, reads_behind}

both : (a b : Bool) → a ≡ true → b ≡ true → a && b ≡ true
both true b h j = j
both false b h j = h

in_range : (least most n : ℕ) → least ≤ n → n ≤ most → within least most n ≡ true
in_range least most n h j = both _ _ (le-leb least n h) (le-leb n most j)

-- a name behind its length
reads_name : (form : List ℕ → Bool) (before : List (List ℕ)) (name : List ℕ) → IsNewName form before name → Reads (name_read form before) (name_bytes name) name
reads_name form before name h = λ rest place.
    let test : List ℕ → Bool = λ name. form name && not (is_among name before) in
    reads_then (u8 any) (λ n bytes behind. text_behind place test n bytes behind) (length name ∷ []) name (length name) name
    (reads_u8 any (length name) refl) (reads_text place test (length name) name refl (both _ _ h.is_formed (ap not h.is_new))) rest place

-- numbers below another, each in 4 bytes
reads_word : (count n : ℕ) → n < count → count ≤ 100000 → Reads (u32 (λ t. nat_lt t count)) (word n) n
reads_word count n h few = reads_u32 (λ t. nat_lt t count) n (omega (arith, h, few)) (lt-ltb n count h)

each_word : (count i : ℕ) (ns : List ℕ) → AllBelow count ns → count ≤ 100000 → EachReads (λ i. u32 (λ t. nat_lt t count)) word i ns
each_word count i [] h few = tt
each_word count i (n ∷ ns) h few = (reads_word count n h.0 few, each_word count (suc i) ns h.1 few)

reads_words : (count : ℕ) (ns : List ℕ) → AllBelow count ns → count ≤ 100000 → Reads (times (length ns) (u32 (λ t. nat_lt t count))) (words ns) ns
reads_words count ns h few = reads_times (λ i. u32 (λ t. nat_lt t count)) word 0 (length ns) ns refl (each_word count 0 ns h few)

-- TYPES
reads_constructor : (count : ℕ) (before : List (List ℕ)) (others : List ListedConstructor) (c : ListedConstructor) → IsConstructor count (before ++ names_of others) c → count ≤ 100000
    → Reads (constructor_read count before others) (constructor_bytes c) c
reads_constructor count before others c h few =
    reads_then (name_read is_upper_name (before ++ names_of others)) _ (name_bytes c.name) (length c.fields ∷ words c.fields) c.name c
    (reads_name is_upper_name (before ++ names_of others) c.name h.name)
    (reads_then (u8 (within 0 most_fields)) _ (length c.fields ∷ []) (words c.fields) (length c.fields) c
    (reads_u8 (within 0 most_fields) (length c.fields) (in_range 0 most_fields (length c.fields) (omega arith) h.few))
    (reads_as (λ fields. record { name = c.name; fields = fields }) (times (length c.fields) (u32 (λ t. nat_lt t count))) (words c.fields) c.fields (reads_words count c.fields h.fields few)))

each_constructor : (count : ℕ) (before : List (List ℕ)) (others cs : List ListedConstructor) → AreConstructors count before others cs → count ≤ 100000
    → EachReadsBehind (constructor_read count before) constructor_bytes others cs
each_constructor count before others [] h few = tt
each_constructor count before others (c ∷ cs) h few = (reads_constructor count before others c h.0 few, each_constructor count before (others ++ c ∷ []) cs h.1 few)

-- the tag of a type, and what stands behind it
abbrev tag_of : ListedType → ℕ
tag_of ListedUnit = 0
tag_of ListedBool = 1
tag_of ListedInt = 2
tag_of ListedText = 3
tag_of (ListedPair a b) = 4
tag_of (ListedNamed cs) = 5
tag_of (ListedAuth a) = 6

abbrev parts_of : ListedType → List ℕ
parts_of (ListedPair a b) = word a ++ word b
parts_of (ListedNamed cs) = length cs ∷ bytes_of_all constructor_bytes cs
parts_of (ListedAuth a) = word a
parts_of t = []

bytes_are : (t : ListedType) → type_bytes t ≡ tag_of t ∷ parts_of t
bytes_are ListedUnit = refl
bytes_are ListedBool = refl
bytes_are ListedInt = refl
bytes_are ListedText = refl
bytes_are (ListedPair a b) = refl
bytes_are (ListedNamed cs) = refl
bytes_are (ListedAuth a) = refl

reads_parts : (count : ℕ) (before : List ListedType) (t : ListedType) → IsType count before t → length before ≤ 100000 → count ≤ 100000
    → Reads (slice_index_or (type_readers count before) (tag_of t) nothing_read) (parts_of t) t
reads_parts count before ListedUnit h m few = reads_nothing ListedUnit
reads_parts count before ListedBool h m few = reads_nothing ListedBool
reads_parts count before ListedInt h m few = reads_nothing ListedInt
reads_parts count before ListedText h m few = reads_nothing ListedText
reads_parts count before (ListedPair a b) h m few =
    reads_then (u32 (λ t. nat_lt t (length before))) _ (word a) (word b) a (ListedPair a b) (reads_word (length before) a h.0 m)
    (reads_as (ListedPair a) (u32 (λ t. nat_lt t (length before))) (word b) b (reads_word (length before) b h.1 m))
reads_parts count before (ListedNamed cs) h m few =
    reads_then (u8 (within 1 most_constructors)) _ (length cs ∷ []) (bytes_of_all constructor_bytes cs) (length cs) (ListedNamed cs)
    (reads_u8 (within 1 most_constructors) (length cs) (in_range 1 most_constructors (length cs) h.1 h.2))
    (reads_as ListedNamed (times_behind [] (length cs) (constructor_read count (all_names before))) (bytes_of_all constructor_bytes cs) cs
    (reads_behind (constructor_read count (all_names before)) constructor_bytes [] (length cs) cs refl (each_constructor count (all_names before) [] cs h.3 few)))
reads_parts count before (ListedAuth a) h m few = reads_as ListedAuth (u32 (λ t. nat_lt t (length before))) (word a) a (reads_word (length before) a h m)

tag_passes : (count : ℕ) (before : List ListedType) (t : ListedType) → IsType count before t → is_tag before (tag_of t) ≡ true
tag_passes count before ListedUnit h = refl
tag_passes count before ListedBool h = refl
tag_passes count before ListedInt h = refl
tag_passes count before ListedText h = refl
tag_passes count before (ListedPair a b) h = refl
tag_passes count before (ListedNamed cs) h = lt-ltb (named_count before) most_types h.0
tag_passes count before (ListedAuth a) h = refl

reads_type : (count : ℕ) (before : List ListedType) (t : ListedType) → IsType count before t → is_listed t before ≡ false → length before ≤ 100000 → count ≤ 100000
    → Reads (type_read count before) (type_bytes t) t
reads_type count before t h new m few = λ rest place.
    ap (λ l. type_read count before (l ++ rest) place) (bytes_are t)
    ∙ reads_then (u8 (is_tag before)) (λ tag bytes behind. new_type before place (slice_index_or (type_readers count before) tag nothing_read bytes behind)) (tag_of t ∷ []) (parts_of t) (tag_of t) t
    (reads_u8 (is_tag before) (tag_of t) (tag_passes count before t h))
    (λ rest behind.
    ap (new_type before place) (reads_parts count before t h m few rest behind)
    ∙ ap (λ b. if b then BadAt place else Took t rest (behind + length (parts_of t))) new) rest place
    ∙ ap (λ l. Took t rest (place + length l)) (sym (bytes_are t))

each_type : (count : ℕ) (before ts : List ListedType) → AreTypes count before ts → length before + length ts ≤ 100000 → count ≤ 100000 → EachReadsBehind (type_read count) type_bytes before ts
each_type count before [] h m few = tt
each_type count before (t ∷ ts) h m few = (
  reads_type count before t h.0 h.1 (omega (arith, m)) few,
  each_type count (before ++ t ∷ []) ts h.2 (omega (arith, m, length-append before (t ∷ []))) few,
)

-- INSTRUCTIONS
int_back : (z : ℤ) → int_fits z ≡ true → cast_signed w64 (from_be_bytes w64 (to_be_bytes w64 (cast_unsigned w64 z))) ≡ z
int_back z h =
    let f : FitsSigned w64 z = record { sfits = mag_of z h } in
    let g : Fits w64 (cast_unsigned w64 z) = Fits-of_z f in
    ap (λ n. cast_signed w64 n) (from_be_bytes-to_be_bytes_8 (cast_unsigned w64 z) (g.fits)) ∙ to_z-of_z w64 z f

reads_int : (z : ℤ) → int_fits z ≡ true → Reads int_read (to_be_bytes w64 (cast_unsigned w64 z)) (PushInt z)
reads_int z h = λ rest place.
    let n = from_be_bytes w64 (to_be_bytes w64 (cast_unsigned w64 z)) in
    reads_as (λ n. PushInt (cast_signed w64 n)) (field 8 (from_be_bytes w64) is_int) (to_be_bytes w64 (cast_unsigned w64 z)) n
    (reads_field 8 (from_be_bytes w64) is_int (to_be_bytes w64 (cast_unsigned w64 z)) n refl refl (ap int_fits (int_back z h) ∙ h)) rest place
    ∙ ap (λ z'. Took (PushInt z') rest (place + 8)) (int_back z h)

reads_push_text : (bytes : List ℕ) → IsUtf8 bytes → length bytes ≤ 65532 → Reads text_read (word (length bytes) ++ bytes) (PushText bytes)
reads_push_text bytes u h = λ rest place.
    reads_then (u32 (within 0 65532)) (λ n bytes behind. taken_as PushText (text_behind place is_utf8 n bytes behind)) (word (length bytes)) bytes (length bytes) (PushText bytes)
    (reads_u32 (within 0 65532) (length bytes) (omega (arith, h)) (in_range 0 65532 (length bytes) (omega arith) h))
    (reads_as PushText (text_behind place is_utf8 (length bytes)) bytes bytes (reads_text place is_utf8 (length bytes) bytes refl (is_utf8-from_IsUtf8 bytes u))) rest place

-- the byte of an instruction, and its operands
abbrev code_byte : Instruction → ℕ
code_byte PushUnit = 0
code_byte (PushBool b) = 1
code_byte (PushInt z) = 2
code_byte (PushText bytes) = 3
code_byte (Load i) = 4
code_byte Bind = 5
code_byte (Unbind n) = 6
code_byte Pair = 7
code_byte Fst = 8
code_byte Snd = 9
code_byte (Make ty tag) = 10
code_byte (Switch ty targets) = 11
code_byte (Branch target) = 12
code_byte (Jump target) = 13
code_byte (Call f) = 14
code_byte Return = 15
code_byte (Auth ty) = 16
code_byte (Unauth ty) = 17
code_byte (ArithOp op) = 18
code_byte (CompareOp op) = 19
code_byte (TextCompareOp op) = 20
code_byte Cat = 21
code_byte Len = 22
code_byte Not = 23

abbrev operands_of : Instruction → List ℕ
operands_of (PushBool b) = bool_number b ∷ []
operands_of (PushInt z) = to_be_bytes w64 (cast_unsigned w64 z)
operands_of (PushText bytes) = word (length bytes) ++ bytes
operands_of (Load i) = i ∷ []
operands_of (Unbind n) = n ∷ []
operands_of (Make ty tag) = word ty ++ tag ∷ []
operands_of (Switch ty targets) = word ty ++ words targets
operands_of (Branch target) = word target
operands_of (Jump target) = word target
operands_of (Call f) = to_be_bytes w16 f
operands_of (Auth ty) = word ty
operands_of (Unauth ty) = word ty
operands_of (ArithOp op) = arith_number op ∷ []
operands_of (CompareOp op) = compare_number op ∷ []
operands_of (TextCompareOp op) = text_compare_number op ∷ []
operands_of i = []

module _ (types : List ListedType) (functions : ℕ) (few : length types ≤ 100000) (few_functions : functions ≤ 1024) where
  abbrev Operand : ℕ → ℕ → Instruction → Type 0
  Operand i n x = Reads (slice_index_or (operand_readers types functions i n) (code_byte x) nothing_read) (operands_of x) x

  reads_target : (i n t : ℕ) → (i < t) × (t < n) → n < 2 ^ 32 → Reads (u32 (λ t. nat_lt i t && nat_lt t n)) (word t) t
  reads_target i n t h m = reads_u32 (λ t. nat_lt i t && nat_lt t n) t (omega (arith, h.1, m)) (both _ _ (lt-ltb i t h.0) (lt-ltb t n h.1))

  each_target : (i n j : ℕ) (ts : List ℕ) → AllAhead i n ts → n < 2 ^ 32 → EachReads (λ j. u32 (λ t. nat_lt i t && nat_lt t n)) word j ts
  each_target i n j [] h m = tt
  each_target i n j (t ∷ ts) h m = (reads_target i n t h.0 m, each_target i n (suc j) ts h.1 m)

  reads_named : (ty : ℕ) → is_named types ty ≡ true → ty < length types → Reads (u32 (is_named types)) (word ty) ty
  reads_named ty h l = reads_u32 (is_named types) ty (omega (arith, l, few)) h

  reads_operands : (i n : ℕ) (x : Instruction) → IsInstruction types functions i n x → n < 2 ^ 32 → Operand i n x
  reads_operands i n PushUnit h m = reads_nothing PushUnit
  reads_operands i n (PushBool true) h m = reads_as (λ b. PushBool (nat_eq b 1)) (u8 (within 0 1)) (1 ∷ []) 1 (reads_u8 (within 0 1) 1 refl)
  reads_operands i n (PushBool false) h m = reads_as (λ b. PushBool (nat_eq b 1)) (u8 (within 0 1)) (0 ∷ []) 0 (reads_u8 (within 0 1) 0 refl)
  reads_operands i n (PushInt z) h m = reads_int z h
  reads_operands i n (PushText bytes) h m = reads_push_text bytes h.0 h.1
  reads_operands i n (Load j) h m = reads_as Load (u8 any) (j ∷ []) j (reads_u8 any j refl)
  reads_operands i n Bind h m = reads_nothing Bind
  reads_operands i n (Unbind j) h m = reads_as Unbind (u8 any) (j ∷ []) j (reads_u8 any j refl)
  reads_operands i n Pair h m = reads_nothing Pair
  reads_operands i n Fst h m = reads_nothing Fst
  reads_operands i n Snd h m = reads_nothing Snd
  reads_operands i n (Make ty tag) h m =
      reads_then (u32 (is_named types)) _ (word ty) (tag ∷ []) ty (Make ty tag) (reads_named ty h.0 h.1)
      (reads_as (Make ty) (u8 (λ tag. nat_lt tag (length (constructors_of types ty)))) (tag ∷ []) tag
      (reads_u8 (λ tag. nat_lt tag (length (constructors_of types ty))) tag (lt-ltb tag (length (constructors_of types ty)) h.2)))
  reads_operands i n (Switch ty targets) h m =
      reads_then (u32 (is_named types)) _ (word ty) (words targets) ty (Switch ty targets) (reads_named ty h.0 h.1)
      (reads_as (Switch ty) (times (length (constructors_of types ty)) (u32 (λ t. nat_lt i t && nat_lt t n))) (words targets) targets
      (reads_times (λ j. u32 (λ t. nat_lt i t && nat_lt t n)) word 0 (length (constructors_of types ty)) targets h.2 (each_target i n 0 targets h.3 m)))
  reads_operands i n (Branch target) h m = reads_as Branch (u32 (λ t. nat_lt i t && nat_lt t n)) (word target) target (reads_target i n target h m)
  reads_operands i n (Jump target) h m = reads_as Jump (u32 (λ t. nat_lt i t && nat_lt t n)) (word target) target (reads_target i n target h m)
  reads_operands i n (Call f) h m =
      reads_as Call (u16 (λ f. nat_lt f functions)) (to_be_bytes w16 f) f (reads_u16 (λ f. nat_lt f functions) f (omega (arith, h, few_functions)) (lt-ltb f functions h))
  reads_operands i n Return h m = reads_nothing Return
  reads_operands i n (Auth ty) h m = reads_as Auth (u32 (λ t. nat_lt t (length types))) (word ty) ty (reads_word (length types) ty h few)
  reads_operands i n (Unauth ty) h m = reads_as Unauth (u32 (λ t. nat_lt t (length types))) (word ty) ty (reads_word (length types) ty h few)
  reads_operands i n (ArithOp op) h m = of_op op
    where
      reads_op : (j : ℕ) → within 0 4 j ≡ true → Reads (λ bytes place. taken_as (λ op. ArithOp (slice_index_or ariths op Add)) (u8 (within 0 4) bytes place)) (j ∷ []) (ArithOp (slice_index_or ariths j Add))
      reads_op j t = reads_as (λ op. ArithOp (slice_index_or ariths op Add)) (u8 (within 0 4)) (j ∷ []) j (reads_u8 (within 0 4) j t)

      of_op : (op : Arith) → Operand i n (ArithOp op)
      of_op Add = reads_op 0 refl
      of_op Sub = reads_op 1 refl
      of_op Mul = reads_op 2 refl
      of_op Div = reads_op 3 refl
      of_op Rem = reads_op 4 refl
  reads_operands i n (CompareOp op) h m = compare op
    where
      reads_op : (j : ℕ) → within 0 2 j ≡ true → Reads (λ bytes place. taken_as (λ op. CompareOp (slice_index_or compares op Eq)) (u8 (within 0 2) bytes place)) (j ∷ []) (CompareOp (slice_index_or compares j Eq))
      reads_op j t = reads_as (λ op. CompareOp (slice_index_or compares op Eq)) (u8 (within 0 2)) (j ∷ []) j (reads_u8 (within 0 2) j t)

      compare : (op : Compare) → Operand i n (CompareOp op)
      compare Eq = reads_op 0 refl
      compare Lt = reads_op 1 refl
      compare Le = reads_op 2 refl
  reads_operands i n (TextCompareOp op) h m = compare op
    where
      reads_op : (j : ℕ) → within 0 1 j ≡ true
          → Reads (λ bytes place. taken_as (λ op. TextCompareOp (slice_index_or text_compares op TEq)) (u8 (within 0 1) bytes place)) (j ∷ []) (TextCompareOp (slice_index_or text_compares j TEq))
      reads_op j t = reads_as (λ op. TextCompareOp (slice_index_or text_compares op TEq)) (u8 (within 0 1)) (j ∷ []) j (reads_u8 (within 0 1) j t)

      compare : (op : TextCompare) → Operand i n (TextCompareOp op)
      compare TEq = reads_op 0 refl
      compare TLt = reads_op 1 refl
  reads_operands i n Cat h m = reads_nothing Cat
  reads_operands i n Len h m = reads_nothing Len
  reads_operands i n Not h m = reads_nothing Not

  byte_passes : (x : Instruction) → within 0 23 (code_byte x) ≡ true
  byte_passes PushUnit = refl
  byte_passes (PushBool b) = refl
  byte_passes (PushInt z) = refl
  byte_passes (PushText bytes) = refl
  byte_passes (Load i) = refl
  byte_passes Bind = refl
  byte_passes (Unbind n) = refl
  byte_passes Pair = refl
  byte_passes Fst = refl
  byte_passes Snd = refl
  byte_passes (Make ty tag) = refl
  byte_passes (Switch ty targets) = refl
  byte_passes (Branch target) = refl
  byte_passes (Jump target) = refl
  byte_passes (Call f) = refl
  byte_passes Return = refl
  byte_passes (Auth ty) = refl
  byte_passes (Unauth ty) = refl
  byte_passes (ArithOp op) = refl
  byte_passes (CompareOp op) = refl
  byte_passes (TextCompareOp op) = refl
  byte_passes Cat = refl
  byte_passes Len = refl
  byte_passes Not = refl

  spelled : (x : Instruction) → instruction_bytes x ≡ code_byte x ∷ operands_of x
  spelled PushUnit = refl
  spelled (PushBool b) = refl
  spelled (PushInt z) = refl
  spelled (PushText bytes) = refl
  spelled (Load i) = refl
  spelled Bind = refl
  spelled (Unbind n) = refl
  spelled Pair = refl
  spelled Fst = refl
  spelled Snd = refl
  spelled (Make ty tag) = refl
  spelled (Switch ty targets) = refl
  spelled (Branch target) = refl
  spelled (Jump target) = refl
  spelled (Call f) = refl
  spelled Return = refl
  spelled (Auth ty) = refl
  spelled (Unauth ty) = refl
  spelled (ArithOp op) = refl
  spelled (CompareOp op) = refl
  spelled (TextCompareOp op) = refl
  spelled Cat = refl
  spelled Len = refl
  spelled Not = refl

  reads_instruction : (i n : ℕ) (x : Instruction) → IsInstruction types functions i n x → n < 2 ^ 32 → Reads (instruction_read types functions n i) (instruction_bytes x) x
  reads_instruction i n x h m =
      subst (λ l. Reads (instruction_read types functions n i) l x) (sym (spelled x))
      (reads_then (u8 (within 0 23)) (λ code bytes place. slice_index_or (operand_readers types functions i n) code nothing_read bytes place) (code_byte x ∷ []) (operands_of x) (code_byte x) x
      (reads_u8 (within 0 23) (code_byte x) (byte_passes x)) (reads_operands i n x h m))

  each_instruction : (i n : ℕ) (xs : List Instruction) → AreInstructions types functions i n xs → n < 2 ^ 32 → EachReads (instruction_read types functions n) instruction_bytes i xs
  each_instruction i n [] h m = tt
  each_instruction i n (x ∷ xs) h m = (reads_instruction i n x h.0 m, each_instruction (suc i) n xs h.1 m)

  -- FUNCTIONS
  reads_role_name : (kind : Kind) (before : List ListedFunction) (name : List ℕ) → HasRoleName kind before name → Reads (role_name_read kind before) (name_bytes name) name
  reads_role_name Inner before name h =
      subst (λ name. Reads (role_name_read Inner before) (name_bytes name) name) (sym h)
      (reads_as (λ (n : ℕ). []) (u8 (nat_eq 0)) (0 ∷ []) 0 (reads_u8 (nat_eq 0) 0 refl))
  reads_role_name Init before name h = reads_name is_lower_name (role_names before) name h
  reads_role_name Query before name h = reads_name is_lower_name (role_names before) name h
  reads_role_name Update before name h = reads_name is_lower_name (role_names before) name h

  kind_passes : (kind : Kind) → (within 0 3 (kind_number kind) ≡ true) × (slice_index_or (kinds) (kind_number kind) Inner ≡ kind)
  kind_passes Inner = (refl, refl)
  kind_passes Init = (refl, refl)
  kind_passes Query = (refl, refl)
  kind_passes Update = (refl, refl)

  abbrev code_bytes : ListedFunction → List ℕ
  code_bytes f = bytes_of_all instruction_bytes f.code

  abbrev length_bytes : ListedFunction → List ℕ
  length_bytes f = word (length f.code) ++ code_bytes f

  abbrev result_bytes : ListedFunction → List ℕ
  result_bytes f = word f.result ++ length_bytes f

  abbrev parameter_bytes : ListedFunction → List ℕ
  parameter_bytes f = words f.parameters ++ result_bytes f

  abbrev count_bytes : ListedFunction → List ℕ
  count_bytes f = length f.parameters ∷ parameter_bytes f

  abbrev named_bytes : ListedFunction → List ℕ
  named_bytes f = name_bytes f.name ++ count_bytes f

  reads_function : (before : List ListedFunction) (f : ListedFunction) → IsListedFunction types functions before f → Reads (function_read types functions before) (function_bytes f) f
  reads_function before f h =
      let n = length f.code in
      let k = kind_passes f.kind in
      reads_then (u8 (within 0 3)) (λ number. behind_kind types functions before (slice_index_or (kinds) number Inner)) (kind_number f.kind ∷ []) (named_bytes f) (kind_number f.kind) f
      (reads_u8 (within 0 3) (kind_number f.kind) k.0)
      (subst (λ kind. Reads (behind_kind types functions before kind) (named_bytes f) f) (sym k.1)
      (reads_then (role_name_read f.kind before) (behind_name types functions f.kind) (name_bytes f.name) (count_bytes f) f.name f (reads_role_name f.kind before f.name h.name)
      (reads_then (u8 (within 1 most_parameters)) (behind_count types functions f.kind f.name) (length f.parameters ∷ []) (parameter_bytes f) (length f.parameters) f
      (reads_u8 (within 1 most_parameters) (length f.parameters) (in_range 1 most_parameters (length f.parameters) h.some h.few))
      (reads_then (times (length f.parameters) (type_number types functions)) (behind_parameters types functions f.kind f.name) (words f.parameters) (result_bytes f) f.parameters f
      (reads_words (length types) f.parameters h.parameters few)
      (reads_then (type_number types functions) (behind_result types functions f.kind f.name f.parameters) (word f.result) (length_bytes f) f.result f (reads_word (length types) f.result h.result few)
      (reads_then (u32 (nat_le 1)) (behind_length types functions f.kind f.name f.parameters f.result) (word n) (code_bytes f) n f (reads_u32 (nat_le 1) n h.fits (le-leb 1 n h.filled))
      (reads_as (λ code. record { kind = f.kind; name = f.name; parameters = f.parameters; result = f.result; code = code }) (times_from 0 n (instruction_read types functions n)) (code_bytes f) f.code
      (reads_times (instruction_read types functions n) instruction_bytes 0 n f.code refl (each_instruction 0 n f.code h.code h.fits)))))))))

  each_function : (before fs : List ListedFunction) → AreFunctions types functions before fs → EachReadsBehind (function_read types functions) function_bytes before fs
  each_function before [] h = tt
  each_function before (f ∷ fs) h = (reads_function before f h.0, each_function (before ++ f ∷ []) fs h.1)

-- WHOLE OBJECTS
reads_magic : Reads magic_read object_magic 0
reads_magic rest place =
    ap (λ b. if b then CutShort else Took 0 rest (place + 4)) (le-ltb (length (object_magic ++ rest)) 4 (omega (arith, length-append object_magic rest)))

abbrev functions_bytes : Object → List ℕ
functions_bytes o = bytes_of_all function_bytes o.functions

abbrev function_count_bytes : Object → List ℕ
function_count_bytes o = to_be_bytes w16 (length o.functions) ++ functions_bytes o

abbrev state_bytes : Object → List ℕ
state_bytes o = word o.state ++ function_count_bytes o

abbrev types_bytes : Object → List ℕ
types_bytes o = bytes_of_all type_bytes o.types ++ state_bytes o

abbrev type_count_bytes : Object → List ℕ
type_count_bytes o = word (length o.types) ++ types_bytes o

reads_object : (o : Object) → IsObject o → Reads object_read (object_bytes o) o
reads_object o h =
    let count = length o.types in
    let fs = length o.functions in
    reads_then magic_read behind_magic object_magic (type_count_bytes o) 0 o reads_magic
    (reads_then (u32 (within 0 most_listed_types)) behind_type_count (word count) (types_bytes o) count o
    (reads_u32 (within 0 most_listed_types) count (omega (arith, h.few_types)) (in_range 0 most_listed_types count (omega arith) h.few_types))
    (reads_then (times_behind [] count (type_read count)) (behind_types count) (bytes_of_all type_bytes o.types) (state_bytes o) o.types o
    (reads_behind (type_read count) type_bytes [] count o.types refl (each_type count [] o.types h.types (omega (arith, h.few_types)) h.few_types))
    (reads_then (u32 (λ t. nat_lt t count)) (behind_state o.types) (word o.state) (function_count_bytes o) o.state o (reads_word count o.state h.state h.few_types)
    (reads_then (u16 (within 0 most_functions)) (behind_function_count o.types o.state) (to_be_bytes w16 fs) (functions_bytes o) fs o
    (reads_u16 (within 0 most_functions) fs (omega (arith, h.few_functions)) (in_range 0 most_functions fs (omega arith) h.few_functions))
    (reads_as (λ functions. record { types = o.types; state = o.state; functions = functions }) (times_behind [] fs (function_read o.types fs)) (functions_bytes o) o.functions
    (reads_behind (function_read o.types fs) function_bytes [] fs o.functions refl (each_function o.types fs h.few_types h.few_functions [] o.functions h.functions)))))))

-- the bytes of a well-formed object are read as it, with nothing behind it
pub object_back : (o : Object) → IsObject o → object_read (object_bytes o) 0 ≡ Took o [] (length (object_bytes o))
object_back o h =
    let n : 0 + length (object_bytes o) ≡ length (object_bytes o) = omega arith in
    ap (λ l. object_read l 0) (sym (append-nil (object_bytes o))) ∙ reads_object o h [] 0 ∙ ap (Took o []) n
