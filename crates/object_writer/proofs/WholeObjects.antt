-- Whole objects: their parts, and when they are too long.
use Rattle.std.proofs.Common.{◌≡◌, ◌≤◌, ◌<◌, ℕ, Bool, true, false, ◌&&◌, List, [], ◌∷◌, ◌++◌, length, map, nat_le, Option, Some, None, Result, Ok, Err, Vec, refl, sym, ap, ◌∙◌, subst, arith, append_assoc, le-leb, leb-true, if◌then◌else◌}
use Rattle.std.specs.Prelude.{All}
use Rattle.std.specs.Int.{w16, to_be_bytes}
use Rattle.std.specs.declared.alloc.Global.{Global}
use Rattle.std.proofs.lemmas.List.{length-map}
use Rattle.std.proofs.lemmas.List.Elements.{All-cons, All-head, All-nil, All-tail}
use Rattle.core_terms.specs.Types.{Ty, Table}
use Rattle.core_terms.specs.Terms as tree
use Rattle.core_terms.specs.ProgramLimits.{most_constructors, most_fields}
use Rattle.core_terms.specs.Programs.{meaning}
use Rattle.core_terms.specs.TypeNames.{all_constructor_names}
use Rattle.core_terms.specs.declared.program.Program.{Program}
use Rattle.object_meaning.specs.Objects.{Object, most_listed_types, most_object_bytes}
use Rattle.object_meaning.specs.ObjectBytes.{bytes_of_all, function_bytes, object_bytes, object_magic, type_bytes, word}
use Rattle.object_meaning.specs.WrittenObjects.{function_written, number_in, object_of, type_written, types_written, written}
use Rattle.object_writer.proofs.Loops.{adds_then}
use Rattle.object_writer.specs.Adding.{Adds, Hinders}
use Rattle.object_writer.specs.Numberings.{AreTooMany}
use Rattle.object_writer.specs.WrittenAs.{WritesAs, types_part}
use Rattle.object_writer.specs.WrittenTypes.{HasFewParts}
use Rattle.object_writer.specs.declared.fault.WriteFault.{WriteFault}
use Rattle.object_writer.specs.declared.fault.WriteFault.TheVariants.{TooLong, NoMemory}

pub bytes_append : {A : Type 0} (bytes : A → List ℕ) (xs ys : List A) → bytes_of_all bytes (xs ++ ys) ≡ bytes_of_all bytes xs ++ bytes_of_all bytes ys
bytes_append bytes [] ys = refl
bytes_append bytes (x ∷ xs) ys = ap (λ l. bytes x ++ l) (bytes_append bytes xs ys) ∙ sym (append_assoc (bytes x) (bytes_of_all bytes xs) (bytes_of_all bytes ys))

-- the object's bytes: how it begins and its types, and what stands behind these
pub object_parts : (o : Object)
    → object_bytes o ≡ (object_magic ++ (word (length o.types) ++ bytes_of_all type_bytes o.types)) ++ (word o.state ++ (to_be_bytes w16 (length o.functions) ++ bytes_of_all function_bytes o.functions))
object_parts o =
    let count = word (length o.types) in
    let types = bytes_of_all type_bytes o.types in
    let rest = word o.state ++ (to_be_bytes w16 (length o.functions) ++ bytes_of_all function_bytes o.functions) in
    sym (append_assoc object_magic (count ++ types) rest ∙ ap (λ l. object_magic ++ l) (append_assoc count types rest))

-- An object whose types have these numbers is added part by part.
module _ (p : Program) (listing : List Ty) (is : listing ≡ types_written (meaning p)) where
  abbrev P : tree.Program
  P = meaning p

  abbrev its_names : List (List (List ℕ))
  its_names = all_constructor_names p.types.named.items

  abbrev over : List Ty → Object
  over l = record { types = map (type_written l P.types its_names) l; state = number_in l P.state; functions = map (function_written l P.types) P.functions }

  pub object_added : {R : Type 0} (old types state count new : List ℕ) (result : Result R WriteFault) → types ≡ old ++ types_part p.types listing → state ≡ types ++ word (number_in listing P.state)
      → count ≡ state ++ to_be_bytes w16 (length P.functions) → Adds count (bytes_of_all function_bytes (map (function_written listing P.types) P.functions)) new result
      → Adds old (object_bytes (object_of P its_names)) new result
  object_added old types state count new result a b c h =
      let o = over listing in
      let first = type_written listing P.types its_names in
      let a' = a ∙ ap (λ n. old ++ (object_magic ++ (word n ++ bytes_of_all type_bytes o.types))) (sym (length-map listing first)) in
      let c' = c ∙ ap (λ n. state ++ to_be_bytes w16 n) (sym (length-map P.functions (function_written listing P.types))) in
      subst (λ l. Adds old (object_bytes (over l)) new result) is
      (subst (λ added. Adds old added new result) (sym (object_parts o))
      (adds_then old (object_magic ++ (word (length o.types) ++ bytes_of_all type_bytes o.types)) (word o.state ++ (to_be_bytes w16 (length o.functions) ++ bytes_of_all function_bytes o.functions)) types new result a'
      (adds_then types (word o.state) (to_be_bytes w16 (length o.functions) ++ bytes_of_all function_bytes o.functions) state new result b
      (adds_then state (to_be_bytes w16 (length o.functions)) (bytes_of_all function_bytes o.functions) count new result c' h))))

-- named types within the limits have few parts
pub few_parts : (table : Table) → All (λ (cs : List (List Ty)). length cs ≤ most_constructors) table → All (All (λ (ts : List Ty). length ts ≤ most_fields)) table → All HasFewParts table
few_parts [] h j = All-nil HasFewParts
few_parts (cs ∷ table) h j =
    All-cons HasFewParts cs table
    (record {
      constructors = All-head (λ (cs : List (List Ty)). length cs ≤ most_constructors) cs table h;
      fields = All-head (All (λ (ts : List Ty). length ts ≤ most_fields)) cs table j;
    })
    (few_parts table (All-tail (λ (cs : List (List Ty)). length cs ≤ most_constructors) cs table h) (All-tail (All (λ (ts : List Ty). length ts ≤ most_fields)) cs table j))

-- WHEN THERE IS AN OBJECT
not_less : (a b : ℕ) → b < a → nat_le a b ≡ false
not_less a b h = by (nat_le a b) refl
  where
    by : (c : Bool) → nat_le a b ≡ c → nat_le a b ≡ false
    by true e = let low = leb-true a b e in absurd (omega (arith, low, h))
    by false e = e

and_false : (a b : Bool) → b ≡ false → a && b ≡ false
and_false true b e = e
and_false false b e = refl

module _ (P : tree.Program) (names : List (List (List ℕ))) where
  abbrev bytes : List ℕ
  bytes = object_bytes (object_of P names)

  abbrev answer : Bool → Option (List ℕ)
  answer b = if b then Some bytes else None

  pub is_written : (object : Vec ℕ Global) → object.items ≡ bytes → length bytes ≤ most_object_bytes → length (types_written P) ≤ most_listed_types → WritesAs (written P names) (Ok object)
  is_written object e short few =
      subst (λ b. WritesAs (answer b) (Ok object))
      (sym (ap (λ b. b && nat_le (length (types_written P)) most_listed_types) (le-leb (length bytes) most_object_bytes short) ∙ le-leb (length (types_written P)) most_listed_types few)) e

  -- too many types
  pub has_many_types : (fault : WriteFault) → AreTooMany (types_written P) fault → WritesAs (written P names) (Err fault)
  has_many_types TooLong many =
      subst (λ b. WritesAs (answer b) (Err TooLong))
      (sym (and_false (nat_le (length bytes) most_object_bytes) (nat_le (length (types_written P)) most_listed_types) (not_less (length (types_written P)) most_listed_types many))) tt
  has_many_types NoMemory many = no_memory (written P names)
    where
      no_memory : (told : Option (List ℕ)) → WritesAs told (Err NoMemory)
      no_memory (Some told) = tt
      no_memory None = tt

  -- too many bytes
  pub has_many_bytes : (fault : WriteFault) → Hinders [] bytes fault → WritesAs (written P names) (Err fault)
  has_many_bytes TooLong many =
      subst (λ b. WritesAs (answer b) (Err TooLong))
      (sym (ap (λ b. b && nat_le (length (types_written P)) most_listed_types) (not_less (length bytes) most_object_bytes (omega (arith, many))))) tt
  has_many_bytes NoMemory many = has_many_types NoMemory tt
