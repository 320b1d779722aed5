-- The arms of a match, one after the other.
use Rattle.std.proofs.Common.{◌≡◌, ℕ, zero, suc, ◌+◌, ◌<◌, List, [], ◌∷◌, ◌++◌, length, map, take, slice_index_or, slice_get, unwrap_or, Option, Some, None, refl, sym, ap, ap₂, ◌∙◌, append-nil, arith}
use Rattle.std.specs.Option.{option_and_then}
use Rattle.core_terms.specs.Types.{Ty, Table}
use Rattle.core_terms.specs.Terms.{Expression}
use Rattle.core_terms.specs.ProgramTrees.{arms_in_a_row}
use Rattle.core_terms.specs.Instructions.{Instruction}
use Rattle.core_terms.specs.GeneratedCode.{code_of, arm_codes, unbind_code}
use Rattle.core_terms.specs.Bodies.{field_count}
use Rattle.code_gen.proofs.Rows.{taken, mapped_more}

-- one arm more, behind the others
arms_append : (types : Table) (xs : List Expression) (x : Expression) (cs : List (List Ty))
    → arm_codes types (arms_in_a_row (xs ++ x ∷ [])) cs ≡ arm_codes types (arms_in_a_row xs) cs ++ (code_of types x ++ unbind_code (length (unwrap_or (slice_get cs (length xs)) []))) ∷ []
arms_append types [] x [] = ap (λ l. l ∷ []) (sym (append-nil (code_of types x)))
arms_append types [] x (c ∷ cs) = refl
arms_append types (y ∷ xs) x [] = ap (λ l. code_of types y ∷ l) (arms_append types xs x [])
arms_append types (y ∷ xs) x (c ∷ cs) = ap (λ l. (code_of types y ++ unbind_code (length c)) ∷ l) (arms_append types xs x cs)

-- the fields of a constructor, by the constructors of its type
fields_of : (o : Option (List (List Ty))) (tag : ℕ) → unwrap_or (option_and_then (λ cs. slice_get cs tag) o) [] ≡ unwrap_or (slice_get (unwrap_or o []) tag) []
fields_of (Some cs) tag = refl
fields_of None tag = refl

length_taken : {A B : Type 0} (f : A → B) (xs : List A) (i : ℕ) → i < length xs → length (map f (take i xs)) ≡ i
length_taken f [] i h = absurd (omega (arith, h))
length_taken f (x ∷ xs) zero h = refl
length_taken f (x ∷ xs) (suc i) h = let k : i < length xs = omega (arith, h) in ap suc (length_taken f xs i k)

pub arms_more : {A B : Type 0} (types : Table) (f : A → Expression) (g : B → List Instruction) (number : ℕ) (xs : List A) (i : ℕ) (d x : A) (now after : List B) (y : B)
    → i < length xs → slice_index_or xs i d ≡ x
    → map g now ≡ arm_codes types (arms_in_a_row (map f (take i xs))) (unwrap_or (slice_get types number) [])
    → after ≡ now ++ y ∷ [] → g y ≡ code_of types (f x) ++ unbind_code (field_count types number i)
    → map g after ≡ arm_codes types (arms_in_a_row (map f (take (i + 1) xs))) (unwrap_or (slice_get types number) [])
arms_more types f g number xs i d x now after y h at e is same =
    let cs = unwrap_or (slice_get types number) [] in
    ap (map g) is ∙ mapped_more g now y
    ∙ ap₂ (λ l c. l ++ c ∷ []) e
    (same ∙ ap (λ ts. code_of types (f x) ++ unbind_code (length ts)) (fields_of (slice_get types number) i ∙ ap (λ n. unwrap_or (slice_get cs n) []) (sym (length_taken f xs i h))))
    ∙ sym (arms_append types (map f (take i xs)) (f x) cs)
    ∙ ap (λ l. arm_codes types (arms_in_a_row l) cs) (ap (λ x. map f (take i xs) ++ f x ∷ []) (sym at) ∙ sym (taken f xs i d h))
