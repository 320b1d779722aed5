-- The bytes of a function, in their parts.
use Rattle.std.proofs.Common.{◌≡◌, ℕ, suc, List, [], ◌∷◌, ◌++◌, length, map, refl, sym, ap, ◌∙◌, append_assoc}
use Rattle.std.proofs.lemmas.List.{length-map}
use Rattle.core_terms.specs.Instructions as code
use Rattle.core_terms.specs.Terms as tree
use Rattle.core_terms.specs.Types.{Ty, Table}
use Rattle.core_terms.specs.GeneratedCode.{function_code}
use Rattle.object_meaning.specs.ObjectBytes.{bytes_of_all, function_bytes, instruction_bytes, word, words}
use Rattle.object_meaning.specs.WrittenObjects.{code_written, function_written, number_in}
use Rattle.object_writer.specs.WrittenFunctions.{body_bytes, head_bytes, signature_bytes}

length-code : (listing : List Ty) (i : ℕ) (xs : List code.Instruction) → length (code_written listing i xs) ≡ length xs
length-code listing i [] = refl
length-code listing i (x ∷ xs) = ap suc (length-code listing (suc i) xs)

pub function_split : (listing : List Ty) (table : Table) (g : tree.Function)
    → function_bytes (function_written listing table g) ≡ head_bytes g.kind g.name ++ (signature_bytes listing g.parameters g.result ++ body_bytes listing (function_code table g).code)
function_split listing table g =
    let head = head_bytes g.kind g.name in
    let parameters = words (map (number_in listing) g.parameters) in
    let result = word (number_in listing g.result) in
    let instructions = code_written listing 0 (function_code table g).code in
    let bytes = bytes_of_all instruction_bytes instructions in
    ap (λ n. head ++ (n ∷ (parameters ++ (result ++ (word (length instructions) ++ bytes))))) (length-map g.parameters (number_in listing))
    ∙ ap (λ n. head ++ (length g.parameters ∷ (parameters ++ (result ++ (word n ++ bytes))))) (length-code listing 0 (function_code table g).code)
    ∙ ap (λ l. head ++ (length g.parameters ∷ l)) (sym (append_assoc parameters result (word (length (function_code table g).code) ++ bytes)))
