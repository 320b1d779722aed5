-- The parts of a function in an object.
use Rattle.std.specs.Prelude.{ℕ, List, [], ◌∷◌, ◌++◌, length, map, if◌then◌else◌}
use Rattle.core_terms.specs.Types.{Ty}
use Rattle.core_terms.specs.Terms.{Kind}
use Rattle.core_terms.specs.Roles.{is_entered}
use Rattle.core_terms.specs.Instructions.{Instruction}
use Rattle.object_meaning.specs.ObjectBytes.{bytes_of_all, instruction_bytes, kind_number, name_bytes, word, words}
use Rattle.object_meaning.specs.WrittenObjects.{code_written, number_in}

-- the kind and the name, which only a role has
abbrev pub head_bytes : Kind → List ℕ → List ℕ
head_bytes kind name = kind_number kind ∷ name_bytes (if is_entered kind then name else [])

-- over the listed types: the types of parameters and result, and the code
module _ (listing : List Ty) where
  abbrev pub signature_bytes : List Ty → Ty → List ℕ
  signature_bytes parameters result = length parameters ∷ (words (map (number_in listing) parameters) ++ word (number_in listing result))

  abbrev pub body_bytes : List Instruction → List ℕ
  body_bytes code = word (length code) ++ bytes_of_all instruction_bytes (code_written listing 0 code)
