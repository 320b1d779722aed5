-- The printed declarations, by the code's named types.
use Rattle.std.specs.Prelude.{ℕ, List, [], ◌∷◌, ◌++◌, codes}
use Rattle.core_terms.specs.Types.{Ty}
use Rattle.core_terms.specs.ProgramTrees.{types_at}
use Rattle.core_terms.specs.TypeDeclarations.{fields_text}
use Rattle.core_terms.specs.declared.term.Constructor.{Constructor}
use Rattle.core_terms.specs.declared.term.NamedType.{NamedType}

module _ (names : List (List ℕ)) (types : List Ty) where
  -- constructors, with this mark before the first and a bar before each other one
  abbrev pub of_constructors : List ℕ → List Constructor → List ℕ
  of_constructors mark [] = []
  of_constructors mark (c ∷ cs) = mark ++ (c.name ++ (fields_text names (types_at types c.fields.items) ++ of_constructors (codes " | ") cs))

  -- the declaration of a named type, on its line
  abbrev pub named_text : NamedType → List ℕ
  named_text declared = codes "type " ++ (declared.name ++ (of_constructors (codes " = ") declared.constructors.items ++ codes ";\n"))

  abbrev pub named_texts : List NamedType → List ℕ
  named_texts [] = []
  named_texts (declared ∷ more) = named_text declared ++ named_texts more
