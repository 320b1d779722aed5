-- The names of the constructors of a text's program, and its type declarations as they are printed.
use Rattle.std.proofs.Common.{◌≡◌, ℕ, List, [], map, slice_get, unwrap_or, sym, ap, ap₂, ◌∙◌}
use Rattle.std.proofs.Math.Path.{fun_ext}
use Rattle.std.proofs.lemmas.Option.{slice_get-map}
use Rattle.core_terms.specs.ProgramTypes.{named_table, text_of}
use Rattle.core_terms.specs.Programs.{constructor_names, type_names}
use Rattle.core_terms.specs.TypeNames.{all_constructor_names}
use Rattle.core_terms.specs.TypeDeclarations.{types_text}
use Rattle.core_terms.specs.Types.{Table}
use Rattle.core_terms.specs.declared.program_types.Types.{Types}
use Rattle.core_terms.specs.declared.term.Constructor.{Constructor}
use Rattle.core_terms.specs.declared.term.NamedType.{NamedType}
use Rattle.auth_syntax.specs.Parsing.{Tree, parsed}
use Rattle.auth_syntax.specs.Syntax as syntax
use Rattle.auth_types.specs.CheckedPrograms.{constructors_in, names_of, table_of_program}
use Rattle.declared_types.specs.ScopeNames.{constructors_meant}
use Rattle.command_parts.specs.TextPrograms.{constructor_names_of_text, constructors_of_parsed, constructors_of_text, types_text_of_parsed, types_text_of_text}

-- the names of each type, from a list of all
pub names_by_number : (named : List NamedType) (names : List (List (List ℕ))) → all_constructor_names named ≡ names
    → (n : ℕ) → constructor_names named n ≡ unwrap_or (slice_get names n) []
names_by_number named names are n =
    sym (ap (λ names. unwrap_or names []) (slice_get-map (λ (declared : NamedType). map (λ (constructor : Constructor). constructor.name) declared.constructors.items) named n))
    ∙ ap (λ names. unwrap_or (slice_get names n) []) are

pub constructors_of_tree : (named : List NamedType) (text : List ℕ) (tree : syntax.Program) → parsed text ≡ Tree tree
    → constructors_meant named ≡ constructors_in tree.declarations → all_constructor_names named ≡ constructors_of_text text
unfolding constructors_of_text
constructors_of_tree named text tree is meant = meant ∙ sym (ap constructors_of_parsed is)

pub names_of_text : (named : List NamedType) (text : List ℕ) (tree : syntax.Program) → parsed text ≡ Tree tree
    → constructors_meant named ≡ constructors_in tree.declarations → constructor_names named ≡ constructor_names_of_text text
unfolding constructor_names_of_text
names_of_text named text tree is meant = fun_ext (names_by_number named (constructors_of_parsed (parsed text)) (meant ∙ sym (ap constructors_of_parsed is)))

pub types_of_text : (types : Types) (text : List ℕ) (tree : syntax.Program) → parsed text ≡ Tree tree → type_names types.named.items ≡ names_of tree
    → constructors_meant types.named.items ≡ constructors_in tree.declarations → named_table types ≡ table_of_program tree → text_of types ≡ types_text_of_text text
unfolding types_text_of_text
types_of_text types text tree is names meant table =
    ap₂ (λ ns css. types_text ns css (named_table types)) names meant
    ∙ ap (λ (table : Table). types_text (names_of tree) (constructors_in tree.declarations) table) table
    ∙ sym (ap types_text_of_parsed is)
