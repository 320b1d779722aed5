-- Programs of texts whose type declarations are printed alike have the same types.
use Rattle.std.proofs.Common.{◌≡◌, ℕ, List, sym, ◌∙◌}
use Rattle.core_terms.specs.Terms.{Program}
use Rattle.printed_types.specs.Laws.{EqualTextsAreEqualTables}
use Rattle.command_parts.specs.SoundPrograms.{IsOfDeclared}
use Rattle.command_parts.proofs.PassedTrees.{passes, text_of_program}

pub same_types : EqualTextsAreEqualTables → (P Q : Program) (declared : List ℕ) → IsOfDeclared declared P → IsOfDeclared declared Q → P.types ≡ Q.types
same_types law P Q declared (text, is, declares) (other_text, other_is, other_declares) =
    let one = text_of_program text P is in
    let other = text_of_program other_text Q other_is in
    let first = passes one.tree P one.passed in
    let second = passes other.tree Q other.passed in
    let same = law one.tree other.tree (record { text = text; is_parsed = one.parsed; are_known = first.second })
    (record { text = other_text; is_parsed = other.parsed; are_known = second.second }) (sym one.declared ∙ declares ∙ sym other_declares ∙ other.declared) in
    first.types ∙ same.table ∙ sym second.types
