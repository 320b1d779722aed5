-- The bytes of a text, and of a name, that stand in a program.
use Rattle.std.specs.Prelude.{ℕ, List}
use Rattle.core_terms.specs.declared.term.NameRef.{NameRef}
use Rattle.core_terms.specs.declared.term.Text.{Text}

abbrev pub bytes_of : Text → List ℕ
bytes_of text = text.bytes.items

-- the bytes of a name that is lent
abbrev pub name_bytes : NameRef → List ℕ
name_bytes name = name.bytes.now
