-- The record of a node, by its form and the numbers of the records of its parts.
use Rattle.std.specs.Prelude.{ℕ, ◌≤◌, ◌%◌, true, false, List, [], ◌∷◌, ◌++◌, length}
use Rattle.std.specs.Int.{w16, w32, w64, to_be_bytes, cast_unsigned}
use Rattle.value_store.specs.Nodes.{Form, UnitNode, BoolNode, IntNode, TextNode, PairNode, ConNode, AuthNode, VecNode, refs_in, greatest_limit}
use Rattle.images.specs.declared.save.record.Record.{Record}

-- what stands in the record before the numbers of the parts
abbrev pub head_of : Form → List ℕ
head_of UnitNode = 0 ∷ []
head_of (BoolNode false) = 1 ∷ 0 ∷ []
head_of (BoolNode true) = 1 ∷ 1 ∷ []
head_of (IntNode z) = 2 ∷ to_be_bytes w64 (cast_unsigned w64 z)
head_of (TextNode bytes) = 3 ∷ to_be_bytes w32 (length bytes) ++ bytes
head_of (PairNode first second) = 4 ∷ []
head_of (ConNode number tag fields) = 5 ∷ to_be_bytes w16 number ++ tag ∷ []
head_of (AuthNode held) = 6 ∷ []
head_of (VecNode items) = 7 ∷ length items % 256 ∷ []

-- the numbers of the records of some nodes, in 4 bytes each
abbrev pub numbered : (ℕ → ℕ) → List ℕ → List ℕ
numbered number [] = []
numbered number (r ∷ rs) = to_be_bytes w32 (number r) ++ numbered number rs

-- the bytes of a record
abbrev pub bytes_of : Record → List ℕ
bytes_of of_code = of_code.0.items

-- some bytes, one behind the other
abbrev pub joined : List (List ℕ) → List ℕ
joined [] = []
joined (bytes ∷ rest) = bytes ++ joined rest

-- the record of a node, where the records of its parts have these numbers
abbrev pub record_at : (ℕ → ℕ) → Form → List ℕ
record_at number form = head_of form ++ numbered number (refs_in form)

-- a text within the limits of the nodes of a store
abbrev pub HasShortText : Form → Type 0
HasShortText (TextNode bytes) = length bytes ≤ greatest_limit
HasShortText form = Unit {0}

-- the greatest number of records, which have numbers of 4 bytes
abbrev pub most_records : ℕ
most_records = 4294967295

-- the greatest number of bytes of the records of an image that is written
abbrev pub most_bytes : ℕ
most_bytes = 67108824
