-- The texts of the library's programs, as they stand in the code.
use Rattle.std.specs.Prelude.{List, ℕ, bytes_eq, codes, if◌then◌else◌, Option, Some, None}
use Rattle.ads_library.specs.declared.texts.TheConstants.{BST, MERKLE, REDBLACK, SKIPLIST}

-- the text of the program of this name
unfoldable pub library_text : List ℕ → Option (List ℕ)
library_text name =
    if bytes_eq name (codes "bst") then Some BST.now else
    (if bytes_eq name (codes "merkle") then Some MERKLE.now else
    (if bytes_eq name (codes "redblack") then Some REDBLACK.now else
    (if bytes_eq name (codes "skiplist") then Some SKIPLIST.now else None)))
