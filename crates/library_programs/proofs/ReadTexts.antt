-- Each text of the library is read to its program: the definitions, computed on the text.
use Rattle.std.proofs.Common.{◌≡◌, ℕ, List, Some, Result, Ok, Err, IfOk, sym, ◌∙◌, refl}
use Rattle.core_terms.specs.Programs.{meaning}
use Rattle.core_terms.specs.Terms as tree
use Rattle.core_terms.specs.declared.program.Program.{Program}
use Rattle.ads_library.specs.declared.texts.TheConstants.{BST}
use Rattle.ads_library.specs.declared.texts.TheConstants.{MERKLE}
use Rattle.ads_library.specs.declared.texts.TheConstants.{REDBLACK}
use Rattle.ads_library.specs.declared.texts.TheConstants.{SKIPLIST}
use Rattle.auth_types.specs.CheckedPrograms.{checked}
use Rattle.ideal_meaning.specs.Library.{bst, merkle}
use Rattle.ads_library.specs.RedBlackProgram.{redblack}
use Rattle.ads_library.specs.SkipListProgram.{skiplist}
use Rattle.library_programs.specs.Readings.{program_read}

-- what is read from a text whose program is known means this program
pub means : {E : Type 0} (text : List ℕ) (P : tree.Program) (r : Result Program E) → program_read text ≡ Some P
    → IfOk r (λ p. program_read text ≡ Some (meaning p)) → IfOk r (λ p. meaning p ≡ P)
means text P (Ok p) is h = let same : Some (meaning p) ≡ Some P = sym h ∙ is in cc
means text P (Err e) is h = tt

pub bst_is_read : program_read BST.now ≡ Some bst
unfolding program_read checked
bst_is_read = refl

pub merkle_is_read : program_read MERKLE.now ≡ Some merkle
unfolding program_read checked
merkle_is_read = refl

pub redblack_is_read : program_read REDBLACK.now ≡ Some redblack
unfolding program_read checked
redblack_is_read = refl

pub skiplist_is_read : program_read SKIPLIST.now ≡ Some skiplist
unfolding program_read checked
skiplist_is_read = refl
