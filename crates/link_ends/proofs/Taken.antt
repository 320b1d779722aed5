-- Bytes that were taken from a link: for what reads messages on one.
use Rattle.std.proofs.Common.{◌≡◌, ℕ, List, [], take, drop, Option, Some, None, refl, sym, append-nil}
use Rattle.std.proofs.lemmas.List.{take-append-drop}
use Rattle.std.specs.Io.KnownBytes.{prepend_known}
use Rattle.lam_outside.proofs.Moved.{append_none}
use Rattle.wire_form.specs.MovedBytes.{Moves}
use Rattle.link_ends.specs.MoreLinks.{TakesBytes}

-- so many bytes were taken
pub took : (n : ℕ) (bytes : List ℕ) (left' : Option (List ℕ)) → left' ≡ Some (drop n bytes) → TakesBytes bytes (take n bytes) left'
took n bytes left' is = (drop n bytes, sym (take-append-drop n bytes), is)

-- all were
pub took_all : (bytes : List ℕ) (left' : Option (List ℕ)) → left' ≡ Some [] → TakesBytes bytes bytes left'
took_all bytes left' is = ([], sym (append-nil bytes), is)

prepend_nothing : (w : Option (List ℕ)) → w ≡ prepend_known [] w
prepend_nothing None = refl
prepend_nothing (Some xs) = refl

-- no byte moved
pub none_moved : (given left : Option (List ℕ)) → Moves given left given left
none_moved given left = ([], prepend_nothing left, sym (append_none given))
