-- Code is right in both modes.
use Rattle.std.proofs.Common.{List, []}
use Rattle.core_terms.specs.Terms.{function_at}
use Rattle.ideal_meaning.specs.Ideal.{Opened, ideal_mode}
use Rattle.ideal_meaning.specs.PieceForms.{as_whole}
use Rattle.ideal_meaning.specs.Checked.{Taking, Cause, checked_mode, checked_mode_as}
use Rattle.ideal_meaning.specs.ModeKinds.{ideal_kind, digest_kind}
use Rattle.code_meaning.specs.Modes.{IdealIsRight, CheckedIsRight, FetchedIsRight}
use Rattle.ideal_meaning.proofs.ModeLaws.{ideal_laws, checked_laws, fetched_laws, ideals_are, shallows_are}
use Rattle.code_meaning.proofs.CodeRight.{right}

pub ideal_is_right : IdealIsRight
ideal_is_right P typed f args k h =
    right ⊥ (List Opened) P typed ideal_mode (ideal_kind P.types) (ideal_laws P.types) f args k [] (ideals_are P.types (function_at P f).parameters args h)

pub checked_is_right : CheckedIsRight
checked_is_right H P typed f args k w h =
    right Cause Taking P typed (checked_mode H P) digest_kind (checked_laws H P) f args k w (shallows_are P.types (function_at P f).parameters args h)

pub fetched_is_right : FetchedIsRight
fetched_is_right H P typed f args k w h =
    right Cause Taking P typed (checked_mode_as H P (as_whole H P)) digest_kind (fetched_laws H P) f args k w (shallows_are P.types (function_at P f).parameters args h)
