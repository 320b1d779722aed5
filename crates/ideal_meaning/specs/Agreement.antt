-- The relation between the ideal and the checked run, which is behind the headline and its companion.
use Rattle.std.specs.Prelude.{◌≡◌, ◌≢◌, ◌⊎◌, ℕ, ◌+◌, List, [], ◌∷◌, ◌++◌, length}
use Rattle.core_terms.specs.Formats.{Hash, IsHash, IsFormat}
use Rattle.core_terms.specs.Values.{Values, AreIdeal}
use Rattle.core_terms.specs.Terms.{Program, function_at}
use Rattle.core_terms.specs.TypingRules.{IsTyped}
use Rattle.core_terms.specs.Projection.{digest_at, projection, projections, Fits, AllFit}
use Rattle.ideal_meaning.specs.Run.{Stop, Traps, IsOut, Rejects, Run, Gives, Ends, Refuses, state_of}
use Rattle.ideal_meaning.specs.Called.{call_from}
use Rattle.ideal_meaning.specs.Ideal.{Opened, ideal_mode, honest_bytes}
use Rattle.ideal_meaning.specs.PieceForms.{PieceForm, as_spelled}
use Rattle.ideal_meaning.specs.Frames.{offered_pieces}
use Rattle.ideal_meaning.specs.Checked.{Taking, Cause, BadPiece, checked_mode, take_as}
use Rattle.ideal_meaning.specs.HonestPieces.{honest_all_as, honest_as}

-- a trap or the want of fuel, as the end of a checked run; an ideal run has no causes
abbrev pub as_checked : Stop ⊥ → Stop Cause
as_checked (Traps trap) = Traps trap
as_checked IsOut = IsOut
as_checked (Rejects c) = elim c [ ]

-- each value that was opened is within the limits
abbrev pub AllOpenedFit : Program → List Opened → Type 0
AllOpenedFit P [] = Unit {0}
AllOpenedFit P (x ∷ seen) = Fits P x.ty x.value × AllOpenedFit P seen

module _ (hash : Hash) (P : Program) (form : PieceForm) where
  -- Between `began` and `w` the verifier took one piece for each opened value, each was the honest one, and it was read: so each of
  -- these values is within the limits.
  pub record TookHonestAs (began : Taking) (seen : List Opened) (w : Taking) : Type 0 where
    pub pieces : offered_pieces began.more ≡ honest_all_as hash P form seen ++ offered_pieces w.more
    pub place : w.place ≡ began.place + length seen
    pub fit : AllOpenedFit P seen

  -- The next piece isn't the honest one for x, and has its digest.
  pub record OffersOtherAs (x : Opened) (w : Taking) : Type 0 where
    pub found : List ℕ
    pub later : List (List ℕ)
    pub next : offered_pieces w.more ≡ found ∷ later
    pub differs : found ≢ honest_as hash P form x
    pub one_digest : form.digest x.ty found ≡ form.digest x.ty (honest_as hash P form x)

  -- The checked run is rejected where x is opened: it holds the digest of the honest piece, and the next piece is refused for this
  -- cause. Where the next piece is the honest one, that is since x isn't within the limits, and the cause is that the piece is no
  -- spelling.
  pub record IsRefusedAs {B : Type 0} (x : Opened) (w : Taking) (checked : Run Cause Taking B) : Type 0 where
    pub cause : Cause
    pub fuel : ℕ
    pub left : Taking
    pub is : checked ≡ Ends (Rejects cause) fuel left
    pub refused : take_as hash P form x.ty (digest_at hash P x.ty (honest_bytes hash P x)) w.place w.more w ≡ Refuses cause left
    pub only : (later : List (List ℕ)) → offered_pieces w.more ≡ honest_as hash P form x ∷ later
        → (offset : ℕ) × (cause ≡ BadPiece w.place offset) × (Fits P x.ty x.value → ⊥)

  -- Up to the opening of x all pieces were honest, and there the runs part.
  pub record PartsAs {A B : Type 0} (began : Taking) (ideal : Run ⊥ (List Opened) A) (checked : Run Cause Taking B) : Type 0 where
    pub before : List Opened
    pub x : Opened
    pub after : List Opened
    pub seen : state_of ideal ≡ before ++ x ∷ after
    pub at : Taking
    pub honest : TookHonestAs began before at
    pub why : OffersOtherAs x at ⊎ IsRefusedAs x at checked

  -- The checked run did as the ideal one: it gives the projection of its value, or ends as it does, with the same fuel left.
  abbrev pub FollowsAs : {A B : Type 0} → (A → B) → Taking → Run ⊥ (List Opened) A → Run Cause Taking B → Type 0
  FollowsAs project began (Gives a k seen) checked = (w : Taking) × (checked ≡ Gives (project a) k w) × TookHonestAs began seen w
  FollowsAs project began (Ends stop k seen) checked = (w : Taking) × (checked ≡ Ends (as_checked stop) k w) × TookHonestAs began seen w

-- In a proof each piece is a spelling, and these are the bytes that an honest prover appends for what was opened.
abbrev pub honest_so_far : Hash → Program → List Opened → List (List ℕ)
honest_so_far hash P seen = honest_all_as hash P (as_spelled hash P) seen

module _ (hash : Hash) (P : Program) where
  abbrev pub TookHonest : Taking → List Opened → Taking → Type 0
  TookHonest began seen w = TookHonestAs hash P (as_spelled hash P) began seen w

  abbrev pub OffersOther : Opened → Taking → Type 0
  OffersOther x w = OffersOtherAs hash P (as_spelled hash P) x w

  abbrev pub IsRefused : {B : Type 0} → Opened → Taking → Run Cause Taking B → Type 0
  IsRefused x w checked = IsRefusedAs hash P (as_spelled hash P) x w checked

  abbrev pub Parts : {A B : Type 0} → Taking → Run ⊥ (List Opened) A → Run Cause Taking B → Type 0
  Parts began ideal checked = PartsAs hash P (as_spelled hash P) began ideal checked

  abbrev pub FollowsIdeal : {A B : Type 0} → (A → B) → Taking → Run ⊥ (List Opened) A → Run Cause Taking B → Type 0
  FollowsIdeal project began ideal checked = FollowsAs hash P (as_spelled hash P) project began ideal checked

-- The relation. A typed program's function, called in both modes on ideal values within the limits and their projections, with
-- the same fuel and whatever pieces are offered, does the same in both, the checked run in projection, or the two part at one
-- opening.
abbrev pub Agreement : Type 0
Agreement = (hash : Hash) → IsHash hash → (P : Program) → IsFormat P.format → IsTyped P
    → (f : ℕ) (args : Values) (k : ℕ) (began : Taking)
    → AreIdeal P.types (function_at P f).parameters args → AllFit P (function_at P f).parameters args
    → let ideal = call_from P ideal_mode f args k [] in
    let checked = call_from P (checked_mode hash P) f (projections hash P (function_at P f).parameters args) k began in
    FollowsIdeal hash P (projection hash P (function_at P f).result) began ideal checked ⊎ Parts hash P began ideal checked
