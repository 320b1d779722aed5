-- Pieces that are fetched (`Fetched`): what is offered and told, and what each word of the headline and the companion takes and refuses.
use Rattle.std.specs.Prelude.{◌≡◌, ◌⊎◌, ℕ, suc, ◌+◌, List, [], ◌∷◌, ◌++◌, map, replicate}
use Rattle.core_terms.specs.Types.{Ty, UnitTy}
use Rattle.core_terms.specs.Formats.{Hash, fingerprint, first_format, second_format}
use Rattle.core_terms.specs.Projection.{digest_at, read_at}
use Rattle.core_terms.specs.Reading.{Read, Good, BadAt}
use Rattle.core_terms.specs.Terms.{Program}
use Rattle.core_terms.specs.Values.{Value, UnitV, Values}
use Rattle.ideal_meaning.specs.Run.{Trap, Gives, Ends, Traps, IsOut, Rejects}
use Rattle.ideal_meaning.specs.Ideal.{Outcome, Done, Trapped, Out, Opened, bytes_of, honest_bytes, ideal, outcome, outcome_projection}
use Rattle.ideal_meaning.specs.PieceForms.{IsOfWhole, as_spelled, as_whole, front_at, further, read_behind}
use Rattle.ideal_meaning.specs.Wire.{Wire}
use Rattle.ideal_meaning.specs.Frames.{Breaks, Lacks, NoMore, Offers}
use Rattle.ideal_meaning.specs.Checked.{Accepted, BadArgument, BadPiece, BadState, Broken, Cause, Missing, Rejected, Short, Taking, Verdict, WrongPiece, before_all}
use Rattle.ideal_meaning.specs.SplitPieces.{IsSplitAt}
use Rattle.ideal_meaning.specs.Examples.{toy, unit_program}
use Rattle.ideal_meaning.specs.Fetched.{Answered, Gave, GaveLast, Got, HoldsAll, IsBroken, IsLack, IsPiece, TrueFromOrSplit, answered, asking, ended, verdict_from, whole_pieces}
use Rattle.ideal_meaning.specs.FetchLaws.{HasDigest, IsStore}
use Rattle.definition_rows.specs.SecondFormatRows.{in_second}

-- the verdict on opening a unit, where these are the answers
abbrev pub on_answers : List Got → Verdict
on_answers answers = verdict_from toy unit_program UnitTy 1 (toy []) [] 1 answers

-- who answers a piece to its own digest, and counts the answers
abbrev pub May : ℕ → List ℕ → Got → ℕ → Type 0
May old d a new = (suc old ≡ new) × HasDigest toy a d

-- the verdict on the same call of a program in the second format
abbrev pub on_whole_answers : List Got → Verdict
on_whole_answers answers = verdict_from toy (in_second unit_program) UnitTy 1 (replicate 32 0) [] 1 answers

pub record FetchedRows : Type 0 where
  -- a piece of a proof is a spelling; one that is fetched has the type's fingerprint in front, where there is one
  pub spelled_form : (hash : Hash) (P : Program) (t : Ty) (bytes : List ℕ)
      → ((as_spelled hash P).digest t bytes ≡ digest_at hash P t bytes) × ((as_spelled hash P).reading t bytes ≡ read_at P t bytes) × ((as_spelled hash P).piece t bytes ≡ bytes)
  pub whole_form : (hash : Hash) (P : Program) (t : Ty) (bytes : List ℕ)
      → ((as_whole hash P).digest t bytes ≡ hash bytes) × ((as_whole hash P).reading t bytes ≡ read_behind (front_at hash P t) (read_at P t) bytes)
      × ((as_whole hash P).piece t bytes ≡ front_at hash P t ++ bytes)
  pub fronts : (hash : Hash) (P : Program) (text : List ℕ) (most : ℕ) (t : Ty)
      → (front_at hash (record P { format = first_format most }) t ≡ []) × (front_at hash (record P { format = second_format text most }) t ≡ fingerprint hash (hash text) t)
  pub both_formats_are_of_whole : (hash : Hash) (P : Program) (text : List ℕ) (most : ℕ)
      → IsOfWhole hash (record P { format = first_format most }) × IsOfWhole hash (record P { format = second_format text most })
  -- the first byte that is missing or another one is the fault, and offsets behind a front are those in the piece
  pub behind_a_front : (r : Read Value) → read_behind (7 ∷ 8 ∷ []) (λ bytes. r) (7 ∷ 8 ∷ 9 ∷ []) ≡ further 1 (further 1 r)
  pub behind_no_front : (r : Read Value) → read_behind [] (λ bytes. r) (7 ∷ []) ≡ r
  pub bad_front : (r : Read Value) → (read_behind (7 ∷ 8 ∷ []) (λ bytes. r) [] ≡ BadAt 0) × (read_behind (7 ∷ 8 ∷ []) (λ bytes. r) (7 ∷ []) ≡ BadAt 1)
      × (read_behind (7 ∷ 8 ∷ []) (λ bytes. r) (6 ∷ 8 ∷ []) ≡ BadAt 0) × (read_behind (7 ∷ 8 ∷ []) (λ bytes. r) (7 ∷ 9 ∷ 9 ∷ []) ≡ BadAt 1)
  pub read_further : (v : Value) (rest : List ℕ) (n place : ℕ) → (further n (Good v rest place) ≡ Good v rest (n + place)) × (further n (BadAt place) ≡ BadAt (n + place))
  pub whole_unit_is_accepted : on_whole_answers (IsPiece (replicate 32 0) ∷ []) ≡ Accepted (Done UnitV)
  pub spelling_alone_is_no_piece : on_whole_answers (IsPiece [] ∷ []) ≡ Rejected (BadPiece 0 0)
  pub front_is_cut : on_whole_answers (IsPiece (0 ∷ 0 ∷ 0 ∷ []) ∷ []) ≡ Rejected (BadPiece 0 3)
  pub front_is_another : on_whole_answers (IsPiece (0 ∷ 5 ∷ 5 ∷ replicate 29 0) ∷ []) ≡ Rejected (BadPiece 0 1)
  pub spelling_is_too_long : on_whole_answers (IsPiece (replicate 33 0) ∷ []) ≡ Rejected (BadPiece 0 32)
  -- what is offered, from the first piece on
  pub offered_by_answers : (bytes : List ℕ) (wire : Wire) (more : List Got) → (answered [] ≡ NoMore Lacks) × (answered (IsPiece bytes ∷ more) ≡ Offers bytes 0 (answered more))
      × (answered (IsLack ∷ more) ≡ NoMore Lacks) × (answered (IsBroken wire ∷ more) ≡ NoMore (Breaks wire))
  pub first_is_asked : (answers : List Got) → asking answers ≡ before_all 0 (answered answers)
  -- how a run ends is the verdict
  pub each_end : (v : Value) (trap : Trap) (cause : Cause) (k : ℕ) (w : Taking) → (ended (Gives v k w) ≡ Accepted (Done v)) × (ended (Ends (Traps trap) k w) ≡ Accepted (Trapped trap))
      × (ended (Ends IsOut k w) ≡ Accepted Out) × (ended (Ends (Rejects cause) k w) ≡ Rejected cause)
  pub unit_is_accepted : on_answers (IsPiece [] ∷ []) ≡ Accepted (Done UnitV)
  pub unit_is_not_there : (on_answers [] ≡ Rejected (Missing 0 (toy []))) × (on_answers (IsLack ∷ IsPiece [] ∷ []) ≡ Rejected (Missing 0 (toy [])))
  pub answer_is_not_read : (wire : Wire) → on_answers (IsBroken wire ∷ []) ≡ Rejected (Broken 0 (toy []) wire)
  pub piece_is_wrong : on_answers (IsPiece (5 ∷ []) ∷ []) ≡ Rejected (WrongPiece 0 (toy []) (toy (5 ∷ [])))
  pub piece_is_no_unit : on_answers (IsPiece (0 ∷ []) ∷ []) ≡ Rejected (BadPiece 0 0)
  pub state_is_bad : verdict_from toy unit_program UnitTy 1 (replicate 31 0) (7 ∷ []) 1 [] ≡ BadState 0
  pub argument_is_bad : verdict_from toy unit_program UnitTy 1 (toy []) (7 ∷ []) 1 [] ≡ BadArgument 0
  -- pieces that were given, each to its digest
  pub two_were_given : Gave toy May 3 ((7 ∷ []) ∷ [] ∷ []) 5
  pub none_was_given : (old new : ℕ) → (Gave toy May old [] new → old ≡ new) × (old ≡ new → Gave toy May old [] new)
  pub one_was_given : (old new : ℕ) (b : List ℕ) (bs : List (List ℕ))
      → (Gave toy May old (b ∷ bs) new → (mid : ℕ) × May old (toy b) (IsPiece b) mid × Gave toy May mid bs new)
      × ((mid : ℕ) → May old (toy b) (IsPiece b) mid → Gave toy May mid bs new → Gave toy May old (b ∷ bs) new)
  -- and the last answer, by the cause
  pub last_was_none : (old new : ℕ) (want : List ℕ) → (GaveLast toy May old IsLack (Missing 3 want) new → May old want IsLack new) × (May old want IsLack new → GaveLast toy May old IsLack (Missing 3 want) new)
  pub last_was_not_read : (old new : ℕ) (want : List ℕ) (wire found : Wire)
      → (GaveLast toy May old (IsBroken wire) (Broken 3 want found) new → (wire ≡ found) × May old want (IsBroken wire) new)
      × (wire ≡ found → May old want (IsBroken wire) new → GaveLast toy May old (IsBroken wire) (Broken 3 want found) new)
  pub last_was_wrong : (old new : ℕ) (want found b : List ℕ) → (GaveLast toy May old (IsPiece b) (WrongPiece 3 want found) new → (toy b ≡ found) × May old want (IsPiece b) new)
      × (toy b ≡ found → May old want (IsPiece b) new → GaveLast toy May old (IsPiece b) (WrongPiece 3 want found) new)
  pub last_was_no_spelling : (old new : ℕ) (b : List ℕ) → (GaveLast toy May old (IsPiece b) (BadPiece 3 2) new → May old (toy b) (IsPiece b) new)
      × (May old (toy b) (IsPiece b) new → GaveLast toy May old (IsPiece b) (BadPiece 3 2) new)
  pub no_other_cause : (old new : ℕ) (b want : List ℕ) → (GaveLast toy May old IsLack (Short 3) new → ⊥) × (GaveLast toy May old (IsPiece b) (Missing 3 want) new → ⊥)
      × (GaveLast toy May old IsLack (WrongPiece 3 want b) new → ⊥)
  -- all answers, by the verdict
  pub answers_to_accepted : (old new : ℕ) (answers : List Got) (o : Outcome)
      → (Answered toy May old answers (Accepted o) new → (bs : List (List ℕ)) × (answers ≡ map IsPiece bs) × Gave toy May old bs new)
      × ((bs : List (List ℕ)) → answers ≡ map IsPiece bs → Gave toy May old bs new → Answered toy May old answers (Accepted o) new)
  pub answers_to_rejected : (old new : ℕ) (answers : List Got) (cause : Cause)
      → (Answered toy May old answers (Rejected cause) new
      → (bs : List (List ℕ)) × (a : Got) × (mid : ℕ) × (answers ≡ map IsPiece bs ++ a ∷ []) × Gave toy May old bs mid × GaveLast toy May mid a cause new)
      × ((bs : List (List ℕ)) (a : Got) (mid : ℕ) → answers ≡ map IsPiece bs ++ a ∷ [] → Gave toy May old bs mid → GaveLast toy May mid a cause new
      → Answered toy May old answers (Rejected cause) new)
  pub no_answer_to_a_bad_state : (old new : ℕ) (answers : List Got) → (Answered toy May old answers (BadState 3) new → (answers ≡ []) × (old ≡ new)) × Answered toy May old [] (BadState 3) old
  pub no_answer_to_a_bad_argument : (old new : ℕ) (answers : List Got)
      → (Answered toy May old answers (BadArgument 3) new → (answers ≡ []) × (old ≡ new)) × Answered toy May old [] (BadArgument 3) old
  -- what is accepted is true, with pieces that aren't asked for behind the honest ones; or there is a split
  pub true_or_split : (hash : Hash) (P : Program) (f : ℕ) (t : Ty) (args : Values) (k : ℕ) (pieces more : List (List ℕ)) (o : Outcome)
      → (TrueFromOrSplit hash P f t args k pieces more o
      → ((pieces ≡ bytes_of (whole_pieces hash P f args k) ++ more) × (o ≡ outcome_projection hash P t (outcome (ideal P f args k))))
      ⊎ ((i : ℕ) × IsSplitAt (λ t bytes. hash bytes) pieces (whole_pieces hash P f args k) i))
      × (pieces ≡ bytes_of (whole_pieces hash P f args k) ++ more → o ≡ outcome_projection hash P t (outcome (ideal P f args k)) → TrueFromOrSplit hash P f t args k pieces more o)
      × ((i : ℕ) → IsSplitAt (λ t bytes. hash bytes) pieces (whole_pieces hash P f args k) i → TrueFromOrSplit hash P f t args k pieces more o)
  -- a store gives a piece to its digest alone, and may lack one
  pub digest_of_a_piece : (hash : Hash) (b d : List ℕ) (wire : Wire) → (HasDigest hash (IsPiece b) d → hash b ≡ d) × (hash b ≡ d → HasDigest hash (IsPiece b) d)
      × HasDigest hash IsLack d × HasDigest hash (IsBroken wire) d
  pub each_has_its_digest : (hash : Hash) (get : List ℕ → Got) → (IsStore hash get → (d : List ℕ) → HasDigest hash (get d) d) × (((d : List ℕ) → HasDigest hash (get d) d) → IsStore hash get)
  pub holds_none : (hash : Hash) (P : Program) (get : List ℕ → Got) → HoldsAll hash P get []
  pub holds_each : (hash : Hash) (P : Program) (get : List ℕ → Got) (x : Opened) (seen : List Opened)
      → (HoldsAll hash P get (x ∷ seen) → ((b : List ℕ) × (get (digest_at hash P x.ty (honest_bytes hash P x)) ≡ IsPiece b)) × HoldsAll hash P get seen)
      × ((b : List ℕ) → get (digest_at hash P x.ty (honest_bytes hash P x)) ≡ IsPiece b → HoldsAll hash P get seen → HoldsAll hash P get (x ∷ seen))
