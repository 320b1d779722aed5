-- Rows for the file that could not be read, and for the statuses that a command may answer. What each word takes, and what it refuses.
use Rattle.std.specs.Prelude.{◌≡◌, List, [], ◌∷◌, ℕ, Option, Some, None, Ok, Err, refl}
use Rattle.std.specs.Option.{ForSome}
use Rattle.std.proofs.Common.{subst}
use Rattle.command_words.specs.declared.command.Command.{Command}
use Rattle.command_words.specs.declared.command.Command.TheVariants.{Check, Init, Ideal, Step, Shallow, Migrate, Prove, Verify, Audit, Library, Gen, Serve, Ask, Pieces, Fetch, Mirror, Draw, Found, Host, Replay, Emit}
use Rattle.lam_outside.specs.Told.{Contents, Names}
use Rattle.command_parts.specs.AnswerForms.{Answer}
use Rattle.command_parts.specs.EndRows.{answer, answers}
use Rattle.command_parts.specs.Reaching.{IsLast, IsReached, without}
use Rattle.command_parts.specs.ReachingInCode.{FaultsAt, FaultsAtReached, HaltsAt, HaltsAtReached, ReachedAt}
use Rattle.command_parts.specs.Statuses.{JudgesAProof, MayAnswer, ReadsAProgram, ReadsFiles, RunsAFunction}
use Rattle.command_parts.specs.declared.report.Halt.TheVariants as halt
use Rattle.command_parts.specs.declared.status.Status.TheVariants.{Done, Usage, Trap, OutOfFuel, Rejected, ProgramRefused, InputRefused, ReadFault, WriteFault, NoMemory, Collision}

-- THE FILE THAT WAS ASKED FOR LAST
abbrev pub program : List ℕ
program = 112 ∷ []

abbrev pub image : List ℕ
image = 105 ∷ []

pub last_asked : IsLast image (program ∷ image ∷ [])
last_asked = (program ∷ [], refl)

pub none_asked : IsLast image [] → ⊥
none_asked ([], e) = cc (e)
none_asked (name ∷ before, e) = cc (e)

-- An answer that wants both files, and stands at each where the other can't be read.
abbrev pub holding : Contents
holding name = Some name

abbrev pub if_read : Option (List ℕ) → Option Answer → Option Answer
if_read None found = None
if_read (Some bytes) found = found

abbrev pub wants_both : Contents → Option Answer
wants_both files = if_read (files program) (if_read (files image) (Some answer))

pub without_image : wants_both (without image holding) ≡ None
without_image = refl

of_told : {T : Type 0} (x : T) (P : T → Type 0) → P x → ForSome (Some x) P
of_told x P p y e = let same : x ≡ y = cc (e) in subst P same p

pub image_is_reached : IsReached wants_both (Some holding) (Some (program ∷ image ∷ []))
image_is_reached = of_told holding (λ files. ForSome (Some (program ∷ image ∷ [])) (λ names. (name : List ℕ) × IsLast name names × (wants_both (without name files) ≡ None)))
    (of_told (program ∷ image ∷ []) (λ names. (name : List ℕ) × IsLast name names × (wants_both (without name holding) ≡ None)) (image, last_asked, refl))

-- no file is reached that the answer does without
pub none_is_reached : (names : Names) → IsReached answers (Some holding) (Some names) → ⊥
none_is_reached names reached = by (reached holding refl names refl)
  where
    by : (name : List ℕ) × IsLast name names × (Some answer ≡ None) → ⊥
    by (name, last, e) = cc (e)

-- A read fault is of a reached file, and nothing is said where there is none.
done_is_no_fault : Done ≡ ReadFault → ⊥
done_is_no_fault e = cc (e)

module _ (found : Contents → Option Answer) (contents : Option Contents) (asked : Option Names) where
  pub reached_at : (ReachedAt ReadFault found contents asked → IsReached found contents asked) × ReachedAt Done found contents asked
  reached_at = ((λ r. r refl), (λ e. absurd (done_is_no_fault e)))

  pub halts_at_reached : (IsReached found contents asked → HaltsAtReached found contents asked halt.ReadFault) × HaltsAtReached found contents asked halt.Usage
      × HaltsAtReached found contents asked halt.NoMemory
  halts_at_reached = ((λ r. r), tt, tt)

  pub faults_at_reached : (IsReached found contents asked → FaultsAtReached {T = ℕ} found contents asked (Err halt.ReadFault)) × FaultsAtReached {T = ℕ} found contents asked (Ok 0)
  faults_at_reached = ((λ r. r), tt)

pub halts_at_last : (asked : Option Names) → (ForSome asked (λ names. IsLast image names) → HaltsAt image asked halt.ReadFault) × HaltsAt image asked halt.NoMemory
halts_at_last asked = ((λ l. l), tt)

pub faults_at_last : (asked : Option Names) → (ForSome asked (λ names. IsLast image names) → FaultsAt {T = ℕ} image asked (Err halt.ReadFault)) × FaultsAt {T = ℕ} image asked (Ok 0)
faults_at_last asked = ((λ l. l), tt)

-- STATUSES
pub functions_run : RunsAFunction Init × RunsAFunction Ideal × RunsAFunction Step × RunsAFunction Prove × RunsAFunction Verify × RunsAFunction Audit × RunsAFunction Gen × RunsAFunction Fetch
    × RunsAFunction Draw
functions_run = (tt, tt, tt, tt, tt, tt, tt, tt, tt)

pub none_run : (RunsAFunction Check → ⊥) × (RunsAFunction Shallow → ⊥) × (RunsAFunction Migrate → ⊥) × (RunsAFunction Library → ⊥) × (RunsAFunction Serve → ⊥) × (RunsAFunction Ask → ⊥) × (RunsAFunction Pieces → ⊥)
    × (RunsAFunction Mirror → ⊥) × (RunsAFunction Found → ⊥) × (RunsAFunction Host → ⊥) × (RunsAFunction Replay → ⊥) × (RunsAFunction Emit → ⊥)
none_run = ((λ r. r), (λ r. r), (λ r. r), (λ r. r), (λ r. r), (λ r. r), (λ r. r), (λ r. r), (λ r. r), (λ r. r), (λ r. r), (λ r. r))

pub proofs_judged : JudgesAProof Verify × JudgesAProof Audit × JudgesAProof Ask × JudgesAProof Fetch × JudgesAProof Draw × (JudgesAProof Prove → ⊥) × (JudgesAProof Gen → ⊥) × (JudgesAProof Serve → ⊥)
    × (JudgesAProof Pieces → ⊥) × (JudgesAProof Mirror → ⊥) × (JudgesAProof Found → ⊥) × (JudgesAProof Host → ⊥) × (JudgesAProof Replay → ⊥) × (JudgesAProof Emit → ⊥)
proofs_judged = (tt, tt, tt, tt, tt, (λ j. j), (λ j. j), (λ j. j), (λ j. j), (λ j. j), (λ j. j), (λ j. j), (λ j. j), (λ j. j))

pub files_read : ReadsFiles Check × ReadsFiles Migrate × ReadsFiles Ask × ReadsFiles Verify × ReadsFiles Pieces × ReadsFiles Fetch × ReadsFiles Mirror × ReadsFiles Draw
    × ReadsFiles Found × ReadsFiles Host × ReadsFiles Replay × ReadsFiles Emit × (ReadsFiles Library → ⊥) × (ReadsFiles Gen → ⊥)
files_read = (tt, tt, tt, tt, tt, tt, tt, tt, tt, tt, tt, tt, (λ r. r), (λ r. r))

pub programs_read : ReadsAProgram Check × ReadsAProgram Migrate × ReadsAProgram Gen × ReadsAProgram Serve × ReadsAProgram Draw × ReadsAProgram Found × ReadsAProgram Host × ReadsAProgram Replay
    × ReadsAProgram Emit × (ReadsAProgram Library → ⊥) × (ReadsAProgram Mirror → ⊥)
programs_read = (tt, tt, tt, tt, tt, tt, tt, tt, tt, (λ r. r), (λ r. r))

-- by what the command does
pub may_answer : (c : Command) → (RunsAFunction c → MayAnswer c Trap × MayAnswer c OutOfFuel) × (JudgesAProof c → MayAnswer c Rejected) × (ReadsAProgram c → MayAnswer c ProgramRefused)
    × (ReadsFiles c → MayAnswer c ReadFault) × MayAnswer c Done × MayAnswer c InputRefused × MayAnswer c WriteFault × MayAnswer c NoMemory
may_answer c = ((λ r. (r, r)), (λ j. j), (λ r. r), (λ r. r), tt, tt, tt, tt)

verify_is_no_audit : Verify ≡ Audit → ⊥
verify_is_no_audit e = cc (e)

-- none answers as to words that call no command, and an audit alone tells of a collision
pub may_not_answer : (c : Command) → (MayAnswer c Usage → ⊥) × MayAnswer Audit Collision × (MayAnswer Verify Collision → ⊥)
may_not_answer c = ((λ a. a), refl, verify_is_no_audit)
