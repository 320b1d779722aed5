-- What is told of the moments of a disk behind a call, where they were told before it.
use Rattle.std.proofs.Common.{◌≡◌, List, [], ◌∷◌, ℕ, Option, Some, None, refl, subst, unwrap_or}
use Rattle.lam_outside.specs.Disks.{Chooses, DiskFile, Moments}
use Rattle.lam_outside.specs.Told.{Contents}
use Rattle.version_journal.specs.Gates.{ForTold}
use Rattle.journal_commands.specs.DisksSeen.{file_in, if_told}

-- what follows from it
pub weaker : (P Q : Moments → Moments → Type 0) → ((old new : Moments) → P old new → Q old new) → (old new : Option Moments) → ForTold old new P → ForTold old new Q
weaker P Q f None new told = tt
weaker P Q f (Some []) new told = tt
weaker P Q f (Some (file ∷ past)) new told = (told.0, told.1, f (file ∷ past) told.0 told.2)

-- two things together
pub both_told : (P Q : Moments → Moments → Type 0) (old new : Option Moments) → ForTold old new P → ForTold old new Q → ForTold old new (λ o n. P o n × Q o n)
both_told P Q None new first second = tt
both_told P Q (Some []) new first second = tt
both_told P Q (Some (file ∷ past)) new (now, is, p) (other, same, q) = let alike : other ≡ now = cc (is, same) in (now, is, (p, subst (Q (file ∷ past)) alike q))

-- A file was chosen that reads as these bytes, and this holds of its moments.
pub record WasChosen (bytes : List ℕ) (new : Option Moments) (P : Moments → Moments → Type 0) : Type 0 where
  pub file : DiskFile
  pub now : Moments
  pub reads : file.reads ≡ bytes
  pub is : new ≡ Some now
  pub holds : P (file ∷ []) now

-- so it is where the disk tells its files
pub was_chosen : (contents : Option Contents) (files : Contents) (name : List ℕ) (chosen new : Option Moments) (P : Moments → Moments → Type 0) → contents ≡ Some files → Chooses contents name chosen
    → ForTold chosen new P → WasChosen (file_in (Some files) name) new P
was_chosen None files name chosen new P known chooses told = absurd (cc)
was_chosen (Some others) files name chosen new P known (file, is, reads) told =
    let now = subst (λ chosen. ForTold chosen new P) is told in
    let same : others ≡ files = cc (known) in record {
      file = file;
      now = now.0;
      reads = subst (λ (files : Contents). file.reads ≡ unwrap_or (files name) []) same reads;
      is = now.1;
      holds = now.2;
    }

-- ---- what both the files and the disk tell

pub files_told : (on_disk told : Option Contents) (files : Contents) → if_told on_disk told ≡ Some files → told ≡ Some files
files_told None told files known = absurd (cc)
files_told (Some others) told files known = known

pub disk_told : (on_disk told : Option Contents) (files : Contents) → if_told on_disk told ≡ Some files → (others : Contents) × (on_disk ≡ Some others)
disk_told None told files known = absurd (cc)
disk_told (Some others) told files known = (others, refl)
