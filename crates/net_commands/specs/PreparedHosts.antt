-- What the code holds of a hosting: the server before its first connection, and the journal that keeps its commits.
use Rattle.std.specs.Prelude.{◌≡◌, ◌<◌, ◌^◌, ℕ, List, ◌∷◌, length}
use Rattle.session_meaning.specs.Begun.{IsBegun}
use Rattle.version_journal.specs.AtGates.{IsAt}
use Rattle.version_journal.specs.Gates.{AtLast}
use Rattle.version_journal.specs.Synced.{IsSynced}
use Rattle.images.specs.Images.{Root, image_of}
use Rattle.core_terms.specs.Values.{Value}
use Rattle.session_turns.specs.Rows.{AreAlike}
use Rattle.session_turns.specs.Sharing.{IsCommit}
use Rattle.command_parts.specs.Answer.{Serving}
use Rattle.journal_commands.specs.DisksSeen.{DiskSeen, FromChosen}
use Rattle.journal_commands.specs.OpenedJournals.{KeepsNow}
use Rattle.net_commands.specs.PreparedServers.{IsPrepared}
use Rattle.net_commands.specs.declared.hosting.PreparedHost.{PreparedHost}

-- The server is that of this serving, which begins with what the journal of this name keeps, and the journal stands behind its commits. Where the disk
-- tells it, the file was synced, and every crash leaves what the journal keeps.
pub record IsPreparedHost (host : PreparedHost) (s : Serving) (name : List ℕ) (disk disk' : DiskSeen) : Type 0 where
  pub server : IsPrepared host.server.value s
  pub begun : IsBegun s.program.program s.begun
  pub image : List ℕ
  pub first : Value
  pub others : List Value
  pub versions : s.begun.versions ≡ first ∷ others
  pub is_image : image_of s.program.program s.program.digest image ≡ Root first
  pub image_fits : length image < 2 ^ 32
  pub at : IsAt s.program.digest image s.begun.commits host.journal
  pub alike : AreAlike IsCommit host.server.value.core.shared.commits.items s.begun.commits
  pub told : FromChosen name disk disk' (λ old new. IsSynced old new × AtLast (KeepsNow s.program image s.begun) new)
