-- What a core stands for, and what it answers.
use Rattle.std.specs.Prelude.{◌≡◌, map}
use Rattle.core_terms.specs.Formats.{Hash}
use Rattle.mode_vm.specs.Meanings.{program_of}
use Rattle.session_meaning.specs.Server as meant
use Rattle.session_tables.specs.Related.{AreRows}
use Rattle.session_tables.specs.Tables.{rows_of}
use Rattle.session_turns.specs.Sessions.{IsSession}
use Rattle.session_turns.specs.Sharing.{Shares}
use Rattle.value_store.specs.Stores.{nodes_in}
use Rattle.wire_form.specs.MessageViews.{reply_meant, request_meant}
use Rattle.serve_core.specs.declared.server.ServeCore.{ServeCore}
use Rattle.serve_core.specs.declared.heard.Heard.{Heard}
use Rattle.serve_core.specs.declared.heard.Heard.TheVariants as heard
use Rattle.serve_core.specs.declared.heard.Replies.{Replies}

-- what is heard
abbrev pub heard_meant : Heard → meant.Heard
heard_meant (heard.Request request) = meant.Hears (request_meant request)
heard_meant heard.Bad = meant.HearsBad
heard_meant heard.End = meant.HearsEnd

-- The core is this server: its versions and commits, the number of messages that were heard, and its sessions by number, each over
-- what is shared.
pub record Serves (hash : Hash) {A G : Type 0} (core : ServeCore A G) (server : meant.Server) : Type 0 where
  pub shares : Shares hash (program_of core.code) core.shared server.shared
  pub heard : core.heard ≡ server.heard
  pub sessions : AreRows (IsSession hash core.code core.slice (nodes_in core.shared.store) server.shared.versions) (rows_of core.sessions) server.sessions

-- A step of the machine: the core is the server behind it, and answers its replies.
pub record HandlesAs (hash : Hash) {A G : Type 0} (core : ServeCore A G) (replies : Replies) (step : meant.Step) : Type 0 where
  pub serves : Serves hash core step.server
  pub list : map reply_meant replies.list.items ≡ step.replies
  pub closing : replies.closing ≡ step.closing
