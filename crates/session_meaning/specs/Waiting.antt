-- Which sessions of a client wait for a reply, and which of them call.
use Rattle.std.specs.Prelude.{Bool, true, false, Option, Some}
use Rattle.std.specs.List.{list_any}
use Rattle.core_terms.specs.Roles.{Role}
use Rattle.core_terms.specs.Terms.{Program}
use Rattle.session_meaning.specs.Calls.{no_role, role_in}
use Rattle.session_meaning.specs.Client as meant
use Rattle.session_meaning.specs.Tables.{Numbered}

-- a session calls, and the role that it calls: one that can't be called where it doesn't call
abbrev pub is_calling : Option meant.Standing → Bool
is_calling (Some (meant.Calling known asked)) = true
is_calling standing = false

abbrev pub called_in : Program → Option meant.Standing → Role
called_in P (Some (meant.Calling known asked)) = role_in P asked.role
called_in P standing = no_role

-- some session waits for a reply; some session calls
abbrev pub waits_at : Numbered meant.Standing → Bool
waits_at row = meant.is_waiting (Some row.value)

abbrev pub some_waits : meant.Client → Bool
some_waits c = list_any waits_at c.sessions

abbrev pub calls_at : Numbered meant.Standing → Bool
calls_at row = is_calling (Some row.value)

abbrev pub some_calls : meant.Client → Bool
some_calls c = list_any calls_at c.sessions
