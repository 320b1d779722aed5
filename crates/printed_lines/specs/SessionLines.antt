-- The texts of the lines of a user's script: what is told of a session stands behind its number.
use Rattle.std.specs.Prelude.{ℕ, List, ◌++◌, codes, decimal}
use Rattle.printed_lines.specs.Lines.{also, word}
use Rattle.printed_lines.specs.OutcomeLines.{line_of}

-- the line of a session, behind whose number this line stands
abbrev pub session_line : ℕ → List ℕ → List ℕ
session_line session line = decimal session ++ word line

-- what it is told: that it begins, that its call came too late, that it has ended, that its line was out of turn, and a refusal
-- with its cause
abbrev pub welcome_line : ℕ → List ℕ
welcome_line session = session_line session (codes "welcome\n")

abbrev pub stale_line : ℕ → List ℕ
stale_line session = session_line session (codes "stale\n")

abbrev pub ended_line : ℕ → List ℕ
ended_line session = session_line session (codes "closed\n")

abbrev pub out_of_turn_line : ℕ → List ℕ
out_of_turn_line session = session_line session (codes "out of turn\n")

abbrev pub refused_line : (session cause : ℕ) → List ℕ
refused_line session cause = session_line session (line_of (codes "refused") (also cause))

-- a reply to a session that waits for none, and one of a kind that the session doesn't wait for
abbrev pub stranger_line : ℕ → List ℕ
stranger_line session = line_of (codes "bad reply") (also session ++ codes " stranger")

abbrev pub wrong_reply_line : (session kind : ℕ) → List ℕ
wrong_reply_line session kind = line_of (codes "bad reply") (also session ++ (codes " wrong" ++ also kind))

-- the end of all sessions, with its cause
abbrev pub server_closed_line : ℕ → List ℕ
server_closed_line cause = line_of (codes "server closed") (also cause)
