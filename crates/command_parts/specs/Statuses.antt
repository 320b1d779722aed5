-- The statuses that a command may answer, whatever the files hold.
use Rattle.std.specs.Prelude.{◌≡◌}
use Rattle.command_words.specs.declared.command.Command.{Command}
use Rattle.command_words.specs.declared.command.Command.TheVariants.{Check, Shallow, Migrate, Verify, Audit, Library, Gen, Serve, Ask, Pieces, Fetch, Mirror, Draw, Found, Host, Replay, Emit}
use Rattle.command_parts.specs.declared.status.Status.{Status}
use Rattle.command_parts.specs.declared.status.Status.TheVariants.{Usage, Trap, OutOfFuel, Rejected, ProgramRefused, ReadFault, Collision}

-- the command tells the outcome of a function, which may be a trap or the want of fuel
abbrev pub RunsAFunction : Command → Type 0
RunsAFunction Check = ⊥
RunsAFunction Shallow = ⊥
RunsAFunction Migrate = ⊥
RunsAFunction Library = ⊥
RunsAFunction Serve = ⊥
RunsAFunction Ask = ⊥
RunsAFunction Pieces = ⊥
RunsAFunction Mirror = ⊥
RunsAFunction Found = ⊥
RunsAFunction Host = ⊥
RunsAFunction Replay = ⊥
RunsAFunction Emit = ⊥
RunsAFunction command = Unit {0}

-- the command judges a proof, a server's replies or the pieces of a mirror, which it may reject
abbrev pub JudgesAProof : Command → Type 0
JudgesAProof Verify = Unit {0}
JudgesAProof Audit = Unit {0}
JudgesAProof Ask = Unit {0}
JudgesAProof Fetch = Unit {0}
JudgesAProof Draw = Unit {0}
JudgesAProof command = ⊥

-- the command reads files, and the text of a program or its object
abbrev pub ReadsFiles : Command → Type 0
ReadsFiles Library = ⊥
ReadsFiles Gen = ⊥
ReadsFiles command = Unit {0}

abbrev pub ReadsAProgram : Command → Type 0
ReadsAProgram Library = ⊥
ReadsAProgram Mirror = ⊥
ReadsAProgram command = Unit {0}

-- None answers as to words that call no command, and an audit alone answers that there is a collision. Each may find a value or an
-- acceptance, refuse an input, and fail for want of the sink or of memory.
abbrev pub MayAnswer : Command → Status → Type 0
MayAnswer command Usage = ⊥
MayAnswer command Trap = RunsAFunction command
MayAnswer command OutOfFuel = RunsAFunction command
MayAnswer command Rejected = JudgesAProof command
MayAnswer command ProgramRefused = ReadsAProgram command
MayAnswer command ReadFault = ReadsFiles command
MayAnswer command Collision = command ≡ Audit
MayAnswer command other = Unit {0}
