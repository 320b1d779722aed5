-- What a command's work found, before it is told.
use Rattle.std.specs.Prelude.{◌≡◌, ℕ, List, [], codes, Option, Some, None, Result, Ok, Err, ⊤}
use Rattle.std.specs.List.{concat}
use Rattle.lam_outside.specs.Causes.{Rose}
use Rattle.printed_syntax.specs.LiteralAnswers.{LiteralFault}
use Rattle.core_terms.specs.declared.fault.Fault.TheVariants as literal_fault
use Rattle.ask_script.specs.declared.script.ScriptFault.{ScriptFault}
use Rattle.ask_script.specs.declared.script.ScriptFault.TheVariants as script_fault
use Rattle.images.specs.declared.fault.ImageFault.{ImageFault}
use Rattle.images.specs.declared.fault.ImageFault.TheVariants as image_fault
use Rattle.images.specs.declared.fault.SaveFault.{SaveFault}
use Rattle.images.specs.declared.fault.SaveFault.TheVariants as save_fault
use Rattle.printed_lines.specs.Lines.{refusal_line}
use Rattle.printed_lines.specs.declared.refusal.Argument.TheVariants as argument
use Rattle.printed_lines.specs.declared.refusal.ImageKind.{ImageKind}
use Rattle.printed_lines.specs.declared.refusal.ImageKind.TheVariants as kind
use Rattle.printed_lines.specs.declared.refusal.InputFault.TheVariants as input_fault
use Rattle.printed_lines.specs.declared.refusal.MirrorKind.TheVariants as mirror_kind
use Rattle.printed_lines.specs.declared.refusal.Refusal.TheVariants as refusal
use Rattle.object_writer.specs.declared.fault.WriteFault.{WriteFault}
use Rattle.object_writer.specs.declared.fault.WriteFault.TheVariants as write_fault
use Rattle.piece_mirror.specs.declared.fault.MirrorFault.{MirrorFault}
use Rattle.piece_mirror.specs.declared.fault.MirrorFault.TheVariants as mirror_fault
use Rattle.collision_audit.specs.declared.audited.AuditFault.{AuditFault}
use Rattle.collision_audit.specs.declared.audited.AuditFault.TheVariants as audit_fault
use Rattle.command_parts.specs.AnswerForms.{Answer, says}
use Rattle.command_parts.specs.RefusedAnswers.{refusal_status}
use Rattle.command_parts.specs.declared.programs.ProgramFault.{ProgramFault}
use Rattle.command_parts.specs.declared.programs.ProgramFault.TheVariants as program_fault
use Rattle.command_parts.specs.declared.report.Ending.{Ending}
use Rattle.command_parts.specs.declared.report.Ending.TheVariants as ending
use Rattle.command_parts.specs.declared.report.Halt.{Halt}
use Rattle.command_parts.specs.declared.report.Halt.TheVariants.{Usage, Refused, ReadFault, NoMemory}
use Rattle.command_parts.specs.declared.report.Report.{Report}
use Rattle.command_parts.specs.declared.status.Status.{Status}
use Rattle.command_parts.specs.declared.status.Status.TheVariants as status

-- a command's report, or what halted its work
abbrev pub Found : Type 0
Found = Result Report Halt

-- the statuses that are meant, and the lines
abbrev pub ending_status : Ending → Status
ending_status ending.Done = status.Done
ending_status ending.Trap = status.Trap
ending_status ending.OutOfFuel = status.OutOfFuel
ending_status ending.Collision = status.Collision

abbrev pub halt_status : Halt → Status
halt_status Usage = status.Usage
halt_status (Refused what) = refusal_status what
halt_status ReadFault = status.ReadFault
halt_status NoMemory = status.NoMemory

abbrev pub halt_line : Halt → List ℕ
halt_line Usage = codes "usage: lamauth COMMAND ARGUMENTS\n"
halt_line (Refused what) = refusal_line what
halt_line ReadFault = codes "read fault\n"
halt_line NoMemory = codes "no memory\n"

-- the status and the line of what was found
abbrev pub status_of : Found → Status
status_of (Ok report) = ending_status report.ending
status_of (Err halt) = halt_status halt

abbrev pub line_of : Found → List ℕ
line_of (Ok report) = report.text.items
line_of (Err halt) = halt_line halt

-- the halts that faults of a program, of a literal, of an image, of an object that is written, of a mirror, of a call and of an audit are
abbrev pub of_program_fault : ProgramFault → Halt
of_program_fault (program_fault.At kind line column) = Refused (refusal.Program kind line column)
of_program_fault (program_fault.Object kind) = Refused (refusal.Object kind)
of_program_fault program_fault.NoMemory = NoMemory

abbrev pub of_literal_fault : LiteralFault → Halt
of_literal_fault (literal_fault.At kind offset) = Refused (refusal.Input (input_fault.Literal kind offset))
of_literal_fault literal_fault.NoMemory = NoMemory

-- how the fault of an image is told; none where memory was wanting
abbrev pub image_kind : ImageFault → Option ImageKind
image_kind image_fault.Magic = Some kind.Magic
image_kind (image_fault.Cut bytes) = Some (kind.Cut bytes)
image_kind image_fault.OtherProgram = Some kind.OtherProgram
image_kind (image_fault.BadRecord number) = Some (kind.BadRecord number)
image_kind (image_fault.TooBig number) = Some (kind.TooBig number)
image_kind (image_fault.TooDeep number) = Some (kind.TooDeep number)
image_kind image_fault.RootType = Some kind.RootType
image_kind (image_fault.Leftover bytes) = Some (kind.Leftover bytes)
image_kind image_fault.NoMemory = None

abbrev pub of_image_kind : Option ImageKind → Halt
of_image_kind (Some k) = Refused (refusal.Input (input_fault.Image k))
of_image_kind None = NoMemory

abbrev pub of_image_fault : ImageFault → Halt
of_image_fault fault = of_image_kind (image_kind fault)

abbrev pub of_save_fault : SaveFault → Halt
of_save_fault save_fault.TooLong = Refused (refusal.Input (input_fault.TooLong argument.Out))
of_save_fault save_fault.NoMemory = NoMemory

abbrev pub of_write_fault : WriteFault → Halt
of_write_fault write_fault.TooLong = Refused (refusal.Input (input_fault.TooLong argument.Out))
of_write_fault write_fault.NoMemory = NoMemory

abbrev pub of_script_fault : ScriptFault → Halt
of_script_fault (script_fault.Line number) = Refused (refusal.Input (input_fault.Script number))
of_script_fault script_fault.NoMemory = NoMemory

abbrev pub of_mirror_fault : MirrorFault → Halt
of_mirror_fault (mirror_fault.Cut bytes) = Refused (refusal.Input (input_fault.Mirror (mirror_kind.Cut bytes)))
of_mirror_fault (mirror_fault.BadField offset) = Refused (refusal.Input (input_fault.Mirror (mirror_kind.BadField offset)))
of_mirror_fault (mirror_fault.Leftover bytes) = Refused (refusal.Input (input_fault.Mirror (mirror_kind.Leftover bytes)))
of_mirror_fault mirror_fault.TooLong = Refused (refusal.Input (input_fault.TooLong argument.Out))
of_mirror_fault mirror_fault.NoMemory = NoMemory

abbrev pub of_audit_fault : AuditFault → Halt
of_audit_fault audit_fault.ReadFault = ReadFault
of_audit_fault audit_fault.NoMemory = NoMemory

-- what halted the work is what the answer says, unless a file could not be read or memory was wanting
abbrev pub HaltsAs : Option Answer → Halt → Type 0
HaltsAs answer ReadFault = ⊤
HaltsAs answer NoMemory = ⊤
HaltsAs answer halt = answer ≡ Some (says (halt_status halt) (halt_line halt))

-- what the work found is what the answer says, with the same exceptions
abbrev pub Finds : Option Answer → Found → Type 0
Finds answer (Ok report) = answer ≡ Some (says (ending_status report.ending) report.text.items)
Finds answer (Err halt) = HaltsAs answer halt

-- the report tells all lines of the answer, with which nothing is stored
pub record TellsLines (a : Answer) (report : Report) : Type 0 where
  pub status : a.status ≡ ending_status report.ending
  pub lines : concat a.lines ≡ report.text.items
  pub stored : a.stored ≡ []

-- what the work found is what an answer of several lines says
abbrev pub FindsLines : Option Answer → Found → Type 0
FindsLines answer (Ok report) = (a : Answer) × (answer ≡ Some a) × TellsLines a report
FindsLines answer (Err halt) = HaltsAs answer halt

-- The same of work behind the words that reads no file: no words are refused, and no file can fail.
abbrev pub WithoutFiles : {T : Type 0} → (Result T Halt → Type 0) → Result T Halt → Type 0
WithoutFiles Says (Err Usage) = ⊥
WithoutFiles Says (Err ReadFault) = ⊥
WithoutFiles Says found = Says found

-- The same of work on what is in hand, where no proof is judged either: none is rejected.
abbrev pub InHand : {T : Type 0} → (Result T Halt → Type 0) → Result T Halt → Type 0
InHand Says (Err (Refused (refusal.Proof cause))) = ⊥
InHand Says found = WithoutFiles Says found

-- A step of the work. Whatever the answer goes on with behind it: the step gives the value that it goes on with, or halts.
abbrev pub StepGives : {A T : Type 0} → ((A → Option Answer) → Option Answer) → (T → A) → Result T Halt → Type 0
StepGives {A = A} step value (Ok t) = (go : A → Option Answer) → step go ≡ go (value t)
StepGives {A = A} step value (Err halt) = (go : A → Option Answer) → HaltsAs (step go) halt

-- A step that gives what stands for the value that the answer goes on with, or halts.
abbrev pub StepGivesFor : {A T : Type 0} → ((A → Option Answer) → Option Answer) → (T → A → Type 0) → Result T Halt → Type 0
StepGivesFor {A = A} step Stands (Ok t) = (a : A) × ((go : A → Option Answer) → step go ≡ go a) × Stands t a
StepGivesFor {A = A} step Stands (Err halt) = (go : A → Option Answer) → HaltsAs (step go) halt

-- What may halt work on a call and a proof: the count of reads rose at `ReadFault` and nowhere else.
abbrev pub MayHaltJudging : ℕ → ℕ → Halt → Type 0
MayHaltJudging before now Usage = ⊥
MayHaltJudging before now ReadFault = Rose before now
MayHaltJudging before now halt = now ≡ before

abbrev pub JudgementCause : {T : Type 0} → ℕ → ℕ → Result T Halt → Type 0
JudgementCause before now (Ok found) = now ≡ before
JudgementCause before now (Err halt) = MayHaltJudging before now halt

-- the same where no proof is judged
abbrev pub MayHalt : ℕ → ℕ → Halt → Type 0
MayHalt before now (Refused (refusal.Proof cause)) = ⊥
MayHalt before now halt = MayHaltJudging before now halt

abbrev pub HaltCause : {T : Type 0} → ℕ → ℕ → Result T Halt → Type 0
HaltCause before now (Ok found) = now ≡ before
HaltCause before now (Err halt) = MayHalt before now halt
