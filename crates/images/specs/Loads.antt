-- How the results of the code tell a fault of an image, and its header.
use Rattle.std.specs.Prelude.{◌≡◌, ℕ, List, Result, Ok, Err, ⊤}
use Rattle.images.specs.Images.{Image, Refused}
use Rattle.images.specs.Images as meant
use Rattle.images.specs.declared.fault.ImageFault.{ImageFault}
use Rattle.images.specs.declared.fault.ImageFault.TheVariants.{Magic, Cut, OtherProgram, BadRecord, TooBig, TooDeep, RootType, Leftover, NoMemory}
use Rattle.images.specs.declared.header.Header.{Header}

-- The fault is one of which this holds; where memory was wanting it tells nothing.
abbrev pub TellsFault : (meant.ImageFault → Type 0) → ImageFault → Type 0
TellsFault Holds Magic = Holds meant.Magic
TellsFault Holds (Cut bytes) = Holds (meant.Cut bytes)
TellsFault Holds OtherProgram = Holds meant.OtherProgram
TellsFault Holds (BadRecord number) = Holds (meant.BadRecord number)
TellsFault Holds (TooBig number) = Holds (meant.TooBig number)
TellsFault Holds (TooDeep number) = Holds (meant.TooDeep number)
TellsFault Holds RootType = Holds meant.RootType
TellsFault Holds (Leftover bytes) = Holds (meant.Leftover bytes)
TellsFault Holds NoMemory = ⊤

-- the result tells the header, with which an image goes on; or the fault that it is refused for
abbrev pub IsHeaded : ((ℕ → List ℕ → Image) → Image) → Result Header ImageFault → Type 0
IsHeaded image (Ok header) = (go : ℕ → List ℕ → Image) → image go ≡ go header.count header.records.now
IsHeaded image (Err fault) = (go : ℕ → List ℕ → Image) → TellsFault (λ f. image go ≡ Refused f) fault
