-- What a verifier's fault tells, and why there is no further frame.
use Rattle.std.specs.Prelude.{◌≡◌, Option, Some, None, Result, Ok, Err}
use Rattle.ideal_meaning.specs.Checked.{Cause}
use Rattle.ideal_meaning.specs.Frames.{NoByte, IsCut, KindIs, LongBy}
use Rattle.ideal_meaning.specs.Frames as meant
use Rattle.ideal_meaning.specs.Told.{cause_told}
use Rattle.mode_vm.specs.declared.mode.Stop.{Stop}
use Rattle.mode_vm.specs.declared.mode.Stop.TheVariants as stop
use Rattle.proof_stream.specs.declared.frame.FrameEnd.{FrameEnd}
use Rattle.proof_stream.specs.declared.frame.FrameEnd.TheVariants as frame_end
use Rattle.verifier_mode.specs.declared.verifier.VerifierFault.{VerifierFault}
use Rattle.verifier_mode.specs.declared.verifier.VerifierFault.TheVariants.{Rejected, ReadFault}

-- the cause of the definitions; where the source failed there is none
abbrev pub fault_cause : VerifierFault → Option Cause
fault_cause (Rejected cause) = Some (cause_told cause)
fault_cause ReadFault = None

abbrev pub stop_cause : Stop VerifierFault → Option Cause
stop_cause (stop.Mode fault) = fault_cause fault
stop_cause stop.NoMemory = None

-- how the offered pieces end, where it is the bytes that end them
abbrev pub end_told : FrameEnd → Option meant.End
end_told frame_end.End = Some NoByte
end_told frame_end.Cut = Some IsCut
end_told (frame_end.BadKind byte) = Some (KindIs byte)
end_told (frame_end.PieceLong len) = Some (LongBy len)
end_told frame_end.ReadFault = None
end_told frame_end.NoMemory = None

-- a fault tells a cause
abbrev pub FaultTellsCause : {A : Type 0} → Result A (Stop VerifierFault) → Type 0
FaultTellsCause (Ok a) = Unit {0}
FaultTellsCause (Err stop.NoMemory) = Unit {0}
FaultTellsCause (Err (stop.Mode fault)) = (c : Cause) × (fault_cause fault ≡ Some c)
