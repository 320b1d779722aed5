-- An image as a whole: its header, its records, its root.
use Rattle.std.proofs.Common.{◌≡◌, ℕ, List, [], length, Result, Ok, Err, sym, ap, ◌∙◌, subst}
use Rattle.core_terms.specs.ProgramTypes.{types_meaning}
use Rattle.core_terms.specs.Values.{Value}
use Rattle.core_terms.specs.declared.program_types.Types.{Types}
use Rattle.images.specs.Images.{Entry, Image, Loaded, FaultyImage, Refused, Root, as_image, headed, image_of, last, load_records, rooted}
use Rattle.images.specs.Images as meant
use Rattle.images.specs.Loads.{IsHeaded, TellsFault}
use Rattle.images.specs.declared.fault.ImageFault.{ImageFault}
use Rattle.images.specs.declared.fault.ImageFault.TheVariants.{Magic, Cut, OtherProgram, BadRecord, TooBig, TooDeep, RootType, Leftover, NoMemory}
use Rattle.images.specs.declared.header.Header.{Header}
use Rattle.value_store.specs.Markings.{Marking}
use Rattle.images.specs.LoadedRoots.{LoadsOver}
use Rattle.images.specs.declared.load.Loaded as code

-- a fault of which one thing holds, and so another
told_on : (F G : meant.ImageFault → Type 0) → ((f : meant.ImageFault) → F f → G f) → (fault : ImageFault) → TellsFault F fault → TellsFault G fault
told_on F G on Magic h = on _ h
told_on F G on (Cut n) h = on _ h
told_on F G on OtherProgram h = on _ h
told_on F G on (BadRecord i) h = on _ h
told_on F G on (TooBig i) h = on _ h
told_on F G on (TooDeep i) h = on _ h
told_on F G on RootType h = on _ h
told_on F G on (Leftover n) h = on _ h
told_on F G on NoMemory h = h

module _ (marking : Marking) (p : Types) (digest bytes : List ℕ) where
  abbrev go : ℕ → List ℕ → Image
  go count records = as_image (types_meaning p).state (load_records (types_meaning p) (length bytes) count [] records)

  -- the fault of an image is what is told of it
  pub fault_told : (fault : ImageFault) (result : Result code.Loaded ImageFault) → result ≡ Err fault
      → TellsFault (λ f. image_of (types_meaning p) digest bytes ≡ Refused f) fault → LoadsOver marking (types_meaning p) (image_of (types_meaning p) digest bytes) result
  fault_told fault result is h = subst (λ r. LoadsOver marking (types_meaning p) (image_of (types_meaning p) digest bytes) r) (sym is) h

  pub header_fault : (fault : ImageFault) → IsHeaded (λ go. headed (types_meaning p).format.image_magic digest bytes go) (Err fault) → TellsFault (λ f. image_of (types_meaning p) digest bytes ≡ Refused f) fault
  header_fault fault h = h go

  pub with_header : (header : Header) → IsHeaded (λ go. headed (types_meaning p).format.image_magic digest bytes go) (Ok header) → image_of (types_meaning p) digest bytes ≡ go header.count header.records.now
  with_header header h = h go

  module _ (count : ℕ) (behind : List ℕ) (is : image_of (types_meaning p) digest bytes ≡ go count behind) where
    pub records_fault : (fault : ImageFault) → TellsFault (λ f. load_records (types_meaning p) (length bytes) count [] behind ≡ FaultyImage f) fault
        → TellsFault (λ f. image_of (types_meaning p) digest bytes ≡ Refused f) fault
    records_fault fault h =
        told_on (λ f. load_records (types_meaning p) (length bytes) count [] behind ≡ FaultyImage f) (λ f. image_of (types_meaning p) digest bytes ≡ Refused f)
        (λ f loading. is ∙ ap (as_image (types_meaning p).state) loading) fault h

    module _ (entries : List Entry) (rest : List ℕ) (loading : load_records (types_meaning p) (length bytes) count [] behind ≡ Loaded entries rest) where
      with_records : image_of (types_meaning p) digest bytes ≡ rooted (types_meaning p).state (last entries) rest
      with_records = is ∙ ap (as_image (types_meaning p).state) loading

      pub root_fault : (fault : ImageFault) → TellsFault (λ f. rooted (types_meaning p).state (last entries) rest ≡ Refused f) fault
          → TellsFault (λ f. image_of (types_meaning p) digest bytes ≡ Refused f) fault
      root_fault fault h =
          told_on (λ f. rooted (types_meaning p).state (last entries) rest ≡ Refused f) (λ f. image_of (types_meaning p) digest bytes ≡ Refused f) (λ f refused. with_records ∙ refused) fault h

      pub root_told : (v : Value) → rooted (types_meaning p).state (last entries) rest ≡ Root v → image_of (types_meaning p) digest bytes ≡ Root v
      root_told v root = with_records ∙ root
