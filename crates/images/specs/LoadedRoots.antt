-- What the nodes of a store stand for, of the state in an image.
use Rattle.std.specs.Prelude.{◌≡◌, Result, Ok, Err}
use Rattle.core_terms.specs.Values.{Value}
use Rattle.core_terms.specs.Terms.{Program}
use Rattle.images.specs.Images.{Image, Root, Refused}
use Rattle.images.specs.Loads.{TellsFault}
use Rattle.images.specs.declared.fault.ImageFault.{ImageFault}
use Rattle.value_store.specs.Markings.{Marking, kind_of, seen_as}
use Rattle.value_store.specs.Standing.{IdealNodes, StandsFor}
use Rattle.value_store.specs.Stores.{nodes_in}
use Rattle.value_store.specs.declared.node.Ref.{Ref}
use Rattle.value_store.specs.declared.store.Store.{Store}
use Rattle.images.specs.declared.load.Loaded.{Loaded}

-- the node stands for this ideal value of the state's type
abbrev pub IsStateAt : Program → Store → Ref → Value → Type 0
IsStateAt P store root v = StandsFor IdealNodes P.types (nodes_in store) root.0 P.state v

-- The root stands, over nodes of the marker's kind, for the value of the image's root as it is seen there; or the image has no root, and
-- the fault is its first. Where memory was wanting nothing is told.
abbrev pub LoadsOver : Marking → Program → Image → Result Loaded ImageFault → Type 0
LoadsOver marking P image (Ok loaded) =
    (v : Value) × (image ≡ Root v) × StandsFor (kind_of marking P) P.types (nodes_in loaded.store) loaded.root.0 P.state (seen_as marking P P.state v)
LoadsOver marking P image (Err fault) = TellsFault (λ f. image ≡ Refused f) fault
