-- Which functions the files serve. The definition of images, computed on cases:
mod Rows
-- the header
mod Fronts
mod Headed
-- read_record and its fields
mod TextRecords
mod RecordFronts
-- the parts of the state's type, with their marks:
mod GrowingTests
mod PartFields
mod PartLevels
mod PartMarking
mod PartSpreading
mod PartSteps
pub mod ArrayLengths
mod ClosedParts
-- what a record stands for: entries, then field_refs
pub mod TypeNumbers
pub mod Checked
pub mod Seen
pub mod StoredLists
pub mod StoredNodes
pub mod Composites
pub mod FieldRefs
pub mod FieldSteps
pub mod Constructors
pub mod ArrayRecords
-- the records that are loaded, by number
mod KeptRecords
-- stored, load_records, root, load_image
pub mod AtRecords
pub mod LoadedLists
pub mod Roots
pub mod LoadedImages
-- the entries of a value, and the record of each: number_for and record_of
mod SameEntries
mod AmongEntries
mod DistinctEntries
mod NumberedEntries
mod EntryParts
mod SameRecords
mod NumberedParts
mod RecordBytes
mod RecordReading
mod NodeEntries
mod OneEntry
-- records_of: the walk over nodes
mod Weights
mod WaitingFrames
mod SavingLists
mod Saving
mod SavingWalk
mod SavingAdd
mod SavingSteps
mod LoopFacts
-- save_image, and that what it writes loads
mod WholeImages
mod FitEntries
mod BehindParts
mod WholeLast
mod ReadEntries
mod LoadedAgain
mod NoOtherArrays
mod SavedLoads
-- a program's images are by its types alone: for callers that have a program
pub mod ImagesByTypes
-- the laws saved_parts_are_once, parts_are_found and roots_fit
mod SavedOnce
mod PartsFound
pub mod ImageRoots
-- auth_order
mod OrderedEntries
mod ReachedNodes
-- fill of a mirror, in a crate above
pub mod ReachedOver
