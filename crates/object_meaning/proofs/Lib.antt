-- Which functions the files serve. The law `programs_have_kinds`; `kinds_are_accepted` stands in core_terms:
pub mod There
pub mod WrittenThere
pub mod KindsLead
pub mod KindsOfPrograms
-- `objects_are_read_back`
pub mod ReadersBack
pub mod ObjectsBack
-- `bytes_are_the_objects`
pub mod OnlyObjects
-- `reads_are_well_formed`
pub mod ReadsWellFormed
-- `objects_are_programs` and `objects_mean_the_same`
pub mod ListedTypes
pub mod ObjectCode
pub mod ObjectPrograms
pub mod ObjectVerdicts
-- `objects_are_accepted`
pub mod ReadThere
pub mod ReadWithin
-- `programs_are_accepted`, and that its premises can be met
pub mod RoleNames
pub mod WrittenWell
pub mod WrittenCode
pub mod WrittenAccepted
mod EmittableRows
