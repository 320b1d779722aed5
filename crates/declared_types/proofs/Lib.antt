-- the first pass: `first_pass`, `declare`, `add_name`, `add_constructor`, `check_parameters` of declarations.rt
pub mod NamesBefore
pub mod Constructors
pub mod ParameterNames
pub mod DeclaredOneByOne
-- numbers of types, cited by each function behind the first two passes
pub mod TypeNumbers
pub mod ScopeStays
-- what holds of each sound answer of a step; that what passes the first pass is within its limits
pub mod SoundSteps
pub mod SoundLimits
-- `declared_scope` of numbering.rt, and the functions that it calls
pub mod NamesOfDeclarations
pub mod NumberedParts
pub mod NumberedScopes
pub mod ConstructorNumbers
-- look-ups by name: `constructor` and `function` of scope.rt, `named_id` of numbering.rt; that what is named is there
pub mod ScopeLookups
pub mod SoundNames
-- the third pass: `third_pass`, `check_update`, `is_same`, `last_parameter` of roles.rt
pub mod RolesOfHeads
-- `known_names` and `checked_scope` of passes.rt
pub mod FirstPasses
