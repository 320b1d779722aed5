-- Each file of lemmas, and the functions whose proofs cite it.
pub mod Workloads  -- `find_sums`, `generate`, `run_and_tell`, `sums_report`
pub mod WorkloadRoles  -- `put_role`, `get_role`
pub mod WrittenOutputs  -- `write_output`, `emit_object`, `read_listed_program`
pub mod EqualTables  -- `read_programs`
pub mod MovedImages  -- `find_moved`
pub mod MovedStates  -- `read_programs`, `find_moved`, `move_state`
pub mod NamedConstructors  -- the law `constructors_are_named`
pub mod MirrorOutputs  -- `mirror_output`
