-- Each file of lemmas, and the functions whose proofs cite it.
pub mod Steps  -- the readers (`read_..`, `load_..`) and finders (`find_..`): steps put together
pub mod Reached  -- `load`, the finders and the commands: the file of a read fault
pub mod Words  -- the commands and `carry_out`: the words behind a command
pub mod Possible  -- the commands and `run`: the statuses that may be answered
pub mod Ends  -- `check_command`, `ideal_command`, `audit_command`, `ended`
pub mod EndsStored  -- `init_command`, `step_command`, `shallow_command`, `prove_command`, `verify_command`
pub mod LineSteps  -- `gen_command`, `find_sums`, `read_numbers`, `generate`, `workload_of`, `put_role`, `get_role`
pub mod RoleShapes  -- `role_named`, `read_ideal_call`, `run_call`, `make_proof`, `audit_call`, `state_made`
pub mod PutArguments  -- `put_argument`
pub mod StatesRead  -- `judge_state`, `read_passed`
pub mod TextNames  -- `read_program`
pub mod MarkedStates  -- `load_state`, `spell_state`, `value_line`, `role_output`
pub mod StateOutputs  -- `spell_state`
pub mod EndedRuns  -- `read_ideal_call`, `run_init`, `run_call`
pub mod RoleReports  -- `value_line`, `role_report`, `state_made`
pub mod StoredOutputs  -- `role_output`, `mirror_output`
pub mod RoleSteps  -- `call_init`, `call_role` and the finders on them
pub mod HeldOutcomes  -- `outcome_report`
pub mod SoundFiles  -- the law `programs_are_sound`
pub mod FileReadings  -- `load_program`, `read_object_or_text`, `read_program_file`; the laws `programs_are_sound`, `constructors_are_named`
pub mod PassedTrees  -- `read_program`, `read_programs`; the law `programs_are_sound`
pub mod MirrorSteps  -- `load_mirror`, `load_mirror_file`
pub mod ImageBytes  -- `load_image_bytes`
pub mod FetchedTold  -- `fetched_outcome`, `fetch_from`, `fetch_named`
