-- Each file of lemmas, and the functions whose proofs cite it.
pub mod RolesByName  -- `run`: clause `headline`
pub mod JudgedRoles  -- `find_judgement`, `judge_proof`, `outcome_output`, `new_state`
pub mod JudgedAudits  -- `audit_named`, `audit_started`
pub mod HeldCalls  -- `make_proof`, `audit_call`
pub mod ProofOutputs  -- `make_proof`
pub mod GoingOn  -- `run`, the law `shallow_stores_the_clients_state`: that they go on
pub mod SoundRoles  -- `find_judgement`; `run`: clauses `companion`, `audited`, `headline`
pub mod OnProofs  -- `run`; the law `verdicts_are_on_proofs`
pub mod ClientStates  -- the law `shallow_stores_the_clients_state`
