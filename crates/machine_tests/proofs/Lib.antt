-- `run_counted` and `run_in_slices` of stage: the argument stands among the nodes
pub mod OneInt
