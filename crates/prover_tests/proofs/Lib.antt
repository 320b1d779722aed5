-- `put_call` of stage: what was put stands for a state and an argument
pub mod IntCalls
