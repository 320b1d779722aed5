-- open_piece, unauth: what the definitions' `unauth` gives where the verifier stands, and how it goes on
pub mod Pieces
-- value_again: a piece that comes again
pub mod LastReads
-- checked_run: what a run comes to, from its first piece to its last
pub mod Checking
-- verify, verify_on, judge_call: the verdict from the run and from what is read before it
pub mod Judging
-- argument_of, put_call: the types of the state and of the argument
pub mod Parameters
-- verify, verify_on, judge_call: what is put and spelled by the types of the program
pub mod TypesAlone
-- verify, verify_on: the headline
pub mod SaysTrue
pub mod Given
