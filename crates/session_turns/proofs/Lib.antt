-- lists that stand in a relation
pub mod Rows
-- version_spelling, has_spelling: the spelling of a version, by the types of the code; one more known mark
pub mod Spellings
-- newest: the versions behind a place
pub mod Newest
-- what is shared is kept as the store grows
pub mod Sharing
-- settle: how a run ends, by its tests
pub mod Settlements
-- grant: the tests of a call, by what each says; and what a call that passes the first of them comes to
pub mod CallTests
pub mod Granting
-- start, turn: a call that runs in turns, over a store that is lent
pub mod Turns
-- state_made, finish: the state that a run made, and its frames
pub mod RunEnds
-- end_turn, settle: turns of one session; and that a session stays as the store and the versions grow
pub mod SessionTurns
-- take_turns, round: rows of sessions as their turns are taken, each by itself
pub mod TurnedRows
-- settle_turn, settle_turns: a turn of a session under its number; the turns of a round so far
pub mod RoundSoFar
-- rounds: the rounds so far
pub mod RoundsSoFar
-- for the crates above: sessions in a row are rows of a table, and back
pub mod SessionRows
