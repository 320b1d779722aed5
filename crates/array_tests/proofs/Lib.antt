-- `ends_as` of stage.rt
pub mod OneInt
