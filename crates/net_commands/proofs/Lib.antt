-- Each file of lemmas, and the functions whose proofs cite it.
pub mod OnlineRuns  -- `serve_command`, `ask_command`, `mirror_command`, `draw_command` and what they call: what was left as it was, read faults, counts
pub mod Courses  -- `listen_and_serve`, `serve`, `serve_command`; `answer_and_tell`, `mirror_command`
pub mod ServeReading  -- `read_beginning`
pub mod ServePrepared  -- `begin`, `last_image`
pub mod KeptAs  -- `serve_and_tell`, `host`: how commits are kept
pub mod ServeGone  -- `listen_and_serve`
pub mod ServeCourses  -- `listen_and_serve`, `serve_and_tell`, `host`
pub mod ServeRuns  -- `serve_command`
pub mod ServeStored  -- `store_last`, `tell_unstored`
pub mod ServeTexts  -- `serve`: texts behind one another
pub mod AskReading  -- `steps_in`, `read_script_file`, `read_asking`
pub mod AskLinks  -- `ask`: the link that was made, and the play on it
pub mod AskCounted  -- `ask_command`: clauses `counts`, `possible`
pub mod AskRuns  -- `ask_command`: clauses `ends`, `reached`
pub mod DrawReading  -- `read_drawing`
pub mod DrawLinks  -- `judge_on`, `draw`: the link that was made, and the answers on it
pub mod DrawTold  -- `tell_judged`, `judge_and_tell`
pub mod DrawCounted  -- `draw_command`: clauses `counts`, `possible`
pub mod DrawRuns  -- `draw_command`: clauses `ends`, `reached`
pub mod ServeCounted  -- `serve_command`: clauses `counts`, `possible`
pub mod HostReading  -- `read_hosting`, `prepare`
pub mod HostJournals  -- `host`: what the journal keeps
pub mod HostCourses  -- `host`
pub mod HostCounted  -- `host_command`: clauses `counts`, `possible`
pub mod HostRuns  -- `host_command`: clause `ends`
pub mod MirrorReading  -- `read_mirroring`
pub mod MirrorCourses  -- `answer_and_tell`
pub mod MirrorRuns  -- `mirror_command`
