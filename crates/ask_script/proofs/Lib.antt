-- Each file of lemmas, and the functions whose proofs cite it.
mod CutWords  -- `cut_word`, and all that read words
mod Sessions  -- `read_session`, `read_open`
mod Forms  -- `read_words`, `read_open`, `read_close`, `cut_words`, `read_call`
mod Lines  -- `read_line`
mod NamedRoles  -- `find_role`
mod FittingSteps  -- `read_script`: clause `fits`; the law `arguments_are_bytes`
mod SpelledBytes  -- the law `arguments_are_bytes`: the spelling of a value without digests
pub mod ByteArguments  -- the law `arguments_are_bytes`
mod ReadScripts  -- `read_script`: clause `script`
