use Rattle.command_parts.proofs.SoundFiles.{file_is_sound, text_is_sound}
use Rattle.file_commands.proofs.laws.programs_are_sound.Goals as goal

pub returns : goal.returns
returns c = record { texts = text_is_sound; files = file_is_sound }
