use Rattle.motion_history.proofs.SoundLaws.{sound_of}
use Rattle.motion_history.proofs.laws.configurations_are_sound.Goals as goal

pub returns : goal.returns
returns c = sound_of
