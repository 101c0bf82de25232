-- What holds of each command.
use Rattle.boardnet.proofs.Sound.{Sound}
use Rattle.boardnet.specs.Command.{Command}
use Rattle.boardnet.specs.Command as command
use Rattle.boardnet.proofs.Soundness.Check.{sound_check}
use Rattle.boardnet.proofs.Soundness.Audit.{sound_audit}
use Rattle.boardnet.proofs.Soundness.Trial.{sound_trial}
use Rattle.boardnet.proofs.Soundness.Write.{sound_write}
use Rattle.boardnet.proofs.Soundness.Gaps.{sound_gaps}
use Rattle.boardnet.proofs.Soundness.X2.{sound_x2}
use Rattle.boardnet.proofs.Soundness.Flatten.{sound_flatten}
use Rattle.boardnet.proofs.Soundness.Between.{sound_between}
pub mod Check
pub mod Audit
pub mod Trial
pub mod Write
pub mod Gaps
pub mod X2
pub mod Flatten
pub mod Between

pub sound : (c : Command) → Sound c
sound (command.Check version manifest) = sound_check version manifest
sound (command.Audit manifest report) = sound_audit manifest report
sound (command.Trial seed size) = sound_trial seed size
sound (command.Write manifest) = sound_write manifest
sound (command.Gaps manifest nanometres) = sound_gaps manifest nanometres
sound (command.X2 manifest) = sound_x2 manifest
sound (command.Flatten file) = sound_flatten file
sound (command.Between names) = sound_between names
