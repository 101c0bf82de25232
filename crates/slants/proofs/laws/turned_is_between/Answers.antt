use Rattle.slants.specs.Cones.{turns_by}
use Rattle.slants.proofs.Around.{above_turned, below_turned}
use Rattle.slants.proofs.laws.turned_is_between.Goals as goal

pub returns : goal.returns
returns c = λ contour about angle points p. (
  λ h inside t k. below_turned contour (turns_by about angle) points t p h.taken k inside,
  λ h (t, k, inside). above_turned contour (turns_by about angle) points t p h.taken k inside,
)
