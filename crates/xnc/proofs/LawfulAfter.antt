-- The last place stays within 1 m.
use Rattle.planar.specs.declared.Spot.{Spot}
use Rattle.planar.specs.Plane.{IsPlaced}
use Rattle.xnc.specs.declared.line.DrillLine.{DrillLine}
use Rattle.xnc.specs.declared.line.DrillLine.TheVariants as form
use Rattle.xnc.specs.declared.settings.Settings.{Settings}
use Rattle.xnc.specs.declared.effect.Effect.{Effect as Seen}
use Rattle.xnc.specs.declared.effect.Effect.TheVariants as seen
use Rattle.xnc.specs.declared.tools.Tools.{Tools}
use Rattle.xnc.specs.Reader.{IsFit, shown}
use Rattle.xnc.specs.DrillEffects.{after, gone}

gone_placed : (t : Tools) (here : Spot) (e : Seen) → IsPlaced here → IsFit t e → IsPlaced (gone here (shown e))
gone_placed t here seen.Stays h k = h
gone_placed t here (seen.Makes n d) h k = h
gone_placed t here (seen.Moves to) h k = k
gone_placed t here (seen.Drills to barrel) h k = k

pub after_placed : (t : Tools) (s : Settings) (f : DrillLine) (e : Seen) → IsPlaced s.at → IsFit t e → IsPlaced (after s f (shown e)).at
after_placed t s (form.Rout to) e h k = gone_placed t s.at e h k
after_placed t s (form.Straight to) e h k = gone_placed t s.at e h k
after_placed t s (form.Hit at) e h k = gone_placed t s.at e h k
after_placed t s (form.Slot from to) e h k = gone_placed t s.at e h k
after_placed t s other e h k = h
