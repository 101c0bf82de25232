-- Whether edges are straight, as they are kept and as plain data.
use Rattle.std.proofs.Common.{◌≡◌, List, [], ◌∷◌, ◌&&◌, map, refl, ap}
use Rattle.std.specs.Prelude.{Option, is_none}
use Rattle.std.specs.List.{list_all}
use Rattle.regions.specs.Contours.{leg_of}
use Rattle.regions.specs.declared.contour.Leg.{Leg as Seen}
use Rattle.real_copper.specs.Contours.{is_straight}
use Rattle.real_copper.specs.declared.draw.Bend.{Bend}

pub straight_map : (edges : List (Seen (Option Bend))) → list_all (λ (e : Seen (Option Bend)). is_none e.bend) edges ≡ is_straight (map leg_of edges)
straight_map [] = refl
straight_map (e ∷ edges) = ap (λ b. is_none e.bend && b) (straight_map edges)
