use Rattle.std.proofs.Common.{refl, ◌∙◌}
use Rattle.std.specs.Prelude.{codes}
use Rattle.board_maker.specs.MadeBoard.{manifest_text}
use Rattle.board_io.specs.Memory.{files_of}
use Rattle.board_maker.specs.MadePackage.{IsUntouched}
use Rattle.board_maker.proofs.Holding.{held_more, none_held, untouched_more}
use Rattle.board_maker.proofs.made.package.Goals as goal

pub returns : goal.returns
returns c =
    let none = none_held (files_of c.new-package.result) c.new-package.ensures.files in
    let netlist = held_more _ (files_of c.hold.new.self) _ (codes "n.ipc") c.as_slice.result.now _ c.in_ok-hold.ensures.ok (c.as_slice.ensures.value ∙ c.in_ok-text.ensures) none in
    let drills = held_more _ (files_of c.hold-2.new.self) _ (codes "pth.drl") c.as_slice-2.result.now _ c.in_ok-hold-2.ensures.ok (c.as_slice-2.ensures.value ∙ c.in_ok-text-2.ensures) netlist in
    let bottom = held_more _ (files_of c.hold-3.new.self) _ (codes "bot.gbr") c.as_slice-3.result.now _ c.in_ok-hold-3.ensures.ok (c.as_slice-3.ensures.value ∙ c.in_ok-text-3.ensures) drills in
    let top = held_more _ (files_of c.hold-4.new.self) _ (codes "top.gbr") c.as_slice-4.result.now _ c.in_ok-hold-4.ensures.ok (c.as_slice-4.ensures.value ∙ c.in_ok-text-4.ensures) bottom in
    let fresh : IsUntouched c.new-package.result = record {
      failing = c.new-package.ensures.failing;
      calls = c.new-package.ensures.calls;
      faults = c.new-package.ensures.faults;
      lost = c.new-package.ensures.lost;
      handed = c.new-package.ensures.handed;
    } in
    let first = untouched_more _ c.hold.new.self c.in_ok-hold.ensures.others fresh in
    let second = untouched_more _ c.hold-2.new.self c.in_ok-hold-2.ensures.others first in
    let third = untouched_more _ c.hold-3.new.self c.in_ok-hold-3.ensures.others second in
    let fourth = untouched_more _ c.hold-4.new.self c.in_ok-hold-4.ensures.others third in
    record {
      files = held_more _ (files_of c.hold-5.new.self) _ (codes "m.json") manifest_text manifest_text c.in_ok-hold-5.ensures.ok refl top;
      untouched = untouched_more _ c.hold-5.new.self c.in_ok-hold-5.ensures.others fourth;
    }
