-- A package that comes to hold one more file.
use Rattle.std.proofs.Common.{◌≡◌, ℕ, if◌then◌else◌, List, Some, None, refl, ◌∙◌}
use mathlib.Core.Path.{fun_ext}
use Rattle.std.specs.Str.{bytes_eq}
use Rattle.board_io.specs.Package.{Files}
use Rattle.board_io.specs.Memory.{HoldsAlso, KeepsCalls}
use Rattle.board_io.specs.declared.memory_package.MemoryPackage.{MemoryPackage}
use Rattle.board_maker.specs.MadePackage.{IsUntouched}

pub none_held : (files : Files) → ((q : List ℕ) → files q ≡ None) → files ≡ (λ (q : List ℕ). None)
none_held files h = fun_ext h

pub held_more : (old new rest : Files) (name bytes text : List ℕ) → HoldsAlso old name bytes new → bytes ≡ text → old ≡ rest → new ≡ (λ (q : List ℕ). if bytes_eq name q then Some text else rest q)
held_more old new rest name bytes text h e f = fun_ext (λ q. h q ∙ same q)
  where
    same : (q : List ℕ) → (if bytes_eq name q then Some bytes else old q) ≡ (if bytes_eq name q then Some text else rest q)
    same q = rw (e, f) refl

pub untouched_more : (old new : MemoryPackage) → KeepsCalls old new → IsUntouched old → IsUntouched new
untouched_more old new k u = record {
  failing = λ call. k.failing call ∙ u.failing call;
  calls = k.calls ∙ u.calls;
  faults = k.faults ∙ u.faults;
  lost = k.lost ∙ u.lost;
  handed = k.handed ∙ u.handed;
}
