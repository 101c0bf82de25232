-- Files that agree with what was handed over make the real board that was handed over.
use Rattle.std.proofs.Common.{◌⊎◌, inl, inr, ℕ, List, IsSomeAnd, subst, sym}
use Rattle.board_io.specs.Handed.{AgreeWith, Handed}
use Rattle.board_io.specs.Package.{Files}
use Rattle.board_package.specs.PackageBoard.{BehindManifest, IsHeldWith, StopsAtManifest, StopsTaking, WalksBy, order_of, refused}
use Rattle.board_package.specs.declared.entry.Entry.{Entry}
use Rattle.board_package.specs.declared.manifest.Manifest.{Manifest}
use Rattle.board_package.proofs.Agreed.{Follows, behind_as, comes_of, made_of, stop_of}
use Rattle.real_package.specs.HandedReal.{IsRealBoardHanded, RefusesRealFile, as_real_board, built_of}
use Rattle.real_package.specs.Laws.{HandedIsHeld, HoldsWhatWasHanded}
use Rattle.real_package.specs.RealBoards.{PlainRealBoard, empty_real}
use Rattle.real_package.specs.RealPackage.{GoesReal, IsFirstRealStop, IsRealBoardOf, OfUnbuilt, RealStop, StopsRealAmong, StopsRealAt, bent, unbuilt}

untaken_at : (f : Files) (e : Entry) (x : PlainRealBoard) (stop : RealStop) → IsSomeAnd (built_of stop) (λ s. StopsTaking f e.name s) → StopsRealAt f e x stop
untaken_at f e x (unbuilt (refused name why)) s = absurd s
untaken_at f e x (unbuilt other) s = s
untaken_at f e x (bent name kind command at) s = absurd s

refused_at : (f : Files) (e : Entry) (x : PlainRealBoard) (stop : RealStop) → IsHeldWith f e.name (λ bytes. RefusesRealFile e bytes x stop) → StopsRealAt f e x stop
refused_at f e x (unbuilt (refused name why)) h = (h.good.0, record { bytes = h.bytes; held = h.held; good = h.good.1 })
refused_at f e x (bent name kind command at) h = (h.good.0, record { bytes = h.bytes; held = h.held; good = h.good.1 })
refused_at f e x (unbuilt other) h = absurd h.good

follows : (f : Files) → Follows as_real_board f (GoesReal f) (λ e x stop. StopsRealAt f e x stop)
follows f = record { goes = λ e x y h. h; untaken = λ e x stop s. untaken_at f e x stop s; refused = λ e x stop h. refused_at f e x stop h }

manifest_real : (f : Files) (name : List ℕ) (stop : RealStop) → IsSomeAnd (built_of stop) (λ s. StopsAtManifest f name s) → OfUnbuilt (StopsAtManifest f name) stop
manifest_real f name (unbuilt stop) s = s
manifest_real f name (bent file kind command at) s = absurd s

first_stop : (f : Files) (name : List ℕ) (stop : RealStop) → IsSomeAnd (built_of stop) (λ s. StopsAtManifest f name s) ⊎ BehindManifest f name (λ m. StopsRealAmong f (order_of m) (empty_real m.layers) stop ⊎ ((end : PlainRealBoard) × WalksBy (GoesReal f) (order_of m) (empty_real m.layers) end × ⊥)) → IsFirstRealStop f name stop
first_stop f name stop (inl s) = inl (manifest_real f name stop s)
first_stop f name stop (inr h) = inr (behind_as f name _ (λ m. StopsRealAmong f (order_of m) (empty_real m.layers) stop) among h)
  where
    among : (m : Manifest) → StopsRealAmong f (order_of m) (empty_real m.layers) stop ⊎ ((end : PlainRealBoard) × WalksBy (GoesReal f) (order_of m) (empty_real m.layers) end × ⊥) → StopsRealAmong f (order_of m) (empty_real m.layers) stop
    among m (inl s) = s
    among m (inr (end, walked, none)) = absurd none

module _ (f : Files) (a b : List Handed) (w : AgreeWith f a b) (name : List ℕ) where
  board_is : (board : PlainRealBoard) → IsRealBoardHanded a b name board → IsRealBoardOf f name board
  board_is board h =
      behind_as f name _ (λ m. WalksBy (GoesReal f) (order_of m) (empty_real m.layers) board) (λ m k. subst (λ x. WalksBy (GoesReal f) (order_of m) (empty_real m.layers) x) (sym k.2) k.1)
      (made_of as_real_board f (GoesReal f) (λ e x stop. StopsRealAt f e x stop) (follows f) a b w name board h)

  holds : HoldsWhatWasHanded f a b name
  holds = record {
    board = λ board h. board_is board h;
    stop = λ stop s. first_stop f name stop (stop_of as_real_board f (GoesReal f) (λ e x stop. StopsRealAt f e x stop) (follows f) a b w name stop s);
    comes = λ other h. comes_of as_real_board f (GoesReal f) (λ e x stop. StopsRealAt f e x stop) (follows f) a b w name other h;
  }

pub handed_is_held : HandedIsHeld
handed_is_held = λ f a b name w. holds f a b w name
