-- Files that agree with what was handed over make what was made of it.
use Rattle.std.proofs.Common.{◌≡◌, ◌⊎◌, inl, inr, ℕ, List, [], ◌∷◌, Option, Some, None, IsSomeAnd, sym, ap, subst}
use Rattle.board_io.proofs.Agreeing.{agree_back, agree_file, agree_front, agree_long, grows_file, grows_long, grows_none, grows_on}
use Rattle.board_io.specs.Handed.{AgreeWith, Grows, Handed}
use Rattle.board_io.specs.Package.{Files}
use Rattle.board_shapes.specs.Plain.{Fits, PlainBoard, common_box}
use Rattle.board_package.specs.HandedBoard.{BehindManifestHanded, ComesNext, Course, GoesHanded, IsBoardHanded, IsHanded, IsHandedWith, IsMadeHanded, IsNextHanded, IsStopHanded, Reading, RefusesFile, StopsAtHanded, StopsAtManifestHanded, StopsHanding, StopsLaterHanded, as_board}
use Rattle.board_package.specs.HandedLabelled.{IsLabelledBoardHanded, RefusesLabelled, as_labelled, built_of}
use Rattle.board_package.specs.HandedLaw.{HandedIsHeld, HoldsWhatWasHanded}
use Rattle.board_package.specs.LabelledBoard.{GoesLabelled, IsFirstLabelledStop, IsLabelledBoardOf, Labelled, LabelledStop, OfBuild, StopsLabelledAmong, StopsLabelledAt, StopsLabelledLater, labelled_order, mislabelled, nothing_labelled, unbuilt}
use Rattle.board_package.specs.PackageBoard.{AtOneBy, BehindManifest, Goes, IsBoardOf, IsFirstStop, IsHeld, IsHeldWith, Stop, StopsAmong, StopsAt, StopsAtFrame, StopsAtManifest, StopsLater, StopsTaking, Walks, WalksBy, longer, not_json, bad_manifest, order_of, refused}
use Rattle.board_package.specs.Parts.{empty_board}
use Rattle.board_package.specs.declared.entry.Entry.{Entry}
use Rattle.board_package.specs.declared.entry.Naming.TheVariants.{ByLabels}
use Rattle.board_package.specs.declared.manifest.Manifest.{Manifest}

-- ---- One file

abbrev held : (f : Files) (a b : List Handed) (name bytes : List ℕ) → AgreeWith f a b → IsHanded a b name bytes → IsHeld f name bytes
held f a b name bytes w h = record { held = agree_file f a b name bytes h.next w; short = h.short }

pub held_with : (f : Files) (a b : List Handed) (name : List ℕ) (P : List ℕ → Type 0) → AgreeWith f a b → IsHandedWith a b name P → IsHeldWith f name P
held_with f a b name P w h = record { bytes = h.bytes; held = held f a b name h.bytes w h.handed; good = h.good }

grows_handed : (a b : List Handed) (name : List ℕ) (P : List ℕ → Type 0) → IsHandedWith a b name P → Grows a b
grows_handed a b name P h = grows_file a b name h.bytes h.handed.next

untaken : (f : Files) (a b : List Handed) (name : List ℕ) (stop : Stop) → AgreeWith f a b → StopsHanding a b name stop → StopsTaking f name stop
untaken f a b name (longer other) w s = (s.0, agree_long f a b name _ s.1 w)
untaken f a b name other w s = absurd s

grows_stop : (a b : List Handed) (name : List ℕ) (stop : Stop) → StopsHanding a b name stop → Grows a b
grows_stop a b name (longer other) s = grows_long a b name _ s.1
grows_stop a b name other s = absurd s

manifest_stop : (f : Files) (a b : List Handed) (name : List ℕ) (stop : Stop) → AgreeWith f a b → StopsAtManifestHanded a b name stop → StopsAtManifest f name stop
manifest_stop f a b name (longer other) w s = untaken f a b name (longer other) w s
manifest_stop f a b name not_json w s = held_with f a b name _ w s
manifest_stop f a b name bad_manifest w s = held_with f a b name _ w s
manifest_stop f a b name other w s = absurd s

-- ---- The files, whatever they are read as

shared_as : (o : Option Stop) (P Q : Stop → Type 0) → ((stop : Stop) → P stop → Q stop) → IsSomeAnd o P → IsSomeAnd o Q
shared_as None P Q k h = absurd h
shared_as (Some stop) P Q k h = k stop h

grows_shared : (a b : List Handed) (name : List ℕ) (o : Option Stop) → IsSomeAnd o (λ stop. StopsHanding a b name stop) → Grows a b
grows_shared a b name None h = absurd h
grows_shared a b name (Some stop) h = grows_stop a b name stop h

grows_walk : {S B K : Type 0} (r : Reading S B K) (entries : List Entry) (c d : Course S) → WalksBy (GoesHanded r) entries c d → Grows c.handed d.handed
grows_walk r [] c d w = grows_none c.handed d.handed (ap (λ (x : Course _). x.handed) (sym w))
grows_walk r (e ∷ rest) c d (n, s, w) = grows_on c.handed n.handed d.handed (grows_handed c.handed n.handed e.name _ s) (grows_walk r rest n d w)

grows_one : {S B K : Type 0} (r : Reading S B K) (b : List Handed) (P : Entry → Course S → Type 0) → ((e : Entry) (c : Course S) → P e c → Grows c.handed b) → (entries : List Entry) (c : Course S) → AtOneBy (GoesHanded r) entries c P → Grows c.handed b
grows_one r b P grows [] c h = absurd h
grows_one r b P grows (e ∷ rest) c (inl h) = grows e c h
grows_one r b P grows (e ∷ rest) c (inr (n, s, h)) = grows_on c.handed n.handed b (grows_handed c.handed n.handed e.name _ s) (grows_one r b P grows rest n h)

grows_at : {S B K : Type 0} (r : Reading S B K) (b : List Handed) (stop : K) (e : Entry) (c : Course S) → StopsAtHanded r e c b stop → Grows c.handed b
grows_at r b stop e c (inl s) = grows_shared c.handed b e.name (r.shared stop) s
grows_at r b stop e c (inr h) = grows_handed c.handed b e.name _ h

grows_later : {S B K : Type 0} (r : Reading S B K) (b : List Handed) (stop : K) (m : Manifest) (c : List Handed) → StopsLaterHanded r c b m stop → Grows c b
grows_later r b stop m c (inl s) = grows_one r b _ (grows_at r b stop) _ _ s
grows_later r b stop m c (inr s) = grows_walk r _ _ _ s.walked

-- The relations over files of a reading: a file that is held and read is a step, and one that is not there to be read, or is held and refused, is a stop.
pub record Follows {S B K : Type 0} (r : Reading S B K) (f : Files) (Step : Entry → S → S → Type 0) (Stops : Entry → S → K → Type 0) : Type 0 where
  pub goes : (e : Entry) (x y : S) → IsHeldWith f e.name (λ bytes. r.reads e bytes x y) → Step e x y
  pub untaken : (e : Entry) (x : S) (stop : K) → IsSomeAnd (r.shared stop) (λ s. StopsTaking f e.name s) → Stops e x stop
  pub refused : (e : Entry) (x : S) (stop : K) → IsHeldWith f e.name (λ bytes. r.refuses e bytes x stop) → Stops e x stop

walks : {S B K : Type 0} (r : Reading S B K) (f : Files) (Step : Entry → S → S → Type 0) (Stops : Entry → S → K → Type 0) → Follows r f Step Stops → (entries : List Entry) (c d : Course S) → AgreeWith f c.handed d.handed → WalksBy (GoesHanded r) entries c d → WalksBy Step entries c.so_far d.so_far
walks r f Step Stops k [] c d a w = ap (λ (x : Course _). x.so_far) w
walks r f Step Stops k (e ∷ rest) c d a (n, s, w) =
    let g = grows_handed c.handed n.handed e.name _ s in
    let h = grows_walk r rest n d w in
    (n.so_far, k.goes e c.so_far n.so_far (held_with f c.handed n.handed e.name _ (agree_front f c.handed n.handed d.handed g h a) s), walks r f Step Stops k rest n d (agree_back f c.handed n.handed d.handed g h a) w)

at_one : {S B K : Type 0} (r : Reading S B K) (f : Files) (Step : Entry → S → S → Type 0) (Stops : Entry → S → K → Type 0) → Follows r f Step Stops → (b : List Handed) (P : Entry → Course S → Type 0) (Q : Entry → S → Type 0)
    → ((e : Entry) (c : Course S) → P e c → Grows c.handed b) → ((e : Entry) (c : Course S) → AgreeWith f c.handed b → P e c → Q e c.so_far)
    → (entries : List Entry) (c : Course S) → AgreeWith f c.handed b → AtOneBy (GoesHanded r) entries c P → AtOneBy Step entries c.so_far Q
at_one r f Step Stops k b P Q grows is [] c a h = absurd h
at_one r f Step Stops k b P Q grows is (e ∷ rest) c a (inl h) = inl (is e c a h)
at_one r f Step Stops k b P Q grows is (e ∷ rest) c a (inr (n, s, h)) =
    let g = grows_handed c.handed n.handed e.name _ s in
    let i = grows_one r b P grows rest n h in
    inr (n.so_far, k.goes e c.so_far n.so_far (held_with f c.handed n.handed e.name _ (agree_front f c.handed n.handed b g i a) s), at_one r f Step Stops k b P Q grows is rest n (agree_back f c.handed n.handed b g i a) h)

-- ---- The package, whatever its files are read as

-- what follows the manifest that was handed over, and grows what was handed over to b, follows the one that is held
behind : (f : Files) (a b : List Handed) → AgreeWith f a b → (name : List ℕ) (P : Manifest → List Handed → Type 0) (Q : Manifest → Type 0) → ((m : Manifest) (c : List Handed) → P m c → Grows c b) → ((m : Manifest) (c : List Handed) → AgreeWith f c b → P m c → Q m)
    → BehindManifestHanded a name P → BehindManifest f name Q
behind f a b w name P Q grows is h =
    let g = grows_handed a h.first name _ h.manifest in
    let i = grows h.listed h.first h.follows in
    record { listed = h.listed; manifest = held_with f a h.first name _ (agree_front f a h.first b g i w) h.manifest; follows = is h.listed h.first (agree_back f a h.first b g i w) h.follows }

grows_made : {S B K : Type 0} (r : Reading S B K) (a b : List Handed) (name : List ℕ) (made : B) → IsMadeHanded r a b name made → Grows a b
grows_made r a b name made h = grows_on a h.first b (grows_handed a h.first name _ h.manifest) (grows_walk r _ _ _ h.follows.walked)

module _ {S B K : Type 0} (r : Reading S B K) (f : Files) (Step : Entry → S → S → Type 0) (Stops : Entry → S → K → Type 0) (k : Follows r f Step Stops) (a b : List Handed) (w : AgreeWith f a b) where
  pub made_of : (name : List ℕ) (made : B) → IsMadeHanded r a b name made → BehindManifest f name (λ m. (end : S) × WalksBy Step (r.order m) (r.start m.layers) end × r.makes end made)
  made_of name made h =
      behind f a b w name _ (λ m. (end : S) × WalksBy Step (r.order m) (r.start m.layers) end × r.makes end made)
      (λ m c p. grows_walk r _ _ _ p.walked) (λ m c v p. (p.end, walks r f Step Stops k _ _ _ v p.walked, p.good)) h

  later : (stop : K) (m : Manifest) (c : List Handed) → AgreeWith f c b → StopsLaterHanded r c b m stop
      → AtOneBy Step (r.order m) (r.start m.layers) (λ e x. Stops e x stop) ⊎ ((end : S) × WalksBy Step (r.order m) (r.start m.layers) end × r.ends end stop)
  later stop m c v (inl s) = inl (at_one r f Step Stops k b _ (λ e x. Stops e x stop) (grows_at r b stop) (λ e d u h. at e d u h) _ _ v s)
    where
      at : (e : Entry) (d : Course S) → AgreeWith f d.handed b → StopsAtHanded r e d b stop → Stops e d.so_far stop
      at e d u (inl h) = k.untaken e d.so_far stop (shared_as (r.shared stop) _ _ (λ x s. untaken f d.handed b e.name x u s) h)
      at e d u (inr h) = k.refused e d.so_far stop (held_with f d.handed b e.name _ u h)
  later stop m c v (inr s) = inr (s.end, walks r f Step Stops k _ _ _ v s.walked, s.good)

  pub stop_of : (name : List ℕ) (stop : K) → IsStopHanded r a b name stop
      → IsSomeAnd (r.shared stop) (λ s. StopsAtManifest f name s) ⊎ BehindManifest f name (λ m. AtOneBy Step (r.order m) (r.start m.layers) (λ e x. Stops e x stop) ⊎ ((end : S) × WalksBy Step (r.order m) (r.start m.layers) end × r.ends end stop))
  stop_of name stop (inl s) = inl (shared_as (r.shared stop) _ _ (λ x h. manifest_stop f a b name x w h) s)
  stop_of name stop (inr h) =
      inr (behind f a b w name _ (λ m. AtOneBy Step (r.order m) (r.start m.layers) (λ e x. Stops e x stop) ⊎ ((end : S) × WalksBy Step (r.order m) (r.start m.layers) end × r.ends end stop)) (λ m c p. grows_later r b stop m c p) (λ m c v p. later stop m c v p) h)

  pub comes_of : (name other : List ℕ) → IsNextHanded r a b name other → (other ≡ name) ⊎ BehindManifest f name (λ m. AtOneBy Step (r.order m) (r.start m.layers) (λ e x. e.name ≡ other))
  comes_of name other (inl h) = inl h.0
  comes_of name other (inr h) =
      inr (behind f a b w name _ (λ m. AtOneBy Step (r.order m) (r.start m.layers) (λ e x. e.name ≡ other))
      (λ m c p. grows_one r b (λ e d. ComesNext d.handed b e.name other) (λ e d n. grows_none d.handed b n.1) _ _ p)
      (λ m c v p. at_one r f Step Stops k b (λ e d. ComesNext d.handed b e.name other) (λ e x. e.name ≡ other) (λ e d n. grows_none d.handed b n.1) (λ e d u n. sym n.0) _ _ v p) h)

-- ---- A board

untaken_at : (f : Files) (e : Entry) (x : PlainBoard) (stop : Stop) → StopsTaking f e.name stop → StopsAt f e x stop
untaken_at f e x (refused other why) s = absurd s
untaken_at f e x other s = s

refused_at : (f : Files) (e : Entry) (x : PlainBoard) (stop : Stop) → IsHeldWith f e.name (λ bytes. RefusesFile e bytes x stop) → StopsAt f e x stop
refused_at f e x (refused other why) h = (h.good.0, record { bytes = h.bytes; held = h.held; good = h.good.1 })
refused_at f e x other h = absurd h.good

follows : (f : Files) → Follows as_board f (Goes f) (λ e x stop. StopsAt f e x stop)
follows f = record { goes = λ e x y h. record { bytes = h.bytes; held = h.held; read = h.good }; untaken = λ e x stop s. untaken_at f e x stop s; refused = λ e x stop h. refused_at f e x stop h }

-- ---- By labels

untaken_labelled : (f : Files) (e : Entry) (x : Labelled) (stop : LabelledStop) → IsSomeAnd (built_of stop) (λ s. StopsTaking f e.name s) → StopsLabelledAt ByLabels f e x stop
untaken_labelled f e x (unbuilt stop) s = untaken_at f e x.board stop s
untaken_labelled f e x (mislabelled name command at) s = absurd s

refused_labelled : (f : Files) (e : Entry) (x : Labelled) (stop : LabelledStop) → IsHeldWith f e.name (λ bytes. RefusesLabelled ByLabels e bytes x stop) → StopsLabelledAt ByLabels f e x stop
refused_labelled f e x (unbuilt stop) h = refused_at f e x.board stop h
refused_labelled f e x (mislabelled name command at) h = (h.good.0, record { after = h.good.1.0; goes = record { bytes = h.bytes; held = h.held; read = h.good.1.1 }; amiss = h.good.2 })

follows_labelled : (f : Files) → Follows (as_labelled ByLabels) f (GoesLabelled ByLabels f) (λ e x stop. StopsLabelledAt ByLabels f e x stop)
follows_labelled f = record {
  goes = λ e x y h. record { goes = record { bytes = h.bytes; held = h.held; read = h.good.0 }; lists = h.good.1 };
  untaken = λ e x stop s. untaken_labelled f e x stop s;
  refused = λ e x stop h. refused_labelled f e x stop h;
}

manifest_labelled : (P : Stop → Type 0) (stop : LabelledStop) → IsSomeAnd (built_of stop) P → OfBuild P stop
manifest_labelled P (unbuilt stop) s = s
manifest_labelled P (mislabelled name command at) s = absurd s

-- ---- The law

pub behind_as : (f : Files) (name : List ℕ) (P Q : Manifest → Type 0) → ((m : Manifest) → P m → Q m) → BehindManifest f name P → BehindManifest f name Q
behind_as f name P Q k h = record { listed = h.listed; manifest = h.manifest; follows = k h.listed h.follows }

first_stop : (f : Files) (name : List ℕ) (stop : Stop) → StopsAtManifest f name stop ⊎ BehindManifest f name (λ m. StopsAmong f (order_of m) (empty_board m.layers) stop ⊎ ((end : PlainBoard) × Walks f (order_of m) (empty_board m.layers) end × StopsAtFrame end stop)) → IsFirstStop f name stop
first_stop f name stop (inl s) = inl s
first_stop f name stop (inr h) = inr (behind_as f name _ (λ m. StopsLater f m stop) later_of h)
  where
    later_of : (m : Manifest) → StopsAmong f (order_of m) (empty_board m.layers) stop ⊎ ((end : PlainBoard) × Walks f (order_of m) (empty_board m.layers) end × StopsAtFrame end stop) → StopsLater f m stop
    later_of m (inl s) = inl s
    later_of m (inr (end, walked, frame)) = inr (record { board = end; walked = walked; frame = frame })

first_labelled_stop : (f : Files) (name : List ℕ) (stop : LabelledStop) → IsSomeAnd (built_of stop) (λ s. StopsAtManifest f name s) ⊎ BehindManifest f name (λ m. StopsLabelledAmong ByLabels f (labelled_order m) (nothing_labelled m.layers) stop ⊎ ((end : Labelled) × WalksBy (GoesLabelled ByLabels f) (labelled_order m) (nothing_labelled m.layers) end × OfBuild (StopsAtFrame end.board) stop)) → IsFirstLabelledStop f name stop
first_labelled_stop f name stop (inl s) = inl (manifest_labelled (λ s. StopsAtManifest f name s) stop s)
first_labelled_stop f name stop (inr h) = inr (behind_as f name _ (λ m. StopsLabelledLater f m stop) later_of h)
  where
    later_of : (m : Manifest) → StopsLabelledAmong ByLabels f (labelled_order m) (nothing_labelled m.layers) stop ⊎ ((end : Labelled) × WalksBy (GoesLabelled ByLabels f) (labelled_order m) (nothing_labelled m.layers) end × OfBuild (StopsAtFrame end.board) stop) → StopsLabelledLater f m stop
    later_of m (inl s) = inl s
    later_of m (inr (end, walked, frame)) = inr (record { end = end; walked = walked; frame = frame })

module _ (f : Files) (a b : List Handed) (w : AgreeWith f a b) (name : List ℕ) where
  board_is : (board : PlainBoard) → IsBoardHanded a b name board → IsBoardOf f name board
  board_is board h =
      let k = made_of as_board f (Goes f) (λ e x stop. StopsAt f e x stop) (follows f) a b w name board h in
      let is = sym k.follows.2.0 in
      record {
        listed = k.listed;
        manifest = k.manifest;
        walked = subst (λ x. Walks f (order_of k.listed) (empty_board k.listed.layers) x) is k.follows.1;
        frame = subst (λ (x : PlainBoard). Fits (common_box x.pieces)) is k.follows.2.1;
      }

  labelled_is : (board : PlainBoard) → IsLabelledBoardHanded a b name board → IsLabelledBoardOf f name board
  labelled_is board h =
      let k = made_of (as_labelled ByLabels) f (GoesLabelled ByLabels f) (λ e x stop. StopsLabelledAt ByLabels f e x stop) (follows_labelled f) a b w name board h in
      record { listed = k.listed; manifest = k.manifest; end = k.follows.0; walked = k.follows.1; frame = k.follows.2.1; is = k.follows.2.0 }

  holds : HoldsWhatWasHanded f a b name
  holds = record {
    held = λ bytes h. held f a b name bytes w h;
    untaken = λ stop s. untaken f a b name stop w s;
    board = λ board h. board_is board h;
    stop = λ stop s. first_stop f name stop (stop_of as_board f (Goes f) (λ e x stop. StopsAt f e x stop) (follows f) a b w name stop s);
    comes = λ other h. comes_of as_board f (Goes f) (λ e x stop. StopsAt f e x stop) (follows f) a b w name other h;
    labelled = λ board h. labelled_is board h;
    labelled_stop = λ stop s. first_labelled_stop f name stop (stop_of (as_labelled ByLabels) f (GoesLabelled ByLabels f) (λ e x stop. StopsLabelledAt ByLabels f e x stop) (follows_labelled f) a b w name stop s);
    labelled_comes = λ other h. comes_of (as_labelled ByLabels) f (GoesLabelled ByLabels f) (λ e x stop. StopsLabelledAt ByLabels f e x stop) (follows_labelled f) a b w name other h;
  }

pub handed_is_held : HandedIsHeld
handed_is_held = record { holds = λ f a b name w. holds f a b w name; grows = λ a b name board h. grows_made as_board a b name board h }
