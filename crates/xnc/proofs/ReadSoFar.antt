-- How far a file is read.
use Rattle.std.proofs.Common.{◌≡◌, ℕ, ◌+◌, List, [], ◌∷◌, length, Result, Ok, Err, IsOk, refl, sym, ap, ◌∙◌, subst}
use mathlib.Core.Path.{fun_ext}
use Rattle.std.proofs.lemmas.List.{length-map}
use Rattle.std.specs.Prelude.{IfOk, IfErr}
use Rattle.board_shapes.specs.Plain.{plain_pieces}
use Rattle.board_shapes.specs.declared.placed.Placed.{Placed}
use Rattle.board_shapes.specs.declared.shape.Shape.{Shape}
use Rattle.file_reading.specs.Reading.{Item, IsReadTo, said}
use Rattle.file_reading.proofs.Turning.{read-start, read-more}
use Rattle.texts.specs.Lines.{Ahead, PlainLine, lines_from, start}
use Rattle.xnc.specs.declared.line.DrillLine.{DrillLine}
use Rattle.xnc.specs.declared.line.DrillLine.TheVariants as form
use Rattle.xnc.specs.declared.kind.DrillKind.{DrillKind}
use Rattle.xnc.specs.declared.kind.DrillFault.{DrillFault}
use Rattle.file_reading.specs.declared.halt.Halt.{Halt}
use Rattle.file_reading.specs.declared.halt.Halt.TheVariants as halt
use Rattle.xnc.specs.declared.reader.Reader.{Reader}
use Rattle.xnc.specs.Places.{Place}
use Rattle.xnc.specs.DrillEffects.{Known, Effect, effect}
use Rattle.xnc.specs.Settings.{settings_at, defined_at, effect_at, barrels_at}
use Rattle.xnc.specs.DrillFile.{item_of, items, items_with, IsRead, IsFault}
use Rattle.xnc.specs.Reader.{known_of, defined_in, count_of, Obeys, IsNew, Halts, fault_at, Leaves, Faults}
use Rattle.xnc.proofs.Bridge.{State, state-push, same_known}

-- the file is read to the lines ahead, and the reader knows what looking back finds
pub record ReadSoFar (file : List ℕ) (p : Place) (a : Ahead) (r : Reader) : Type 0 where
  pub earlier : List (Item DrillLine)
  pub read : IsReadTo (effect_at p) (items p file) earlier (items_with p (length file) (lines_from a))
  pub state : State p (said earlier) r

pub nothing-read : (file : List ℕ) (p : Place) (r : Reader) → IsNew p r → ReadSoFar file p (start file) r
unfolding barrels_at
nothing-read file p r n = record {
  earlier = [];
  read = read-start (effect_at p) (items p file);
  state = record {
    known = same_known r.settings (settings_at []) (defined_in r.tools) (defined_at []) (count_of r.tools) 0 (length r.pieces.items) 0 r.room p.room n.settings (fun_ext n.defined) n.count (ap length n.pieces) (ap (λ (q : Place). q.room) n.place);
    pieces = ap plain_pieces n.pieces;
    counts = n.counts;
    place = n.place;
  };
}

pub is_ok : (k k' : Known) (f : DrillLine) (e : Effect) → k ≡ k' → effect k f ≡ Ok e → IsOk (effect k' f)
is_ok k k' f e same h = let g : effect k' f ≡ Ok e = subst (λ (t : Known). effect t f ≡ Ok e) same h in rw g refl

-- what lies ahead are these lines
ahead_is : (file : List ℕ) (p : Place) (a : Ahead) (r : Reader) (lines : List PlainLine) → (s : ReadSoFar file p a r) → lines_from a ≡ lines → IsReadTo (effect_at p) (items p file) s.earlier (items_with p (length file) lines)
ahead_is file p a r lines s is = subst (λ (ls : List PlainLine). IsReadTo (effect_at p) (items p file) s.earlier (items_with p (length file) ls)) is s.read

-- an item that was obeyed
item-read : (file : List ℕ) (p : Place) (earlier rest : List (Item DrillLine)) (item : Item DrillLine) (r r' : Reader) → IsReadTo (effect_at p) (items p file) earlier (item ∷ rest) → State p (said earlier) r → Obeys r item.says r' → IsReadTo (effect_at p) (items p file) (item ∷ earlier) rest
item-read file p earlier rest item r r' read state o = read-more (effect_at p) (items p file) earlier rest item read (is_ok (known_of r) _ item.says o.effect_is state.known o.clean)

-- a line that was obeyed
pub line-read : (file : List ℕ) (p : Place) (old new : Ahead) (line : PlainLine) (r r' : Reader) → ReadSoFar file p old r → lines_from old ≡ line ∷ lines_from new → Obeys r (item_of p line).says r' → ReadSoFar file p new r'
line-read file p old new line r r' s next o = record {
  earlier = item_of p line ∷ s.earlier;
  read = item-read file p s.earlier (items_with p (length file) (lines_from new)) (item_of p line) r r' (ahead_is file p old r (line ∷ lines_from new) s next) s.state o;
  state = state-push p (said s.earlier) r (item_of p line).says r' s.state o;
}

-- the fault of an item at which the reader stops is the file's
item-fault : (file : List ℕ) (p : Place) (earlier later : List (Item DrillLine)) (item : Item DrillLine) (r : Reader) (why : DrillFault) → IsReadTo (effect_at p) (items p file) earlier (item ∷ later) → State p (said earlier) r → Faults r item.says item.at why → IsFault file p why
item-fault file p earlier later item r why read state f = rw f.is (halted f.halt f.halts)
  where
    halted : (h : Halt DrillKind) → Halts (known_of r) item.says h → IsFault file p (fault_at h (r.lines + 1) item.at)
    halted (halt.Fault kind) is = record {
      earlier = earlier;
      item = item;
      later = later;
      first = read;
      is = subst (λ (k : Known). effect k item.says ≡ Err kind) state.known is;
      counts = ap (λ (k : ℕ). k + 1) (state.counts ∙ length-map earlier (λ i. i.says));
      at = refl;
    }
    halted halt.NoMemory is = tt

pub line-fault : (file : List ℕ) (p : Place) (old new : Ahead) (line : PlainLine) (r : Reader) (why : DrillFault) → ReadSoFar file p old r → lines_from old ≡ line ∷ lines_from new → Faults r (item_of p line).says line.at why → IsFault file p why
line-fault file p old new line r why s next f = item-fault file p s.earlier (items_with p (length file) (lines_from new)) (item_of p line) r why (ahead_is file p old r (line ∷ lines_from new) s next) s.state f

-- the file's end
abbrev last_item : List ℕ → Item DrillLine
last_item file = record { says = form.Finish; at = length file }

end-obeyed : (file : List ℕ) (p : Place) (a : Ahead) (r r' : Reader) → ReadSoFar file p a r → lines_from a ≡ [] → Obeys r form.Finish r' → IsRead file p (plain_pieces r'.pieces.items)
end-obeyed file p a r r' s none o =
    let last = state-push p (said s.earlier) r form.Finish r' s.state o in
    record {
      earlier = last_item file ∷ s.earlier;
      whole = item-read file p s.earlier [] (last_item file) r r' (ahead_is file p a r [] s none) s.state o;
      is = last.pieces;
    }

-- the answer at the file's end
pub end-read : {V : Type 0} (items : V → List (Placed Shape)) (result : Result V DrillFault) (file : List ℕ) (p : Place) (a : Ahead) (r : Reader) → ReadSoFar file p a r → lines_from a ≡ [] → IfOk result (λ v. Leaves r form.Finish (items v)) → IfOk result (λ v. IsRead file p (plain_pieces (items v)))
end-read items (Ok v) file p a r s none h = let e = end-obeyed file p a r h.last s none h.obeys in subst (λ (t : List (Placed Shape)). IsRead file p (plain_pieces t)) (sym h.are) e
end-read items (Err e) file p a r s none h = tt

pub end-fault : {V : Type 0} (result : Result V DrillFault) (file : List ℕ) (p : Place) (a : Ahead) (r : Reader) → ReadSoFar file p a r → lines_from a ≡ [] → IfErr result (Faults r form.Finish (length file)) → IfErr result (IsFault file p)
end-fault (Ok v) file p a r s none h = tt
end-fault (Err e) file p a r s none f = item-fault file p s.earlier [] (last_item file) r e (ahead_is file p a r [] s none) s.state f
