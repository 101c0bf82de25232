-- A copper file that is cut off and read has the labels of the whole file: behind its end word no other may stand.
use Rattle.std.proofs.Common.{◌≡◌, ℕ, nat_le, Bool, true, false, not, ◌&&◌, ◌||◌, ◌==◌, cond, is_none, codes, List, [], ◌∷◌, ◌++◌, length, map, take, reverse, Option, Some, None, Ok, Err, IsOk, refl, sym, ap, subst, ◌∙◌, append-nil, append_assoc}
use Rattle.std.proofs.lemmas.List.{map-append, reverse-reverse}
use Rattle.indexmap.proofs.ReorderLemmas.{map-reverse}
use Rattle.board_shapes.specs.Pieces.{PlainPiece}
use Rattle.file_reading.proofs.Ending.{CleanOn, clean_behind, read_clean}
use Rattle.file_reading.specs.Reading.{Clean, Item, said}
use Rattle.gerber_layer.proofs.Outcome.{not_ok}
use Rattle.gerber_reading.specs.Command.{Command, refused}
use Rattle.gerber_layer.specs.Image.{effect_before, known_before, pieces_of}
use Rattle.gerber_layer.specs.Layer as layer_file
use Rattle.gerber_layer.specs.Layer.{stop_command}
use Rattle.gerber_layer.specs.WordCommands.{are_offsets, by_kind, code_in, coded, command_of, else_by, extended, format_of, format_word, from_i, from_x, is_arc, is_empty, is_idle, is_last, is_neutral, is_number_if, named, operation, operation_of, plain, said_by, selected, selection, selects_or}
use Rattle.gerber_reading.specs.Settings.{has_ended}
use Rattle.gerber_layer.specs.CommandEffects.{Effect, Known, effect, is_finish, kind_of_word, row, stays}
use Rattle.gerber_reading.specs.declared.place.Place.{Place}
use Rattle.gerber_reading.specs.declared.kind.GerberKind.{GerberKind}
use Rattle.gerber_reading.specs.declared.kind.GerberKind.TheVariants as kind
use Rattle.gerber_words.specs.Attributes.{PlainAttribute, attribute_of, field_of, is_field}
use Rattle.gerber_words.specs.Items.{items_with}
use Rattle.gerber_words.specs.Laws.{HasFirstWords, HasOneReadingAhead}
use Rattle.gerber_words.specs.Words.{Ahead, Entry, HasWords, Stop, broken, ended, start}
use Rattle.gerber_words.specs.declared.attribute.AttributeKind.{AttributeKind}
use Rattle.gerber_words.specs.declared.attribute.AttributeKind.TheVariants.{File, Aperture, Object, Delete}
use Rattle.texts.specs.Words.{begins, is_word}
use Rattle.x2_nets.specs.Labels as labels_file
use Rattle.x2_nets.specs.Labels.{Said, judged_after, labels_of, said_of, stop_says}
use Rattle.x2_nets.specs.declared.label_table.Label.{Label}

-- ---- No word is the file's end

record NoEnd (c : Command) : Type 0 where
  is : is_finish c ≡ false

neither : (b : Bool) (c d : Command) → NoEnd c → NoEnd d → NoEnd (cond b c d)
neither true c d p q = p
neither false c d p q = q

refuses : (why : GerberKind) → NoEnd (refused why)
refuses why = record { is = refl }

of_operation : (x y : Option (List ℕ)) (offsets text : List ℕ) → NoEnd (operation_of x y offsets text)
unfolding operation_of
of_operation x y offsets text =
    neither (not (is_number_if x && is_number_if y)) _ _ (refuses _) (neither (not (are_offsets offsets)) _ _ (refuses _) (neither (not (is_empty text) && is_none (code_in text)) _ _ (refuses _)
    (neither (is_empty text && (is_none x && is_none y)) _ _ (refuses _) (neither (not (is_empty offsets)) _ _ (refuses _) (record { is = refl })))))

of_coded : (text : List ℕ) → NoEnd (coded text)
unfolding coded operation from_x from_i
of_coded text = or (selected (selection text)) (operation text) (of_operation _ _ _ _)
  where
    or : (o : Option ℕ) (c : Command) → NoEnd c → NoEnd (selects_or o c)
    or None c p = p
    or (Some n) c p = record { is = refl }

of_plain : (text : List ℕ) → NoEnd (plain text)
unfolding plain
of_plain text =
    neither (is_idle text) _ _ (record { is = refl }) (neither (is_arc text) _ _ (refuses _) (neither (is_word text (codes "G91")) _ _ (refuses _) (neither (is_word text (codes "G70")) _ _ (record { is = refl }) (neither (is_word text (codes "G71")) _ _ (record { is = refl })
    (neither (is_word text (codes "G36")) _ _ (record { is = refl }) (neither (is_word text (codes "G37")) _ _ (record { is = refl }) (neither (is_last text) _ _ (record { is = refl }) (of_coded text))))))))

of_format : (text : List ℕ) → NoEnd (format_of text)
unfolding format_of
of_format [] = record { is = refl }
of_format (a ∷ []) = record { is = refl }
of_format (a ∷ b ∷ []) = record { is = refl }
of_format (a ∷ b ∷ c ∷ []) = record { is = refl }
of_format (a ∷ b ∷ c ∷ d ∷ []) = record { is = refl }
of_format (i ∷ d ∷ y ∷ j ∷ e ∷ []) = neither ((y == 89 && (i == j && d == e)) && ((nat_le 49 i && nat_le i 54) && (nat_le 50 d && nat_le d 55))) _ _ (record { is = refl }) (refuses _)
of_format (a ∷ b ∷ c ∷ d ∷ e ∷ f ∷ text) = record { is = refl }

of_extended : (text : List ℕ) → NoEnd (extended text)
unfolding extended format_word
of_extended text =
    neither (begins text (codes "FS")) _ _ (neither (begins text (codes "FSLI") || begins text (codes "FSTI")) _ _ (refuses _) (neither (begins text (codes "FSLAX")) _ _ (of_format _) (refuses _)))
    (neither (begins text (codes "AD")) _ _ (record { is = refl }) (neither (is_word text (codes "MOMM")) _ _ (record { is = refl }) (neither (is_word text (codes "MOIN")) _ _ (record { is = refl })
    (neither (begins text (codes "SR")) _ _ (record { is = refl }) (neither (is_neutral text) _ _ (record { is = refl }) (refuses _))))))

-- what an attribute says, if it says something
record NoEndIf (o : Option Command) : Type 0 where
  is : (c : Command) → o ≡ Some c → is_finish c ≡ false

nor : (b : Bool) (o p : Option Command) → NoEndIf o → NoEndIf p → NoEndIf (cond b o p)
nor true o p x y = x
nor false o p x y = y

none : NoEndIf None
none = record { is = λ c e. absurd (cc) }

some : (d : Command) → NoEnd d → NoEndIf (Some d)
some d x = record { is = λ c e. let same : d ≡ c = cc in subst (λ (z : Command). is_finish z ≡ false) same x.is }

of_attribute : (o : Option PlainAttribute) → NoEndIf (said_by o)
unfolding named
of_attribute None = none
of_attribute (Some a) = by a.kind
  where
    by : (k : AttributeKind) → NoEndIf (by_kind k a.text)
    by File = nor (is_field (field_of a.text 0) (codes ".FileFunction")) _ _ (some _ (record { is = refl }))
        (nor (is_field (field_of a.text 0) (codes ".FilePolarity")) _ _ (some _ (neither (is_field (field_of a.text 1) (codes "Negative")) _ _ (refuses _) (record { is = refl }))) none)
    by Aperture = none
    by Object = none
    by Delete = none

no_word : (w : Entry) → NoEnd (command_of w)
unfolding command_of
no_word w = neither w.extended _ _ (or (said_by (attribute_of w)) (extended w.text) (of_attribute _) (of_extended w.text)) (of_plain w.text)
  where
    or : (o : Option Command) (c : Command) → NoEndIf o → NoEnd c → NoEnd (else_by o c)
    or None c p q = q
    or (Some d) c p q = record { is = p.is d refl }

-- ---- Behind the end word

-- nothing but the file's end may stand there
only_finish : (k : Known) (c : Command) → k.settings.ended ≡ true → IsOk (effect k c) → is_finish c ≡ true
unfolding effect
only_finish k c h ok = by k.settings.ended (is_finish c) h ok
  where
    by : (b f : Bool) → b ≡ true → IsOk (cond b (cond f (Ok stays) (Err kind.AfterEnd)) (row k c)) → f ≡ true
    by true true e fine = refl
    by true false e fine = absurd (not_ok Effect kind.AfterEnd fine)
    by false f e fine = absurd (cc)

-- a stop without a fault is the proper end behind an end word
record EndsWell (k : Known) (stop : Stop) : Type 0 where
  is : stop ≡ ended
  behind : k.settings.ended ≡ true

ends_well : (k : Known) (stop : Stop) → IsOk (effect k (stop_command stop)) → EndsWell k stop
unfolding effect row
ends_well k ended ok = by k.settings.ended refl ok
  where
    by : (b : Bool) → k.settings.ended ≡ b → IsOk {T = Effect} (cond b (Ok stays) (Err kind.NotEnded)) → EndsWell k ended
    by true e fine = record { is = refl; behind = e }
    by false e fine = absurd (not_ok Effect kind.NotEnded fine)
ends_well k (broken fault at) ok = absurd (by k.settings.ended ok)
  where
    by : (b : Bool) → IsOk {T = Effect} (cond b (Err kind.AfterEnd) (Err (kind_of_word fault))) → ⊥
    by true fine = not_ok Effect kind.AfterEnd fine
    by false fine = not_ok Effect (kind_of_word fault) fine

said_items : {A : Type 0} (reads : Entry → A) (conclude : Stop → A) (size : ℕ) (words : List Entry) (stop : Stop) → said (items_with reads conclude size words stop) ≡ map reads words ++ conclude stop ∷ []
said_items reads conclude size [] stop = refl
said_items {A = A} reads conclude size (w ∷ words) stop = ap (λ (xs : List A). reads w ∷ xs) (said_items reads conclude size words stop)

-- the commands of words, the last first
abbrev behind : List Entry → List Command
behind words = reverse (map command_of words) ++ []

-- the words of a file that is read: they end well, and all their commands are clean
record Read (file : List ℕ) (p : Place) : Type 0 where
  words : List Entry
  cut : HasWords (start file) words ended
  clean : CleanOn (effect_before p) [] (map command_of words ++ stop_command ended ∷ [])
  done : has_ended (behind words) ≡ true

as_read : (file : List ℕ) (p : Place) (pieces : List PlainPiece) → layer_file.IsRead file p pieces → Read file p
as_read file p pieces r =
    let are = r.1 in
    let clean : CleanOn (effect_before p) [] (map command_of are.words ++ stop_command are.stop ∷ []) =
    subst (CleanOn (effect_before p) []) (ap said are.are ∙ said_items command_of stop_command (length file) are.words are.stop) (read_clean (effect_before p) (pieces_of p) r.0 pieces r.2) in
    let last = clean_behind (effect_before p) [] (map command_of are.words) (stop_command are.stop ∷ []) clean in
    let well = ends_well (known_before p (behind are.words)) are.stop last.0 in
    record {
      words = are.words;
      cut = subst (λ (stop : Stop). HasWords (start file) are.words stop) well.is are.cut;
      clean = subst (λ (stop : Stop). CleanOn (effect_before p) [] (map command_of are.words ++ stop_command stop ∷ [])) well.is clean;
      done = well.behind;
    }

abbrev pub HaveOneReading : Type 0
HaveOneReading = (a : Ahead) → HasOneReadingAhead a

abbrev pub HaveFirstWords : Type 0
HaveFirstWords = (file : List ℕ) (words : List Entry) (n : ℕ) → HasWords (start file) words ended → HasFirstWords file words n

-- no words stand behind those of a prefix that is read
none_behind : (p : Place) (front back : List Entry) → has_ended (behind front) ≡ true → CleanOn (effect_before p) [] (map command_of (front ++ back) ++ stop_command ended ∷ []) → front ++ back ≡ front
none_behind p front [] done clean = append-nil front
none_behind p front (w ∷ back) done clean =
    let parts : map command_of (front ++ w ∷ back) ++ stop_command ended ∷ [] ≡ map command_of front ++ (command_of w ∷ (map command_of back ++ stop_command ended ∷ [])) =
    ap (λ (cs : List Command). cs ++ stop_command ended ∷ []) (map-append command_of front (w ∷ back)) ∙ append_assoc (map command_of front) (map command_of (w ∷ back)) (stop_command ended ∷ []) in
    let on = clean_behind (effect_before p) [] (map command_of front) (command_of w ∷ (map command_of back ++ stop_command ended ∷ [])) (subst (CleanOn (effect_before p) []) parts clean) in
    let last : is_finish (command_of w) ≡ true = only_finish (known_before p (behind front)) (command_of w) done on.0 in
    absurd (let e = (no_word w).is in cc (last, e))

-- so a prefix that is read has all the words
same_words : HaveOneReading → HaveFirstWords → (file : List ℕ) (p : Place) (pieces others : List PlainPiece) (n : ℕ) → layer_file.IsRead file p pieces → layer_file.IsRead (take n file) p others → (words : List Entry) × HasWords (start file) words ended × HasWords (start (take n file)) words ended
same_words one firsts file p pieces others n read part =
    let r = as_read file p pieces read in
    let q = as_read (take n file) p others part in
    let h = firsts file r.words n r.cut in
    let same : h.front ≡ q.words = ((one (start (take n file))).only h.front h.stop h.is).0 ∙ sym ((one (start (take n file))).only q.words ended q.cut).0 in
    let done : has_ended (behind h.front) ≡ true = subst (λ (ws : List Entry). has_ended (behind ws) ≡ true) (sym same) q.done in
    let whole : h.front ++ h.back ≡ h.front = none_behind p h.front h.back done (subst (λ (ws : List Entry). CleanOn (effect_before p) [] (map command_of ws ++ stop_command ended ∷ [])) h.split r.clean) in
    (q.words, subst (λ (ws : List Entry). HasWords (start file) ws ended) (h.split ∙ whole ∙ same) r.cut, q.cut)

-- ---- Its labels

pub labels_of_prefix : HaveOneReading → HaveFirstWords → (file : List ℕ) (p : Place) (pieces others : List PlainPiece) (n : ℕ) (labels : List Label) → layer_file.IsRead file p pieces → layer_file.IsRead (take n file) p others → labels_file.IsRead file labels → labels_file.IsRead (take n file) labels
labels_of_prefix one firsts file p pieces others n labels read part x =
    let w = same_words one firsts file p pieces others n read part in
    let are = x.1 in
    let items = items_with said_of stop_says (length (take n file)) w.0 ended in
    let same : are.words ≡ w.0 = ((one (start file)).only are.words are.stop are.cut).0 ∙ sym ((one (start file)).only w.0 ended w.1).0 in
    let alike : said x.0 ≡ said items =
    ap said are.are ∙ said_items said_of stop_says (length file) are.words are.stop ∙ ap (λ (ws : List Entry). map said_of ws ++ stop_says ended ∷ []) same ∙ sym (said_items said_of stop_says (length (take n file)) w.0 ended) in
    let back : x.2.earlier ≡ reverse x.0 = sym (reverse-reverse x.2.earlier) ∙ ap reverse (sym (append-nil (reverse x.2.earlier)) ∙ sym x.2.whole.split) in
    let says : Item Said → Said = λ i. i.says in
    let history : said x.2.earlier ≡ said (reverse items) = ap said back ∙ map-reverse says x.0 ∙ ap reverse alike ∙ sym (map-reverse says items) in (
      items,
      record { words = w.0; stop = ended; cut = w.2; are = refl },
      record {
        earlier = reverse items;
        whole = record { split = sym (append-nil (reverse (reverse items)) ∙ reverse-reverse items); clean = subst (Clean judged_after) history x.2.whole.clean };
        is = x.2.is ∙ ap labels_of history;
      },
    )
