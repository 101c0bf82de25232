-- The text of a JSON object has no prefix that is read as another value: without its closing brace none is read, and behind it stand only spaces.
use Rattle.std.proofs.Common.{◌≡◌, ℕ, zero, suc, ◌+◌, ◌⊎◌, inl, inr, Bool, true, false, cond, ◌||◌, ◌&&◌, ◌==◌, nat_eq, nat_lt, List, [], ◌∷◌, ◌++◌, length, take, drop, Option, Some, None, option_map, option_and_then, ◌-◌, refl, sym, ap, ◌∙◌, subst, arith}
use Rattle.json.specs.Token.{Token}
use Rattle.json.specs.Json as json
use Rattle.json.specs.Json.{Json, Items, Members, Parse, items, members, value_with, value, if_last}
use Rattle.json.specs.Lex.{Lexeme, token, comma, colon, Class, quote, backslash, operator, space, other, class, operator_lexeme, string_token, Mode, between, in_word, in_string, in_escape, lex_byte, lex, fresh, punctuate, tokens}
use Rattle.json.specs.Text.{Within, plain, after_backslash, after_u, after_high, content, prepend, code_unit, short_escape, is_high_surrogate, is_low_surrogate, surrogate_pair}
use Rattle.json.specs.Word.{is_operator, is_space, head, ends_word, after_digits, after_minus, after_sign, after_whole, after_fraction, after_exponent, after_number, number_before, literal, word}
use Rattle.json.specs.Ascii as ascii
use Rattle.std.specs.Char.{is_ascii_digit, encode_utf8}
use Rattle.std.specs.List.{prefix_len, starts_with}
use Rattle.std.specs.Cmp.Lexicographic.{pointwise}
use Rattle.std.proofs.lemmas.Bool.{eqb-true}
use Rattle.std.proofs.lemmas.Bool.Decides.{Decides-eqb}
use Rattle.std.proofs.lemmas.List.{length-append, take-append-le, drop-append-le}
use Rattle.std.proofs.lemmas.List.Sums.{prefix_len-le-length}
use Rattle.std.proofs.lemmas.Slice.Eq.{starts_is}
use Rattle.serde_json.specs.Read.{read, of_json, number_of, of_items, max_depth}
use Rattle.serde_json.specs.Data as seen
use Rattle.board_package.proofs.JsonBrackets.{on, begins_open, lexeme_step, none_some, same_some, AllGood, byte, walk_bytes, walk_longer, Step, opens, closes, passes, fails, step, Whole, whole_of}

-- ---- Spaces behind a text

abbrev Spaces : List ℕ → Type 0
Spaces [] = Unit {0}
Spaces (x ∷ xs) = (class x ≡ space) × Spaces xs

only_spaces : (xs : List ℕ) → lex between xs ≡ [] → Spaces xs
unfolding lex
only_spaces [] e = tt
only_spaces (x ∷ xs) e = by (class x) refl (only_spaces xs) e
  where
    by : (c : Class) → class x ≡ c → (lex between xs ≡ [] → Spaces xs) → lex_byte between c x xs (λ n. lex n xs) ≡ [] → (class x ≡ space) × Spaces xs
    by quote is more e = cc
    by backslash is more e = cc
    by operator is more e = cc
    by space is more e = (is, more e)
    by other is more e = cc

no_space_lexeme : (m : Mode) (xs : List ℕ) → Spaces xs → lex m xs ≡ []
unfolding lex
no_space_lexeme m [] sp = refl
no_space_lexeme between (x ∷ xs) sp = ap (λ (c : Class). lex_byte between c x xs (λ n. lex n xs)) sp.0 ∙ no_space_lexeme between xs sp.1
no_space_lexeme in_word (x ∷ xs) sp = ap (λ (c : Class). lex_byte in_word c x xs (λ n. lex n xs)) sp.0 ∙ no_space_lexeme between xs sp.1
no_space_lexeme in_string (x ∷ xs) sp = ap (λ (c : Class). lex_byte in_string c x xs (λ n. lex n xs)) sp.0 ∙ no_space_lexeme in_string xs sp.1
no_space_lexeme in_escape (x ∷ xs) sp = no_space_lexeme in_string xs sp.1

-- the four spaces
by_spaces : (P : ℕ → Type 0) → P 32 → P 9 → P 10 → P 13 → (x : ℕ) → class x ≡ space → P x
by_spaces P a b c d x is = among (x == 32) (x == 9) (x == 10) (x == 13) (eqb-true x 32) (eqb-true x 9) (eqb-true x 10) (eqb-true x 13) (spaced (x == 34) (x == 92) (is_operator x) (is_space x) is)
  where
    spaced : (q b o s : Bool) → cond q quote (cond b backslash (cond o operator (cond s space other))) ≡ space → s ≡ true
    spaced true b o s e = cc
    spaced false true o s e = cc
    spaced false false true s e = cc
    spaced false false false true e = refl
    spaced false false false false e = cc

    among : (e f g h : Bool) → (e ≡ true → x ≡ 32) → (f ≡ true → x ≡ 9) → (g ≡ true → x ≡ 10) → (h ≡ true → x ≡ 13) → (e || f || g || h) ≡ true → P x
    among true f g h p q r s t = subst P (sym (p refl)) a
    among false true g h p q r s t = subst P (sym (q refl)) b
    among false false true h p q r s t = subst P (sym (r refl)) c
    among false false false true p q r s t = subst P (sym (s refl)) d
    among false false false false p q r s t = absurd (cc)

-- a byte that is no space
abbrev Ink : ℕ → Type 0
Ink c = class c ≡ space → ⊥

apart : (c s : ℕ) → Ink c → class s ≡ space → (s == c) ≡ false
apart c s ink is = by (s == c) (eqb-true s c)
  where
    by : (v : Bool) → (v ≡ true → s ≡ c) → v ≡ false
    by false same = refl
    by true same = absurd (ink (ap class (sym (same refl)) ∙ is))

apart_turned : (c s : ℕ) → Ink c → class s ≡ space → nat_eq c s ≡ false
apart_turned c s ink is = by (nat_eq c s) (eqb-true c s)
  where
    by : (v : Bool) → (v ≡ true → c ≡ s) → v ≡ false
    by false same = refl
    by true same = absurd (ink (ap class (same refl) ∙ is))

head_more : (c : ℕ) → (32 == c) ≡ false → Ink c → (t b : List ℕ) → Spaces b → (head (t ++ b) == c) ≡ (head t == c)
head_more c none ink (x ∷ t) b sp = refl
head_more c none ink [] [] sp = refl
head_more c none ink [] (s ∷ b) sp = apart c s ink sp.0 ∙ sym none

ends_more : (t b : List ℕ) → Spaces b → ends_word (t ++ b) ≡ ends_word t
ends_more (x ∷ t) b sp = refl
ends_more [] [] sp = refl
ends_more [] (s ∷ b) sp = by_spaces (λ (s : ℕ). (is_operator s || is_space s) ≡ true) refl refl refl refl s sp.0

digits_more : (t b : List ℕ) → Spaces b → prefix_len is_ascii_digit (t ++ b) ≡ prefix_len is_ascii_digit t
digits_more (x ∷ t) b sp = ap (λ (n : ℕ). cond (is_ascii_digit x) (1 + n) 0) (digits_more t b sp)
digits_more [] [] sp = refl
digits_more [] (s ∷ b) sp = ap (λ (v : Bool). cond v (1 + prefix_len is_ascii_digit b) 0) (by_spaces (λ (s : ℕ). is_ascii_digit s ≡ false) refl refl refl refl s sp.0)

-- what follows a part, with more behind
abbrev longer : List ℕ → Option (List ℕ) → Option (List ℕ)
longer b o = option_map (λ r. r ++ b) o

digits_part : (t b : List ℕ) → Spaces b → after_digits (t ++ b) ≡ longer b (after_digits t)
digits_part t b sp =
    ap (λ (n : ℕ). cond (n == 0) None (Some (drop n (t ++ b)))) (digits_more t b sp)
    ∙ ap (λ (r : List ℕ). cond (prefix_len is_ascii_digit t == 0) None (Some r)) (drop-append-le (prefix_len is_ascii_digit t) t b (prefix_len-le-length is_ascii_digit t))
    ∙ some_part (prefix_len is_ascii_digit t == 0) (drop (prefix_len is_ascii_digit t) t)
  where
    some_part : (c : Bool) (r : List ℕ) → cond c None (Some (r ++ b)) ≡ longer b (cond c None (Some r))
    some_part true r = refl
    some_part false r = refl

minus_part : (t b : List ℕ) → Spaces b → after_minus (t ++ b) ≡ after_minus t ++ b
minus_part [] b sp = ap (λ (v : Bool). cond v (drop 1 b) b) (head_more 45 refl (λ e. cc) [] b sp)
minus_part (x ∷ t) b sp = by (x == 45)
  where
    by : (v : Bool) → cond v (t ++ b) (x ∷ (t ++ b)) ≡ cond v t (x ∷ t) ++ b
    by true = refl
    by false = refl

sign_part : (t b : List ℕ) → Spaces b → after_sign (t ++ b) ≡ after_sign t ++ b
sign_part [] b sp =
    let minus = head_more 45 refl (λ e. cc) [] b sp in
    let plus = head_more 43 refl (λ e. cc) [] b sp in
    (λ i. cond (minus i || plus i) (drop 1 b) b)
sign_part (x ∷ t) b sp = by ((x == 45) || (x == 43))
  where
    by : (v : Bool) → cond v (t ++ b) (x ∷ (t ++ b)) ≡ cond v t (x ∷ t) ++ b
    by true = refl
    by false = refl

whole_part : (t b : List ℕ) → Spaces b → after_whole (t ++ b) ≡ longer b (after_whole t)
whole_part [] b sp =
    ap (λ (v : Bool). cond v (Some (drop 1 b)) (after_digits b)) (head_more 48 refl (λ e. cc) [] b sp) ∙ digits_part [] b sp
whole_part (x ∷ t) b sp = by (x == 48)
  where
    by : (v : Bool) → cond v (Some (t ++ b)) (after_digits (x ∷ (t ++ b))) ≡ longer b (cond v (Some t) (after_digits (x ∷ t)))
    by true = refl
    by false = digits_part (x ∷ t) b sp

fraction_part : (t b : List ℕ) → Spaces b → after_fraction (t ++ b) ≡ longer b (after_fraction t)
fraction_part [] b sp = ap (λ (v : Bool). cond v (after_digits (drop 1 b)) (Some b)) (head_more 46 refl (λ e. cc) [] b sp)
fraction_part (x ∷ t) b sp = by (x == 46)
  where
    by : (v : Bool) → cond v (after_digits (t ++ b)) (Some (x ∷ (t ++ b))) ≡ longer b (cond v (after_digits t) (Some (x ∷ t)))
    by true = digits_part t b sp
    by false = refl

exponent_part : (t b : List ℕ) → Spaces b → after_exponent (t ++ b) ≡ longer b (after_exponent t)
exponent_part [] b sp =
    let lower = head_more 101 refl (λ e. cc) [] b sp in
    let upper = head_more 69 refl (λ e. cc) [] b sp in
    (λ i. cond (lower i || upper i) (after_digits (after_sign (drop 1 b))) (Some b))
exponent_part (x ∷ t) b sp = by ((x == 101) || (x == 69))
  where
    by : (v : Bool) → cond v (after_digits (after_sign (t ++ b))) (Some (x ∷ (t ++ b))) ≡ longer b (cond v (after_digits (after_sign t)) (Some (x ∷ t)))
    by true = ap after_digits (sign_part t b sp) ∙ digits_part (after_sign t) b sp
    by false = refl

then_part : (f : List ℕ → Option (List ℕ)) (b : List ℕ) → ((t : List ℕ) → f (t ++ b) ≡ longer b (f t)) → (o : Option (List ℕ)) → option_and_then f (longer b o) ≡ longer b (option_and_then f o)
then_part f b same None = refl
then_part f b same (Some t) = same t

number_part : (t b : List ℕ) → Spaces b → after_number (t ++ b) ≡ longer b (after_number t)
unfolding after_number
number_part t b sp =
    let whole = ap after_whole (minus_part t b sp) ∙ whole_part (after_minus t) b sp in
    let fraction = ap (option_and_then after_fraction) whole ∙ then_part after_fraction b (λ u. fraction_part u b sp) (after_whole (after_minus t)) in
    ap (option_and_then after_exponent) fraction ∙ then_part after_exponent b (λ u. exponent_part u b sp) (option_and_then after_fraction (after_whole (after_minus t)))

number_more : (t b : List ℕ) → Spaces b → number_before (t ++ b) (after_number (t ++ b)) ≡ number_before t (after_number t)
number_more t b sp = ap (number_before (t ++ b)) (number_part t b sp) ∙ by (after_number t)
  where
    by : (o : Option (List ℕ)) → number_before (t ++ b) (longer b o) ≡ number_before t o
    by None = refl
    by (Some rest) =
        let size : length (t ++ b) - length (rest ++ b) ≡ length t - length rest = omega (arith, length-append t b, length-append rest b) in
        let front : take (length (t ++ b) - length (rest ++ b)) (t ++ b) ≡ take (length t - length rest) t = ap (λ (n : ℕ). take n (t ++ b)) size ∙ take-append-le (length t - length rest) t b (omega arith) in
        (λ i. cond (ends_more rest b sp i) (Token.number (front i)) Token.bad)

abbrev AllInk : List ℕ → Type 0
AllInk [] = Unit {0}
AllInk (c ∷ name) = Ink c × AllInk name

starts_more : (name t b : List ℕ) → AllInk name → Spaces b → starts_with nat_eq (t ++ b) name ≡ starts_with nat_eq t name
starts_more [] t b ink sp = refl
starts_more (c ∷ name) (x ∷ t) b ink sp = ap (λ (v : Bool). nat_eq c x && v) (starts_more name t b ink.1 sp)
starts_more (c ∷ name) [] [] ink sp = refl
starts_more (c ∷ name) [] (s ∷ b) ink sp = ap (λ (v : Bool). v && pointwise nat_eq name (take (length name) b)) (apart_turned c s ink.0 sp.0)

literal_more : (name : List ℕ) (t : Token) (xs b : List ℕ) → AllInk name → Spaces b → literal name t (xs ++ b) ≡ literal name t xs
literal_more name t xs b ink sp = by (starts_with nat_eq xs name) refl
  where
    by : (v : Bool) → starts_with nat_eq xs name ≡ v → literal name t (xs ++ b) ≡ literal name t xs
    by false e =
        ap (λ (v : Bool). cond (v && ends_word (drop (length name) (xs ++ b))) t Token.bad) (starts_more name xs b ink sp ∙ e)
        ∙ sym (ap (λ (v : Bool). cond (v && ends_word (drop (length name) xs)) t Token.bad) e)
    by true e =
        let whole = ap length ((starts_is Decides-eqb xs name (starts_with nat_eq xs name) refl).0 e) in
        let long = length-append name (drop (length name) xs) in
        let rest : drop (length name) (xs ++ b) ≡ drop (length name) xs ++ b = drop-append-le (length name) xs b (omega (arith, whole, long)) in
        let ends : ends_word (drop (length name) (xs ++ b)) ≡ ends_word (drop (length name) xs) = ap ends_word rest ∙ ends_more (drop (length name) xs) b sp in
        let starts = starts_more name xs b ink sp in
        (λ i. cond (starts i && ends i) t Token.bad)

word_more : (t b : List ℕ) → Spaces b → word (t ++ b) ≡ word t
unfolding word
word_more t b sp =
    let on_t = head_more 116 refl (λ e. cc) t b sp in
    let on_f = head_more 102 refl (λ e. cc) t b sp in
    let on_n = head_more 110 refl (λ e. cc) t b sp in
    let yes_text = literal_more ascii.true_text (Token.boolean true) t b ((λ e. cc), ((λ e. cc), ((λ e. cc), ((λ e. cc), tt)))) sp in
    let no_text = literal_more ascii.false_text (Token.boolean false) t b ((λ e. cc), ((λ e. cc), ((λ e. cc), ((λ e. cc), ((λ e. cc), tt))))) sp in
    let null_text = literal_more ascii.null_text Token.null t b ((λ e. cc), ((λ e. cc), ((λ e. cc), ((λ e. cc), tt)))) sp in
    let digits = number_more t b sp in
    (λ i. cond (on_t i) (yes_text i) (cond (on_f i) (no_text i) (cond (on_n i) (null_text i) (digits i))))

-- the content of a string that is closed is the same whatever follows
abbrev Keeps : Option (List ℕ) → Option (List ℕ) → Type 0
Keeps None o = Unit {0}
Keeps (Some s) o = o ≡ Some s

keeps_cond : (c : Bool) (x y u v : Option (List ℕ)) → Keeps x u → Keeps y v → Keeps (cond c x y) (cond c u v)
keeps_cond true x y u v p q = p
keeps_cond false x y u v p q = q

keeps_prepend : (a : List ℕ) (o u : Option (List ℕ)) → Keeps o u → Keeps (prepend a o) (prepend a u)
keeps_prepend a None u k = tt
keeps_prepend a (Some s) u k = ap (prepend a) k

keeps_then : (f g : ℕ → Option (List ℕ)) (o : Option ℕ) → ((u : ℕ) → Keeps (f u) (g u)) → Keeps (option_and_then f o) (option_and_then g o)
keeps_then f g None k = tt
keeps_then f g (Some u) k = k u

content_kept : (w : Within) (xs b : List ℕ) → Keeps (content w xs) (content w (xs ++ b))
unfolding content
content_kept plain [] b = tt
content_kept plain (x ∷ xs) b =
    keeps_cond (x == 34) _ _ _ _ refl (keeps_cond (x == 92) _ _ _ _ (content_kept after_backslash xs b) (keeps_cond (nat_lt x 32) _ _ _ _ tt (keeps_prepend (x ∷ []) _ _ (content_kept plain xs b))))
content_kept after_backslash [] b = tt
content_kept after_backslash (x ∷ xs) b = keeps_cond (x == 117) _ _ _ _ (content_kept after_u xs b) (keeps_then _ _ (short_escape x) (λ c. keeps_prepend (c ∷ []) _ _ (content_kept plain xs b)))
content_kept after_u [] b = tt
content_kept after_u (x ∷ []) b = tt
content_kept after_u (x ∷ y ∷ []) b = tt
content_kept after_u (x ∷ y ∷ c ∷ []) b = tt
content_kept after_u (x ∷ y ∷ c ∷ d ∷ xs) b =
    keeps_then _ _ (code_unit x y c d) (λ u. keeps_cond (is_high_surrogate u) _ _ _ _ (content_kept (after_high u) xs b) (keeps_cond (is_low_surrogate u) _ _ _ _ tt (keeps_prepend (encode_utf8 u) _ _ (content_kept plain xs b))))
content_kept (after_high h) [] b = tt
content_kept (after_high h) (s ∷ []) b = tt
content_kept (after_high h) (s ∷ u ∷ []) b = tt
content_kept (after_high h) (s ∷ u ∷ x ∷ []) b = tt
content_kept (after_high h) (s ∷ u ∷ x ∷ y ∷ []) b = tt
content_kept (after_high h) (s ∷ u ∷ x ∷ y ∷ c ∷ []) b = tt
content_kept (after_high h) (s ∷ u ∷ x ∷ y ∷ c ∷ d ∷ xs) b =
    keeps_cond ((s == 92) && (u == 117)) _ _ _ _ (keeps_then _ _ (code_unit x y c d) (λ l. keeps_cond (is_low_surrogate l) _ _ _ _ (keeps_prepend (encode_utf8 (surrogate_pair h l)) _ _ (content_kept plain xs b)) tt)) tt

string_more : (a b : List ℕ) → (step (string_token (content plain a)) ≡ fails → ⊥) → string_token (content plain (a ++ b)) ≡ string_token (content plain a)
string_more a b good = by (content plain a) good (content_kept plain a b)
  where
    by : (o : Option (List ℕ)) → (step (string_token o) ≡ fails → ⊥) → Keeps o (content plain (a ++ b)) → string_token (content plain (a ++ b)) ≡ string_token o
    by None good k = absurd (good refl)
    by (Some s) good k = ap string_token k

byte_more : (m : Mode) (c : Class) (x : ℕ) (a b : List ℕ) → Spaces b → ((n : Mode) → AllGood (lex n a) → lex n (a ++ b) ≡ lex n a) → AllGood (lex_byte m c x a (λ n. lex n a)) → lex_byte m c x (a ++ b) (λ n. lex n (a ++ b)) ≡ lex_byte m c x a (λ n. lex n a)
byte_more between quote x a b sp more good = let text = string_more a b good.0 in let rest = more in_string good.1 in (λ i. token (text i) ∷ rest i)
byte_more between backslash x a b sp more good = absurd (good.0 refl)
byte_more between operator x a b sp more good = ap (λ (ls : List Lexeme). operator_lexeme x ∷ ls) (more between good.1)
byte_more between space x a b sp more good = more between good
byte_more between other x a b sp more good = let front = word_more (x ∷ a) b sp in let rest = more in_word good.1 in (λ i. token (front i) ∷ rest i)
byte_more in_word quote x a b sp more good = more in_word good
byte_more in_word backslash x a b sp more good = more in_word good
byte_more in_word operator x a b sp more good = ap (λ (ls : List Lexeme). operator_lexeme x ∷ ls) (more between good.1)
byte_more in_word space x a b sp more good = more between good
byte_more in_word other x a b sp more good = more in_word good
byte_more in_string quote x a b sp more good = more between good
byte_more in_string backslash x a b sp more good = more in_escape good
byte_more in_string operator x a b sp more good = more in_string good
byte_more in_string space x a b sp more good = more in_string good
byte_more in_string other x a b sp more good = more in_string good
byte_more in_escape c x a b sp more good = more in_string good

lex_more : (a b : List ℕ) → Spaces b → (m : Mode) → AllGood (lex m a) → lex m (a ++ b) ≡ lex m a
unfolding lex
lex_more [] b sp m good = no_space_lexeme m b sp
lex_more (x ∷ a) b sp m good = byte_more m (class x) x a b sp (lex_more a b sp) good

-- ---- The text of an object

record ReadAs (text : List ℕ) (v : seen.Data) : Type 0 where
  tree : Json
  parsed : value max_depth (tokens text) ≡ Some (tree, [])
  seen_as : of_json tree ≡ Some v

read_as : (text : List ℕ) (v : seen.Data) → read text ≡ Some v → ReadAs text v
read_as text v e = let p = parts (value max_depth (tokens text)) e in record { tree = p.0; parsed = p.1; seen_as = p.2 }
  where
    parts : (o : Option (Json × List Token)) → option_and_then of_json (option_and_then (λ p. if_last p.0 p.1) o) ≡ Some v → (j : Json) × (o ≡ Some (j, [])) × (of_json j ≡ Some v)
    parts None e = none_some e
    parts (Some (j, [])) e = (j, refl, e)
    parts (Some (j, t ∷ ts)) e = none_some e

abbrev is_object : Json → Bool
is_object (json.object ms) = true
is_object j = false

object_tree : (j : Json) (ms : seen.Members) → of_json j ≡ Some (seen.object ms) → is_object j ≡ true
object_tree json.null ms e = cc
object_tree (json.boolean b) ms e = cc
object_tree (json.number s) ms e = absurd (by (number_of s) e)
  where
    by : (o : Option seen.Num) → option_map seen.number o ≡ Some (seen.object ms) → ⊥
    by None e = none_some e
    by (Some n) e = cc
object_tree (json.string s) ms e = cc
object_tree (json.array js) ms e = absurd (by (of_items js) e)
  where
    by : (o : Option seen.Items) → option_map seen.array o ≡ Some (seen.object ms) → ⊥
    by None e = none_some e
    by (Some n) e = cc
object_tree (json.object js) ms e = refl

plain_tree : (j k : Json) (ts r : List Token) → ◌≡◌ {A = Option (Json × List Token)} (Some (j, ts)) (Some (k, r)) → is_object j ≡ false → is_object k ≡ true → ⊥
plain_tree j k ts r e no_object is = let same : j ≡ k = ap (λ (p : Json × List Token). p.0) (same_some e) in let k_is : is_object k ≡ false = ap is_object (sym same) ∙ no_object in cc

object_opens : (a : Parse Items) (o : Parse Members) (ts r : List Token) (j : Json) → value_with a o ts ≡ Some (j, r) → is_object j ≡ true → begins_open ts ≡ true
object_opens a o [] r j e is = none_some e
object_opens a o (Token.begin_object ∷ ts) r j e is = refl
object_opens a o (Token.end_object ∷ ts) r j e is = none_some e
object_opens a o (Token.begin_array ∷ ts) r j e is = refl
object_opens a o (Token.end_array ∷ ts) r j e is = none_some e
object_opens a o (Token.key s ∷ ts) r j e is = none_some e
object_opens a o (Token.string s ∷ ts) r j e is = absurd (plain_tree (json.string s) j ts r e refl is)
object_opens a o (Token.number s ∷ ts) r j e is = absurd (plain_tree (json.number s) j ts r e refl is)
object_opens a o (Token.boolean b ∷ ts) r j e is = absurd (plain_tree (json.boolean b) j ts r e refl is)
object_opens a o (Token.null ∷ ts) r j e is = absurd (plain_tree json.null j ts r e refl is)
object_opens a o (Token.bad ∷ ts) r j e is = none_some e

value_opens : (d : ℕ) (ts r : List Token) (j : Json) → value d ts ≡ Some (j, r) → is_object j ≡ true → begins_open ts ≡ true
unfolding value
value_opens zero ts r j e is = object_opens (λ ts. None) (λ ts. None) ts r j e is
value_opens (suc d) ts r j e is = object_opens (λ ts. items (value d) (length ts) ts) (λ ts. members (value d) (length ts) ts) ts r j e is

-- the front of such a text is empty, or the same bracket opens it
opens_only : (s : Step) (f : ℕ → Option (List ℕ)) (r ys : List ℕ) → on s 0 f r ≡ Some ys → s ≡ opens
opens_only opens f r ys e = refl
opens_only closes f r ys e = none_some e
opens_only passes f r ys e = none_some e
opens_only fails f r ys e = none_some e

open_first : (l : Lexeme) (ls : List Lexeme) → lexeme_step l ≡ opens → begins_open (punctuate fresh (l ∷ ls)) ≡ true
unfolding punctuate
open_first (token Token.begin_object) ls is = refl
open_first (token Token.end_object) ls is = cc
open_first (token Token.begin_array) ls is = refl
open_first (token Token.end_array) ls is = cc
open_first (token (Token.key s)) ls is = cc
open_first (token (Token.string s)) ls is = cc
open_first (token (Token.number s)) ls is = cc
open_first (token (Token.boolean b)) ls is = cc
open_first (token Token.null) ls is = cc
open_first (token Token.bad) ls is = cc
open_first comma ls is = cc
open_first colon ls is = cc

abbrev EmptyOrOpen : List Lexeme → Type 0
EmptyOrOpen ls = (ls ≡ []) ⊎ (begins_open (punctuate fresh ls) ≡ true)

first_opens : (a b ys : List ℕ) → walk_bytes 0 between (a ++ b) ≡ Some ys → EmptyOrOpen (lex between a)
unfolding lex
first_opens [] b ys e = inl refl
first_opens (x ∷ a) b ys e = by (class x) e (first_opens a b ys)
  where
    by : (c : Class) → byte 0 between c x (λ k n. walk_bytes k n (a ++ b)) (a ++ b) ≡ Some ys → (walk_bytes 0 between (a ++ b) ≡ Some ys → EmptyOrOpen (lex between a)) → EmptyOrOpen (lex_byte between c x a (λ n. lex n a))
    by quote e more = none_some e
    by backslash e more = none_some e
    by operator e more = inr (open_first (operator_lexeme x) (lex between a) (opens_only _ (λ k. walk_bytes k between (a ++ b)) (a ++ b) ys e))
    by space e more = more e
    by other e more = none_some e

nothing_read : (d : ℕ) (j : Json) (r : List Token) → value d [] ≡ Some (j, r) → ⊥
unfolding value
nothing_read zero j r e = none_some e
nothing_read (suc d) j r e = none_some e

nothing_of : (ls : List Lexeme) → ls ≡ [] → punctuate fresh ls ≡ []
unfolding punctuate
nothing_of ls e = ap (punctuate fresh) e

spaces_behind : (front back : List ℕ) → Spaces (front ++ back) → Spaces back
spaces_behind [] back sp = sp
spaces_behind (x ∷ front) back sp = spaces_behind front back sp.1

same_read : (front back : List ℕ) (j : Json) → Whole (front ++ back) → value max_depth (tokens front) ≡ Some (j, []) → lex between (front ++ back) ≡ lex between front
same_read front back j whole e = elim (first_opens front back whole.behind whole.walked) [
  | inl none ↦ absurd (nothing_read max_depth j [] (ap (value max_depth) (sym (nothing_of (lex between front) none)) ∙ e))
  | inr is ↦ (
      let cut = whole_of max_depth front j e is in
      let same : whole.behind ≡ cut.behind ++ back = same_some (sym whole.walked ∙ walk_longer front back 0 between cut.behind cut.walked) in
      lex_more front back (spaces_behind cut.behind back (only_spaces (cut.behind ++ back) (ap (lex between) (sym same) ∙ whole.silent))) between cut.good
      )
]

-- The text of an object has no front that is read as another value.
pub one_value : (front back : List ℕ) (ms : seen.Members) (cut : seen.Data) → read (front ++ back) ≡ Some (seen.object ms) → read front ≡ Some cut → cut ≡ seen.object ms
one_value front back ms v e f =
    let whole = read_as (front ++ back) (seen.object ms) e in
    let cut = read_as front v f in
    let opened = value_opens max_depth (tokens (front ++ back)) [] whole.tree whole.parsed (object_tree whole.tree ms whole.seen_as) in
    let same = same_read front back cut.tree (whole_of max_depth (front ++ back) whole.tree whole.parsed opened) cut.parsed in
    let reads : read (front ++ back) ≡ read front = ap (λ (ls : List Lexeme). option_and_then of_json (option_and_then (λ p. if_last p.0 p.1) (value max_depth (punctuate fresh ls)))) same in
    same_some (sym f ∙ sym reads ∙ e)
