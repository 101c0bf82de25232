-- How the brackets of a JSON text are walked through, token by token, lexeme by lexeme, and byte by byte.
use Rattle.std.proofs.Common.{◌≡◌, ℕ, zero, suc, ◌⊎◌, inl, inr, Bool, true, false, cond, ◌==◌, List, [], ◌∷◌, ◌++◌, length, take, Option, Some, None, option_and_then, ◌-◌, refl, sym, ap, ◌∙◌, subst}
use Rattle.json.specs.Token.{Token}
use Rattle.json.specs.Json as json
use Rattle.json.specs.Json.{Json, Items, Members, Parse, parse_map, after_end_array, read_key, items_step, members_step, items, members, value_with, value}
use Rattle.json.specs.Lex.{Lexeme, token, comma, colon, Class, quote, backslash, operator, space, other, class, operator_lexeme, string_token, Mode, between, in_word, in_string, in_escape, lex_byte, lex, Place, fresh, after_value, after_comma, after_key, begins_colon, may_begin, may_close, if_allowed, place_token, punctuate, tokens}
use Rattle.json.specs.Text.{plain, content}
use Rattle.json.specs.Word.{head, ends_word, after_number, number_before, word}
use Rattle.json.specs.Ascii as ascii
use Rattle.json.proofs.Grammar.{closed_array, read_key_is}

-- ---- Brackets

-- what a token does to the brackets that are open
pub data Step : Type 0 where
  opens : Step
  closes : Step
  passes : Step
  fails : Step

-- One step inside so many brackets: how it goes on, or what follows the bracket that closes the last. Outside all of them only an opening one may stand.
abbrev pub on : {A : Type 0} → Step → ℕ → (ℕ → Option A) → A → Option A
on opens h more rest = more (suc h)
on closes zero more rest = None
on closes (suc zero) more rest = Some rest
on closes (suc (suc h)) more rest = more (suc h)
on passes zero more rest = None
on passes (suc h) more rest = more (suc h)
on fails h more rest = None

abbrev pub step : Token → Step
step Token.begin_object = opens
step Token.end_object = closes
step Token.begin_array = opens
step Token.end_array = closes
step (Token.key s) = passes
step (Token.string s) = passes
step (Token.number s) = passes
step (Token.boolean b) = passes
step Token.null = passes
step Token.bad = fails

-- what follows the bracket that closes the last of so many
abbrev walk : ℕ → List Token → Option (List Token)
walk h [] = None
walk h (t ∷ ts) = on (step t) h (λ k. walk k ts) ts

abbrev closed : ℕ → List Token → Option (List Token)
closed h ts = on closes (suc h) (λ k. walk k ts) ts

-- a value leaves the brackets as they were; the rest of an array or object closes one
abbrev Passed : List Token → Option (Json × List Token) → Type 0
Passed ts None = Unit {0}
Passed ts (Some p) = (h : ℕ) → walk (suc h) ts ≡ walk (suc h) p.1

abbrev Closed : {A : Type 0} → List Token → Option (A × List Token) → Type 0
Closed ts None = Unit {0}
Closed ts (Some p) = (h : ℕ) → walk (suc h) ts ≡ closed h p.1

mapped : {A B : Type 0} (f : A → B) (ts us : List Token) (o : Option (A × List Token)) → ((h : ℕ) → walk (suc h) ts ≡ walk (suc h) us) → Closed us o → Closed ts (parse_map f o)
mapped f ts us None same c = tt
mapped f ts us (Some p) same c = λ h. same h ∙ c h

and_more : {B : Type 0} (f : Json → B → B) (more : Parse B) (ts : List Token) (o : Option (Json × List Token)) → ((us : List Token) → Closed us (more us)) → Passed ts o → Closed ts (option_and_then (λ q. parse_map (f q.0) (more q.1)) o)
and_more f more ts None again passed = tt
and_more f more ts (Some q) again passed = mapped (f q.0) ts q.1 (more q.1) passed (again q.1)

module _ (p : Parse Json) (passed : (ts : List Token) → Passed ts (p ts)) where
  item_turn : (more : Parse Items) → ((us : List Token) → Closed us (more us)) → (ts : List Token) (o : Option (List Token)) → after_end_array ts ≡ o → Closed ts (items_step p more ts o)
  item_turn more again ts (Some r) e = λ h. ap (walk (suc h)) (closed_array ts r e)
  item_turn more again ts None e = and_more json.item more ts (p ts) again (passed ts)

  Closed-items : (n : ℕ) (ts : List Token) → Closed ts (items p n ts)
  unfolding items
  Closed-items zero ts = tt
  Closed-items (suc n) ts = item_turn (items p n) (Closed-items n) ts (after_end_array ts) refl

  member_turn : (more : Parse Members) → ((us : List Token) → Closed us (more us)) → (ts : List Token) (o : Option (Option (List ℕ) × List Token)) → read_key ts ≡ o → Closed ts (option_and_then (λ q. members_step p more q.0 q.1) o)
  member_turn more again ts None e = tt
  member_turn more again ts (Some (None, s)) e = λ h. ap (walk (suc h)) (read_key_is ts None s e)
  member_turn more again ts (Some (Some k, s)) e = subst (λ us. Closed us (option_and_then (λ q. parse_map (json.member k q.0) (more q.1)) (p s))) (sym (read_key_is ts (Some k) s e)) (behind_key k s (option_and_then (λ q. parse_map (json.member k q.0) (more q.1)) (p s)) (and_more (json.member k) more s (p s) again (passed s)))
    where
      behind_key : (k : List ℕ) (s : List Token) (o : Option (Members × List Token)) → Closed s o → Closed (Token.key k ∷ s) o
      behind_key k s None c = tt
      behind_key k s (Some q) c = c

  Closed-members : (n : ℕ) (ts : List Token) → Closed ts (members p n ts)
  unfolding members
  Closed-members zero ts = tt
  Closed-members (suc n) ts = member_turn (members p n) (Closed-members n) ts (read_key ts) refl

opened : {A : Type 0} (f : A → Json) (t : Token) (ts : List Token) (o : Option (A × List Token)) → step t ≡ opens → Closed ts o → Passed (t ∷ ts) (parse_map f o)
opened f t ts None is c = tt
opened f t ts (Some p) is c = λ h. ap (λ (s : Step). on s (suc h) (λ k. walk k ts) ts) is ∙ c (suc h)

one_level : (a : Parse Items) (o : Parse Members) → ((ts : List Token) → Closed ts (a ts)) → ((ts : List Token) → Closed ts (o ts)) → (ts : List Token) → Passed ts (value_with a o ts)
one_level a o p q [] = tt
one_level a o p q (Token.begin_object ∷ ts) = opened json.object Token.begin_object ts (o ts) refl (q ts)
one_level a o p q (Token.end_object ∷ ts) = tt
one_level a o p q (Token.begin_array ∷ ts) = opened json.array Token.begin_array ts (a ts) refl (p ts)
one_level a o p q (Token.end_array ∷ ts) = tt
one_level a o p q (Token.key s ∷ ts) = tt
one_level a o p q (Token.string s ∷ ts) = λ h. refl
one_level a o p q (Token.number s ∷ ts) = λ h. refl
one_level a o p q (Token.boolean b ∷ ts) = λ h. refl
one_level a o p q (Token.null ∷ ts) = λ h. refl
one_level a o p q (Token.bad ∷ ts) = tt

value_passed : (d : ℕ) (ts : List Token) → Passed ts (value d ts)
unfolding value
value_passed zero = one_level (λ ts. None) (λ ts. None) (λ ts. tt) (λ ts. tt)
value_passed (suc d) = one_level (λ ts. items (value d) (length ts) ts) (λ ts. members (value d) (length ts) ts) (λ ts. Closed-items (value d) (value_passed d) (length ts) ts) (λ ts. Closed-members (value d) (value_passed d) (length ts) ts)

-- a value that a bracket opens is walked through from outside all brackets
abbrev pub begins_open : List Token → Bool
begins_open [] = false
begins_open (Token.begin_object ∷ ts) = true
begins_open (Token.begin_array ∷ ts) = true
begins_open (t ∷ ts) = false

abbrev Walked : List Token → Option (Json × List Token) → Type 0
Walked ts None = Unit {0}
Walked ts (Some p) = walk 0 ts ≡ Some p.1

walked_from : {A : Type 0} (f : A → Json) (t : Token) (ts : List Token) (o : Option (A × List Token)) → step t ≡ opens → Closed ts o → Walked (t ∷ ts) (parse_map f o)
walked_from f t ts None is c = tt
walked_from f t ts (Some p) is c = ap (λ (s : Step). on s 0 (λ k. walk k ts) ts) is ∙ c 0

from_open : (a : Parse Items) (o : Parse Members) → ((ts : List Token) → Closed ts (a ts)) → ((ts : List Token) → Closed ts (o ts)) → (ts : List Token) → begins_open ts ≡ true → Walked ts (value_with a o ts)
from_open a o p q [] is = tt
from_open a o p q (Token.begin_object ∷ ts) is = walked_from json.object Token.begin_object ts (o ts) refl (q ts)
from_open a o p q (Token.end_object ∷ ts) is = tt
from_open a o p q (Token.begin_array ∷ ts) is = walked_from json.array Token.begin_array ts (a ts) refl (p ts)
from_open a o p q (Token.end_array ∷ ts) is = tt
from_open a o p q (Token.key s ∷ ts) is = tt
from_open a o p q (Token.string s ∷ ts) is = cc
from_open a o p q (Token.number s ∷ ts) is = cc
from_open a o p q (Token.boolean b ∷ ts) is = cc
from_open a o p q (Token.null ∷ ts) is = cc
from_open a o p q (Token.bad ∷ ts) is = tt

value_walked : (d : ℕ) (ts : List Token) → begins_open ts ≡ true → Walked ts (value d ts)
unfolding value
value_walked zero ts = from_open (λ ts. None) (λ ts. None) (λ ts. tt) (λ ts. tt) ts
value_walked (suc d) ts = from_open (λ ts. items (value d) (length ts) ts) (λ ts. members (value d) (length ts) ts) (λ ts. Closed-items (value d) (value_passed d) (length ts) ts) (λ ts. Closed-members (value d) (value_passed d) (length ts) ts) ts

-- ---- Lexemes

abbrev pub lexeme_step : Lexeme → Step
lexeme_step (token t) = step t
lexeme_step comma = passes
lexeme_step colon = passes

abbrev walk_lexemes : ℕ → List Lexeme → Option (List Lexeme)
walk_lexemes h [] = None
walk_lexemes h (l ∷ ls) = on (lexeme_step l) h (λ k. walk_lexemes k ls) ls

-- What is walked of the tokens is walked of the lexemes, and what follows comes of the lexemes behind.
record AlsoLexemes (h : ℕ) (ls : List Lexeme) (r : List Token) : Type 0 where
  behind : List Lexeme
  walked : walk_lexemes h ls ≡ Some behind
  are : r ≡ punctuate after_value behind

Again : List Token → List Lexeme → Type 0
Again ts ls = (k : ℕ) (r : List Token) → walk (suc k) ts ≡ Some r → AlsoLexemes (suc k) ls r

pub none_some : {A P : Type 0} {a : A} → None ≡ Some a → P
none_some e = absurd (cc)

pub same_some : {A : Type 0} {a b : A} → Some a ≡ Some b → a ≡ b
same_some e = cc

on_lexemes : (s : Step) (h : ℕ) (ts : List Token) (l : Lexeme) (ls : List Lexeme) (r : List Token) → lexeme_step l ≡ s → (s ≡ closes → ts ≡ punctuate after_value ls) → Again ts ls → on s h (λ k. walk k ts) ts ≡ Some r → AlsoLexemes h (l ∷ ls) r
unfolding Again
on_lexemes opens h ts l ls r is last again e = let m = again h r e in record { behind = m.behind; walked = ap (λ (s : Step). on s h (λ k. walk_lexemes k ls) ls) is ∙ m.walked; are = m.are }
on_lexemes closes zero ts l ls r is last again e = none_some e
on_lexemes closes (suc zero) ts l ls r is last again e = record { behind = ls; walked = ap (λ (s : Step). on s 1 (λ k. walk_lexemes k ls) ls) is; are = sym (same_some e) ∙ last refl }
on_lexemes closes (suc (suc h)) ts l ls r is last again e = let m = again h r e in record { behind = m.behind; walked = ap (λ (s : Step). on s (suc (suc h)) (λ k. walk_lexemes k ls) ls) is ∙ m.walked; are = m.are }
on_lexemes passes zero ts l ls r is last again e = none_some e
on_lexemes passes (suc h) ts l ls r is last again e = let m = again h r e in record { behind = m.behind; walked = ap (λ (s : Step). on s (suc h) (λ k. walk_lexemes k ls) ls) is ∙ m.walked; are = m.are }
on_lexemes fails h ts l ls r is last again e = none_some e

allowed : (b : Bool) (t : Token) (next : Place) (h : ℕ) (l : Lexeme) (ls : List Lexeme) (r : List Token) → lexeme_step l ≡ step t → (step t ≡ closes → next ≡ after_value) → Again (punctuate next ls) ls → walk h (if_allowed b t (λ n. punctuate n ls) next) ≡ Some r → AlsoLexemes h (l ∷ ls) r
allowed true t next h l ls r is last again e = on_lexemes (step t) h (punctuate next ls) l ls r is (λ c. ap (λ n. punctuate n ls) (last c)) again e
allowed false t next h l ls r is last again e = none_some e

placed : (p : Place) (t : Token) (b : Bool) (h : ℕ) (ls : List Lexeme) (r : List Token) → ((next : Place) → Again (punctuate next ls) ls) → walk h (place_token p t b (λ n. punctuate n ls)) ≡ Some r → AlsoLexemes h (token t ∷ ls) r
placed p Token.begin_object b h ls r again e = allowed (may_begin p) Token.begin_object fresh h (token Token.begin_object) ls r refl (λ c. cc) (again fresh) e
placed p Token.end_object b h ls r again e = allowed (may_close p) Token.end_object after_value h (token Token.end_object) ls r refl (λ c. refl) (again after_value) e
placed p Token.begin_array b h ls r again e = allowed (may_begin p) Token.begin_array fresh h (token Token.begin_array) ls r refl (λ c. cc) (again fresh) e
placed p Token.end_array b h ls r again e = allowed (may_close p) Token.end_array after_value h (token Token.end_array) ls r refl (λ c. refl) (again after_value) e
placed p (Token.key s) b h ls r again e = none_some e
placed p (Token.string s) true h ls r again e = allowed (may_begin p) (Token.key s) after_key h (token (Token.string s)) ls r refl (λ c. cc) (again after_key) e
placed p (Token.string s) false h ls r again e = allowed (may_begin p) (Token.string s) after_value h (token (Token.string s)) ls r refl (λ c. cc) (again after_value) e
placed p (Token.number s) b h ls r again e = allowed (may_begin p) (Token.number s) after_value h (token (Token.number s)) ls r refl (λ c. cc) (again after_value) e
placed p (Token.boolean v) b h ls r again e = allowed (may_begin p) (Token.boolean v) after_value h (token (Token.boolean v)) ls r refl (λ c. cc) (again after_value) e
placed p Token.null b h ls r again e = allowed (may_begin p) Token.null after_value h (token Token.null) ls r refl (λ c. cc) (again after_value) e
placed p Token.bad b h ls r again e = none_some e

passed_over : (h : ℕ) (l : Lexeme) (ls : List Lexeme) (r : List Token) → lexeme_step l ≡ passes → AlsoLexemes (suc h) ls r → AlsoLexemes (suc h) (l ∷ ls) r
passed_over h l ls r is m = record { behind = m.behind; walked = ap (λ (s : Step). on s (suc h) (λ k. walk_lexemes k ls) ls) is ∙ m.walked; are = m.are }

also_lexemes : (ls : List Lexeme) (p : Place) → Again (punctuate p ls) ls
unfolding punctuate Again
also_lexemes [] fresh h r e = none_some e
also_lexemes [] after_value h r e = none_some e
also_lexemes [] after_comma h r e = none_some e
also_lexemes [] after_key h r e = none_some e
also_lexemes (token t ∷ ls) fresh h r e = placed fresh t (begins_colon ls) (suc h) ls r (also_lexemes ls) e
also_lexemes (token t ∷ ls) after_value h r e = placed after_value t (begins_colon ls) (suc h) ls r (also_lexemes ls) e
also_lexemes (token t ∷ ls) after_comma h r e = placed after_comma t (begins_colon ls) (suc h) ls r (also_lexemes ls) e
also_lexemes (token t ∷ ls) after_key h r e = placed after_key t (begins_colon ls) (suc h) ls r (also_lexemes ls) e
also_lexemes (comma ∷ ls) fresh h r e = none_some e
also_lexemes (comma ∷ ls) after_value h r e = passed_over h comma ls r refl (also_lexemes ls after_comma h r e)
also_lexemes (comma ∷ ls) after_comma h r e = none_some e
also_lexemes (comma ∷ ls) after_key h r e = none_some e
also_lexemes (colon ∷ ls) fresh h r e = none_some e
also_lexemes (colon ∷ ls) after_value h r e = none_some e
also_lexemes (colon ∷ ls) after_comma h r e = none_some e
also_lexemes (colon ∷ ls) after_key h r e = passed_over h colon ls r refl (also_lexemes ls fresh h r e)

from_first : (ls : List Lexeme) (r : List Token) → walk 0 (punctuate fresh ls) ≡ Some r → AlsoLexemes 0 ls r
unfolding punctuate
from_first [] r e = none_some e
from_first (token t ∷ ls) r e = placed fresh t (begins_colon ls) 0 ls r (also_lexemes ls) e
from_first (comma ∷ ls) r e = none_some e
from_first (colon ∷ ls) r e = none_some e

-- each lexeme behind a whole value makes a token
never_empty : (b : Bool) (t : Token) (k : Place → List Token) (next : Place) → if_allowed b t k next ≡ [] → ⊥
never_empty true t k next e = cc
never_empty false t k next e = cc

some_token : (p : Place) (t : Token) (b : Bool) (k : Place → List Token) → place_token p t b k ≡ [] → ⊥
some_token p Token.begin_object b k e = never_empty (may_begin p) Token.begin_object k fresh e
some_token p Token.end_object b k e = never_empty (may_close p) Token.end_object k after_value e
some_token p Token.begin_array b k e = never_empty (may_begin p) Token.begin_array k fresh e
some_token p Token.end_array b k e = never_empty (may_close p) Token.end_array k after_value e
some_token p (Token.key s) b k e = cc
some_token p (Token.string s) true k e = never_empty (may_begin p) (Token.key s) k after_key e
some_token p (Token.string s) false k e = never_empty (may_begin p) (Token.string s) k after_value e
some_token p (Token.number s) b k e = never_empty (may_begin p) (Token.number s) k after_value e
some_token p (Token.boolean v) b k e = never_empty (may_begin p) (Token.boolean v) k after_value e
some_token p Token.null b k e = never_empty (may_begin p) Token.null k after_value e
some_token p Token.bad b k e = cc

comma_asks : (ls : List Lexeme) → punctuate after_comma ls ≡ [] → ⊥
unfolding punctuate
comma_asks [] e = cc
comma_asks (token t ∷ ls) e = some_token after_comma t (begins_colon ls) (λ n. punctuate n ls) e
comma_asks (comma ∷ ls) e = cc
comma_asks (colon ∷ ls) e = cc

no_lexeme : (ls : List Lexeme) → punctuate after_value ls ≡ [] → ls ≡ []
unfolding punctuate
no_lexeme [] e = refl
no_lexeme (token t ∷ ls) e = absurd (some_token after_value t (begins_colon ls) (λ n. punctuate n ls) e)
no_lexeme (comma ∷ ls) e = absurd (comma_asks ls e)
no_lexeme (colon ∷ ls) e = absurd (cc)

-- no lexeme of a text that is walked to its end is amiss
abbrev pub AllGood : List Lexeme → Type 0
AllGood [] = Unit {0}
AllGood (l ∷ ls) = (lexeme_step l ≡ fails → ⊥) × AllGood ls

on_good : (s : Step) (h : ℕ) (ls : List Lexeme) → ((k : ℕ) → walk_lexemes k ls ≡ Some [] → AllGood ls) → on s h (λ k. walk_lexemes k ls) ls ≡ Some [] → (s ≡ fails → ⊥) × AllGood ls
on_good opens h ls more e = ((λ f. cc), more (suc h) e)
on_good closes zero ls more e = none_some e
on_good closes (suc zero) ls more e = ((λ f. cc), subst AllGood (sym (same_some e)) tt)
on_good closes (suc (suc h)) ls more e = ((λ f. cc), more (suc h) e)
on_good passes zero ls more e = none_some e
on_good passes (suc h) ls more e = ((λ f. cc), more (suc h) e)
on_good fails h ls more e = none_some e

all_good : (ls : List Lexeme) (h : ℕ) → walk_lexemes h ls ≡ Some [] → AllGood ls
all_good [] h e = tt
all_good (l ∷ ls) h e = on_good (lexeme_step l) h ls (all_good ls) e

-- ---- Bytes

-- what a byte of a class does in a mode: strings and words are passed over where they begin
abbrev pub byte : {A : Type 0} → ℕ → Mode → Class → ℕ → (ℕ → Mode → Option A) → A → Option A
byte h between quote x more rest = on passes h (λ k. more k in_string) rest
byte h between backslash x more rest = None
byte h between operator x more rest = on (lexeme_step (operator_lexeme x)) h (λ k. more k between) rest
byte h between space x more rest = more h between
byte h between other x more rest = on passes h (λ k. more k in_word) rest
byte h in_word quote x more rest = more h in_word
byte h in_word backslash x more rest = more h in_word
byte h in_word operator x more rest = on (lexeme_step (operator_lexeme x)) h (λ k. more k between) rest
byte h in_word space x more rest = more h between
byte h in_word other x more rest = more h in_word
byte h in_string quote x more rest = more h between
byte h in_string backslash x more rest = more h in_escape
byte h in_string operator x more rest = more h in_string
byte h in_string space x more rest = more h in_string
byte h in_string other x more rest = more h in_string
byte h in_escape c x more rest = more h in_string

-- the bytes behind the one that closes the last bracket
abbrev pub walk_bytes : ℕ → Mode → List ℕ → Option (List ℕ)
walk_bytes h m [] = None
walk_bytes h m (x ∷ xs) = byte h m (class x) x (λ k n. walk_bytes k n xs) xs

record AlsoBytes (h : ℕ) (m : Mode) (xs : List ℕ) (ls : List Lexeme) : Type 0 where
  behind : List ℕ
  walked : walk_bytes h m xs ≡ Some behind
  are : ls ≡ lex between behind

-- the same of a step alone
abbrev OnBytes : Step → ℕ → Mode → List ℕ → List Lexeme → Type 0
OnBytes s h m xs ls = (behind : List ℕ) × (on s h (λ k. walk_bytes k m xs) xs ≡ Some behind) × (ls ≡ lex between behind)

on_bytes : (s : Step) (h : ℕ) (m : Mode) (xs : List ℕ) (ls : List Lexeme) → (s ≡ closes → m ≡ between) → ((k : ℕ) (ls : List Lexeme) → walk_lexemes k (lex m xs) ≡ Some ls → AlsoBytes k m xs ls) → on s h (λ k. walk_lexemes k (lex m xs)) (lex m xs) ≡ Some ls → OnBytes s h m xs ls
on_bytes opens h m xs ls last more e = let r = more (suc h) ls e in (r.behind, r.walked, r.are)
on_bytes closes zero m xs ls last more e = none_some e
on_bytes closes (suc zero) m xs ls last more e = (xs, refl, sym (same_some e) ∙ ap (λ (n : Mode). lex n xs) (last refl))
on_bytes closes (suc (suc h)) m xs ls last more e = let r = more (suc h) ls e in (r.behind, r.walked, r.are)
on_bytes passes zero m xs ls last more e = none_some e
on_bytes passes (suc h) m xs ls last more e = let r = more (suc h) ls e in (r.behind, r.walked, r.are)
on_bytes fails h m xs ls last more e = none_some e

-- a string or a word is passed over, or amiss
abbrev PassesOrFails : Step → Type 0
PassesOrFails s = (s ≡ passes) ⊎ (s ≡ fails)

string_step : (o : Option (List ℕ)) → PassesOrFails (step (string_token o))
string_step None = inr refl
string_step (Some s) = inl refl

picked_step : (b : Bool) (t : Token) → step t ≡ passes → PassesOrFails (step (cond b t Token.bad))
picked_step true t is = inl is
picked_step false t is = inr refl

number_step : (t : List ℕ) (o : Option (List ℕ)) → PassesOrFails (step (number_before t o))
number_step t None = inr refl
number_step t (Some rest) = picked_step (ends_word rest) (Token.number (take (length t - length rest) t)) refl

either_step : (b : Bool) (t u : Token) → PassesOrFails (step t) → PassesOrFails (step u) → PassesOrFails (step (cond b t u))
either_step true t u p q = p
either_step false t u p q = q

word_step : (t : List ℕ) → PassesOrFails (step (word t))
unfolding word
word_step t =
    either_step (head t == ascii.lower_t) _ _ (picked_step _ (Token.boolean true) refl)
    (either_step (head t == ascii.lower_f) _ _ (picked_step _ (Token.boolean false) refl)
    (either_step (head t == ascii.lower_n) _ _ (picked_step _ Token.null refl) (number_step t (after_number t))))

on_passed : (s : Step) (h : ℕ) (m : Mode) (xs : List ℕ) (ls : List Lexeme) → PassesOrFails s → ((k : ℕ) (ls : List Lexeme) → walk_lexemes k (lex m xs) ≡ Some ls → AlsoBytes k m xs ls) → on s h (λ k. walk_lexemes k (lex m xs)) (lex m xs) ≡ Some ls → OnBytes passes h m xs ls
on_passed s h m xs ls (inl is) more e = on_bytes passes h m xs ls (λ c. cc) more (ap (λ (t : Step). on t h (λ k. walk_lexemes k (lex m xs)) (lex m xs)) (sym is) ∙ e)
on_passed s h m xs ls (inr is) more e = none_some (ap (λ (t : Step). on t h (λ k. walk_lexemes k (lex m xs)) (lex m xs)) (sym is) ∙ e)

-- what is walked of the lexemes of these bytes is walked of the bytes, from every mode
AllAlso : List ℕ → Type 0
AllAlso xs = (m : Mode) (h : ℕ) (ls : List Lexeme) → walk_lexemes h (lex m xs) ≡ Some ls → AlsoBytes h m xs ls

byte_also : (m : Mode) (c : Class) (x : ℕ) (xs : List ℕ) (h : ℕ) (ls : List Lexeme) → AllAlso xs → walk_lexemes h (lex_byte m c x xs (λ n. lex n xs)) ≡ Some ls → (behind : List ℕ) × (byte h m c x (λ k n. walk_bytes k n xs) xs ≡ Some behind) × (ls ≡ lex between behind)
unfolding AllAlso
byte_also m c x xs h ls all e = by m c e
  where
    plainly : (n : Mode) → walk_lexemes h (lex n xs) ≡ Some ls → (behind : List ℕ) × (walk_bytes h n xs ≡ Some behind) × (ls ≡ lex between behind)
    plainly n e = let r = all n h ls e in (r.behind, r.walked, r.are)

    by : (m : Mode) (c : Class) → walk_lexemes h (lex_byte m c x xs (λ n. lex n xs)) ≡ Some ls → (behind : List ℕ) × (byte h m c x (λ k n. walk_bytes k n xs) xs ≡ Some behind) × (ls ≡ lex between behind)
    by between quote e = on_passed _ h in_string xs ls (string_step (content plain xs)) (all in_string) e
    by between backslash e = none_some e
    by between operator e = on_bytes _ h between xs ls (λ c. refl) (all between) e
    by between space e = plainly between e
    by between other e = on_passed _ h in_word xs ls (word_step (x ∷ xs)) (all in_word) e
    by in_word quote e = plainly in_word e
    by in_word backslash e = plainly in_word e
    by in_word operator e = on_bytes _ h between xs ls (λ c. refl) (all between) e
    by in_word space e = plainly between e
    by in_word other e = plainly in_word e
    by in_string quote e = plainly between e
    by in_string backslash e = plainly in_escape e
    by in_string operator e = plainly in_string e
    by in_string space e = plainly in_string e
    by in_string other e = plainly in_string e
    by in_escape c e = plainly in_string e

also_bytes : (xs : List ℕ) → AllAlso xs
unfolding lex AllAlso
also_bytes [] m h ls e = none_some e
also_bytes (x ∷ xs) m h ls e = let r = byte_also m (class x) x xs h ls (also_bytes xs) e in record { behind = r.0; walked = r.1; are = r.2 }

-- the same walk with more bytes behind
on_longer : (s : Step) (h : ℕ) (f g : ℕ → Option (List ℕ)) (a b zs : List ℕ) → ((k : ℕ) (zs : List ℕ) → f k ≡ Some zs → g k ≡ Some (zs ++ b)) → on s h f a ≡ Some zs → on s h g (a ++ b) ≡ Some (zs ++ b)
on_longer opens h f g a b zs more e = more (suc h) zs e
on_longer closes zero f g a b zs more e = none_some e
on_longer closes (suc zero) f g a b zs more e = ap (λ (ys : List ℕ). Some (ys ++ b)) (same_some e)
on_longer closes (suc (suc h)) f g a b zs more e = more (suc h) zs e
on_longer passes zero f g a b zs more e = none_some e
on_longer passes (suc h) f g a b zs more e = more (suc h) zs e
on_longer fails h f g a b zs more e = none_some e

byte_longer : (h : ℕ) (m : Mode) (c : Class) (x : ℕ) (f g : ℕ → Mode → Option (List ℕ)) (a b zs : List ℕ) → ((k : ℕ) (n : Mode) (zs : List ℕ) → f k n ≡ Some zs → g k n ≡ Some (zs ++ b)) → byte h m c x f a ≡ Some zs → byte h m c x g (a ++ b) ≡ Some (zs ++ b)
byte_longer h between quote x f g a b zs more e = on_longer passes h (λ k. f k in_string) (λ k. g k in_string) a b zs (λ k. more k in_string) e
byte_longer h between backslash x f g a b zs more e = none_some e
byte_longer h between operator x f g a b zs more e = on_longer _ h (λ k. f k between) (λ k. g k between) a b zs (λ k. more k between) e
byte_longer h between space x f g a b zs more e = more h between zs e
byte_longer h between other x f g a b zs more e = on_longer passes h (λ k. f k in_word) (λ k. g k in_word) a b zs (λ k. more k in_word) e
byte_longer h in_word quote x f g a b zs more e = more h in_word zs e
byte_longer h in_word backslash x f g a b zs more e = more h in_word zs e
byte_longer h in_word operator x f g a b zs more e = on_longer _ h (λ k. f k between) (λ k. g k between) a b zs (λ k. more k between) e
byte_longer h in_word space x f g a b zs more e = more h between zs e
byte_longer h in_word other x f g a b zs more e = more h in_word zs e
byte_longer h in_string quote x f g a b zs more e = more h between zs e
byte_longer h in_string backslash x f g a b zs more e = more h in_escape zs e
byte_longer h in_string operator x f g a b zs more e = more h in_string zs e
byte_longer h in_string space x f g a b zs more e = more h in_string zs e
byte_longer h in_string other x f g a b zs more e = more h in_string zs e
byte_longer h in_escape c x f g a b zs more e = more h in_string zs e

pub walk_longer : (a b : List ℕ) (h : ℕ) (m : Mode) (zs : List ℕ) → walk_bytes h m a ≡ Some zs → walk_bytes h m (a ++ b) ≡ Some (zs ++ b)
walk_longer [] b h m zs e = none_some e
walk_longer (x ∷ a) b h m zs e = byte_longer h m (class x) x (λ k n. walk_bytes k n a) (λ k n. walk_bytes k n (a ++ b)) a b zs (walk_longer a b) e

-- ---- A text that is read

-- a text that a bracket opens, and that is read: behind the bracket that closes it stand spaces
pub record Whole (text : List ℕ) : Type 0 where
  pub behind : List ℕ
  pub walked : walk_bytes 0 between text ≡ Some behind
  pub silent : lex between behind ≡ []
  pub good : AllGood (lex between text)

pub whole_of : (d : ℕ) (text : List ℕ) (j : Json) → value d (tokens text) ≡ Some (j, []) → begins_open (tokens text) ≡ true → Whole text
unfolding AllAlso
whole_of d text j e is =
    let over : walk 0 (tokens text) ≡ Some [] = subst (Walked (tokens text)) e (value_walked d (tokens text) is) in
    let ls = from_first (lex between text) [] over in
    let none : ls.behind ≡ [] = no_lexeme ls.behind (sym ls.are) in
    let bytes = also_bytes text between 0 ls.behind ls.walked in
    record { behind = bytes.behind; walked = bytes.walked; silent = sym bytes.are ∙ none; good = all_good (lex between text) 0 (ls.walked ∙ ap (λ (x : List Lexeme). Some x) none) }
