-- Texts of numbers as the low bytes of a word.
use Rattle.std.proofs.Common.{◌≡◌, ℕ, zero, suc, ◌+◌, ◌-◌, ◌*◌, ◌/◌, ◌%◌, ◌^◌, ◌<◌, ◌≤◌, true, List, [], ◌∷◌, ◌++◌, length, take, drop, get_or, Some, refl, sym, ap, subst, ◌∙◌, arith, inl, inr}
use Rattle.std.specs.Prelude.{bit_and, decimal}
use Rattle.std.specs.Int.{w64, from_le_bytes}
use Rattle.std.specs.List.{list_all}
use Rattle.std.proofs.Math.Nat.{mul_assoc, pow-le-pow_right}
use Rattle.std.proofs.lemmas.Bool.{cases_lt}
use Rattle.std.proofs.lemmas.Fmt.{decimal_digit, decimal_step, digits_decimal}
use Rattle.std.proofs.lemmas.List.{take-append-drop, take-take, length-append, length-take-le, length-drop}
use Rattle.std.proofs.lemmas.Nat.{one_shl, and_mask, div-add-mod', mod-mul-add, mod_below, pow_pos, pow-add}
use Rattle.lengths.proofs.Digits.{digit_of}
use Rattle.texts.specs.Digits.{is_decimal_digit}
use Rattle.verdict.specs.LineNumbers.{worth}
use Rattle.verdict.specs.ReportReading.{behind}
use Rattle.verdict.proofs.Steps.{and_both, behind_again, own}

abbrev pub AreBytes : List ℕ → Type 0
AreBytes [] = Unit {0}
AreBytes (b ∷ bs) = (b < 256) × AreBytes bs

pub bytes_of : (bs : List ℕ) → ((i : ℕ) → get_or bs i 0 < 256) → AreBytes bs
bytes_of [] h = tt
bytes_of (b ∷ bs) h = (h 0, bytes_of bs (λ i. h (suc i)))

first_bytes : (k : ℕ) (bs : List ℕ) → AreBytes bs → AreBytes (take k bs)
first_bytes zero bs h = tt
first_bytes (suc k) [] h = tt
first_bytes (suc k) (b ∷ bs) h = (h.0, first_bytes k bs h.1)

last_bytes : (k : ℕ) (bs : List ℕ) → AreBytes bs → AreBytes (drop k bs)
last_bytes zero bs h = h
last_bytes (suc k) [] h = tt
last_bytes (suc k) (b ∷ bs) h = last_bytes k bs h.1

digits_are_bytes : (ds : List ℕ) → list_all is_decimal_digit ds ≡ true → AreBytes ds
digits_are_bytes [] e = tt
digits_are_bytes (d ∷ ds) e =
    let both = and_both (is_decimal_digit d) (list_all is_decimal_digit ds) e in
    let digit = digit_of d both.0 in
    (omega (arith, digit.high), digits_are_bytes ds both.1)

-- one byte more
pub power_more : (k : ℕ) → 2 ^ (8 * suc k) ≡ 2 ^ (8 * k) * 256
power_more k = let e : 8 * suc k ≡ 8 * k + 8 = omega arith in ap (λ (n : ℕ). 2 ^ n) e ∙ pow-add 2 (8 * k) 8

-- the low bytes of a word are worth what its first bytes are
front_worth : (k : ℕ) (bs : List ℕ) → AreBytes bs → worth bs % 2 ^ (8 * k) ≡ worth (take k bs)
front_worth zero bs h = omega arith
front_worth (suc k) [] h = let p = pow_pos (8 * suc k) in omega (arith, p)
front_worth (suc k) (b ∷ bs) h =
    let p : ℕ = 2 ^ (8 * k) in
    let w : ℕ = worth bs in
    let some : 0 < p = pow_pos (8 * k) in
    let parts : w / p * p + w % p ≡ w = div-add-mod' w p in
    let low : w % p < p = mod_below w p some in
    let joined : w / p * (p * 256) ≡ w / p * p * 256 = sym (mul_assoc (w / p) p 256) in
    let whole : b + 256 * w ≡ w / p * (p * 256) + (b + 256 * (w % p)) = omega (arith, parts, joined) in
    let small : b + 256 * (w % p) < p * 256 = omega (arith, low, h.0) in
    ap (λ (m : ℕ). (b + 256 * w) % m) (power_more k)
    ∙ ap (λ (n : ℕ). n % (p * 256)) whole
    ∙ mod-mul-add (w / p) (p * 256) (b + 256 * (w % p)) small
    ∙ ap (λ (r : ℕ). b + 256 * r) (front_worth k bs h.1)

pub worth_below : (bs : List ℕ) → AreBytes bs → worth bs < 2 ^ (8 * length bs)
worth_below [] h = omega arith
worth_below (b ∷ bs) h = let less = worth_below bs h.1 in omega (arith, less, h.0, power_more (length bs))

same_bytes : (xs ys : List ℕ) → length xs ≡ length ys → AreBytes xs → AreBytes ys → worth xs ≡ worth ys → xs ≡ ys
same_bytes [] [] l h k e = refl
same_bytes [] (y ∷ ys) l h k e = absurd (omega (arith, l))
same_bytes (x ∷ xs) [] l h k e = absurd (omega (arith, l))
same_bytes (x ∷ xs) (y ∷ ys) l h k e =
    let first : x ≡ y = omega (arith, h.0, k.0, e) in
    let others : worth xs ≡ worth ys = omega (arith, h.0, k.0, e) in
    let more : xs ≡ ys = same_bytes xs ys (omega (arith, l)) h.1 k.1 others in
    cc

eight : (bs : List ℕ) → length bs ≡ 8 → from_le_bytes w64 bs ≡ worth bs
eight [] e = absurd (omega (arith, e))
eight (a ∷ []) e = absurd (omega (arith, e))
eight (a ∷ b ∷ []) e = absurd (omega (arith, e))
eight (a ∷ b ∷ c ∷ []) e = absurd (omega (arith, e))
eight (a ∷ b ∷ c ∷ d ∷ []) e = absurd (omega (arith, e))
eight (a ∷ b ∷ c ∷ d ∷ f ∷ []) e = absurd (omega (arith, e))
eight (a ∷ b ∷ c ∷ d ∷ f ∷ g ∷ []) e = absurd (omega (arith, e))
eight (a ∷ b ∷ c ∷ d ∷ f ∷ g ∷ i ∷ []) e = absurd (omega (arith, e))
eight (a ∷ b ∷ c ∷ d ∷ f ∷ g ∷ i ∷ j ∷ []) e = omega arith
eight (a ∷ b ∷ c ∷ d ∷ f ∷ g ∷ i ∷ j ∷ k ∷ bs) e = absurd (omega (arith, e))

-- a text stands in front, where the low bytes of the first word are it
pub text_stands : (bytes front text : List ℕ) (x mask word len : ℕ) → front ≡ take 8 bytes → 8 ≤ length bytes → ((i : ℕ) → get_or bytes i 0 < 256) → AreBytes text → x ≡ from_le_bytes w64 front → bit_and x mask ≡ word
    → mask + 1 ≡ 2 ^ (8 * len) → len ≤ 7 → worth text ≡ word → length text ≡ len → behind text bytes ≡ Some (drop len bytes)
text_stands bytes front text x mask word len first enough fit are read same masks few spelled long =
    let is_mask : mask ≡ 2 ^ (8 * len) - 1 = omega (arith, masks) in
    let low : x % 2 ^ (8 * len) ≡ word = sym (and_mask x (8 * len)) ∙ ap (bit_and x) (sym is_mask) ∙ same in
    let bytes_front : AreBytes front = subst AreBytes (sym first) (first_bytes 8 bytes (bytes_of bytes fit)) in
    let wide : length front ≡ 8 = ap length first ∙ length-take-le 8 bytes enough in
    let is_x : x ≡ worth front = read ∙ eight front wide in
    let equal : worth (take len front) ≡ worth text = sym (front_worth len front bytes_front) ∙ ap (λ (n : ℕ). n % 2 ^ (8 * len)) (sym is_x) ∙ low ∙ sym spelled in
    let taken : length (take len front) ≡ length text = length-take-le len front (omega (arith, wide, few)) ∙ sym long in
    let alike : take len front ≡ text = same_bytes (take len front) text taken (first_bytes len front bytes_front) are equal in
    let stands : take len bytes ≡ text = sym (ap (take len) first ∙ take-take len 8 bytes (omega (arith, few))) ∙ alike in
    let whole : bytes ≡ text ++ drop len bytes = sym (take-append-drop len bytes) ∙ ap (λ (t : List ℕ). t ++ drop len bytes) stands in
    ap (behind text) whole ∙ behind_again text (drop len bytes)

-- the number stands in front, where the low bytes of the first word are its text
pub number_stands : (bytes front : List ℕ) (x mask word len number : ℕ) → front ≡ take 8 bytes → 8 ≤ length bytes → ((i : ℕ) → get_or bytes i 0 < 256) → x ≡ from_le_bytes w64 front → bit_and x mask ≡ word
    → mask + 1 ≡ 2 ^ (8 * len) → len ≤ 7 → (0 < len → worth (decimal number) ≡ word) → (0 < len → length (decimal number) ≡ len) → (len ≡ 0 → word ≡ 1) → number < 2 ^ 64
    → behind (decimal number) bytes ≡ Some (drop len bytes)
number_stands bytes front x mask word zero number first enough fit read same masks few spelled long unknown small =
    let none : mask ≡ 2 ^ 0 - 1 = omega (arith, masks) in
    let all : bit_and x mask ≡ x % 2 ^ 0 = ap (bit_and x) none ∙ and_mask x 0 in
    absurd (omega (arith, all, same, unknown refl))
number_stands bytes front x mask word (suc k) number first enough fit read same masks few spelled long unknown small =
    let some : 0 < suc k = omega arith in
    text_stands bytes front (decimal number) x mask word (suc k) first enough fit (digits_are_bytes (decimal number) (digits_decimal own number small)) read same masks few (spelled some) (long some)

-- the last digit rises
raised : (front : List ℕ) (d : ℕ) → worth (front ++ suc d ∷ []) ≡ worth (front ++ d ∷ []) + 2 ^ (8 * length front)
raised [] d = omega arith
raised (x ∷ front) d = let more = raised front d in omega (arith, more, power_more (length front))

-- what rising gives a text
pub record Rises (number : ℕ) : Type 0 where
  pub long : length (decimal (number + 1)) ≡ length (decimal number)
  pub word : (len : ℕ) → length (decimal number) ≡ suc len → worth (decimal (number + 1)) ≡ worth (decimal number) + 2 ^ (8 * len)

pub rises : (number : ℕ) → number + 1 < 2 ^ 64 → number % 10 < 9 → Rises number
rises number small low = elim (cases_lt number 10) [
  | inl one ↦ (
      let here : decimal number ≡ (48 + number) ∷ [] = decimal_digit number one in
      let there : decimal (number + 1) ≡ (48 + (number + 1)) ∷ [] = decimal_digit (number + 1) (omega (arith, one, low)) in
      by [] (48 + number) (48 + (number + 1)) here there (omega arith)
      )
  | inr many ↦ (
      let front : List ℕ = decimal (number / 10) in
      let same : (number + 1) / 10 ≡ number / 10 = omega (arith, low) in
      let here : decimal number ≡ front ++ (48 + number % 10) ∷ [] = decimal_step number many (omega (arith, small)) in
      let there : decimal (number + 1) ≡ front ++ (48 + (number + 1) % 10) ∷ [] = decimal_step (number + 1) (omega (arith, many)) small ∙ ap (λ (n : ℕ). decimal n ++ (48 + (number + 1) % 10) ∷ []) same in
      by front (48 + number % 10) (48 + (number + 1) % 10) here there (omega (arith, low))
      )
]
  where
    by : (front : List ℕ) (d e : ℕ) → decimal number ≡ front ++ d ∷ [] → decimal (number + 1) ≡ front ++ e ∷ [] → e ≡ suc d → Rises number
    by front d e here there next =
        let longs : length (front ++ d ∷ []) ≡ length front + 1 = length-append front (d ∷ []) in
        let longer : length (front ++ e ∷ []) ≡ length front + 1 = length-append front (e ∷ []) in
        record {
          long = ap length there ∙ longer ∙ sym longs ∙ ap length (sym here);
          word = λ len is.
              let size : len ≡ length front = omega (arith, is, ap length here, longs) in
              ap worth there ∙ ap (λ (k : ℕ). worth (front ++ k ∷ [])) next ∙ raised front d ∙ ap (λ (t : List ℕ). worth t + 2 ^ (8 * length front)) (sym here) ∙ ap (λ (k : ℕ). worth (decimal number) + 2 ^ (8 * k)) (sym size);
        }

-- ---- The word of a text, from its last byte on

-- there is room for one byte more
pub room : (bytes : List ℕ) (at : ℕ) → ((i : ℕ) → get_or bytes i 0 < 256) → length bytes ≤ 7 → 1 ≤ at → worth (drop at bytes) < 2 ^ 48
room bytes at fit few some =
    let below = worth_below (drop at bytes) (last_bytes at bytes (bytes_of bytes fit)) in
    let long = length-drop at bytes in
    let powers : 2 ^ (8 * length (drop at bytes)) ≤ 2 ^ 48 = pow-le-pow_right {n = 2} (omega arith) {i = 8 * length (drop at bytes)} {j = 48} (omega (arith, long, few, some)) in
    omega (arith, below, powers)

-- ---- The next number

pub mask_is : (len : ℕ) → len ≤ 7 → 1 * 2 ^ (8 * len) % 2 ^ 64 - 1 + 1 ≡ 2 ^ (8 * len)
mask_is len few =
    let whole : 1 * 2 ^ (8 * len) % 2 ^ 64 ≡ 2 ^ (8 * len) = one_shl (8 * len) 64 (omega (arith, few)) in
    let some = pow_pos (8 * len) in
    omega (arith, whole, some)

-- what the last digit of a number is worth in its word
unit_is : (mask len : ℕ) → mask + 1 ≡ 2 ^ (8 * suc len) → mask / 256 + 1 ≡ 2 ^ (8 * len)
unit_is mask len masks =
    let more = power_more len in
    let some = pow_pos (8 * len) in
    omega (arith, masks, more, some)

pub stepped : (number len word mask : ℕ) → number + 1 < 2 ^ 64 → number % 10 < 9 → 0 < len → length (decimal number) ≡ len → worth (decimal number) ≡ word → mask + 1 ≡ 2 ^ (8 * len)
    → (worth (decimal (number + 1)) ≡ word + mask / 256 + 1) × (length (decimal (number + 1)) ≡ len)
stepped number zero word mask small low some long spelled masks = absurd (omega (arith, some))
stepped number (suc k) word mask small low some long spelled masks =
    let r = rises number small low in
    let unit = unit_is mask k masks in
    (r.word k long ∙ omega (arith, unit, spelled), r.long ∙ long)

pub word_fits : (number len word mask : ℕ) → number < 2 ^ 64 → len ≤ 7 → length (decimal number) ≡ len → worth (decimal number) ≡ word → mask + 1 ≡ 2 ^ (8 * len) → word + mask / 256 + 1 < 2 ^ 64
word_fits number len word mask small few long spelled masks =
    let below = worth_below (decimal number) (digits_are_bytes (decimal number) (digits_decimal own number small)) in
    let same : 2 ^ (8 * length (decimal number)) ≡ 2 ^ (8 * len) = ap (λ (k : ℕ). 2 ^ (8 * k)) long in
    let powers : 2 ^ (8 * len) ≤ 2 ^ 56 = pow-le-pow_right {n = 2} (omega arith) {i = 8 * len} {j = 56} (omega (arith, few)) in
    omega (arith, below, same, powers, spelled, masks)

-- ---- The next number where the last digit is 9

nine_behind : (front : List ℕ) → worth (front ++ 57 ∷ []) ≡ worth front + 57 * 2 ^ (8 * length front)
nine_behind [] = omega arith
nine_behind (x ∷ front) = let more = nine_behind front in omega (arith, more, power_more (length front))

nought_behind : (front : List ℕ) → worth (front ++ 48 ∷ []) ≡ worth front + 48 * 2 ^ (8 * length front)
nought_behind [] = omega arith
nought_behind (x ∷ front) = let more = nought_behind front in omega (arith, more, power_more (length front))

-- what the digit before the last is worth in a word
tens_is : (mask len : ℕ) → mask + 1 ≡ 2 ^ (8 * suc (suc len)) → mask / 65536 + 1 ≡ 2 ^ (8 * len)
tens_is mask len masks =
    let more = power_more (suc len) in
    let less = power_more len in
    let some = pow_pos (8 * len) in
    omega (arith, masks, more, less, some)

-- The last digit falls from 9 to 0, and the one before it rises.
pub record Carries (number len word mask : ℕ) : Type 0 where
  pub enough : 2303 * (mask / 65536 + 1) ≤ word
  pub spelled : worth (decimal (number + 1)) ≡ word - 2303 * (mask / 65536 + 1)
  pub long : length (decimal (number + 1)) ≡ len

pub carries : (number len word mask : ℕ) → number + 1 < 2 ^ 64 → number % 10 ≡ 9 → number % 100 < 99 → 2 ≤ len → length (decimal number) ≡ len → worth (decimal number) ≡ word → mask + 1 ≡ 2 ^ (8 * len) → Carries number len word mask
carries number zero word mask small nine low some long spelled masks = absurd (omega (arith, some))
carries number (suc zero) word mask small nine low some long spelled masks = absurd (omega (arith, some))
carries number (suc (suc k)) word mask small nine low some long spelled masks =
    let m : ℕ = number / 10 in
    let p : ℕ = 2 ^ (8 * k) in
    let many : 10 ≤ number = elim (cases_lt number 10) [
      | inl one ↦ absurd (let e = ap length (decimal_digit number one) in omega (arith, e, long))
      | inr many ↦ many
    ] in
    let here : decimal number ≡ decimal m ++ 57 ∷ [] = decimal_step number many (omega (arith, small)) ∙ ap (λ (d : ℕ). decimal m ++ (48 + d) ∷ []) nine in
    let up : (number + 1) / 10 ≡ m + 1 = omega (arith, nine) in
    let none : (number + 1) % 10 ≡ 0 = omega (arith, nine) in
    let there : decimal (number + 1) ≡ decimal (m + 1) ++ 48 ∷ [] = decimal_step (number + 1) (omega (arith, many)) small ∙ (ap (λ (d : ℕ). decimal ((number + 1) / 10) ++ (48 + d) ∷ []) none ∙ ap (λ (n : ℕ). decimal n ++ 48 ∷ []) up) in
    let r = rises m (omega (arith, small)) (omega (arith, nine, low)) in
    let size : length (decimal m) ≡ suc k = (let e = ap length here in let f = length-append (decimal m) (57 ∷ []) in omega (arith, e, f, long)) in
    let other : length (decimal (m + 1)) ≡ suc k = r.long ∙ size in
    let more : worth (decimal (m + 1)) ≡ worth (decimal m) + p = r.word k size in
    let old : worth (decimal number) ≡ worth (decimal m) + 57 * 2 ^ (8 * suc k) = ap worth here ∙ (nine_behind (decimal m) ∙ ap (λ (n : ℕ). worth (decimal m) + 57 * 2 ^ (8 * n)) size) in
    let new : worth (decimal (number + 1)) ≡ worth (decimal (m + 1)) + 48 * 2 ^ (8 * suc k) = ap worth there ∙ (nought_behind (decimal (m + 1)) ∙ ap (λ (n : ℕ). worth (decimal (m + 1)) + 48 * 2 ^ (8 * n)) other) in
    let unit : mask / 65536 + 1 ≡ p = tens_is mask k masks in
    let whole = power_more k in
    record {
      enough = omega (arith, old, unit, whole, spelled);
      spelled = omega (arith, old, new, more, unit, whole, spelled);
      long = ap length there ∙ (let f = length-append (decimal (m + 1)) (48 ∷ []) in omega (arith, f, other));
    }
