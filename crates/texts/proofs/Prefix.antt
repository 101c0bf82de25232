-- The lines of a prefix of a file.
use Rattle.std.proofs.Common.{◌≡◌, ℕ, zero, suc, ◌+◌, ◌-◌, ◌<◌, ◌≤◌, ◌⊎◌, inl, inr, Bool, true, false, nat_eq, List, [], ◌∷◌, ◌++◌, length, take, drop, refl, sym, ap, ◌∙◌, subst, arith}
use Rattle.std.specs.List.{position_or_len, ends_with}
use Rattle.std.proofs.lemmas.List.{drop-take, take-take, length-append, length-drop, length-take-le}
use Rattle.std.proofs.Math.Seq.{take-length}
use Rattle.std.proofs.lemmas.Slice.Eq.{ends_is}
use Rattle.std.proofs.lemmas.Bool.Decides.{Decides-eqb, leb_tells}
use Rattle.texts.specs.Lines.{PlainLine, is_feed, lines_from, lines_of, without_return}
use Rattle.texts.proofs.Cuts.{place, none_ahead, last_ahead, ended_ahead}

-- A line that the cut goes through, and what is left of it. Its carriage return may be left, which the line feed behind it hid.
pub record IsCutOf (line cut : PlainLine) : Type 0 where
  pub number : cut.number ≡ line.number
  pub at : cut.at ≡ line.at
  pub text : ((k : ℕ) × (cut.text ≡ take k line.text)) ⊎ (cut.text ≡ line.text ++ (13 ∷ []))

-- The lines of the first n bytes are the first lines, but that the last may be cut. They all stand before n.
abbrev pub AreCut : ℕ → List PlainLine → List PlainLine → Type 0
AreCut n lines [] = Unit {0}
AreCut n [] (cut ∷ cuts) = ⊥
AreCut n (line ∷ lines) (cut ∷ cuts) = (cut.at + length cut.text ≤ n) × (((cut ≡ line) × AreCut n lines cuts) ⊎ ((cuts ≡ []) × IsCutOf line cut))

position_within : (xs : List ℕ) → position_or_len is_feed xs ≤ length xs
position_within [] = omega arith
position_within (x ∷ xs) = by (is_feed x) refl (position_within xs)
  where
    by : (b : Bool) → is_feed x ≡ b → position_or_len is_feed xs ≤ length xs → position_or_len is_feed (x ∷ xs) ≤ suc (length xs)
    by true e more = rw e (omega arith)
    by false e more = rw e (omega (arith, more))

-- the first feed is not in the first n bytes
feed_behind : (xs : List ℕ) (n : ℕ) → n ≤ position_or_len is_feed xs → position_or_len is_feed (take n xs) ≡ length (take n xs)
feed_behind [] zero h = refl
feed_behind [] (suc n) h = refl
feed_behind (x ∷ xs) zero h = refl
feed_behind (x ∷ xs) (suc n) h = by (is_feed x) refl (feed_behind xs n)
  where
    by : (b : Bool) → is_feed x ≡ b → (n ≤ position_or_len is_feed xs → position_or_len is_feed (take n xs) ≡ length (take n xs)) → position_or_len is_feed (x ∷ take n xs) ≡ suc (length (take n xs))
    by true e more = absurd (let k : position_or_len is_feed (x ∷ xs) ≡ 0 = rw e refl in omega (arith, h, k))
    by false e more =
        let k : position_or_len is_feed (x ∷ xs) ≡ 1 + position_or_len is_feed xs = rw e (omega arith) in
        let r = more (omega (arith, h, k)) in
        rw (e, r) (omega arith)

-- the first feed is in the first n bytes
feed_within : (xs : List ℕ) (n : ℕ) → position_or_len is_feed xs < n → position_or_len is_feed xs < length xs → position_or_len is_feed (take n xs) ≡ position_or_len is_feed xs
feed_within [] n h below = absurd (omega (arith, below))
feed_within (x ∷ xs) zero h below = absurd (omega (arith, h))
feed_within (x ∷ xs) (suc n) h below = by (is_feed x) refl (feed_within xs n)
  where
    by : (b : Bool) → is_feed x ≡ b → (position_or_len is_feed xs < n → position_or_len is_feed xs < length xs → position_or_len is_feed (take n xs) ≡ position_or_len is_feed xs) → position_or_len is_feed (x ∷ take n xs) ≡ position_or_len is_feed (x ∷ xs)
    by true e more = rw e refl
    by false e more =
        let k : position_or_len is_feed (x ∷ xs) ≡ 1 + position_or_len is_feed xs = rw e (omega arith) in
        let r = more (omega (arith, h, k)) (omega (arith, below, k)) in
        rw (e, r) refl

-- a text that a carriage return ends
return_behind : (t : List ℕ) → ends_with nat_eq t (13 ∷ []) ≡ true → t ≡ take (length t - 1) t ++ (13 ∷ [])
return_behind t e = (ends_is Decides-eqb t (13 ∷ []) (ends_with nat_eq t (13 ∷ [])) refl).0 e

-- what is left of a part that a line feed follows
abbrev IsLeft : List ℕ → List ℕ → Type 0
IsLeft text left = ((k : ℕ) × (left ≡ take k text)) ⊎ (left ≡ text ++ (13 ∷ []))

left_of : (t : List ℕ) (k : ℕ) → k ≤ length t → IsLeft (without_return t) (take k t)
left_of t k le = by (ends_with nat_eq t (13 ∷ [])) refl
  where
    by : (b : Bool) → ends_with nat_eq t (13 ∷ []) ≡ b → IsLeft (without_return t) (take k t)
    by false e = inl (k, (rw e refl))
    by true e = elim (leb_tells k (length t - 1)) [
      | inl low ↦ inl (k, (rw e (sym (take-take k (length t - 1) t low.1))))
      | inr high ↦ (
          let all : k ≡ length t = omega (arith, le, high.1) in
          let whole : take k t ≡ t = ap (λ (n : ℕ). take n t) all ∙ take-length t in
          inr (whole ∙ return_behind t e ∙ (rw e refl))
          )
    ]

-- the cut goes through the first line ahead, or stands at its front
cut_here : (number at n : ℕ) (bytes text : List ℕ) (more : List PlainLine) → n ≤ position_or_len is_feed bytes → n ≤ length bytes → IsLeft text (take n bytes) → AreCut (at + n) (record { number = number; at = at; text = text } ∷ more) (lines_from (place number at (take n bytes)))
cut_here number at zero bytes text more le within left = rw (none_ahead number at (take 0 bytes) refl) tt
cut_here number at (suc n) bytes text more le within left =
    let long : length (take (suc n) bytes) ≡ suc n = length-take-le (suc n) bytes within in
    rw (last_ahead number at at (take (suc n) bytes) (feed_behind bytes (suc n) le) (omega (arith, long))) (omega (arith, long), inr (none_ahead (number + 1) at [] refl, record { number = refl; at = refl; text = left }))

-- without its carriage return a text is no longer
without_return_short : (t : List ℕ) → length (without_return t) ≤ length t
without_return_short t = by (ends_with nat_eq t (13 ∷ [])) refl
  where
    by : (b : Bool) → ends_with nat_eq t (13 ∷ []) ≡ b → length (without_return t) ≤ length t
    by false e = rw e (omega arith)
    by true e = rw e (let l = length-take-le (length t - 1) t (omega arith) in omega (arith, l))

-- the cut is behind the first line ahead
cut_behind : (number at to n m : ℕ) (xs : List ℕ) → to ≡ position_or_len is_feed xs → n ≡ to + 1 + m → n ≤ length xs → AreCut (at + to + 1 + m) (lines_from (place (number + 1) (at + to + 1) (drop (to + 1) xs))) (lines_from (place (number + 1) (at + to + 1) (take m (drop (to + 1) xs)))) → AreCut (at + n) (lines_from (place number at xs)) (lines_from (place number at (take n xs)))
cut_behind number at to n m xs first parts within more =
    let whole = ended_ahead number at to xs first (omega arith) in
    let long : length (take n xs) ≡ n = length-take-le n xs within in
    let feed : position_or_len is_feed (take n xs) ≡ to = feed_within xs n (omega (arith, first, parts)) (omega (arith, first, parts)) ∙ sym first in
    let cut = ended_ahead number at to (take n xs) (sym feed) (omega (arith, long, parts)) in
    let text : take to (take n xs) ≡ take to xs = take-take to n xs (omega (arith, parts)) in
    let rest : drop (to + 1) (take n xs) ≡ take m (drop (to + 1) xs) = ap (λ (k : ℕ). drop (to + 1) (take k xs)) parts ∙ drop-take (to + 1) m xs in
    let short = without_return_short (take to xs) in
    let size : length (take to xs) ≡ to = length-take-le to xs (omega (arith, parts)) in
    let sum : at + to + 1 + m ≡ at + n = omega (arith, parts) in
    rw (whole, cut, text, rest) (omega (arith, short, size, parts), inl (refl, subst (λ (k : ℕ). AreCut k (lines_from (place (number + 1) (at + to + 1) (drop (to + 1) xs))) (lines_from (place (number + 1) (at + to + 1) (take m (drop (to + 1) xs))))) sum more))

-- the lines of the first n bytes that lie ahead
lines_cut : (fuel number at n : ℕ) (bytes : List ℕ) → length bytes ≤ fuel → n ≤ length bytes → AreCut (at + n) (lines_from (place number at bytes)) (lines_from (place number at (take n bytes)))
lines_cut fuel number at n [] short within = rw (none_ahead number at (take n []) (omega (arith, within, length-take-le {A = ℕ} n [] within))) tt
lines_cut zero number at n (b ∷ bytes) short within = absurd (omega (arith, short))
lines_cut (suc fuel) number at n (b ∷ bytes) short within = by (b ∷ bytes) short within (lines_cut fuel)
  where
    by : (xs : List ℕ) → length xs ≤ suc fuel → n ≤ length xs → ((number at n : ℕ) (bytes : List ℕ) → length bytes ≤ fuel → n ≤ length bytes → AreCut (at + n) (lines_from (place number at bytes)) (lines_from (place number at (take n bytes)))) → AreCut (at + n) (lines_from (place number at xs)) (lines_from (place number at (take n xs)))
    by xs short within more =
        let to = position_or_len is_feed xs in
        elim (leb_tells n to) [
          | inl low ↦ (
              elim (leb_tells (length xs) to) [
                | inl none ↦ (
                    elim (leb_tells 1 (length xs)) [
                      | inl some ↦ rw (last_ahead number at at xs (let h = position_within xs in omega (arith, none.1, h)) some.1) (cut_here number at n xs xs (lines_from (place (number + 1) at [])) low.1 within (inl (n, refl)))
                      | inr empty ↦ rw (none_ahead number at (take n xs) (let l = length-take-le n xs within in omega (arith, l, empty.1, within))) tt
                    ]
                    )
                | inr some ↦ (
                    let left = left_of (take to xs) n (let l = length-take-le to xs (omega (arith, some.1)) in omega (arith, l, low.1)) in
                    rw (ended_ahead number at to xs refl some.1) (cut_here number at n xs (without_return (take to xs)) (lines_from (place (number + 1) (at + to + 1) (drop (to + 1) xs))) low.1 within (subst (IsLeft (without_return (take to xs))) (take-take n to xs low.1) left))
                    )
              ]
              )
          | inr high ↦ (
              let long = length-drop (to + 1) xs in
              cut_behind number at to n (n - (to + 1)) xs refl (omega (arith, high.1)) within (more (number + 1) (at + to + 1) (n - (to + 1)) (drop (to + 1) xs) (omega (arith, long, short)) (omega (arith, long, within)))
              )
        ]

-- the lines of a prefix of a file
pub lines_of_prefix : (file : List ℕ) (n : ℕ) → n ≤ length file → AreCut n (lines_of file) (lines_of (take n file))
lines_of_prefix file n within = subst (λ (k : ℕ). AreCut k (lines_of file) (lines_of (take n file))) (omega arith) (lines_cut (length file) 1 0 n file (omega arith) within)

-- A text tells the end of a file by as many bytes as it reaches. So does no part of a text that does not tell it.
pub record TellsEnd (is_end : List ℕ → Bool) (reach : List ℕ → ℕ) : Type 0 where
  pub whole : (text : List ℕ) → is_end text ≡ true → reach text ≤ length text
  pub part : (text : List ℕ) (k : ℕ) → is_end (take k text) ≡ true → (is_end text ≡ true) × (reach text ≤ length (take k text))
  pub returned : (text : List ℕ) → is_end (text ++ (13 ∷ [])) ≡ true → is_end text ≡ true

-- no line tells the end
abbrev pub NoneEnds : (List ℕ → Bool) → List PlainLine → Type 0
NoneEnds is_end [] = Unit {0}
NoneEnds is_end (line ∷ lines) = (is_end line.text ≡ false) × NoneEnds is_end lines

-- what is left of a line tells the end where the line does, and where it reaches so far
cut_ends : (is_end : List ℕ → Bool) (reach : List ℕ → ℕ) (line cut : PlainLine) → TellsEnd is_end reach → IsCutOf line cut → is_end cut.text ≡ true → (is_end line.text ≡ true) × (reach line.text ≤ length cut.text)
cut_ends is_end reach line cut tells c e = elim c.text [
  | inl k ↦ (
      let h = tells.part line.text k.0 (subst (λ (t : List ℕ). is_end t ≡ true) k.1 e) in
      (h.0, subst (λ (t : List ℕ). reach line.text ≤ length t) (sym k.1) h.1)
      )
  | inr r ↦ (
      let h = tells.returned line.text (subst (λ (t : List ℕ). is_end t ≡ true) r e) in
      let w = tells.whole line.text h in
      let long = length-append line.text (13 ∷ []) in
      (h, subst (λ (t : List ℕ). reach line.text ≤ length t) (sym r) (omega (arith, w, long)))
      )
]

-- where it may not, it does not
cut_silent : (is_end : List ℕ → Bool) (reach : List ℕ → ℕ) (line cut : PlainLine) → TellsEnd is_end reach → IsCutOf line cut → ((is_end line.text ≡ true) × (reach line.text ≤ length cut.text) → ⊥) → is_end cut.text ≡ false
cut_silent is_end reach line cut tells c not = by (is_end cut.text) refl
  where
    by : (b : Bool) → is_end cut.text ≡ b → is_end cut.text ≡ false
    by false e = e
    by true e = absurd (not (cut_ends is_end reach line cut tells c e))

-- where the lines before one tell no end, no line of a prefix tells it that ends before that line reaches so far
pub no_end_in_prefix : (is_end : List ℕ → Bool) (reach : List ℕ → ℕ) (n : ℕ) (before : List PlainLine) (line : PlainLine) (after cuts : List PlainLine) → TellsEnd is_end reach → AreCut n (before ++ line ∷ after) cuts → NoneEnds is_end before → is_end line.text ≡ true → n < line.at + reach line.text → NoneEnds is_end cuts
no_end_in_prefix is_end reach n [] line after [] tells a none is low = tt
no_end_in_prefix is_end reach n (first ∷ before) line after [] tells a none is low = tt
no_end_in_prefix is_end reach n [] line after (cut ∷ cuts) tells a none is low = elim a.1 [
  | inl same ↦ absurd (
      let w = tells.whole line.text is in
      let le : line.at + length line.text ≤ n = subst (λ (l : PlainLine). l.at + length l.text ≤ n) same.0 a.0 in
      omega (arith, w, le, low)
      )
  | inr through ↦ (
      let at = through.1.at in
      (cut_silent is_end reach line cut tells through.1 (λ h. let r = h.1 in let le = a.0 in omega (arith, r, le, low, at)), subst (NoneEnds is_end) (sym through.0) tt)
      )
]
no_end_in_prefix is_end reach n (first ∷ before) line after (cut ∷ cuts) tells a none is low = elim a.1 [
  | inl same ↦ (subst (λ (l : PlainLine). is_end l.text ≡ false) (sym same.0) none.0, no_end_in_prefix is_end reach n before line after cuts tells same.1 none.1 is low)
  | inr through ↦ (cut_silent is_end reach first cut tells through.1 (λ h. let yes = h.0 in let no = none.0 in cc), subst (NoneEnds is_end) (sym through.0) tt)
]

-- where a line of a prefix tells the end, the same line of the file does, and both have the same lines before it
pub end_of_prefix : (is_end : List ℕ → Bool) (reach : List ℕ → ℕ) (n : ℕ) (lines before : List PlainLine) (cut : PlainLine) (after : List PlainLine) → TellsEnd is_end reach → AreCut n lines (before ++ cut ∷ after) → is_end cut.text ≡ true → (line : PlainLine) × (later : List PlainLine) × (lines ≡ before ++ line ∷ later) × (is_end line.text ≡ true)
end_of_prefix is_end reach n [] [] cut after tells a is = absurd a
end_of_prefix is_end reach n [] (first ∷ before) cut after tells a is = absurd a
end_of_prefix is_end reach n (line ∷ lines) [] cut after tells a is = (
  line,
  lines,
  refl,
  elim a.1 [
    | inl same ↦ subst (λ (l : PlainLine). is_end l.text ≡ true) same.0 is
    | inr through ↦ (cut_ends is_end reach line cut tells through.1 is).0
  ],
)
end_of_prefix is_end reach n (line ∷ lines) (first ∷ before) cut after tells a is = elim a.1 [
  | inl same ↦ (
      let more = end_of_prefix is_end reach n lines before cut after tells same.1 is in
      (more.0, more.1, ap (λ (ls : List PlainLine). line ∷ ls) more.2 ∙ ap (λ (l : PlainLine). l ∷ (before ++ more.0 ∷ more.1)) (sym same.0), more.3)
      )
  | inr through ↦ absurd (some_line before cut after through.0)
]
  where
    some_line : (before : List PlainLine) (cut : PlainLine) (after : List PlainLine) → before ++ cut ∷ after ≡ [] → ⊥
    some_line [] cut after h = cc
    some_line (first ∷ before) cut after h = cc
