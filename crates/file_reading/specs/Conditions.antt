-- The words for conditions that stand one after another, as the readers' tables of what an item does have them.
use Rattle.std.specs.Prelude.{Bool, if◌then◌else◌, Option, Some, None, Result, Ok, Err}

-- and then
infixl 10 ◌>>=◌
abbrev pub ◌>>=◌ : {A B W : Type 0} → Result A W → (A → Result B W) → Result B W
(Ok x) >>= f = f x
(Err e) >>= f = Err e

-- a refusal where the test holds, and otherwise what is more
abbrev pub unless : {A W : Type 0} → Bool → W → Result A W → Result A W
unless test kind more = if test then Err kind else more

-- a refusal where there is nothing
abbrev pub needed : {A W : Type 0} → W → Option A → Result A W
needed kind None = Err kind
needed kind (Some x) = Ok x
