-- Lists and members of values.
use Rattle.std.proofs.Common.{◌≡◌, ℕ, ◌+◌, ◌<◌, nat_eq, List, [], ◌∷◌, ◌++◌, length, map, take, get_or, Some, String, Global, refl, sym, ap, ◌∙◌, arith}
use Rattle.std.proofs.lemmas.List.{length-map, map-append, take-map, take_more}
use Rattle.serde_json.specs.Data.{Data}
use Rattle.serde_json.specs.Events.{members_len}
use Rattle.serde_json.specs.Find.{as_array, as_object, get}
use Rattle.serde_json.specs.View.{view, items_of, items_view, members_of, members_view}
use Rattle.serde_json.specs.declared.value.Value.{Value}
use Rattle.board_package.specs.Manifest.{has_members, list_at, listed}

listed-items_of : (ds : List Data) → listed (items_of ds) ≡ ds
listed-items_of [] = refl
listed-items_of (d ∷ ds) = ap (λ (rest : List Data). d ∷ rest) (listed-items_of ds)

members_len-members_of : (ms : List (String Global × Data)) → members_len (members_of ms) ≡ length ms
members_len-members_of [] = refl
members_len-members_of (m ∷ ms) = let rest = members_len-members_of ms in omega arith

members_len-view : (ms : List (String Global × Value)) → members_len (members_view ms) ≡ length ms
members_len-view ms = members_len-members_of _ ∙ length-map ms _

-- the members of an object are counted
pub members_counted : (value : Data) (ms : List (String Global × Value)) (n count : ℕ) → Some (members_view ms) ≡ as_object value → n ≡ length ms → nat_eq n count ≡ has_members count value
members_counted value ms n count found e =
    let same : n ≡ members_len (members_view ms) = e ∙ sym (members_len-view ms) in
    rw (← found, same) refl

-- the list that an object has under a key
pub list_found : (value found : Data) (key : List ℕ) (vs items : List Value) → Some found ≡ get key value → Some (items_view items) ≡ as_array found → vs ≡ items → Some (map view vs) ≡ list_at key value
list_found value found key vs items a b e = rw (← a, ← b, e, listed-items_of (map view items)) refl

-- one more of the values of a list
pub view_more : (vs : List Value) (i : ℕ) (d : Value) → i < length vs → take (i + 1) (map view vs) ≡ take i (map view vs) ++ view (get_or vs i d) ∷ []
view_more vs i d below =
    take-map view (i + 1) vs ∙ (ap (map view) (take_more vs i d below) ∙ (map-append view (take i vs) (get_or vs i d ∷ []) ∙ ap (λ (xs : List Data). xs ++ view (get_or vs i d) ∷ []) (sym (take-map view i vs))))
