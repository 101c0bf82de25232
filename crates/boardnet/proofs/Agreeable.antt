-- Files that agree with what was handed over, where one name stands for one file: they are looked up by the name.
use Rattle.std.proofs.Common.{◌≡◌, ◌<◌, ℕ, zero, suc, Bool, true, false, cond, List, [], ◌∷◌, length, Option, Some, None, IsSomeAnd, refl, sym, ap, subst, ◌∙◌, arith}
use Rattle.std.proofs.Math.Seq.{drop-append_seam}
use Rattle.std.proofs.lemmas.Slice.Eq.{bytes_eq-Decides}
use Rattle.std.specs.List.{AllByRecursion}
use Rattle.std.specs.Str.{bytes_eq}
use Rattle.board_io.specs.Handed.{Agrees, File, Handed, Long}
use Rattle.board_io.specs.Package.{Files}
use Rattle.boardnet.specs.FilesAgree.{FilesAgree, NamesAgree, name_in}

abbrev zeros : ℕ → List ℕ
zeros zero = []
zeros (suc n) = 0 ∷ zeros n

zeros_many : (n : ℕ) → length (zeros n) ≡ n
zeros_many zero = refl
zeros_many (suc n) = ap suc (zeros_many n)

abbrev bytes_in : Handed → List ℕ
bytes_in (File name bytes) = bytes
bytes_in (Long name most) = zeros (suc most)

abbrev looked_up : List Handed → Files
looked_up [] other = None
looked_up (h ∷ rest) other = cond (bytes_eq (name_in h) other) (Some (bytes_in h)) (looked_up rest other)

-- what is found says all of it
found : (files : Files) (h : Handed) → files (name_in h) ≡ Some (bytes_in h) → Agrees files h
found files (File name bytes) e = e
found files (Long name most) e = subst (λ (o : Option (List ℕ)). IsSomeAnd o (λ bytes. most < length bytes)) (sym e) (let many = zeros_many (suc most) in omega (arith, many))

chosen : (b : Bool) (x y : Option (List ℕ)) → b ≡ true → cond b x y ≡ x
chosen b x y e = rw e refl

passed : (b : Bool) (x y : Option (List ℕ)) → b ≡ false → cond b x y ≡ y
passed b x y e = rw e refl

-- another look-up with the same answer agrees too
along : (files other : Files) (h : Handed) → other (name_in h) ≡ files (name_in h) → Agrees files h → Agrees other h
along files other (File name bytes) e a = e ∙ a
along files other (Long name most) e a = subst (λ (o : Option (List ℕ)). IsSomeAnd o (λ bytes. most < length bytes)) (sym e) a

behind : (h : Handed) (all rest : List Handed) → AllByRecursion (λ o. name_in h ≡ name_in o → o ≡ h) rest → AllByRecursion (Agrees (looked_up all)) rest → AllByRecursion (Agrees (looked_up (h ∷ all))) rest
behind h all [] agree a = tt
behind h all (o ∷ rest) agree a = (one (bytes_eq (name_in h) (name_in o)) refl, behind h all rest agree.1 a.1)
  where
    one : (b : Bool) → bytes_eq (name_in h) (name_in o) ≡ b → Agrees (looked_up (h ∷ all)) o
    one true e =
        let same : o ≡ h = agree.0 ((bytes_eq-Decides (name_in h) (name_in o)).0 e) in
        found (looked_up (h ∷ all)) o (chosen (bytes_eq (name_in h) (name_in o)) (Some (bytes_in h)) (looked_up all (name_in o)) e ∙ ap (λ (x : Handed). Some (bytes_in x)) (sym same))
    one false e = along (looked_up all) (looked_up (h ∷ all)) o (passed (bytes_eq (name_in h) (name_in o)) (Some (bytes_in h)) (looked_up all (name_in o)) e) a.0

all_found : (gained : List Handed) → NamesAgree gained → AllByRecursion (Agrees (looked_up gained)) gained
all_found [] agree = tt
all_found (h ∷ rest) agree =
    (found (looked_up (h ∷ rest)) h (chosen (bytes_eq (name_in h) (name_in h)) (Some (bytes_in h)) (looked_up rest (name_in h)) ((bytes_eq-Decides (name_in h) (name_in h)).1 refl)), behind h rest rest agree.0 (all_found rest agree.1))

pub files_agree : FilesAgree
files_agree before gained agree = (looked_up gained, subst (λ (xs : List Handed). AllByRecursion (Agrees (looked_up gained)) xs) (sym (drop-append_seam before gained)) (all_found gained agree))
