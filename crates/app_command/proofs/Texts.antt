-- Texts that aren't empty, and texts that are copied.
use Rattle.std.proofs.Common.{◌≡◌, ◌≢◌, ℕ, List, [], ◌∷◌, ◌++◌, map, string_bytes, String, Global, refl, ap, ◌∙◌, arith}
use Rattle.std.specs.List.{AllZip}

-- a list with something behind it
pub ended : {T : Type 0} (list : List T) (last : T) → list ++ last ∷ [] ≢ []
ended [] last = grind arith
ended (x ∷ list) last = grind arith

-- and a text
pub ended_text : (text : List ℕ) (last : ℕ) → text ++ last ∷ [] ≢ []
ended_text text last = ended text last

-- texts are the same as those that they are copied from
pub same_texts : (xs ys : List (String Global)) → AllZip (λ x y. string_bytes y ≡ string_bytes x) xs ys → map string_bytes ys ≡ map string_bytes xs
same_texts [] [] h = refl
same_texts (x ∷ xs) (y ∷ ys) h = ap (λ b. b ∷ map string_bytes ys) h.0 ∙ ap (λ bs. string_bytes x ∷ bs) (same_texts xs ys h.1)
same_texts [] (y ∷ ys) h = absurd h
same_texts (x ∷ xs) [] h = absurd h

-- lists whose items agree place by place, with one item more each
pub zip_more : {A B : Type 0} (R : A → B → Type 0) (xs : List A) (ys : List B) (x : A) (y : B)
    → AllZip R xs ys → R x y → AllZip R (xs ++ x ∷ []) (ys ++ y ∷ [])
zip_more R [] [] x y zip here = (here, tt)
zip_more R [] (b ∷ ys) x y zip here = absurd zip
zip_more R (a ∷ xs) [] x y zip here = absurd zip
zip_more R (a ∷ xs) (b ∷ ys) x y zip here = (zip.0, zip_more R xs ys x y zip.1 here)

-- neither is empty alone
pub zip_some : {A B : Type 0} (R : A → B → Type 0) (xs : List A) (ys : List B) → AllZip R xs ys → xs ≢ [] → ys ≢ []
zip_some R [] [] zip some = absurd (some refl)
zip_some R [] (b ∷ ys) zip some = absurd zip
zip_some R (a ∷ xs) [] zip some = absurd zip
zip_some R (a ∷ xs) (b ∷ ys) zip some = grind arith
