-- That a text says for a verifier what it was made of.
use Rattle.std.specs.Prelude.{◌≡◌, ℕ, suc, List, [], ◌∷◌, map, Ok}
use Rattle.text_reader.specs.SpecTrees.{VerificationTree}
use Rattle.text_reader.specs.Verifying.{verification_in}
use Rattle.text_writer.specs.PlacelessTrees.{placeless_tree}

-- trees, each with its number, the first of which is this one
abbrev pub numbered_from : ℕ → List VerificationTree → List (ℕ × VerificationTree)
numbered_from n [] = []
numbered_from n (v ∷ vs) = (n, v) ∷ numbered_from (suc n) vs

abbrev pub placeless_numbered : ℕ × VerificationTree → ℕ × VerificationTree
placeless_numbered v = (v.0, placeless_tree v.1)

-- in any file the text says this for a verifier, but for its places
unfoldable pub ReadsBackVerification : (text : List ℕ) → List (ℕ × VerificationTree) → Type 0
ReadsBackVerification text vs = (file : ℕ) → (said : List (ℕ × VerificationTree)) × (verification_in file text ≡ Ok said) × (map placeless_numbered said ≡ map placeless_numbered vs)
