-- Marks of a table of places.
use Rattle.std.proofs.Common.{◌≡◌, ℕ, ◌+◌, Bool, false, ◌==◌, List, ◌∷◌, ap, ◌∙◌, arith}
use Rattle.std.proofs.lemmas.Grind.{common_steps}
use Rattle.text_documents.specs.declared.places.DocumentPosition.{DocumentPosition}
use Rattle.text_documents.specs.Walks.{place_past, place_after}
use Rattle.text_documents.proofs.PlaceLemmas.{at, place_step}
use Rattle.text_documents.proofs.SizeLemmas.{width}

abbrev pub GoesOn : List ℕ → ℕ → DocumentPosition → Bool → List ℕ → Type 0
GoesOn text offset p r rest = (n : ℕ) → place_after (at 0 0) false (offset + n) text ≡ place_after p r n rest

-- one character further
pub goes_on_past : (text rest whole : List ℕ) (offset c : ℕ) (p : DocumentPosition) (r : Bool) → whole ≡ c ∷ rest → GoesOn text offset p r whole → GoesOn text (offset + width c) (place_past p r c) (c == 13) rest
goes_on_past text rest whole offset c p r e h n =
    let f : (offset + width c) + n ≡ offset + (width c + n) = omega arith in
    ap (λ k. place_after (at 0 0) false k text) f ∙ h (width c + n) ∙ ap (place_after p r (width c + n)) e ∙ place_step p r n c rest

-- at a mark
pub goes_on_at : (text rest : List ℕ) (offset mark left : ℕ) (p : DocumentPosition) (r : Bool) → left + mark ≡ offset → GoesOn text mark p r rest → place_after p r left rest ≡ place_after (at 0 0) false offset text
goes_on_at text rest offset mark left p r e h = grind (arith, common_steps)
