-- Questions that are listed, and their facts.
use Rattle.std.proofs.Common.{◌≡◌, List, [], ◌∷◌, ◌++◌, map, reverse, refl, sym, ap, ◌∙◌}
use Rattle.std.proofs.lemmas.List.{append_assoc, map-append, reverse-append, reverse-reverse}
use Rattle.spec_cases.specs.declared.formulas.Fact.{Fact}
use Rattle.spec_cases.specs.Namings.{Naming, fact_of}
use Rattle.spec_asked.specs.declared.asking.Asked.{Asked}
use Rattle.spec_asked.specs.Asking.{facts_of}

module _ {X Y : Type 0} (f : X → Y) where
  map_reversed : (xs : List X) → map f (reverse xs) ≡ reverse (map f xs)
  map_reversed [] = refl
  map_reversed (x ∷ xs) =
      ap (map f) (reverse-append (x ∷ []) xs) ∙ map-append f (reverse xs) (x ∷ []) ∙ ap (λ l. l ++ f x ∷ []) (map_reversed xs)
      ∙ sym (reverse-append (f x ∷ []) (map f xs))

  pub reversed_back : (xs : List X) → reverse (map f (reverse xs)) ≡ map f xs
  reversed_back xs = ap reverse (map_reversed xs) ∙ reverse-reverse (map f xs)

pub asked_pushed : (v : Naming) (out : List Asked) (a : Asked) → map (facts_of v) (out ++ a ∷ []) ≡ map (facts_of v) out ++ (facts_of v a ∷ [])
asked_pushed v out a = map-append (facts_of v) out (a ∷ [])

pub ruleset asked_steps = (asked_pushed, append_assoc)

-- facts that were turned round are read back
pub facts_turned : (v : Naming) (fs : List Fact) → reverse (map (fact_of v) (reverse fs)) ≡ map (fact_of v) fs
facts_turned v fs = reversed_back (fact_of v) fs
