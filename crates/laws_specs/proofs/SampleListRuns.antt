-- A multi term runs, and answers are lists of all results.
use Rattle.std.proofs.Common.{◌≡◌, ◌∷◌, [], List, length, refl, sym, ap, ◌∙◌, arith}
use Rattle.std.proofs.lemmas.List.Sorted.{IsPermutation-refl, IsPermutation-swap, length_permutation}
use Rattle.model.specs.rules.Meaning.{Content, many, contents}
use Rattle.model.proofs.Elements.{contains_from_in}
use Rattle.laws_specs.specs.SampleListRuns.{bytes, listed_bytes, gave, ListRunsAreJudged}
use Rattle.laws_specs.proofs.SampleConditions.{just_one}
use Rattle.laws_specs.proofs.SampleLists.{serves}
use Rattle.laws_specs.proofs.SampleRuns.{apart_of}

-- 1. `alike` of 100
-- 2. answers
abbrev elements : Content → List Content
elements (many cs) = contents cs
elements c = []

pub list_runs_are_judged_lem : ListRunsAreJudged
list_runs_are_judged_lem = record {
  run = grind (arith, contains_from_in, just_one, serves, apart_of);
  no_whole_run = grind arith;
  in_order = (listed_bytes (200 ∷ (100 ∷ [])), refl, record { calls = refl; ending = refl; same = IsPermutation-refl (bytes (200 ∷ (100 ∷ []))) });
  turned = (
    listed_bytes (100 ∷ (200 ∷ [])),
    refl,
    record { calls = refl; ending = refl; same = IsPermutation-swap (bytes (100 ∷ (200 ∷ []))) (bytes (200 ∷ (100 ∷ []))) 0 1 (omega arith) (omega arith) refl },
  );
  fewer = λ a. let e : 2 ≡ 1 = (length_permutation (contents a.0) (gave (200 ∷ (100 ∷ []))).results a.2.same ∙ ap (λ c. length (elements c)) (sym a.1)) in omega (arith, e);
  more = λ a. let e : 1 ≡ 2 = (length_permutation (contents a.0) (gave (200 ∷ [])).results a.2.same ∙ ap (λ c. length (elements c)) (sym a.1)) in omega (arith, e);
  cut = λ a. cc;
}
