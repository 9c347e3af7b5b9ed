-- A run of a multi term, and what its caller gets: all results, in any order.
use Rattle.std.specs.Prelude.{ℕ, List, [], ◌∷◌, None}
use Rattle.model.specs.rules.Meaning.{Content, one, many, Contents, no_content, content_and}
use Rattle.model.specs.rules.Outcome.{Call, Outcome, ended, ran_through}
use Rattle.laws_specs.specs.SampleCalls.{a_byte}
use Rattle.laws_specs.specs.SampleLists.{lists_with, liking, twice_200, liking_100}
use Rattle.laws_specs.specs.SampleRuns.{call_of}
use Rattle.laws_specs.specs.WholeRuns.{Outside, WholeRun}
use Rattle.laws_specs.specs.ListRuns.{by_bags, IsListAnswer, ListRun}

-- outside, `like` of 100 answers 200 twice
abbrev pub likes : Outside
likes = record { literals = liking_100.literals; constants = liking_100.constants; extractors = liking_100.extractors; pures = liking_100.pures; impures = λ before call. None }

abbrev pub bytes : List ℕ → List Content
bytes [] = []
bytes (n ∷ ns) = one (a_byte n) ∷ bytes ns

abbrev pub listed_bytes : List ℕ → Contents
listed_bytes [] = no_content
listed_bytes (n ∷ ns) = content_and (one (a_byte n)) (listed_bytes ns)

-- a run that gave these, and went through
abbrev pub gave : List ℕ → Outcome
gave ns = record { calls = []; results = bytes ns; ending = ran_through }

pub record ListRunsAreJudged : Type 0 where
  -- `alike` of 100 answers what `like` does, and calls nothing that is noted; it has no whole run without lists
  pub run : (before : List Call) → ListRun (by_bags (lists_with liking)) (lists_with liking) likes 1 (call_of 0 100) before (many twice_200) before
  pub no_whole_run : (n : ℕ) (before after : List Call) (c : Content) → WholeRun (by_bags (lists_with liking)) (lists_with liking) likes n (call_of 0 100) before c after → ⊥
  -- results in their order, and in another one
  pub in_order : IsListAnswer (gave (200 ∷ (100 ∷ []))) (many (listed_bytes (200 ∷ (100 ∷ []))))
  pub turned : IsListAnswer (gave (200 ∷ (100 ∷ []))) (many (listed_bytes (100 ∷ (200 ∷ []))))
  -- but not a part of them, nor one result more; nor those of a run that returned, as at a bound of results
  pub fewer : IsListAnswer (gave (200 ∷ (100 ∷ []))) (many (listed_bytes (200 ∷ []))) → ⊥
  pub more : IsListAnswer (gave (200 ∷ [])) (many (listed_bytes (200 ∷ (200 ∷ [])))) → ⊥
  pub cut : IsListAnswer (record (gave (200 ∷ (100 ∷ []))) { ending = ended }) (many (listed_bytes (200 ∷ (100 ∷ [])))) → ⊥
