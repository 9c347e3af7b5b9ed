-- Orders in which calls are gone over, and what doesn't depend on them.
use Rattle.std.specs.Prelude.{List, [], ◌∷◌, ◌++◌, ◌≡◌, Contains, IsPermutation, map}
use Rattle.std.specs.List.{flat_map}
use Rattle.model.specs.rules.Values.{Value}
use Rattle.model.specs.rules.Meaning.{Content, Meaning}
use Rattle.model.specs.sites.Sites.{SiteTerm, SetRule}
use Rattle.model.specs.rules.Picks.{Pick, picks_over, results_under}
use Rattle.model.specs.trees.Collects.{calls_in, result_in}
use Rattle.model.specs.rules.Program.{Program}
use Rattle.model.specs.rules.Typed.{TypedRule}
use Rattle.model.specs.trees.Run.{World}
use Rattle.laws_trees.specs.PickLaws.{GiveSamePlaces}

-- calls that stand in a list
abbrev pub Within : List SiteTerm → List SiteTerm → Type 0
Within ls ms = (c : SiteTerm) → Contains ls c → Contains ms c

-- a site takes answers of these calls alone
abbrev pub Covered : List SiteTerm → SiteTerm → Type 0
Covered ls s = Within (calls_in s) ls

-- each call takes answers of these and of calls before it alone
abbrev pub OrderedFrom : List SiteTerm → List SiteTerm → Type 0
OrderedFrom ls [] = Unit {0}
OrderedFrom ls (c ∷ cs) = Covered ls c × OrderedFrom (ls ++ c ∷ []) cs

-- what is made of a pick is made of its places alone
abbrev pub IsOfPlaces : (Pick → List Content) → Type 0
IsOfPlaces f = (k l : Pick) → GiveSamePlaces k l → f k ≡ f l

-- so are the results of a rule, and those of a set's rule
abbrev pub ResultsAreOfPlaces : Type 0
ResultsAreOfPlaces =
    ((p : Program) (m : Meaning) (args : List Value) (r : TypedRule) → IsOfPlaces (results_under p m args r))
    × ((w : World) (r : SetRule) → IsOfPlaces (result_in w r))

-- a call that takes answers of calls with a place alone can be gone over before others: what is made of all the picks is
-- the same bag
abbrev pub CallsCanComeFirst : Type 0
CallsCanComeFirst =
    (m : Meaning) (args : List Value) (f : Pick → List Content) (k : Pick) (before after : List SiteTerm) (call : SiteTerm)
    → IsOfPlaces f → OrderedFrom (map (λ e. e.0) k) before → Covered (map (λ e. e.0) k) call → (Contains before call → ⊥)
    → IsPermutation (flat_map f (picks_over m args k (before ++ call ∷ after))) (flat_map f (picks_over m args k (call ∷ (before ++ after))))
