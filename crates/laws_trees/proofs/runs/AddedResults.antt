-- What a run adds to the results before it.
use Rattle.std.proofs.Common.{◌≡◌, ℕ, suc, ◌+◌, List, [], ◌∷◌, ◌++◌, flat_map, Some, slice_get, refl, sym, ap, ◌∙◌, subst}
use Rattle.std.specs.Prelude.{IsPermutation}
use Rattle.std.proofs.lemmas.List.{append_assoc, append-nil}
use Rattle.std.proofs.lemmas.List.Sorted.{IsPermutation-refl, IsPermutation-trans, IsPermutation-append}
use Rattle.std.proofs.Math.Nat.{add-zero, add-suc, suc-add}
use Rattle.model.specs.rules.Meaning.{Content}
use Rattle.model.specs.rules.Outcome.{Outcome, ran_through}
use Rattle.model.specs.rules.Program.{numbers_from}
use Rattle.model.specs.trees.Run.{Trace, ending_at, or_next, for_each}
use Rattle.laws_trees.proofs.runs.Steps.{trace}

-- without impure calls it goes through, and adds these, in whatever order
abbrev pub Adds : Outcome → List Content → List Content → Type 0
Adds o done expected = (rs : List Content) × (o ≡ record { calls = []; results = done ++ rs; ending = ran_through }) × IsPermutation expected rs

pub adds_none : (done : List Content) → Adds (ending_at ran_through (trace done)) done []
adds_none done = ([], ap (λ l. record { calls = []; results = l; ending = ran_through }) (sym (append-nil done)), IsPermutation-refl [])

pub adds_then : (o : Outcome) (go : Trace → Outcome) (done here later : List Content) → Adds o done here → ((now : List Content) → Adds (go (trace now)) now later) → Adds (or_next o go) done (here ++ later)
adds_then o go done here later (rs, e, p) next =
    let n = next (done ++ rs) in (
      rs ++ n.0,
      ap (λ x. or_next x go) e ∙ n.1 ∙ ap (λ l. record { calls = []; results = l; ending = ran_through }) (append_assoc done rs n.0),
      IsPermutation-append here rs later n.0 p n.2,
    )

pub adds_as : (o : Outcome) (done a b : List Content) → IsPermutation a b → Adds o done b → Adds o done a
adds_as o done a b p (rs, e, q) = (rs, e, IsPermutation-trans a b rs p q)

-- so does a body for each answer
pub each_adds : (go : Content → Trace → Outcome) (made : ℕ → List Content) (i : ℕ) (cs : List Content) → ((j : ℕ) (c : Content) → slice_get cs j ≡ Some c → (done : List Content) → Adds (go c (trace done)) done (made (i + j)))
    → (done : List Content) → Adds (for_each cs go (trace done)) done (flat_map made (numbers_from i cs))
each_adds go made i [] h done = adds_none done
each_adds go made i (c ∷ cs) h done =
    adds_then (go c (trace done)) (for_each cs go) done (made i) (flat_map made (numbers_from (suc i) cs))
    (subst (λ n. Adds (go c (trace done)) done (made n)) (add-zero i) (h 0 c refl done))
    (λ now. each_adds go made (suc i) cs (λ j d e now'. subst (λ n. Adds (go d (trace now')) now' (made n)) (add-suc i j ∙ sym (suc-add i j)) (h (suc j) d e now')) now)
