-- Which terms templates name, as the code keeps it.
use Rattle.std.proofs.Common.{◌≡◌, ◌≢◌, ◌==◌, ℕ, zero, suc, ◌+◌, ◌<◌, true, false, List, [], ◌∷◌, ◌++◌, length, map, All, Contains, Vec, eqb-true, refl, sym, ap, subst, ◌∙◌, arith}
use Rattle.std.specs.List.Sorted.{IsPermutation}
use Rattle.std.specs.declared.alloc.Global.{Global}
use Rattle.std.proofs.Math.ListN.{set}
use Rattle.std.proofs.lemmas.Bool.{false≢true}
use Rattle.std.proofs.lemmas.Bool.Decides.{Decides-eqb}
use Rattle.std.proofs.lemmas.List.{length_push}
use Rattle.std.proofs.lemmas.List.Elements.{All-contains, All-map}
use Rattle.std.proofs.lemmas.List.Sorted.{All-permutation, IsPermutation-map, IsPermutation-trans}
use Rattle.std.proofs.lemmas.Grind.{common_steps}
use Rattle.core_types.specs.declared.ids.TermId.{TermId}
use Rattle.core_terms.specs.declared.term_table.TermTable.{TermTable}
use Rattle.core_terms.specs.Templating.{callees_of, AreCallees, NameNothing, SetsCallees}

abbrev Callees : Type 0
Callees = List (Vec TermId Global)

nothing_pushed : (cs : Callees) (v : Vec TermId Global) (t : ℕ) → v.items ≡ [] → ((k : ℕ) → callees_of cs k ≡ []) → callees_of (cs ++ v ∷ []) t ≡ []
nothing_pushed [] v zero none h = ap (map (λ u. u.0)) none
nothing_pushed [] v (suc t) none h = refl
nothing_pushed (c ∷ cs) v zero none h = h 0
nothing_pushed (c ∷ cs) v (suc t) none h = nothing_pushed cs v t none (λ k. h (suc k))

pub nothing_first : (cs : Callees) → cs ≡ [] → NameNothing 0 cs
nothing_first cs e = record { count_is = ap length e; nothing = λ t. ap (λ l. callees_of l t) e }

pub nothing_more : (n : ℕ) (cs new : Callees) (v : Vec TermId Global) → v.items ≡ [] → new ≡ cs ++ v ∷ [] → NameNothing n cs → NameNothing (n + 1) new
nothing_more n cs new v none e h = grind (arith, common_steps, length_push cs v, nothing_pushed cs v)

set_this : (cs : Callees) (t : ℕ) (v : Vec TermId Global) → t < length cs → callees_of (set cs t v) t ≡ map (λ u. u.0) v.items
set_this (c ∷ cs) (suc t) v h = set_this cs t v (omega (arith, h))
set_this cs t v h = grind arith

set_other : (cs : Callees) (t u : ℕ) (v : Vec TermId Global) → u ≢ t → callees_of (set cs t v) u ≡ callees_of cs u
set_other (c ∷ cs) (suc t) (suc u) v e = set_other cs t u v (λ s. e (ap suc s))
set_other cs t u v e = grind arith

set_count : (cs : Callees) (t : ℕ) (v : Vec TermId Global) → length (set cs t v) ≡ length cs
set_count (c ∷ cs) (suc t) v = ap suc (set_count cs t v)
set_count _ _ v = refl

-- a write of what a term names
pub sets_callees : (cs : Callees) (t : ℕ) (v : Vec TermId Global) (named : List ℕ) → t < length cs → IsPermutation named (map (λ u. u.0) v.items) → SetsCallees t named cs (set cs t v)
sets_callees cs t v named within p = grind (arith, common_steps, set_count cs t v, set_this cs t v within, set_other cs t)

-- the same terms in another order, and in another one again
pub reordered : (xs ys zs : List TermId) → IsPermutation xs ys → IsPermutation ys zs → IsPermutation (map (λ u. u.0) xs) (map (λ u. u.0) zs)
reordered xs ys zs p q = IsPermutation-map (λ u. u.0) xs zs (IsPermutation-trans xs ys zs p q)

-- what is told of another term is told of each term of the table still
pub still_callees : (table table' : TermTable) (old new : Callees) (t : ℕ) (named : List TermId) → All (λ u. u.0 < length table.terms.items) named → SetsCallees t (map (λ u. u.0) named) old new → length table'.terms.items ≡ length table.terms.items → AreCallees table old → AreCallees table' new
still_callees table table' old new t named below sets same c = record { count = sets.count ∙ c.count ∙ sym same; within = λ u v h. subst (λ n. v < n) (sym same) (within u v h) }
  where
    at_term : (v : ℕ) → Contains (callees_of new t) v → v < length table.terms.items
    at_term v h = All-contains (λ i. i < length table.terms.items) (callees_of new t) v
        (All-permutation (λ i. i < length table.terms.items) (map (λ u. u.0) named) (callees_of new t) sets.this (All-map (λ i. i < length table.terms.items) (λ u. u.0) named below)) h

    within : (u v : ℕ) → Contains (callees_of new u) v → v < length table.terms.items
    within u v h =
        elim (u == t) as (λ b. (u == t) ≡ b → v < length table.terms.items) [
          | true ↦ λ e. at_term v (subst (λ k. Contains (callees_of new k) v) (eqb-true u t e) h)
          | false ↦ λ e. c.within u v (subst (λ l. Contains l v) (sets.others u (λ same. false≢true (sym e ∙ (Decides-eqb u t).1 same))) h)
        ] refl
