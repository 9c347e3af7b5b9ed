-- What the tests around a place say of a rule there, and how it is kept on the way down.
use Rattle.std.proofs.Common.{◌≡◌, ℕ, true, List, [], ◌∷◌, ◌++◌, Option, Some, None, slice_get, Contains, ap, subst, inl, inr, arith}
use Rattle.std.proofs.lemmas.Grind.{common_steps}
use Rattle.model.specs.sites.Sites.{Site, iterator_site, Constraint, SetRule, SiteSet, sources_of, sources_at}
use Rattle.model.specs.trees.Trees.{MarkedCheck}
use Rattle.model.specs.trees.Places.{Around, nothing_around, joins_in, constraint_at, in_arm, in_equal, in_loop, after_step}
use Rattle.model.proofs.Members.{nothing_in, in_cases}

pub record Passed (ar : Around) (r : SetRule) : Type 0 where
  pub asks : (s : ℕ) (c : Constraint) → Contains ar.tested (s, c) → constraint_at r.constraints s ≡ Some c
  pub equates : (p : ℕ × ℕ) → Contains ar.joined p → joins_in r.classes p.0 p.1 ≡ true
  pub goes_over : (s : ℕ) → Contains ar.looped s → Contains r.iterators s

pub sources_there : (set : SiteSet) (result source : ℕ) → slice_get set.sites result ≡ Some (iterator_site source) → sources_at set.sites result ≡ source ∷ []
sources_there set result source e = ap (λ (o : Option Site). elim o as (λ _. List ℕ) [ None ↦ [] | Some b ↦ sources_of b ]) e

module _ (set : SiteSet) (ar : Around) (r : SetRule) where
  pub passed_after : (check : MarkedCheck) → Passed ar r → Passed (after_step set ar check) r
  passed_after check p = record { asks = p.asks; equates = p.equates; goes_over = p.goes_over }

  pub passed_arm : (s : ℕ) (c : Constraint) (fields : List (Option ℕ)) → constraint_at r.constraints s ≡ Some c → Passed ar r → Passed (in_arm set ar s c fields) r
  passed_arm s c fields ask p = record {
    asks = λ t d m. elim (in_cases (s, c) (t, d) ar.tested m) [
      | inl same ↦ subst (λ (x : ℕ × Constraint). constraint_at r.constraints x.0 ≡ Some x.1) same ask
      | inr older ↦ p.asks t d older
    ];
    equates = p.equates;
    goes_over = p.goes_over;
  }

  pub passed_equal : (a b : ℕ) → joins_in r.classes a b ≡ true → Passed ar r → Passed (in_equal set ar a b) r
  passed_equal a b join p = grind (arith, common_steps, in_cases)

  pub passed_loop : (result source : ℕ) → slice_get set.sites result ≡ Some (iterator_site source) → Contains r.iterators source → Passed ar r → Passed (in_loop set ar result) r
  passed_loop result source e over p = record {
    asks = p.asks;
    equates = p.equates;
    goes_over = λ t m. elim (in_cases source t ar.looped (subst (λ l. Contains (l ++ ar.looped) t) (sources_there set result source e) m)) [
      | inl same ↦ subst (Contains r.iterators) same over
      | inr older ↦ p.goes_over t older
    ];
  }

pub passed_at_start : (r : SetRule) → Passed nothing_around r
passed_at_start r = record { asks = λ s c k. absurd (nothing_in (s, c) k); equates = λ p k. absurd (nothing_in p k); goes_over = λ s k. absurd (nothing_in s k) }
