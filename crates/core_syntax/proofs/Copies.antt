-- What a list of clones holds, where clones are equal to their sources.
use Rattle.std.proofs.Common.{◌≡◌, Bool, true, false, cond, List, [], ◌∷◌, Option, Some, None, MatchOption, IsSomeAnd, refl, sym, ap, ◌∙◌}
use Rattle.std.specs.Cmp.{IsEquivalence}
use Rattle.std.specs.List.{AllZip, list_any}
use Rattle.std.specs.Map.{lookup}
use Rattle.std.specs.Set.{ClonesAreEqual}
use Rattle.std.proofs.lemmas.List.Elements.{same_from_all_zip}
use Rattle.core_syntax.specs.Stable.{ClonesAreSame}

module _ {K : Type 0} {eq : K → K → Bool} (laws : IsEquivalence eq) where
  -- a test of one key answers the same at equal keys
  pub same_answer : (k x y : K) → eq x y ≡ true → eq k y ≡ eq k x
  same_answer k x y e = laws.symm k y ∙ sym (laws.congr x y k e) ∙ laws.symm x k

  pub list_any-clones : {C : K → K → Type 0} → ClonesAreEqual eq C → (k : K) (xs ys : List K) → AllZip C xs ys → list_any (eq k) ys ≡ list_any (eq k) xs
  list_any-clones equal k [] [] h = refl
  list_any-clones equal k [] (y ∷ ys) h = absurd h
  list_any-clones equal k (x ∷ xs) [] h = absurd h
  list_any-clones equal k (x ∷ xs) (y ∷ ys) h = rw (same_answer k x y (equal x y h.0), list_any-clones equal k xs ys h.1) refl

  -- at each key the clones have a clone of what the entries have
  pub lookup-clones : {V : Type 0} {C : K → K → Type 0} (D : V → V → Type 0) → ClonesAreEqual eq C → (k : K) (es fs : List (K × V)) → AllZip (λ p q. C p.0 q.0 × D p.1 q.1) es fs → MatchOption (lookup (eq k) es) (lookup (eq k) fs ≡ None) (λ v. IsSomeAnd (lookup (eq k) fs) (λ w. D v w))
  lookup-clones D equal k [] [] h = refl
  lookup-clones D equal k [] (f ∷ fs) h = absurd h
  lookup-clones D equal k (e ∷ es) [] h = absurd h
  lookup-clones D equal k (e ∷ es) (f ∷ fs) h = rw (same_answer k e.0 f.0 (equal e.0 f.0 h.0.0)) (go (eq k e.0) (lookup-clones D equal k es fs h.1))
    where
      go : (b : Bool) → MatchOption (lookup (eq k) es) (lookup (eq k) fs ≡ None) (λ v. IsSomeAnd (lookup (eq k) fs) (λ w. D v w)) → MatchOption (cond b (Some e.1) (lookup (eq k) es)) (cond b (Some f.1) (lookup (eq k) fs) ≡ None) (λ v. IsSomeAnd (cond b (Some f.1) (lookup (eq k) fs)) (λ w. D v w))
      go true r = h.0.1
      go false r = r

-- where a clone is its source, a clone of an option's value makes the same option
pub same_option : {V : Type 0} {D : V → V → Type 0} → ClonesAreSame D → (o p : Option V) → MatchOption o (p ≡ None) (λ v. IsSomeAnd p (λ w. D v w)) → p ≡ o
same_option same None p h = h
same_option same (Some v) None h = absurd h
same_option same (Some v) (Some w) h = ap Some (same v w h)

-- where clones are their sources, cloned entries are the entries
pub same_entries : {K V : Type 0} {C : K → K → Type 0} {D : V → V → Type 0} → ClonesAreSame C → ClonesAreSame D → (es fs : List (K × V)) → AllZip (λ p q. C p.0 q.0 × D p.1 q.1) es fs → fs ≡ es
same_entries {C = C} {D = D} keys values es fs h = same_from_all_zip (λ p q. C p.0 q.0 × D p.1 q.1) es fs h (λ p q c i. (keys p.0 q.0 c.0 i, values p.1 q.1 c.1 i))
