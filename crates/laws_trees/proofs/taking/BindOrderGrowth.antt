-- Bind orders only grow.
use Rattle.std.proofs.Common.{◌≡◌, ℕ, zero, suc, ◌||◌, List, [], ◌∷◌, ◌++◌, refl, sym, ap, ◌∙◌, subst, inl, inr, append-nil, append_assoc}
use Rattle.std.proofs.lemmas.Bool.{cases_Bool, cond-true, cond-false}
use Rattle.model.specs.sites.Sites.{Site, sources_at}
use Rattle.model.specs.trees.Places.{is_in, each_after, listed_below}

abbrev pub Extends : List ℕ → List ℕ → Type 0
Extends done more = (new : List ℕ) × (more ≡ done ++ new)

same_extends : (done : List ℕ) → Extends done done
same_extends done = ([], sym (append-nil done))

then_extends : (a b c : List ℕ) → Extends a b → Extends b c → Extends a c
then_extends a b c (x, e) (y, f) = (x ++ y, f ∙ ap (λ l. l ++ y) e ∙ append_assoc a x y)

pub each_extends : (f : List ℕ → ℕ → List ℕ) → ((done : List ℕ) (s : ℕ) → Extends done (f done s)) → (xs done : List ℕ) → Extends done (each_after f done xs)
each_extends f h [] done = same_extends done
each_extends f h (x ∷ xs) done = then_extends done (f done x) (each_after f (f done x) xs) (h done x) (each_extends f h xs (f done x))

pub listed_extends : (sites : List Site) (emitted : List ℕ) (n : ℕ) (done : List ℕ) (s : ℕ) → Extends done (listed_below n sites emitted done s)
listed_extends sites emitted zero done s = same_extends done
listed_extends sites emitted (suc n) done s =
    let rest = each_after (listed_below n sites emitted) done (sources_at sites s) in
    elim (cases_Bool (is_in s emitted || is_in s done)) [
      | inl t ↦ subst (Extends done) (sym (cond-true (is_in s emitted || is_in s done) done (rest ++ s ∷ []) t)) (same_extends done)
      | inr f ↦
          subst (Extends done) (sym (cond-false (is_in s emitted || is_in s done) done (rest ++ s ∷ []) f))
          (then_extends done rest (rest ++ s ∷ []) (each_extends (listed_below n sites emitted) (listed_extends sites emitted n) (sources_at sites s) done) (s ∷ [], refl))
    ]
