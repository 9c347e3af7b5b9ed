-- Variables that are bound in ascending order.
use Rattle.std.proofs.Common.{◌≡◌, ℕ, List, [], ◌∷◌, ◌++◌, refl, ap, ◌∙◌}
use Rattle.std.specs.List.{AllByRecursion}
use Rattle.std.specs.List.Sorted.{IsStrictlySortedBy}
use Rattle.std.specs.Ordering.{nat_cmp, match_ordering, ordering_reverse}
use Rattle.std.specs.declared.cmp.Ordering.TheVariants.{Less, Greater}
use Rattle.std.proofs.lemmas.Cmp.{nat_cmp_total}
use Rattle.model.specs.visits.Runs.{BoundIds, bound_vars, with_bound}

is_below : (a b : ℕ) → nat_cmp a b ≡ Less → nat_cmp b a ≡ Greater
is_below a b h = nat_cmp_total.antisymm b a ∙ ap ordering_reverse h

of_last : (P : ℕ → Type 0) (ks : List ℕ) (x : ℕ) (ls : List ℕ) → AllByRecursion P (ks ++ x ∷ ls) → P x
of_last P [] x ls h = h.0
of_last P (k ∷ ks) x ls h = of_last P ks x ls h.1

-- what is bound last is the last entry
pub insert_last : {P : Type 0} (vs : BoundIds P) (x : ℕ) (id : P) (ls : List ℕ) → IsStrictlySortedBy nat_cmp (bound_vars vs ++ x ∷ ls) → with_bound vs x id ≡ vs ++ (x, id) ∷ []
unfolding IsStrictlySortedBy
insert_last [] x id ls h = refl
insert_last (b ∷ vs) x id ls h =
    let more = is_below b.0 x (of_last (λ y. nat_cmp b.0 y ≡ Less) (bound_vars vs) x ls h.0) in
    ap (λ o. match_ordering o ((x, id) ∷ b ∷ vs) ((b.0, id) ∷ vs) (b ∷ with_bound vs x id)) more ∙ ap (λ l. b ∷ l) (insert_last vs x id ls h.1)
