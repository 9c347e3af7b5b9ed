-- The tests of constraints and of lists of fields are exact.
use Rattle.std.proofs.Common.{◌≡◌, ℕ, true, List, [], ◌∷◌, Option, Some, slice_get, Decides, refl, subst, arith}
use Rattle.std.specs.List.{list_all}
use Rattle.std.proofs.lemmas.Bool.{and_parts, and_from, false≢true}
use Rattle.std.proofs.lemmas.Option.{none-some, same_Some}
use Rattle.std.proofs.lemmas.Grind.{common_steps}
use Rattle.model.specs.sites.Sites.{Constraint, SetRule}
use Rattle.model.specs.trees.Places.{constraint_at}
use Rattle.model.specs.visits.Demands.{constraint_eq}
use Rattle.model.specs.trees.Sound.{AllAsk}
use Rattle.model.specs.trees.Judge.{is_that, asks_for, asks_at, site_eq, sites_eq}
use Rattle.model.proofs.SameSites.{constraint_means, same_constraint}
use Rattle.model.proofs.Members.{each_passes, all_pass}

pub constraint_exact : (c d : Constraint) → Decides (constraint_eq c d) (c ≡ d)
constraint_exact c d = (constraint_means c d, same_constraint c d)

pub that_exact : (o : Option Constraint) (c : Constraint) → Decides (is_that o c) (o ≡ Some c)
that_exact o c = grind (arith, common_steps, none-some, constraint_means, constraint_exact, same_Some)

asks_for_exact : (s : ℕ) (c : Constraint) (o : Option SetRule) → Decides (asks_for s c o) ((r : SetRule) → o ≡ Some r → constraint_at r.constraints s ≡ Some c)
asks_for_exact s c o = grind (arith, common_steps, none-some, same_Some, that_exact)

pub all_ask_exact : (rules : List SetRule) (here : List ℕ) (s : ℕ) (c : Constraint) → Decides (list_all (asks_at rules s c) here) (AllAsk rules here s c)
all_ask_exact rules here s c = (
  λ h i r k e. (asks_for_exact s c (slice_get rules i)).0 (each_passes (asks_at rules s c) here h i k) r e,
  λ h. all_pass (asks_at rules s c) here (λ i k. (asks_for_exact s c (slice_get rules i)).1 (λ r e. h i r k e)),
)

site_itself : (o : Option ℕ) → site_eq o o ≡ true
site_itself o = grind (arith, common_steps)

sites_itself : (xs : List (Option ℕ)) → sites_eq xs xs ≡ true
sites_itself [] = refl
sites_itself (x ∷ xs) = and_from (site_eq x x) (sites_eq xs xs) (site_itself x) (sites_itself xs)

site_same : (a b : Option ℕ) → site_eq a b ≡ true → a ≡ b
site_same a b h = grind (arith, common_steps)

sites_same : (xs ys : List (Option ℕ)) → sites_eq xs ys ≡ true → xs ≡ ys
sites_same [] [] h = refl
sites_same (x ∷ xs) (y ∷ ys) h = grind (arith, common_steps, sites_same xs ys, and_parts, site_same)
sites_same [] (y ∷ ys) h = absurd (false≢true h)
sites_same (x ∷ xs) [] h = absurd (false≢true h)

pub fields_exact : (xs ys : List (Option ℕ)) → Decides (sites_eq xs ys) (xs ≡ ys)
fields_exact xs ys = (sites_same xs ys, λ e. subst (λ zs. sites_eq xs zs ≡ true) e (sites_itself xs))
