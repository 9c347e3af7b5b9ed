-- Steps of which sites are made.
use Rattle.std.proofs.Common.{◌≡◌, ◌≢◌, ◌<◌, ◌≤◌, ℕ, zero, suc, ◌-◌, ◌||◌, true, false, List, [], ◌∷◌, length, get_or, take, drop, refl, sym, ap, ◌∙◌, arith, eq-eqb}
use Rattle.std.proofs.lemmas.Bool.{ne_eqb}
use Rattle.std.proofs.lemmas.List.{take_all}
use Rattle.model.specs.sites.Sites.{SiteTerms, constructor_call}
use Rattle.model.specs.visits.Demands.{has_site}
use Rattle.laws_specs.specs.Conditions.{is_impure_call}
use Rattle.spec_cases.specs.Namings.{Naming}
use Rattle.spec_cases.specs.Places.{AreApart}
use Rattle.spec_steps.specs.Listing.{sites}

pub pure_call : (t : ℕ) (ss : SiteTerms) (n : ℕ) → n ≤ 0 → is_impure_call (constructor_call t ss n) ≡ false
pure_call t ss zero h = refl
pure_call t ss (suc n) h = absurd (omega arith)

pub impure_call : (t : ℕ) (ss : SiteTerms) (n : ℕ) → 0 < n → is_impure_call (constructor_call t ss n) ≡ true
impure_call t ss zero h = absurd (omega arith)
impure_call t ss (suc n) h = refl

pub ruleset impure_steps = (pure_call, impure_call)

-- the first of a list is the one, or another
pub one_here : (v : Naming) → AreApart v → (s : ℕ) (l : List ℕ) → 1 ≤ length l → get_or l 0 0 ≡ s → has_site (sites v l) (v.site s) ≡ true
one_here v apart s [] h e = absurd (omega arith)
one_here v apart s (y ∷ l) h e = ap (λ b. b || has_site (sites v l) (v.site s)) (apart y s ∙ eq-eqb y s e)

pub one_later : (v : Naming) → AreApart v → (s : ℕ) (l : List ℕ) → 1 ≤ length l → get_or l 0 0 ≢ s
    → has_site (sites v (take (length l - 1) (drop 1 l))) (v.site s) ≡ has_site (sites v l) (v.site s)
one_later v apart s [] h other = absurd (omega arith)
one_later v apart s (y ∷ l) h other =
    ap (λ r. has_site (sites v r) (v.site s)) (take_all (length (y ∷ l) - 1) l (omega arith))
    ∙ ap (λ b. b || has_site (sites v l) (v.site s)) (sym (apart y s ∙ ne_eqb y s other))

pub ruleset one_steps = (one_here, one_later)
