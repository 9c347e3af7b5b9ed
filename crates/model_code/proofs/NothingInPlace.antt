-- Best trees bind no site that is written in place.
use Rattle.std.proofs.Common.{◌≡◌, inl, inr, ℕ, zero, suc, ◌+◌, Bool, true, false, not, if◌then◌else◌, List, [], ◌∷◌, Option, Some, None, slice_get, refl, sym, ap, ◌∙◌, arith}
use Rattle.std.specs.List.{filter}
use Rattle.std.proofs.lemmas.Bool.{cases_Bool, cond-true, cond-false, and_from}
use Rattle.std.proofs.lemmas.Option.{none-some, same_Some}
use Rattle.std.proofs.lemmas.Grind.{common_steps}
use Rattle.model.specs.sites.Sites.{Site, Constraint, SiteSet}
use Rattle.model.specs.trees.Trees.{Marked, m_no_step, m_step, MarkedCheck, m_match, m_equal, m_loop, m_return, MarkedArms, m_no_arm, m_arm, plain, plain_check, plain_arms}
use Rattle.model.specs.trees.Places.{Around, nothing_around, is_in_place, each_after, listed_below, uses, site_from, each_field, in_arm, in_equal, in_loop, after_step}
use Rattle.model.specs.trees.Sound.{is_return}
use Rattle.model.specs.trees.Best.{BestSteps, BestCheck, BestArms}
use Rattle.model_code.specs.CodeLaws.{none_in_place, no_field_in_place, binds_none_in_place, check_binds_none, arms_bind_none, BestTreesBindNoneInPlace}

-- 1. the sites of fields
module _ (p : Site → Bool) (out : (b : Site) → p b ≡ true → is_in_place (Some b) ≡ false) where
  -- the first that passes isn't written in place
  first_outside : (sites : List Site) (n x : ℕ) → site_from n p sites ≡ Some x → (k : ℕ) × (x ≡ n + k) × (is_in_place (slice_get sites k) ≡ false)
  first_outside [] n x e = absurd (none-some x e)
  first_outside (b ∷ sites) n x e =
      elim (cases_Bool (p b)) [
        | inl t ↦ let q = same_Some n x (sym (cond-true (p b) (Some n) (site_from (suc n) p sites) t) ∙ e) in (0, omega (arith, q), out b t)
        | inr f ↦
            let r = first_outside sites (suc n) x (sym (cond-false (p b) (Some n) (site_from (suc n) p sites) f) ∙ e) in
            (suc r.0, omega (arith, r.1), r.2)
      ]

each_outside : (p : ℕ → Site → Bool) → ((i : ℕ) (b : Site) → p i b ≡ true → is_in_place (Some b) ≡ false) → (sites : List Site) (i n : ℕ) → no_field_in_place sites (each_field p sites i n) ≡ true
each_outside p out sites i zero = refl
each_outside p out sites i (suc n) = grind (arith, each_outside p out sites (suc i) n, first_outside)

-- 2. bind orders
left_out : (sites : List Site) (xs : List ℕ) → none_in_place sites (filter (λ s. not (is_in_place (slice_get sites s))) xs) ≡ true
left_out sites [] = refl
left_out sites (x ∷ xs) = grind (arith, common_steps, left_out sites xs, and_from)

-- 3. by induction on the marked tree
module _ (set : SiteSet) where
  mutual
    steps_outside : (m : Marked) (ar : Around) (closing : Bool) → BestSteps set ar closing m → binds_none_in_place (plain set.rules m) set.sites ≡ true
    steps_outside m_no_step ar closing h = refl
    steps_outside (m_step binds check rest) ar closing h =
        and_from _ _ (ap (none_in_place set.sites) h.0 ∙ left_out set.sites (each_after (λ done s. listed_below (suc s) set.sites ar.emitted done s) [] (uses set check)))
        (and_from _ _ (check_outside check ar closing _ h.1) (steps_outside rest (after_step set ar check) (is_return check) h.2))

    check_outside : (check : MarkedCheck) (ar : Around) (closing : Bool) (later : List ℕ) → BestCheck set ar closing later check → check_binds_none (plain_check set.rules check) set.sites ≡ true
    check_outside (m_match source arms) ar closing later h = arms_outside arms ar source None h.2
    check_outside (m_equal a b body) ar closing later h = steps_outside body (in_equal set ar a b) false h.2
    check_outside (m_loop result body) ar closing later h = and_from _ _ (ap (λ o. if is_in_place o then false else true) h.1.1) (steps_outside body (in_loop set ar result) false h.2)
    check_outside (m_return rule) ar closing later h = grind arith

    arms_outside : (arms : MarkedArms) (ar : Around) (source : ℕ) (before : Option Constraint) → BestArms set ar source before arms → arms_bind_none (plain_arms set.rules arms) set.sites ≡ true
    arms_outside m_no_arm ar source before h = refl
    arms_outside (m_arm constraint fields body rest) ar source before h =
        and_from _ _ (ap (no_field_in_place set.sites) h.3 ∙ (grind (arith, common_steps, each_outside, first_outside)))
        (and_from _ _ (steps_outside body (in_arm set ar source constraint fields) false h.4) (arms_outside rest ar source (Some constraint) h.5))

pub best_trees_bind_none_in_place_lem : BestTreesBindNoneInPlace
best_trees_bind_none_in_place_lem set tree b = ap (λ t. binds_none_in_place t set.sites) (sym b.returns.same) ∙ steps_outside set b.marked nothing_around false b.steps
