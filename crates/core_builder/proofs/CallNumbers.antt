-- The numbers of a rule's impure calls: no two calls share one, so that the calls are no more than the sites.
use Rattle.std.proofs.Common.{◌≡◌, ◌⊎◌, ℕ, suc, ◌≤◌, ◌<◌, Bool, if◌then◌else◌, List, [], ◌∷◌, ◌++◌, length, map, Some, slice_get, All, sym, ap, ◌∙◌, subst, inl, inr, arith}
use Rattle.std.proofs.lemmas.List.{length-map}
use Rattle.std.proofs.lemmas.List.Elements.{All-head, All-tail}
use Rattle.std.proofs.Math.Nat.{suc_inj}
use Rattle.std.proofs.lemmas.Grind.{common_steps}
use Rattle.model.specs.lists.Tables.{Flags}
use Rattle.model.specs.sites.Sites.{SiteTerm, pick_of, some_part, unfold_site}
use Rattle.model.specs.visits.Demands.{Visit, call_result}
use Rattle.model.specs.sites.Closure.{before_closing}
use Rattle.model.proofs.DistinctCounts.{no_more_distinct}
use Rattle.model.proofs.Elements.{In, in_slice, none_some, some_is}
use Rattle.core_builder.specs.VisitedSites.{AreCallsNumbered, BuilderStandsAt, built_sites, call_number}
use Rattle.core_builder.specs.declared.ruleset_builder.RuleSetBuilder.{RuleSetBuilder}

-- before any call
pub none_numbered : AreCallsNumbered []
none_numbered i u e = absurd (none_some u e)

-- one more
last_or_before : (us : List SiteTerm) (w : SiteTerm) (i : ℕ) (u : SiteTerm) → slice_get (us ++ w ∷ []) i ≡ Some u → (slice_get us i ≡ Some u) ⊎ ((i ≡ length us) × (w ≡ u))
last_or_before (x ∷ us) w (suc i) u e = elim (last_or_before us w i u e) [ inl f ↦ inl f | inr f ↦ inr (ap suc f.0, f.1) ]
last_or_before us w i u e = grind (arith, some_is, none_some)

pub next_numbered : (us : List SiteTerm) (w : SiteTerm) → AreCallsNumbered us → call_number w ≡ suc (length us) → AreCallsNumbered (us ++ w ∷ [])
next_numbered us w h next i u e = elim (last_or_before us w i u e) [ inl f ↦ h i u f | inr f ↦ ap call_number (sym f.1) ∙ next ∙ ap suc (sym f.0) ]

-- what a call gives has its number
given_number : (p m : Bool) (call : SiteTerm) → call_number (if p then some_part call else (if m then pick_of call else call)) ≡ call_number call
given_number p m call = grind (arith, common_steps)

pub result_number : (flags : Flags) (call : SiteTerm) → call_number (call_result flags call) ≡ call_number call
result_number flags call = given_number flags.partial flags.multi call

-- what sites stand for is among what all of them do
each_among : (f : ℕ → SiteTerm) (made : List SiteTerm) (n : ℕ) → ((s : ℕ) → s < n → In made (f s)) → (ss : List ℕ) → All (λ s. s < n) ss → (u : SiteTerm) → In (map f ss) u → In made u
each_among f made n all [] w u i = absurd i
each_among f made n all (s ∷ ss) w u (inl e) = subst (In made) e (all s (All-head (λ t. t < n) s ss w))
each_among f made n all (s ∷ ss) w u (inr i) = each_among f made n all ss (All-tail (λ t. t < n) s ss w) u i

module _ (before : List SiteTerm) (b : RuleSetBuilder) (v : Visit) (h : BuilderStandsAt before b v) where
  pub calls_met : length v.demands.impure ≡ v.impure_calls
  calls_met = ap length (sym h.impure.numbers) ∙ length-map b.impure.items (unfold_site (built_sites b)) ∙ h.calls

  -- each impure call has a site, and no two have one
  pub calls_fit : length b.impure.items ≤ 65536
  calls_fit =
      let made = (before_closing before v.demands).made in
      let l = no_more_distinct v.demands.impure made
      (λ j k u x y. suc_inj (sym (h.numbered j u x) ∙ h.numbered k u y))
      (λ u i. each_among (unfold_site (built_sites b)) made (length (built_sites b)) (λ s m. in_slice made s _ (h.demands.stand.exact s m)) b.impure.items h.impure.within u
      (subst (λ us. In us u) (sym h.impure.numbers) i)) in
      let same = calls_met in
      let own = h.calls in
      let count = h.demands.stand.count in
      let few = h.table.few in
      omega (arith, l, same, own, count, few)
