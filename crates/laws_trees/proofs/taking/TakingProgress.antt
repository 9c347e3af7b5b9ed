-- What is bound so far while a rule is taken: the sites listed, the calls made, and one site more.
use Rattle.std.proofs.Common.{◌≡◌, ℕ, zero, suc, ◌<◌, ◌≤◌, true, false, List, [], ◌∷◌, ◌++◌, length, take, Option, Some, None, slice_get, All, Contains, flat_map, refl, sym, ap, ◌∙◌, subst, inl, inr, arith}
use Rattle.std.proofs.lemmas.Bool.{cases_eq, false≢true}
use Rattle.std.proofs.lemmas.Option.{same_Some}
use Rattle.std.proofs.lemmas.List.Elements.{filter-append, All-contains}
use Rattle.std.proofs.lemmas.Grind.{common_steps}
use Rattle.model.specs.rules.Meaning.{Content}
use Rattle.model.specs.rules.Outcome.{Call}
use Rattle.model.specs.rules.Picks.{HasContent}
use Rattle.model.specs.sites.Sites.{constructor_site, sources_at}
use Rattle.model.specs.trees.Places.{is_in, is_in_place, below, all_below}
use Rattle.model.specs.trees.Run.{Env, bound_to, used, Bound, all_bound, unwrap_failed, bind_site, then_bind, bind_all}
use Rattle.model.specs.trees.Collects.{content_at, IsPureSite, IsPureAt}
use Rattle.model.proofs.Members.{nothing_in, in_head, in_cases, in_flat_map, from_flat_map}
use Rattle.laws_trees.proofs.runs.Below.{below_enough}
use Rattle.laws_trees.proofs.runs.BindOrders.{to_bind, bind_append}
use Rattle.laws_trees.proofs.runs.Binding.{content_of}
use Rattle.laws_trees.proofs.runs.Listing.{IsHere, stays_here, last_here, here_or_last, listed_last, not_here, NextSite, AreClosed, closed_next}
use Rattle.laws_trees.proofs.taking.BindOrderGrowth.{Extends}
use Rattle.laws_trees.proofs.taking.CallsIn.{IsImpureAt}
use Rattle.laws_trees.proofs.taking.Taking.{Taking, ComesAfterValues}
use Rattle.laws_trees.proofs.taking.UsedSites.{used_placed, placed_same, content_placed, bound_elsewhere, used_here, used_stays}

module _ (taking : Taking) where
  -- the first n calls gave values
  abbrev pub GaveValues : ℕ → Type 0
  GaveValues n = All (HasContent taking.world.meaning taking.world.args taking.pick) (take n taking.calls)

  abbrev pub Emitted : ℕ → Type 0
  Emitted s = is_in s taking.place.around.emitted ≡ true

  abbrev pub Here : List ℕ → ℕ → Type 0
  Here done s = IsHere Emitted done s

  -- what is here after these sites is here after more of them
  abbrev pub StaysHere : List ℕ → List ℕ → Type 0
  StaysHere done more = (s : ℕ) → Here done s → Here more s

  -- the site that is listed next
  abbrev pub Next : List ℕ → Type 0
  Next done = NextSite taking.world.sites taking.place.around.emitted Emitted done

  -- the content of a site's number under the pick
  abbrev pub content : ℕ → Option Content
  content s = content_at taking.world taking.pick s

  abbrev pub bound_so_far : List ℕ → Bound
  bound_so_far done = bind_all taking.world taking.place.env [] (to_bind taking.world.sites done)

  -- 1. what is bound of these sites, after these calls: what is emitted or listed can be read, nothing else is bound, and an
  -- impure call that is listed comes after fewer calls than were made, which gave values
  pub record BoundSites (done : List ℕ) (calls : List Call) : Type 0 where
    pub env : Env
    pub bound : bound_so_far done ≡ all_bound env calls
    pub reads : (u : ℕ) → Here done u → (c : Content) × (content u ≡ Some c) × (used taking.world env u ≡ Some c)
    pub only : (u : ℕ) (c : Content) → bound_to env u ≡ Some c → Here done u
    pub closed : AreClosed taking.world.sites Emitted done
    pub counted : (u t : ℕ) (ss : List ℕ) (n : ℕ) → Contains done u → slice_get taking.world.sites u ≡ Some (constructor_site t ss (suc n)) → (n < length calls) × GaveValues n

  pub nothing_listed : BoundSites [] []
  nothing_listed = grind (arith, common_steps, nothing_in, content_of)

  bind_more : (done new : List ℕ) → bound_so_far (done ++ new) ≡ then_bind (bound_so_far done) (λ e calls. bind_all taking.world e calls (to_bind taking.world.sites new))
  bind_more done new = grind (arith, common_steps, filter-append, bind_append, to_bind)

  -- a failure stays
  pub fails_on : (done more : List ℕ) (calls : List Call) → Extends done more → bound_so_far done ≡ unwrap_failed calls → bound_so_far more ≡ unwrap_failed calls
  fails_on done more calls (new, e) h = ap bound_so_far e ∙ bind_more done new ∙ ap (λ b. then_bind b (λ e calls. bind_all taking.world e calls (to_bind taking.world.sites new))) h

  pub bind_next : (done : List ℕ) (calls : List Call) (l : BoundSites done calls) (s : ℕ) (b : Bound) → is_in_place (slice_get taking.world.sites s) ≡ false
      → bind_site taking.world l.env calls s (slice_get taking.world.sites s) ≡ b
      → bound_so_far (done ++ s ∷ []) ≡ then_bind b (λ e' calls'. all_bound e' calls')
  bind_next done calls l s b p q = grind (arith, common_steps, bind_more, to_bind)

  bind_none : (done : List ℕ) (calls : List Call) (l : BoundSites done calls) (s : ℕ) → is_in_place (slice_get taking.world.sites s) ≡ true → bound_so_far (done ++ s ∷ []) ≡ all_bound l.env calls
  bind_none done calls l s p = grind (arith, common_steps, bind_more, to_bind)

  -- no impure call is emitted, nor is one below what is emitted
  pub not_emitted : (s x : ℕ) → Contains (below (suc s) taking.world.sites s) x → IsImpureAt taking.world.sites taking.before x → is_in s taking.place.around.emitted ≡ true → ⊥
  not_emitted s x c (t, sources, i, at) m =
      let a = All-contains (IsPureAt taking.world.sites) (all_below taking.world.sites (s ∷ [])) x (taking.place.reached.pure s m) (in_flat_map (λ x. below (suc x) taking.world.sites x) (s ∷ []) s x (in_head s []) c) in
      subst IsPureSite (same_Some a.0 (constructor_site t sources (suc i)) (sym a.1 ∙ at)) a.2

  -- impure calls below what is here come after calls that gave values, and so it is with a site above such ones
  below_here : (done : List ℕ) (calls : List Call) → BoundSites done calls → (n x : ℕ) → x < n → Here done x
      → (u t : ℕ) (ss : List ℕ) (m : ℕ) → Contains (below n taking.world.sites x) u → slice_get taking.world.sites u ≡ Some (constructor_site t ss (suc m)) → GaveValues m
  below_here done calls l zero x lt h u t ss m c at = absurd (omega (arith, lt))
  below_here done calls l (suc n) x lt (inl i) u t ss m c at = grind (arith, common_steps, not_emitted x u, below_enough taking.world.sites taking.before (suc n) x lt)
  below_here done calls l (suc n) x lt (inr i) u t ss m c at =
      elim (in_cases x u (flat_map (below n taking.world.sites) (sources_at taking.world.sites x)) c) [
        | inl q ↦ (l.counted x t ss m i (ap (slice_get taking.world.sites) q ∙ at)).1
        | inr d ↦
            let r = from_flat_map (below n taking.world.sites) (sources_at taking.world.sites x) u d in
            let less = taking.before x r.0 r.1 in
            below_here done calls l n r.0 (omega (arith, lt, less)) (l.closed x r.0 i r.1) u t ss m r.2 at
      ]

  pub comes_after : (done : List ℕ) (calls : List Call) → BoundSites done calls → (s : ℕ) → ((a : ℕ) → Contains (sources_at taking.world.sites s) a → Here done a)
      → ((t : ℕ) (ss : List ℕ) (n : ℕ) → slice_get taking.world.sites s ≡ Some (constructor_site t ss (suc n)) → GaveValues n) → ComesAfterValues taking.world taking.pick taking.calls s
  comes_after done calls l s sources own u t ss n c at =
      elim (in_cases s u (flat_map (below s taking.world.sites) (sources_at taking.world.sites s)) c) [
        | inl q ↦ own t ss n (ap (slice_get taking.world.sites) q ∙ at)
        | inr d ↦
            let r = from_flat_map (below s taking.world.sites) (sources_at taking.world.sites s) u d in
            below_here done calls l s r.0 (taking.before s r.0 r.1) (sources r.0 r.1) u t ss n r.2 at
      ]

  -- 2. one more site
  module _ (done : List ℕ) (calls : List Call) (l : BoundSites done calls) (n : Next done) where
    pub fresh : Here done n.site → ⊥
    fresh = not_here taking.place.around.emitted done n.site n.unlisted

    other : (t : ℕ) → Here done t → n.site ≡ t → ⊥
    other t i e = fresh (subst (Here done) (sym e) i)

    unbound : bound_to l.env n.site ≡ None
    unbound = grind (arith, common_steps, fresh)

    pub read_sources : (u : ℕ) → Contains (sources_at taking.world.sites n.site) u → used taking.world l.env u ≡ content u
    read_sources u c = (let x = l.reads u (n.sources u c) in x.2 ∙ sym x.1)

    -- if it is an impure call, it comes after fewer calls, which gave values
    abbrev pub IsCounted : List Call → Type 0
    IsCounted calls' = (t : ℕ) (ss : List ℕ) (i : ℕ) → slice_get taking.world.sites n.site ≡ Some (constructor_site t ss (suc i)) → (i < length calls') × GaveValues i

    pub put_bound : (c : Content) → content n.site ≡ Some c → (calls' : List Call) → length calls ≤ length calls' → IsCounted calls' → is_in_place (slice_get taking.world.sites n.site) ≡ false
        → bind_site taking.world l.env calls n.site (slice_get taking.world.sites n.site) ≡ all_bound ((n.site, c) ∷ l.env) calls' → BoundSites (done ++ n.site ∷ []) calls'
    put_bound c there calls' le own p b = record {
      env = (n.site, c) ∷ l.env;
      bound = bind_next done calls l n.site (all_bound ((n.site, c) ∷ l.env) calls') p b;
      reads = λ u i. elim (here_or_last Emitted done n.site u i) [
        | inl d ↦ let x = l.reads u d in (x.0, x.1, used_stays taking.world l.env n.site u c x.0 (other u d) unbound x.2)
        | inr q ↦ subst (λ x. (y : Content) × (content x ≡ Some y) × (used taking.world ((n.site, c) ∷ l.env) x ≡ Some y)) q (c, there, used_here taking.world l.env n.site c)
      ];
      only = λ u x e. elim (cases_eq n.site u) [
        | inl q ↦ last_here Emitted done n.site u q
        | inr d ↦ stays_here Emitted done n.site u (l.only u x (sym (bound_elsewhere l.env n.site u c d) ∙ e))
      ];
      closed = closed_next taking.world.sites taking.place.around.emitted Emitted done l.closed n;
      counted = λ u t ss i j q. elim (listed_last done n.site u j) [
        | inl d ↦ let a = l.counted u t ss i d q in let lt = a.0 in (omega (arith, lt, le), a.1)
        | inr x ↦ own t ss i (ap (slice_get taking.world.sites) x ∙ q)
      ];
    }

    pub put_placed : (c : Content) → content n.site ≡ Some c → is_in_place (slice_get taking.world.sites n.site) ≡ true → BoundSites (done ++ n.site ∷ []) calls
    put_placed c there p = record {
      env = l.env;
      bound = bind_none done calls l n.site p;
      reads = λ u i. elim (here_or_last Emitted done n.site u i) [
        | inl d ↦ l.reads u d
        | inr q ↦ subst (λ x. (y : Content) × (content x ≡ Some y) × (used taking.world l.env x ≡ Some y)) q (c, there, here ∙ there)
      ];
      only = λ u x e. stays_here Emitted done n.site u (l.only u x e);
      closed = closed_next taking.world.sites taking.place.around.emitted Emitted done l.closed n;
      counted = λ u t ss i j q. elim (listed_last done n.site u j) [
        | inl d ↦ l.counted u t ss i d q
        | inr x ↦ absurd (false≢true (sym (ap is_in_place (ap (slice_get taking.world.sites) x ∙ q)) ∙ p))
      ];
    }
      where
        here : used taking.world l.env n.site ≡ content n.site
        here =
            used_placed taking.world l.env n.site unbound
            ∙ placed_same taking.world (used taking.world l.env) content (slice_get taking.world.sites n.site) read_sources
            ∙ sym (content_placed taking.world taking.pick taking.before n.site (slice_get taking.world.sites n.site) refl p)
