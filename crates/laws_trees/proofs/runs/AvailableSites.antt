-- Available sites at a place have contents, and binding a bind order of them keeps them and all below them.
use Rattle.std.proofs.Common.{◌≡◌, ◌⊎◌, ℕ, suc, true, false, not, cond, List, [], ◌∷◌, ◌++◌, Some, is_some, slice_get, Contains, IsTrue, refl, ap, ◌∙◌, subst, inl, inr}
use Rattle.std.proofs.lemmas.Bool.{cases_Bool, or_parts}
use Rattle.model.specs.rules.Meaning.{Content}
use Rattle.model.specs.sites.Sites.{sources_at}
use Rattle.model.specs.trees.Places.{is_in, waits, is_available, is_in_place, below, all_below, each_after, listed_below, bind_order}
use Rattle.model.specs.trees.Run.{Env, used, all_bound, then_bind, bind_all}
use Rattle.model.specs.trees.Collects.{content_at, IsPureAt}
use Rattle.model.proofs.Members.{nothing_in, all_members, from_flat_map}
use Rattle.model.proofs.Numbers.{in_either, in_first, in_second}
use Rattle.laws_trees.proofs.runs.Below.{all_below_itself, all_below_pure, all_below_source, pure_deeper}
use Rattle.laws_trees.proofs.runs.Binding.{content_of, Held, held_as, kept_below, reads, binds_now, keeps_bound, keeps_in_place}
use Rattle.laws_trees.proofs.runs.BindOrders.{to_bind, bind_last, opened, available_found}
use Rattle.laws_trees.proofs.runs.Listing.{IsHere, stays_here, last_here, here_or_last, listed_last, NextSite, Walk, WalkedTo, order_listed}
use Rattle.laws_trees.proofs.runs.RunPlaces.{ClearWorld, Kept, At, Place, IsReady, wider}

module _ (clear : ClearWorld) (place : Place clear) where
  pub found_at : (s : ℕ) → IsReady clear.world.sites place.around s → (c : Content) × (content_at clear.world place.pick s ≡ Some c)
  found_at s ready =
      content_of (content_at clear.world place.pick s)
      (available_found clear.world place.pick clear.sources place.at.picked.served.found place.around (λ u i. let h = place.at.held.there u (inl (place.at.brought u i)) in ap is_some h.1) (suc s) s ready.available ready.pure)

  open_now : (n s : ℕ) → is_available n clear.world.sites place.around.brought s ≡ true → is_in s place.around.emitted ≡ false
      → (waits (slice_get clear.world.sites s) ≡ false) × ((a : ℕ) → Contains (sources_at clear.world.sites s) a → (m : ℕ) × (is_available m clear.world.sites place.around.brought a ≡ true))
  open_now = opened clear.world.sites place.around place.at.brought

  module _ (ss : List ℕ) (ready : (s : ℕ) → Contains ss s → IsReady clear.world.sites place.around s) where
    -- kept before, or listed since
    abbrev Base : ℕ → Type 0
    Base t = Kept place.around place.at.calls t

    abbrev In : List ℕ → ℕ → Type 0
    In done t = IsHere Base done t

    abbrev Below : ℕ → Type 0
    Below t = Contains (all_below clear.world.sites ss) t

    pure : (u : ℕ) → Below u → IsPureAt clear.world.sites u
    pure = all_below_pure clear.world.sites ss (λ s c. (ready s c).pure)

    -- binding what is listed leads to an environment
    record Binds (done : List ℕ) : Type 0 where
      env : Env
      binds : bind_all clear.world place.env [] (to_bind clear.world.sites done) ≡ all_bound env []
      held : Held clear.world place.pick env (In done)
      fine : (t : ℕ) → Contains done t → Below t

    last_in : (done : List ℕ) (s t : ℕ) → In done t ⊎ (s ≡ t) → In (done ++ s ∷ []) t
    last_in done s t (inl h) = stays_here Base done s t h
    last_in done s t (inr e) = last_here Base done s t e

    fine_last : (done : List ℕ) (s : ℕ) → Below s → ((t : ℕ) → Contains done t → Below t) → (t : ℕ) → Contains (done ++ s ∷ []) t → Below t
    fine_last done s f all t c = elim (listed_last done s t c) [ inl x ↦ all t x | inr e ↦ subst Below e f ]

    put : (done : List ℕ) → Binds done → (n : NextSite clear.world.sites place.around.emitted Base done) → Below n.site → waits (slice_get clear.world.sites n.site) ≡ false → Binds (done ++ n.site ∷ [])
    put done b n f wait =
        let s = n.site in
        let found = place.at.picked.served.found s (pure_deeper clear.world.sites clear.sources ss pure s f) wait
        (all_members (λ a. IsTrue (is_some (content_at clear.world place.pick a))) (sources_at clear.world.sites s) (λ a k. let h = b.held.there a (n.sources a k) in ap is_some h.1)) in
        let c = content_of (content_at clear.world place.pick s) found in
        elim (cases_Bool (is_in_place (slice_get clear.world.sites s))) [
          | inl p ↦
              let none : to_bind clear.world.sites (s ∷ []) ≡ [] = ap (λ t. cond (not t) (s ∷ []) []) p in
              record {
                env = b.env;
                binds = bind_last clear.world place.env b.env b.env done s b.binds (ap (bind_all clear.world b.env []) none);
                held = held_as clear.world place.pick b.env (λ t. In done t ⊎ (s ≡ t)) (In (done ++ s ∷ [])) (last_in done s) (here_or_last Base done s)
                    (keeps_in_place clear.world place.pick clear.sources b.env (In done) b.held s c.0 c.1 p n.sources);
                fine = fine_last done s f b.fine;
              }
          | inr q ↦
              let alone : to_bind clear.world.sites (s ∷ []) ≡ s ∷ [] = ap (λ t. cond (not t) (s ∷ []) []) q in
              let now : bind_all clear.world b.env [] (s ∷ []) ≡ all_bound ((s, c.0) ∷ b.env) []
              = ap (λ o. then_bind o (λ e calls. bind_all clear.world e calls [])) (binds_now clear.world place.pick clear.sources b.env (In done) b.held [] s (slice_get clear.world.sites s) c.0 refl wait (pure s f) n.sources c.1) in
              record {
                env = (s, c.0) ∷ b.env;
                binds = bind_last clear.world place.env b.env ((s, c.0) ∷ b.env) done s b.binds (ap (bind_all clear.world b.env []) alone ∙ now);
                held = held_as clear.world place.pick ((s, c.0) ∷ b.env) (λ t. In done t ⊎ (s ≡ t)) (In (done ++ s ∷ [])) (last_in done s) (here_or_last Base done s)
                    (keeps_bound clear.world place.pick clear.sources b.env (In done) b.held s c.0 c.1 n.sources);
                fine = fine_last done s f b.fine;
              }
        ]

    abbrev IsOpen : ℕ → Type 0
    IsOpen s = Below s × ((n : ℕ) × (is_available n clear.world.sites place.around.brought s ≡ true))

    abbrev walk : Walk
    walk = record {
      sites = clear.world.sites;
      before = clear.sources;
      emitted = place.around.emitted;
      Base = Base;
      base = λ t i. inl i;
      MayList = IsOpen;
      deeper = λ s a may out c. (all_below_source clear.world.sites clear.sources ss s a may.0 c, (open_now may.1.0 s may.1.1 out).1 a c);
      Invariant = Binds;
      next = λ done b n may. put done b n may.0 (open_now may.1.0 n.site may.1.1 (or_parts (is_in n.site place.around.emitted) (is_in n.site done) n.unlisted).0).0;
    }

    abbrev listed : List ℕ
    listed = each_after (λ done s. listed_below (suc s) clear.world.sites place.around.emitted done s) [] ss

    all_binds : WalkedTo walk [] listed (Contains ss)
    all_binds = order_listed walk ss (λ s c. (all_below_itself clear.world.sites ss s c, (suc s, (ready s c).available))) record {
      env = place.env;
      binds = refl;
      held = held_as clear.world place.pick place.env Base (In []) (λ t i. inl i) (λ t i. elim i [ inl a ↦ a | inr c ↦ absurd (nothing_in t c) ]) place.at.held;
      fine = λ t c. absurd (nothing_in t c);
    }

    -- bound, they can be used, and the place is wider
    pub binds_at : (env' : Env) × (bind_all clear.world place.env [] (bind_order clear.world.sites place.around ss) ≡ all_bound env' []) × At clear (wider clear.world.sites place.around ss) place.pick env'
        × ((s : ℕ) → Contains ss s → used clear.world env' s ≡ content_at clear.world place.pick s)
    binds_at =
        let b = all_binds.holds in (
          b.env,
          b.binds,
          record {
            calls = place.at.calls;
            picked = place.at.picked;
            held = held_as clear.world place.pick b.env (In listed) (Kept (wider clear.world.sites place.around ss) place.at.calls) to from b.held;
            pure = λ s i. elim (in_either s (all_below clear.world.sites ss) place.around.emitted i) [ inl c ↦ pure s c | inr e ↦ place.at.pure s e ];
            brought = λ s i. in_second s (all_below clear.world.sites ss) place.around.emitted (place.at.brought s i);
            brings = place.at.brings;
            loops = place.at.loops;
            tested = place.at.tested;
            joined = place.at.joined;
          },
          λ s c. reads clear.world place.pick clear.sources b.env (In listed) b.held s (all_binds.now s c),
        )
      where
        to : (t : ℕ) → In listed t → Kept (wider clear.world.sites place.around ss) place.at.calls t
        to t (inl (inl e)) = inl (in_second t (all_below clear.world.sites ss) place.around.emitted e)
        to t (inl (inr l)) = inr l
        to t (inr c) = inl (in_first t (all_below clear.world.sites ss) place.around.emitted (all_binds.holds.fine t c))

        from : (t : ℕ) → Kept (wider clear.world.sites place.around ss) place.at.calls t → In listed t
        from t (inl i) =
            elim (in_either t (all_below clear.world.sites ss) place.around.emitted i) [
              | inl a ↦
                  let r = from_flat_map (λ x. below (suc x) clear.world.sites x) ss t a in
                  kept_below clear.world place.pick all_binds.holds.env (In listed) all_binds.holds.held (suc r.0) r.0 t (all_binds.now r.0 r.1) r.2
              | inr e ↦ inl (inl e)
            ]
        from t (inr l) = inl (inr l)
