-- Sites that a rule which is taken uses, and all below them: what is bound of those without new impure calls.
use Rattle.std.proofs.Common.{◌≡◌, ◌⊎◌, ℕ, suc, ◌<◌, true, false, List, [], ◌∷◌, ◌++◌, length, Option, Some, None, is_some, slice_get, Contains, IsTrue, refl, sym, ap, ◌∙◌, subst, inl, inr, arith}
use Rattle.std.proofs.lemmas.Bool.{cases_Bool, false≢true}
use Rattle.std.proofs.lemmas.Grind.{common_steps}
use Rattle.model.specs.rules.Meaning.{Content, nothing, just}
use Rattle.model.specs.rules.Outcome.{Call, then_option}
use Rattle.model.specs.rules.Picks.{part_of_some}
use Rattle.model.specs.sites.Sites.{Site, constructor_site, match_some_site, sources_at}
use Rattle.model.specs.trees.Places.{is_in, waits, is_in_place, below, all_below, each_after, listed_below}
use Rattle.model.specs.trees.Run.{all_bound, unwrap_failed, now_bound, unwrapped, bind_site}
use Rattle.model.specs.trees.SetRuns.{IsUnwrap}
use Rattle.model.proofs.Members.{in_head, from_flat_map}
use Rattle.laws_trees.proofs.runs.Below.{all_below_itself, all_below_source}
use Rattle.laws_trees.proofs.runs.Binding.{content_of}
use Rattle.laws_trees.proofs.runs.Contents.{sources_in, content_layer}
use Rattle.laws_trees.proofs.runs.Listing.{stays_here, Walk, all_listed}
use Rattle.laws_trees.proofs.runs.PureBindings.{binds_content}
use Rattle.laws_trees.proofs.taking.CallsIn.{IsImpureAt}
use Rattle.laws_trees.proofs.taking.TakingProgress.{GaveValues, Emitted, Here, StaysHere, Next, content, bound_so_far, BoundSites, fails_on, bind_next, comes_after, fresh, read_sources, put_bound, put_placed}
use Rattle.laws_trees.proofs.taking.PureSites.{calls_nothing, pure_site}
use Rattle.laws_trees.proofs.taking.SettledSites.{below_there}
use Rattle.laws_trees.proofs.taking.Taking.{Taking, ComesAfterValues}

-- the sites that a rule which is taken uses: what stands at or below them and waits is unwrapped or emitted; what comes after
-- calls that gave values has a content if its sources have and it waits for nothing, and may be nothing where it is unwrapped
pub record ReturnSites (taking : Taking) : Type 0 where
  pub sites : List ℕ
  pub gates : (s : ℕ) → Contains (all_below taking.world.sites sites) s
      → (waits (slice_get taking.world.sites s) ≡ false) ⊎ (IsUnwrap (slice_get taking.world.sites s) ⊎ IsTrue (is_in s taking.place.around.emitted))
  pub found : (s : ℕ) → Contains (all_below taking.world.sites sites) s → ComesAfterValues taking.world taking.pick taking.calls s → waits (slice_get taking.world.sites s) ≡ false
      → ((a : ℕ) → Contains (sources_at taking.world.sites s) a → IsTrue (is_some (content taking a))) → IsTrue (is_some (content taking s))
  pub maybe : (s source : ℕ) → Contains (all_below taking.world.sites sites) s → ComesAfterValues taking.world taking.pick taking.calls s → slice_get taking.world.sites s ≡ Some (match_some_site source)
      → (c : Content) → content taking source ≡ Some c → (c ≡ nothing) ⊎ ((d : Content) × (c ≡ just d))

pub is_none : {X : Type 0} (o : Option X) → (IsTrue (is_some o) → ⊥) → o ≡ None
is_none o h = grind (arith, common_steps)

impure_form : (o : Option Site) → calls_nothing o ≡ false → (t : ℕ) × (ss : List ℕ) × (n : ℕ) × (o ≡ Some (constructor_site t ss (suc n)))
impure_form o h = grind (arith, common_steps)

module _ (taking : Taking) (uses : ReturnSites taking) where
  -- at or below a site that the rule uses
  abbrev pub Below : ℕ → Type 0
  Below s = Contains (all_below taking.world.sites uses.sites) s

  -- 1. a site that makes no impure call is put: it has its content, or it is an unwrap of nothing
  abbrev pub Put : List ℕ → List Call → ℕ → Type 0
  Put more calls s = BoundSites taking more calls ⊎ ((bound_so_far taking more ≡ unwrap_failed calls) × (content taking s ≡ None))

  pub put_pure : (done : List ℕ) (calls : List Call) → BoundSites taking done calls → (n : Next taking done) → Below n.site → calls_nothing (slice_get taking.world.sites n.site) ≡ true → Put (done ++ n.site ∷ []) calls n.site
  put_pure done calls l n b q =
      elim (uses.gates n.site b) [
        | inl wait ↦
            let c = content_of (content taking n.site) (uses.found n.site b after wait (λ a i. ap is_some (l.reads a (n.sources a i)).1)) in
            inl (put c.0 c.1 (binds c.0 c.1 (slice_get taking.world.sites n.site) refl wait q) (cases_Bool (is_in_place (slice_get taking.world.sites n.site))))
        | inr (inl u) ↦ put_unwrap (slice_get taking.world.sites n.site) refl u
        | inr (inr i) ↦ absurd (fresh taking done calls l n (inl i))
      ]
    where
      own : (t : ℕ) (ss : List ℕ) (i : ℕ) → slice_get taking.world.sites n.site ≡ Some (constructor_site t ss (suc i)) → (i < length calls) × GaveValues taking i
      own t ss i e = absurd (false≢true (sym (ap calls_nothing e) ∙ q))

      after : ComesAfterValues taking.world taking.pick taking.calls n.site
      after = comes_after taking done calls l n.site n.sources (λ t ss i at. (own t ss i at).1)

      put : (c : Content) → content taking n.site ≡ Some c → bind_site taking.world l.env calls n.site (slice_get taking.world.sites n.site) ≡ all_bound ((n.site, c) ∷ l.env) calls
          → (is_in_place (slice_get taking.world.sites n.site) ≡ true) ⊎ (is_in_place (slice_get taking.world.sites n.site) ≡ false) → BoundSites taking (done ++ n.site ∷ []) calls
      put c there e (inl p) = put_placed taking done calls l n c there p
      put c there e (inr p) = put_bound taking done calls l n c there calls (omega arith) own p e

      binds : (c : Content) → content taking n.site ≡ Some c → (o : Option Site) → slice_get taking.world.sites n.site ≡ o → waits o ≡ false → calls_nothing o ≡ true
          → bind_site taking.world l.env calls n.site o ≡ all_bound ((n.site, c) ∷ l.env) calls
      binds c there None at wait p = absurd (false≢true (sym wait))
      binds c there (Some d) at wait p =
          binds_content taking.world taking.pick taking.before l.env calls n.site d at wait (pure_site d p) (λ u i. read_sources taking done calls l n u (subst (λ x. Contains (sources_in x) u) (sym at) i))
          ∙ ap (now_bound l.env calls n.site) there

      put_unwrap : (o : Option Site) → slice_get taking.world.sites n.site ≡ o → IsUnwrap o → Put (done ++ n.site ∷ []) calls n.site
      put_unwrap (Some (match_some_site source)) at u =
          let x = l.reads source (n.sources source (subst (λ x. Contains (sources_in x) source) (sym at) (in_head source []))) in
          let layer = content_layer taking.world taking.pick taking.before n.site (match_some_site source) at in
          let p = ap is_in_place at in
          elim (uses.maybe n.site source b after at x.0 x.1) [
            | inl q ↦
                inr (
                  bind_next taking done calls l n.site (unwrap_failed calls) p (ap (bind_site taking.world l.env calls n.site) at ∙ ap (unwrapped l.env calls n.site) (x.2 ∙ ap Some q)),
                  layer ∙ ap (λ o. then_option o part_of_some) (x.1 ∙ ap Some q),
                )
            | inr d ↦
                inl (put d.0 (layer ∙ ap (λ o. then_option o part_of_some) (x.1 ∙ ap Some d.1)) (ap (bind_site taking.world l.env calls n.site) at ∙ ap (unwrapped l.env calls n.site) (x.2 ∙ ap Some d.1)) (inr p))
          ]
      put_unwrap _ at u = absurd u

  -- 2. sites were listed with all below them, or one of them has no content
  pub record AllListed (done more : List ℕ) (calls : List Call) (xs : List ℕ) : Type 0 where
    pub listed : BoundSites taking more calls
    pub grows : StaysHere taking done more
    pub now : (s : ℕ) → Contains xs s → Here taking more s

  pub record OneFailed (more : List ℕ) (calls : List Call) (xs : List ℕ) : Type 0 where
    pub bound : bound_so_far taking more ≡ unwrap_failed calls
    pub site : ℕ
    pub among : Contains xs site
    pub none : content taking site ≡ None

  -- the impure calls at and below these sites are here
  abbrev pub CallsReady : List ℕ → List ℕ → Type 0
  CallsReady done xs = (u : ℕ) → Contains (all_below taking.world.sites xs) u → IsImpureAt taking.world.sites taking.before u → Here taking done u

  below_none : (s u : ℕ) → Contains (below (suc s) taking.world.sites s) u → content taking u ≡ None → content taking s ≡ None
  below_none s u c none = is_none (content taking s) (λ h. false≢true (sym (ap is_some none) ∙ below_there taking.world taking.pick taking.before (suc s) s u h c))

  module _ (done : List ℕ) (calls : List Call) (xs : List ℕ) (ready : CallsReady done xs) where
    -- so far, or a site below these has no content
    record IsWalked (more : List ℕ) : Type 0 where
      grows : StaysHere taking done more
      reached : BoundSites taking more calls ⊎ OneFailed more calls (all_below taking.world.sites xs)

    pure_next : (more : List ℕ) → BoundSites taking more calls → IsWalked more → (n : Next taking more) → Contains (all_below taking.world.sites xs) n.site → calls_nothing (slice_get taking.world.sites n.site) ≡ true
    pure_next more l w n c =
        elim (cases_Bool (calls_nothing (slice_get taking.world.sites n.site))) [
          | inl t ↦ t
          | inr f ↦ absurd (fresh taking more calls l n (w.grows n.site (ready n.site c (impure_form (slice_get taking.world.sites n.site) f))))
        ]

    reached_next : (more : List ℕ) → IsWalked more → (n : Next taking more) → Below n.site → Contains (all_below taking.world.sites xs) n.site
        → BoundSites taking more calls ⊎ OneFailed more calls (all_below taking.world.sites xs) → BoundSites taking (more ++ n.site ∷ []) calls ⊎ OneFailed (more ++ n.site ∷ []) calls (all_below taking.world.sites xs)
    reached_next more w n b c (inl l) =
        elim (put_pure more calls l n b (pure_next more l w n c)) [
          | inl p ↦ inl p
          | inr f ↦ inr (record { bound = f.0; site = n.site; among = c; none = f.1 })
        ]
    reached_next more w n b c (inr f) = inr (record { bound = fails_on taking more (more ++ n.site ∷ []) calls (n.site ∷ [], refl) f.bound; site = f.site; among = f.among; none = f.none })

    abbrev walk : Walk
    walk = record {
      sites = taking.world.sites;
      before = taking.before;
      emitted = taking.place.around.emitted;
      Base = Emitted taking;
      base = λ t i. i;
      MayList = λ s. Below s × Contains (all_below taking.world.sites xs) s;
      deeper = λ s a may out c. (all_below_source taking.world.sites taking.before uses.sites s a may.0 c, all_below_source taking.world.sites taking.before xs s a may.1 c);
      Invariant = IsWalked;
      next = λ more w n may. record { grows = λ t i. stays_here (Emitted taking) more n.site t (w.grows t i); reached = reached_next more w n may.0 may.1 w.reached };
    }

    pub sites_go : (n : ℕ) → ((s : ℕ) → Contains xs s → (s < n) × Below s) → BoundSites taking done calls
        → AllListed done (each_after (listed_below n taking.world.sites taking.place.around.emitted) done xs) calls xs ⊎ OneFailed (each_after (listed_below n taking.world.sites taking.place.around.emitted) done xs) calls xs
    sites_go n fine l =
        let r = all_listed walk n xs (λ s c. let f = fine s c in (f.0, (f.1, all_below_itself taking.world.sites xs s c))) done (record { grows = λ t i. i; reached = inl l }) in
        elim r.holds.reached [
          | inl k ↦ inl (record { listed = k; grows = r.holds.grows; now = r.now })
          | inr f ↦ let a = from_flat_map (λ x. below (suc x) taking.world.sites x) xs f.site f.among in inr (record { bound = f.bound; site = a.0; among = a.1; none = below_none a.0 f.site a.2 f.none })
        ]
