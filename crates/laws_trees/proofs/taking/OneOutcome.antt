-- Taking a rule comes to one outcome from every place that a run reaches: only critical sites are bound anew, the same ones in
-- the same order, and each of them alike.
use Rattle.std.proofs.Common.{◌≡◌, ◌⊎◌, ℕ, suc, true, false, not, cond, List, [], ◌∷◌, ◌++◌, Option, Some, None, slice_get, Contains, IsTrue, filter, refl, sym, ap, ◌∙◌, subst, inl, inr, arith}
use Rattle.std.proofs.lemmas.Bool.{cases_Bool, cases_eq, or_parts, false≢true}
use Rattle.std.proofs.lemmas.Option.{none-some, same_Some}
use Rattle.std.proofs.lemmas.List.Elements.{Contains-append_left, Contains-append_right, filter-append}
use Rattle.std.proofs.lemmas.Grind.{common_steps}
use Rattle.model.specs.rules.Meaning.{Content, just}
use Rattle.model.specs.rules.Outcome.{Call, Outcome, then_option}
use Rattle.model.specs.rules.Picks.{part_of_some}
use Rattle.model.specs.sites.Sites.{Site, match_some_site, SetRule, sources_at}
use Rattle.model.specs.trees.Places.{is_in, waits, is_in_place, all_below, each_after, listed_below, return_uses}
use Rattle.model.specs.trees.Trees.{no_step, return_at}
use Rattle.model.specs.trees.Run.{World, Env, bound_to, used, Bound, all_bound, unwrapped, bind_site, then_bind, bind_all, at_start, on_bound, or_next, run_tree, run_check}
use Rattle.model.specs.trees.Collects.{content_at}
use Rattle.model.specs.trees.SetRuns.{IsUnwrap, IsTaken, TakenOnce}
use Rattle.model.proofs.Members.{nothing_in, in_head}
use Rattle.laws_trees.proofs.runs.BindOrders.{to_bind, bind_append}
use Rattle.laws_trees.proofs.runs.Binding.{reads, binds_now}
use Rattle.laws_trees.proofs.runs.Contents.{SourcesBefore, sources_in, content_layer}
use Rattle.laws_trees.proofs.runs.Below.{all_below_itself, all_below_source}
use Rattle.laws_trees.proofs.taking.SettledSites.{settled, critical, Stock, settled_content, settled_pure, settled_source, emitted_settled, settled_stock, critical_below, critical_order}
use Rattle.laws_trees.proofs.taking.Taking.{ReachedPlace}
use Rattle.laws_trees.proofs.taking.UsedSites.{used_placed, placed_same, content_placed, bound_elsewhere, used_here, used_elsewhere, used_stays, AreAlike, bind_alike, alike_bound, AreAlikeBy, then_alike}
use Rattle.laws_trees.proofs.runs.Listing.{IsHere, stays_here, last_here, here_or_last, listed_last, not_here, NextSite, AreClosed, closed_next, Walk, WalkedTo, order_listed}

-- an unwrap of what has a part is bound to it
just_there : (o : Option Content) (c : Content) → then_option o part_of_some ≡ Some c → o ≡ Some (just c)
just_there o c e = grind (arith, common_steps, none-some, same_Some)

none_from : (o : Option Content) → ((c : Content) → o ≡ Some c → ⊥) → o ≡ None
none_from o h = grind (arith, common_steps)

module _ (w : World) (before : SourcesBefore w.sites) where
  abbrev Settled : ℕ → Type 0
  Settled t = settled w t ≡ true

  -- 1. a settled site that doesn't wait is bound to its content
  settled_binds : (stock : Stock w) (e : Env) (calls : List Call) (s : ℕ) (h : settled w s ≡ true) (o : Option Site) → slice_get w.sites s ≡ o → (waits o ≡ false) ⊎ IsUnwrap o → is_in_place o ≡ false
      → ((a : ℕ) → Contains (sources_in o) a → used w e a ≡ content_at w [] a)
      → bind_site w e calls s o ≡ all_bound ((s, (settled_content w before s h).0) ∷ e) calls
  settled_binds stock e calls s h o at (inl n) p sources =
      let c = settled_content w before s h in
      let kept : (a : ℕ) → Contains (sources_in o) a → Settled a = λ a k. settled_source w before s a h (subst (λ x. Contains (sources_in x) a) (sym at) k) in
      let now = binds_now w [] before stock.env Settled stock.held calls s o c.0 at n (settled_pure w before s h) kept c.1 in
      alike_bound e stock.env s calls (bind_site w e calls s o) c.0
      (subst (AreAlike s e stock.env (bind_site w e calls s o)) now
      (bind_alike w e stock.env s calls o (λ a k. sources a k ∙ sym (reads w [] before stock.env Settled stock.held a (kept a k))) p))
  settled_binds stock e calls s h (Some (match_some_site source)) at (inr u) p sources =
      let c = settled_content w before s h in
      let j = just_there (content_at w [] source) c.0 (sym (content_layer w [] before s (match_some_site source) at) ∙ c.1) in
      ap (unwrapped e calls s) (sources source (in_head source []) ∙ j)
  settled_binds stock e calls s h _ at (inr u) p sources = absurd u

  module _ (stock : Stock w) (place : ReachedPlace w []) where
    abbrev Emitted : ℕ → Type 0
    Emitted t = is_in t place.around.emitted ≡ true

    abbrev In : List ℕ → ℕ → Type 0
    In done t = IsHere Emitted done t

    emitted_is : (t : ℕ) → is_in t place.around.emitted ≡ true → Settled t
    emitted_is t i = emitted_settled w before place t i

    -- 2. two environments agree on what is emitted or listed: settled sites can be read, others are read alike; and they bind
    -- nothing else
    record Agree (done : List ℕ) (e e' : Env) : Type 0 where
      reads_one : (u : ℕ) → In done u → Settled u → used w e u ≡ content_at w [] u
      reads_other : (u : ℕ) → Settled u → used w e' u ≡ content_at w [] u
      same : (u : ℕ) → Contains done u → settled w u ≡ false → used w e u ≡ used w e' u
      only_one : (u : ℕ) (c : Content) → bound_to e u ≡ Some c → In done u
      only_other : (u : ℕ) (c : Content) → bound_to e' u ≡ Some c → Settled u ⊎ Contains done u

    agree_on : (done : List ℕ) (e e' : Env) → Agree done e e' → (u : ℕ) → In done u → used w e u ≡ used w e' u
    agree_on done e e' a u i =
        elim (cases_Bool (settled w u)) [
          | inl h ↦ a.reads_one u i h ∙ sym (a.reads_other u h)
          | inr h ↦ elim i [ inl k ↦ absurd (false≢true (sym h ∙ emitted_is u k)) | inr c ↦ a.same u c h ]
        ]

    -- how far two bindings came
    abbrev Alike : List ℕ → Bound → Bound → Type 0
    Alike done b b' = AreAlikeBy (Agree done) b b'

    -- 3. one more site
    module _ (done : List ℕ) (n : NextSite w.sites place.around.emitted Emitted done) (closed : AreClosed w.sites Emitted done) where
      abbrev more : List ℕ
      more = done ++ n.site ∷ []

      fresh : In done n.site → ⊥
      fresh = not_here place.around.emitted done n.site n.unlisted

      other : (t : ℕ) → In done t → n.site ≡ t → ⊥
      other t i e = fresh (subst (In done) (sym e) i)

      module _ (e e' : Env) (a : Agree done e e') where
        unbound_one : bound_to e n.site ≡ None
        unbound_one = none_from (bound_to e n.site) (λ c b. fresh (a.only_one n.site c b))

        unbound_other : settled w n.site ≡ false → bound_to e' n.site ≡ None
        unbound_other h = none_from (bound_to e' n.site) (λ c b. elim (a.only_other n.site c b) [ inl k ↦ absurd (false≢true (sym h ∙ k)) | inr k ↦ fresh (inr k) ])

        reads_sources : Settled n.site → (x : ℕ) → Contains (sources_at w.sites n.site) x → used w e x ≡ content_at w [] x
        reads_sources h x k = a.reads_one x (n.sources x k) (settled_source w before n.site x h k)

        -- nothing is bound, since it is written in place
        placed_settled : Settled n.site → is_in_place (slice_get w.sites n.site) ≡ true → Agree more e e'
        placed_settled h p = record {
          reads_one = λ u i k. elim (here_or_last Emitted done n.site u i) [ inl d ↦ a.reads_one u d k | inr q ↦ subst (λ x. used w e x ≡ content_at w [] x) q here ];
          reads_other = a.reads_other;
          same = λ u c k. elim (listed_last done n.site u c) [ inl d ↦ a.same u d k | inr q ↦ absurd (false≢true (sym k ∙ ap (settled w) (sym q) ∙ h)) ];
          only_one = λ u c b. stays_here Emitted done n.site u (a.only_one u c b);
          only_other = λ u c b. elim (a.only_other u c b) [ inl k ↦ inl k | inr d ↦ inr (Contains-append_left done (n.site ∷ []) u d) ];
        }
          where
            here : used w e n.site ≡ content_at w [] n.site
            here =
                used_placed w e n.site unbound_one
                ∙ placed_same w (used w e) (content_at w []) (slice_get w.sites n.site) (reads_sources h)
                ∙ sym (content_placed w [] before n.site (slice_get w.sites n.site) refl p)

        placed_critical : settled w n.site ≡ false → Agree more e e'
        placed_critical h = record {
          reads_one = λ u i k. elim (here_or_last Emitted done n.site u i) [ inl d ↦ a.reads_one u d k | inr q ↦ absurd (false≢true (sym h ∙ ap (settled w) q ∙ k)) ];
          reads_other = a.reads_other;
          same = λ u c k. elim (listed_last done n.site u c) [ inl d ↦ a.same u d k | inr q ↦ subst (λ x. used w e x ≡ used w e' x) q here ];
          only_one = λ u c b. stays_here Emitted done n.site u (a.only_one u c b);
          only_other = λ u c b. elim (a.only_other u c b) [ inl k ↦ inl k | inr d ↦ inr (Contains-append_left done (n.site ∷ []) u d) ];
        }
          where
            here : used w e n.site ≡ used w e' n.site
            here =
                used_placed w e n.site unbound_one
                ∙ placed_same w (used w e) (used w e') (slice_get w.sites n.site) (λ x k. agree_on done e e' a x (n.sources x k))
                ∙ sym (used_placed w e' n.site (unbound_other h))

        -- what is bound leaves the others as they are
        one_stays : (c : Content) (u : ℕ) → In done u → Settled u → used w ((n.site, c) ∷ e) u ≡ content_at w [] u
        one_stays c u i k = (let x = settled_content w before u k in used_stays w e n.site u c x.0 (other u i) unbound_one (a.reads_one u i k ∙ x.1) ∙ sym x.1)

        one_elsewhere : (c : Content) (u : ℕ) → Contains done u → used w ((n.site, c) ∷ e) u ≡ used w e u
        one_elsewhere c u d = used_elsewhere w e n.site u c (other u (inr d)) (λ x k. other x (closed u x d k))

        other_elsewhere : (c : Content) (u : ℕ) → Contains done u → used w ((n.site, c) ∷ e') u ≡ used w e' u
        other_elsewhere c u d = used_elsewhere w e' n.site u c (other u (inr d)) (λ x k. other x (closed u x d k))

        only_more : (c : Content) (u : ℕ) (x : Content) → bound_to ((n.site, c) ∷ e) u ≡ Some x → In more u
        only_more c u x b =
            elim (same_or_not u) [
              | inl q ↦ last_here Emitted done n.site u q
              | inr d ↦ stays_here Emitted done n.site u (a.only_one u x (sym (bound_elsewhere e n.site u c d) ∙ b))
            ]
          where
            same_or_not : (u : ℕ) → (n.site ≡ u) ⊎ (n.site ≡ u → ⊥)
            same_or_not u = cases_eq n.site u

        bound_settled : (h : Settled n.site) → Agree more ((n.site, (settled_content w before n.site h).0) ∷ e) e'
        bound_settled h =
            let c = settled_content w before n.site h in
            record {
              reads_one = λ u i k. elim (here_or_last Emitted done n.site u i) [ inl d ↦ one_stays c.0 u d k | inr q ↦ subst (λ x. used w ((n.site, c.0) ∷ e) x ≡ content_at w [] x) q (used_here w e n.site c.0 ∙ sym c.1) ];
              reads_other = a.reads_other;
              same = λ u d k. elim (listed_last done n.site u d) [ inl l ↦ one_elsewhere c.0 u l ∙ a.same u l k | inr q ↦ absurd (false≢true (sym k ∙ ap (settled w) (sym q) ∙ h)) ];
              only_one = only_more c.0;
              only_other = λ u x b. elim (a.only_other u x b) [ inl k ↦ inl k | inr d ↦ inr (Contains-append_left done (n.site ∷ []) u d) ];
            }

        bound_critical : settled w n.site ≡ false → (c : Content) → Agree more ((n.site, c) ∷ e) ((n.site, c) ∷ e')
        bound_critical h c = record {
          reads_one = λ u i k. elim (here_or_last Emitted done n.site u i) [ inl d ↦ one_stays c u d k | inr q ↦ absurd (false≢true (sym h ∙ ap (settled w) q ∙ k)) ];
          reads_other = λ u k. let x = settled_content w before u k in used_stays w e' n.site u c x.0 (λ q. false≢true (sym h ∙ ap (settled w) q ∙ k)) (unbound_other h) (a.reads_other u k ∙ x.1) ∙ sym x.1;
          same = λ u d k. elim (listed_last done n.site u d) [
            | inl l ↦ one_elsewhere c u l ∙ a.same u l k ∙ sym (other_elsewhere c u l)
            | inr q ↦ subst (λ x. used w ((n.site, c) ∷ e) x ≡ used w ((n.site, c) ∷ e') x) q (used_here w e n.site c ∙ sym (used_here w e' n.site c))
          ];
          only_one = only_more c;
          only_other = λ u x b. elim (cases_eq n.site u) [
            | inl q ↦ inr (Contains-append_right done (n.site ∷ []) u (subst (Contains (n.site ∷ [])) q (in_head n.site [])))
            | inr d ↦ elim (a.only_other u x (sym (bound_elsewhere e' n.site u c d) ∙ b)) [ inl k ↦ inl k | inr d ↦ inr (Contains-append_left done (n.site ∷ []) u d) ]
          ];
        }

        -- so binding it leads on alike
        abbrev Next : (calls calls' : List Call) → List ℕ → List ℕ → Type 0
        Next calls calls' ss ss' = Alike more (bind_all w e calls (to_bind w.sites ss)) (bind_all w e' calls' (to_bind w.sites ss'))

        placed_list : is_in_place (slice_get w.sites n.site) ≡ true → to_bind w.sites (n.site ∷ []) ≡ []
        placed_list p = ap (λ t. cond (not t) (n.site ∷ []) []) p

        bound_list : is_in_place (slice_get w.sites n.site) ≡ false → to_bind w.sites (n.site ∷ []) ≡ n.site ∷ []
        bound_list p = ap (λ t. cond (not t) (n.site ∷ []) []) p

        both_bound : settled w n.site ≡ false → (b b' : Bound) → AreAlike n.site e e' b b' → Alike more (then_bind b (λ x k. bind_all w x k [])) (then_bind b' (λ x k. bind_all w x k []))
        both_bound h = grind (arith, common_steps, then_alike, bound_critical)

        next_critical : (calls : List Call) → settled w n.site ≡ false → Next calls calls (n.site ∷ []) (n.site ∷ [])
        next_critical calls h =
            elim (cases_Bool (is_in_place (slice_get w.sites n.site))) [
              | inl p ↦ subst (λ l. Alike more (bind_all w e calls l) (bind_all w e' calls l)) (sym (placed_list p)) (placed_critical h, refl)
              | inr p ↦
                  subst (λ l. Alike more (bind_all w e calls l) (bind_all w e' calls l)) (sym (bound_list p))
                  (both_bound h (bind_site w e calls n.site (slice_get w.sites n.site)) (bind_site w e' calls n.site (slice_get w.sites n.site))
                  (bind_alike w e e' n.site calls (slice_get w.sites n.site) (λ x k. agree_on done e e' a x (n.sources x k)) p))
            ]

        next_settled : (calls : List Call) → Settled n.site → (waits (slice_get w.sites n.site) ≡ false) ⊎ IsUnwrap (slice_get w.sites n.site) → Next calls calls (n.site ∷ []) []
        next_settled calls h g =
            elim (cases_Bool (is_in_place (slice_get w.sites n.site))) [
              | inl p ↦ subst (λ l. Alike more (bind_all w e calls l) (all_bound e' calls)) (sym (placed_list p)) (placed_settled h p, refl)
              | inr p ↦
                  subst (λ l. Alike more (bind_all w e calls l) (all_bound e' calls)) (sym (bound_list p))
                  (subst (λ b. Alike more (then_bind b (λ x k. bind_all w x k [])) (all_bound e' calls)) (sym (settled_binds stock e calls n.site h (slice_get w.sites n.site) refl g p (reads_sources h)))
                  (bound_settled h, refl))
            ]

      -- 4. or not at all
      step_on : (waits (slice_get w.sites n.site) ≡ false) ⊎ IsUnwrap (slice_get w.sites n.site) → (b b' : Bound) → Alike done b b'
          → Alike more (then_bind b (λ e k. bind_all w e k (to_bind w.sites (n.site ∷ [])))) (then_bind b' (λ e k. bind_all w e k (to_bind w.sites (filter (critical w) (n.site ∷ [])))))
      step_on g =
          then_alike (Agree done) (Agree more) (λ e k. bind_all w e k (to_bind w.sites (n.site ∷ []))) (λ e k. bind_all w e k (to_bind w.sites (filter (critical w) (n.site ∷ []))))
          (λ e e' k a. elim (cases_Bool (settled w n.site)) [
            | inl h ↦ subst (λ l. Alike more (bind_all w e k (to_bind w.sites (n.site ∷ []))) (bind_all w e' k (to_bind w.sites l))) (sym (ap (λ t. cond (not t) (n.site ∷ []) []) h)) (next_settled e e' a k h g)
            | inr h ↦ subst (λ l. Alike more (bind_all w e k (to_bind w.sites (n.site ∷ []))) (bind_all w e' k (to_bind w.sites l))) (sym (ap (λ t. cond (not t) (n.site ∷ []) []) h)) (next_critical e e' a k h)
          ])

    -- 5. all that is listed
    module _ (ss : List ℕ) (gates : (s : ℕ) → Contains (all_below w.sites ss) s → (waits (slice_get w.sites s) ≡ false) ⊎ (IsUnwrap (slice_get w.sites s) ⊎ IsTrue (is_in s place.around.emitted))) where
      abbrev Below : ℕ → Type 0
      Below t = Contains (all_below w.sites ss) t

      -- what is listed so far was bound here, and what is critical of it from the start
      record BoundAlike (done : List ℕ) : Type 0 where
        alike : Alike done (bind_all w place.env [] (to_bind w.sites done)) (bind_all w stock.env [] (to_bind w.sites (filter (critical w) done)))
        closed : AreClosed w.sites Emitted done

      bind_both : (e : Env) (xs ys : List ℕ) → bind_all w e [] (to_bind w.sites (xs ++ ys)) ≡ then_bind (bind_all w e [] (to_bind w.sites xs)) (λ e' k. bind_all w e' k (to_bind w.sites ys))
      bind_both e xs ys = ap (bind_all w e []) (filter-append (λ t. not (is_in_place (slice_get w.sites t))) xs ys) ∙ bind_append w (to_bind w.sites xs) (to_bind w.sites ys) e []

      free : (s : ℕ) → Below s → is_in s place.around.emitted ≡ false → (waits (slice_get w.sites s) ≡ false) ⊎ IsUnwrap (slice_get w.sites s)
      free s f n = elim (gates s f) [ inl a ↦ inl a | inr (inl u) ↦ inr u | inr (inr i) ↦ absurd (false≢true (sym n ∙ i)) ]

      put : (done : List ℕ) → BoundAlike done → (n : NextSite w.sites place.around.emitted Emitted done) → Below n.site → BoundAlike (done ++ n.site ∷ [])
      put done l n f = record {
        alike =
            subst (λ b. Alike (done ++ n.site ∷ []) b (bind_all w stock.env [] (to_bind w.sites (filter (critical w) (done ++ n.site ∷ []))))) (sym (bind_both place.env done (n.site ∷ [])))
            (subst (Alike (done ++ n.site ∷ []) (then_bind (bind_all w place.env [] (to_bind w.sites done)) (λ e k. bind_all w e k (to_bind w.sites (n.site ∷ [])))))
            (sym (ap (λ x. bind_all w stock.env [] (to_bind w.sites x)) (filter-append (critical w) done (n.site ∷ [])) ∙ bind_both stock.env (filter (critical w) done) (filter (critical w) (n.site ∷ []))))
            (step_on done n l.closed (free n.site f (or_parts (is_in n.site place.around.emitted) (is_in n.site done) n.unlisted).0) (bind_all w place.env [] (to_bind w.sites done))
            (bind_all w stock.env [] (to_bind w.sites (filter (critical w) done))) l.alike));
        closed = closed_next w.sites place.around.emitted Emitted done l.closed n;
      }

      abbrev walk : Walk
      walk = record {
        sites = w.sites;
        before = before;
        emitted = place.around.emitted;
        Base = Emitted;
        base = λ t i. i;
        MayList = Below;
        deeper = λ s a b out c. all_below_source w.sites before ss s a b c;
        Invariant = BoundAlike;
        next = put;
      }

      all_listed : WalkedTo walk [] (each_after (λ done s. listed_below (suc s) w.sites place.around.emitted done s) [] ss) (Contains ss)
      all_listed = order_listed walk ss (λ s c. all_below_itself w.sites ss s c) record {
        alike = (
          record {
            reads_one = λ u i k. elim i [ inl e ↦ (place.reached.emitted u e).1 | inr c ↦ absurd (nothing_in u c) ];
            reads_other = λ u k. reads w [] before stock.env Settled stock.held u k;
            same = λ u c k. absurd (nothing_in u c);
            only_one = λ u c b. inl (place.reached.bound u c b).0;
            only_other = λ u c b. inl (stock.held.right u c b).0;
          },
          refl,
        );
        closed = λ u a c k. absurd (nothing_in u c);
      }

  -- 6. the outcome, from the one place that all others are compared with
  abbrev order : List ℕ → List ℕ
  order ss = each_after (λ done s. critical_below w before (suc s) done s) [] ss

  abbrev ends : SetRule → Bound → Outcome
  ends r b = on_bound b at_start (λ env t. or_next (run_check (return_at r.at r.result) w env t) (run_tree no_step w env))

  ends_alike : (stock : Stock w) (place : ReachedPlace w []) (r : SetRule) (done : List ℕ) (b b' : Bound) → In stock place done r.result
      → Alike stock place done b b' → ends r b ≡ ends r b'
  ends_alike stock place r done b b' i q = grind (arith, common_steps, agree_on)

  pub taken_as : (r : SetRule) (o : Outcome) → IsTaken w r o → o ≡ ends r (bind_all w (settled_stock w before).env [] (to_bind w.sites (order (return_uses (Some r)))))
  taken_as r o t =
      let start = settled_stock w before in
      let place : ReachedPlace w [] = record { around = t.around; env = t.env; reached = t.reached } in
      let ss = return_uses (Some r) in
      let l = all_listed start place ss t.gates in
      let listed = each_after (λ done s. listed_below (suc s) w.sites t.around.emitted done s) [] ss in
      t.outcome
      ∙ ends_alike start place r listed (bind_all w t.env [] (to_bind w.sites listed)) (bind_all w start.env [] (to_bind w.sites (filter (critical w) listed)))
      (l.now r.result (Contains-append_right r.impure (r.result ∷ []) r.result (in_head r.result []))) l.holds.alike
      ∙ ap (λ x. ends r (bind_all w start.env [] (to_bind w.sites x))) (critical_order w before t.around.emitted (λ s i. emitted_settled w before place s i) ss)

pub taken_once_lem : TakenOnce
taken_once_lem set w r o p built served known s t =
    let before : SourcesBefore w.sites = λ x a c. built.sources x a (subst (λ l. Contains (sources_at l x) a) served.sites c) in
    taken_as w before r o s ∙ sym (taken_as w before r p t)
