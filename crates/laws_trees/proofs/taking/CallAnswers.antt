-- The answer of the next impure call of a rule that is taken, unwrapped or not: it is bound as following the call's content goes on.
use Rattle.std.proofs.Common.{◌≡◌, ◌⊎◌, ℕ, suc, ◌<◌, false, ◌||◌, List, [], ◌∷◌, ◌++◌, length, take, Option, Some, None, is_some, slice_get, All, Contains, IsTrue, refl, sym, ap, ◌∙◌, subst, inl, inr, arith}
use Rattle.std.proofs.lemmas.Bool.{cond-false}
use Rattle.std.proofs.Math.Seq.{take-append_seam}
use Rattle.std.proofs.lemmas.Grind.{common_steps}
use Rattle.model.specs.rules.Values.{Values}
use Rattle.model.specs.rules.Meaning.{Content}
use Rattle.model.specs.rules.Outcome.{Call}
use Rattle.model.specs.rules.Picks.{site_content, site_values, HasContent}
use Rattle.model.specs.sites.Sites.{constructor_site, match_some_site, SiteTerm, constructor_call, some_part, SiteTerms, each_term, unfold_site, sources_at}
use Rattle.model.specs.trees.Places.{is_in, below, each_after, listed_below}
use Rattle.model.specs.trees.Run.{unwrap_failed}
use Rattle.model.proofs.Members.{in_head, in_alone, get_within, from_flat_map}
use Rattle.laws_trees.proofs.runs.Below.{source_below, all_below_source}
use Rattle.laws_trees.proofs.runs.Contents.{sources_in}
use Rattle.laws_trees.proofs.runs.Listing.{stays_here, last_here, unlisted}
use Rattle.laws_trees.proofs.taking.CallsIn.{CallOnly, Known, IsNext, each_only, IsImpureAt, below_only, call_number, unwrap_number}
use Rattle.laws_trees.proofs.taking.FollowedCalls.{Followed, goes_on, stops, follow_with, answered_call, follow_call}
use Rattle.laws_trees.proofs.taking.ImpureCalls.{one_more, ImpureCall, values_of, CallMade, CallGone, call_fresh, not_listed, call_goes}
use Rattle.laws_trees.proofs.taking.TakingProgress.{GaveValues, Emitted, Here, StaysHere, content, bound_so_far, BoundSites, fails_on, not_emitted}
use Rattle.laws_trees.proofs.taking.PureSites.{calls_nothing}
use Rattle.laws_trees.proofs.taking.SitesBelow.{ReturnSites, Below, CallsReady, put_pure}
use Rattle.laws_trees.proofs.taking.Taking.{Taking}

module _ (taking : Taking) (uses : ReturnSites taking) where
  abbrev pub U : ℕ → SiteTerm
  U = unfold_site taking.world.sites

  abbrev pub follow_one : SiteTerm → List Call → Followed
  follow_one u calls = follow_call taking.world.meaning taking.world.args taking.pick u (answered_call u) calls

  -- the calls in these answers are listed
  abbrev pub AreListed : List SiteTerm → List ℕ → Type 0
  AreListed us done = (c : ℕ) → IsImpureAt taking.world.sites taking.before c → Known us (U c) → Here taking done c

  -- the answers before are bound and have contents, those later are left: so many calls were made, and the calls in the
  -- answers are listed
  pub record AnswersBound (earlier later : List SiteTerm) : Type 0 where
    pub all : taking.calls ≡ earlier ++ later
    pub done : List ℕ
    pub calls : List Call
    pub listed : BoundSites taking done calls
    pub count : length earlier ≡ length calls
    pub gave : All (HasContent taking.world.meaning taking.world.args taking.pick) earlier
    pub known : AreListed earlier done

  -- the site of the next answer, which the rule uses, by the sites that are made
  pub record NextAnswer (earlier : List SiteTerm) : Type 0 where
    pub made : List SiteTerm
    pub site : ℕ
    pub known : site < length taking.world.sites
    pub next : IsNext made earlier (U site)
    pub used : Below taking uses site

  -- it is bound as well
  pub record AnswerBound (done more : List ℕ) (calls : List Call) (x : ℕ) : Type 0 where
    pub after : List Call
    pub listed : BoundSites taking more after
    pub followed : follow_one (U x) calls ≡ goes_on after
    pub there : IsTrue (is_some (content taking x))
    pub count : length after ≡ suc (length calls)
    pub grows : StaysHere taking done more
    pub here : Here taking more x
    pub call_here : (c : ℕ) → c < length taking.world.sites → U c ≡ answered_call (U x) → Here taking more c

  abbrev pub Answer : List ℕ → List ℕ → List Call → ℕ → Type 0
  Answer done more calls x = AnswerBound done more calls x ⊎ ((after : List Call) × (bound_so_far taking more ≡ unwrap_failed after) × (follow_one (U x) calls ≡ stops after))

  followed_with : (u : SiteTerm) (t i : ℕ) (args : SiteTerms) (calls : List Call) → answered_call u ≡ constructor_call t args i
      → follow_one u calls ≡ follow_with t (site_values taking.world.meaning taking.world.args taking.pick args) (site_content taking.world.meaning taking.world.args taking.pick u) calls
  followed_with u t i args calls e = ap (λ c. follow_call taking.world.meaning taking.world.args taking.pick u c calls) e

  module _ {earlier later : List SiteTerm} (s : AnswersBound earlier later) (n : NextAnswer earlier) where
    gave_values : GaveValues taking (length earlier)
    gave_values = subst (All (HasContent taking.world.meaning taking.world.args taking.pick)) (sym (ap (take (length earlier)) s.all ∙ take-append_seam earlier later)) s.gave

    -- the site of the call, by the call's term
    abbrev CallOf : ℕ → Type 0
    CallOf x = (args : List ℕ) × (slice_get taking.world.sites x ≡ Some (constructor_site n.next.term args (suc (length earlier)))) × (each_term U args ≡ n.next.args)

    number : (x : ℕ) → x < length taking.world.sites → U x ≡ answered_call (U n.site) → CallOf x
    number x m same = (let b = get_within taking.world.sites x m in call_number taking.world.sites taking.before x n.next.term n.next.args (length earlier) b.0 b.1 (same ∙ n.next.call))

    abbrev call_at : (x : ℕ) → CallOf x → ImpureCall taking.world.sites
    call_at x m = record { site = x; term = n.next.term; args = m.0; earlier = length earlier; at = m.1 }

    ready_args : (args : List ℕ) → each_term U args ≡ n.next.args → CallsReady taking uses s.done args
    ready_args args same u i m =
        let a = from_flat_map (λ x. below (suc x) taking.world.sites x) args u i in
        s.known u m (below_only taking.world.sites taking.before (Known earlier) (suc a.0) a.0 (each_only taking.world.sites taking.before (Known earlier) args (subst (CallOnly (Known earlier)) (sym same) n.next.earlier) a.0 a.1) u a.2 m)

    call_now : (fuel x : ℕ) → x < fuel → Below taking uses x → (m : CallOf x) → CallGone taking uses s.done (listed_below fuel taking.world.sites taking.place.around.emitted s.done x) s.calls (call_at x m)
    call_now fuel x lt b m = call_goes taking uses fuel (call_at x m) lt b s.done s.calls s.listed (sym s.count) gave_values (ready_args m.0 m.2)

    followed_made : (args : List ℕ) → each_term U args ≡ n.next.args → (vs : Values) (o : Option Content) → values_of taking uses args ≡ Some vs → content taking n.site ≡ o
        → follow_one (U n.site) s.calls ≡ follow_with n.next.term (Some vs) o s.calls
    followed_made args same vs o v c = grind (arith, common_steps, followed_with, follow_with, content)

    followed_gone : (args : List ℕ) → each_term U args ≡ n.next.args → values_of taking uses args ≡ None → follow_one (U n.site) s.calls ≡ stops s.calls
    followed_gone args same v = grind (arith, common_steps, followed_with, follow_with, content)

    abbrev now_listed : List ℕ
    now_listed = listed_below (suc n.site) taking.world.sites taking.place.around.emitted s.done n.site

    -- 1. the call itself
    plain : U n.site ≡ answered_call (U n.site) → Answer s.done now_listed s.calls n.site
    plain same =
        let m = number n.site n.known same in
        elim (call_now (suc n.site) n.site (omega arith) n.used m) [
          | inl g ↦ inl (record {
            after = s.calls ++ record { term = n.next.term; args = g.values } ∷ [];
            listed = g.listed;
            followed = followed_made m.0 m.2 g.values (Some g.answer) g.held g.there;
            there = ap is_some g.there;
            count = one_more s.calls (record { term = n.next.term; args = g.values });
            grows = g.grows;
            here = g.here;
            call_here = λ c lt r. subst (Here taking now_listed) (sym (taking.once c n.site lt n.known (r ∙ sym same))) g.here;
          })
          | inr b ↦ inr (s.calls, b.0, followed_gone m.0 m.2 b.1)
        ]

    -- 2. its answer, unwrapped
    unwrapped_answer : U n.site ≡ some_part (answered_call (U n.site)) → Answer s.done now_listed s.calls n.site
    unwrapped_answer same =
        let b = get_within taking.world.sites n.site n.known in
        let y = unwrap_number taking.world.sites taking.before n.site (answered_call (U n.site)) b.0 b.1 same in
        of_call y.0 y.1 y.2
      where
        of_call : (y : ℕ) → slice_get taking.world.sites n.site ≡ Some (match_some_site y) → U y ≡ answered_call (U n.site) → Answer s.done now_listed s.calls n.site
        of_call y at part =
            let one_source : sources_at taking.world.sites n.site ≡ y ∷ [] = ap sources_in at in
            let source : Contains (sources_at taking.world.sites n.site) y = subst (λ l. Contains l y) (sym one_source) (in_head y []) in
            let less = taking.before n.site y source in
            let site = n.known in
            let lt : y < length taking.world.sites = omega (arith, less, site) in
            let m = number y lt part in
            let not_here : Here taking s.done n.site → ⊥ = λ i. elim i [
              | inl k ↦ not_emitted taking n.site y (source_below taking.world.sites taking.before n.site y source) (n.next.term, m.0, length earlier, m.1) k
              | inr c ↦ call_fresh taking uses (call_at y m) s.done s.calls s.listed (sym s.count) (s.listed.closed n.site y c source)
            ] in
            let out = not_listed taking uses s.done n.site not_here in
            let rest = each_after (listed_below n.site taking.world.sites taking.place.around.emitted) s.done (sources_at taking.world.sites n.site) in
            let used = all_below_source taking.world.sites taking.before uses.sites n.site y n.used source in
            let gone : CallGone taking uses s.done rest s.calls (call_at y m)
            = subst (λ z. CallGone taking uses s.done (each_after (listed_below n.site taking.world.sites taking.place.around.emitted) s.done z) s.calls (call_at y m)) (sym one_source) (call_now n.site y less used m) in
            subst (λ z. Answer s.done z s.calls n.site) (sym (cond-false (is_in n.site taking.place.around.emitted || is_in n.site s.done) s.done (rest ++ n.site ∷ []) out))
            (elim gone [
              | inl r ↦ then_unwrap y at part lt m out one_source r
              | inr r ↦ inr (s.calls, fails_on taking rest (rest ++ n.site ∷ []) s.calls (n.site ∷ [], refl) r.0, followed_gone m.0 m.2 r.1)
            ])
          where
            then_unwrap : (y : ℕ) → slice_get taking.world.sites n.site ≡ Some (match_some_site y) → U y ≡ answered_call (U n.site) → y < length taking.world.sites → (m : CallOf y)
                → (is_in n.site taking.place.around.emitted || is_in n.site s.done) ≡ false → sources_at taking.world.sites n.site ≡ y ∷ []
                → CallMade taking uses s.done (each_after (listed_below n.site taking.world.sites taking.place.around.emitted) s.done (sources_at taking.world.sites n.site)) s.calls (call_at y m)
                → Answer s.done (each_after (listed_below n.site taking.world.sites taking.place.around.emitted) s.done (sources_at taking.world.sites n.site) ++ n.site ∷ []) s.calls n.site
            then_unwrap y at part lt m out one_source r =
                let rest = each_after (listed_below n.site taking.world.sites taking.place.around.emitted) s.done (sources_at taking.world.sites n.site) in
                let calls' = s.calls ++ record { term = n.next.term; args = r.values } ∷ [] in
                let sources : (a : ℕ) → Contains (sources_at taking.world.sites n.site) a → Here taking rest a = λ a c. subst (Here taking rest) (in_alone y a (subst (λ z. Contains z a) one_source c)) r.here in
                elim (put_pure taking uses rest calls' r.listed
                (record { site = n.site; unlisted = unlisted taking.world.sites taking.before taking.place.around.emitted n.site n.site s.done out; sources = sources }) n.used (ap calls_nothing at)) [
                  | inl p ↦
                      let c = p.reads n.site (last_here (Emitted taking) rest n.site n.site refl) in
                      inl (record {
                        after = calls';
                        listed = p;
                        followed = followed_made m.0 m.2 r.values (Some c.0) r.held c.1;
                        there = ap is_some c.1;
                        count = one_more s.calls (record { term = n.next.term; args = r.values });
                        grows = λ t i. stays_here (Emitted taking) rest n.site t (r.grows t i);
                        here = last_here (Emitted taking) rest n.site n.site refl;
                        call_here = λ c lc q. subst (Here taking (rest ++ n.site ∷ [])) (sym (taking.once c y lc lt (q ∙ sym part))) (stays_here (Emitted taking) rest n.site y r.here);
                      })
                  | inr p ↦ inr (calls', p.0, followed_made m.0 m.2 r.values None r.held p.1)
                ]

    pub answer_goes : Answer s.done now_listed s.calls n.site
    answer_goes = elim n.next.answer [ inl same ↦ plain same | inr same ↦ unwrapped_answer same ]
