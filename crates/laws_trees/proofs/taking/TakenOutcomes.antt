-- The outcome of a rule that is taken: it binds its impure calls in order, then its result, and comes to what following the
-- contents of their sites does.
use Rattle.std.proofs.Common.{◌≡◌, ◌⊎◌, ℕ, suc, ◌<◌, false, List, [], ◌∷◌, ◌++◌, map, length, Option, Some, is_some, slice_get, Contains, IsTrue, refl, sym, ap, ◌∙◌, subst, inl, inr, arith, append-nil, append_assoc}
use Rattle.std.proofs.lemmas.Option.{slice_get_within}
use Rattle.std.proofs.lemmas.List.Elements.{All-nil, All-cons, All-append}
use Rattle.std.proofs.lemmas.Grind.{common_steps}
use Rattle.model.specs.rules.Meaning.{Content, nothing, just}
use Rattle.model.specs.rules.Outcome.{Call, Outcome}
use Rattle.model.specs.rules.Picks.{Pick, HasContent}
use Rattle.model.specs.sites.Sites.{constructor_site, match_some_site, SiteTerm, some_part, unfold_site, SetRule, sources_at}
use Rattle.model.specs.trees.Places.{waits, below, all_below, each_after, listed_below, return_uses}
use Rattle.model.specs.trees.Run.{World, Env, used, Bound, all_bound, unwrap_failed, at_start, on_bound, or_next, run_tree, run_check}
use Rattle.model.specs.trees.Trees.{no_step, return_at}
use Rattle.model.specs.trees.Collects.{content_at}
use Rattle.model.specs.trees.SetRuns.{IsTakenUnder}
use Rattle.model.proofs.Members.{in_head, in_tail, in_alone, from_flat_map}
use Rattle.model.proofs.Elements.{in_either}
use Rattle.model.proofs.FewElements.{in_one}
use Rattle.laws_trees.proofs.runs.Below.{all_below_itself}
use Rattle.laws_trees.proofs.runs.Contents.{SourcesBefore, StandApart}
use Rattle.laws_trees.proofs.taking.BindOrderGrowth.{Extends, each_extends, listed_extends}
use Rattle.laws_trees.proofs.taking.CallAnswers.{U, AnswersBound, AnswerBound, answer_goes}
use Rattle.laws_trees.proofs.taking.CallsIn.{CallsOnly, Known, InOrder, IsImpureAt, below_only}
use Rattle.laws_trees.proofs.taking.FollowedCalls.{goes_on, stops, then_follow, answered_call, follow, result_after}
use Rattle.laws_trees.proofs.taking.ImpureCalls.{one_more}
use Rattle.laws_trees.proofs.taking.TakingProgress.{Here, content, bound_so_far, nothing_listed, fails_on}
use Rattle.laws_trees.proofs.taking.SitesBelow.{ReturnSites, Below, CallsReady, sites_go}
use Rattle.laws_trees.proofs.taking.Taking.{Taking, ComesAfterValues}

-- 1. all answers in order, then the result
module _ (taking : Taking) (uses : ReturnSites taking) (r : SetRule) (multi : taking.world.multi ≡ false) where
  abbrev ends : Bound → Outcome
  ends b = on_bound b at_start (λ env t. or_next (run_check (return_at r.at r.result) taking.world env t) (run_tree no_step taking.world env))

  abbrev list_one : List ℕ → ℕ → List ℕ
  list_one done s = listed_below (suc s) taking.world.sites taking.place.around.emitted done s

  abbrev follow_all : List ℕ → List Call → Outcome
  follow_all ns calls = result_after (content taking r.result) (follow taking.world.meaning taking.world.args taking.pick (map (U taking uses) ns) calls)

  list_extends : (done : List ℕ) (s : ℕ) → Extends done (list_one done s)
  list_extends done s = listed_extends taking.world.sites taking.place.around.emitted (suc s) done s

  ends_there : (e : Env) (calls : List Call) (c : Content) → used taking.world e r.result ≡ Some c → ends (all_bound e calls) ≡ result_after (Some c) (goes_on calls)
  ends_there e calls c h = grind (arith, common_steps)

  result_goes : (earlier later : List SiteTerm) (s : AnswersBound taking uses earlier later) → Below taking uses r.result → CallsOnly (Known earlier) (U taking uses r.result)
      → ends (bound_so_far taking (list_one s.done r.result)) ≡ result_after (content taking r.result) (goes_on s.calls)
  result_goes earlier later s b only =
      elim (sites_go taking uses s.done s.calls (r.result ∷ []) ready (suc r.result) (λ x c. (let e = in_alone r.result x c in omega (arith, e), subst (Below taking uses) (in_alone r.result x c) b)) s.listed) [
        | inl g ↦
            let c = g.listed.reads r.result (g.now r.result (in_head r.result [])) in
            ap ends g.listed.bound ∙ ends_there g.listed.env s.calls c.0 c.2 ∙ ap (λ o. result_after o (goes_on s.calls)) (sym c.1)
        | inr f ↦ ap ends f.bound ∙ ap (λ o. result_after o (goes_on s.calls)) (sym (ap (content taking) (in_alone r.result f.site f.among) ∙ f.none))
      ]
    where
      ready : CallsReady taking uses s.done (r.result ∷ [])
      ready u i m =
          let a = from_flat_map (λ x. below (suc x) taking.world.sites x) (r.result ∷ []) u i in
          let k : Contains (below (suc r.result) taking.world.sites r.result) u = subst (λ x. Contains (below (suc x) taking.world.sites x) u) (sym (in_alone r.result a.0 a.1)) a.2 in
          s.known u m (below_only taking.world.sites taking.before (Known earlier) (suc r.result) r.result only u k m)

  -- what is bound once an answer is bound as well
  answers_next : (x : ℕ) (earlier later : List SiteTerm) (s : AnswersBound taking uses earlier (U taking uses x ∷ later)) → x < length taking.world.sites
      → AnswerBound taking uses s.done (list_one s.done x) s.calls x → AnswersBound taking uses (earlier ++ U taking uses x ∷ []) later
  answers_next x earlier later s lt a = record {
    all = s.all ∙ sym (append_assoc earlier (U taking uses x ∷ []) later);
    done = list_one s.done x;
    calls = a.after;
    listed = a.listed;
    count = one_more earlier (U taking uses x) ∙ ap suc s.count ∙ sym a.count;
    gave = All-append (HasContent taking.world.meaning taking.world.args taking.pick) earlier (U taking uses x ∷ []) s.gave
        (All-cons (HasContent taking.world.meaning taking.world.args taking.pick) (U taking uses x) [] a.there (All-nil (HasContent taking.world.meaning taking.world.args taking.pick)));
    known = λ c m k. elim k [
      | inl i ↦ elim (in_either earlier (U taking uses x ∷ []) (U taking uses c) i) [
        | inl j ↦ a.grows c (s.known c m (inl j))
        | inr j ↦ subst (Here taking (list_one s.done x)) (sym (taking.once c x (inside c m) lt (sym (in_one (U taking uses x) (U taking uses c) j)))) a.here
      ]
      | inr i ↦ elim (in_either earlier (U taking uses x ∷ []) (some_part (U taking uses c)) i) [
        | inl j ↦ a.grows c (s.known c m (inr j))
        | inr j ↦ a.call_here c (inside c m) (sym (ap answered_call (in_one (U taking uses x) (some_part (U taking uses c)) j)))
      ]
    ];
  }
    where
      inside : (c : ℕ) → IsImpureAt taking.world.sites taking.before c → c < length taking.world.sites
      inside c m = slice_get_within taking.world.sites c (constructor_site m.0 m.1 (suc m.2)) m.3

  walk : (made : List SiteTerm) (ns : List ℕ) (earlier : List SiteTerm) → ((x : ℕ) → Contains ns x → x < length taking.world.sites) → ((x : ℕ) → Contains (ns ++ r.result ∷ []) x → Below taking uses x)
      → InOrder made earlier (map (U taking uses) ns) → CallsOnly (Known (earlier ++ map (U taking uses) ns)) (U taking uses r.result) → (s : AnswersBound taking uses earlier (map (U taking uses) ns))
      → ends (bound_so_far taking (each_after list_one s.done (ns ++ r.result ∷ []))) ≡ follow_all ns s.calls
  unfolding answers_next
  walk made [] earlier known fine order only s = result_goes earlier [] s (fine r.result (in_head r.result [])) (subst (λ us. CallsOnly (Known us) (U taking uses r.result)) (append-nil earlier) only)
  walk made (x ∷ ns) earlier known fine order only s =
      let go = follow taking.world.meaning taking.world.args taking.pick (map (U taking uses) ns) in
      elim (answer_goes taking uses s (record { made = made; site = x; known = known x (in_head x ns); next = order.0; used = fine x (in_head x (ns ++ r.result ∷ [])) })) [
        | inl a ↦
            walk made ns (earlier ++ U taking uses x ∷ []) (λ y c. known y (in_tail x y ns c)) (λ y c. fine y (in_tail x y (ns ++ r.result ∷ []) c)) order.1
            (subst (λ us. CallsOnly (Known us) (U taking uses r.result)) (sym (append_assoc earlier (U taking uses x ∷ []) (map (U taking uses) ns))) only)
            (answers_next x earlier (map (U taking uses) ns) s (known x (in_head x ns)) a)
            ∙ ap (λ f. result_after (content taking r.result) (then_follow f go)) (sym a.followed)
        | inr b ↦
            ap ends (fails_on taking (list_one s.done x) (each_after list_one (list_one s.done x) (ns ++ r.result ∷ [])) b.0 (each_extends list_one list_extends (ns ++ r.result ∷ []) (list_one s.done x)) b.1)
            ∙ stopped (content taking r.result) b.0
            ∙ ap (λ f. result_after (content taking r.result) (then_follow f go)) (sym b.2)
      ]
    where
      stopped : (o : Option Content) (calls' : List Call) → ends (unwrap_failed calls') ≡ result_after o (stops calls')
      stopped o calls' = refl

-- 2. the outcome of a rule that is taken, where all that stands below what it returns for and waits for nothing has a content
-- if its sources have, and all that is unwrapped may answer nothing. Both are asked only of what comes after calls that gave
-- values
pub taken_follows : (w : World) (k : Pick) (before : SourcesBefore w.sites) (r : SetRule) (o : Outcome) → IsTakenUnder w k r o → w.multi ≡ false
    → StandApart w.sites
    → ((s : ℕ) → Contains (all_below w.sites (return_uses (Some r))) s → ComesAfterValues w k (map (unfold_site w.sites) r.impure) s → waits (slice_get w.sites s) ≡ false → ((a : ℕ) → Contains (sources_at w.sites s) a → IsTrue (is_some (content_at w k a))) → IsTrue (is_some (content_at w k s)))
    → ((s source : ℕ) → Contains (all_below w.sites (return_uses (Some r))) s → ComesAfterValues w k (map (unfold_site w.sites) r.impure) s → slice_get w.sites s ≡ Some (match_some_site source) → (c : Content) → content_at w k source ≡ Some c → (c ≡ nothing) ⊎ ((d : Content) × (c ≡ just d)))
    → (made : List SiteTerm) → ((x : ℕ) → Contains r.impure x → x < length w.sites) → InOrder made [] (map (unfold_site w.sites) r.impure) → CallsOnly (Known (map (unfold_site w.sites) r.impure)) (unfold_site w.sites r.result)
    → o ≡ result_after (content_at w k r.result) (follow w.meaning w.args k (map (unfold_site w.sites) r.impure) [])
taken_follows w k before r o t multi once found maybe made known order only =
    let taking : Taking = record {
      world = w;
      pick = k;
      before = before;
      once = once;
      place = record { around = t.around; env = t.env; reached = t.reached };
      calls = map (unfold_site w.sites) r.impure;
    } in
    let uses : ReturnSites taking = record { sites = return_uses (Some r); gates = t.gates; found = found; maybe = maybe } in
    t.outcome
    ∙ walk taking uses r multi made r.impure [] known (λ x c. all_below_itself w.sites (return_uses (Some r)) x c) order only record {
      all = refl;
      done = [];
      calls = [];
      listed = nothing_listed taking;
      count = refl;
      gave = All-nil (HasContent w.meaning w.args k);
      known = λ c m i. elim i [ inl n ↦ absurd n | inr n ↦ absurd n ];
    }
