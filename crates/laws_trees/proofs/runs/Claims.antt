-- Claims on runs that hold of the run of every sound tree, since they are kept from step to step.
use Rattle.std.proofs.Common.{◌≡◌, ◌≢◌, ℕ, ◌<◌, ◌||◌, true, false, List, [], ◌∷◌, ◌++◌, length, Option, Some, None, is_some, slice_get, Contains, IsTrue, refl, sym, ap, ◌∙◌, subst, inl, inr, arith}
use Rattle.std.proofs.lemmas.Bool.{both_ways, false≢true}
use Rattle.std.proofs.lemmas.Option.{none-some, same_Some}
use Rattle.std.proofs.lemmas.List.Elements.{Contains-append_left, Contains-append_right, All-contains}
use Rattle.std.proofs.Math.Bool.{or-true}
use Rattle.std.proofs.lemmas.Grind.{common_steps}
use Rattle.model.specs.rules.Values.{Value}
use Rattle.model.specs.rules.Meaning.{Content, one, contents}
use Rattle.model.specs.rules.Outcome.{Outcome, ran_through, then_option}
use Rattle.model.specs.rules.Picks.{Pick}
use Rattle.model.specs.sites.Sites.{Constraint, SetRule, sources_at, unfold_site}
use Rattle.model.specs.trees.Trees.{Tree, step, return_at, match_at, equal_at, loop_at, arm, Marked, m_no_step, m_step, m_match, m_equal, m_loop, m_return, MarkedArms, m_no_arm, m_arm, marks, marks_arms, plain, plain_arms, return_of}
use Rattle.model.specs.trees.Places.{Around, nothing_around, is_in, bind_order, return_uses, in_arm, in_equal, after_step}
use Rattle.model.specs.trees.Run.{Env, as_value, Trace, content_fields, ending_at, or_next, for_each, on_equal, run_tree, run_arms}
use Rattle.model.specs.trees.Sound.{NoneHigher, comes_before, AllAsk, AllJoin, AllGoOver, IsTested, SoundSteps, SoundArms, IsSound}
use Rattle.model.specs.trees.Collects.{content_at, meets, demands_hold}
use Rattle.model.proofs.Members.{nothing_in, in_head, some_member, member_from_get, get_within, constraint_in, member_is_in}
use Rattle.laws_trees.proofs.picks.LongerPicks.{keys}
use Rattle.laws_trees.proofs.picks.Calls.{unfold_once}
use Rattle.laws_trees.proofs.runs.Order.{before_itself}
use Rattle.laws_trees.proofs.runs.Arms.{arms_after}
use Rattle.laws_trees.proofs.runs.Contents.{sources_in}
use Rattle.laws_trees.proofs.runs.Below.{IsPureBelow}
use Rattle.laws_trees.proofs.runs.RuleDemands.{joined_back, demand_met, demand_equal}
use Rattle.laws_trees.proofs.runs.RunPlaces.{ClearWorld, ServesUnder, IsGoneOver, Kept, At, Place, NextCall, wider, set_in, constraint_tested, class_tested, call_known}
use Rattle.laws_trees.proofs.runs.PickedPlaces.{at_equal}
use Rattle.laws_trees.proofs.runs.Loops.{Loop, after_loop, loop_around, grown, meets_grown, at_after_loop, at_loop}
use Rattle.laws_trees.proofs.runs.Steps.{trace, values_cases, fields_cases, match_step, equal_step, loop_step, arm_step, arm_unmet}

-- 1. rules by their places in the set
abbrev pub Known : List SetRule → List ℕ → Type 0
Known rules ids = (i : ℕ) → Contains ids i → i < length rules

pub known_left : (rules : List SetRule) (here later : List ℕ) → Known rules (here ++ later) → Known rules here
known_left rules here later known i k = known i (Contains-append_left here later i k)

pub known_right : (rules : List SetRule) (here later : List ℕ) → Known rules (here ++ later) → Known rules later
known_right rules here later known i k = known i (Contains-append_right here later i k)

pub some_rule : (rules : List SetRule) (ids : List ℕ) → ids ≢ [] → Known rules ids → (i : ℕ) × (r : SetRule) × Contains ids i × (slice_get rules i ≡ Some r)
some_rule rules ids some known =
    let m = some_member ids some in
    let g = get_within rules m.0 (known m.0 m.1) in
    (m.0, g.0, m.1, g.1)

asker : (rules : List SetRule) (ids : List ℕ) (s : ℕ) (c : Constraint) → ids ≢ [] → Known rules ids → AllAsk rules ids s c → (r : SetRule) × Contains rules r × Contains r.constraints (s, c)
asker rules ids s c some known ask = grind (arith, common_steps, some_rule, member_from_get, constraint_in)

-- under the pick, and under each longer one that the world serves, the demands of none of these rules hold
abbrev pub NeverHold : ClearWorld → Pick → List ℕ → Type 0
NeverHold clear pick ids =
    (rest : Pick) → ServesUnder clear.world clear.rules (pick ++ rest) → (j : ℕ) (q : SetRule) → Contains ids j → slice_get clear.rules j ≡ Some q → demands_hold clear.world (pick ++ rest) q ≡ true → ⊥

-- 2. a claim on runs: by the calls that loops around go over, the pick, and the places of the rules that return in the run.
-- It is kept where it speaks of runs without impure calls alone, and holds of nothing where no rule holds, of one list of
-- rules and a later one, of a loop over a call, and of a return where all that the rule demands was tested
pub record IsKept (clear : ClearWorld) (Says : List ℕ → Pick → List ℕ → (Trace → Outcome) → Type 0) : Type 0 where
  pub alike : (looped : List ℕ) (pick : Pick) (ids : List ℕ) (run go : Trace → Outcome) → ((done : List Content) → run (trace done) ≡ go (trace done)) → Says looped pick ids go → Says looped pick ids run
  pub nothing : (looped : List ℕ) (pick : Pick) (ids : List ℕ) → NeverHold clear pick ids → Says looped pick ids (ending_at ran_through)
  pub first : (looped : List ℕ) (pick : Pick) (here later : List ℕ) (go : Trace → Outcome) → NeverHold clear pick later → Says looped pick here go → Says looped pick (here ++ later) go
  pub second : (looped : List ℕ) (pick : Pick) (here later : List ℕ) (go : Trace → Outcome) → NeverHold clear pick here → Says looped pick later go → Says looped pick (here ++ later) go
  pub next : (looped : List ℕ) (pick : Pick) (here later : List ℕ) (go rest : Trace → Outcome) → NoneHigher clear.rules here later → Says looped pick here go → Says looped pick later rest
      → Says looped pick (here ++ later) (λ t. or_next (go t) rest)
  pub goes_over : (place : Place clear) (call : NextCall clear place) (ids : List ℕ) → Known clear.rules ids → AllGoOver clear.rules ids call.source → (go : Content → Trace → Outcome)
      → ((n : ℕ) (c : Content) → slice_get (contents call.answers) n ≡ Some c → Says (call.source ∷ place.around.looped) (place.pick ++ (unfold_site clear.world.sites call.source, n) ∷ []) ids (go c))
      → Says place.around.looped place.pick ids (for_each (contents call.answers) go)
  pub returns : (place : Place clear) (i : ℕ) (r : SetRule) → slice_get clear.rules i ≡ Some r → IsTested place.around r → (rest : Tree) (later : List ℕ) → NoneHigher clear.rules (i ∷ []) later
      → (clear.world.multi ≡ true → (env : Env) → At clear (wider clear.world.sites place.around (return_uses (Some r))) place.pick env → Says place.around.looped place.pick later (run_tree rest clear.world env))
      → Says place.around.looped place.pick (i ∷ later) (run_tree (step (bind_order clear.world.sites place.around (return_uses (Some r))) (return_at r.at r.result) rest) clear.world place.env)

-- where some rule goes over a call, the world serves under every pick
abbrev pub ServesLoops : ClearWorld → Type 0
ServesLoops clear = (s : ℕ) → IsGoneOver clear.rules s → (k : Pick) → ServesUnder clear.world clear.rules k

module _ (clear : ClearWorld) where
  asked_pure : (arms : MarkedArms) (ar : Around) (s : ℕ) (before : Option Constraint) → marks_arms arms ≢ [] → Known clear.rules (marks_arms arms)
      → SoundArms (set_in clear) clear.world.multi ar true s before arms → IsPureBelow clear.world.sites s
  asked_pure m_no_arm ar s before some known sound = absurd (some refl)
  asked_pure (m_arm c fields body rest) ar s before some known sound =
      let a = asker clear.rules (marks body) s c sound.1 (known_left clear.rules (marks body) (marks_arms rest) known) sound.2 in
      (clear.tested a.0 a.1 s (constraint_tested a.0 s c a.2)).pure

  further : (ar : Around) (rest : Marked) → SoundSteps (set_in clear) clear.world.multi ar (clear.world.multi || true) rest → SoundSteps (set_in clear) clear.world.multi ar true rest
  further ar rest sound = subst (λ b. SoundSteps (set_in clear) clear.world.multi ar b rest) (or-true clear.world.multi) sound

  -- 3. where an arm is met, no rule of a later arm holds; where it isn't, none of its own
  none_after : (arms : MarkedArms) (ar : Around) (pick : Pick) (s : ℕ) (c : Constraint) (r : SetRule) → Contains clear.rules r → Contains r.constraints (s, c)
      → meets clear.world.meaning c (content_at clear.world pick s) ≡ true → SoundArms (set_in clear) clear.world.multi ar true s (Some c) arms → NeverHold clear pick (marks_arms arms)
  none_after arms ar pick s c r known k met sound rest served j q l at holds =
      let later = arms_after (set_in clear) clear.world.multi arms ar true s c sound j q l at in
      let m = constraint_in q.constraints s later.0 later.1 in
      let same = served.apart r q s c later.0 known (member_from_get clear.rules j q at) k m (meets_grown clear.world pick rest s c met) (demand_met clear.world (pick ++ rest) q s later.0 holds m) in
      before_itself c (subst (λ d. IsTrue (comes_before c d)) (sym same) later.2)

  none_asking : (ids : List ℕ) (pick : Pick) (s : ℕ) (c : Constraint) (x : Content) → content_at clear.world pick s ≡ Some x → content_fields clear.world.meaning c x ≡ None
      → AllAsk clear.rules ids s c → NeverHold clear pick ids
  none_asking ids pick s c x e unmet ask rest served j q l at holds =
      false≢true (sym (ap (meets clear.world.meaning c) (grown clear.world pick rest s x e) ∙ ap is_some unmet) ∙ demand_met clear.world (pick ++ rest) q s c holds (constraint_in q.constraints s c (ask j q l at)))

  none_joining : (ids : List ℕ) (pick : Pick) (a b : ℕ) (u v : Value) → content_at clear.world pick a ≡ Some (one u) → content_at clear.world pick b ≡ Some (one v) → (u ≡ v → ⊥)
      → AllJoin clear.rules ids a b → NeverHold clear pick ids
  none_joining ids pick a b u v e f differ join rest served j q l at holds =
      differ (same_Some u v
      (sym (ap (λ o. then_option o as_value) (grown clear.world pick rest a (one u) e))
      ∙ demand_equal clear.world (pick ++ rest) q a b holds (join j q l at)
      ∙ ap (λ o. then_option o as_value) (grown clear.world pick rest b (one v) f)))

  -- a call that no loop around goes over is one that the pick doesn't name
  pub call_free : (place : Place clear) (source : ℕ) → IsGoneOver clear.rules source → is_in source place.around.looped ≡ false → Contains (keys place.pick) (unfold_site clear.world.sites source) → ⊥
  call_free place source gone out k =
      let r = place.at.picked.names (unfold_site clear.world.sites source) k in
      let e = unfold_once clear.world.sites clear.sources source r.0 clear.once (call_known clear source gone) (call_known clear r.0 (place.at.picked.around r.0 r.1)) r.2 in
      both_ways (is_in source place.around.looped) out (member_is_in source place.around.looped (subst (Contains place.around.looped) (sym e) r.1))

  -- 4. the run
  module _ (served_over : ServesLoops clear) (Says : List ℕ → Pick → List ℕ → (Trace → Outcome) → Type 0) (kept : IsKept clear Says) where
    abbrev Sound : Around → Marked → Type 0
    Sound ar m = SoundSteps (set_in clear) clear.world.multi ar true m

    mutual
      steps_run : (m : Marked) (place : Place clear) → Known clear.rules (marks m) → Sound place.around m → Says place.around.looped place.pick (marks m) (run_tree (plain clear.rules m) clear.world place.env)
      steps_run m_no_step place known sound = kept.nothing place.around.looped place.pick [] (λ rest served j q k get holds. nothing_in j k)
      steps_run (m_step binds (m_match source arms) rest) place known sound =
          let inside = sound.1 in
          let here = known_left clear.rules (marks_arms arms) (marks rest) known in
          let s = match_step clear place binds source (plain_arms clear.rules arms) (plain clear.rules rest) (sound.0 refl) (record { available = inside.0 refl; pure = asked_pure arms place.around source None inside.1 here inside.2 }) in
          kept.alike place.around.looped place.pick (marks_arms arms ++ marks rest)
          (run_tree (step binds (match_at source (plain_arms clear.rules arms)) (plain clear.rules rest)) clear.world place.env)
          (λ t. or_next (run_arms (plain_arms clear.rules arms) clear.world s.0 s.1 t) (run_tree (plain clear.rules rest) clear.world s.1)) s.4
          (kept.next place.around.looped place.pick (marks_arms arms) (marks rest) (run_arms (plain_arms clear.rules arms) clear.world s.0 s.1) (run_tree (plain clear.rules rest) clear.world s.1) sound.2
          (arms_run arms place.around place.pick s.1 source None s.0 here inside.2 s.2 s.3)
          (steps_run rest (record { around = wider clear.world.sites place.around (source ∷ []); pick = place.pick; env = s.1; at = s.3 }) (known_right clear.rules (marks_arms arms) (marks rest) known)
          (further (after_step (set_in clear) place.around (m_match source arms)) rest sound.3)))
      steps_run (m_step binds (m_equal a b body) rest) place known sound =
          let inside = sound.1 in
          let here = known_left clear.rules (marks body) (marks rest) known in
          let m = some_rule clear.rules (marks body) inside.1 here in
          let member = member_from_get clear.rules m.0 m.1 m.3 in
          let join = inside.2 m.0 m.1 m.2 m.3 in
          let s = equal_step clear place binds a b (plain clear.rules body) (plain clear.rules rest) m.1 member join (sound.0 refl)
          (record { available = (inside.0 refl).0; pure = (clear.tested m.1 member a (class_tested m.1 a b join)).pure })
          (record { available = (inside.0 refl).1; pure = (clear.tested m.1 member b (class_tested m.1 b a (joined_back m.1.classes a b join))).pure }) in
          kept.alike place.around.looped place.pick (marks body ++ marks rest) (run_tree (step binds (equal_at a b (plain clear.rules body)) (plain clear.rules rest)) clear.world place.env)
          (λ t. or_next (on_equal (Some s.0) (Some s.1) t (run_tree (plain clear.rules body) clear.world s.2 t)) (run_tree (plain clear.rules rest) clear.world s.2)) s.6
          (kept.next place.around.looped place.pick (marks body) (marks rest) (λ t. on_equal (Some s.0) (Some s.1) t (run_tree (plain clear.rules body) clear.world s.2 t)) (run_tree (plain clear.rules rest) clear.world s.2) sound.2
          (elim (values_cases s.0 s.1) [
            | inl (same, runs) ↦
                kept.alike place.around.looped place.pick (marks body) (λ t. on_equal (Some s.0) (Some s.1) t (run_tree (plain clear.rules body) clear.world s.2 t))
                (run_tree (plain clear.rules body) clear.world s.2) (λ done. runs (trace done) (run_tree (plain clear.rules body) clear.world s.2 (trace done)))
                (steps_run body
                (record { around = in_equal (set_in clear) place.around a b; pick = place.pick; env = s.2; at = at_equal clear place.around a b place.pick s.2 (one s.0) s.5 s.3 (same (content_at clear.world place.pick b) s.4) })
                here inside.3)
            | inr (differ, runs) ↦
                kept.alike place.around.looped place.pick (marks body) (λ t. on_equal (Some s.0) (Some s.1) t (run_tree (plain clear.rules body) clear.world s.2 t)) (ending_at ran_through)
                (λ done. runs (trace done) (run_tree (plain clear.rules body) clear.world s.2 (trace done)))
                (kept.nothing place.around.looped place.pick (marks body) (none_joining (marks body) place.pick a b s.0 s.1 s.3 s.4 differ inside.2))
          ])
          (steps_run rest (record { around = wider clear.world.sites place.around (a ∷ (b ∷ [])); pick = place.pick; env = s.2; at = s.5 }) (known_right clear.rules (marks body) (marks rest) known)
          (further (after_step (set_in clear) place.around (m_equal a b body)) rest sound.3)))
      steps_run (m_step binds (m_loop result body) rest) place known sound =
          let inside = sound.1 in
          let over = inside.0 in
          let source = over.0 in
          let here = known_left clear.rules (marks body) (marks rest) known in
          let m = some_rule clear.rules (marks body) inside.1 here in
          let member = member_from_get clear.rules m.0 m.1 m.3 in
          let iterates = over.2 m.0 m.1 m.2 m.3 in
          let gone : IsGoneOver clear.rules source = (m.1, member, iterates) in
          let only : sources_at clear.world.sites result ≡ source ∷ [] = ap sources_in over.1 in
          let s = loop_step clear place binds result source (plain clear.rules body) (plain clear.rules rest) m.1 member iterates over.1 (sound.0 refl ∙ ap (bind_order clear.world.sites place.around) only) (over.4 refl) in
          let after = at_after_loop clear place.around source gone place.pick s.1 place.at.brought s.3 in
          let go : Content → Trace → Outcome = λ c t. run_tree (plain clear.rules body) clear.world ((result, c) ∷ s.1) t in
          let loop : Loop clear = record {
            around = place.around;
            pick = place.pick;
            env = s.1;
            source = source;
            result = result;
            site = over.1;
            gone_over = gone;
            at = after.0;
            called = after.1;
            answers = s.0;
            list = s.2;
            free = call_free place source gone over.3;
          } in
          kept.alike place.around.looped place.pick (marks body ++ marks rest) (run_tree (step binds (loop_at result (plain clear.rules body)) (plain clear.rules rest)) clear.world place.env)
          (λ t. or_next (for_each (contents s.0) go t) (run_tree (plain clear.rules rest) clear.world s.1)) s.4
          (kept.next place.around.looped place.pick (marks body) (marks rest) (for_each (contents s.0) go) (run_tree (plain clear.rules rest) clear.world s.1) sound.2
          (kept.goes_over place (record { source = source; answers = s.0; list = s.2; gone_over = gone; out = over.3 }) (marks body) here over.2 go
          (λ n c answer.
          let longer = place.pick ++ (unfold_site clear.world.sites source, n) ∷ [] in
          steps_run body
          (record { around = loop_around clear.world.sites place.around result (source ∷ []); pick = longer; env = (result, c) ∷ s.1; at = at_loop clear loop n c answer (served_over source gone longer) })
          here (subst (λ l. Sound (loop_around clear.world.sites place.around result l) body) only inside.2)))
          (steps_run rest (record { around = after_loop clear.world.sites place.around (source ∷ []); pick = place.pick; env = s.1; at = after.0 }) (known_right clear.rules (marks body) (marks rest) known)
          (subst (λ l. Sound (after_loop clear.world.sites place.around l) rest) only (further (after_step (set_in clear) place.around (m_loop result body)) rest sound.3))))
      steps_run (m_step binds (m_return rule) rest) place known sound =
          let r = get_within clear.rules rule (known rule (in_head rule (marks rest))) in
          let same : step binds (return_of (slice_get clear.rules rule)) (plain clear.rules rest) ≡ step (bind_order clear.world.sites place.around (return_uses (Some r.0))) (return_at r.0.at r.0.result) (plain clear.rules rest) =
          ap (λ l. step l (return_of (slice_get clear.rules rule)) (plain clear.rules rest)) (sound.0 refl) ∙ ap (λ o. step (bind_order clear.world.sites place.around (return_uses o)) (return_of o) (plain clear.rules rest)) r.1 in
          subst (λ t. Says place.around.looped place.pick (rule ∷ marks rest) (run_tree t clear.world place.env)) (sym same)
          (kept.returns place rule r.0 r.1 (sound.1 refl r.0 r.1) (plain clear.rules rest) (marks rest) sound.2
          (λ multi env' now.
          steps_run rest (record { around = wider clear.world.sites place.around (return_uses (Some r.0)); pick = place.pick; env = env'; at = now }) (known_right clear.rules (rule ∷ []) (marks rest) known)
          (subst (λ o. Sound (wider clear.world.sites place.around (return_uses o)) rest) r.1
          (subst (λ b. SoundSteps (set_in clear) clear.world.multi (after_step (set_in clear) place.around (m_return rule)) (b || false) rest) multi sound.3))))

      arms_run : (arms : MarkedArms) (ar : Around) (pick : Pick) (env : Env) (s : ℕ) (before : Option Constraint) (x : Content) → Known clear.rules (marks_arms arms)
          → SoundArms (set_in clear) clear.world.multi ar true s before arms
          → content_at clear.world pick s ≡ Some x → At clear (wider clear.world.sites ar (s ∷ [])) pick env → Says ar.looped pick (marks_arms arms) (run_arms (plain_arms clear.rules arms) clear.world x env)
      arms_run m_no_arm ar pick env s before x known sound e at = kept.nothing ar.looped pick [] (λ rest served j q k get holds. nothing_in j k)
      arms_run (m_arm c fields body rest) ar pick env s before x known sound e at =
          let here = known_left clear.rules (marks body) (marks_arms rest) known in
          let later = known_right clear.rules (marks body) (marks_arms rest) known in
          let ask = asker clear.rules (marks body) s c sound.1 here sound.2 in
          let run = run_arms (arm c fields (plain clear.rules body) (plain_arms clear.rules rest)) clear.world x env in
          elim (fields_cases (content_fields clear.world.meaning c x)) [
            | inl met ↦
                let passes : meets clear.world.meaning c (content_at clear.world pick s) ≡ true = ap (meets clear.world.meaning c) e ∙ ap is_some met.1 in
                let b = arm_step clear ar pick env s c fields (plain clear.rules body) (plain_arms clear.rules rest) x met.0 ask.0 at ask.1 ask.2 sound.3 e met.1 in
                kept.alike ar.looped pick (marks body ++ marks_arms rest) run (run_tree (plain clear.rules body) clear.world b.0) b.2
                (kept.first ar.looped pick (marks body) (marks_arms rest) (run_tree (plain clear.rules body) clear.world b.0) (none_after rest ar pick s c ask.0 ask.1 ask.2 passes sound.5)
                (steps_run body (record { around = in_arm (set_in clear) ar s c fields; pick = pick; env = b.0; at = b.1 }) here sound.4))
            | inr unmet ↦
                kept.alike ar.looped pick (marks body ++ marks_arms rest) run (run_arms (plain_arms clear.rules rest) clear.world x env)
                (arm_unmet clear env c fields (plain clear.rules body) (plain_arms clear.rules rest) x unmet)
                (kept.second ar.looped pick (marks body) (marks_arms rest) (run_arms (plain_arms clear.rules rest) clear.world x env) (none_asking (marks body) pick s c x e unmet sound.2)
                (arms_run rest ar pick env s (Some c) x later sound.5 e at))
          ]

    at_root : ServesUnder clear.world clear.rules [] → At clear nothing_around [] []
    at_root served = record {
      calls = [];
      picked = record {
        served = served;
        over = λ s k. absurd (nothing_in s k);
        around = λ s k. absurd (nothing_in s k);
        named = λ s k. absurd (nothing_in s k);
        names = λ c k. absurd (nothing_in c k);
      };
      held = record {
        there = λ t k. absurd (none_kept t k);
        bound = λ t k n. absurd (none_kept t k);
        right = λ t c e. absurd (none-some c e);
        closed = λ t u k c. absurd (none_kept t k);
      };
      pure = λ s k. absurd (false≢true k);
      brought = λ s k. absurd (false≢true k);
      brings = λ s c x k l. absurd (nothing_in (s, c) k);
      loops = λ source s k e. absurd (nothing_in source k);
      tested = λ s c k. absurd (nothing_in (s, c) k);
      joined = tt;
    }
      where
        none_kept : (t : ℕ) → Kept nothing_around [] t → ⊥
        none_kept t (inl a) = false≢true a
        none_kept t (inr l) = nothing_in t l

    -- the claim holds of the run of a sound tree
    pub says_of_run : (tree : Tree) (sound : IsSound (set_in clear) clear.world.multi tree) → ServesUnder clear.world clear.rules [] → Says [] [] (marks sound.marked) (run_tree tree clear.world [])
    says_of_run tree sound served =
        let known : Known clear.rules (marks sound.marked) = λ i k. All-contains (λ j. j < length clear.rules) (marks sound.marked) i sound.returns.known k in
        subst (λ t. Says [] [] (marks sound.marked) (run_tree t clear.world [])) sound.returns.same (steps_run sound.marked (record { around = nothing_around; pick = []; env = []; at = at_root served }) known sound.steps)
