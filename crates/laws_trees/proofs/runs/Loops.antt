-- Where a run stands in the body of a loop over a call, under a pick that names one place more, and after the loop.
use Rattle.std.proofs.Common.{◌≡◌, ◌⊎◌, ℕ, ◌==◌, true, List, [], ◌∷◌, ◌++◌, Option, Some, None, slice_get, Contains, IsTrue, refl, sym, ap, ◌∙◌, subst, inl, inr, eqb-true, arith}
use Rattle.std.proofs.lemmas.Bool.{or_cases, or_left, or_right, false≢true}
use Rattle.std.proofs.lemmas.List.Elements.{Contains-append_left, Contains-append_right, Contains-append_cases}
use Rattle.std.proofs.lemmas.Grind.{common_steps}
use Rattle.model.specs.rules.Meaning.{Content, many, Contents, contents}
use Rattle.model.specs.rules.Outcome.{then_option}
use Rattle.model.specs.rules.Picks.{Pick, picked}
use Rattle.model.specs.sites.Sites.{Site, iterator_site, Constraint, sources_at, unfold_site, SiteTerm}
use Rattle.model.specs.trees.Places.{Around, is_in, all_below}
use Rattle.model.specs.trees.Run.{World, Env}
use Rattle.model.specs.trees.Collects.{content_at, meets}
use Rattle.model.proofs.Members.{in_head, in_tail, in_cases, in_alone}
use Rattle.model.proofs.Numbers.{in_either, in_first, in_second}
use Rattle.laws_trees.proofs.picks.LongerPicks.{keys, keys_push, content_grown, place_added}
use Rattle.laws_trees.proofs.runs.Contents.{sources_in, content_layer}
use Rattle.laws_trees.proofs.runs.Below.{under, all_below_itself, call_or_under, under_below}
use Rattle.laws_trees.proofs.runs.Binding.{Held, held_as, keeps_bound}
use Rattle.laws_trees.proofs.runs.RunPlaces.{ClearWorld, ServesUnder, IsGoneOver, Kept, Joined, At, wider}

-- in the body of a loop over calls, and after it
abbrev pub loop_around : List Site → Around → ℕ → List ℕ → Around
loop_around sites ar result calls = record { tested = ar.tested; joined = ar.joined; looped = calls ++ ar.looped; brought = result ∷ ar.brought; emitted = result ∷ (under sites calls ++ ar.emitted) }

abbrev pub after_loop : List Site → Around → List ℕ → Around
after_loop sites ar calls = record { tested = ar.tested; joined = ar.joined; looped = ar.looped; brought = ar.brought; emitted = under sites calls ++ ar.emitted }

-- 1. a longer pick
module _ (w : World) (pick rest : Pick) where
  pub grown : (s : ℕ) (c : Content) → content_at w pick s ≡ Some c → content_at w (pick ++ rest) s ≡ Some c
  grown s c e = content_grown w.meaning w.args pick rest (unfold_site w.sites s) c e

  held_grown : (env : Env) (P : ℕ → Type 0) → Held w pick env P → Held w (pick ++ rest) env P
  held_grown env P h = grind (arith, common_steps, grown)

  joined_grown : (ps : List (ℕ × ℕ)) → Joined w pick ps → Joined w (pick ++ rest) ps
  joined_grown [] h = tt
  joined_grown (p ∷ ps) h = (let c = h.0 in ((c.0, grown p.0 c.0 c.1, grown p.1 c.0 c.2), joined_grown ps h.1))

  pub meets_grown : (s : ℕ) (c : Constraint) → meets w.meaning c (content_at w pick s) ≡ true → meets w.meaning c (content_at w (pick ++ rest) s) ≡ true
  meets_grown s c h = by (content_at w pick s) refl h
    where
      by : (o : Option Content) → content_at w pick s ≡ o → meets w.meaning c o ≡ true → meets w.meaning c (content_at w (pick ++ rest) s) ≡ true
      by None e h = absurd (false≢true h)
      by (Some x) e h = ap (meets w.meaning c) (grown s x e) ∙ h

-- 2. after a loop over a call that some rule goes over, the call stays bound
pub at_after_loop : (clear : ClearWorld) (ar : Around) (source : ℕ) → IsGoneOver clear.rules source → (pick : Pick) (env : Env) → ((s : ℕ) → IsTrue (is_in s ar.brought) → IsTrue (is_in s ar.emitted))
    → At clear (wider clear.world.sites ar (source ∷ [])) pick env
    → (at : At clear (after_loop clear.world.sites ar (source ∷ [])) pick env) × Contains at.calls source
at_after_loop clear ar source gone_over pick env brought at = (
  record {
    calls = source ∷ at.calls;
    picked = record {
      served = at.picked.served;
      over = λ s k. elim (in_cases source s at.calls k) [ inl e ↦ subst (IsGoneOver clear.rules) e gone_over | inr l ↦ at.picked.over s l ];
      around = at.picked.around;
      named = at.picked.named;
      names = at.picked.names;
    };
    held = held_as clear.world pick env (Kept (wider clear.world.sites ar (source ∷ [])) at.calls) (Kept (after_loop clear.world.sites ar (source ∷ [])) (source ∷ at.calls)) to from at.held;
    pure = λ s i. at.pure s (above s i);
    brought = λ s i. in_second s (under clear.world.sites (source ∷ [])) ar.emitted (brought s i);
    brings = at.brings;
    loops = at.loops;
    tested = at.tested;
    joined = at.joined;
  },
  in_head source at.calls,
)
  where
    above : (s : ℕ) → IsTrue (is_in s ((under clear.world.sites (source ∷ [])) ++ ar.emitted)) → IsTrue (is_in s (all_below clear.world.sites (source ∷ []) ++ ar.emitted))
    above s i =
        elim (in_either s (under clear.world.sites (source ∷ [])) ar.emitted i) [
          | inl u ↦ in_first s (all_below clear.world.sites (source ∷ [])) ar.emitted (under_below clear.world.sites clear.sources source s u)
          | inr e ↦ in_second s (all_below clear.world.sites (source ∷ [])) ar.emitted e
        ]

    to : (t : ℕ) → Kept (wider clear.world.sites ar (source ∷ [])) at.calls t → Kept (after_loop clear.world.sites ar (source ∷ [])) (source ∷ at.calls) t
    to t (inl i) =
        elim (in_either t (all_below clear.world.sites (source ∷ [])) ar.emitted i) [
          | inl a ↦ elim (call_or_under clear.world.sites clear.sources source t a) [
            | inl e ↦ inr (subst (Contains (source ∷ at.calls)) e (in_head source at.calls))
            | inr u ↦ inl (in_first t (under clear.world.sites (source ∷ [])) ar.emitted u)
          ]
          | inr e ↦ inl (in_second t (under clear.world.sites (source ∷ [])) ar.emitted e)
        ]
    to t (inr l) = inr (in_tail source t at.calls l)

    from : (t : ℕ) → Kept (after_loop clear.world.sites ar (source ∷ [])) (source ∷ at.calls) t → Kept (wider clear.world.sites ar (source ∷ [])) at.calls t
    from t (inl i) = inl (above t i)
    from t (inr k) =
        elim (in_cases source t at.calls k) [
          | inl e ↦ inl (in_first t (all_below clear.world.sites (source ∷ [])) ar.emitted (subst (Contains (all_below clear.world.sites (source ∷ []))) e (all_below_itself clear.world.sites (source ∷ []) source (in_head source []))))
          | inr l ↦ inr l
        ]

-- 3. a loop over a call that some rule goes over, whose result is this site: after it the call stays bound, and no loop around
-- goes over it
pub record Loop (clear : ClearWorld) : Type 0 where
  pub around : Around
  pub pick : Pick
  pub env : Env
  pub source : ℕ
  pub result : ℕ
  pub site : slice_get clear.world.sites result ≡ Some (iterator_site source)
  pub gone_over : IsGoneOver clear.rules source
  pub at : At clear (after_loop clear.world.sites around (source ∷ [])) pick env
  pub called : Contains at.calls source
  pub answers : Contents
  pub list : content_at clear.world pick source ≡ Some (many answers)
  pub free : Contains (keys pick) (unfold_site clear.world.sites source) → ⊥

-- in the body, for one answer of the call
module _ (clear : ClearWorld) (loop : Loop clear) (n : ℕ) where
  abbrev call : SiteTerm
  call = unfold_site clear.world.sites loop.source

  abbrev After : Around
  After = after_loop clear.world.sites loop.around (loop.source ∷ [])

  abbrev one_more : Pick
  one_more = (call, n) ∷ []

  abbrev longer : Pick
  longer = loop.pick ++ one_more

  abbrev Body : Around
  Body = loop_around clear.world.sites loop.around loop.result (loop.source ∷ [])

  answer_content : (c : Content) → slice_get (contents loop.answers) n ≡ Some c → content_at clear.world longer loop.result ≡ Some c
  answer_content c answer =
      content_layer clear.world longer clear.sources loop.result (iterator_site loop.source) loop.site
      ∙ ap (λ o. then_option o (picked longer call)) (grown clear.world loop.pick one_more loop.source (many loop.answers) loop.list)
      ∙ ap (λ o. then_option o (slice_get (contents loop.answers))) (place_added loop.pick call n loop.free)
      ∙ answer

  source_of_result : (u : ℕ) → Contains (sources_at clear.world.sites loop.result) u → Kept After loop.at.calls u
  source_of_result u k = inr (subst (Contains loop.at.calls) (in_alone loop.source u (subst (λ l. Contains l u) (ap sources_in loop.site) k)) loop.called)

  named_now : (s : ℕ) → Contains (loop.source ∷ loop.around.looped) s → Contains (keys longer) (unfold_site clear.world.sites s)
  named_now s k =
      subst (λ l. Contains l (unfold_site clear.world.sites s)) (keys_push loop.pick (call, n))
      (elim (in_cases loop.source s loop.around.looped k) [
        | inl e ↦ Contains-append_right (keys loop.pick) (call ∷ []) (unfold_site clear.world.sites s) (subst (λ x. Contains (call ∷ []) (unfold_site clear.world.sites x)) e (in_head call []))
        | inr l ↦ Contains-append_left (keys loop.pick) (call ∷ []) (unfold_site clear.world.sites s) (loop.at.picked.named s l)
      ])

  names_now : (x : SiteTerm) → Contains (keys longer) x → (s : ℕ) × Contains (loop.source ∷ loop.around.looped) s × (x ≡ unfold_site clear.world.sites s)
  names_now x k =
      elim (Contains-append_cases (keys loop.pick) (call ∷ []) x (subst (λ l. Contains l x) (sym (keys_push loop.pick (call, n))) k)) [
        | inl a ↦ let r = loop.at.picked.names x a in (r.0, in_tail loop.source r.0 loop.around.looped r.1, r.2)
        | inr b ↦ (loop.source, in_head loop.source loop.around.looped, sym (in_alone call x b))
      ]

  to : (t : ℕ) → Kept After loop.at.calls t ⊎ (loop.result ≡ t) → Kept Body loop.at.calls t
  to t h = grind (arith, common_steps, or_right, under, or_left)

  from : (t : ℕ) → Kept Body loop.at.calls t → Kept After loop.at.calls t ⊎ (loop.result ≡ t)
  from t h = grind (arith, common_steps, or_cases, under)

  pub at_loop : (c : Content) → slice_get (contents loop.answers) n ≡ Some c → ServesUnder clear.world clear.rules longer → At clear Body longer ((loop.result, c) ∷ loop.env)
  at_loop c answer served = record {
    calls = loop.at.calls;
    picked = record {
      served = served;
      over = loop.at.picked.over;
      around = λ s k. elim (in_cases loop.source s loop.around.looped k) [ inl e ↦ subst (IsGoneOver clear.rules) e loop.gone_over | inr l ↦ loop.at.picked.around s l ];
      named = named_now;
      names = names_now;
    };
    held = held_as clear.world longer ((loop.result, c) ∷ loop.env) (λ t. Kept After loop.at.calls t ⊎ (loop.result ≡ t)) (Kept Body loop.at.calls) to from
        (keeps_bound clear.world longer clear.sources loop.env (Kept After loop.at.calls) (held_grown clear.world loop.pick one_more loop.env (Kept After loop.at.calls) loop.at.held) loop.result c (answer_content c answer) source_of_result);
    pure = λ s i. elim (or_cases (loop.result == s) (is_in s (under clear.world.sites (loop.source ∷ []) ++ loop.around.emitted)) i) [
      | inl q ↦ (iterator_site loop.source, ap (slice_get clear.world.sites) (sym (eqb-true loop.result s q)) ∙ loop.site, tt)
      | inr e ↦ loop.at.pure s e
    ];
    brought = λ s i. elim (or_cases (loop.result == s) (is_in s loop.around.brought) i) [
      | inl q ↦ or_left (loop.result == s) (is_in s (under clear.world.sites (loop.source ∷ []) ++ loop.around.emitted)) q
      | inr k ↦ or_right (loop.result == s) (is_in s (under clear.world.sites (loop.source ∷ []) ++ loop.around.emitted)) (loop.at.brought s k)
    ];
    brings = λ s d x k m. in_tail loop.result x loop.around.brought (loop.at.brings s d x k m);
    loops = λ src s k e. elim (in_cases loop.source src loop.around.looped k) [
      | inl q ↦ subst (Contains (loop.result ∷ loop.around.brought)) (clear.once loop.result s (iterator_site src) (loop.site ∙ ap (λ x. Some (iterator_site x)) q) e) (in_head loop.result loop.around.brought)
      | inr l ↦ in_tail loop.result s loop.around.brought (loop.at.loops src s l e)
    ];
    tested = λ s d k. meets_grown clear.world loop.pick one_more s d (loop.at.tested s d k);
    joined = joined_grown clear.world loop.pick one_more loop.around.joined loop.at.joined;
  }
