-- Look-ups in what is bound, and parts.
use Rattle.std.proofs.Common.{◌≡◌, ◌==◌, ℕ, zero, suc, ◌+◌, ◌<◌, ◌≤◌, if◌then◌else◌, List, [], ◌∷◌, ◌++◌, length, get_or, take, drop, Option, Some, None, option_map, slice_get, refl, sym, ap, ◌∙◌, Vec}
use Rattle.std.proofs.lemmas.List.{take_more, at_drop_more, at_drop_all}
use Rattle.std.specs.declared.alloc.Global.{Global}
use Rattle.run_terms.specs.declared.values.Value.{Value}
use Rattle.run_terms.specs.declared.values.Content as C
use Rattle.run_terms.specs.declared.values.Content.{Content}
use Rattle.model.specs.rules.Values.{listed, Values, no_value, value_and}
use Rattle.model.specs.rules.Outcome.{then_option}
use Rattle.model.specs.trees.Run.{World, used_value, used_values, Env, bound_to, part_at, from_value}
use Rattle.run_terms.proofs.ValueSteps.{before, before-push, before-none}
use Rattle.model.specs.rules.Meaning as M
use Rattle.run_terms.specs.RunViews.{env_onto, env_view}
use Rattle.run_terms.specs.ValueViews.{value_view, value_views, content_view}

listed_views : (xs : List Value) (i : ℕ) → slice_get (listed (value_views xs)) i ≡ option_map value_view (slice_get xs i)
listed_views [] zero = refl
listed_views [] (suc i) = refl
listed_views (x ∷ xs) zero = refl
listed_views (x ∷ xs) (suc i) = listed_views xs i

pub part_there : (c : Content) (vs : Vec Value Global) (i : ℕ) (x v : Value) → c ≡ C.Parts vs → slice_get vs.items i ≡ Some x → value_view v ≡ value_view x → Some (M.one (value_view v)) ≡ part_at (content_view c) i
part_there c vs i x v e h same =
    sym (ap (λ d. part_at (content_view d) i) e ∙ ap from_value (listed_views vs.items i ∙ ap (option_map value_view) h) ∙ ap (λ w. Some (M.one w)) (sym same))

pub part_missing : (c : Content) (vs : Vec Value Global) (i : ℕ) → c ≡ C.Parts vs → slice_get vs.items i ≡ None → None ≡ part_at (content_view c) i
part_missing c vs i e h = sym (ap (λ d. part_at (content_view d) i) e ∙ ap from_value (listed_views vs.items i ∙ ap (option_map value_view) h))

pub onto_push : (es : List (ℕ × Content)) (e : ℕ × Content) (env : Env) → env_onto (es ++ e ∷ []) env ≡ (e.0, content_view e.1) ∷ env_onto es env
onto_push [] e env = refl
onto_push (d ∷ es) e env = onto_push es e ((d.0, content_view d.1) ∷ env)

pub bound_more : (es : List (ℕ × Content)) (e : ℕ × Content) (i s : ℕ) → i < length es → e ≡ get_or es i e
    → bound_to (env_view (take (i + 1) es)) s ≡ (if e.0 == s then Some (content_view e.1) else bound_to (env_view (take i es)) s)
bound_more es e i s h at =
    ap (λ l. bound_to (env_view l) s) (take_more es i e h) ∙ ap (λ d. bound_to (env_view (take i es ++ d ∷ [])) s) (sym at) ∙ ap (λ l. bound_to l s) (onto_push (take i es) e [])

-- values after others, where there may be none
unfoldable pub after : List Value → Option Values → Option Values
after vs o = option_map (before vs) o

pub after_nil : (o : Option Values) → after [] o ≡ o
unfolding before after
after_nil None = refl
after_nil (Some vs) = refl

pub after_push : (out : List Value) (v : Value) (o : Option Values) → after (out ++ v ∷ []) o ≡ after out (then_option o (λ vs. Some (value_and (value_view v) vs)))
unfolding before after
after_push out v None = refl
after_push out v (Some vs) = ap Some (before-push out v vs)

pub after_none : (out : List Value) → after out None ≡ None
unfolding after
after_none out = refl

pub after_all : (out : List Value) → after out (Some no_value) ≡ Some (value_views out)
unfolding after
after_all out = ap Some (before-none out)

module _ (w : World) (env : Env) where
  abbrev all_used : List ℕ → Option Values
  all_used ss = used_values w env ss

  pub used_more : (out new : List Value) (v : Value) (ss : List ℕ) (i s : ℕ) → i < length ss → s ≡ get_or ss i s → Some (value_view v) ≡ used_value w env s → new ≡ out ++ v ∷ []
      → after out (all_used (drop i ss)) ≡ all_used ss → after new (all_used (drop (i + 1) ss)) ≡ all_used ss
  used_more out new v ss i s h at there is inv =
      let a = after_push out v (all_used (drop (i + 1) ss)) in
      let d : all_used (drop i ss) ≡ then_option (used_value w env (get_or ss i s)) (λ u. then_option (all_used (drop (i + 1) ss)) (λ vs. Some (value_and u vs))) = at_drop_more all_used ss i s h in
      let e = ap (λ o. then_option o (λ u. then_option (all_used (drop (i + 1) ss)) (λ vs. Some (value_and u vs)))) (ap (used_value w env) (sym at) ∙ sym there) in
      ap (λ l. after l (all_used (drop (i + 1) ss))) is ∙ a ∙ ap (after out) (sym (d ∙ e)) ∙ inv

  pub used_missing : (out : List Value) (ss : List ℕ) (i s : ℕ) → i < length ss → s ≡ get_or ss i s → None ≡ used_value w env s
      → after out (all_used (drop i ss)) ≡ all_used ss → None ≡ all_used ss
  used_missing out ss i s h at none inv =
      let d : all_used (drop i ss) ≡ then_option (used_value w env (get_or ss i s)) (λ u. then_option (all_used (drop (i + 1) ss)) (λ vs. Some (value_and u vs))) = at_drop_more all_used ss i s h in
      let e = ap (λ o. then_option o (λ u. then_option (all_used (drop (i + 1) ss)) (λ vs. Some (value_and u vs)))) (ap (used_value w env) (sym at) ∙ sym none) in
      sym (after_none out) ∙ ap (after out) (sym (d ∙ e)) ∙ inv

  pub used_all : (out : List Value) (ss : List ℕ) (i : ℕ) → length ss ≤ i → after out (all_used (drop i ss)) ≡ all_used ss → Some (value_views out) ≡ all_used ss
  used_all out ss i h inv = sym (after_all out) ∙ ap (after out) (sym (at_drop_all all_used ss i h)) ∙ inv
