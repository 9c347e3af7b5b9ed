-- Sites that are bound, one after another.
use Rattle.std.proofs.Common.{◌≡◌, ℕ, true, false, ◌+◌, ◌<◌, ◌≤◌, List, [], ◌∷◌, ◌++◌, length, get_or, take, drop, slice_get, sym, ap, ◌∙◌, append_assoc}
use Rattle.std.proofs.lemmas.Bool.{false≢true}
use Rattle.std.proofs.lemmas.List.{at_drop_more, at_drop_all, append-nil}
use Rattle.std.proofs.Math.Seq.{take-append_seam}
use Rattle.model.specs.rules.Outcome as O
use Rattle.model.specs.trees.Run.{Env, Bound, all_bound, then_bind, World, bind_site, bind_all}
use Rattle.run_terms.specs.declared.values.Content.{Content}
use Rattle.run_terms.specs.declared.state.Call.{Call}
use Rattle.run_terms.specs.declared.state.Bound as C
use Rattle.run_terms.specs.declared.state.Bound.TheVariants.{All, Failed, Missing}
use Rattle.run_terms.specs.RunViews.{env_view, IsBeginningOf, bound_view, is_all_bound}
use Rattle.run_terms.specs.ValueViews.{content_view}
use Rattle.run_terms.proofs.EnvSteps.{onto_push}

-- 1. the list of what is bound
pub env_pushed : (old new : List (ℕ × Content)) (s : ℕ) (c : Content) → new ≡ old ++ (s, c) ∷ [] → env_view new ≡ (s, content_view c) ∷ env_view old
env_pushed old new s c is = ap env_view is ∙ onto_push old (s, c) []

pub begins_here : (old : List (ℕ × Content)) → IsBeginningOf old old
begins_here old = ([], sym (append-nil old))

pub begins_then : (a b c : List (ℕ × Content)) → IsBeginningOf a b → IsBeginningOf b c → IsBeginningOf a c
begins_then a b c g h = (g.0 ++ h.0, h.1 ∙ ap (λ l. l ++ h.0) g.1 ∙ append_assoc a g.0 h.0)

pub cut_back : (old new cut : List (ℕ × Content)) (n : ℕ) → IsBeginningOf old new → n ≡ length old → cut ≡ take n new → cut ≡ old
cut_back old new cut n g e is = is ∙ ap (λ k. take k new) e ∙ ap (take (length old)) g.1 ∙ take-append_seam old g.0

-- 2. sites in order
module _ (w : World) where
  pub then_all : (env env' : Env) (calls calls' : List O.Call) (s : ℕ) (rest : List ℕ) (b : C.Bound) → bound_view b env' calls' ≡ bind_site w env calls s (slice_get w.sites s) → is_all_bound b ≡ true
      → bind_all w env' calls' rest ≡ bind_all w env calls (s ∷ rest)
  then_all env env' calls calls' s rest All e h = ap (λ z. then_bind z (λ env'' calls''. bind_all w env'' calls'' rest)) e
  then_all env env' calls calls' s rest Failed e h = absurd (false≢true h)
  then_all env env' calls calls' s rest Missing e h = absurd (false≢true h)

  pub not_all : (env env' : Env) (calls calls' : List O.Call) (s : ℕ) (rest : List ℕ) (b : C.Bound) → bound_view b env' calls' ≡ bind_site w env calls s (slice_get w.sites s) → is_all_bound b ≡ false
      → bound_view b env' calls' ≡ bind_all w env calls (s ∷ rest)
  not_all env env' calls calls' s rest All e h = absurd (false≢true (sym h))
  not_all env env' calls calls' s rest Failed e h = ap (λ z. then_bind z (λ env'' calls''. bind_all w env'' calls'' rest)) e
  not_all env env' calls calls' s rest Missing e h = ap (λ z. then_bind z (λ env'' calls''. bind_all w env'' calls'' rest)) e

  here : (env : Env) (calls : List O.Call) (ss : List ℕ) (i s : ℕ) → i < length ss → s ≡ get_or ss i s → bind_all w env calls (drop i ss) ≡ bind_all w env calls (s ∷ drop (i + 1) ss)
  here env calls ss i s h at = at_drop_more (bind_all w env calls) ss i s h ∙ ap (λ k. bind_all w env calls (k ∷ drop (i + 1) ss)) (sym at)

  pub all_more : (env env' : Env) (calls calls' : List O.Call) (ss : List ℕ) (i s : ℕ) (b : C.Bound) (whole : Bound) → i < length ss → s ≡ get_or ss i s → bound_view b env' calls' ≡ bind_site w env calls s (slice_get w.sites s) → is_all_bound b ≡ true
      → bind_all w env calls (drop i ss) ≡ whole → bind_all w env' calls' (drop (i + 1) ss) ≡ whole
  all_more env env' calls calls' ss i s b whole h at e t inv = then_all env env' calls calls' s (drop (i + 1) ss) b e t ∙ sym (here env calls ss i s h at) ∙ inv

  pub all_stopped : (env env' : Env) (calls calls' : List O.Call) (ss : List ℕ) (i s : ℕ) (b : C.Bound) (whole : Bound) → i < length ss → s ≡ get_or ss i s → bound_view b env' calls' ≡ bind_site w env calls s (slice_get w.sites s) → is_all_bound b ≡ false
      → bind_all w env calls (drop i ss) ≡ whole → bound_view b env' calls' ≡ whole
  all_stopped env env' calls calls' ss i s b whole h at e t inv = not_all env env' calls calls' s (drop (i + 1) ss) b e t ∙ sym (here env calls ss i s h at) ∙ inv

  pub all_done : (env : Env) (calls : List O.Call) (ss : List ℕ) (i : ℕ) (whole : Bound) → length ss ≤ i → bind_all w env calls (drop i ss) ≡ whole → all_bound env calls ≡ whole
  all_done env calls ss i whole h inv = sym (at_drop_all (bind_all w env calls) ss i h) ∙ inv
