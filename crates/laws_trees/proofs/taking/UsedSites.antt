-- What a site that is used holds, from what its sources hold; and two environments that agree on a site's sources bind it alike.
use Rattle.std.proofs.Common.{◌≡◌, ℕ, ◌==◌, true, false, List, [], ◌∷◌, Option, Some, None, slice_get, Contains, refl, sym, ap, ◌∙◌, inl, inr, eqb-true, eq-eqb, arith}
use Rattle.std.proofs.lemmas.Bool.{cases_Bool, cond-true, cond-false, false≢true}
use Rattle.std.proofs.lemmas.Option.{none-some, same_Some}
use Rattle.std.proofs.lemmas.Grind.{common_steps}
use Rattle.model.specs.rules.Values.{Values}
use Rattle.model.specs.rules.Meaning.{Content}
use Rattle.model.specs.rules.Outcome.{Call, then_option}
use Rattle.model.specs.sites.Sites.{Site, int_site, prim_site, argument_site, make_variant_site, make_struct_site, match_tuple_site}
use Rattle.model.specs.trees.Places.{is_in_place}
use Rattle.model.specs.trees.Run.{World, Env, bound_to, part_at, in_place, or_else, used, used_values, Bound, all_bound, unwrap_failed, no_content_there, now_bound, unwrapped, constructed, bind_site, then_bind}
use Rattle.model.specs.rules.Picks.{Pick}
use Rattle.model.specs.trees.Collects.{content_at}
use Rattle.model.proofs.Members.{in_head, in_tail}
use Rattle.laws_trees.proofs.runs.Contents.{SourcesBefore, sources_in, content_layer}

-- 1. what is written in place, from what the sources hold
abbrev pub placed : World → (ℕ → Option Content) → Site → Option Content
placed w f (match_tuple_site source field) = then_option (f source) (λ c. part_at c field)
placed w f b = in_place w [] b

in_place_placed : (w : World) (env : Env) (o : Option Site) → then_option o (in_place w env) ≡ then_option o (placed w (used w env))
in_place_placed w env o = grind (arith, common_steps)

pub used_placed : (w : World) (env : Env) (s : ℕ) → bound_to env s ≡ None → used w env s ≡ then_option (slice_get w.sites s) (placed w (used w env))
used_placed w env s e = ap (λ o. or_else o (then_option (slice_get w.sites s) (in_place w env))) e ∙ in_place_placed w env (slice_get w.sites s)

pub placed_same : (w : World) (f g : ℕ → Option Content) (o : Option Site) → ((u : ℕ) → Contains (sources_in o) u → f u ≡ g u) → then_option o (placed w f) ≡ then_option o (placed w g)
placed_same w f g o h = grind (arith, common_steps, in_head)

pub content_placed : (w : World) (pick : Pick) → SourcesBefore w.sites → (s : ℕ) (o : Option Site) → slice_get w.sites s ≡ o → is_in_place o ≡ true → content_at w pick s ≡ then_option o (placed w (content_at w pick))
content_placed w pick before s None at h = absurd (false≢true h)
content_placed w pick before s (Some (int_site z ty)) at h = content_layer w pick before s (int_site z ty) at
content_placed w pick before s (Some (prim_site name)) at h = content_layer w pick before s (prim_site name) at
content_placed w pick before s (Some (argument_site i)) at h = content_layer w pick before s (argument_site i) at
content_placed w pick before s (Some (make_variant_site ty variant [])) at h = content_layer w pick before s (make_variant_site ty variant []) at
content_placed w pick before s (Some (make_struct_site ty [])) at h = content_layer w pick before s (make_struct_site ty []) at
content_placed w pick before s (Some (match_tuple_site source field)) at h = content_layer w pick before s (match_tuple_site source field) at
content_placed w pick before s (Some _) at h = absurd (false≢true h)

-- 2. one more site is bound
pub bound_here : (env : Env) (s : ℕ) (c : Content) → bound_to ((s, c) ∷ env) s ≡ Some c
bound_here env s c = cond-true (s == s) (Some c) (bound_to env s) (eq-eqb s s refl)

pub bound_elsewhere : (env : Env) (s u : ℕ) (c : Content) → (s ≡ u → ⊥) → bound_to ((s, c) ∷ env) u ≡ bound_to env u
bound_elsewhere env s u c n = cond-false (s == u) (Some c) (bound_to env u) (elim (cases_Bool (s == u)) [ inl t ↦ absurd (n (eqb-true s u t)) | inr f ↦ f ])

pub used_here : (w : World) (env : Env) (s : ℕ) (c : Content) → used w ((s, c) ∷ env) s ≡ Some c
used_here w env s c = ap (λ o. or_else o (then_option (slice_get w.sites s) (in_place w ((s, c) ∷ env)))) (bound_here env s c)

-- what another site is written as in place changes only where it is a part of the new one
in_place_elsewhere : (w : World) (env : Env) (s : ℕ) (c : Content) (o : Option Site) → ((a : ℕ) → Contains (sources_in o) a → s ≡ a → ⊥) → then_option o (in_place w ((s, c) ∷ env)) ≡ then_option o (in_place w env)
in_place_elsewhere w env s c o h = grind (arith, common_steps, bound_elsewhere, in_head)

pub used_elsewhere : (w : World) (env : Env) (s u : ℕ) (c : Content) → (s ≡ u → ⊥) → ((a : ℕ) → Contains (sources_in (slice_get w.sites u)) a → s ≡ a → ⊥) → used w ((s, c) ∷ env) u ≡ used w env u
used_elsewhere w env s u c n h = grind (arith, common_steps, bound_elsewhere, in_place_elsewhere)

-- and what was there stays, where the site wasn't bound
bound_stays : (env : Env) (s u : ℕ) (c x : Content) → bound_to env s ≡ None → bound_to env u ≡ Some x → bound_to ((s, c) ∷ env) u ≡ Some x
bound_stays env s u c x none e = bound_elsewhere env s u c (λ q. none-some x (sym none ∙ ap (bound_to env) q ∙ e)) ∙ e

part_stays : (o : Option Content) (i : ℕ) (x : Content) → then_option o (λ c. part_at c i) ≡ Some x → (y : Content) × (o ≡ Some y) × (part_at y i ≡ Some x)
part_stays o i x e = grind (arith, common_steps, none-some)

in_place_stays : (w : World) (env : Env) (s : ℕ) (c x : Content) (o : Option Site) → bound_to env s ≡ None → then_option o (in_place w env) ≡ Some x → then_option o (in_place w ((s, c) ∷ env)) ≡ Some x
in_place_stays w env s c x o none e = grind (arith, common_steps, part_stays, bound_stays)

either_stays : (o q r t : Option Content) (x : Content) → (o ≡ Some x → q ≡ Some x) → (o ≡ None → q ≡ None) → (r ≡ Some x → t ≡ Some x) → or_else o r ≡ Some x → or_else q t ≡ Some x
either_stays o q r t x there not rest e = grind (arith, common_steps)

pub used_stays : (w : World) (env : Env) (s u : ℕ) (c x : Content) → (s ≡ u → ⊥) → bound_to env s ≡ None → used w env u ≡ Some x → used w ((s, c) ∷ env) u ≡ Some x
used_stays w env s u c x n none e = grind (arith, common_steps, bound_elsewhere, either_stays, in_place_stays)

-- 3. two bindings came equally far: to environments that are related so, or both without success, and with the same calls
abbrev pub AreAlikeBy : (Env → Env → Type 0) → Bound → Bound → Type 0
AreAlikeBy R (all_bound e calls) (all_bound e' calls') = R e e' × (calls ≡ calls')
AreAlikeBy R (unwrap_failed calls) (unwrap_failed calls') = calls ≡ calls'
AreAlikeBy R (no_content_there calls) (no_content_there calls') = calls ≡ calls'
AreAlikeBy R _ _ = ⊥

-- so they go on alike
pub then_alike : (R Q : Env → Env → Type 0) (f g : Env → List Call → Bound) → ((e e' : Env) (calls : List Call) → R e e' → AreAlikeBy Q (f e calls) (g e' calls)) → (b b' : Bound)
    → AreAlikeBy R b b' → AreAlikeBy Q (then_bind b f) (then_bind b' g)
then_alike R Q f g go b b' r = grind (arith, common_steps)

-- bindings of one site, with the same content
abbrev pub WithOneContent : ℕ → Env → Env → Env → Env → Type 0
WithOneContent s env env' e e' = (c : Content) × (e ≡ (s, c) ∷ env) × (e' ≡ (s, c) ∷ env')

abbrev pub AreAlike : ℕ → Env → Env → Bound → Bound → Type 0
AreAlike s env env' b b' = AreAlikeBy (WithOneContent s env env') b b'

module _ (env env' : Env) (s : ℕ) where
  now_alike : (calls : List Call) (o : Option Content) → AreAlike s env env' (now_bound env calls s o) (now_bound env' calls s o)
  now_alike calls o = grind (arith, common_steps)

  unwrapped_alike : (calls : List Call) (o : Option Content) → AreAlike s env env' (unwrapped env calls s o) (unwrapped env' calls s o)
  unwrapped_alike calls o = grind (arith, common_steps)

  -- where the one has a content, the other has it
  pub alike_bound : (calls : List Call) (b : Bound) (c : Content) → AreAlike s env env' b (all_bound ((s, c) ∷ env') calls) → b ≡ all_bound ((s, c) ∷ env) calls
  alike_bound calls b c h = grind (arith, common_steps, same_Some, bound_here)

module _ (w : World) (env env' : Env) (s : ℕ) where
  constructed_alike : (calls : List Call) (term instance : ℕ) (o : Option Values) → AreAlike s env env' (constructed w env calls s term instance o) (constructed w env' calls s term instance o)
  constructed_alike calls term instance o = grind (arith, common_steps)

  values_same : (ss : List ℕ) → ((u : ℕ) → Contains ss u → used w env u ≡ used w env' u) → used_values w env ss ≡ used_values w env' ss
  values_same [] h = refl
  values_same (u ∷ ss) h = grind (arith, common_steps, values_same ss (λ x c. h x (in_tail u x ss c)), in_head, in_tail)

  pub bind_alike : (calls : List Call) (o : Option Site) → ((u : ℕ) → Contains (sources_in o) u → used w env u ≡ used w env' u) → is_in_place o ≡ false
      → AreAlike s env env' (bind_site w env calls s o) (bind_site w env' calls s o)
  bind_alike calls o h n = grind (arith, common_steps, in_head, now_alike, values_same, constructed_alike, unwrapped_alike)
