-- What a run has bound holds its content, and a bind order of available sites binds them all.
use Rattle.std.proofs.Common.{◌≡◌, ◌⊎◌, ℕ, zero, suc, ◌==◌, true, false, List, [], ◌∷◌, Option, Some, None, is_some, slice_get, Contains, IsTrue, flat_map, sym, ap, ◌∙◌, subst, inl, inr, eqb-true, eq-eqb, arith}
use Rattle.std.proofs.lemmas.Bool.{cases_Bool, cond-true, cond-false, false≢true}
use Rattle.std.proofs.lemmas.Option.{none-some, same_Some}
use Rattle.std.proofs.lemmas.Grind.{common_steps}
use Rattle.model.specs.rules.Values.{Value, Values}
use Rattle.model.specs.rules.Meaning.{Content, parts}
use Rattle.model.specs.rules.Outcome.{Call, then_option}
use Rattle.model.specs.sites.Sites.{Site, int_site, prim_site, argument_site, make_variant_site, make_struct_site, match_tuple_site, sources_at}
use Rattle.model.specs.trees.Places.{waits, is_in_place, below}
use Rattle.model.specs.trees.Run.{World, Env, bound_to, from_value, part_at, in_place, used, all_bound, now_bound, bind_site}
use Rattle.model.specs.rules.Picks.{Pick}
use Rattle.model.specs.trees.Collects.{content_at, IsPureSite, IsPureAt}
use Rattle.model.proofs.Members.{nothing_in, in_head, in_cases, from_flat_map}
use Rattle.laws_trees.proofs.runs.Contents.{SourcesBefore, sources_in, content_layer}
use Rattle.laws_trees.proofs.runs.PureBindings.{binds_content}

-- 1. the sites of a kind have contents under a pick, those that are not written in place are bound to them, and nothing else
-- is bound
pub record Held (w : World) (pick : Pick) (env : Env) (Kept : ℕ → Type 0) : Type 0 where
  pub there : (t : ℕ) → Kept t → (c : Content) × (content_at w pick t ≡ Some c)
  pub bound : (t : ℕ) → Kept t → is_in_place (slice_get w.sites t) ≡ false → bound_to env t ≡ content_at w pick t
  pub right : (t : ℕ) (c : Content) → bound_to env t ≡ Some c → Kept t × (content_at w pick t ≡ Some c)
  pub closed : (t u : ℕ) → Kept t → Contains (sources_at w.sites t) u → Kept u

pub held_as : (w : World) (pick : Pick) (env : Env) (P Q : ℕ → Type 0) → ((t : ℕ) → P t → Q t) → ((t : ℕ) → Q t → P t) → Held w pick env P → Held w pick env Q
held_as w pick env P Q there back h = grind (arith, common_steps)

-- what is below a site of the kind
pub kept_below : (w : World) (pick : Pick) (env : Env) (Kept : ℕ → Type 0) → Held w pick env Kept → (n s t : ℕ) → Kept s → Contains (below n w.sites s) t → Kept t
kept_below w pick env Kept h zero s t k c = absurd (nothing_in t c)
kept_below w pick env Kept h (suc n) s t k c =
    elim (in_cases s t (flat_map (below n w.sites) (sources_at w.sites s)) c) [
      | inl e ↦ subst Kept e k
      | inr d ↦ let r = from_flat_map (below n w.sites) (sources_at w.sites s) t d in kept_below w pick env Kept h n r.0 t (h.closed s r.0 k r.1) r.2
    ]

pub content_of : (o : Option Content) → IsTrue (is_some o) → (c : Content) × (o ≡ Some c)
content_of o h = grind (arith, common_steps)

single_value : (o : Option Value) (vs : Values) → from_value o ≡ Some (parts vs) → ⊥
single_value o vs e = grind (arith, common_steps, none-some)

single_part : (o : Option Content) (i : ℕ) (vs : Values) → then_option o (λ c. part_at c i) ≡ Some (parts vs) → ⊥
single_part o i vs e = grind (arith, common_steps, none-some)

-- a tuple part is of parts
of_parts : (o : Option Content) (i : ℕ) (c : Content) → then_option o (λ x. part_at x i) ≡ Some c → (vs : Values) × (o ≡ Some (parts vs))
of_parts o i c e = grind (arith, common_steps, none-some)

module _ (w : World) (pick : Pick) (before : SourcesBefore w.sites) where
  -- the content of each site that is written in place can be read from what its source is bound to
  abbrev PartsBound : Env → Option Site → Type 0
  PartsBound env o = (source : ℕ) (vs : Values) → Contains (sources_in o) source → content_at w pick source ≡ Some (parts vs) → bound_to env source ≡ content_at w pick source

  read_in_place : (env : Env) (s : ℕ) (o : Option Site) (c : Content) → slice_get w.sites s ≡ o → is_in_place o ≡ true → PartsBound env o → content_at w pick s ≡ Some c
      → then_option o (in_place w env) ≡ content_at w pick s
  read_in_place env s None c at h p e = absurd (false≢true h)
  read_in_place env s (Some (int_site z ty)) c at h p e = sym (content_layer w pick before s (int_site z ty) at)
  read_in_place env s (Some (prim_site name)) c at h p e = sym (content_layer w pick before s (prim_site name) at)
  read_in_place env s (Some (argument_site i)) c at h p e = sym (content_layer w pick before s (argument_site i) at)
  read_in_place env s (Some (make_variant_site ty variant [])) c at h p e = sym (content_layer w pick before s (make_variant_site ty variant []) at)
  read_in_place env s (Some (make_struct_site ty [])) c at h p e = sym (content_layer w pick before s (make_struct_site ty []) at)
  read_in_place env s (Some (match_tuple_site source field)) c at h p e =
      let l = content_layer w pick before s (match_tuple_site source field) at in
      let q = of_parts (content_at w pick source) field c (sym l ∙ e) in
      ap (λ o. then_option o (λ x. part_at x field)) (p source q.0 (in_head source []) q.1) ∙ sym l
  read_in_place env s (Some _) c at h p e = absurd (false≢true h)

  -- 2. what is kept can be read
  module _ (env : Env) (Kept : ℕ → Type 0) (held : Held w pick env Kept) where
    parts_kept : (s : ℕ) → Kept s → PartsBound env (slice_get w.sites s)
    parts_kept s k source vs c e = grind (arith, common_steps, single_value, content_layer, single_part)

    pub reads : (s : ℕ) → Kept s → used w env s ≡ content_at w pick s
    reads s k = grind (arith, common_steps, read_in_place env s (slice_get w.sites s), parts_kept s k, none-some)

    -- 3. and what is made of it can be bound
    pub binds_now : (calls : List Call) (s : ℕ) (o : Option Site) (c : Content) → slice_get w.sites s ≡ o → waits o ≡ false → IsPureAt w.sites s
        → ((u : ℕ) → Contains (sources_in o) u → Kept u) → content_at w pick s ≡ Some c → bind_site w env calls s o ≡ all_bound ((s, c) ∷ env) calls
    binds_now calls s None c at h p k e = absurd (false≢true (sym h))
    binds_now calls s (Some b) c at h p k e =
        binds_content w pick before env calls s b at h (subst IsPureSite (same_Some p.0 b (sym p.1 ∙ at)) p.2) (λ u i. reads u (k u i))
        ∙ ap (now_bound env calls s) e

    -- one more site is kept
    pub keeps_bound : (s : ℕ) (c : Content) → content_at w pick s ≡ Some c → ((u : ℕ) → Contains (sources_at w.sites s) u → Kept u) → Held w pick ((s, c) ∷ env) (λ t. Kept t ⊎ (s ≡ t))
    keeps_bound s c e sources = record {
      there = λ t k. elim k [ inl a ↦ held.there t a | inr q ↦ subst (λ x. (y : Content) × (content_at w pick x ≡ Some y)) q (c, e) ];
      bound = λ t k n. elim (cases_Bool (s == t)) [
        | inl q ↦ cond-true (s == t) (Some c) (bound_to env t) q ∙ sym e ∙ ap (content_at w pick) (eqb-true s t q)
        | inr q ↦ elim k [
          | inl a ↦ cond-false (s == t) (Some c) (bound_to env t) q ∙ held.bound t a n
          | inr x ↦ absurd (false≢true (sym q ∙ eq-eqb s t x))
        ]
      ];
      right = λ t x b. elim (cases_Bool (s == t)) [
        | inl q ↦ (inr (eqb-true s t q), ap (content_at w pick) (sym (eqb-true s t q)) ∙ e ∙ sym (cond-true (s == t) (Some c) (bound_to env t) q) ∙ b)
        | inr q ↦ let r = held.right t x (sym (cond-false (s == t) (Some c) (bound_to env t) q) ∙ b) in (inl r.0, r.1)
      ];
      closed = λ t u k x. elim k [ inl a ↦ inl (held.closed t u a x) | inr q ↦ inl (sources u (subst (λ y. Contains (sources_at w.sites y) u) (sym q) x)) ];
    }

    pub keeps_in_place : (s : ℕ) (c : Content) → content_at w pick s ≡ Some c → is_in_place (slice_get w.sites s) ≡ true → ((u : ℕ) → Contains (sources_at w.sites s) u → Kept u) → Held w pick env (λ t. Kept t ⊎ (s ≡ t))
    keeps_in_place s c e p sources = record {
      there = λ t k. elim k [ inl a ↦ held.there t a | inr q ↦ subst (λ x. (y : Content) × (content_at w pick x ≡ Some y)) q (c, e) ];
      bound = λ t k n. elim k [ inl a ↦ held.bound t a n | inr q ↦ absurd (false≢true (sym n ∙ ap (λ x. is_in_place (slice_get w.sites x)) (sym q) ∙ p)) ];
      right = λ t x b. let r = held.right t x b in (inl r.0, r.1);
      closed = λ t u k x. elim k [ inl a ↦ inl (held.closed t u a x) | inr q ↦ inl (sources u (subst (λ y. Contains (sources_at w.sites y) u) (sym q) x)) ];
    }
