-- A meaning that serves the rules of a term answers the sites of each of them, under its picks.
use Rattle.std.proofs.Common.{◌≡◌, ℕ, ◌<◌, Bool, true, false, List, [], ◌∷◌, map, length, Option, Some, slice_get, IsSomeAnd, Contains, IsTrue, flat_map, sym, ap, subst, ◌∙◌, inl, inr, arith}
use Rattle.std.proofs.lemmas.Bool.{cases_Bool, cond-true, cond-false}
use Rattle.std.proofs.lemmas.Grind.{common_steps}
use Rattle.model.specs.rules.Values.{Value, well_typed}
use Rattle.model.specs.rules.Meaning.{Content, many, Contents, contents, Meaning, bool_literal, int_literal, literal_value, constant_value, extractor_answer, pure_answer}
use Rattle.model.specs.rules.Outcome.{then_option}
use Rattle.model.specs.rules.Program.{Program, kind}
use Rattle.model.specs.rules.Typed.{TypedRule}
use Rattle.model.specs.rules.Picks.{Pick, place_of, picked, site_content, IsPick}
use Rattle.model.specs.sites.Sites.{SiteTerm, bool_term, int_term, prim_term, extractor_call, constructor_call, pick_of}
use Rattle.model.specs.visits.Demands.{demands_of, site_term_eq}
use Rattle.model.specs.sites.Serves.{asked_by, asked, constant_site, constant_type, typed_as, fits_extractor, fits_constructor, Serves}
use Rattle.model.proofs.Elements.{In, in_from_contains, contains_from_in, in_left, in_flat_map}
use Rattle.model.proofs.SameSites.{term_means, same_term}
use Rattle.model.proofs.Members.{get_within}
use Rattle.laws_sites.proofs.Classes.{in_with_sites}
use Rattle.laws_trees.proofs.Contents.{Given, content_of, IsValueOf, Fits, IsAnswered}

-- what is there
value_there : (g : Given) (ty : ℕ) (o : Option Value) → IsSomeAnd o (λ v. IsTrue (well_typed g.program.types ty v)) → IsValueOf g ty o
value_there g ty o h = grind (arith, common_steps)

constant_value_there : (g : Given) (ty : ℕ) (t : Option ℕ) (o : Option Value) → t ≡ Some ty → IsSomeAnd o (λ v. IsTrue (typed_as g.program t v)) → IsValueOf g ty o
constant_value_there g ty t o e h = value_there g ty o (subst (λ u. IsSomeAnd o (λ v. IsTrue (typed_as g.program u v))) e h)

pub fits_there : (o : Option Content) (f : Content → Bool) → IsSomeAnd o (λ c. IsTrue (f c)) → Fits o f
fits_there o f h = grind (arith, common_steps)

-- a pick gives each of its calls a place
place_there : (k : Pick) (call : SiteTerm) → In (map (λ e. e.0) k) call → (n : ℕ) × (place_of k call ≡ Some n) × In k (call, n)
place_there [] call i = absurd i
place_there (e ∷ k) call i =
    elim (cases_Bool (site_term_eq e.0 call)) [
      | inl t ↦ let same = term_means e.0 call t in (e.1, cond-true (site_term_eq e.0 call) (Some e.1) (place_of k call) t, inl (λ j. (same j, e.1)))
      | inr f ↦
          let r = place_there k call (later i f) in
          (r.0, cond-false (site_term_eq e.0 call) (Some e.1) (place_of k call) f ∙ r.1, inr r.2)
    ]
  where
    later : In (map (λ e. e.0) (e ∷ k)) call → site_term_eq e.0 call ≡ false → In (map (λ e. e.0) k) call
    later (inl q) f = absurd (false_true (sym f ∙ same_term e.0 call q))
      where
        false_true : false ≡ true → ⊥
        false_true h = cc
    later (inr j) f = j

module _ (g : Given) (r : TypedRule) where
  abbrev p : Program
  p = g.program

  abbrev m : Meaning
  m = g.meaning

  abbrev args : List Value
  args = g.args

  abbrev k : Pick
  k = g.pick

  module _ (pick : IsPick p m args r k) where
    -- where a call that is gone over has its place
    record IsTaken (call : SiteTerm) : Type 0 where
      place : ℕ
      here : place_of k call ≡ Some place
      answers : Contents
      list : content_of g call ≡ Some (many answers)
      few : place < length (contents answers)

    call_taken : (call : SiteTerm) → In (demands_of p r).iterators call → IsTaken call
    call_taken call i =
        let a = place_there k call (subst (λ l. In l call) (sym pick.calls) (in_with_sites [] (demands_of p r).iterators call (inr i))) in
        let b = pick.places call a.0 (contains_from_in k (call, a.0) a.2) in
        record { place = a.0; here = a.1; answers = b.0; list = b.1; few = b.2 }

    pub call_lists : (call : SiteTerm) → Contains (demands_of p r).iterators call → (cs : Contents) × (site_content m args k call ≡ Some (many cs))
    call_lists call i = let t = call_taken call (in_from_contains (demands_of p r).iterators call i) in (t.answers, t.list)

    call_picked : (call : SiteTerm) → In (demands_of p r).iterators call → (c : Content) × (content_of g (pick_of call) ≡ Some c)
    call_picked call i =
        let t = call_taken call i in
        let e = get_within (contents t.answers) t.place t.few in
        (e.0, ap (λ o. then_option o (picked k call)) t.list ∙ ap (λ o. then_option o (slice_get (contents t.answers))) t.here ∙ e.1)

    pub is_answered : (rs : List TypedRule) → Serves p m args rs → Contains rs r → IsAnswered g (demands_of p r)
    is_answered rs h c = record {
      bools = λ b ty i. value_there g ty (literal_value m (bool_literal b ty)) (h.bools b ty (ask (bool_term b ty) i));
      ints = λ z ty i. value_there g ty (literal_value m (int_literal z ty)) (h.ints z ty (ask (int_term z ty) i));
      prims = λ name ty i e. constant_value_there g ty (constant_type p name) (constant_value m name) e (h.prims name (ask (prim_term name) i));
      extractors = λ t s v i e. fits_there (extractor_answer m t v) (fits_extractor p t (kind p t)) (h.extractors k t s v (ask (extractor_call t s) i) e);
      pures = λ t ss vs i e.
          fits_there (pure_answer m t vs) (fits_constructor p t (kind p t))
          (h.pures k t ss vs (ask (constructor_call t ss 0) i) e);
      picks = call_picked;
    }
      where
        ask : (u : SiteTerm) → In (demands_of p r).made u → Contains (asked p rs) u
        ask u i =
            contains_from_in (asked p rs) u
            (in_flat_map (λ (q : TypedRule). asked_by (demands_of p q)) rs r u (in_from_contains rs r c)
            (in_left (demands_of p r).made (flat_map (λ (x : SiteTerm × _). constant_site x.1) (demands_of p r).constraints) u i))
