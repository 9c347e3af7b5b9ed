-- What is bound of a site that makes no impure call and waits for nothing is its content, where its sources are read.
use Rattle.std.proofs.Common.{◌≡◌, ℕ, zero, suc, List, [], ◌∷◌, Option, Some, slice_get, Contains, false, refl, sym, ap, ◌∙◌, arith}
use Rattle.std.proofs.lemmas.Bool.{false≢true}
use Rattle.std.proofs.lemmas.Grind.{common_steps}
use Rattle.model.specs.rules.Values.{Values, of_variant, of_struct}
use Rattle.model.specs.rules.Meaning.{one}
use Rattle.model.specs.rules.Outcome.{Call, then_option}
use Rattle.model.specs.rules.Picks.{Pick, call_answer, site_values}
use Rattle.model.specs.sites.Sites.{Site, bool_site, int_site, prim_site, argument_site, extractor_site, constructor_site, iterator_site, make_variant_site, match_variant_site, make_struct_site, extract_struct_site, make_some_site, match_some_site, match_tuple_site, each_term, unfold_site, sources_of}
use Rattle.model.specs.trees.Places.{waits}
use Rattle.model.specs.trees.Run.{World, Env, used, used_values, part_at, now_bound, constructed, bind_site}
use Rattle.model.specs.trees.Collects.{content_at, IsPureSite}
use Rattle.model.proofs.Members.{in_head, in_tail}
use Rattle.laws_trees.proofs.runs.Contents.{SourcesBefore, content_layer}

module _ (w : World) (k : Pick) (before : SourcesBefore w.sites) (e : Env) where
  abbrev pub ReadAll : List ℕ → Type 0
  ReadAll ss = (u : ℕ) → Contains ss u → used w e u ≡ content_at w k u

  pub values_read : (ss : List ℕ) → ReadAll ss → used_values w e ss ≡ site_values w.meaning w.args k (each_term (unfold_site w.sites) ss)
  values_read [] h = refl
  values_read (s ∷ ss) h = grind (arith, common_steps, values_read ss (λ u c. h u (in_tail s u ss c)), in_head, in_tail)

  constructed_now : (calls : List Call) (s t : ℕ) (o : Option Values) → constructed w e calls s t 0 o ≡ now_bound e calls s (then_option o (call_answer w.meaning t 0))
  constructed_now calls s t o = grind (arith, common_steps)

  pub binds_content : (calls : List Call) (s : ℕ) (b : Site) → slice_get w.sites s ≡ Some b → waits (Some b) ≡ false → IsPureSite b → ReadAll (sources_of b)
      → bind_site w e calls s (Some b) ≡ now_bound e calls s (content_at w k s)
  binds_content calls s (bool_site x ty) at n p h = ap (now_bound e calls s) (sym (content_layer w k before s (bool_site x ty) at))
  binds_content calls s (int_site z ty) at n p h = ap (now_bound e calls s) (sym (content_layer w k before s (int_site z ty) at))
  binds_content calls s (prim_site name) at n p h = ap (now_bound e calls s) (sym (content_layer w k before s (prim_site name) at))
  binds_content calls s (argument_site i) at n p h = ap (now_bound e calls s) (sym (content_layer w k before s (argument_site i) at))
  binds_content calls s (extractor_site term source) at n p h = grind (arith, common_steps, in_head source [], content_layer w k before s (extractor_site term source) at)
  binds_content calls s (constructor_site term sources zero) at n p h =
      ap (constructed w e calls s term 0) (values_read sources h)
      ∙ constructed_now calls s term (site_values w.meaning w.args k (each_term (unfold_site w.sites) sources))
      ∙ ap (now_bound e calls s) (sym (content_layer w k before s (constructor_site term sources 0) at))
  binds_content calls s (constructor_site term sources (suc instance)) at n p h = absurd p
  binds_content calls s (make_variant_site ty variant fields) at n p h =
      ap (λ o. now_bound e calls s (then_option o (λ vs. Some (one (of_variant ty variant vs))))) (values_read fields h)
      ∙ ap (now_bound e calls s) (sym (content_layer w k before s (make_variant_site ty variant fields) at))
  binds_content calls s (make_struct_site ty fields) at n p h =
      ap (λ o. now_bound e calls s (then_option o (λ vs. Some (one (of_struct ty vs))))) (values_read fields h)
      ∙ ap (now_bound e calls s) (sym (content_layer w k before s (make_struct_site ty fields) at))
  binds_content calls s (make_some_site source) at n p h = grind (arith, common_steps, in_head source [], content_layer w k before s (make_some_site source) at)
  binds_content calls s (match_tuple_site source field) at n p h =
      ap (λ o. now_bound e calls s (then_option o (λ c. part_at c field))) (h source (in_head source []))
      ∙ ap (now_bound e calls s) (sym (content_layer w k before s (match_tuple_site source field) at))
  binds_content calls s (iterator_site source) at n p h = absurd (false≢true (sym n))
  binds_content calls s (match_variant_site source variant field) at n p h = absurd (false≢true (sym n))
  binds_content calls s (extract_struct_site source field) at n p h = absurd (false≢true (sym n))
  binds_content calls s (match_some_site source) at n p h = absurd (false≢true (sym n))
