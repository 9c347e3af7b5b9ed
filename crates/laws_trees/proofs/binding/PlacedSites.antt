-- What a site of a built set is made of that is written in place isn't written in place itself.
use Rattle.std.proofs.Common.{◌≡◌, ℕ, suc, true, false, [], ◌∷◌, length, Option, Some, None, slice_get, Contains, refl, subst, inl, inr, arith}
use Rattle.std.proofs.lemmas.Bool.{cases_Bool, false≢true}
use Rattle.std.proofs.lemmas.Option.{slice_get_within}
use Rattle.std.proofs.lemmas.Grind.{common_steps}
use Rattle.model.specs.rules.Program.{Program, arg_types}
use Rattle.model.specs.sites.Sites.{Site, int_site, prim_site, argument_site, make_variant_site, make_struct_site, match_tuple_site, SiteSet, SiteTerm, layer, unfold_site}
use Rattle.model.specs.trees.Places.{is_in_place}
use Rattle.model.proofs.Members.{nothing_in, in_alone}
use Rattle.laws_typing.specs.WellTypedPrograms.{IsWellTypedProgram}
use Rattle.laws_sites.proofs.built.BuiltSets.{BuiltSet}
use Rattle.laws_trees.proofs.runs.Contents.{sources_in, unfolded_layer}
use Rattle.laws_trees.proofs.taken.BuiltSites.{sites_stand}
use Rattle.laws_trees.proofs.taken.Forms.{Form, form, a_value, IsOfForm}
use Rattle.laws_trees.proofs.binding.Scope.{PlacesApart}

-- what is written in place is one value
placed_value : (p : Program) (n : ℕ) (f : ℕ → SiteTerm) (b : Site) (q : Form) → is_in_place (Some b) ≡ true → IsOfForm p n (layer f b) q → q ≡ a_value
placed_value p n f b q h g = grind (arith, common_steps)

module _ (b : BuiltSet) (h : IsWellTypedProgram b.program) where
  abbrev p : Program
  p = b.program

  abbrev set : SiteSet
  set = b.set

  abbrev n : ℕ
  n = length (arg_types p b.term)

  several : (source : ℕ) (o : Option Site) (k : ℕ) → slice_get set.sites source ≡ o → is_in_place o ≡ true → IsOfForm p n (unfold_site set.sites source) (form false false (suc (suc k))) → ⊥
  several source o k at i f = grind (arith, common_steps, placed_value, form, unfolded_layer)

  of_tuple : (s source field : ℕ) → slice_get set.sites s ≡ Some (match_tuple_site source field) → is_in_place (slice_get set.sites source) ≡ false
  of_tuple s source field at =
      let g = (sites_stand b h s (slice_get_within set.sites s (match_tuple_site source field) at)).form in
      let f = subst (λ u. IsOfForm p n u g.0) (unfolded_layer set.sites b.built.sources s (match_tuple_site source field) at) g.1 in
      elim (cases_Bool (is_in_place (slice_get set.sites source))) [
        | inl i ↦ absurd (several source (slice_get set.sites source) f.0 refl i f.1)
        | inr k ↦ k
      ]

  by_site : (s a : ℕ) (o : Option Site) → slice_get set.sites s ≡ o → is_in_place o ≡ true → Contains (sources_in o) a → is_in_place (slice_get set.sites a) ≡ false
  by_site s a (Some (match_tuple_site source field)) at i c = subst (λ x. is_in_place (slice_get set.sites x) ≡ false) (in_alone source a c) (of_tuple s source field at)
  by_site s a (Some (int_site z ty)) at i c = absurd (nothing_in a c)
  by_site s a (Some (prim_site name)) at i c = absurd (nothing_in a c)
  by_site s a (Some (argument_site k)) at i c = absurd (nothing_in a c)
  by_site s a (Some (make_variant_site ty variant [])) at i c = absurd (nothing_in a c)
  by_site s a (Some (make_variant_site ty variant (x ∷ xs))) at i c = absurd (false≢true i)
  by_site s a (Some (make_struct_site ty [])) at i c = absurd (nothing_in a c)
  by_site s a (Some (make_struct_site ty (x ∷ xs))) at i c = absurd (false≢true i)
  by_site s a (Some _) at i c = absurd (false≢true i)
  by_site s a None at i c = absurd (false≢true i)

  pub places_apart : PlacesApart set.sites
  places_apart s a i c = by_site s a (slice_get set.sites s) refl i c
