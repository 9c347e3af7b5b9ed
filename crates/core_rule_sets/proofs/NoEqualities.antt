-- Where no sites must be equal, nothing is reported: a site is equal to itself alone and asked one thing, and fields lie deeper than their sites.
use Rattle.std.proofs.Common.{◌≡◌, ℕ, suc, ◌<◌, ◌≤◌, List, [], ◌∷◌, Contains, length, sum_by, refl, sym, ap, ◌∙◌, inl, inr, arith}
use Rattle.std.specs.Prelude.{nat_eq}
use Rattle.std.proofs.lemmas.Bool.{cases_Bool, false≢true}
use Rattle.std.proofs.lemmas.List.Elements.{All-head}
use Rattle.std.proofs.lemmas.List.Sums.{sum_by-cons}
use Rattle.std.proofs.lemmas.Grind.{common_steps}
use Rattle.core_containers.specs.Partition.{IsPartition, together}
use Rattle.laws_sites.specs.ClosureLaws.{RespectsDemands}
use Rattle.laws_sites.proofs.Classes.{classes_bound}
use Rattle.laws_sites.proofs.Reports.{conflict_free_constraints_agree_lem, reports_are_exact_lem}
use Rattle.model.specs.sites.Sites.{Site, Constraint, is_variant, is_struct, is_bool, is_int, is_prim, is_present, SiteTerm, variant_field, struct_field, field_terms}
use Rattle.model.specs.visits.Demands.{Demands, site_term_eq}
use Rattle.model.specs.sites.Closure.{Joined, IsPartOf, IsProperPart, directly, deeper, IsUnreachable, two_at_a_site, two_in_a_class, part_of_itself, conflicts_met, reported}
use Rattle.model.proofs.Elements.{In, in_from_contains, some_is}
use Rattle.model.proofs.SameSites.{term_means}
use Rattle.core_rule_sets.specs.Verdicts.{AreVisited}
use Rattle.core_rule_sets.specs.declared.demanded.Demanded.{Demanded}
use Rattle.core_rule_sets.proofs.EqualFields.{equality_numbers}
use Rattle.core_rule_sets.proofs.ListedParts.{in_field}
use Rattle.core_rule_sets.proofs.NotedSites.{none_together}

-- sets of two sites or more that have no site are none
pub no_sets : (sets : List (List ℕ)) → IsPartition nat_eq sets → sum_by length sets ≡ 0 → sets ≡ []
no_sets [] p e = refl
no_sets (s ∷ ss) p e = let two : 2 ≤ length s = All-head (λ (x : List ℕ). 2 ≤ length x) s ss p.plural in let all = sum_by-cons length s ss in absurd (omega (arith, two, e, all))

-- how deep a site lies as a field
depth : SiteTerm → ℕ
depth (variant_field s variant i) = suc (depth s)
depth (struct_field s i) = suc (depth s)
depth s = 0

field_deeper : (c : Constraint) (s x : SiteTerm) → In (field_terms c s) x → depth x ≡ suc (depth s)
unfolding depth
field_deeper (is_variant ty variant n) s x i = ap depth (in_field (variant_field s variant) 0 n x i).2
field_deeper (is_struct ty n) s x i = ap depth (in_field (struct_field s) 0 n x i).2
field_deeper (is_bool b ty) s x i = absurd i
field_deeper (is_int z ty) s x i = absurd i
field_deeper (is_prim name) s x i = absurd i
field_deeper is_present s x i = absurd i

-- demands that hold no equality of two sites, and met no conflict
module _ (d : Demands) (alone : (a b : SiteTerm) → Contains d.equalities (a, b) → a ≡ b) (agreed : conflicts_met [] d.constraints ≡ []) where
  each_by_itself : RespectsDemands d (λ s. s)
  each_by_itself = grind (arith, common_steps, alone, some_is)

  same_site : (a b : SiteTerm) → Joined d a b → a ≡ b
  same_site = classes_bound d (λ s. s) each_by_itself

  part_deeper : (s t : SiteTerm) → IsPartOf d s t → depth s ≡ suc (depth t)
  part_deeper s t p =
      ap depth (sym (same_site p.field s p.in_class))
      ∙ field_deeper p.constraint p.whole p.field (in_from_contains (field_terms p.constraint p.whole) p.field p.there)
      ∙ ap (λ u. suc (depth u)) (same_site p.whole t p.of_class)

  proper_deeper : (s t : SiteTerm) → IsProperPart d s t → depth t < depth s
  proper_deeper s t (directly p) = let e = part_deeper s t p in omega (arith, e)
  proper_deeper s u (deeper {t = t} p q) = let e = part_deeper s t p in let l = proper_deeper t u q in omega (arith, e, l)

  one_constraint : (s : SiteTerm) (a b : Constraint) → Contains d.constraints (s, a) → Contains d.constraints (s, b) → a ≡ b
  one_constraint = (conflict_free_constraints_agree_lem d).0 agreed

  can_be_met : IsUnreachable d → ⊥
  can_be_met (two_at_a_site s a b i j differ) = differ (one_constraint s a b i j)
  can_be_met (two_in_a_class s a b h k differ) = grind (arith, common_steps, one_constraint s a b, same_site h.source s h.joined, same_site k.source s k.joined)
  can_be_met (part_of_itself s p) = let l = proper_deeper s s p in absurd (omega (arith, l))

  none_unmet : (order : List SiteTerm) → reported order d ≡ []
  none_unmet order = (reports_are_exact_lem order d).1 can_be_met

module _ (sites : List Site) (before : List SiteTerm) (d : Demands) (h : Demanded) (v : AreVisited sites before d h) (none : h.equals ≡ []) where
  alone : (a b : SiteTerm) → Contains d.equalities (a, b) → a ≡ b
  alone a b i =
      elim (cases_Bool (site_term_eq a b)) [
        | inl t ↦ term_means a b t
        | inr f ↦
            let n = equality_numbers sites before d h v a b (in_from_contains d.equalities (a, b) i) f in
            absurd (false≢true (sym (none_together n.first n.second) ∙ ap (λ sets. together nat_eq sets n.first n.second) (sym none) ∙ n.equal))
      ]

  pub none_reported : (order : List SiteTerm) → reported order d ≡ []
  none_reported = none_unmet d alone v.agreed
