-- The sites of a small set, place by place.
use Rattle.std.proofs.Common.{◌≡◌, ℕ, pos, Some, slice_get, refl, ap, subst, arith}
use Rattle.std.proofs.lemmas.Grind.{common_steps}
use Rattle.std.proofs.lemmas.Option.{none-some, same_Some}
use Rattle.model.specs.sites.Sites.{Site, int_site}
use Rattle.laws_examples.specs.Fall.{fall_set}
use Rattle.laws_examples.specs.FoundSites.{SitesAreFound}
use Rattle.laws_examples.specs.SetForms.{byte}

-- the number of a literal's site, and 0 of others
abbrev number_in : Site → ℕ
number_in (int_site (pos n) ty) = n
number_in _ = 0

pub sites_are_found : SitesAreFound
sites_are_found = record {
  ten = λ s. (λ e. subst (λ k. slice_get fall_set.sites k ≡ Some (byte 10)) (same_Some 1 s e) refl, (λ h. grind (arith, common_steps, same_Some, none-some)));
  nine = λ s. (λ e. absurd (none-some s e), (λ h. grind (arith, common_steps, same_Some, none-some)));
  ten_is_there = λ f. none-some 1 ((f 1).1 refl);
  ten_not_first = λ f. (let n = ap number_in (same_Some _ _ ((f 0).0 refl)) in omega (arith, n));
}
