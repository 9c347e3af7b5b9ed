-- Which limit is met first of a rule, and that sites which are too many stay the first of these.
use Rattle.std.proofs.Common.{◌≡◌, ◌<◌, ◌≤◌, List, [], ◌∷◌, ◌++◌, length, refl, sym, ap, ◌∙◌, subst, inl, inr, arith}
use Rattle.std.proofs.lemmas.Bool.{cases_Bool, cond-true, le-ltb, lt-ltb}
use Rattle.std.proofs.lemmas.List.{append-nil, append_assoc}
use Rattle.model.specs.sites.Sites.{SiteTerm}
use Rattle.model.specs.visits.Demands.{has_site, with_sites}
use Rattle.model.specs.sites.Limits.{most_sites}
use Rattle.laws_sites.specs.LimitLaws.{FullSitesStay, LimitsAreMet, first_sites}
use Rattle.std.proofs.lemmas.List.{length-append, take-append-le}
use Rattle.std.proofs.lemmas.Grind.{common_steps}

pub limits_are_met_lem : LimitsAreMet
limits_are_met_lem p before r = grind (arith, common_steps, lt-ltb, le-ltb)

-- sites stay first where others are made
grown : (ts xs : List SiteTerm) → (rest : List SiteTerm) × (with_sites ts xs ≡ ts ++ rest)
grown ts [] = ([], sym (append-nil ts))
grown ts (x ∷ xs) =
    elim (cases_Bool (has_site ts x)) [
      | inl t ↦ let g = grown ts xs in (g.0, ap (λ l. with_sites l xs) (cond-true (has_site ts x) ts (ts ++ x ∷ []) t) ∙ g.1)
      | inr f ↦ grind (arith, common_steps, grown (ts ++ x ∷ []) xs, append_assoc ts (x ∷ []))
    ]

made_more : (ts xs ys : List SiteTerm) → with_sites ts (xs ++ ys) ≡ with_sites (with_sites ts xs) ys
made_more ts [] ys = refl
made_more ts (x ∷ xs) ys = grind (arith, common_steps, made_more ts xs ys, made_more (ts ++ x ∷ []) xs ys)

pub full_sites_stay_lem : FullSitesStay
full_sites_stay_lem before made more many =
    let w = with_sites before made in
    let g = grown w more in
    let same = made_more before made more ∙ g.1 in
    let few : most_sites ≤ length w = omega (arith, many) in
    let longer = length-append w g.0 in (
      ap first_sites same ∙ take-append-le most_sites w g.0 few,
      subst (λ l. most_sites < length l) (sym same) (omega (arith, many, longer)),
    )
