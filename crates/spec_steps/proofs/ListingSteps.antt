-- Steps of what lists sites that weren't seen.
use Rattle.std.proofs.Common.{◌≡◌, ◌≤◌, ℕ, ◌-◌, true, false, List, [], ◌∷◌, ◌++◌, Option, Some, None, if◌then◌else◌, length, get_or, take, drop, sym, ap, ◌∙◌, arith, append-nil}
use Rattle.std.proofs.lemmas.List.{append_assoc, take_all}
use Rattle.std.specs.Option.{option_map}
use Rattle.model.specs.sites.Sites.{SiteTerm}
use Rattle.model.specs.visits.Demands.{has_site}
use Rattle.model_questions.specs.Steps as S
use Rattle.laws_specs.specs.Words.{Denoted}
use Rattle.spec_cases.specs.declared.literals.Literal.{Literal}
use Rattle.spec_cases.specs.Literals.{literal_view}
use Rattle.spec_cases.specs.Namings.{Naming}
use Rattle.spec_steps.specs.Listing.{sites}
use Rattle.spec_steps.proofs.TellingSteps.{sites_pushed}

module _ (v : Naming) (seen : List ℕ) where
  pub fresh_seen : (l : List ℕ) → 1 ≤ length l → has_site (sites v seen) (v.site (get_or l 0 0)) ≡ true
      → S.fresh (sites v seen) (sites v (take (length l - 1) (drop 1 l))) ≡ S.fresh (sites v seen) (sites v l)
  fresh_seen [] h e = absurd (omega arith)
  fresh_seen (s ∷ l) h e =
      ap (λ r. S.fresh (sites v seen) (sites v r)) (take_all (length (s ∷ l) - 1) l (omega arith))
      ∙ ap (λ b. if b then S.fresh (sites v seen) (sites v l) else v.site s ∷ S.fresh (v.site s ∷ sites v seen) (sites v l)) (sym e)

  pub fresh_new : (l : List ℕ) → 1 ≤ length l → has_site (sites v seen) (v.site (get_or l 0 0)) ≡ false
      → v.site (get_or l 0 0) ∷ S.fresh (v.site (get_or l 0 0) ∷ sites v seen) (sites v (take (length l - 1) (drop 1 l))) ≡ S.fresh (sites v seen) (sites v l)
  fresh_new [] h e = absurd (omega arith)
  fresh_new (s ∷ l) h e =
      ap (λ r. v.site s ∷ S.fresh (v.site s ∷ sites v seen) (sites v r)) (take_all (length (s ∷ l) - 1) l (omega arith))
      ∙ ap (λ b. if b then S.fresh (sites v seen) (sites v l) else v.site s ∷ S.fresh (v.site s ∷ sites v seen) (sites v l)) (sym e)

-- a constant without a value tells nothing
pub where_none : (o : Option Literal) (d : Option Denoted) (ss : List SiteTerm) → o ≡ None → option_map literal_view o ≡ d → S.where_known d ss ≡ []
where_none o d ss e h = ap (λ x. S.where_known x ss) (sym h ∙ ap (option_map literal_view) e)

pub where_some : (o : Option Literal) (x : Literal) (d : Option Denoted) (ss : List SiteTerm) → o ≡ Some x → option_map literal_view o ≡ d → S.where_known d ss ≡ ss
where_some o x d ss e h = ap (λ x. S.where_known x ss) (sym h ∙ ap (option_map literal_view) e)

pub added_none : (v : Naming) (out : List ℕ) (ss : List SiteTerm) → ss ≡ [] → sites v out ≡ sites v out ++ ss
added_none v out ss e = sym (ap (λ l. sites v out ++ l) e ∙ append-nil (sites v out))

pub ruleset fresh_steps = (fresh_seen, fresh_new, sites_pushed, append_assoc)
